-- `session::places::clear_answers` meets its contract. Assumes nothing.
use Rattle.std.proofs.Common.{◌/◌, ◌≡◌, length, arith, rules}
use Rattle.std.proofs.lemmas.Iterator.{YieldsList-from_slice}
use Rattle.std.proofs.lemmas.Iterator.Search.{all_from_yields_List}
use Rattle.session.specs.Session.{clear}
use Rattle.session.proofs.Blank.{answers_by_rows}
use Rattle.session.proofs.places.clear_answers.Goals as goal

pub returns : goal.returns
returns c =
    let e = all_from_yields_List (clear c.args.n) _ _ c.all.result c.all.ensures.ran (YieldsList-from_slice c.as_chunks.result.0.now (cc)) (λ x b q k. search rules) in
    let r : length c.split_at.result.0.now / 16 ≡ c.min.result = omega (arith, c.split_at.ensures.front_len) in
    rw (e, c.blank.ensures, c.as_chunks.ensures.front, r, c.split_at.ensures.front, c.split_at.ensures.back)
    (answers_by_rows c.args.x.now c.args.count c.args.n c.min.result (omega arith) c.min.ensures)
