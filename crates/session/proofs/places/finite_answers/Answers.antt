-- `session::places::finite_answers` meets its contract. Assumes nothing.
use Rattle.std.proofs.Common.{◌/◌, ◌≡◌, refl, Bool, List, Float, min, length, take, arith, rules}
use Rattle.std.proofs.lemmas.Iterator.{YieldsList-from_slice}
use Rattle.std.proofs.lemmas.Iterator.Search.{all_from_yields_List}
use Rattle.evaluation.specs.Evaluation.{all_finite}
use Rattle.session.proofs.Blank.{finite_answers}
use Rattle.session.proofs.places.finite_answers.Goals as goal

pub returns : goal.returns
returns c =
    let each : List Float → Bool = λ row. all_finite (take (min c.args.n 16) row) in
    let e = all_from_yields_List each _ _ c.all.result c.all.ensures.ran (YieldsList-from_slice c.as_chunks.result.0.now (cc)) (λ x b q k. search rules) in
    let r : length c.split_at.result.0.now / 16 ≡ c.min.result = omega (arith, c.split_at.ensures.front_len) in
    rw (e, c.as_chunks.ensures.front, r, c.split_at.ensures.front) (finite_answers c.args.x.now c.args.count c.args.n c.min.result _ (omega arith) c.min.ensures refl c.requires)
