-- `table::table_ok` meets its contract. Assumes nothing.
use Rattle.std.proofs.Common.{rules, refl, ◌∙◌, ℕ, Bool, length, ◌/◌}
use Rattle.std.proofs.lemmas.Iterator.{YieldsList-from_range}
use Rattle.std.proofs.lemmas.Iterator.Search.{all_from_yields_List}
use Rattle.loops.proofs.Ranges.{all_range}
use Rattle.table.specs.Table.{length_ok, records, record_ok, table_ok}
use Rattle.table.proofs.table_ok.Goals as goal

pub returns-then-bytes-records : goal.returns-then-bytes-records
unfolding table_ok length_ok records
returns-then-bytes-records c =
    let t = c.args.bytes.now in
    let test : ℕ → Bool = record_ok c.args.n t in
    let each =
    all_from_yields_List test _ _ _ c.all.ensures.ran (YieldsList-from_range 0 _ (length t / 16) refl (search rules)) (λ x b q k. search rules)
    ∙ all_range test (length t / 16) in
    each ∙ rw c.if-bytes-records.true

pub returns : goal.returns
unfolding table_ok length_ok records
returns c = rw c.if-bytes-records.false
