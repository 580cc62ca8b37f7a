-- `session::places::blank` meets its contract. Assumes nothing.
use Rattle.std.proofs.Common.{◌+◌, ◌*◌, ◌/◌, ◌≡◌, ◌&&◌, sym, eqb, length, rules, bit_or}
use Rattle.std.specs.List.{list_all}
use Rattle.std.proofs.lemmas.Iterator.{YieldsList-from_slice}
use Rattle.std.proofs.lemmas.Iterator.Consumers.{fold_from_yields_List}
use Rattle.std.proofs.lemmas.Fn.{fold_over, slice_gives, fronts}
use Rattle.std.proofs.lemmas.List.{get_or-drop}
use Rattle.std.proofs.Math.Bool.{and-true}
use Rattle.std.specs.Float.Ieee.{binary64, to_bits}
use Rattle.float.specs.Arith.{plus_zero}
use Rattle.session.proofs.Blank.{blank_all, row_more, rest_and_rows}
use Rattle.session.proofs.places.blank.Goals as goal

pub returns : goal.returns
returns c =
    let x = c.args.x.now in
    let others = c.as_chunks.result.1.now in
    let bits = fold_from_yields_List _ (λ bits x. bit_or bits (to_bits binary64 x)) 0 c.fold-bits.result c.fold-bits.ensures.ran
    (YieldsList-from_slice others (cc)) (λ a x b q k. search rules) in
    let all =
    fold_over fronts (λ y. y.now) _ (λ rows b. eqb b 0 ≡ (eqb c.fold-bits.result 0 && list_all (list_all plus_zero) rows)) _
    (λ rows a y b f' j k. let more = row_more c.fold-bits.result a b rows y.now j in search rules)
    _ _ _ _ (slice_gives c.iter-2.result) (sym (and-true (eqb c.fold-bits.result 0))) c.fold.ensures.ran in
    let others_too = blank_all others (λ i. rw (c.as_chunks.ensures.back, get_or-drop) (c.type_inv.x (length x / 8 * 8 + i))) in
    rw (all, bits, others_too, c.iter-2.ensures.rest, c.as_chunks.ensures.front, c.as_chunks.ensures.back)
    (rest_and_rows plus_zero 8 (length x / 8) x)
