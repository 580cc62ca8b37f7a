-- `methods::Square::admitted_row`: the sum has the row's items, and then the input. Assumes nothing.
use Rattle.std.proofs.Common.{◌≡◌, ◌≤◌, ◌+◌, ◌-◌, ◌*◌, take, drop, refl, arith, rules}
use Rattle.std.proofs.lemmas.Iterator.{YieldsList-from_slice}
use Rattle.std.proofs.lemmas.Iterator.Consumers.{fold_from_yields_List}
use Rattle.float.specs.Arith.{◌⊕◌, ◌⊗◌, abs}
use Rattle.methods.specs.Vectors.{Sized}
use Rattle.methods.proofs.Laws.{row_inside}
use Rattle.methods.proofs.Augmented.{input_fold, input_tested}
use Rattle.methods.proofs.square.Square.admitted_row.Goals as goal

pub returns : goal.returns
returns c =
    let s : Sized c.get-n.result c.args.self.now.entries.now = rw c.get-n.ensures.value c.args.self.now.sized in
    let inside = (row_inside s c.args.i (omega (arith, c.requires, c.get-n.ensures))).0 in
    let from = c.args.i * c.get-n.result in
    let some : 1 ≤ c.get-n.result = omega (arith, s) in
    let rest = from + c.get-n.result - (from + 1) in
    let size : rest + 1 ≡ c.get-n.result = omega (arith, some) in
    let road = YieldsList-from_slice (take rest (drop (from + 1) c.args.self.now.entries.now)) (cc) in
    let e = fold_from_yields_List _ (λ sum x. sum ⊕ abs (c.args.scale_a ⊗ x)) _ c.fold-sum.result c.fold-sum.ensures.ran road (λ a x b q k. search rules) in
    rw (← c.get-n.ensures.value)
    (input_tested _ _ _ _ _ _ refl c.get-n.result _ _ _ some refl (input_fold _ _ _ _ _ _ refl rest _ _ size inside c.abs-first.ensures e) c.abs.ensures c.finite.ensures)
