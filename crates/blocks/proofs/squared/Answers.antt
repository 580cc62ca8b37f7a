-- `blocks::squared` meets its contract: the array that is squared last holds the matrix squared once less. Assumes nothing.
use Rattle.std.proofs.Common.{◌≡◌, ◌-◌, ◌%◌, suc, ap, sym, ◌∙◌, arith, length, List, Bor, Float}
use Rattle.matrix.proofs.Squarings.{even_result, odd_result}
use Rattle.blocks.specs.Storage.{all_finite}
use Rattle.blocks.proofs.Rounds.{squared_none, column_squared}
use Rattle.blocks.proofs.squared.Goals.{then-count-eq1, else-count-eq1}
use Rattle.blocks.proofs.squared.Goals as goal

pub returns-then-count-eq0 : goal.returns-then-count-eq0
returns-then-count-eq0 c = rw (c.if-count-eq0.true, squared_none) c.column.ensures

pub returns : goal.returns
returns c =
    let r = c.square_rounds.ensures in
    let k : suc (c.args.count - 1) ≡ c.args.count = omega arith in
    elim c.if-count-eq1.branch [
      | then-count-eq1 w ↦
          let e = ap (λ (z : Bor (List Float)). z.now) w.x-is in
          let h : (c.args.count - 1) % 2 ≡ 0 = omega (arith, w.if-count-eq1.true) in
          column_squared _ _ (c.args.count - 1) c.args.sum.now _ (e ∙ even_result _ _ _ _ _ r.traded h) (ap length e ∙ r.len.0) (sym c.if-not-finite.ensures) _ _ k c.squared_column.ensures
      | else-count-eq1 w ↦
          let e = ap (λ (z : Bor (List Float)). z.now) w.x-is in
          let h : (c.args.count - 1) % 2 ≡ 0 → ⊥ = λ g. omega (arith, w.if-count-eq1.false) in
          column_squared _ _ (c.args.count - 1) c.args.sum.now _ (e ∙ odd_result _ _ _ _ _ r.traded h) (ap length e ∙ r.len.1) (sym c.if-not-finite.ensures) _ _ k c.squared_column.ensures
    ]

pub returns-then-not-finite : goal.returns-then-not-finite
returns-then-not-finite c =
    let r = c.square_rounds.ensures in
    elim c.if-count-eq1.branch [
      | then-count-eq1 w ↦
          let e = ap (λ (z : Bor (List Float)). z.now) w.x-is in
          let h : (c.args.count - 1) % 2 ≡ 0 = omega (arith, w.if-count-eq1.true) in
          ap all_finite (sym (e ∙ even_result _ _ _ _ _ r.traded h)) ∙ sym c.if-not-finite.ensures
      | else-count-eq1 w ↦
          let e = ap (λ (z : Bor (List Float)). z.now) w.x-is in
          let h : (c.args.count - 1) % 2 ≡ 0 → ⊥ = λ g. omega (arith, w.if-count-eq1.false) in
          ap all_finite (sym (e ∙ odd_result _ _ _ _ _ r.traded h)) ∙ sym c.if-not-finite.ensures
    ]
