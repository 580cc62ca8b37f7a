-- `wire::u16_at` meets its contract. Assumes nothing.
use Rattle.std.proofs.Common.{ℕ, ◌+◌, ◌-◌, ◌≡◌, arith, ap, ◌∙◌, take, drop}
use Rattle.wire.specs.Wire.{word16}
use Rattle.wire.proofs.Bytes.{word16_from}
use Rattle.wire.proofs.u16_at.Goals as goal

pub returns : goal.returns
returns c =
    let w = rw c.unwrap.ensures at c.as_array.ensures.cases in
    let a = c.args in
    let number : c.from_le_bytes.result ≡ word16 c.unwrap.result.now 0 = unfold word16 in omega arith in
    let two : a.i + 2 - a.i ≡ 2 = omega arith in
    number ∙ ap (λ b. word16 b 0) (w.same ∙ ap (λ (n : ℕ). take n (drop a.i a.b.now)) two) ∙ word16_from a.b.now a.i 2 (omega arith)
