-- `wire::f64_at` meets its contract. Assumes nothing.
use Rattle.std.proofs.Common.{ℕ, ◌+◌, ◌-◌, ◌≡◌, arith, ap, ◌∙◌, take, drop}
use Rattle.std.specs.Float.{binary64}
use Rattle.std.specs.Float.Ieee.{of_bits}
use Rattle.wire.specs.Wire.{word16, word32, word64}
use Rattle.wire.proofs.Bytes.{word64_from}
use Rattle.wire.proofs.f64_at.Goals as goal

pub returns : goal.returns
returns c =
    let w = rw c.unwrap.ensures at c.as_array.ensures.cases in
    let a = c.args in
    let pattern : c.from_le_bytes.result ≡ word64 c.unwrap.result.now 0 = unfold word16 word32 word64 in omega arith in
    let eight : a.i + 8 - a.i ≡ 8 = omega arith in
    let there = ap (λ b. word64 b 0) (w.same ∙ ap (λ (n : ℕ). take n (drop a.i a.b.now)) eight) ∙ word64_from a.b.now a.i 8 (omega arith) in
    c.f64_from_bits_with_nan.ensures ∙ ap (of_bits binary64) (pattern ∙ there)
