-- What the steps of the root hand on, and that each step does: one digit of a root, all of them, and an even power of two. Assumes nothing.
use Rattle.std.proofs.Common.{◌≡◌, sym, ap, ◌∙◌, subst, Bool, cond, ℕ, suc, ◌+◌, ◌-◌, ◌*◌, ◌/◌, ◌%◌, ◌^◌, ◌≤◌, ◌<◌, le_trans, le_of_eq, le_of_suc-le-suc, lt_of_lt_of_le, lt_of_le_of_lt, add-sub_of_le, mul_comm, mul_assoc, mul-le-mul_right, mul-le-mul_left, mul-lt-mul_of_pos_right, mod-eq_of_lt, div-one, div-le_self, arith, ltb, lt→ltb, lit≤, pow-add, shl_lt, shr-shr}
use Rattle.std.proofs.Math.Nat.{pow-le-pow_right, div-eq_of_lt}
use Rattle.std.proofs.Math.Arith.{le→nltb}
use lib.Count.{count_leading_zeros, leading_top}
use lib.Ieee.Bits.{is_true, is_false}
use Rattle.float.specs.Root.{square}
use Rattle.float.specs.Digits.{Rooted, Split, Halved, units_of, squares_of}
use Rattle.float.proofs.Square.{square-suc, square_back, pow_lt_back}

-- ---- two more digits of v
pub two-more : (v i : ℕ) → v / 2 ^ (2 * i) ≡ 4 * (v / 2 ^ (2 * (i + 1))) + v / 2 ^ (2 * i) % 4
two-more v i = omega (arith, shr-shr v (2 * i) 2, ap (λ (x : ℕ). v / 2 ^ x) (shift i))
  where
    shift : (i : ℕ) → 2 * i + 2 ≡ 2 * (i + 1)
    shift i = omega arith

pub read_on : (v i r rest r' rest' : ℕ) → 0 < i → Rooted (v / 2 ^ (2 * i)) r rest → Rooted (4 * (r * r + rest) + v / 2 ^ (2 * (i - 1)) % 4) r' rest' → Rooted (v / 2 ^ (2 * (i - 1))) r' rest'
read_on v i r rest r' rest' p h k =
    subst (λ (x : ℕ). Rooted x r' rest')
    (ap (λ (x : ℕ). 4 * x + v / 2 ^ (2 * (i - 1)) % 4) (h.whole ∙ ap (λ (x : ℕ). v / 2 ^ (2 * x)) (same i p)) ∙ sym (two-more v (i - 1)))
    k
  where
    same : (i : ℕ) → 0 < i → i ≡ i - 1 + 1
    same i p = omega arith

pub none_yet : (v : ℕ) → v < 2 ^ 54 → v / 2 ^ (2 * 27) ≡ 0
none_yet v h = div-eq_of_lt h

pub all_read : (v i r rest : ℕ) → i ≤ 0 → Rooted (v / 2 ^ (2 * i)) r rest → Rooted v r rest
all_read v i r rest h k = subst (λ (x : ℕ). Rooted x r rest) (ap (λ (x : ℕ). v / 2 ^ (2 * x)) (none i h) ∙ div-one v) k
  where
    none : (i : ℕ) → i ≤ 0 → i ≡ 0
    none i h = omega arith

-- ---- two zeros more
pub append-zeros : (v j r rest r' rest' : ℕ) → Rooted (v * 4 ^ j) r rest → Rooted (4 * (r * r + rest) + 0) r' rest' → Rooted (v * 4 ^ (j + 1)) r' rest'
append-zeros v j r rest r' rest' h k =
    subst (λ (x : ℕ). Rooted x r' rest')
    (plain (r * r + rest) ∙ ap (λ (x : ℕ). x * 4) h.whole ∙ mul_assoc v (4 ^ j) 4 ∙ ap (λ (x : ℕ). v * x) (sym (pow-add 4 j 1)))
    k
  where
    plain : (a : ℕ) → 4 * a + 0 ≡ a * 4
    plain a = omega arith

pub all_zeros : (v j r rest : ℕ) → j ≤ 26 → 26 ≤ j → Rooted (v * 4 ^ j) r rest → Rooted (v * 4 ^ 26) r rest
all_zeros v j r rest a b k = subst (λ (x : ℕ). Rooted (v * 4 ^ x) r rest) (same j a b) k
  where
    same : (j : ℕ) → j ≤ 26 → 26 ≤ j → j ≡ 26
    same j a b = omega arith

-- ---- bounds on a root
pub root-lt : (n r rest b : ℕ) → Rooted n r rest → n < square b → r < b
root-lt n r rest b h k = square_back r b (omega (arith, h.whole))

-- a root on the way there is below 2 ^ 53
pub read_small : (v i r rest : ℕ) → v < 2 ^ 54 → Rooted (v / 2 ^ (2 * i)) r rest → r < 2 ^ 53
read_small v i r rest h k = root-lt (v / 2 ^ (2 * i)) r rest (2 ^ 53) k (lt_of_le_of_lt (div-le_self v (2 ^ (2 * i))) (lt_of_lt_of_le h (lit≤ tt)))

pub append-small : (v j r rest : ℕ) → v < 2 ^ 54 → j ≤ 26 → Rooted (v * 4 ^ j) r rest → r < 2 ^ 53
append-small v j r rest h l k =
    root-lt (v * 4 ^ j) r rest (2 ^ 53) k
    (lt_of_le_of_lt (mul-le-mul_left v (pow-le-pow_right (lit≤ tt) l)) (mul-lt-mul_of_pos_right h (lit≤ tt)))

pub root-least : (n r rest b : ℕ) → Rooted n r rest → square b ≤ n → b ≤ r
root-least n r rest b h k = le_of_suc-le-suc (square_back b (suc r) (omega (arith, square-suc r, h.whole, h.short)))

-- ---- an even power of two
twice_half : (p : ℕ) → p % 2 ≡ 0 → p / 2 + p / 2 ≡ p
twice_half p e = omega arith

twice_half_odd : (p : ℕ) → (p % 2 ≡ 0 → ⊥) → p / 2 + p / 2 + 1 ≡ p
twice_half_odd p e = omega arith

pub halve_even : (d p : ℕ) → p % 2 ≡ 0 → 2 ^ 52 ≤ d → d < 2 ^ 53 → 1022 ≤ p → p ≤ 3119 → Halved (d * 2 ^ p) d (p / 2)
halve_even d p e a b l m = record {
  value = ap (λ (x : ℕ). d * x) (sym (pow-add 2 (p / 2) (p / 2)) ∙ ap (λ (x : ℕ). 2 ^ x) (twice_half p e));
  lead = a;
  room = omega arith;
  least = omega arith;
  most = omega arith;
}

pub halve_odd : (d p : ℕ) → (p % 2 ≡ 0 → ⊥) → 2 ^ 52 ≤ d → d < 2 ^ 53 → 1022 ≤ p → p ≤ 3119 → Halved (d * 2 ^ p) (d * 2) (p / 2)
halve_odd d p e a b l m = record {
  value = mul_assoc d 2 (square (2 ^ (p / 2))) ∙ ap (λ (x : ℕ). d * x)
      (ap (λ (x : ℕ). 2 * x) (sym (pow-add 2 (p / 2) (p / 2))) ∙ mul_comm 2 (2 ^ (p / 2 + p / 2)) ∙ sym (pow-add 2 (p / 2 + p / 2) 1) ∙ ap (λ (x : ℕ). 2 ^ x) (twice_half_odd p e));
  lead = omega arith;
  room = omega arith;
  least = omega arith;
  most = omega arith;
}

-- ---- a subnormal's leading one, shifted to bit 52
pub shift_bounds : (b : ℕ) → 0 < b → b < 2 ^ 52 → (12 ≤ count_leading_zeros 64 b) × (count_leading_zeros 64 b ≤ 63)
shift_bounds b p h =
    let t = leading_top 64 b p (lt_of_lt_of_le h (lit≤ tt)) in
    let j-lt : t.0 < 52 = pow_lt_back t.0 52 (lt_of_le_of_lt t.2 h) in
    (omega (arith, t.1), omega (arith, t.1))

pub shifted : (b : ℕ) → 0 < b → b < 2 ^ 52 → (2 ^ 52 ≤ b * 2 ^ (count_leading_zeros 64 b - 11)) × (b * 2 ^ (count_leading_zeros 64 b - 11) < 2 ^ 53)
shifted b p h =
    let t = leading_top 64 b p (lt_of_lt_of_le h (lit≤ tt)) in
    let z = count_leading_zeros 64 b in
    let j = t.0 in
    let j-lt : j < 52 = pow_lt_back j 52 (lt_of_le_of_lt t.2 h) in
    let e : j + (z - 11) ≡ 52 = omega (arith, t.1) in
    let f : suc j + (z - 11) ≡ 53 = omega (arith, t.1) in (
      le_trans (le_of_eq (ap (λ (x : ℕ). 2 ^ x) (sym e) ∙ pow-add 2 j (z - 11))) (mul-le-mul_right (2 ^ (z - 11)) t.2),
      lt_of_lt_of_le (shl_lt (suc j) (z - 11) t.3) (le_of_eq (ap (λ (x : ℕ). 2 ^ x) f)),
    )

pub low_is : (b : ℕ) → b < 2 ^ 52 → squares_of b ≡ b * 2 ^ 1074
unfolding squares_of units_of
low_is b h = ap (λ (t : Bool). cond t b ((b % 2 ^ 52 + 2 ^ 52) * 2 ^ (b / 2 ^ 52 - 1)) * 2 ^ 1074) (is_true (ltb b (2 ^ 52)) (lt→ltb b (2 ^ 52) h))

pub high_is : (b : ℕ) → 2 ^ 52 ≤ b → squares_of b ≡ (b % 2 ^ 52 + 2 ^ 52) * 2 ^ (b / 2 ^ 52 - 1) * 2 ^ 1074
unfolding squares_of units_of
high_is b h = ap (λ (t : Bool). cond t b ((b % 2 ^ 52 + 2 ^ 52) * 2 ^ (b / 2 ^ 52 - 1)) * 2 ^ 1074) (is_false (ltb b (2 ^ 52)) (le→nltb b (2 ^ 52) h))

-- a * 2 ^ s * 2 ^ (l - s) is a * 2 ^ l
regroup : (a s l : ℕ) → s ≤ l → a * 2 ^ s * 2 ^ (l - s) ≡ a * 2 ^ l
regroup a s l h = mul_assoc a (2 ^ s) (2 ^ (l - s)) ∙ ap (λ (x : ℕ). a * x) (sym (pow-add 2 s (l - s)) ∙ ap (λ (x : ℕ). 2 ^ x) (add-sub_of_le h))

pub unpack_low : (b : ℕ) → 0 < b → b < 2 ^ 52 → Split (squares_of b) (b * 2 ^ (count_leading_zeros 64 b - 11) % 2 ^ 64) (1074 - (count_leading_zeros 64 b - 11))
unpack_low b p h =
    let s = count_leading_zeros 64 b - 11 in
    let k = shifted b p h in
    let z = shift_bounds b p h in
    let whole : b * 2 ^ s % 2 ^ 64 ≡ b * 2 ^ s = mod-eq_of_lt (lt_of_lt_of_le k.1 (lit≤ tt)) in
    subst (λ (d : ℕ). Split (squares_of b) d (1074 - s)) (sym whole) (record {
      value = regroup b s 1074 (omega arith) ∙ sym (low_is b h);
      lead = k.0;
      room = k.1;
      least = omega arith;
      most = omega arith;
    })

join : (f : ℕ) → 1 ≤ f → f - 1 + 1074 ≡ f + 1073
join f h = omega arith

pub unpack_high : (b : ℕ) → 2 ^ 52 ≤ b → b < 0x7ff0_0000_0000_0000 → Split (squares_of b) (b % 2 ^ 52 + 2 ^ 52) (b / 2 ^ 52 + 1073)
unpack_high b a h =
    let f = b / 2 ^ 52 in record {
      value = ap (λ (x : ℕ). (b % 2 ^ 52 + 2 ^ 52) * x) (ap (λ (x : ℕ). 2 ^ x) (sym (join f (omega arith))) ∙ pow-add 2 (f - 1) 1074)
          ∙ sym (mul_assoc (b % 2 ^ 52 + 2 ^ 52) (2 ^ (f - 1)) (2 ^ 1074))
          ∙ sym (high_is b a);
      lead = omega arith;
      room = omega arith;
      least = omega arith;
      most = omega arith;
    }
