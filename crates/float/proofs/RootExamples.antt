-- Roots worked out through the definition alone: 4, 2, the ends of the subnormals and of the normals, 0.1, the double below 1, the zeros and the infinity. Assumes nothing.
use Rattle.std.proofs.Common.{◌≡◌, refl, [], ◌∷◌, map, ℕ, ◌+◌, ◌-◌, ◌*◌, ◌^◌, ◌<◌, lit<}
use lib.Count.{count_trailing_zeros}
use Rattle.std.specs.Float.Ieee.{nan, binary64, span, climb, size, odd, of_fields, of_bits, to_bits}
use Rattle.float.specs.Root.{square, root, nearest_root, floor_root}
use Rattle.float.specs.Root.{in_squares}

roots : map (λ (b : ℕ). to_bits binary64 (root binary64 (of_bits binary64 b)))
    (0x4010_0000_0000_0000 ∷ 0x4000_0000_0000_0000 ∷ 0x0000_0000_0000_0001 ∷ 0x000f_ffff_ffff_ffff ∷ 0x0010_0000_0000_0000 ∷ 0x7fef_ffff_ffff_ffff ∷ 0x3fb9_9999_9999_999a ∷ 0x3fef_ffff_ffff_ffff ∷ 0x0000_0000_0000_0000 ∷ 0x8000_0000_0000_0000 ∷ 0x7ff0_0000_0000_0000 ∷ [])
    ≡ 0x4000_0000_0000_0000 ∷ 0x3ff6_a09e_667f_3bcd ∷ 0x1e60_0000_0000_0000 ∷ 0x1fff_ffff_ffff_ffff ∷ 0x2000_0000_0000_0000 ∷ 0x5fef_ffff_ffff_ffff ∷ 0x3fd4_3d13_6248_490f ∷ 0x3fef_ffff_ffff_ffff ∷ 0x0000_0000_0000_0000 ∷ 0x8000_0000_0000_0000 ∷ 0x7ff0_0000_0000_0000 ∷ []
unfolding root nearest_root floor_root span climb size odd count_trailing_zeros of_fields of_bits to_bits
roots = refl

none : root binary64 (of_bits binary64 0xbff0_0000_0000_0000) ≡ nan
unfolding root odd count_trailing_zeros of_fields of_bits
none = refl

-- Why `Strict` has its clause `edge`: without it the double below 1 would have two roots, itself and 1 = 2 ^ 52 * 2 ^ 1022 units.
pub one_passes : (square ((2 * 2 ^ 52 - 1) * 2 ^ 1022) < 4 * in_squares (of_bits binary64 0x3fef_ffff_ffff_ffff)) ×
    (4 * in_squares (of_bits binary64 0x3fef_ffff_ffff_ffff) < square ((2 * 2 ^ 52 + 1) * 2 ^ 1022))
unfolding in_squares odd count_trailing_zeros of_fields of_bits
one_passes = (lit< tt, lit< tt)

pub edge_stops : 16 * in_squares (of_bits binary64 0x3fef_ffff_ffff_ffff) < square ((4 * 2 ^ 52 - 1) * 2 ^ 1022)
unfolding in_squares odd count_trailing_zeros of_fields of_bits
edge_stops = lit< tt
