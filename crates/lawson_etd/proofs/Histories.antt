-- Etd2's pass, where its first or its second exponential is not admitted: with a history and without. Assumes nothing.
use Rattle.std.proofs.Common.{◌≡◌, ℕ, false, List, refl, Float}
use Rattle.std.specs.Prelude.{Option, Some, None}
use Rattle.methods.specs.Numbers.{num}
use Rattle.methods.specs.Tally.{Tried}
use Rattle.methods.specs.Phi.{more, phi_term, exp_action}
use Rattle.methods.specs.Pass.{Stand, fails, replay}
use Rattle.methods.specs.Parts.{in32}
use Rattle.methods.specs.Schemes.{etd2}
use Rattle.methods.proofs.Lines.{begin, untried_line, first_part, next_plain, sum_fails}

module _ {S : Stand} (n : ℕ) (a u : List Float) (h : Float) (g : List Float) where
  pub first_refused : (previous : Option (List Float)) (count j : ℕ) (answers : List Float) → (exp_action n a h u).tally.ok ≡ false → S ≡ fails
      → S ≡ in32 (replay n (etd2 n a u h g previous) count j answers)
  unfolding etd2
  first_refused (Some w) count j answers e s = begin _ _ _ _ _ (untried_line _ _ e s)
  first_refused None count j answers e s = begin _ _ _ _ _ (untried_line _ _ e s)

  pub second_refused : (previous : Option (List Float)) (count j : ℕ) (answers : List Float) (k : Tried) → k ≡ exp_action n a h u
      → (more n k (num 1) (phi_term n a h 1 h g)).tally.ok ≡ false → S ≡ fails → S ≡ in32 (replay n (etd2 n a u h g previous) count j answers)
  unfolding etd2
  second_refused (Some w) count j answers k e f s = begin _ _ _ _ _ (first_part _ _ _ e (next_plain _ _ _ _ refl (sum_fails _ _ f s)))
  second_refused None count j answers k e f s = begin _ _ _ _ _ (first_part _ _ _ e (next_plain _ _ _ _ refl (sum_fails _ _ f s)))
