-- hoch_ost4's combinations, made of phi terms that are worked out. Assumes nothing.
use Rattle.std.proofs.Common.{ℕ, ◌≡◌, false, List, Float}
use Rattle.float.specs.Arith.{◌⊘◌}
use Rattle.methods.specs.Tally.{Tried}
use Rattle.methods.specs.Numbers.{num}
use Rattle.methods.specs.Phi.{more_all, combine_all, phi_term}
use Rattle.methods.specs.Parts.{narrow, narrowed}
use Rattle.methods.proofs.Lines.{more_fails, onto_fails}
use Rattle.methods.proofs.Tallies.{more_of}
use Rattle.lawson_etd.specs.Stages.{a52_of, a54_of}
use Rattle.methods.specs.Schemes.{a52, a54}

module _ (n : ℕ) (a : List Float) (h : Float) (v : List Float) (p2h : Tried) (e2h : p2h ≡ phi_term n a (h ⊘ num 2) 2 (num 1) v) where
  pub a52_made : (p3 p2 p3h k : Tried) → p3 ≡ phi_term n a h 3 (num 1) v → p2 ≡ phi_term n a h 2 (num 1) v → p3h ≡ phi_term n a (h ⊘ num 2) 3 (num 1) v
      → k ≡ narrowed (a52_of n p2h p3 p2 p3h) → k ≡ narrowed (a52 n a h v)
  unfolding a52 a52_of
  a52_made p3 p2 p3h k e3 e2 e3h e = rw (e2h, e3, e2, e3h) at e

  pub a54_made : (inner k : Tried) → inner ≡ narrowed (a52 n a h v) → k ≡ narrowed (a54_of n p2h inner) → k ≡ narrowed (a54 n a h v)
  unfolding a54 a54_of combine_all more_all
  a54_made inner k i e = more_of n _ _ inner _ k i (rw e2h at e)

-- ---- one of their phi terms is not admitted, and so they are not
pub fails_narrowed : (p : Tried) → p.tally.ok ≡ false → (narrowed p).tally.ok ≡ false
unfolding narrowed narrow
fails_narrowed p e = e

module _ (n : ℕ) (a : List Float) (h : Float) (v : List Float) where
  pub a52_p2h : (phi_term n a (h ⊘ num 2) 2 (num 1) v).tally.ok ≡ false → (a52 n a h v).tally.ok ≡ false
  unfolding a52 combine_all more_all
  a52_p2h e = onto_fails _ _ _ _ (onto_fails _ _ _ _ (onto_fails _ _ _ _ (more_fails _ _ _ _ e)))

  pub a52_p3 : (phi_term n a h 3 (num 1) v).tally.ok ≡ false → (a52 n a h v).tally.ok ≡ false
  unfolding a52 combine_all more_all
  a52_p3 e = onto_fails _ _ _ _ (onto_fails _ _ _ _ (more_fails _ _ _ _ e))

  pub a52_p2 : (phi_term n a h 2 (num 1) v).tally.ok ≡ false → (a52 n a h v).tally.ok ≡ false
  unfolding a52 combine_all more_all
  a52_p2 e = onto_fails _ _ _ _ (more_fails _ _ _ _ e)

  pub a52_p3h : (phi_term n a (h ⊘ num 2) 3 (num 1) v).tally.ok ≡ false → (a52 n a h v).tally.ok ≡ false
  unfolding a52 combine_all more_all
  a52_p3h e = more_fails _ _ _ _ e

  pub a54_p2h : (phi_term n a (h ⊘ num 2) 2 (num 1) v).tally.ok ≡ false → (a54 n a h v).tally.ok ≡ false
  unfolding a54 combine_all more_all
  a54_p2h e = onto_fails _ _ _ _ (more_fails _ _ _ _ e)

  pub a54_a52 : (a52 n a h v).tally.ok ≡ false → (a54 n a h v).tally.ok ≡ false
  unfolding a54 combine_all more_all
  a54_a52 e = more_fails _ _ _ _ e
