-- What is written of a run. Assumes nothing.
use Rattle.std.proofs.Common.{ℕ, ◌≤◌, arith, ◌≡◌, refl, sym, ap, ◌∙◌, subst, List, [], ◌∷◌, ◌++◌, append-nil, Float}
use Rattle.std.proofs.Common.{Option, Some, None, IfSome, length, take, drop, take-take}
use Rattle.std.specs.Prelude.{Result, Ok, Err, OnOk}
use Rattle.std.specs.Float.{binary64}
use Rattle.std.specs.Float.Ieee.{to_bits}
use Rattle.std.specs.Io.KnownBytes.{Appends, Keeps}
use Rattle.std.proofs.KnownBytes.{Appends-trans, Appends-kept}
use Rattle.loops.specs.Loop.{◌!◌}
use Rattle.evaluation.specs.Sizes.{places}
use Rattle.wire.specs.Wire.{blank, put64, doubles_bytes}
use Rattle.session.specs.declared.Refusal.{Refusal}
use Rattle.session.specs.Tests.{refusal_number}
use Rattle.session.specs.Figures.{FIGURES, time_at, state_at, part}
use Rattle.session.proofs.Parts.{slice_part}
use Rattle.sonde.specs.declared.input.TheConstants.{KEPT}
use Rattle.sonde.specs.declared.Stop.TheVariants.{Refused}
use Rattle.sonde.specs.declared.Ending.TheVariants as By
use Rattle.sonde.specs.Frames.{frame, Course, course_of, last_byte, written}
use Rattle.sonde.specs.Ends.{Made, Ended}
use Rattle.sonde.proofs.Cutting.{as_kept}

-- what holds whatever a call gives
pub if_ok : {T E P : Type 0} (r : Result T E) → P → OnOk r P
if_ok (Ok x) p = p
if_ok (Err e) p = tt

-- the first n states stand in the figures one after the other
states : (n : ℕ) (x : List Float) → n ≤ places → length x ≡ FIGURES → take n (drop state_at x) ≡ take n (part x state_at places)
states n x small long = sym (take-take n places (drop state_at x) small) ∙ ap (take n) (slice_part x state_at places (omega (arith, long)))

-- a time and n states, written one after the other and handed on
pub frame_written : (a b c d : Option (List ℕ)) (n m : ℕ) (x : List Float) → n ≤ places → m ≡ n → length x ≡ FIGURES
    → Appends a b (put64 (blank 8) 0 (to_bits binary64 (x ! time_at))) → Appends b c (doubles_bytes (take m (drop state_at x))) → Keeps c d
    → Appends a d (frame n (x ! time_at) (part x state_at places))
unfolding frame
frame_written a b c d n m x small same long p q kept =
    Appends-kept a c d _
    (subst (λ (u : List Float). Appends a c (put64 (blank 8) 0 (to_bits binary64 (x ! time_at)) ++ doubles_bytes u))
    (ap (λ k. take k (drop state_at x)) same ∙ states n x small long) (Appends-trans a b c _ _ p q)) kept

-- ---- the end of a run, of whose input the first bytes were kept

module _ (known : Option (List ℕ)) {bytes kept : List ℕ} (same : bytes ≡ kept) (first : IfSome known (λ b. kept ≡ take KEPT b)) where
  course_kept : (P : Course → Type 0) → P (course_of bytes) → IfSome known (λ b. P (course_of b))
  course_kept P = go known first
    where
      go : (k : Option (List ℕ)) → IfSome k (λ b. kept ≡ take KEPT b) → P (course_of bytes) → IfSome k (λ b. P (course_of b))
      go None h p = tt
      go (Some b) h p = subst P (ap course_of (same ∙ h) ∙ as_kept b) p

  module _ (old new : Option (List ℕ)) where
    pub finished : Made (course_of bytes) old new (Ok tt) → IfSome known (λ b. Ended (course_of b) old new By.Finished)
    finished made = course_kept (λ c. Ended c old new By.Finished) (made.0, unwritten (course_of bytes) made.0 made.1)
      where
        unwritten : (c : Course) → c.refusal ≡ None → Appends old new c.frames → Appends old new (written c)
        unwritten c e p =
            let all : c.frames ≡ written c = unfold written last_byte in rw e (sym (append-nil c.frames)) in
            subst (Appends old new) all p

    pub refused : (refusal : Refusal) (last : Option (List ℕ)) → Made (course_of bytes) old new (Err (Refused refusal)) → Appends new last (refusal_number refusal ∷ [])
        → IfSome known (λ b. Ended (course_of b) old last By.Refused)
    refused refusal last made p = course_kept (λ c. Ended c old last By.Refused) (rw made.0, behind (course_of bytes) made.0 made.1)
      where
        behind : (c : Course) → c.refusal ≡ Some refusal → Appends old new c.frames → Appends old last (written c)
        behind c e q =
            let all : c.frames ++ refusal_number refusal ∷ [] ≡ written c = unfold written last_byte in rw e refl in
            subst (Appends old last) all (Appends-trans old new last c.frames (refusal_number refusal ∷ []) q p)
