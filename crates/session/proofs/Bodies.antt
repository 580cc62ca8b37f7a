-- The calls over lent figures, from what their steps leave. Assumes nothing.
use Rattle.std.proofs.Common.{ℕ, ◌<◌, ◌≡◌, refl, sym, ap, ◌∙◌, subst, Bool, true, false, ◌&&◌, List, eqb, Float, length, eq-eqb, ne_eqb}
use Rattle.loops.proofs.Bools.{both_true}
use Rattle.evaluation.specs.Sizes.{answers_kept}
use Rattle.std.specs.Prelude.{Result, Ok, Err, ⊤, Some, None}
use Rattle.session.specs.declared.Refusal.{Refusal}
use Rattle.session.specs.declared.Refusal.TheVariants as Why
use Rattle.session.specs.declared.Session.{Session}
use Rattle.session.specs.declared.Head.{Head}
use Rattle.session.specs.declared.Left.{Left}
use Rattle.session.specs.declared.Told.{Told}
use Rattle.session.specs.declared.Answer.{Answer}
use Rattle.session.specs.declared.Wish.{Wish}
use Rattle.session.specs.declared.Phase.TheVariants.{Rest, Asking}
use Rattle.session.specs.Tests.{tested, condition, unless}
use Rattle.session.specs.Session.{Sound, clear, used_jacobian, admits, names, good7, good9, session_tests, progress}
use Rattle.session.specs.Claims.{Closed, Typed}
use Rattle.session.specs.Calls.{Outcome, outcome, tell, refuse_lent, opened, nothing, begun, rested, answered, shown}
use Rattle.session.specs.Calls.{attempt_tests, begin_tests, supply_tests, begin_call, supply_call}
use Rattle.session.specs.Figures.{FIGURES, session_of, head_of, figures_of}
use Rattle.session.specs.Lent.{told_by, refused_by, Remains, remains, left, fills, lent_call, lent_open, lent_fill}
use Rattle.session.proofs.Laws.{passed_sound, wants_more, open_named, few_answers, begin_passes, begin_length, supply_passes, vector_length, attempt_row, begun_sound, answered_sound}
use Rattle.session.proofs.Closed.{passed_good, good_closed, begun_good}
use Rattle.session.proofs.Inverse.{figures_back}
use Rattle.session.proofs.Drops.{rested_same}

-- ---- begin

module _ (s : Session) (step : Float) (w : Wish) (j out : List Float) {k : Result ⊤ Refusal} (e : k ≡ tested (begin_tests s step (Some w) j (length out))) where
  pub begin_refused : {why : Refusal} → k ≡ Err why → {l : Left} (x : List Float) (n : Head) → l ≡ refused_by n why → session_of n x ≡ s
      → outcome (told_by l x) out ≡ begin_call s step w j out
  unfolding begin_call unless
  begin_refused h x n f g = rw (f, g, ← e, h)

  module _ (z : k ≡ Ok tt) where
    pub begin_rests : tested (session_tests (Some Rest) s) ≡ Ok tt
    begin_rests = (begin_passes s step (Some w) j (length out) (sym e ∙ z)).0

    begin_attempt : tested (attempt_tests s.n step (Some w) j (length out)) ≡ Ok tt
    begin_attempt = (begin_passes s step (Some w) j (length out) (sym e ∙ z)).1

    pub begin_clear : clear (used_jacobian (Some w) s.n) j ≡ true
    begin_clear =
        (both_true (clear (used_jacobian (Some w) s.n) j) (eqb (length out) s.n)
        (unfold condition attempt_tests in attempt_row s.n step (Some w) j (length out) begin_attempt Why.Places)).0

    pub begin_room : length out ≡ s.n
    begin_room = begin_length s.n step (Some w) j (length out) begin_attempt

    -- the session that it goes on with
    module _ (next : Session) (same : next ≡ begun s step (Some w) j) where
      pub begin_sound : Sound next
      begin_sound = subst Sound (sym same) (begun_sound s step w j (passed_sound (Some Rest) s begin_rests))

      pub begin_any : tested (session_tests None next) ≡ Ok tt
      unfolding Closed good7 good9 admits names
      begin_any =
          ap (λ (r : Session). tested (session_tests None r)) same
          ∙ good_closed (begun_good s step w j (length out) (passed_good (Some Rest) s begin_rests) begin_attempt) None

      pub begin_shown : (answer : Answer) {out' : List Float} → outcome (tell answer next) out' ≡ shown s next out (progress next) → outcome (tell answer next) out' ≡ begin_call s step w j out
      unfolding begin_call unless
      begin_shown answer f = rw (← e, z, ← same) f

      -- not admitted: at rest again, as it was
      pub begin_stopped : {out' : List Float} → refuse_lent s out' Why.Arithmetic ≡ shown s next out (progress next) → rested next ≡ s
          → {l : Left} (x : List Float) (n : Head) → l ≡ refused_by n Why.Arithmetic → session_of n x ≡ rested next → outcome (told_by l x) out' ≡ begin_call s step w j out
      unfolding begin_call unless
      begin_stopped f back x n g d = rw (g, d ∙ back, ← e, z, ← same) f

      -- 6: at rest again, as it was
      pub begin_six : {out' : List Float} → refuse_lent s out' Why.Arithmetic ≡ shown s next out (progress next) → Typed s
          → {l : Left} (x : List Float) (n : Head) → l ≡ refused_by n Why.Arithmetic → session_of n x ≡ rested next → outcome (told_by l x) out' ≡ begin_call s step w j out
      begin_six f typed =
          let back : rested (begun s step (Some w) j) ≡ rested s = unfold begun rested opened in refl in
          begin_stopped f (ap rested same ∙ back ∙ rested_same s typed begin_rests)

-- ---- supply

module _ (s : Session) (place : ℕ) (x out : List Float) {k : Result ⊤ Refusal} (e : k ≡ tested (supply_tests s place x (length out))) where
  pub supply_refused : {why : Refusal} → k ≡ Err why → {l : Left} (y : List Float) (n : Head) → l ≡ refused_by n why → session_of n y ≡ s
      → outcome (told_by l y) out ≡ supply_call s place x out
  unfolding supply_call unless
  supply_refused h y n f g = rw (f, g, ← e, h)

  module _ (z : k ≡ Ok tt) where
    pub supply_asks : tested (session_tests (Some (Asking s.count)) s) ≡ Ok tt
    supply_asks =
        let p = (supply_passes s place x (length out) (sym e ∙ z)).0 in subst (λ (q : ℕ). tested (session_tests (Some (Asking q)) s) ≡ Ok tt) (open_named s place p) p

    pub supply_early : s.count < answers_kept
    supply_early = few_answers s s.count supply_asks

    pub supply_room : length out ≡ s.n
    supply_room = vector_length s.n x (length out) (supply_passes s place x (length out) (sym e ∙ z)).1

    module _ (next : Session) (same : next ≡ answered s x) where
      pub supply_sound : Sound next
      supply_sound = subst Sound (sym same) (answered_sound s x (passed_sound (Some (Asking s.count)) s supply_asks) (wants_more s s.count supply_asks))

      pub supply_shown : (answer : Answer) {out' : List Float} → outcome (tell answer next) out' ≡ shown s next out (progress next) → outcome (tell answer next) out' ≡ supply_call s place x out
      unfolding supply_call unless
      supply_shown answer f = rw (← e, z, ← same) f

      pub supply_six : {out' : List Float} → refuse_lent s out' Why.Arithmetic ≡ shown s next out (progress next)
          → {l : Left} (y : List Float) (n : Head) → l ≡ refused_by n Why.Arithmetic → session_of n y ≡ s → outcome (told_by l y) out' ≡ supply_call s place x out
      unfolding supply_call unless
      supply_six f y n g d = rw (g, d, ← e, z, ← same) f

-- ---- what the calls over lent slices leave

-- where every length is right
module _ (k : Head) (x : List Float) {fits : Bool} (right : fits ≡ true) {l : Left} (y : List Float) (long : length y ≡ FIGURES) where
  home : remains (left (told_by l y)) (figures_of (told_by l y).session) ≡ remains l y
  unfolding left
  home = ap (remains (left (told_by l y))) (figures_back l.head y long) ∙ (unfold session_of in refl)

  pub lent_made : (call : Session → Told) → told_by l y ≡ call (session_of k x) → remains l y ≡ lent_call fits k x call
  unfolding lent_call
  lent_made call e = rw (right, ← e) (sym home)

  pub lent_filled : (out out' : List Float) (call : Session → List Float → Outcome) → outcome (told_by l y) out' ≡ call (session_of k x) out
      → fills l y out' ≡ lent_fill fits k x out call
  unfolding lent_fill
  lent_filled out out' call e = rw (right, ← e) (ap (λ (r : Remains). record { remains = r; out = out' }) (sym home))

  pub lent-opened : (t : Told) → told_by l y ≡ t → remains l y ≡ lent_open fits x t
  unfolding lent_open
  lent-opened t e = rw (right, ← e) (sym home)

-- where one is not
module _ (k : Head) (x : List Float) {fits : Bool} (wrong : fits ≡ false) {l : Left} where
  pub lent_refused : (call : Session → Told) → l ≡ refused_by k Why.Places → remains l x ≡ lent_call fits k x call
  unfolding lent_call
  lent_refused call e = rw (wrong, e)

  pub lent_unfilled : (out : List Float) (call : Session → List Float → Outcome) → l ≡ refused_by k Why.Places → fills l x out ≡ lent_fill fits k x out call
  unfolding lent_fill
  lent_unfilled out call e = rw (wrong, e)

  pub lent-unopened : (t : Told) → k ≡ head_of nothing → l ≡ refused_by k Why.Places → remains l x ≡ lent_open fits x t
  unfolding lent_open
  lent-unopened t n e = rw (wrong, e, n)

-- lengths that were tested
pub right_long : (a b c d : ℕ) → a ≡ b → c ≡ d → (eqb a b && eqb c d) ≡ true
right_long a b c d e f = rw (eq-eqb a b e, eq-eqb c d f)

pub left_wrong : (l r : Bool) → l ≡ false → (l && r) ≡ false
left_wrong l r e = rw e

pub first_wrong : (a b : ℕ) (r : Bool) → (a ≡ b → ⊥) → (eqb a b && r) ≡ false
first_wrong a b r h = left_wrong (eqb a b) r (ne_eqb a b h)

pub then_wrong : (l : Bool) (c d : ℕ) → (c ≡ d → ⊥) → (l && eqb c d) ≡ false
then_wrong true c d h = ne_eqb c d h
then_wrong false c d h = refl
