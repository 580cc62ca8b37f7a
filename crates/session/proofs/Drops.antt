-- What drop brings back, and what becomes of the session of a refused open. Assumes nothing.
use Rattle.std.proofs.Common.{ℕ, ◌/◌, ◌≤◌, ◌<◌, arith, ◌≡◌, refl, sym, ap, ◌∙◌, Bool, true, false, List, [], ◌∷◌, ◌++◌, ltb, Float, length, replicate, leb-true}
use Rattle.std.proofs.Math.Dec.{leb-suc-zero}
use Rattle.std.specs.Float.Ieee.{le}
use Rattle.loops.proofs.Loops.{every_at}
use Rattle.loops.specs.Loop.{◌!◌}
use Rattle.float.specs.Arith.{zero+, epsilon, plus_zero}
use Rattle.evaluation.specs.Sizes.{answer_room}
use Rattle.methods.specs.Step.{Progress, refused, asking, ended}
use Rattle.engine.specs.Claims.{Between}
use Rattle.engine.proofs.FirstStep.{first_step_told}
use Rattle.std.specs.Prelude.{Ok, Result, Err, ⊤, Option, Some, None}
use Rattle.session.specs.declared.Phase.{Phase}
use Rattle.session.specs.declared.Refusal.{Refusal}
use Rattle.session.specs.declared.Refusal.TheVariants as Why
use Rattle.session.specs.declared.Session.{Session}
use Rattle.session.specs.declared.Told.{Told}
use Rattle.session.specs.declared.Answer.{Answer}
use Rattle.session.specs.declared.Answer.TheVariants.{Resting, FirstStep}
use Rattle.session.specs.declared.Wish.{Wish}
use Rattle.session.specs.declared.Phase.TheVariants.{Rest, Asking, Waiting}
use Rattle.session.specs.Tests.{Tests, tested, condition, unless}
use Rattle.session.specs.Values.{number, values_of}
use Rattle.session.specs.Session.{jacobian_room, Trial, joined, run_of, trial_of, fresh, idle, clear, clear_answers, used_jacobian, step_clear, wanted, wanted_by}
use Rattle.session.specs.Session.{phase_at, phase_of, phase_number, admits, names, size_ok, good1, good7, good9, session_tests, progress}
use Rattle.session.specs.Calls.{Outcome, tell, refuse, refuse_lent, opened, nothing, begun, rested, answered, shown}
use Rattle.session.specs.Calls.{begin_tests, supply_tests, accept_tests, first_step_tests, largest_tests, begin_call, supply_call, accept_call, drop_call, first_step_call}
use Rattle.session.specs.Runs.{Call, begin, supply, accept, drop, first_step, perform, after}
use Rattle.session.specs.Claims.{Typed, TypedCall, TypedCalls, Closed, supplies, Drops, FirstSteps}
use Rattle.session.proofs.Tests.{passes, tested-append, both_pass, unless_either}
use Rattle.session.proofs.Laws.{in_phase}
use Rattle.session.proofs.Clear.{plus_zero_is, nothing_in}
use Rattle.session.proofs.Closed.{Good, passed_good, good_closed, after_good}

-- ---- a session at rest has no attempt

resting_none : (a : Option Wish) (place : ℕ) (b : Bool) → 0 ≡ phase_number (phase_at a place b) → a ≡ None
unfolding phase_at phase_number
resting_none None place b e = refl
resting_none (Some wish) place true e = absurd (omega (arith, e))
resting_none (Some wish) place false e = absurd (omega (arith, e))

-- nothing is in use, so all is +0.0
module _ (t : Trial) (none : t.attempt ≡ None) where
  none_step : step_clear t.attempt t.step ≡ true → plus_zero t.step ≡ true
  unfolding step_clear
  none_step e = rw none at e

  none_jacobian : (n : ℕ) → clear (used_jacobian t.attempt n) t.jacobian ≡ true → (i : ℕ) → i < length t.jacobian → plus_zero (t.jacobian ! i) ≡ true
  unfolding clear used_jacobian
  none_jacobian n e i l = rw (leb-suc-zero i) at (every_at (length t.jacobian) _ (rw none at e) i l)

  none_count : (k n : ℕ) → t.count ≤ wanted k n t.attempt → t.count ≡ 0
  unfolding wanted
  none_count k n h = let l : t.count ≤ wanted k n None = rw none at h in omega (arith, l)

none_answers : (n : ℕ) (x : List Float) → clear_answers 0 n x ≡ true → (i : ℕ) → i < length x → plus_zero (x ! i) ≡ true
unfolding clear_answers
none_answers n x e i l = rw (leb-suc-zero (i / 16)) at (every_at (length x) _ e i l)

pub idle_trial : (s : Session) → Typed s → tested (session_tests (Some Rest) s) ≡ Ok tt → trial_of s ≡ idle
unfolding idle fresh
idle_trial s t e =
    let g = passed_good (Some Rest) s e in
    let none : s.attempt ≡ None = resting_none s.attempt s.count (ltb s.count (wanted_by s)) (unfold phase_of phase_number in in_phase Rest s e) in
    let count : s.count ≡ 0 = none_count (trial_of s) none s.scheme s.n (leb-true s.count (wanted_by s) g.count) in
    let step : s.step ≡ zero+ = plus_zero_is s.step t.step (none_step (trial_of s) none g.step) in
    let jacobian : s.jacobian ≡ replicate jacobian_room zero+ =
    nothing_in jacobian_room s.jacobian t.jacobian (λ i l. none_jacobian (trial_of s) none s.n g.jacobian i (omega (arith, t.jacobian.places))) in
    let answers : s.answers ≡ replicate answer_room zero+ =
    nothing_in answer_room s.answers t.answers (λ i l. none_answers s.n s.answers (rw count at g.answers) i (omega (arith, t.answers.places))) in
    λ i. record { attempt = none i; step = step i; jacobian = jacobian i; count = count i; answers = answers i }

pub rested_same : (s : Session) → Typed s → tested (session_tests (Some Rest) s) ≡ Ok tt → rested s ≡ s
unfolding rested opened
rested_same s t e = ap (joined (run_of s)) (sym (idle_trial s t e))

-- ---- drop, where nothing is wrong with the session
pub dropped : (s : Session) → Good s → drop_call s ≡ tell Resting (rested s)
unfolding drop_call unless
dropped s g = let e : tested (session_tests None s) ≡ Ok tt = unfold Closed good7 good9 admits names in good_closed g None in rw e

-- ---- the run stays as it was

-- one supply after another, each accepted or refused
answered-run : (s : Session) (x : List Float) → run_of (answered s x) ≡ run_of s
unfolding answered
answered-run s x = refl

shown-run : (old s : Session) (o : List Float) (p : Progress) → run_of s ≡ run_of old → run_of (shown old s o p).told.session ≡ run_of old
unfolding shown
shown-run old s o refused e = refl
shown-run old s o (asking x t) e = e
shown-run old s o (ended x d g w) e = e

pub supply_run : (s : Session) (place : ℕ) (x o : List Float) → run_of (supply_call s place x o).told.session ≡ run_of s
unfolding supply_call
supply_run s place x o =
    unless_either (tested (supply_tests s place x (length o))) (refuse_lent s o) _ (λ r. run_of r.told.session ≡ run_of s) (λ j. refl)
    (λ _. shown-run s (answered s x) o (progress (answered s x)) (answered-run s x))

pub begin_run : (s : Session) (step : Float) (w : Wish) (j o : List Float) → run_of (begin_call s step w j o).told.session ≡ run_of s
unfolding begin_call
begin_run s step w j o =
    let next = begun s step (Some w) j in
    unless_either (tested (begin_tests s step (Some w) j (length o))) (refuse_lent s o) _ (λ r. run_of r.told.session ≡ run_of s) (λ k. refl)
    (λ _. shown-run s next o (progress next) (unfold begun in refl))

supplies-run : (answers : List (ℕ × (List Float × List Float))) (s : Session) → run_of (after s (supplies answers)) ≡ run_of s
unfolding supplies after perform
supplies-run [] s = refl
supplies-run ((place, (x, o)) ∷ rest) s = supplies-run rest (supply_call s place x o).told.session ∙ supply_run s place x o

-- ---- the session of a refused open: its dimension is 0
pub nothing-tested : (wants : Option Phase) → tested (session_tests wants nothing) ≡ Err Why.Places
unfolding tested session_tests good1 size_ok nothing opened
nothing-tested wants = refl

pub nothing_then : (wants : Option Phase) (handed : Tests) → tested (session_tests wants nothing ++ handed) ≡ Err Why.Places
unfolding unless
nothing_then wants handed = rw (tested-append (session_tests wants nothing) handed, nothing-tested wants)

refused_one : number (Err Why.Places) ≡ 1
unfolding number values_of
refused_one = refl

told_one : (k : Result ⊤ Refusal) (r : Told) → k ≡ Err Why.Places → number (unless k (refuse nothing) r).answer ≡ 1
unfolding unless
told_one k r e = rw e refused_one

lent_one : (k : Result ⊤ Refusal) (o : List Float) (r : Outcome) → k ≡ Err Why.Places → number (unless k (refuse_lent nothing o) r).told.answer ≡ 1
unfolding unless
lent_one k o r e = rw e refused_one

nothing_one : (c : Call) → number (perform c nothing).told.answer ≡ 1
unfolding perform begin_call supply_call accept_call drop_call first_step_call begin_tests supply_tests accept_tests first_step_tests
nothing_one (begin step w j o) = lent_one _ o _ (nothing_then (Some Rest) _)
nothing_one (supply place x o) = lent_one _ o _ (nothing_then (Some (Asking place)) _)
nothing_one (accept f) = told_one _ _ (nothing_then (Some Waiting) _)
nothing_one drop = told_one _ _ (nothing-tested None)
nothing_one (first_step largest) = told_one _ _ (nothing_then None _)

pub same_rest : (s t : Session) → run_of s ≡ run_of t → rested s ≡ rested t
unfolding rested
same_rest s t e = ap opened e

-- ---- THE CLAIMS
pub drops : Drops
drops = record {
  at_rest = λ s t e. dropped s (passed_good (Some Rest) s e) ∙ ap (tell Resting) (rested_same s t e);
  attempt = λ s t e step wish jacobian out answers typed.
      let calls = begin step wish jacobian out ∷ supplies answers in
      let kept : run_of (after s calls) ≡ run_of s =
      unfold after perform in supplies-run answers (begin_call s step wish jacobian out).told.session ∙ begin_run s step wish jacobian out in
      let good : Good (after s calls) = after_good calls s (unfold TypedCalls TypedCall in (tt, typed)) (passed_good (Some Rest) s e) in
      dropped (after s calls) good ∙ ap (tell Resting) (same_rest (after s calls) s kept ∙ rested_same s t e);
  nothing = nothing_one;
}

-- ---- the first step

largest_row : (largest : Float) → tested (largest_tests largest) ≡ Ok tt → le epsilon largest ≡ true
largest_row largest e = unfold condition largest_tests in passes (largest_tests largest) e Why.Step

no_step : {A : Type 0} (why : Refusal) (step : Float) → ◌≡◌ {A = Result Answer Refusal} (Err why) (Ok (FirstStep step)) → A
no_step why step e = cc

same_step : (x y : Float) → ◌≡◌ {A = Result Answer Refusal} (Ok (FirstStep x)) (Ok (FirstStep y)) → x ≡ y
same_step x y e = cc

pub first_steps_lem : FirstSteps
unfolding FirstSteps first_step_call first_step_tests
first_steps_lem s largest step =
    unless_either (tested (first_step_tests s largest)) (refuse s) _ (λ r. r.answer ≡ Ok (FirstStep step) → Between largest step) (λ why. no_step why step) (λ e f.
    first_step_told s.n s.relative s.absolute s.state s.derivative largest step
    (largest_row largest (both_pass (session_tests None s) (largest_tests largest) e).1) (same_step _ step f))
