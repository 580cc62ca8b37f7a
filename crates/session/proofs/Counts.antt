-- How many answers an attempt has where a call asks, and where it is ready. Assumes nothing.
use Rattle.std.proofs.Common.{ℕ, ◌+◌, ◌-◌, ◌*◌, ◌≤◌, ◌<◌, ◌≡◌, refl, subst, Bool, true, false, cond, List, arith, ltb, Float, take, ltb-true, ltb-false}
use Rattle.loops.specs.Loop.{every, mat}
use Rattle.evaluation.specs.Evaluation.{all_finite}
use Rattle.methods.specs.Step.{questions, Progress, refused, asking, ended}
use Rattle.methods.proofs.Shape.{asks_early, ends_late}
use Rattle.engine.specs.Engine.{perturbed, jacobian_entry, column_ok}
use Rattle.std.specs.Prelude.{Ok, Result, ⊤, Option, Some, None}
use Rattle.session.specs.declared.Wish.TheVariants.{Given, Difference}
use Rattle.session.specs.declared.Wish.{Wish}
use Rattle.session.specs.declared.Refusal.{Refusal}
use Rattle.session.specs.declared.Session.{Session}
use Rattle.session.specs.declared.Phase.TheVariants.{Rest, Asking, Waiting}
use Rattle.session.specs.Tests.{tested, unless}
use Rattle.session.specs.Session.{wanted, wanted_by, phase_at, phase_of, phase_number, session_tests, Sound, point_of, stepped, question, differencing, progress_of, progress}
use Rattle.session.specs.Calls.{Outcome, refuse_lent, begun, answered, ready_of, shown, begin_tests, supply_tests, begin_call, supply_call}
use Rattle.session.specs.Claims.{CountedBy, Counted, Counts}
use Rattle.session.proofs.Tests.{unless_either}
use Rattle.session.proofs.Laws.{passed_sound, in_phase, begin_passes, supply_passes, wants_more, begun_sound, answered_sound}

-- what the answers of an attempt lead to: a question while fewer than `most` are there, an end from then on
CountedAt : Progress → ℕ → ℕ → Type 0
CountedAt refused count most = Unit
CountedAt (asking x t) count most = count < most
CountedAt (ended x e g w) count most = most ≤ count

step_counted : (s : Session) (a : List Float) (j most : ℕ) → s.n ≤ 16 → j ≤ s.count → most ≡ j + questions s.scheme → CountedAt (stepped s a j) s.count most
step_counted s a j most small h q = go (stepped s a j) refl
  where
    go : (p : Progress) → stepped s a j ≡ p → CountedAt p s.count most
    go refused e = unfold CountedAt in tt
    go (asking x t) e =
        let k = asks_early s.scheme (point_of s) a (s.count - j) j s.answers x t (unfold point_of in small) e in
        unfold CountedAt in omega (arith, k.early)
    go (ended x d g w) e =
        let k = ends_late s.scheme (point_of s) a (s.count - j) j s.answers x d g w (unfold point_of in small) e in
        unfold CountedAt in omega (arith, k.late)

or_refused : (b : Bool) (p : Progress) (count most : ℕ) → CountedAt p count most → CountedAt (cond b p refused) count most
or_refused true p count most h = h
or_refused false p count most h = unfold CountedAt in tt

differencing_counted : (s : Session) → s.n ≤ 16 → CountedAt (differencing s) s.count (s.n + questions s.scheme)
unfolding differencing
differencing_counted s small = go (ltb s.count s.n) refl
  where
    column : ℕ → Bool
    column = column_ok s.n s.state s.derivative s.answers

    jacobian : List Float
    jacobian = mat s.n (jacobian_entry s.state s.derivative s.answers)

    go : (b : Bool) → ltb s.count s.n ≡ b → CountedAt (cond b
        (cond (every s.count column) (question (perturbed s.n s.state s.count) s.time) refused)
        (cond (every s.n column) (stepped s jacobian s.n) refused)) s.count (s.n + questions s.scheme)
    go true e =
        or_refused (every s.count column) _ _ _
        (unfold question in or_refused (all_finite (perturbed s.n s.state s.count)) _ _ _
        (unfold CountedAt in omega (arith, ltb-true s.count s.n e)))
    go false e = or_refused (every s.n column) _ _ _ (step_counted s jacobian s.n _ small (ltb-false s.count s.n e) refl)

progress_counted : (s : Session) → s.n ≤ 16 → CountedAt (progress s) s.count (wanted_by s)
unfolding progress wanted
progress_counted s small = go s.attempt
  where
    go : (a : Option Wish) → CountedAt (progress_of a s) s.count (wanted s.scheme s.n a)
    go None = unfold progress_of CountedAt in tt
    go (Some Given) = unfold progress_of wanted in step_counted s (take (s.n * s.n) s.jacobian) 0 _ small (omega arith) (omega arith)
    go (Some Difference) = unfold progress_of wanted in differencing_counted s small

-- ---- what is told
shown_counted : (old s : Session) (o : List Float) (p : Progress) → s.count ≤ wanted_by s → CountedAt p s.count (wanted_by s) → Counted (shown old s o p).told
unfolding Counted CountedBy CountedAt shown ready_of
shown_counted old s o refused m h = tt
shown_counted old s o (asking x t) m h = h
shown_counted old s o (ended x e g w) m h = omega arith

sound_counted : (old s : Session) (o : List Float) → Sound s → Counted (shown old s o (progress s)).told
sound_counted old s o r = shown_counted old s o (progress s) r.enough (progress_counted s r.small)

call_counted : (k : Result ⊤ Refusal) (s : Session) (o : List Float) (r : Outcome) → (k ≡ Ok tt → Counted r.told) → Counted (unless k (refuse_lent s o) r).told
call_counted k s o r h = unless_either k (refuse_lent s o) r (λ r. Counted r.told) (λ j. unfold Counted CountedBy in tt) h

waiting_all : (a : Option Wish) (place : ℕ) (b : Bool) → 2 ≡ phase_number (phase_at a place b) → b ≡ false
unfolding phase_at phase_number
waiting_all None place b e = absurd (omega (arith, e))
waiting_all (Some wish) place true e = absurd (omega (arith, e))
waiting_all (Some wish) place false e = refl

-- a session that accept takes has all its answers
pub never_asking : (s : Session) → tested (session_tests (Some Waiting) s) ≡ Ok tt → (x : List Float) (t : Float) → progress s ≡ asking x t → ⊥
never_asking s e x t p =
    let full = ltb-false s.count (wanted_by s) (waiting_all s.attempt s.count _ (unfold phase_of phase_number in in_phase Waiting s e)) in
    let less : s.count < wanted_by s = unfold CountedAt in subst (λ q. CountedAt q s.count (wanted_by s)) p (progress_counted s (passed_sound (Some Waiting) s e).small) in
    omega (arith, full, less)

-- ---- THE CLAIM
pub counts : Counts
unfolding begin_call supply_call
counts = record {
  begin = λ s step wish jacobian out.
      let next = begun s step (Some wish) jacobian in
      call_counted (tested (begin_tests s step (Some wish) jacobian _)) s out _ (λ e.
      let p = begin_passes s step (Some wish) jacobian _ e in
      sound_counted s next out (begun_sound s step wish jacobian (passed_sound (Some Rest) s p.0)));
  supply = λ s place answer out.
      let next = answered s answer in
      call_counted (tested (supply_tests s place answer _)) s out _ (λ e.
      let p = supply_passes s place answer _ e in
      sound_counted s next out (answered_sound s answer (passed_sound (Some (Asking place)) s p.0) (wants_more s place p.0)));
  accept = never_asking;
}
