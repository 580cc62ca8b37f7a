-- A session that an accepted call returns is refused by nothing but 7 and 9. Assumes nothing.
use Rattle.std.proofs.Common.{ℕ, ◌+◌, ◌<◌, arith, ◌≡◌, refl, sym, subst, ◌⊎◌, inl, inr, Bool, true, false, cond, ◌&&◌, List, [], ◌∷◌, ltb, leb, eqb, Float, length, le-leb}
use Rattle.std.proofs.Math.Decide.{ℕ_discrete}
use Rattle.std.proofs.Math.Bool.{false≢true}
use Rattle.std.specs.Float.Ieee.{of_bits}
use Rattle.loops.proofs.Bools.{both_true}
use Rattle.float.specs.Arith.{◌⊕◌, zero+, finite, plus_zero}
use Rattle.evaluation.specs.Evaluation.{all_finite}
use Rattle.evaluation.specs.Sizes.{places, answer_room}
use Rattle.methods.specs.Sizes.{etd2_number}
use Rattle.methods.specs.declared.Work.{Work}
use Rattle.methods.specs.Step.{Progress, refused, asking, ended}
use Rattle.methods.specs.Shape.{Whole}
use Rattle.std.specs.Prelude.{Ok, Result, Err, ⊤, Option, Some, None}
use Rattle.session.specs.declared.Phase.{Phase}
use Rattle.session.specs.declared.Refusal.{Refusal}
use Rattle.session.specs.declared.Refusal.TheVariants as Why
use Rattle.session.specs.declared.Session.{Session}
use Rattle.session.specs.declared.Told.{Told}
use Rattle.session.specs.declared.Answer.TheVariants.{Resting}
use Rattle.session.specs.declared.History.TheVariants.{Held}
use Rattle.session.specs.declared.Wish.{Wish}
use Rattle.session.specs.declared.Wish.TheVariants.{Given, Difference}
use Rattle.session.specs.declared.Phase.TheVariants.{Rest, Asking, Waiting}
use Rattle.session.specs.Tests.{tested, condition, unless}
use Rattle.session.specs.Values.{number, values_of}
use Rattle.session.specs.Session.{jacobian_room, schemes, Run, fresh, idle, clear, clear_answers, used_history, used_jacobian, step_clear, wanted, wanted_by}
use Rattle.session.specs.Session.{size_ok, run_places, attempt_places, good1, history_ok, good2, good4, step_ok, good5, good3, session_tests, progress}
use Rattle.session.specs.Calls.{Outcome, tell, refuse, refuse_lent, opened, nothing, begun, rested, answered, moved, shown, arrived, settled}
use Rattle.session.specs.Calls.{vector_tests, attempt_tests, begin_tests, supply_tests, accept_tests, first_step_tests}
use Rattle.session.specs.Calls.{open_call, begin_call, supply_call, accept_call, drop_call, first_step_call}
use Rattle.session.specs.Refusals.{Kept, Unchanged}
use Rattle.session.specs.Runs.{Call, begin, supply, accept, drop, first_step, perform, after}
use Rattle.session.specs.Claims.{TypedCall, TypedCalls, Closed, Closes}
use Rattle.session.proofs.Tests.{some_number, unless_either}
use Rattle.session.proofs.Laws.{session_row, passed_sound, wants_more, begin_passes, supply_passes, accept_passes, first_step_passes, attempt_row, vector_row}
use Rattle.session.proofs.Clear.{clear-zeros, clear-answers-zeros, finite-zeros, vector_clear, clear-answered, finite-answered}
use Rattle.session.proofs.Refusals.{refusals}
use Rattle.session.proofs.Ends.{Wholes, ended_whole}

-- ---- what every test but 7's says of a session

pub record Good (s : Session) : Type 0 where
  pub size : size_ok s.n ≡ true
  pub absolute : clear s.n s.absolute ≡ true
  pub state : clear s.n s.state ≡ true
  pub derivative : clear s.n s.derivative ≡ true
  pub previous : clear (used_history s.history s.n) s.previous ≡ true
  pub step : step_clear s.attempt s.step ≡ true
  pub jacobian : clear (used_jacobian s.attempt s.n) s.jacobian ≡ true
  pub answers : clear_answers s.count s.n s.answers ≡ true
  pub scheme : ltb s.scheme schemes ≡ true
  pub history : history_ok s.history s.scheme ≡ true
  pub count : leb s.count (wanted_by s) ≡ true
  pub tolerances : good4 s ≡ true
  pub attempt : good5 s.attempt s.step ≡ true
  pub time_finite : finite s.time ≡ true
  pub state_finite : all_finite s.state ≡ true
  pub derivative-finite : all_finite s.derivative ≡ true
  pub previous_finite : all_finite s.previous ≡ true
  pub jacobian_finite : all_finite s.jacobian ≡ true
  pub answers-finite : all_finite s.answers ≡ true

sized : (b p : Bool) → cond b p false ≡ true → (b ≡ true) × (p ≡ true)
sized true p e = (refl, e)
sized false p e = absurd (false≢true e)

-- both ways: from the rows, and to them
pub passed_good : (wants : Option Phase) (s : Session) → tested (session_tests wants s) ≡ Ok tt → Good s
passed_good wants s e =
    let one = sized (size_ok s.n) (run_places s && attempt_places s) (unfold condition session_tests good1 in session_row wants s e Why.Places) in
    let both = both_true (run_places s) (attempt_places s) one.1 in
    let run =
    both_true (clear s.n s.absolute && clear s.n s.state && clear s.n s.derivative) (clear (used_history s.history s.n) s.previous)
    (unfold run_places in both.0) in
    let two = both_true (clear s.n s.absolute && clear s.n s.state) (clear s.n s.derivative) run.0 in
    let own = both_true (clear s.n s.absolute) (clear s.n s.state) two.0 in
    let trial =
    both_true (step_clear s.attempt s.step && clear (used_jacobian s.attempt s.n) s.jacobian) (clear_answers s.count s.n s.answers)
    (unfold attempt_places in both.1) in
    let head = both_true (step_clear s.attempt s.step) (clear (used_jacobian s.attempt s.n) s.jacobian) trial.0 in
    let scheme =
    both_true (ltb s.scheme schemes && history_ok s.history s.scheme) (leb s.count (wanted_by s))
    (unfold condition session_tests good2 in session_row wants s e Why.Scheme) in
    let scheme2 = both_true (ltb s.scheme schemes) (history_ok s.history s.scheme) scheme.0 in
    let all =
    both_true (finite s.time && all_finite s.state && all_finite s.derivative && all_finite s.previous && all_finite s.jacobian) (all_finite s.answers)
    (unfold condition session_tests good3 in session_row wants s e Why.NotFinite) in
    let four = both_true (finite s.time && all_finite s.state && all_finite s.derivative && all_finite s.previous) (all_finite s.jacobian) all.0 in
    let three = both_true (finite s.time && all_finite s.state && all_finite s.derivative) (all_finite s.previous) four.0 in
    let pair = both_true (finite s.time && all_finite s.state) (all_finite s.derivative) three.0 in
    let first = both_true (finite s.time) (all_finite s.state) pair.0 in
    record {
      size = one.0;
      absolute = own.0;
      state = own.1;
      derivative = two.1;
      previous = run.1;
      step = head.0;
      jacobian = head.1;
      answers = trial.1;
      scheme = scheme2.0;
      history = scheme2.1;
      count = scheme.1;
      tolerances = unfold condition session_tests in session_row wants s e Why.Tolerance;
      attempt = unfold condition session_tests in session_row wants s e Why.Step;
      time_finite = first.0;
      state_finite = first.1;
      derivative-finite = pair.1;
      previous_finite = three.1;
      jacobian_finite = four.1;
      answers-finite = all.1;
    }

pub good_closed : {s : Session} → Good s → Closed s
unfolding Closed tested session_tests good1 run_places attempt_places good2 good3
good_closed {s} g wants =
    rw (
      g.size,
      g.absolute,
      g.state,
      g.derivative,
      g.previous,
      g.step,
      g.jacobian,
      g.answers,
      g.scheme,
      g.history,
      g.count,
      g.tolerances,
      g.attempt,
      g.time_finite,
      g.state_finite,
      g.derivative-finite,
      g.previous_finite,
      g.jacobian_finite,
      g.answers-finite,
    )

-- ---- the sessions that the calls make

started : (w : Wish) (step : Float) → step_clear (Some w) step ≡ true
unfolding step_clear
started Given step = refl
started Difference step = refl

step_good : (w : Wish) (step : Float) → step_ok step ≡ true → good5 (Some w) step ≡ true
unfolding good5
step_good Given step e = e
step_good Difference step e = e

pub begun_good : (s : Session) (step : Float) (w : Wish) (j : List Float) (lent : ℕ) → Good s → tested (attempt_tests s.n step (Some w) j lent) ≡ Ok tt
    → Good (begun s step (Some w) j)
unfolding begun fresh good4
begun_good s step w j lent g e =
    let row = attempt_row s.n step (Some w) j lent e in
    record {
      size = g.size;
      absolute = g.absolute;
      state = g.state;
      derivative = g.derivative;
      previous = g.previous;
      step = started w step;
      jacobian = (both_true (clear (used_jacobian (Some w) s.n) j) (eqb lent s.n) (unfold condition attempt_tests in row Why.Places)).0;
      answers = clear-answers-zeros 0 s.n answer_room;
      scheme = g.scheme;
      history = g.history;
      count = le-leb 0 (wanted s.scheme s.n (Some w)) (omega arith);
      tolerances = g.tolerances;
      attempt = step_good w step (unfold condition attempt_tests in row Why.Step);
      time_finite = g.time_finite;
      state_finite = g.state_finite;
      derivative-finite = g.derivative-finite;
      previous_finite = g.previous_finite;
      jacobian_finite = unfold condition attempt_tests in row Why.NotFinite;
      answers-finite = finite-zeros answer_room;
    }

pub answered_good : (s : Session) (x : List Float) (lent : Bool) → length x ≡ places → Good s → s.count < wanted_by s → tested (vector_tests s.n x lent) ≡ Ok tt → Good (answered s x)
unfolding answered good4
answered_good s x lent sixteen g more e =
    let row = vector_row s.n x lent e in
    record {
      size = g.size;
      absolute = g.absolute;
      state = g.state;
      derivative = g.derivative;
      previous = g.previous;
      step = g.step;
      jacobian = g.jacobian;
      answers =
          clear-answered s.n s.count x s.answers sixteen
          (both_true (clear s.n x) lent (unfold condition vector_tests in row Why.Places)).0 g.answers;
      scheme = g.scheme;
      history = g.history;
      count = le-leb (s.count + 1) (wanted_by s) (omega arith);
      tolerances = g.tolerances;
      attempt = g.attempt;
      time_finite = g.time_finite;
      state_finite = g.state_finite;
      derivative-finite = g.derivative-finite;
      previous_finite = g.previous_finite;
      jacobian_finite = g.jacobian_finite;
      answers-finite = finite-answered s.n s.count x s.answers sixteen (unfold condition vector_tests in row Why.NotFinite) g.answers-finite;
    }

-- a run at rest: what is asked of its fields
pub record GoodRun (r : Run) : Type 0 where
  pub size : size_ok r.n ≡ true
  pub absolute : clear r.n r.absolute ≡ true
  pub state : clear r.n r.state ≡ true
  pub derivative : clear r.n r.derivative ≡ true
  pub previous : clear (used_history r.history r.n) r.previous ≡ true
  pub scheme : ltb r.scheme schemes ≡ true
  pub history : history_ok r.history r.scheme ≡ true
  pub tolerances : good4 (opened r) ≡ true
  pub time_finite : finite r.time ≡ true
  pub state_finite : all_finite r.state ≡ true
  pub derivative-finite : all_finite r.derivative ≡ true
  pub previous_finite : all_finite r.previous ≡ true

zero_clear : step_clear None zero+ ≡ true
unfolding step_clear plus_zero of_bits
zero_clear = refl

pub opened_good : (r : Run) → GoodRun r → Good (opened r)
unfolding opened idle fresh wanted good5 used_jacobian
opened_good r g = record {
  size = g.size;
  absolute = g.absolute;
  state = g.state;
  derivative = g.derivative;
  previous = g.previous;
  step = zero_clear;
  jacobian = clear-zeros 0 jacobian_room;
  answers = clear-answers-zeros 0 r.n answer_room;
  scheme = g.scheme;
  history = g.history;
  count = refl;
  tolerances = g.tolerances;
  attempt = refl;
  time_finite = g.time_finite;
  state_finite = g.state_finite;
  derivative-finite = g.derivative-finite;
  previous_finite = g.previous_finite;
  jacobian_finite = finite-zeros jacobian_room;
  answers-finite = finite-zeros answer_room;
}

pub rested_good : (s : Session) → Good s → Good (rested s)
unfolding rested
rested_good s g =
    opened_good _ (unfold opened good4 in record {
      size = g.size;
      absolute = g.absolute;
      state = g.state;
      derivative = g.derivative;
      previous = g.previous;
      scheme = g.scheme;
      history = g.history;
      tolerances = g.tolerances;
      time_finite = g.time_finite;
      state_finite = g.state_finite;
      derivative-finite = g.derivative-finite;
      previous_finite = g.previous_finite;
    })

-- the history after accept: the nonlinear part under Etd2, otherwise what was there
module _ (s : Session) (g : List Float) (good : Good s) (G : Whole s.n g) where
  kept_clear : (b : Bool) → clear (used_history (cond b Held s.history) s.n) (cond b g s.previous) ≡ true
  kept_clear true = unfold used_history in vector_clear G.vector
  kept_clear false = good.previous

  kept_finite : (b : Bool) → all_finite (cond b g s.previous) ≡ true
  kept_finite true = G.numbers
  kept_finite false = good.previous_finite

  kept_allowed : (b : Bool) → eqb s.scheme etd2_number ≡ b → history_ok (cond b Held s.history) s.scheme ≡ true
  kept_allowed true e = unfold history_ok in e
  kept_allowed false e = good.history

pub moved_good : (s : Session) (time : Float) (x f g : List Float) → Good s → finite time ≡ true → Whole s.n x → Whole s.n g
    → tested (vector_tests s.n f true) ≡ Ok tt → Good (moved s time x f g)
unfolding moved
moved_good s time x f g good t X G e =
    let row = vector_row s.n f true e in
    opened_good _ (unfold opened good4 in record {
      size = good.size;
      absolute = good.absolute;
      state = vector_clear X.vector;
      derivative = (both_true (clear s.n f) true (unfold condition vector_tests in row Why.Places)).0;
      previous = kept_clear s g good G (eqb s.scheme etd2_number);
      scheme = good.scheme;
      history = kept_allowed s g good G (eqb s.scheme etd2_number) refl;
      tolerances = good.tolerances;
      time_finite = t;
      state_finite = X.numbers;
      derivative-finite = unfold condition vector_tests in row Why.NotFinite;
      previous_finite = kept_finite s g good G (eqb s.scheme etd2_number);
    })

-- ---- a call that is accepted

-- a refusal has a number
pub not_refused : {A : Type 0} (why : Refusal) → number (Err why) ≡ 0 → A
unfolding number values_of
not_refused why e = some_number why e

-- what is shown of an attempt whose session is good
shown_good : (old s : Session) (o : List Float) (p : Progress) → Good s → number (shown old s o p).told.answer ≡ 0 → Good (shown old s o p).told.session
unfolding shown
shown_good old s o refused g e = not_refused Why.Arithmetic e
shown_good old s o (asking x t) g e = g
shown_good old s o (ended x d h w) g e = g

settled_good : (s : Session) (f : List Float) (p : Progress) → Good s → ((x e g : List Float) (w : Work) → p ≡ ended x e g w → Wholes s.n x e g)
    → tested (vector_tests s.n f true) ≡ Ok tt → number (settled s f p).answer ≡ 0 → Good (settled s f p).session
unfolding settled arrived
settled_good s f refused g w v e = not_refused Why.Arithmetic e
settled_good s f (asking x t) g w v e = not_refused Why.Arithmetic e
settled_good s f (ended x d h work) g w v e = go (finite (s.time ⊕ s.step)) refl e
  where
    k : Wholes s.n x d h
    k = w x d h work refl

    go : (b : Bool) → finite (s.time ⊕ s.step) ≡ b → number (cond b (tell Resting (moved s (s.time ⊕ s.step) x f h)) (refuse s Why.Arithmetic)).answer ≡ 0
        → Good (cond b (tell Resting (moved s (s.time ⊕ s.step) x f h)) (refuse s Why.Arithmetic)).session
    go true t e = moved_good s (s.time ⊕ s.step) x f h g t k.candidate k.nonlinear v
    go false t e = not_refused Why.Arithmetic e

told_good : (k : Result ⊤ Refusal) (s : Session) (r : Told) → (k ≡ Ok tt → number r.answer ≡ 0 → Good r.session) → number (unless k (refuse s) r).answer ≡ 0 → Good (unless k (refuse s) r).session
told_good k s r h = unless_either k (refuse s) r (λ r. number r.answer ≡ 0 → Good r.session) (λ j e. not_refused j e) h

lent_good : (k : Result ⊤ Refusal) (s : Session) (o : List Float) (r : Outcome) → (k ≡ Ok tt → number r.told.answer ≡ 0 → Good r.told.session)
    → number (unless k (refuse_lent s o) r).told.answer ≡ 0 → Good (unless k (refuse_lent s o) r).told.session
lent_good k s o r h = unless_either k (refuse_lent s o) r (λ r. number r.told.answer ≡ 0 → Good r.told.session) (λ j e. not_refused j e) h

open_good : (r : Run) → number (open_call r).answer ≡ 0 → Good (open_call r).session
unfolding open_call
open_good r = told_good (tested (session_tests None (opened r))) nothing (tell Resting (opened r)) (λ e _. passed_good None (opened r) e)

begin_good : (s : Session) (step : Float) (w : Wish) (j o : List Float) → number (begin_call s step w j o).told.answer ≡ 0 → Good (begin_call s step w j o).told.session
unfolding begin_call
begin_good s step w j o =
    let next = begun s step (Some w) j in
    lent_good (tested (begin_tests s step (Some w) j (length o))) s o (shown s next o (progress next)) (λ e.
    let p = begin_passes s step (Some w) j (length o) e in
    shown_good s next o (progress next) (begun_good s step w j (length o) (passed_good (Some Rest) s p.0) p.1))

supply_good : (s : Session) (place : ℕ) (x o : List Float) → length x ≡ places → number (supply_call s place x o).told.answer ≡ 0 → Good (supply_call s place x o).told.session
unfolding supply_call
supply_good s place x o sixteen =
    let next = answered s x in
    lent_good (tested (supply_tests s place x (length o))) s o (shown s next o (progress next)) (λ e.
    let p = supply_passes s place x (length o) e in
    shown_good s next o (progress next)
    (answered_good s x (eqb (length o) s.n) sixteen (passed_good (Some (Asking place)) s p.0) (wants_more s place p.0) p.1))

accept_good : (s : Session) (f : List Float) → number (accept_call s f).answer ≡ 0 → Good (accept_call s f).session
unfolding accept_call
accept_good s f =
    told_good (tested (accept_tests s f)) s (settled s f (progress s)) (λ e.
    let p = accept_passes s f e in
    settled_good s f (progress s) (passed_good (Some Waiting) s p.0) (ended_whole s (passed_sound (Some Waiting) s p.0).small) p.1)

drop_good : (s : Session) → number (drop_call s).answer ≡ 0 → Good (drop_call s).session
unfolding drop_call
drop_good s = told_good (tested (session_tests None s)) s (tell Resting (rested s)) (λ e _. rested_good s (passed_good None s e))

first_good : (s : Session) (largest : Float) → number (first_step_call s largest).answer ≡ 0 → Good (first_step_call s largest).session
unfolding first_step_call
first_good s largest = told_good (tested (first_step_tests s largest)) s _ (λ e _. passed_good None s (first_step_passes s largest e))

pub performed_good : (c : Call) (s : Session) → TypedCall c → number (perform c s).told.answer ≡ 0 → Good (perform c s).told.session
unfolding perform TypedCall
performed_good (begin step w j o) s t = begin_good s step w j o
performed_good (supply place x o) s t = supply_good s place x o t
performed_good (accept f) s t = accept_good s f
performed_good drop s t = drop_good s
performed_good (first_step largest) s t = first_good s largest

-- ---- runs

-- a call is accepted, or leaves the session as it was
pub kept_or_accepted : (c : Call) (s : Session) → (number (perform c s).told.answer ≡ 0) ⊎ ((perform c s).told.session ≡ s)
kept_or_accepted c s = go (ℕ_discrete (number (perform c s).told.answer) 0)
  where
    same : (c : Call) → (number (perform c s).told.answer ≡ 0 → ⊥) → (perform c s).told.session ≡ s
    same (begin step w j o) n = unfold perform Unchanged in (refusals.begin s step w j o n).0
    same (supply place x o) n = unfold perform Unchanged in (refusals.supply s place x o n).0
    same (accept f) n = unfold perform Kept in refusals.accept s f n
    same drop n = unfold perform Kept in refusals.drop s n
    same (first_step largest) n = unfold perform Kept in refusals.first_step s largest n

    go : Dec (number (perform c s).told.answer ≡ 0) → (number (perform c s).told.answer ≡ 0) ⊎ ((perform c s).told.session ≡ s)
    go (yes e) = inl e
    go (no n) = inr (same c n)

pub after_good : (cs : List Call) (s : Session) → TypedCalls cs → Good s → Good (after s cs)
unfolding after TypedCalls
after_good [] s t g = g
after_good (c ∷ cs) s t g =
    after_good cs (perform c s).told.session t.1
    (elim (kept_or_accepted c s) [ inl e ↦ performed_good c s t.0 e | inr e ↦ subst Good (sym e) g ])

-- ---- THE CLAIM
pub closes : Closes
closes = record {
  opens = λ r e. good_closed (open_good r e);
  call = λ c s t e. good_closed (performed_good c s t e);
  run = λ r cs e t. good_closed (after_good cs (open_call r).session t (open_good r e));
}
