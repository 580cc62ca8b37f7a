-- A run by a table keeps the lengths of a session's arrays, so its head and figures hold it. Assumes nothing.
use Rattle.std.proofs.Common.{ℕ, zero, suc, ◌≤◌, ◌≡◌, refl, ap, ◌∙◌, Bool, true, false, cond, List, Float, length, replicate, eqb, eq-eqb}
use Rattle.std.proofs.Math.ListN.{length-replicate}
use Rattle.std.specs.Prelude.{Result, Ok, Err, Some, None}
use Rattle.loops.specs.Loop.{iter}
use Rattle.loops.proofs.Stores.{length-stores}
use Rattle.float.specs.Arith.{◌⊕◌, zero+, finite}
use Rattle.evaluation.specs.Sizes.{places, answer_room}
use Rattle.methods.specs.Sizes.{etd2_number}
use Rattle.methods.specs.declared.Work.{Work}
use Rattle.methods.specs.Step.{Progress, refused, asking, ended}
use Rattle.session.specs.declared.Session.{Session}
use Rattle.session.specs.declared.Head.{Head}
use Rattle.session.specs.declared.Left.{Left}
use Rattle.session.specs.declared.Told.{Told}
use Rattle.session.specs.declared.Answer.{Answer}
use Rattle.session.specs.declared.Answer.TheVariants.{Ask, Ready, Resting, FirstStep, Filled, Norm}
use Rattle.session.specs.declared.Refusal.{Refusal}
use Rattle.session.specs.declared.Refusal.TheVariants as Why
use Rattle.session.specs.declared.Wish.TheVariants.{Difference}
use Rattle.session.specs.Tests.{tested}
use Rattle.session.specs.Values.{is_refused}
use Rattle.session.specs.Session.{Run, fresh, idle, jacobian_room, wanted, progress, session_tests}
use Rattle.session.specs.Figures.{FIGURES, session_of, figures_of}
use Rattle.session.specs.Lent.{told_by, Remains, remains, left, lent_call, lent_open}
use Rattle.session.specs.Calls.{Outcome, tell, told, refuse, refuse_lent, opened, nothing, begun, answered, moved, shown, settled, arrived}
use Rattle.session.specs.Calls.{begin_tests, supply_tests, accept_tests, open_call, begin_call, supply_call, accept_call}
use Rattle.session.proofs.Tests.{unless_either}
use Rattle.session.proofs.Laws.{passed_sound, accept_passes}
use Rattle.session.proofs.Parts.{length_part}
use Rattle.session.proofs.Ends.{Wholes, ended_whole}
use Rattle.session.proofs.Inverse.{Long, session_back}
use Rattle.table.specs.Table.{derivative}
use Rattle.table.specs.Whole.{with_derivative, opening_tests, open_by_table, whole_tests, started, answer_to, replied, answers, derivative_there, accept_after, accepted, stepped, keeping, whole_step}
use Rattle.table.proofs.Steps.{length-derivative, whole_passes}

-- ---- sessions at rest

record LongRun (r : Run) : Type 0 where
  pub absolute : length r.absolute ≡ places
  pub state : length r.state ≡ places
  pub derivative : length r.derivative ≡ places
  pub previous : length r.previous ≡ places

opened_long : (r : Run) → LongRun r → Long (opened r)
unfolding opened idle fresh
opened_long r l = record {
  absolute = l.absolute;
  state = l.state;
  derivative = l.derivative;
  previous = l.previous;
  jacobian = length-replicate jacobian_room zero+;
  answers = length-replicate answer_room zero+;
}

nothing_long : Long nothing
unfolding nothing
nothing_long =
    let sixteen = length-replicate places zero+ in
    opened_long _ (record { absolute = sixteen; state = sixteen; derivative = sixteen; previous = sixteen })

-- ---- on the way of a whole step

module _ (s : Session) (l : Long s) where
  begun_long : (step : Float) → Long (begun s step (Some Difference) (replicate jacobian_room zero+))
  unfolding begun fresh
  begun_long step = record {
    absolute = l.absolute;
    state = l.state;
    derivative = l.derivative;
    previous = l.previous;
    jacobian = length-replicate jacobian_room zero+;
    answers = length-replicate answer_room zero+;
  }

  answered_long : (x : List Float) → Long (answered s x)
  unfolding answered
  answered_long x = record {
    absolute = l.absolute;
    state = l.state;
    derivative = l.derivative;
    previous = l.previous;
    jacobian = l.jacobian;
    answers = length-stores _ _ _ _ ∙ l.answers;
  }

  kept_long : (b : Bool) (g : List Float) → length g ≡ places → length (cond b g s.previous) ≡ places
  kept_long true g h = h
  kept_long false g h = l.previous

  moved_long : (time : Float) (x f g : List Float) → length x ≡ places → length f ≡ places → length g ≡ places → Long (moved s time x f g)
  unfolding moved
  moved_long time x f g X F G =
      opened_long _ (record { absolute = l.absolute; state = X; derivative = F; previous = kept_long (eqb s.scheme etd2_number) g G })

  -- what is shown of the session that an attempt goes on with
  shown_long : (next : Session) (out : List Float) (p : Progress) → Long next → Long (shown s next out p).told.session
  unfolding shown
  shown_long next out refused h = l
  shown_long next out (asking x t) h = h
  shown_long next out (ended x e g w) h = h

  started_long : (step : Float) → Long (started s step).told.session
  unfolding started begin_call
  started_long step =
      let out = replicate s.n zero+ in
      let next = begun s step (Some Difference) (replicate jacobian_room zero+) in
      unless_either (tested (begin_tests s step (Some Difference) (replicate jacobian_room zero+) (length out))) (refuse_lent s out) (shown s next out (progress next))
      (λ (o : Outcome). Long o.told.session) (λ j. l) (λ _. shown_long next out (progress next) (begun_long step))

  supplied_long : (place : ℕ) (x out : List Float) → Long (supply_call s place x out).told.session
  unfolding supply_call
  supplied_long place x out =
      let next = answered s x in
      unless_either (tested (supply_tests s place x (length out))) (refuse_lent s out) (shown s next out (progress next)) (λ (o : Outcome). Long o.told.session) (λ j. l)
      (λ _. shown_long next out (progress next) (answered_long x))

  arrived_long : (b : Bool) (next : Session) → Long next → Long (cond b (tell Resting next) (refuse s Why.Arithmetic)).session
  arrived_long true next h = h
  arrived_long false next h = l

  settled_long : (f : List Float) (p : Progress) → length f ≡ places → ((x e g : List Float) (w : Work) → p ≡ ended x e g w → Wholes s.n x e g) → Long (settled s f p).session
  unfolding settled arrived
  settled_long f refused h whole = l
  settled_long f (asking x t) h whole = l
  settled_long f (ended x e g w) h whole =
      let k = whole x e g w refl in
      arrived_long (finite (s.time ⊕ s.step)) _ (moved_long (s.time ⊕ s.step) x f g k.candidate.vector.places h k.nonlinear.vector.places)

  accepted_long : (f : List Float) → length f ≡ places → Long (accept_call s f).session
  unfolding accept_call
  accepted_long f h =
      unless_either (tested (accept_tests s f)) (refuse s) (settled s f (progress s)) (λ (r : Told). Long r.session) (λ j. l)
      (λ e. settled_long f (progress s) h (ended_whole s (passed_sound _ s (accept_passes s f e).0).small))

module _ (n : ℕ) (t : List ℕ) (small : n ≤ places) where
  replied_long : (o : Outcome) → Long o.told.session → Long (replied n t o).told.session
  unfolding replied
  replied_long o l = go o.told.answer
    where
      go : (a : Result Answer Refusal) → Long (answer_to a n t o).told.session
      go (Ok (Ask place time)) = unfold answer_to in supplied_long o.told.session l place (derivative n t time o.out) o.out
      go (Ok (Ready norm rhs jacobians products)) = unfold answer_to in l
      go (Ok Resting) = unfold answer_to in l
      go (Ok (FirstStep step)) = unfold answer_to in l
      go (Ok (Filled terms squarings)) = unfold answer_to in l
      go (Ok (Norm norm)) = unfold answer_to in l
      go (Err k) = unfold answer_to in l

  answers-long : (m : ℕ) (o : Outcome) → Long o.told.session → Long (answers n t m o).told.session
  unfolding answers iter
  answers-long zero o l = l
  answers-long (suc m) o l = replied_long (answers n t m o) (answers-long m o l)

  ended_long : (o : Outcome) → Long o.told.session → Long (accepted n t o).session
  unfolding accepted
  ended_long o l = go o.told.answer
    where
      go : (a : Result Answer Refusal) → Long (accept_after a n t o).session
      go (Ok (Ask place time)) = unfold accept_after in l
      go (Ok (Ready norm rhs jacobians products)) =
          unfold accept_after in accepted_long o.told.session l (derivative_there n t o) (unfold derivative_there in length-derivative n t _ o.out small)
      go (Ok Resting) = unfold accept_after in l
      go (Ok (FirstStep step)) = unfold accept_after in l
      go (Ok (Filled terms squarings)) = unfold accept_after in l
      go (Ok (Norm norm)) = unfold accept_after in l
      go (Err k) = unfold accept_after in l

-- ---- an opening and a whole step

keeping_long : (s : Session) (r : Told) → Long s → Long r.session → Long (keeping s r).session
unfolding keeping
keeping_long s r l h = go (is_refused r.answer)
  where
    go : (b : Bool) → Long (cond b (told r.answer s) r).session
    go true = l
    go false = h

whole_long : (s : Session) (t : List ℕ) (step : Float) → Long s → Long (whole_step s t step).session
unfolding whole_step stepped
whole_long s t step l =
    unless_either (tested (whole_tests s t step)) (refuse s) (keeping s (stepped s t step)) (λ (r : Told). Long r.session) (λ j. l)
    (λ e. keeping_long s _ l
    (ended_long s.n t (passed_sound _ s (whole_passes s t step e).at_rest).small _
    (answers-long s.n t (passed_sound _ s (whole_passes s t step e).at_rest).small (wanted s.scheme s.n (Some Difference)) (started s step) (started_long s l step))))

opening_long : (r : Run) (t : List ℕ) → r.n ≤ places → length r.absolute ≡ places → length r.state ≡ places → length r.previous ≡ places → Long (open_by_table r t).session
unfolding open_by_table open_call
opening_long r t small a s p =
    let run = with_derivative r (derivative r.n t r.time r.state) in
    unless_either (tested (opening_tests r t)) (refuse nothing) (open_call run) (λ (r : Told). Long r.session) (λ j. nothing_long)
    (λ _. unless_either (tested (session_tests None (opened run))) (refuse nothing) (tell Resting (opened run)) (λ (r : Told). Long r.session) (λ j. nothing_long)
    (λ _. opened_long run (record { absolute = a; state = s; derivative = length-derivative r.n t r.time r.state small; previous = p })))

held_long : (k : Head) (x : List Float) → Long (session_of k x)
unfolding session_of
held_long k x = record {
  absolute = length_part x _ places;
  state = length_part x _ places;
  derivative = length_part x _ places;
  previous = length_part x _ places;
  jacobian = length_part x _ jacobian_room;
  answers = length_part x _ answer_room;
}

-- ---- what head and figures hold after a call

-- the session that was told of
back : (t : Told) → Long t.session → told_by (left t) (figures_of t.session) ≡ t
unfolding left
back t l = ap (told t.answer) (session_back t.session l)

pub whole_held : (k : Head) (x : List Float) (t : List ℕ) (step : Float) {l : Left} {y : List Float} → length x ≡ FIGURES
    → remains l y ≡ lent_call (eqb (length x) FIGURES) k x (λ s. whole_step s t step) → told_by l y ≡ whole_step (session_of k x) t step
unfolding lent_call
whole_held k x t step {l} {y} long e =
    ap (λ (r : Remains). told_by r.left r.figures) (rw (eq-eqb (length x) FIGURES long) at e) ∙ back (whole_step (session_of k x) t step) (whole_long (session_of k x) t step (held_long k x))

pub opening_held : (r : Run) (t : List ℕ) (x : List Float) {l : Left} {y : List Float} → r.n ≤ places → length r.absolute ≡ places → length r.state ≡ places
    → length r.previous ≡ places → remains l y ≡ lent_open true x (open_by_table r t) → told_by l y ≡ open_by_table r t
unfolding lent_open
opening_held r t x small a s p e = ap (λ (r : Remains). told_by r.left r.figures) e ∙ back (open_by_table r t) (opening_long r t small a s p)
