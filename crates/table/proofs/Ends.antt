-- How a whole step ends: it asks no more than its attempt wants, and then rests, or is refused by 3 or 6. Assumes nothing.
use Rattle.std.proofs.Common.{ℕ, zero, suc, ◌+◌, ◌-◌, ◌≤◌, ◌<◌, arith, ◌≡◌, refl, sym, ap, ◌∙◌, subst, ◌⊎◌, inl, inr, Bool, true, false, cond, List, Float}
use Rattle.std.proofs.Common.{eqb, ltb, length, replicate, lt-ltb, le-ltb, eq-eqb}
use Rattle.std.proofs.Math.Numerals.{add-one}
use Rattle.std.proofs.Math.ListN.{length-replicate}
use Rattle.std.specs.Prelude.{Result, Ok, Err, ⊤, Option, Some}
use Rattle.loops.specs.Loop.{iter, ◌!◌}
use Rattle.loops.proofs.Loops.{length-tab}
use Rattle.float.specs.Arith.{◌⊕◌, zero+, finite}
use Rattle.evaluation.specs.Sizes.{places}
use Rattle.evaluation.specs.Evaluation.{all_finite}
use Rattle.methods.specs.Step.{Progress, refused, asking, ended}
use Rattle.methods.proofs.Shape.{vec_vector}
use Rattle.session.specs.declared.Session.{Session}
use Rattle.session.specs.declared.Told.{Told}
use Rattle.session.specs.declared.Answer.{Answer}
use Rattle.session.specs.declared.Answer.TheVariants.{Ask, Ready, Resting, FirstStep, Filled, Norm}
use Rattle.session.specs.declared.Refusal.{Refusal}
use Rattle.session.specs.declared.Refusal.TheVariants as Why
use Rattle.session.specs.declared.Wish.{Wish}
use Rattle.session.specs.declared.Wish.TheVariants.{Difference}
use Rattle.session.specs.declared.Phase.{Phase}
use Rattle.session.specs.declared.Phase.TheVariants.{Rest, Asking, Waiting}
use Rattle.session.specs.Tests.{tested, unless}
use Rattle.session.specs.Session.{Run, jacobian_room, fresh, clear, used_jacobian, wanted, wanted_by, phase_at, phase_of, phase_number, admits, names, good7, good9, session_tests, progress}
use Rattle.session.specs.Calls.{Outcome, tell, refuse, refuse_lent, begun, answered, moved, ready_of, shown, arrived, settled, vector_tests, attempt_tests, begin_tests, supply_tests, accept_tests}
use Rattle.session.specs.Calls.{begin_call, supply_call, accept_call}
use Rattle.session.specs.Claims.{Counted, CountedBy, Closed}
use Rattle.session.proofs.Laws.{session_then, passed_sound}
use Rattle.session.proofs.Clear.{clear-zeros, finite-zeros, vector_clear}
use Rattle.session.proofs.Closed.{Good, passed_good, good_closed}
use Rattle.session.proofs.Counts.{counts}
use Rattle.session.proofs.Questions.{asked_passes}
use Rattle.table.specs.Table.{summed, records, derivative}
use Rattle.table.specs.Whole.{started, answer_to, replied, answers, derivative_there, accept_after, accepted, stepped}
use Rattle.table.proofs.Steps.{Passed, OnTheWay, started_way, answers_way}

-- how many answers the attempt of a whole step wants
abbrev due : Session → ℕ
due s = wanted s.scheme s.n (Some Difference)

-- ---- a session on the way takes what it waits for

attempt_phase : (s : Session) → s.attempt ≡ Some Difference → (b : Bool) → ltb s.count (wanted_by s) ≡ b → phase_of s ≡ cond b (Asking s.count) Waiting
unfolding phase_of phase_at
attempt_phase s e b f = ap (λ (a : Option Wish). phase_at a s.count (ltb s.count (wanted_by s))) e ∙ ap (λ (c : Bool). cond c (Asking s.count) Waiting) f

asking_passes : (s : Session) (place : ℕ) → Good s → s.attempt ≡ Some Difference → s.count < wanted_by s → place ≡ s.count → tested (session_tests (Some (Asking place)) s) ≡ Ok tt
asking_passes s place g e h named =
    asked_passes s place (good_closed g) (attempt_phase s e true (lt-ltb s.count (wanted_by s) h) ∙ ap Asking (sym named))

waiting_passes : (s : Session) → Good s → s.attempt ≡ Some Difference → s.count ≡ wanted_by s → tested (session_tests (Some Waiting) s) ≡ Ok tt
unfolding Closed good7 good9 admits names phase_number
waiting_passes s g e h =
    let p : phase_of s ≡ Waiting = attempt_phase s e false (le-ltb s.count (wanted_by s) (omega (arith, h))) in
    good_closed g (Some Waiting) ∙ ap (λ (q : Phase). cond (eqb 2 (phase_number q)) (Ok tt) (Err Why.Phase)) p

-- ---- a derivative is refused by 3 or by nothing

pub derivative-clear : (n : ℕ) (t : List ℕ) (time : Float) (u : List Float) → n ≤ places → clear n (derivative n t time u) ≡ true
unfolding derivative
derivative-clear n t time u h = vector_clear (vec_vector n (λ i. summed t time u i (records t)) h)

-- the verdict on a vector whose other tests hold
abbrev pub verdict : Bool → Result ⊤ Refusal
verdict b = cond b (Ok tt) (Err Why.NotFinite)

handed_verdict : (n : ℕ) (d : List Float) (lent : Bool) → clear n d ≡ true → lent ≡ true → verdict (all_finite d) ≡ tested (vector_tests n d lent)
unfolding vector_tests tested
handed_verdict n d lent e f = rw (e, f)

-- ---- where an attempt stands after m answers

-- it asks the question at a place
pub record Asks (n m place : ℕ) (o : Outcome) : Type 0 where
  pub named : place ≡ o.told.session.count
  pub count : o.told.session.count ≡ m
  pub few : o.told.session.count < wanted_by o.told.session
  pub attempt : o.told.session.attempt ≡ Some Difference
  pub room : length o.out ≡ n

pub record Waits (o : Outcome) : Type 0 where
  pub all : o.told.session.count ≡ wanted_by o.told.session
  pub attempt : o.told.session.attempt ≡ Some Difference

unfoldable pub StandsBy : Result Answer Refusal → ℕ → ℕ → Outcome → Type 0
StandsBy (Ok (Ask place time)) n m o = Asks n m place o
StandsBy (Ok (Ready norm rhs jacobians products)) n m o = Waits o
StandsBy (Ok Resting) n m o = ⊥
StandsBy (Ok (FirstStep step)) n m o = ⊥
StandsBy (Ok (Filled terms squarings)) n m o = ⊥
StandsBy (Ok (Norm norm)) n m o = ⊥
StandsBy (Err k) n m o = (k ≡ Why.NotFinite) ⊎ (k ≡ Why.Arithmetic)

abbrev pub Stands : ℕ → ℕ → Outcome → Type 0
Stands n m o = StandsBy o.told.answer n m o

-- what is shown of an attempt with m answers
shown_stands : (old next : Session) (out : List Float) (m : ℕ) (p : Progress) → Counted (shown old next out p).told → next.count ≡ m → next.attempt ≡ Some Difference
    → Stands next.n m (shown old next out p)
unfolding shown StandsBy Counted CountedBy ready_of
shown_stands old next out m refused c e f = inr refl
shown_stands old next out m (asking x time) c e f = record { named = refl; count = e; few = c; attempt = f; room = length-tab next.n (λ i. x ! i) }
shown_stands old next out m (ended x d g w) c e f = record { all = c; attempt = f }

-- after begin: the attempt that it starts
abbrev begins : Session → Float → Session
begins s step = begun s step (Some Difference) (replicate jacobian_room zero+)

begin_verdict : (s : Session) (t : List ℕ) (step : Float) → Passed s t step
    → Ok tt ≡ tested (begin_tests s step (Some Difference) (replicate jacobian_room zero+) (length (replicate s.n zero+)))
unfolding begin_tests attempt_tests used_jacobian tested
begin_verdict s t step p =
    session_then (Some Rest) s _ (sym p.at_rest) refl
    (rw (clear-zeros 0 jacobian_room, eq-eqb (length (replicate s.n zero+)) s.n (length-replicate s.n zero+), p.good_step, finite-zeros jacobian_room))

begun-shown : (s : Session) (t : List ℕ) (step : Float) → Passed s t step
    → started s step ≡ shown s (begins s step) (replicate s.n zero+) (progress (begins s step))
unfolding started begin_call unless
begun-shown s t step p = rw (← (begin_verdict s t step p))

started_counted : (s : Session) (step : Float) → Counted (started s step).told
unfolding started
started_counted s step = counts.begin s step Difference (replicate jacobian_room zero+) (replicate s.n zero+)

pub started_stands : (s : Session) (t : List ℕ) (step : Float) → Passed s t step → Stands s.n 0 (started s step)
started_stands s t step p =
    let out = replicate s.n zero+ in
    let next = begins s step in
    subst (Stands s.n 0) (sym (begun-shown s t step p))
    (begun_stands s step out (progress next) (subst (λ (o : Outcome). Counted o.told) (begun-shown s t step p) (started_counted s step)))
  where
    begun_stands : (s : Session) (step : Float) (out : List Float) (p : Progress)
        → Counted (shown s (begins s step) out p).told
        → Stands s.n 0 (shown s (begins s step) out p)
    begun_stands s step out p c =
        unfold begun fresh in shown_stands s (begins s step) out 0 p c refl refl

-- after one answer more
module _ (n : ℕ) (t : List ℕ) (small : n ≤ places) (o : Outcome) (same : o.told.session.n ≡ n) (good : Good o.told.session) where
  abbrev S : Session
  S = o.told.session

  module _ (m place : ℕ) (asks : Asks n m place o) (time : Float) where
    abbrev d : List Float
    d = derivative n t time o.out

    supply_verdict : (b : Bool) → all_finite d ≡ b → verdict b ≡ tested (supply_tests S place d (length o.out))
    unfolding supply_tests
    supply_verdict b e =
        session_then (Some (Asking place)) S (vector_tests S.n d (eqb (length o.out) S.n)) (sym (asking_passes S place good asks.attempt asks.few asks.named)) refl
        (ap verdict (sym e)
        ∙ handed_verdict S.n d (eqb (length o.out) S.n) (subst (λ (k : ℕ). clear k d ≡ true) (sym same) (derivative-clear n t time o.out small))
        (eq-eqb (length o.out) S.n (asks.room ∙ sym same)))

    pub supply_three : all_finite d ≡ false → supply_call S place d o.out ≡ refuse_lent S o.out Why.NotFinite
    unfolding supply_call unless
    supply_three e = rw (← (supply_verdict false e))

    supply_shown : all_finite d ≡ true → supply_call S place d o.out ≡ shown S (answered S d) o.out (progress (answered S d))
    unfolding supply_call unless
    supply_shown e = rw (← (supply_verdict true e))

    answered_stands : (p : Progress) → Counted (shown S (answered S d) o.out p).told → Stands n (m + 1) (shown S (answered S d) o.out p)
    answered_stands p c =
        subst (λ (k : ℕ). Stands k (m + 1) (shown S (answered S d) o.out p)) same
        (unfold answered in shown_stands S (answered S d) o.out (m + 1) p c (ap (λ (k : ℕ). k + 1) asks.count) asks.attempt)

    supplied_stands : Stands n (m + 1) (supply_call S place d o.out)
    supplied_stands = go (all_finite d) refl
      where
        go : (b : Bool) → all_finite d ≡ b → Stands n (m + 1) (supply_call S place d o.out)
        go false e = subst (Stands n (m + 1)) (sym (supply_three e)) (unfold StandsBy in inl refl)
        go true e =
            subst (Stands n (m + 1)) (sym (supply_shown e))
            (answered_stands (progress (answered S d)) (subst (λ (r : Outcome). Counted r.told) (supply_shown e) (counts.supply S place d o.out)))

  pub replied_stands : (m : ℕ) → Stands n m o → Stands n (m + 1) (replied n t o)
  unfolding replied
  replied_stands m = go o.told.answer refl
    where
      stays : (a : Result Answer Refusal) → o.told.answer ≡ a → StandsBy a n (m + 1) o → Stands n (m + 1) o
      stays a e h = subst (λ (b : Result Answer Refusal). StandsBy b n (m + 1) o) (sym e) h

      go : (a : Result Answer Refusal) → o.told.answer ≡ a → StandsBy a n m o → Stands n (m + 1) (answer_to a n t o)
      go (Ok (Ask place time)) e h = unfold answer_to in supplied_stands m place (unfold StandsBy in h) time
      go (Ok (Ready norm rhs jacobians products)) e h = unfold answer_to in stays (Ok (Ready norm rhs jacobians products)) e (unfold StandsBy in h)
      go (Ok Resting) e h = absurd (unfold StandsBy in h)
      go (Ok (FirstStep step)) e h = absurd (unfold StandsBy in h)
      go (Ok (Filled terms squarings)) e h = absurd (unfold StandsBy in h)
      go (Ok (Norm norm)) e h = absurd (unfold StandsBy in h)
      go (Err k) e h = unfold answer_to in stays (Err k) e (unfold StandsBy in h)

-- the run stays, so the dimension and the answers wanted do
way_size : (s : Session) (o : Outcome) → OnTheWay s o → o.told.session.n ≡ s.n
way_size s o w = ap (λ (r : Run). r.n) w.run

way_wanted : (s : Session) (o : Outcome) → OnTheWay s o → o.told.session.attempt ≡ Some Difference → wanted_by o.told.session ≡ due s
way_wanted s o w e =
    ap (λ (a : Option Wish). wanted o.told.session.scheme o.told.session.n a) e ∙ ap (λ (r : Run). wanted r.scheme r.n (Some Difference)) w.run

module _ (s : Session) (t : List ℕ) (step : Float) (p : Passed s t step) where
  good : Good s
  good = passed_good (Some Rest) s p.at_rest

  small : s.n ≤ places
  small = (passed_sound (Some Rest) s p.at_rest).small

  way : (m : ℕ) → OnTheWay s (answers s.n t m (started s step))
  way m = answers_way s s.n t small m (started s step) (started_way s step good)

  one_more : (m : ℕ) → Stands s.n m (answers s.n t m (started s step)) → Stands s.n (m + 1) (answers s.n t (suc m) (started s step))
  unfolding answers iter
  one_more m h =
      let o = answers s.n t m (started s step) in
      replied_stands s.n t small o (way_size s o (way m)) (way m).good m h

  stands : (m : ℕ) → Stands s.n m (answers s.n t m (started s step))
  stands zero = unfold answers iter in started_stands s t step p
  stands (suc m) = subst (λ (k : ℕ). Stands s.n k (answers s.n t (suc m) (started s step))) (add-one m) (one_more m (stands m))

  abbrev last : Outcome
  last = answers s.n t (due s) (started s step)

  asks_no_more : (place : ℕ) → Asks s.n (due s) place last → ⊥
  asks_no_more place a =
      let w = way_wanted s last (way (due s)) a.attempt in
      absurd (omega (arith, a.count, a.few, w))

  -- the m-th question carries m
  pub asks_at : (m place : ℕ) (time : Float) → (answers s.n t m (started s step)).told.answer ≡ Ok (Ask place time) → Asks s.n m place (answers s.n t m (started s step))
  asks_at m place time e = unfold StandsBy in subst (λ (b : Result Answer Refusal). StandsBy b s.n m (answers s.n t m (started s step))) e (stands m)

  pub place_is : (m place : ℕ) (time : Float) → (answers s.n t m (started s step)).told.answer ≡ Ok (Ask place time) → place ≡ m
  place_is m place time e = let a = asks_at m place time e in a.named ∙ a.count

  pub asks_enough : (place : ℕ) (time : Float) → last.told.answer ≡ Ok (Ask place time) → ⊥
  asks_enough place time e = asks_no_more place (asks_at (due s) place time e)

-- ---- what accept makes of a candidate

-- it rests, or is refused by 3 or 6
unfoldable pub Ending : Result Answer Refusal → Type 0
Ending a = (a ≡ Ok Resting) ⊎ ((a ≡ Err Why.NotFinite) ⊎ (a ≡ Err Why.Arithmetic))

arrived_ends : (s : Session) (x d g : List Float) → Ending (arrived s x d g).answer
unfolding arrived Ending
arrived_ends s x d g = go (finite (s.time ⊕ s.step))
  where
    go : (b : Bool) → Ending (cond b (tell Resting (moved s (s.time ⊕ s.step) x d g)) (refuse s Why.Arithmetic)).answer
    go true = inl refl
    go false = inr (inr refl)

settled_ends : (s : Session) (d : List Float) (p : Progress) → Ending (settled s d p).answer
unfolding settled Ending
settled_ends s d refused = inr (inr refl)
settled_ends s d (asking x time) = inr (inr refl)
settled_ends s d (ended x e g w) = arrived_ends s x d g

module _ (n : ℕ) (t : List ℕ) (small : n ≤ places) (o : Outcome) (same : o.told.session.n ≡ n) (good : Good o.told.session) (waits : Waits o) where
  abbrev there : List Float
  there = derivative_there n t o

  accept_verdict : (b : Bool) → all_finite there ≡ b → verdict b ≡ tested (accept_tests o.told.session there)
  unfolding accept_tests
  accept_verdict b e =
      session_then (Some Waiting) o.told.session (vector_tests o.told.session.n there true)
      (sym (waiting_passes o.told.session good waits.attempt waits.all)) refl
      (ap verdict (sym e)
      ∙ handed_verdict o.told.session.n there true (subst (λ (k : ℕ). clear k there ≡ true) (sym same) (unfold derivative_there in derivative-clear n t _ o.out small)) refl)

  pub accept_three : all_finite there ≡ false → accept_call o.told.session there ≡ refuse o.told.session Why.NotFinite
  unfolding accept_call unless
  accept_three e = rw (← (accept_verdict false e))

  accept_settles : all_finite there ≡ true → accept_call o.told.session there ≡ settled o.told.session there (progress o.told.session)
  unfolding accept_call unless
  accept_settles e = rw (← (accept_verdict true e))

  pub accept_ends : Ending (accept_call o.told.session there).answer
  accept_ends = go (all_finite there) refl
    where
      go : (b : Bool) → all_finite there ≡ b → Ending (accept_call o.told.session there).answer
      go false e = subst (λ (r : Told). Ending r.answer) (sym (accept_three e)) (unfold Ending in inr (inl refl))
      go true e = subst (λ (r : Told). Ending r.answer) (sym (accept_settles e)) (settled_ends o.told.session there (progress o.told.session))

-- what the answers left: a candidate, or a refusal
module _ (s : Session) (t : List ℕ) (step : Float) (p : Passed s t step) where
  abbrev end : Outcome
  end = answers s.n t (due s) (started s step)

  refused_ends : (k : Refusal) → end.told.answer ≡ Err k → (k ≡ Why.NotFinite) ⊎ (k ≡ Why.Arithmetic) → Ending end.told.answer
  unfolding Ending
  refused_ends k e h = elim h [ inl z ↦ inr (inl (e ∙ ap Err z)) | inr z ↦ inr (inr (e ∙ ap Err z)) ]

  pub stepped_ends : Ending (stepped s t step).answer
  unfolding stepped accepted
  stepped_ends = go end.told.answer refl (stands s t step p (due s))
    where
      go : (a : Result Answer Refusal) → end.told.answer ≡ a → StandsBy a s.n (due s) end → Ending (accept_after a s.n t end).answer
      go (Ok (Ask place time)) e h = absurd (asks_enough s t step p place time e)
      go (Ok (Ready norm rhs jacobians products)) e h =
          let w = way s t step p (due s) in
          unfold accept_after in accept_ends s.n t (small s t step p) end (way_size s end w) w.good (unfold StandsBy in h)
      go (Ok Resting) e h = absurd (unfold StandsBy in h)
      go (Ok (FirstStep step)) e h = absurd (unfold StandsBy in h)
      go (Ok (Filled terms squarings)) e h = absurd (unfold StandsBy in h)
      go (Ok (Norm norm)) e h = absurd (unfold StandsBy in h)
      go (Err k) e h = unfold accept_after in refused_ends k e (unfold StandsBy in h)

-- ---- a derivative that is not finite

-- what is refused stays so, however many answers were wanted
refused_once : (n : ℕ) (t : List ℕ) (o : Outcome) (k : Refusal) → o.told.answer ≡ Err k → replied n t o ≡ o
unfolding replied answer_to
refused_once n t o k e = ap (λ (a : Result Answer Refusal). answer_to a n t o) e

refused_on : (n : ℕ) (t : List ℕ) (o : Outcome) (k : Refusal) (m j : ℕ) → (answers n t m o).told.answer ≡ Err k → (answers n t (j + m) o).told.answer ≡ Err k
refused_on n t o k m zero e = subst (λ (i : ℕ). (answers n t i o).told.answer ≡ Err k) (omega arith) e
refused_on n t o k m (suc j) e =
    let before : (answers n t (j + m) o).told.answer ≡ Err k = refused_on n t o k m j e in
    let next : suc (j + m) ≡ suc j + m = omega arith in
    subst (λ (i : ℕ). (answers n t i o).told.answer ≡ Err k) next (ap (λ (r : Outcome). r.told.answer) (once (j + m) before) ∙ before)
  where
    once : (i : ℕ) → (answers n t i o).told.answer ≡ Err k → answers n t (suc i) o ≡ answers n t i o
    once i h = unfold answers iter in refused_once n t (answers n t i o) k h

module _ (s : Session) (t : List ℕ) (step : Float) (p : Passed s t step) where
  abbrev asked : ℕ → Outcome
  asked m = answers s.n t m (started s step)

  -- a refusal of the answers is that of the step
  stepped_refused : (k : Refusal) → (asked (due s)).told.answer ≡ Err k → (stepped s t step).answer ≡ Err k
  unfolding stepped accepted accept_after
  stepped_refused k e = ap (λ (a : Result Answer Refusal). (accept_after a s.n t (asked (due s))).answer) e ∙ e

  one_refused : (m place : ℕ) (time : Float) → (asked m).told.answer ≡ Ok (Ask place time) → Asks s.n m place (asked m) → all_finite (derivative s.n t time (asked m).out) ≡ false
      → (asked (suc m)).told.answer ≡ Err Why.NotFinite
  unfolding answers iter replied answer_to
  one_refused m place time e a f =
      let w = way s t step p m in
      ap (λ (b : Result Answer Refusal). (answer_to b s.n t (asked m)).told.answer) e
      ∙ ap (λ (r : Outcome). r.told.answer) (supply_three s.n t (small s t step p) (asked m) (way_size s (asked m) w) w.good m place a time f)

  pub overflow_three : (m place : ℕ) (time : Float) → (asked m).told.answer ≡ Ok (Ask place time) → all_finite (derivative s.n t time (asked m).out) ≡ false
      → (stepped s t step).answer ≡ Err Why.NotFinite
  overflow_three m place time e f =
      let a = asks_at s t step p m place time e in
      let w : wanted_by (asked m).told.session ≡ due s = way_wanted s (asked m) (way s t step p m) a.attempt in
      let all : (due s - suc m) + suc m ≡ due s = omega (arith, a.count, a.few, w) in
      stepped_refused Why.NotFinite (subst (λ (i : ℕ). (asked i).told.answer ≡ Err Why.NotFinite) all
      (refused_on s.n t (started s step) Why.NotFinite (suc m) (due s - suc m) (one_refused m place time e a f)))

  pub candidate_three : (norm : Float) (rhs jacobians products : ℕ) → (asked (due s)).told.answer ≡ Ok (Ready norm rhs jacobians products)
      → all_finite (derivative_there s.n t (asked (due s))) ≡ false → (stepped s t step).answer ≡ Err Why.NotFinite
  unfolding stepped accepted accept_after
  candidate_three norm rhs jacobians products e f =
      let o = asked (due s) in
      let w = way s t step p (due s) in
      let waits : Waits o = unfold StandsBy in subst (λ (b : Result Answer Refusal). StandsBy b s.n (due s) o) e (stands s t step p (due s)) in
      ap (λ (a : Result Answer Refusal). (accept_after a s.n t o).answer) e
      ∙ ap (λ (r : Told). r.answer) (accept_three s.n t (small s t step p) o (way_size s o w) w.good waits f)
