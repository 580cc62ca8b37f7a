-- What the stores of a call leave of the session whose figures they change. Assumes nothing.
use Rattle.std.proofs.Common.{ℕ, ◌+◌, ◌*◌, ◌/◌, ◌≤◌, ◌<◌, zero-add, arith, ◌≡◌, refl, sym, ap, ◌∙◌, subst, ◌≢◌, Bool, true, false, ◌||◌, List, T, ltb, eqb, Float, length, set, take, replicate, length-set, ext_get_or, get_or-set_same, get_or-set_other, get_or-take, length-take-le, le-ltb}
use Rattle.std.proofs.Math.Decide.{dec_lt}
use Rattle.std.specs.Float.Ieee.{nan, binary64, fits}
use Rattle.std.proofs.Math.ListN.{length-replicate, get_or-replicate}
use Rattle.loops.proofs.Loops.{every_at}
use Rattle.loops.proofs.Stores.{stores_out, stores_in, length-stores}
use Rattle.loops.specs.Loop.{stores, ◌!◌}
use Rattle.float.specs.Arith.{◌⊕◌, zero+, plus_zero, finite}
use Rattle.evaluation.specs.Sizes.{places, answers_kept, answer_room}
use Rattle.methods.specs.Sizes.{etd2_number}
use Rattle.std.specs.Prelude.{Ok, Option, Some, None}
use Rattle.session.specs.declared.Phase.{Phase}
use Rattle.session.specs.declared.Wish.TheVariants.{Given, Difference}
use Rattle.session.specs.declared.Wish.{Wish}
use Rattle.session.specs.declared.Refusal.TheVariants as Why
use Rattle.session.specs.declared.Session.{Session}
use Rattle.session.specs.declared.Head.{Head}
use Rattle.session.specs.declared.History.TheVariants.{Held}
use Rattle.session.specs.declared.Phase.TheVariants.{Rest}
use Rattle.session.specs.Tests.{tested}
use Rattle.session.specs.Session.{jacobian_room, Trial, trial_of, fresh, idle, clear, in_answers, clear_answers, used_jacobian, admits, names, good7, good9, session_tests}
use Rattle.session.specs.Claims.{Doubles, Typed, Closed}
use Rattle.session.specs.declared.Left.{Left}
use Rattle.session.specs.declared.Answer.TheVariants.{Resting}
use Rattle.session.specs.Lent.{told_by, refused_by, resting_at}
use Rattle.session.specs.Calls.{tell, opened, nothing, begun, rested, answered, moved, arrived}
use Rattle.session.specs.Figures.{FIGURES, time_at, step_at, relative_at, absolute_at, state_at, derivative_at, previous_at, jacobian_at, answers_at, part, session_of, head_of}
use Rattle.session.proofs.Laws.{passed_sound, wanted-small, area}
use Rattle.session.proofs.Clear.{plus_zero_is}
use Rattle.session.proofs.Blank.{wiped}
use Rattle.session.proofs.Parts.{typed_of, read_before, part-after, part_before, set-part-after, part-within, part_put, part_wiped, length_part, part_at}
use Rattle.session.proofs.Closed.{passed_good, good_closed}
use Rattle.session.proofs.Drops.{idle_trial}

-- ---- a session by its fields
pub by_fields : (k : Head) (x : List Float) (s : Session) → k ≡ head_of s → x ! time_at ≡ s.time → x ! step_at ≡ s.step → x ! relative_at ≡ s.relative
    → part x absolute_at places ≡ s.absolute → part x state_at places ≡ s.state → part x derivative_at places ≡ s.derivative → part x previous_at places ≡ s.previous
    → part x jacobian_at jacobian_room ≡ s.jacobian → part x answers_at answer_room ≡ s.answers → session_of k x ≡ s
unfolding session_of
by_fields k x s numbers time step relative absolute state derivative previous jacobian answers = λ i. record {
  scheme = (numbers i).scheme;
  n = (numbers i).n;
  time = time i;
  state = state i;
  derivative = derivative i;
  relative = relative i;
  absolute = absolute i;
  history = (numbers i).history;
  previous = previous i;
  attempt = (numbers i).attempt;
  step = step i;
  jacobian = jacobian i;
  count = (numbers i).count;
  answers = answers i;
}

-- ---- places that hold nothing

pub used_small : (a : Option Wish) (n : ℕ) → n ≤ 16 → used_jacobian a n ≤ 256
unfolding used_jacobian
used_small None n h = omega arith
used_small (Some Given) n h = area h
used_small (Some Difference) n h = omega arith

-- how much of a Jacobian is in use by a session that is not refused
pub used_room : (k : Head) (x : List Float) (wants : Option Phase) (a : Option Wish) → tested (session_tests wants (session_of k x)) ≡ Ok tt → used_jacobian a k.n ≤ 256
unfolding session_of
used_room k x wants a e = used_small a k.n (passed_sound wants (session_of k x) e).small

-- a place past those in use
pub past_used : (used n : ℕ) (x : List Float) → Doubles n x → clear used x ≡ true → (i : ℕ) → used ≤ i → i < n → x ! i ≡ zero+
unfolding clear
past_used used n x d e i h l =
    let t : (ltb i used || plus_zero (x ! i)) ≡ true = every_at (length x) _ e i (omega (arith, d.places)) in
    plus_zero_is (x ! i) (d.fit i) (rw (le-ltb i used h) at t)

-- a place behind the answers
behind-answers : (count n : ℕ) (x : List Float) → clear_answers count n x ≡ true → (p : ℕ) → p < length x → 16 * count ≤ p → plus_zero (x ! p) ≡ true
unfolding clear_answers
behind-answers count n x e p l h =
    let t : (in_answers count n p || plus_zero (x ! p)) ≡ true = every_at (length x) _ e p l in
    let below : count ≤ p / 16 = omega arith in
    rw (le-ltb (p / 16) count below) at t

-- +0.0 over what is in use, and +0.0 behind it
all_wiped : (used n : ℕ) (x : List Float) → length x ≡ n → used ≤ n → ((i : ℕ) → used ≤ i → i < n → x ! i ≡ zero+)
    → stores (λ _ _. zero+) 0 used x ≡ replicate n zero+
all_wiped used n x e h f =
    ext_get_or nan _ _ (length-stores _ 0 used x ∙ e ∙ sym (length-replicate n zero+)) (λ i l.
    let m : i < n = omega (arith, length-stores (λ _ _. zero+) 0 used x) in
    go i m (dec_lt i used) ∙ sym (get_or-replicate n i zero+ nan m))
  where
    go : (i : ℕ) → i < n → Dec (i < used) → stores (λ _ _. zero+) 0 used x ! i ≡ zero+
    go i m (yes u) =
        ap (λ (q : ℕ). stores (λ _ _. zero+) 0 used x ! q) (sym (zero-add i))
        ∙ stores_in (λ _ _. zero+) 0 used x i u (omega arith)
    go i m (no u) = stores_out (λ _ _. zero+) 0 used x i (λ j q. omega arith) ∙ f i (omega arith) m

-- what is in use over +0.0
all_put : (used n : ℕ) (y : List Float) → length y ≡ n → used ≤ n → ((i : ℕ) → used ≤ i → i < n → y ! i ≡ zero+)
    → stores (λ i _. take used y ! i) 0 used (replicate n zero+) ≡ y
all_put used n y e h f =
    ext_get_or nan _ _ (length-stores _ 0 used (replicate n zero+) ∙ length-replicate n zero+ ∙ sym e) (λ i l.
    let m : i < n = omega (arith, length-stores (λ i _. take used y ! i) 0 used (replicate n zero+), length-replicate n zero+) in
    go i m (dec_lt i used))
  where
    go : (i : ℕ) → i < n → Dec (i < used) → stores (λ i _. take used y ! i) 0 used (replicate n zero+) ! i ≡ y ! i
    go i m (yes u) =
        ap (λ (q : ℕ). stores (λ i _. take used y ! i) 0 used (replicate n zero+) ! q) (sym (zero-add i))
        ∙ stores_in (λ i _. take used y ! i) 0 used (replicate n zero+) i u (omega (arith, length-replicate n zero+))
        ∙ get_or-take used y i nan u
    go i m (no u) =
        stores_out (λ i _. take used y ! i) 0 used (replicate n zero+) i (λ j q. omega arith)
        ∙ get_or-replicate n i zero+ nan m
        ∙ sym (f i (omega arith) m)

-- figures of a session that is not refused are typed
pub typed_passed : (k : Head) (x : List Float) (wants : Option Phase) → tested (session_tests wants (session_of k x)) ≡ Ok tt → Doubles FIGURES x → Typed (session_of k x)
unfolding session_of
typed_passed k x wants e d = typed_of k x (omega (arith, (passed_sound wants (session_of k x) e).scheme)) d

-- ---- the figures that a call changes

module _ (k : Head) (x : List Float) (long : length x ≡ FIGURES) (typed : Typed (session_of k x)) where
  abbrev s : Session
  s = session_of k x

  -- the numbers of a session at rest
  abbrev pub resting : Head
  resting = record { scheme = k.scheme; n = k.n; history = k.history; attempt = None; count = 0 }

  -- what rest leaves
  abbrev pub rest_figures : List Float
  rest_figures = stores (λ _ _. zero+) answers_at (places * k.count) (stores (λ _ _. zero+) jacobian_at (used_jacobian k.attempt k.n) (set x step_at zero+))

  module _ (passed : tested (session_tests None s) ≡ Ok tt) where
    pub few : used_jacobian k.attempt k.n ≤ 256
    unfolding session_of
    few = used_small k.attempt k.n (passed_sound None (session_of k x) passed).small

    pub short : k.count ≤ 20
    unfolding session_of
    short =
        let r = passed_sound None (session_of k x) passed in
        omega (arith, r.enough, wanted-small k.scheme k.n k.attempt r.small)

    no_jacobian : stores (λ _ _. zero+) 0 (used_jacobian k.attempt k.n) (part x jacobian_at jacobian_room) ≡ replicate jacobian_room zero+
    unfolding session_of
    no_jacobian =
        all_wiped _ jacobian_room _ (length_part x jacobian_at jacobian_room) few
        (past_used _ jacobian_room _ typed.jacobian (passed_good None (session_of k x) passed).jacobian)

    no_answers : stores (λ _ _. zero+) 0 (places * k.count) (part x answers_at answer_room) ≡ replicate answer_room zero+
    unfolding session_of
    no_answers =
        all_wiped _ answer_room _ (length_part x answers_at answer_room) (omega (arith, short)) (λ i h l.
        plus_zero_is _ (typed.answers.fit i)
        (behind-answers k.count k.n (part x answers_at answer_room) (passed_good None (session_of k x) passed).answers i (omega (arith, length_part x answers_at answer_room)) h))

    -- up to the attempt nothing changes
    same_part : (at n : ℕ) → 2 ≤ at → at + n ≤ jacobian_at → part rest_figures at n ≡ part x at n
    same_part at n h l =
        part_before _ answers_at _ _ at n (omega arith)
        ∙ part_before _ jacobian_at _ _ at n l
        ∙ set-part-after step_at zero+ x at n (omega arith)

    same_figure : (p : ℕ) → p < jacobian_at → p ≢ step_at → rest_figures ! p ≡ x ! p
    same_figure p l ne =
        read_before _ answers_at _ _ p (omega arith) ∙ read_before _ jacobian_at _ _ p l ∙ get_or-set_other x step_at p zero+ nan ne

    rest_step : rest_figures ! step_at ≡ zero+
    rest_step =
        read_before _ answers_at _ _ step_at (omega arith)
        ∙ read_before _ jacobian_at _ _ step_at (omega arith)
        ∙ get_or-set_same x step_at zero+ nan (omega arith)

    rest_jacobian : part rest_figures jacobian_at jacobian_room ≡ replicate jacobian_room zero+
    rest_jacobian =
        part_before _ answers_at _ _ jacobian_at jacobian_room (omega arith)
        ∙ part-within _ jacobian_at 0 _ jacobian_room (set x step_at zero+) (omega (arith, few)) (omega (arith, length-set x step_at zero+))
        ∙ ap (λ (l : List Float). stores (λ _ _. zero+) 0 (used_jacobian k.attempt k.n) l) (set-part-after step_at zero+ x jacobian_at jacobian_room (omega arith))
        ∙ no_jacobian

    rest_answers : part rest_figures answers_at answer_room ≡ replicate answer_room zero+
    rest_answers =
        let inner : List Float = stores (λ _ _. zero+) jacobian_at (used_jacobian k.attempt k.n) (set x step_at zero+) in
        let wide : length inner ≡ FIGURES = length-stores _ jacobian_at _ (set x step_at zero+) ∙ length-set x step_at zero+ ∙ long in
        part-within _ answers_at 0 (places * k.count) answer_room inner (omega (arith, short)) (omega arith)
        ∙ ap (λ (l : List Float). stores (λ _ _. zero+) 0 (places * k.count) l)
        (part-after _ jacobian_at _ (set x step_at zero+) answers_at answer_room (omega (arith, few)) ∙ set-part-after step_at zero+ x answers_at answer_room (omega arith))
        ∙ no_answers

    pub at_rest_lem : session_of resting rest_figures ≡ rested (session_of k x)
    unfolding rested opened idle fresh session_of
    at_rest_lem =
        by_fields resting rest_figures (rested (session_of k x)) refl
        (same_figure time_at (omega arith) (omega arith))
        rest_step
        (same_figure relative_at (omega arith) (omega arith))
        (same_part absolute_at places (omega arith) (omega arith))
        (same_part state_at places (omega arith) (omega arith))
        (same_part derivative_at places (omega arith) (omega arith))
        (same_part previous_at places (omega arith) (omega arith))
        rest_jacobian
        rest_answers

    -- from what the code leaves
    pub rest_is : {used : ℕ} {y z : List Float} → used ≡ used_jacobian k.attempt k.n → y ≡ stores (λ _ _. zero+) jacobian_at used (set x step_at zero+)
        → z ≡ stores (λ _ _. zero+) answers_at (places * k.count) y → session_of resting z ≡ rested (session_of k x)
    rest_is u e f =
        ap (session_of resting) (f ∙ ap (stores (λ _ _. zero+) answers_at (places * k.count)) (e ∙ ap (λ (n : ℕ). stores (λ _ _. zero+) jacobian_at n (set x step_at zero+)) u))
        ∙ at_rest_lem

  -- ---- an attempt, of a session at rest

  module _ (passed : tested (session_tests (Some Rest) (session_of k x)) ≡ Ok tt) (step : Float) (a : Option Wish) (j : List Float) (size : Doubles jacobian_room j)
      (unused : clear (used_jacobian a k.n) j ≡ true) where
    abbrev pub attempting : Head
    attempting = record { scheme = k.scheme; n = k.n; history = k.history; attempt = a; count = k.count }

    abbrev pub attempt_figures : List Float
    attempt_figures = stores (λ i _. take (used_jacobian a k.n) j ! i) jacobian_at (used_jacobian a k.n) (set x step_at step)

    none : trial_of (session_of k x) ≡ idle
    none = idle_trial (session_of k x) typed passed

    some_used : used_jacobian a k.n ≤ 256
    unfolding session_of
    some_used = used_small a k.n (passed_sound (Some Rest) (session_of k x) passed).small

    no_count : k.count ≡ 0
    unfolding idle fresh session_of
    no_count = ap (λ (t : Trial). t.count) none

    old_jacobian : part x jacobian_at jacobian_room ≡ replicate jacobian_room zero+
    unfolding idle fresh session_of
    old_jacobian = ap (λ (t : Trial). t.jacobian) none

    old_answers : part x answers_at answer_room ≡ replicate answer_room zero+
    unfolding idle fresh session_of
    old_answers = ap (λ (t : Trial). t.answers) none

    before_attempt : (at n : ℕ) → 2 ≤ at → at + n ≤ jacobian_at → part attempt_figures at n ≡ part x at n
    before_attempt at n h l = part_before _ jacobian_at _ _ at n l ∙ set-part-after step_at step x at n (omega arith)

    before_figure : (p : ℕ) → p < jacobian_at → p ≢ step_at → attempt_figures ! p ≡ x ! p
    before_figure p l ne = read_before _ jacobian_at _ _ p l ∙ get_or-set_other x step_at p step nan ne

    new_jacobian : part attempt_figures jacobian_at jacobian_room ≡ j
    new_jacobian =
        part-within _ jacobian_at 0 _ jacobian_room (set x step_at step) (omega (arith, some_used)) (omega (arith, length-set x step_at step))
        ∙ ap (λ (l : List Float). stores (λ i _. take (used_jacobian a k.n) j ! i) 0 (used_jacobian a k.n) l)
        (set-part-after step_at step x jacobian_at jacobian_room (omega arith) ∙ old_jacobian)
        ∙ all_put _ jacobian_room j size.places some_used (past_used _ jacobian_room j size unused)

    new_answers : part attempt_figures answers_at answer_room ≡ replicate answer_room zero+
    new_answers =
        part-after _ jacobian_at _ (set x step_at step) answers_at answer_room (omega (arith, some_used))
        ∙ set-part-after step_at step x answers_at answer_room (omega arith)
        ∙ old_answers

    counted : attempting ≡ head_of (begun (session_of k x) step a j)
    unfolding begun fresh session_of
    counted = λ i. record { scheme = k.scheme; n = k.n; history = k.history; attempt = a; count = no_count i }

    pub at_begin : session_of attempting attempt_figures ≡ begun (session_of k x) step a j
    unfolding begun fresh session_of
    at_begin =
        by_fields attempting attempt_figures (begun (session_of k x) step a j) counted
        (before_figure time_at (omega arith) (omega arith))
        (read_before _ jacobian_at _ _ step_at (omega arith) ∙ get_or-set_same x step_at step nan (omega arith))
        (before_figure relative_at (omega arith) (omega arith))
        (before_attempt absolute_at places (omega arith) (omega arith))
        (before_attempt state_at places (omega arith) (omega arith))
        (before_attempt derivative_at places (omega arith) (omega arith))
        (before_attempt previous_at places (omega arith) (omega arith))
        new_jacobian
        new_answers

    -- from what the code leaves
    pub begin_is : {used : ℕ} {y : List Float} → used ≡ used_jacobian a k.n
        → y ≡ stores (λ i _. take used j ! i) jacobian_at (length (take used j)) (set x step_at step) → session_of attempting y ≡ begun (session_of k x) step a j
    begin_is {used} u e =
        let fits_in : used ≤ length j = omega (arith, u, some_used, size.places) in
        ap (session_of attempting)
        (e
        ∙ ap (λ (n : ℕ). stores (λ i _. take used j ! i) jacobian_at n (set x step_at step)) (length-take-le used j fits_in)
        ∙ ap (λ (n : ℕ). stores (λ i _. take n j ! i) jacobian_at n (set x step_at step)) u)
        ∙ at_begin

-- ---- an answer

module _ (k : Head) (x : List Float) (long : length x ≡ FIGURES) (y : List Float) (early : k.count < answers_kept) where
  abbrev pub answering : Head
  answering = record { scheme = k.scheme; n = k.n; history = k.history; attempt = k.attempt; count = k.count + 1 }

  abbrev pub answer_figures : List Float
  answer_figures = stores (λ i _. y ! i) (answers_at + places * k.count) places x

  pub at_answer : session_of answering answer_figures ≡ answered (session_of k x) y
  unfolding answered session_of
  at_answer =
      by_fields answering answer_figures (answered (session_of k x) y) refl
      (read_before _ _ _ x time_at (omega arith))
      (read_before _ _ _ x step_at (omega arith))
      (read_before _ _ _ x relative_at (omega arith))
      (part_before _ _ _ x absolute_at places (omega arith))
      (part_before _ _ _ x state_at places (omega arith))
      (part_before _ _ _ x derivative_at places (omega arith))
      (part_before _ _ _ x previous_at places (omega arith))
      (part_before _ _ _ x jacobian_at jacobian_room (omega arith))
      (part-within _ answers_at (places * k.count) places answer_room x (omega arith) (omega arith))

  -- from what the code leaves
  pub put_answer_is : length y ≡ places → (z : List Float) → z ≡ stores (λ i _. y ! i) (answers_at + places * k.count) (length y) x
      → session_of answering z ≡ answered (session_of k x) y
  put_answer_is l z e =
      ap (session_of answering) (e ∙ ap (λ (n : ℕ). stores (λ i _. y ! i) (answers_at + places * k.count) n x) l) ∙ at_answer

  -- +0.0 in its places again
  pub taken_back : Typed (session_of k x) → ((i : ℕ) → T (fits binary64 (x ! i))) → (wants : Option Phase) → tested (session_tests wants (session_of k x)) ≡ Ok tt
      → stores (λ _ _. zero+) (answers_at + places * k.count) places answer_figures ≡ x
  unfolding session_of
  taken_back typed fit wants passed =
      wiped _ (answers_at + places * k.count) places x (omega arith) fit (λ j l.
      let q : places * k.count + j < answer_room = omega arith in
      let e : answers_at + (places * k.count + j) ≡ answers_at + places * k.count + j = omega arith in
      subst (λ (v : Float). plus_zero v ≡ true) (part_at x answers_at answer_room (places * k.count + j) q ∙ ap (λ (p : ℕ). x ! p) e)
      (behind-answers k.count k.n (part x answers_at answer_room) (passed_good wants (session_of k x) passed).answers (places * k.count + j)
      (omega (arith, length_part x answers_at answer_room)) (omega arith)))

-- a vector that is stored whole, over figures that go by another name
stored_whole : (v : List Float) (at : ℕ) {x y z : List Float} → length v ≡ places → z ≡ stores (λ i _. v ! i) at (length v) y → y ≡ x
    → z ≡ stores (λ i _. v ! i) at places x
stored_whole v at {x} {y} l e f = e ∙ ap (λ (n : ℕ). stores (λ i _. v ! i) at n y) l ∙ ap (stores (λ i _. v ! i) at places) f

-- ---- a time, a state and a derivative, at rest

module _ (k : Head) (x : List Float) (long : length x ≡ FIGURES) (r : Session) (e : session_of k x ≡ rested r) (time : Float) (u f g : List Float)
    (places-u : length u ≡ places) (places-f : length f ≡ places) (places-g : length g ≡ places) where
  -- before the history is looked at
  abbrev pub moved_figures : List Float
  moved_figures = stores (λ i _. f ! i) derivative_at places (stores (λ i _. u ! i) state_at places (set x time_at time))

  width : length (set x time_at time) ≡ FIGURES
  width = length-set x time_at time ∙ long

  width_2 : length (stores (λ i _. u ! i) state_at places (set x time_at time)) ≡ FIGURES
  width_2 = length-stores _ state_at places _ ∙ width

  width_3 : length moved_figures ≡ FIGURES
  width_3 = length-stores _ derivative_at places _ ∙ width_2

  later : (at n : ℕ) → previous_at ≤ at → part moved_figures at n ≡ part x at n
  later at n h =
      part-after _ derivative_at places _ at n (omega arith) ∙ part-after _ state_at places _ at n (omega arith) ∙ set-part-after time_at time x at n (omega arith)

  tolerances : part moved_figures absolute_at places ≡ part x absolute_at places
  tolerances =
      part_before _ derivative_at places _ absolute_at places (omega arith)
      ∙ part_before _ state_at places _ absolute_at places (omega arith)
      ∙ set-part-after time_at time x absolute_at places (omega arith)

  figure : (p : ℕ) → p < state_at → p ≢ time_at → moved_figures ! p ≡ x ! p
  figure p l ne =
      read_before _ derivative_at places _ p (omega arith) ∙ read_before _ state_at places _ p l ∙ get_or-set_other x time_at p time nan ne

  now_time : moved_figures ! time_at ≡ time
  now_time =
      read_before _ derivative_at places _ time_at (omega arith)
      ∙ read_before _ state_at places _ time_at (omega arith)
      ∙ get_or-set_same x time_at time nan (omega arith)

  now_state : part moved_figures state_at places ≡ u
  now_state = part_before _ derivative_at places _ state_at places (omega arith) ∙ part_put u state_at places (set x time_at time) places-u (omega (arith, width))

  now_derivative : part moved_figures derivative_at places ≡ f
  now_derivative = part_put f derivative_at places _ places-f (omega (arith, width_2))

  stored : {y z : List Float} → y ≡ stores (λ i _. u ! i) state_at (length u) (set x time_at time) → z ≡ stores (λ i _. f ! i) derivative_at (length f) y → z ≡ moved_figures
  stored a b = stored_whole f derivative_at places-f b (stored_whole u state_at places-u a refl)

  at_moved : eqb r.scheme etd2_number ≡ false → session_of k moved_figures ≡ moved r time u f g
  unfolding moved opened idle fresh rested session_of
  at_moved other =
      by_fields k moved_figures (moved r time u f g) (ap head_of e ∙ (rw other))
      now_time
      (figure step_at (omega arith) (omega arith) ∙ ap (λ (z : Session). z.step) e)
      (figure relative_at (omega arith) (omega arith) ∙ ap (λ (z : Session). z.relative) e)
      (tolerances ∙ ap (λ (z : Session). z.absolute) e)
      now_state
      now_derivative
      (later previous_at places (omega arith) ∙ ap (λ (z : Session). z.previous) e ∙ (rw other))
      (later jacobian_at jacobian_room (omega arith) ∙ ap (λ (z : Session). z.jacobian) e)
      (later answers_at answer_room (omega arith) ∙ ap (λ (z : Session). z.answers) e)

  -- from what the code leaves
  pub move_is : eqb r.scheme etd2_number ≡ false → {y z : List Float} → y ≡ stores (λ i _. u ! i) state_at (length u) (set x time_at time)
      → z ≡ stores (λ i _. f ! i) derivative_at (length f) y → session_of k z ≡ moved r time u f g
  move_is other a b = ap (session_of k) (stored a b) ∙ at_moved other

  -- Etd2 keeps the nonlinear part
  abbrev pub remembering : Head
  remembering = record { scheme = k.scheme; n = k.n; history = Held; attempt = k.attempt; count = k.count }

  abbrev kept_figures : List Float
  kept_figures = stores (λ i _. g ! i) previous_at places moved_figures

  earlier : (at n : ℕ) → at + n ≤ previous_at → part kept_figures at n ≡ part moved_figures at n
  earlier at n h = part_before _ previous_at places moved_figures at n h

  at_etd2 : eqb r.scheme etd2_number ≡ true → session_of remembering kept_figures ≡ moved r time u f g
  unfolding moved opened idle fresh rested session_of
  at_etd2 same =
      let q = ap head_of e in
      by_fields remembering kept_figures (moved r time u f g)
      (rw same (λ i. record { scheme = (q i).scheme; n = (q i).n; history = Held; attempt = (q i).attempt; count = (q i).count }))
      (read_before _ previous_at places moved_figures time_at (omega arith) ∙ now_time)
      (read_before _ previous_at places moved_figures step_at (omega arith) ∙ figure step_at (omega arith) (omega arith) ∙ ap (λ (z : Session). z.step) e)
      (read_before _ previous_at places moved_figures relative_at (omega arith) ∙ figure relative_at (omega arith) (omega arith) ∙ ap (λ (z : Session). z.relative) e)
      (earlier absolute_at places (omega arith) ∙ tolerances ∙ ap (λ (z : Session). z.absolute) e)
      (earlier state_at places (omega arith) ∙ now_state)
      (earlier derivative_at places (omega arith) ∙ now_derivative)
      (rw same (part_put g previous_at places moved_figures places-g (omega (arith, width_3))))
      (part-after _ previous_at places moved_figures jacobian_at jacobian_room (omega arith) ∙ later jacobian_at jacobian_room (omega arith) ∙ ap (λ (z : Session). z.jacobian) e)
      (part-after _ previous_at places moved_figures answers_at answer_room (omega arith) ∙ later answers_at answer_room (omega arith) ∙ ap (λ (z : Session). z.answers) e)

  pub move_etd2 : eqb r.scheme etd2_number ≡ true → {y z w : List Float} → y ≡ stores (λ i _. u ! i) state_at (length u) (set x time_at time)
      → z ≡ stores (λ i _. f ! i) derivative_at (length f) y → w ≡ stores (λ i _. g ! i) previous_at (length g) z → session_of remembering w ≡ moved r time u f g
  move_etd2 same a b c = ap (session_of remembering) (stored_whole g previous_at places-g c (stored a b)) ∙ at_etd2 same

-- ---- a run that is opened

module _ (x : List Float) (long : length x ≡ FIGURES) (time relative : Float) where
  abbrev head_1 : List Float
  head_1 = set x time_at time

  abbrev head_2 : List Float
  head_2 = set head_1 step_at zero+

  abbrev pub head_figures : List Float
  head_figures = set head_2 relative_at relative

  pub head_long : length head_figures ≡ FIGURES
  head_long = length-set head_2 relative_at relative ∙ length-set head_1 step_at zero+ ∙ length-set x time_at time ∙ long

  head_time : head_figures ! time_at ≡ time
  head_time =
      get_or-set_other head_2 relative_at time_at relative nan (omega arith)
      ∙ get_or-set_other head_1 step_at time_at zero+ nan (omega arith)
      ∙ get_or-set_same x time_at time nan (omega arith)

  head_step : head_figures ! step_at ≡ zero+
  head_step =
      get_or-set_other head_2 relative_at step_at relative nan (omega arith)
      ∙ get_or-set_same head_1 step_at zero+ nan (omega (arith, length-set x time_at time))

  head_relative : head_figures ! relative_at ≡ relative
  head_relative =
      get_or-set_same head_2 relative_at relative nan (omega (arith, length-set head_1 step_at zero+, length-set x time_at time))

  module _ (a u f g : List Float) (places-a : length a ≡ places) (places-u : length u ≡ places) (places-f : length f ≡ places) (places-g : length g ≡ places) where
    abbrev with_a : List Float
    with_a = stores (λ i _. a ! i) absolute_at places head_figures

    abbrev with_u : List Float
    with_u = stores (λ i _. u ! i) state_at places with_a

    abbrev with_f : List Float
    with_f = stores (λ i _. f ! i) derivative_at places with_u

    abbrev with_g : List Float
    with_g = stores (λ i _. g ! i) previous_at places with_f

    abbrev run_figures : List Float
    run_figures = stores (λ _ _. zero+) jacobian_at (jacobian_room + answer_room) with_g

    a_long : length with_a ≡ FIGURES
    a_long = length-stores _ absolute_at places _ ∙ head_long

    u_long : length with_u ≡ FIGURES
    u_long = length-stores _ state_at places _ ∙ a_long

    f_long : length with_f ≡ FIGURES
    f_long = length-stores _ derivative_at places _ ∙ u_long

    g_long : length with_g ≡ FIGURES
    g_long = length-stores _ previous_at places _ ∙ f_long

    head_at : (p : ℕ) → p < absolute_at → run_figures ! p ≡ head_figures ! p
    head_at p l =
        read_before _ jacobian_at _ _ p (omega arith)
        ∙ read_before _ previous_at places _ p (omega arith)
        ∙ read_before _ derivative_at places _ p (omega arith)
        ∙ read_before _ state_at places _ p (omega arith)
        ∙ read_before _ absolute_at places _ p l

    -- the vectors up to u
    early_part : (at n : ℕ) → at + n ≤ derivative_at → part run_figures at n ≡ part with_u at n
    early_part at n l =
        part_before _ jacobian_at _ _ at n (omega arith)
        ∙ part_before _ previous_at places _ at n (omega arith)
        ∙ part_before _ derivative_at places _ at n l

    at_open : (k : Head) → k.attempt ≡ None → k.count ≡ 0
        → session_of k run_figures
        ≡ opened (record { scheme = k.scheme; n = k.n; time = time; state = u; derivative = f; relative = relative; absolute = a; history = k.history; previous = g })
    unfolding opened idle fresh
    at_open k none zero-count =
        by_fields k run_figures _ (λ i. record { scheme = k.scheme; n = k.n; history = k.history; attempt = none i; count = zero-count i })
        (head_at time_at (omega arith) ∙ head_time)
        (head_at step_at (omega arith) ∙ head_step)
        (head_at relative_at (omega arith) ∙ head_relative)
        (early_part absolute_at places (omega arith)
        ∙ part_before _ state_at places _ absolute_at places (omega arith)
        ∙ part_put a absolute_at places head_figures places-a (omega (arith, head_long)))
        (early_part state_at places (omega arith) ∙ part_put u state_at places with_a places-u (omega (arith, a_long)))
        (part_before _ jacobian_at _ _ derivative_at places (omega arith)
        ∙ part_before _ previous_at places _ derivative_at places (omega arith)
        ∙ part_put f derivative_at places _ places-f (omega (arith, u_long)))
        (part_before _ jacobian_at _ _ previous_at places (omega arith) ∙ part_put g previous_at places _ places-g (omega (arith, f_long)))
        (part_wiped jacobian_at jacobian_room jacobian_at (jacobian_room + answer_room) _ (omega arith) (omega arith) (omega (arith, g_long)))
        (part_wiped answers_at answer_room jacobian_at (jacobian_room + answer_room) _ (omega arith) (omega arith) (omega (arith, g_long)))

    -- from what the code leaves
    pub open_is : {b y z w v : List Float} → b ≡ stores (λ i _. a ! i) absolute_at (length a) head_figures → y ≡ stores (λ i _. u ! i) state_at (length u) b
        → z ≡ stores (λ i _. f ! i) derivative_at (length f) y
        → w ≡ stores (λ i _. g ! i) previous_at (length g) z → v ≡ stores (λ _ _. zero+) jacobian_at (jacobian_room + answer_room) w
        → (k : Head) → k.attempt ≡ None → k.count ≡ 0
        → session_of k v
        ≡ opened (record { scheme = k.scheme; n = k.n; time = time; state = u; derivative = f; relative = relative; absolute = a; history = k.history; previous = g })
    open_is p q r t v k none zero-count =
        let one = stored_whole a absolute_at places-a p refl in
        let two = stored_whole u state_at places-u q one in
        let three = stored_whole f derivative_at places-f r two in
        let four = stored_whole g previous_at places-g t three in
        ap (session_of k) (v ∙ ap (stores (λ _ _. zero+) jacobian_at (jacobian_room + answer_room)) four) ∙ at_open k none zero-count

-- ---- what a refused open leaves

-- every figure +0.0
module _ (x : List Float) (e : length x ≡ FIGURES) where
  abbrev blank_figures : List Float
  blank_figures = stores (λ _ _. zero+) 0 FIGURES x

  zero_at : (p : ℕ) → p < FIGURES → blank_figures ! p ≡ zero+
  zero_at p l = ap (λ (q : ℕ). blank_figures ! q) (sym (zero-add p)) ∙ stores_in (λ _ _. zero+) 0 FIGURES x p l (omega arith)

  zeros_at : (at m : ℕ) → at + m ≤ FIGURES → part blank_figures at m ≡ replicate m zero+
  zeros_at at m l = part_wiped at m 0 FIGURES x (omega arith) (omega arith) (omega arith)

  no_session : (k : Head) → k ≡ head_of nothing → session_of k blank_figures ≡ nothing
  unfolding nothing opened idle fresh
  no_session k n =
      by_fields k blank_figures nothing n
      (zero_at time_at (omega arith))
      (zero_at step_at (omega arith))
      (zero_at relative_at (omega arith))
      (zeros_at absolute_at places (omega arith))
      (zeros_at state_at places (omega arith))
      (zeros_at derivative_at places (omega arith))
      (zeros_at previous_at places (omega arith))
      (zeros_at jacobian_at jacobian_room (omega arith))
      (zeros_at answers_at answer_room (omega arith))

  pub at_nothing : (k : Head) (y : List Float) → k ≡ head_of nothing → y ≡ stores (λ _ _. zero+) 0 FIGURES x → session_of k y ≡ nothing
  at_nothing k y n w = ap (session_of k) w ∙ no_session k n

-- a session that a call in one phase takes is taken by one in any
pub passes_any : (wants : Option Phase) (s : Session) → tested (session_tests wants s) ≡ Ok tt → tested (session_tests None s) ≡ Ok tt
unfolding Closed good7 good9 admits names
passes_any wants s e = good_closed (passed_good wants s e) None

-- ---- accept

module _ (k : Head) (x u d g : List Float) {b : Bool} (e : b ≡ finite (x ! time_at ⊕ x ! step_at)) where
  pub arrive_ok : b ≡ true → {l : Left} (n : Head) (y : List Float) → l ≡ resting_at n → session_of n y ≡ moved (session_of k x) (x ! time_at ⊕ x ! step_at) u d g
      → told_by l y ≡ arrived (session_of k x) u d g
  unfolding arrived
  arrive_ok t {l} n y f m =
      let time : x ! time_at ⊕ x ! step_at ≡ (session_of k x).time ⊕ (session_of k x).step = unfold session_of in refl in
      let sum : b ≡ finite ((session_of k x).time ⊕ (session_of k x).step) = e ∙ ap finite time in
      rw (← sum, t, f) (ap (tell Resting) (m ∙ ap (λ (v : Float). moved (session_of k x) v u d g) time))

  pub arrive_bad : b ≡ false → {l : Left} → l ≡ refused_by k Why.Arithmetic → told_by l x ≡ arrived (session_of k x) u d g
  unfolding arrived
  arrive_bad t f =
      let time : x ! time_at ⊕ x ! step_at ≡ (session_of k x).time ⊕ (session_of k x).step = unfold session_of in refl in
      let sum : b ≡ finite ((session_of k x).time ⊕ (session_of k x).step) = e ∙ ap finite time in
      rw (← sum, t, f)
