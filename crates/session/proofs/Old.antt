-- A session of the old layout, brought over, and one tolerance for all: as before. Assumes nothing.
use Rattle.std.proofs.Common.{ℕ, ◌+◌, ◌-◌, ◌≤◌, ◌<◌, zero-add, add_assoc, arith, ◌≡◌, refl, sym, ap, ◌∙◌, Bool, true}
use Rattle.std.proofs.Common.{false, cond, ◌&&◌, ◌||◌, List, [], ◌++◌, ltb, Float, length, take, drop, get_or-take, length-take-le, lt-ltb, le-ltb}
use Rattle.std.proofs.Math.Decide.{dec_lt}
use Rattle.std.specs.Float.Ieee.{nan}
use Rattle.loops.specs.Loop.{every, stores, ◌!◌}
use Rattle.loops.proofs.Loops.{every_of, length-tab, tab_at, every_fails}
use Rattle.loops.proofs.Stores.{is_tab, stores_in, length-stores}
use Rattle.float.specs.Arith.{zero+, plus_zero}
use Rattle.evaluation.specs.Sizes.{places, answer_room}
use Rattle.matrix.specs.Vector.{vec}
use Rattle.matrix.proofs.Vectors.{length-vec, vec_at}
use Rattle.engine.specs.Claims.{Equal}
use Rattle.engine.proofs.Equal.{equal_tolerances}
use Rattle.std.specs.Prelude.{take, ◌∷◌, Result, Err, ⊤, Option, Some, None}
use Rattle.session.specs.declared.Phase.{Phase}
use Rattle.session.specs.declared.Refusal.{Refusal}
use Rattle.session.specs.declared.Refusal.TheVariants as Why
use Rattle.session.specs.declared.Head.{Head}
use Rattle.session.specs.declared.OldSession.{OldSession}
use Rattle.session.specs.declared.Session.{Session}
use Rattle.session.specs.declared.Phase.TheVariants.{Rest, Asking, Waiting}
use Rattle.session.specs.Tests.{Tests, refusal_number, tested, unless}
use Rattle.session.specs.Values.{values_of, number}
use Rattle.session.specs.Session.{jacobian_room, clear, names, size_ok, run_places, attempt_places, good1, good2, phase_of, good7, good9, positive, tolerances_ok, good4, good3, session_tests}
use Rattle.session.specs.Figures.{FIGURES, time_at, step_at, relative_at, absolute_at, state_at, derivative_at, previous_at, jacobian_at, answers_at, part, session_of, figures_of}
use Rattle.session.specs.Calls.{refuse, refuse_lent, ready_of, begin_tests, supply_tests, accept_tests, first_step_tests, begin_call, supply_call, accept_call, drop_call, first_step_call}
use Rattle.session.specs.Runs.{Call, begin, supply, accept, drop as dropping, first_step, wants_of, perform}
use Rattle.session.specs.Bare.{norm_tests, norm_call}
use Rattle.session.specs.Old.{old_figures, old_state_at, old_derivative_at, old_previous_at, old_jacobian_at, old_answers_at, old_session_of}
use Rattle.session.specs.Old.{copied, tolerating, brought_over, both_positive, old_run_places, old_tests, old_norm_tests, old_norm_call, AsBefore}
use Rattle.session.proofs.Clear.{zero_plus}
use Rattle.session.proofs.Laws.{size_both, session_fails}
use Rattle.session.proofs.Parts.{length_part, part_at, is_part, slice_part, read_before, part_before, part_put}
use Rattle.session.proofs.Inverse.{Long, session_back, figures_back}
use Rattle.session.proofs.Writes.{by_fields}

-- ---- one tolerance, copied

pub copied-vec : (n : ℕ) (one : Float) (x : List Float) → x ≡ vec 16 (λ i. cond (ltb i n) one zero+) → x ≡ copied n one
unfolding copied
copied-vec n one x e = e ∙ is_tab 16 _ _ (length-vec 16 _ (omega arith)) (λ p q. vec_at 16 _ p q)

module _ (n : ℕ) (one : Float) where
  pub length-copied : length (copied n one) ≡ places
  unfolding copied
  length-copied = length-tab places _

  copied_at : (i : ℕ) → i < places → copied n one ! i ≡ cond (ltb i n) one zero+
  unfolding copied
  copied_at i l = tab_at places _ i l

  own_at : (i : ℕ) → i < n → i < places → copied n one ! i ≡ one
  own_at i h l = rw (copied_at i l, lt-ltb i n h)

  other_at : (i : ℕ) → n ≤ i → i < places → copied n one ! i ≡ zero+
  other_at i h l = rw (copied_at i l, le-ltb i n h)

  clear-copied : clear n (copied n one) ≡ true
  unfolding clear
  clear-copied = every_of (length (copied n one)) _ (λ i l. go i (omega (arith, length-copied)) (dec_lt i n))
    where
      go : (i : ℕ) → i < places → Dec (i < n) → (ltb i n || plus_zero (copied n one ! i)) ≡ true
      go i l (yes h) = rw (lt-ltb i n h)
      go i l (no h) = rw (le-ltb i n (omega arith), other_at i (omega arith) l) zero_plus

  equal_copied : n ≤ places → Equal n one (copied n one)
  equal_copied h i l = own_at i l (omega arith)

-- a test that n items share
every_same : (n : ℕ) (f : ℕ → Bool) (b : Bool) → 1 ≤ n → ((i : ℕ) → i < n → f i ≡ b) → every n f ≡ b
every_same n f true some h = every_of n f h
every_same n f false some h = every_fails n f 0 some (h 0 some)

tolerances_copied : (n : ℕ) (relative one : Float) → 1 ≤ n → n ≤ places → tolerances_ok n relative (copied n one) ≡ both_positive relative one
unfolding tolerances_ok both_positive
tolerances_copied n relative one some small =
    rw (every_same n (λ i. positive (copied n one ! i)) (positive one) some (λ i l. ap positive (own_at n one i l (omega arith))))

-- ---- the number of an old session

module _ (wants : Option Phase) (o : OldSession) where
  old_places : good1 (brought_over o) ≡ cond (size_ok o.n) (old_run_places o && attempt_places (tolerating o [])) false
  unfolding good1 run_places old_run_places attempt_places brought_over
  old_places = rw (clear-copied o.n o.absolute)

  old_two : good2 (brought_over o) ≡ good2 (tolerating o [])
  unfolding good2 brought_over
  old_two = refl

  old_phase : good7 wants (brought_over o) ≡ good7 wants (tolerating o [])
  unfolding good7 phase_of brought_over
  old_phase = refl

  old_numbers : good3 (brought_over o) ≡ good3 (tolerating o [])
  unfolding good3 brought_over
  old_numbers = refl

  old_tolerances : size_ok o.n ≡ true → good4 (brought_over o) ≡ both_positive o.relative o.absolute
  unfolding good4 brought_over size_ok
  old_tolerances e = let s = size_both o.n e in tolerances_copied o.n o.relative o.absolute s.0 s.1

  old_named : names wants o.count ≡ true → good9 wants (brought_over o) ≡ true
  unfolding good9 brought_over
  old_named e = e

  same_number : (b : Bool) → size_ok o.n ≡ b → names wants o.count ≡ true → tested (session_tests wants (brought_over o)) ≡ tested (old_tests wants o)
  unfolding session_tests old_tests tested
  same_number true e named = rw (old_places, old_two, old_phase, old_named named, old_numbers, old_tolerances e) (unfold brought_over in refl)
  same_number false e named = rw (old_places, e)

  -- the first three rows, then 9
  three : (a b c : Bool) (rest : Tests) → tested ((a, Why.Places) ∷ (b, Why.Scheme) ∷ (c, Why.Phase) ∷ (false, Why.Question) ∷ rest)
      ≡ unless (tested ((a, Why.Places) ∷ (b, Why.Scheme) ∷ (c, Why.Phase) ∷ [])) Err (Err Why.Question)
  unfolding tested unless
  three false b c rest = refl
  three true false c rest = refl
  three true true false rest = refl
  three true true true rest = refl

  old_strays : names wants o.count ≡ false → tested (session_tests wants (brought_over o)) ≡ unless (tested (take 3 (old_tests wants o))) Err (Err Why.Question)
  unfolding session_tests old_tests
  old_strays strays =
      let other : good9 wants (brought_over o) ≡ false = unfold good9 brought_over in strays in
      rw (old_places, old_two, old_phase, other)
      (three (cond (size_ok o.n) (old_run_places o && attempt_places (tolerating o [])) false) (good2 (tolerating o [])) (good7 wants (tolerating o [])) _)

-- ---- a session that is refused: the call gives its number, whatever is handed in

refused_number : {A : Type 0} (of : A → ℕ) {k : Result ⊤ Refusal} {why : Refusal} (refuse : Refusal → A) (next : A) → ((j : Refusal) → of (refuse j) ≡ refusal_number j) → k ≡ Err why
    → of (unless k refuse next) ≡ refusal_number why
unfolding unless
refused_number of refuse next reads e = rw e (reads _)

tested-number : {A : Type 0} (of : A → ℕ) (wants : Option Phase) (s : Session) (handed : Tests) (refuse : Refusal → A) (next : A) → ((j : Refusal) → of (refuse j) ≡ refusal_number j)
    → {why : Refusal} → tested (session_tests wants s) ≡ Err why → of (unless (tested (session_tests wants s ++ handed)) refuse next) ≡ refusal_number why
tested-number of wants s handed refuse next reads h = refused_number of refuse next reads (sym (session_fails wants s handed refl h))

refused_call : (c : Call) (s : Session) (why : Refusal) → tested (session_tests (wants_of c) s) ≡ Err why → number (perform c s).told.answer ≡ refusal_number why
unfolding wants_of perform number values_of begin_call begin_tests supply_call supply_tests accept_call accept_tests drop_call first_step_call first_step_tests
refused_call (begin step wish jacobian out) s why h = tested-number (λ r. number r.told.answer) (Some Rest) s _ (refuse_lent s out) _ (λ j. refl) h
refused_call (supply place answer out) s why h = tested-number (λ r. number r.told.answer) (Some (Asking place)) s _ (refuse_lent s out) _ (λ j. refl) h
refused_call (accept derivative) s why h = tested-number (λ r. number r.answer) (Some Waiting) s _ (refuse s) _ (λ j. refl) h
refused_call dropping s why h = refused_number (λ r. number r.answer) (refuse s) _ (λ j. refl) h
refused_call (first_step largest) s why h = tested-number (λ r. number r.answer) None s _ (refuse s) _ (λ j. refl) h

-- ---- the bare error norm

module _ (n : ℕ) (relative one : Float) (error state candidate : List Float) where
  same_norm : (b : Bool) → size_ok n ≡ b → norm_call n relative (copied n one) error state candidate ≡ old_norm_call n relative one error state candidate
  unfolding norm_call old_norm_call norm_tests old_norm_tests tested unless
  same_norm true e =
      let s : (1 ≤ n) × (n ≤ places) = unfold size_ok in size_both n e in
      rw (
        clear-copied n one,
        e,
        tolerances_copied n relative one s.0 s.1,
        equal_tolerances.norm n relative one (copied n one) (equal_copied n one s.1) state candidate error,
      )
  same_norm false e = rw e

-- ---- THE CLAIM
pub as_before : AsBefore
as_before = record {
  judged = λ wants o named. same_number wants o (size_ok o.n) refl named;
  strays = old_strays;
  next = λ c o why named h. refused_call c (brought_over o) why (same_number (wants_of c) o (size_ok o.n) refl named ∙ h);
  own = λ o i h l. unfold brought_over in own_at o.n o.absolute i h l;
  others = λ o i h l. unfold brought_over in other_at o.n o.absolute i h l;
  ready = λ s one equal candidate error work. unfold ready_of in rw (equal_tolerances.norm s.n s.relative one s.absolute equal s.state candidate error);
  first = λ s one equal largest. unfold first_step_call in rw (equal_tolerances.first s.n s.relative one s.absolute equal s.state s.derivative largest);
  norm = λ n relative one error state candidate. same_norm n relative one error state candidate (size_ok n) refl;
}

-- ---- over lent figures

-- a part of what is stored whole
part_stored : (t : List Float) (at : ℕ) (y : List Float) (d m : ℕ) → d + m ≤ length t → at + length t ≤ length y
    → part (stores (λ i _. t ! i) at (length t) y) (at + d) m ≡ part t d m
part_stored t at y d m h l =
    sym (is_part _ (part t d m) (at + d) m (length_part t d m) (λ i q.
    part_at t d m i q
    ∙ sym (stores_in (λ i _. t ! i) at (length t) y (d + i) (omega arith) (omega arith))
    ∙ ap (λ (p : ℕ). stores (λ i _. t ! i) at (length t) y ! p) (sym (add_assoc at d i))))

part-part : (x : List Float) (at n d m : ℕ) → d + m ≤ n → part (part x at n) d m ≡ part x (at + d) m
part-part x at n d m h =
    is_part x (part (part x at n) d m) (at + d) m (length_part (part x at n) d m) (λ i q.
    part_at (part x at n) d m i q ∙ part_at x at n (d + i) (omega arith) ∙ ap (λ (p : ℕ). x ! p) (sym (add_assoc at d i)))

module _ (k : Head) (old x : List Float) (old-long : length old ≡ old_figures) (long : length x ≡ FIGURES) where
  abbrev front : List Float
  front = take absolute_at old

  abbrev back : List Float
  back = take (old_figures - old_state_at) (drop old_state_at old)

  abbrev one : List Float
  one = copied k.n (old ! absolute_at)

  abbrev with_front : List Float
  with_front = stores (λ i _. front ! i) time_at (length front) x

  abbrev with_one : List Float
  with_one = stores (λ i _. one ! i) absolute_at (length one) with_front

  abbrev pub brought_figures : List Float
  brought_figures = stores (λ i _. back ! i) state_at (length back) with_one

  front_long : length front ≡ absolute_at
  front_long = length-take-le absolute_at old (omega arith)

  back_is : back ≡ part old old_state_at (old_figures - old_state_at)
  back_is = slice_part old old_state_at (old_figures - old_state_at) (omega arith)

  back_long : length back ≡ old_figures - old_state_at
  back_long = ap length back_is ∙ length_part old old_state_at (old_figures - old_state_at)

  front_width : length with_front ≡ FIGURES
  front_width = length-stores _ time_at (length front) x ∙ long

  one_width : length with_one ≡ FIGURES
  one_width = length-stores _ absolute_at (length one) with_front ∙ front_width

  pub brought_width : length brought_figures ≡ FIGURES
  brought_width = length-stores _ state_at (length back) with_one ∙ one_width

  -- the first figures
  early : (p : ℕ) → p < absolute_at → brought_figures ! p ≡ old ! p
  early p l =
      read_before _ state_at (length back) with_one p (omega arith)
      ∙ read_before _ absolute_at (length one) with_front p l
      ∙ ap (λ (q : ℕ). with_front ! q) (sym (zero-add p))
      ∙ stores_in (λ i _. front ! i) time_at (length front) x p (omega (arith, front_long)) (omega arith)
      ∙ get_or-take absolute_at old p nan l

  tolerances : part brought_figures absolute_at places ≡ one
  tolerances =
      part_before _ state_at (length back) with_one absolute_at places (omega arith)
      ∙ ap (λ (n : ℕ). part (stores (λ i _. one ! i) absolute_at n with_front) absolute_at places) (length-copied k.n (old ! absolute_at))
      ∙ part_put one absolute_at places with_front (length-copied k.n (old ! absolute_at)) (omega (arith, front_width))

  -- the arrays behind them
  array : (d m : ℕ) → d + m ≤ old_figures - old_state_at → part brought_figures (state_at + d) m ≡ part old (old_state_at + d) m
  array d m h =
      part_stored back state_at with_one d m (omega (arith, back_long)) (omega (arith, back_long, one_width))
      ∙ ap (λ (l : List Float). part l d m) back_is
      ∙ part-part old old_state_at (old_figures - old_state_at) d m h

  pub brought_is : brought_figures ≡ figures_of (brought_over (old_session_of k old))
  unfolding brought_over old_session_of
  brought_is =
      sym (figures_back k brought_figures brought_width)
      ∙ ap figures_of (by_fields k brought_figures (brought_over (old_session_of k old)) refl
      (early time_at (omega arith))
      (early step_at (omega arith))
      (early relative_at (omega arith))
      tolerances
      (array 0 places (omega arith))
      (array (derivative_at - state_at) places (omega arith))
      (array (previous_at - state_at) places (omega arith))
      (array (jacobian_at - state_at) jacobian_room (omega arith))
      (array (answers_at - state_at) answer_room (omega arith)))

  -- from what the code leaves
  pub brought_told : {n : ℕ} {a y z w : List Float} → k.n ≡ n → a ≡ copied n (old ! absolute_at) → y ≡ with_front
      → z ≡ stores (λ i _. a ! i) absolute_at (length a) y → w ≡ stores (λ i _. back ! i) state_at (length back) z
      → w ≡ figures_of (brought_over (old_session_of k old))
  brought_told {y = y} e c p q r =
      let own = c ∙ ap (λ (n : ℕ). copied n (old ! absolute_at)) (sym e) in
      let two = q ∙ ap (λ (l : List Float). stores (λ i _. l ! i) absolute_at (length l) y) own ∙ ap (stores (λ i _. one ! i) absolute_at (length one)) p in
      r ∙ ap (stores (λ i _. back ! i) state_at (length back)) two ∙ brought_is

-- the figures of today hold, beside its head, the session that it is brought over as
brought_long : (k : Head) (old : List Float) → Long (brought_over (old_session_of k old))
unfolding brought_over old_session_of
brought_long k old = record {
  absolute = length-copied k.n (old ! absolute_at);
  state = length_part old old_state_at places;
  derivative = length_part old old_derivative_at places;
  previous = length_part old old_previous_at places;
  jacobian = length_part old old_jacobian_at jacobian_room;
  answers = length_part old old_answers_at answer_room;
}

pub brought_back : (k : Head) (old : List Float) → session_of k (figures_of (brought_over (old_session_of k old))) ≡ brought_over (old_session_of k old)
unfolding brought_over old_session_of
brought_back k old = session_back (brought_over (old_session_of k old)) (brought_long k old)
