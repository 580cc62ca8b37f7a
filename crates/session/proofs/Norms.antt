-- The error norm that a call tells is never a NaN. Assumes nothing.
use Rattle.std.proofs.Common.{ℕ, ◌*◌, ◌≤◌, ◌<◌, ◌≡◌, refl, sym, subst, Bool, true, false, cond, ◌&&◌, List, arith, T, ltb→lt, lt→ltb, Float, length}
use Rattle.std.specs.Float.Ieee.{nan, inf, fin, binary64, up, down, fits, is_nan, lt, odd, of_bits, of_fields}
use lib.Ieee.Positive.{positive as above0, first_pos}
use Rattle.loops.proofs.Bools.{both_true}
use Rattle.loops.proofs.Loops.{every_at}
use Rattle.loops.specs.Loop.{every, ◌!◌}
use Rattle.float.specs.Arith.{zero+, finite}
use Rattle.float.proofs.Order.{zero_number}
use Rattle.evaluation.specs.Evaluation.{all_finite}
use Rattle.methods.specs.declared.Work.{Work}
use Rattle.methods.specs.Step.{Progress, refused, asking, ended}
use Rattle.engine.specs.Engine.{error_norm}
use Rattle.engine.proofs.Norm.{norm-number}
use Rattle.std.specs.Prelude.{Ok, Result, Err, ⊤, Option, Some}
use Rattle.session.specs.declared.Phase.{Phase}
use Rattle.session.specs.declared.Refusal.{Refusal}
use Rattle.session.specs.declared.Refusal.TheVariants as Why
use Rattle.session.specs.declared.Session.{Session}
use Rattle.session.specs.declared.Answer.{Answer}
use Rattle.session.specs.declared.Answer.TheVariants.{Ask, Ready, Resting, FirstStep, Filled, Norm}
use Rattle.session.specs.declared.Phase.TheVariants.{Rest, Asking}
use Rattle.session.specs.Tests.{tested, condition, unless}
use Rattle.session.specs.Session.{Run, run_of, positive, tolerances_ok, good4, session_tests, progress}
use Rattle.session.specs.Calls.{Outcome, refuse_lent, begun, answered, has_error, ready_of, shown, begin_tests, supply_tests, begin_call, supply_call}
use Rattle.session.specs.Bare.{norm_tests, norm_call}
use Rattle.session.specs.Claims.{Typed, Norms}
use Rattle.session.proofs.Tests.{passes, unless_either}
use Rattle.session.proofs.Laws.{norm_sized, passed_sound, begin_passes, supply_passes}
use Rattle.session.proofs.Closed.{passed_good}
use Rattle.session.proofs.Ends.{Wholes, ended_whole}

-- ---- vectors of 16 finite places
record Numbers (x : List Float) : Type 0 where
  places : length x ≡ 16
  finite : all_finite x ≡ true

number_at : (x : List Float) → Numbers x → (n : ℕ) → n ≤ 16 → (i : ℕ) → i < n → finite (x ! i) ≡ true
unfolding all_finite
number_at x w n h i l = every_at (length x) (λ p. finite (x ! p)) w.finite i (rw w.places (omega arith))

-- ---- tolerances
positive_too : (x : Float) → positive x ≡ true → T (above0 x)
unfolding positive finite lt of_bits of_fields odd
positive_too nan h = absurd (subst T (sym h) tt)
positive_too (inf s) h = absurd (subst T (sym h) tt)
positive_too (fin true m e) h = absurd (subst T (sym h) tt)
positive_too (fin false m e) h =
    let k : 0 * 1 * down e < m * up e * 1 = ltb→lt (0 * 1 * down e) (m * up e * 1) (subst T (sym h) tt) in
    lt→ltb 0 m (first_pos m (up e) (omega arith))

-- the relative one, and each of n
positive_all : (n : ℕ) (relative : Float) (absolute : List Float) → tolerances_ok n relative absolute ≡ true
    → T (above0 relative) × ((i : ℕ) → i < n → T (above0 (absolute ! i)))
unfolding tolerances_ok
positive_all n relative absolute e =
    let p = both_true (positive relative) (every n (λ i. positive (absolute ! i))) e in
    (positive_too relative p.0, (λ i l. positive_too (absolute ! i) (every_at n (λ i. positive (absolute ! i)) p.1 i l)))

-- ---- what the norm of a session rests on
record Measured (s : Session) : Type 0 where
  some : 1 ≤ s.n
  small : s.n ≤ 16
  relative : T (above0 s.relative)
  absolute : (i : ℕ) → i < s.n → T (above0 (s.absolute ! i))
  double : (i : ℕ) → T (fits binary64 (s.absolute ! i))
  state : Numbers s.state

measured : (wants : Option Phase) (s : Session) → Typed s → tested (session_tests wants s) ≡ Ok tt → Measured s
measured wants s t e =
    let g = passed_good wants s e in
    let n = passed_sound wants s e in
    let p = positive_all s.n s.relative s.absolute (unfold good4 in g.tolerances) in
    record {
      some = n.some;
      small = n.small;
      relative = p.0;
      absolute = p.1;
      double = t.absolute.fit;
      state = record { places = t.state.places; finite = g.state_finite };
    }

norm_of : (s : Session) → Measured s → (x e g : List Float) → Wholes s.n x e g → is_nan (error_norm s.n s.relative s.absolute s.state x e) ≡ false
norm_of s m x e g w =
    norm-number s.relative s.state x e m.relative s.absolute s.n m.some m.small m.absolute m.double
    (number_at s.state m.state s.n m.small)
    (number_at x (record { places = w.candidate.vector.places; finite = w.candidate.numbers }) s.n m.small)
    (number_at e (record { places = w.error.vector.places; finite = w.error.numbers }) s.n m.small)

-- ---- answers whose norm is no NaN
Number : Result Answer Refusal → Type 0
Number (Ok (Ask place time)) = Unit
Number (Ok (Ready norm rhs jacobians products)) = is_nan norm ≡ false
Number (Ok Resting) = Unit
Number (Ok (FirstStep step)) = Unit
Number (Ok (Filled terms squarings)) = Unit
Number (Ok (Norm norm)) = is_nan norm ≡ false
Number (Err why) = Unit

shown-number : (old s : Session) (o : List Float) (p : Progress) → Measured s → ((x e g : List Float) (w : Work) → p ≡ ended x e g w → Wholes s.n x e g)
    → Number (shown old s o p).told.answer
unfolding shown ready_of Number
shown-number old s o refused m f = tt
shown-number old s o (asking x t) m f = tt
shown-number old s o (ended x e g w) m f = go (has_error s.scheme)
  where
    go : (b : Bool) → is_nan (cond b (error_norm s.n s.relative s.absolute s.state x e) zero+) ≡ false
    go true = norm_of s m x e g (f x e g w refl)
    go false = zero_number

-- of a session whose attempt is shown
attempt_number_lem : (old s : Session) (o : List Float) → Measured s → Number (shown old s o (progress s)).told.answer
attempt_number_lem old s o m = shown-number old s o (progress s) m (ended_whole s m.small)

call_number : (k : Result ⊤ Refusal) (s : Session) (o : List Float) (r : Outcome) → (k ≡ Ok tt → Number r.told.answer) → Number (unless k (refuse_lent s o) r).told.answer
call_number k s o r h = unless_either k (refuse_lent s o) r (λ r. Number r.told.answer) (λ j. unfold Number in tt) h

ready_number : (a : Result Answer Refusal) → Number a → (norm : Float) (rhs jacobians products : ℕ) → a ≡ Ok (Ready norm rhs jacobians products) → is_nan norm ≡ false
ready_number a h norm rhs jacobians products e = unfold Number in subst Number e h

told_number : (a : Result Answer Refusal) → Number a → (norm : Float) → a ≡ Ok (Norm norm) → is_nan norm ≡ false
told_number a h norm e = unfold Number in subst Number e h

-- what is measured is the run's
run_measured : (s t : Session) → run_of t ≡ run_of s → Measured s → Measured t
run_measured s t e m = record {
  some = subst (λ (r : Run). 1 ≤ r.n) (sym e) m.some;
  small = subst (λ (r : Run). r.n ≤ 16) (sym e) m.small;
  relative = subst (λ (r : Run). T (above0 r.relative)) (sym e) m.relative;
  absolute = subst (λ (r : Run). (i : ℕ) → i < r.n → T (above0 (r.absolute ! i))) (sym e) m.absolute;
  double = subst (λ (r : Run). (i : ℕ) → T (fits binary64 (r.absolute ! i))) (sym e) m.double;
  state = subst (λ (r : Run). Numbers r.state) (sym e) m.state;
}

bare-number : (n : ℕ) (relative : Float) (absolute error state candidate : List Float) → ((i : ℕ) → T (fits binary64 (absolute ! i)))
    → length error ≡ 16 → length state ≡ 16 → length candidate ≡ 16
    → tested (norm_tests n relative absolute error state candidate) ≡ Ok tt → is_nan (error_norm n relative absolute state candidate error) ≡ false
bare-number n relative absolute error state candidate f le ls lc h =
    let row = passes (norm_tests n relative absolute error state candidate) h in
    let z = norm_sized n relative absolute error state candidate h in
    let t = positive_all n relative absolute (unfold condition norm_tests in row Why.Tolerance) in
    let v = both_true (all_finite error && all_finite state) (all_finite candidate) (unfold condition norm_tests in row Why.NotFinite) in
    let w = both_true (all_finite error) (all_finite state) v.0 in
    norm-number relative state candidate error t.0 absolute n z.0 z.1 t.1 f
    (number_at state (record { places = ls; finite = w.1 }) n z.1)
    (number_at candidate (record { places = lc; finite = v.1 }) n z.1)
    (number_at error (record { places = le; finite = w.0 }) n z.1)

-- ---- THE CLAIM
pub norms : Norms
unfolding begin_call supply_call norm_call
norms = record {
  begin = λ s step wish jacobian out t.
      let next = begun s step (Some wish) jacobian in
      ready_number _ (call_number (tested (begin_tests s step (Some wish) jacobian (length out))) s out (shown s next out (progress next)) (λ e.
      attempt_number_lem s next out (run_measured s next (unfold begun in refl) (measured (Some Rest) s t (begin_passes s step (Some wish) jacobian (length out) e).0))));
  supply = λ s place answer out t.
      let next = answered s answer in
      ready_number _ (call_number (tested (supply_tests s place answer (length out))) s out (shown s next out (progress next)) (λ e.
      attempt_number_lem s next out (run_measured s next (unfold answered in refl) (measured (Some (Asking place)) s t (supply_passes s place answer (length out) e).0))));
  bare = λ n relative absolute error state candidate f le ls lc.
      told_number _
      (unless_either (tested (norm_tests n relative absolute error state candidate)) Err (Ok (Norm (error_norm n relative absolute state candidate error))) Number
      (λ j. unfold Number in tt) (λ h. unfold Number in bare-number n relative absolute error state candidate f le ls lc h));
}
