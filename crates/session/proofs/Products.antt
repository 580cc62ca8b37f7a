-- How far the exponentials went, as a call tells it, is bounded. Assumes nothing.
use Rattle.std.proofs.Common.{ℕ, ◌-◌, ◌*◌, ◌≤◌, ◌≡◌, refl, sym, subst, Bool, true, false, cond, List, arith, Float, length}
use Rattle.loops.specs.Loop.{◌!◌}
use Rattle.matrix.specs.Matrix.{admitted, Few}
use Rattle.matrix.specs.Vector.{vec}
use Rattle.matrix.proofs.Claims.{at_most_47}
use Rattle.matrix.proofs.Vectors.{vec_at}
use Rattle.methods.specs.Phi.{phi_action}
use Rattle.methods.specs.Shape.{Doubles}
use Rattle.methods.specs.Step.{exponentials, Progress, refused, asking, ended}
use Rattle.methods.proofs.Took.{phi_reach}
use Rattle.methods.proofs.Shape.{at_most_34, step_work}
use Rattle.std.specs.Prelude.{Result, Ok, Err, ⊤, Some, IfSome, is_some}
use Rattle.session.specs.declared.Refusal.{Refusal}
use Rattle.session.specs.declared.Refusal.TheVariants as Why
use Rattle.session.specs.declared.Session.{Session}
use Rattle.session.specs.declared.Answer.{Answer}
use Rattle.session.specs.declared.Answer.TheVariants.{Ask, Ready, Resting, FirstStep, Filled, Norm}
use Rattle.session.specs.declared.Phase.TheVariants.{Rest, Asking}
use Rattle.session.specs.Tests.{tested, unless}
use Rattle.session.specs.Values.{values_of, figured}
use Rattle.session.specs.Session.{Run, run_of, is_held, previous_of, point_of, stepped, progress}
use Rattle.session.specs.declared.History.{History}
use Rattle.session.specs.declared.History.TheVariants.{Missing, Held}
use Rattle.session.specs.Calls.{Outcome, refuse_lent, begun, answered, ready_of, shown, begin_tests, supply_tests, begin_call, supply_call}
use Rattle.session.specs.Bare.{bare, refuse_bare, exponential_tests, exponential_call, phi_tests, phi_call}
use Rattle.session.specs.Claims.{Typed, exponentials_of, Products}
use Rattle.session.proofs.Tests.{unless_either}
use Rattle.session.proofs.Laws.{passed_sound, begin_passes, supply_passes, exponential_sized, phi_sized}
use Rattle.session.proofs.Ends.{progress_any}

-- ---- where an attempt stands: at its end at most so many products
EndsWithin : ℕ → Progress → Type 0
EndsWithin most refused = Unit
EndsWithin most (asking x t) = Unit
EndsWithin most (ended x e g w) = w.products ≤ most

-- what of a session its passes start from
record Starts (s : Session) : Type 0 where
  small : s.n ≤ 16
  slope : Doubles s.n s.derivative
  before : Doubles s.n s.previous

-- a history that is kept
past : (n : ℕ) (held : History) (previous : List Float) → Doubles n previous → IfSome (previous_of held previous) (Doubles n)
unfolding previous_of
past n Missing previous d = tt
past n Held previous d = d

exponentials_held : (k : ℕ) (held : History) (previous : List Float) → exponentials k (is_some (previous_of held previous)) ≡ exponentials k (is_held held)
unfolding previous_of is_held
exponentials_held k Missing previous = refl
exponentials_held k Held previous = refl

starts : (s : Session) → Typed s → s.n ≤ 16 → Starts s
starts s t small = record { small = small; slope = record { fit = λ i _. t.derivative.fit i }; before = record { fit = λ i _. t.previous.fit i } }

step_few : (s : Session) → Starts s → (a : List Float) (j : ℕ) → EndsWithin (47 * exponentials_of s) (stepped s a j)
step_few s r a j = go (stepped s a j) refl
  where
    go : (p : Progress) → stepped s a j ≡ p → EndsWithin (47 * exponentials_of s) p
    go refused h = unfold EndsWithin in tt
    go (asking x t) h = unfold EndsWithin in tt
    go (ended x e g w) h =
        unfold EndsWithin point_of in
        rw (exponentials_held s.scheme s.history s.previous) at
        (step_work s.scheme (point_of s) a (s.count - j) j s.answers x e g w r.small r.slope (past s.n s.history s.previous r.before) h).few

-- ---- what is told
Bounded : ℕ → Result Answer Refusal → Type 0
Bounded most (Ok (Ask place time)) = Unit
Bounded most (Ok (Ready norm rhs jacobians products)) = products ≤ most
Bounded most (Ok Resting) = Unit
Bounded most (Ok (FirstStep step)) = Unit
Bounded most (Ok (Filled terms squarings)) = Few terms squarings
Bounded most (Ok (Norm norm)) = Unit
Bounded most (Err why) = Unit

shown_few : (most : ℕ) (old s : Session) (o : List Float) (p : Progress) → EndsWithin most p → Bounded most (shown old s o p).told.answer
unfolding shown ready_of Bounded EndsWithin
shown_few most old s o refused h = tt
shown_few most old s o (asking x t) h = tt
shown_few most old s o (ended x e g w) h = h

attempt_few : (old s : Session) (o : List Float) → Starts s → Bounded (47 * exponentials_of s) (shown old s o (progress s)).told.answer
attempt_few old s o r =
    let m = 47 * exponentials_of s in
    shown_few m old s o (progress s) (progress_any (EndsWithin m) s (unfold EndsWithin in tt) (λ x t. unfold EndsWithin in tt) (step_few s r))

-- of another attempt of the same run
run_few : (s next : Session) (o : List Float) → run_of next ≡ run_of s → Starts s → Bounded (47 * exponentials_of s) (shown s next o (progress next)).told.answer
run_few s next o e r =
    let at_next : Starts next = record {
      small = subst (λ (r : Run). r.n ≤ 16) (sym e) r.small;
      slope = subst (λ (r : Run). Doubles r.n r.derivative) (sym e) r.slope;
      before = subst (λ (r : Run). Doubles r.n r.previous) (sym e) r.before;
    } in
    subst (λ (r : Run). Bounded (47 * exponentials r.scheme (is_held r.history)) (shown s next o (progress next)).told.answer) e (attempt_few s next o at_next)

call_few : (most : ℕ) (k : Result ⊤ Refusal) (s : Session) (o : List Float) (r : Outcome) → (k ≡ Ok tt → Bounded most r.told.answer) → Bounded most (unless k (refuse_lent s o) r).told.answer
call_few most k s o r h = unless_either k (refuse_lent s o) r (λ r. Bounded most r.told.answer) (λ j. unfold Bounded in tt) h

ready_few : (most : ℕ) (a : Result Answer Refusal) → Bounded most a → (norm : Float) (rhs jacobians products : ℕ) → a ≡ Ok (Ready norm rhs jacobians products) → products ≤ most
ready_few most a h norm rhs jacobians products e = unfold Bounded in subst (Bounded most) e h

-- a bare call
bare_far : (k : Result ⊤ Refusal) (o : List Float) (b : Bool) (terms squarings : ℕ) (made : List Float) → (k ≡ Ok tt → b ≡ true → Few terms squarings)
    → Bounded 0 (unless k (refuse_bare o) (cond b (bare (Ok (Filled terms squarings)) made) (refuse_bare o Why.Arithmetic))).answer
unfolding Bounded
bare_far k o b terms squarings made h = unless_either k (refuse_bare o) _ (λ r. Bounded 0 r.answer) (λ j. tt) (λ z. go b (h z))
  where
    go : (c : Bool) → (c ≡ true → Few terms squarings) → Bounded 0 (cond c (bare (Ok (Filled terms squarings)) made) (refuse_bare o Why.Arithmetic)).answer
    go true l = l refl
    go false l = tt

filled_far : (a : Result Answer Refusal) → Bounded 0 a → (terms squarings : ℕ) → a ≡ Ok (Filled terms squarings) → Few terms squarings
filled_far a h terms squarings e = unfold Bounded in subst (Bounded 0) e h

-- ---- THE CLAIM
pub products : Products
unfolding begin_call supply_call exponential_call phi_call
products = record {
  begin = λ s step wish jacobian out t.
      let next = begun s step (Some wish) jacobian in
      ready_few (47 * exponentials_of s) _ (call_few (47 * exponentials_of s) (tested (begin_tests s step (Some wish) jacobian (length out))) s out (shown s next out (progress next)) (λ e.
      let p = begin_passes s step (Some wish) jacobian (length out) e in
      run_few s next out (unfold begun in refl) (starts s t (passed_sound (Some Rest) s p.0).small)));
  supply = λ s place answer out t.
      let next = answered s answer in
      ready_few (47 * exponentials_of s) _ (call_few (47 * exponentials_of s) (tested (supply_tests s place answer (length out))) s out (shown s next out (progress next)) (λ e.
      let p = supply_passes s place answer (length out) e in
      run_few s next out (unfold answered in refl) (starts s t (passed_sound (Some (Asking place)) s p.0).small)));
  most = λ s. omega (arith, at_most_34 s.scheme (is_held s.history));
  asking = λ place time. unfold values_of figured in refl;
  exponential = λ size m out d.
      filled_far _ (bare_far (tested (exponential_tests size m (length out))) out (admitted m size) _ _ _ (λ z r.
      let s = exponential_sized size m (length out) z in
      at_most_47 m size (record { size = s.0; places = s.1.0; doubles = λ p _. d p; rows = r })));
  phi_action = λ n order scaleA a input out d.
      let x = vec n (λ i. input ! i) in
      filled_far _ (bare_far (tested (phi_tests n order scaleA a input (length out))) out (phi_action n a scaleA order x).tally.ok _ _ _ (λ z r.
      let s = phi_sized n order scaleA a input (length out) z in
      phi_reach n a scaleA order x s.sized.small s.most (record { fit = λ i h. rw (vec_at n (λ i. input ! i) i h) (d i) })));
}
