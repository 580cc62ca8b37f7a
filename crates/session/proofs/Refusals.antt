-- Of the definitions, the number of each call, and what a refusal leaves. Assumes nothing.
use Rattle.std.proofs.Common.{ℕ, ◌≡◌, refl, inl, inr, Bool, true, false, cond, List, [], ◌∷◌, ◌++◌, Float, length}
use Rattle.loops.specs.Loop.{tab, ◌!◌}
use Rattle.float.specs.Arith.{◌⊕◌, finite}
use Rattle.matrix.specs.Matrix.{admitted, exponential}
use Rattle.matrix.specs.Vector.{vec}
use Rattle.methods.specs.Phi.{phi_action}
use Rattle.methods.specs.Step.{Progress, refused, asking, ended}
use Rattle.std.specs.Prelude.{Result, Ok, Err, ⊤, Some, None}
use Rattle.session.specs.declared.Refusal.{Refusal}
use Rattle.session.specs.declared.Refusal.TheVariants as Why
use Rattle.session.specs.declared.Session.{Session}
use Rattle.session.specs.declared.Told.{Told}
use Rattle.session.specs.declared.Answer.TheVariants.{Resting, Filled}
use Rattle.session.specs.Tests.{Tests, refusal_number, tested, unless}
use Rattle.session.specs.Values.{figured, values_of, number}
use Rattle.session.specs.Session.{session_tests, progress}
use Rattle.session.specs.Calls.{Outcome, tell, refuse, refuse_lent, opened, nothing, begun, answered, moved, ready_of, rested, shown, arrived, settled}
use Rattle.session.specs.Calls.{begin_tests, supply_tests, accept_tests, first_step_tests}
use Rattle.session.specs.Calls.{open_call, begin_call, supply_call, accept_call, drop_call, first_step_call}
use Rattle.session.specs.Bare.{Bare, bare, refuse_bare, exponential_tests, phi_tests, norm_tests, exponential_call, phi_call, norm_call}
use Rattle.session.specs.Refusals.{First, works, Numbers, Kept, Unchanged, Unwritten, Refusals}
use Rattle.session.proofs.Tests.{unless_either, call_first}
use Rattle.session.proofs.Laws.{accept_passes}
use Rattle.session.proofs.Counts.{never_asking}

-- ---- the number that is read off a result

told_number : Told → ℕ
told_number r = number r.answer

outcome-number : Outcome → ℕ
outcome-number r = number r.told.answer

bare-number : Bare → ℕ
bare-number r = number r.answer

refused_number : (why : Refusal) → number (Err why) ≡ refusal_number why
unfolding number values_of
refused_number why = refl

-- ---- what follows the tests
shown-first : (old s : Session) (o : List Float) (p : Progress) → First ((works p, Why.Arithmetic) ∷ []) (outcome-number (shown old s o p))
unfolding First works shown outcome-number number values_of figured ready_of
shown-first old s o refused = inl (refl, refl)
shown-first old s o (asking x t) = inr (refl, refl)
shown-first old s o (ended x e g w) = inr (refl, refl)

-- a test of the arithmetic that is made by a condition
either_first : {A : Type 0} (of : A → ℕ) (b : Bool) (x z : A) → of x ≡ 0 → of z ≡ 6 → First ((b, Why.Arithmetic) ∷ []) (of (cond b x z))
unfolding First
either_first of true x z h k = inr (refl, h)
either_first of false x z h k = inl (refl, k)

resting-number : (s : Session) → told_number (tell Resting s) ≡ 0
unfolding told_number number values_of figured
resting-number s = refl

settled-first : (s : Session) (f : List Float) (p : Progress) → ((x : List Float) (t : Float) → p ≡ asking x t → ⊥)
    → First ((works p, Why.Arithmetic) ∷ (finite (s.time ⊕ s.step), Why.Arithmetic) ∷ []) (told_number (settled s f p))
unfolding First works settled
settled-first s f refused never = inl (refl, unfold told_number in refused_number Why.Arithmetic)
settled-first s f (asking x t) never = absurd (never x t refl)
settled-first s f (ended x e g w) never =
    inr (refl, unfold arrived in either_first told_number (finite (s.time ⊕ s.step)) _ (refuse s Why.Arithmetic) (resting-number _) (unfold told_number in refused_number Why.Arithmetic))

filled_number : (terms squarings : ℕ) (out : List Float) → bare-number (bare (Ok (Filled terms squarings)) out) ≡ 0
unfolding bare-number number values_of figured
filled_number terms squarings out = refl

-- no test after these
none_after : (tests : Tests) (k : ℕ) → First (tests ++ []) k → First tests k
unfolding First
none_after [] k f = f
none_after ((b, j) ∷ tests) k (inl h) = inl h
none_after ((b, j) ∷ tests) k (inr h) = inr (h.0, none_after tests k h.1)

-- a call whose tests are all that refuses it
only_tests : {A : Type 0} (of : A → ℕ) (tests : Tests) (refuse : Refusal → A) (next : A) → ((why : Refusal) → of (refuse why) ≡ refusal_number why) → of next ≡ 0
    → First tests (of (unless (tested tests) refuse next))
only_tests of tests refuse next r e = none_after tests _ (call_first of tests [] refuse next r (λ _. unfold First in e))

-- ---- THE CLAIMS
pub numbers : Numbers
unfolding open_call begin_call supply_call accept_call drop_call first_step_call exponential_call phi_call norm_call told_number outcome-number bare-number
numbers = record {
  opens = λ r.
      only_tests told_number (session_tests None (opened r)) (refuse nothing) _ refused_number (resting-number (opened r));
  begin = λ s step wish jacobian out.
      let next = begun s step (Some wish) jacobian in
      call_first outcome-number (begin_tests s step (Some wish) jacobian (length out)) _ (refuse_lent s out) _
      refused_number (λ _. shown-first s next out (progress next));
  supply = λ s place answer out.
      let next = answered s answer in
      call_first outcome-number (supply_tests s place answer (length out)) _ (refuse_lent s out) _
      refused_number (λ _. shown-first s next out (progress next));
  accept = λ s derivative.
      call_first told_number (accept_tests s derivative) _ (refuse s) _ refused_number (λ e.
      settled-first s derivative (progress s) (never_asking s (accept_passes s derivative e).0));
  drop = λ s. only_tests told_number (session_tests None s) (refuse s) _ refused_number (resting-number (rested s));
  first_step = λ s largest.
      only_tests told_number (first_step_tests s largest) (refuse s) _ refused_number (unfold number values_of figured in refl);
  exponential = λ size m out.
      call_first bare-number (exponential_tests size m (length out)) _ (refuse_bare out) _ refused_number
      (λ _. either_first bare-number (admitted m size) _ (refuse_bare out Why.Arithmetic)
      (filled_number (exponential m size).terms (exponential m size).squarings (exponential m size).entries) (refused_number Why.Arithmetic));
  phi_action = λ n order scaleA a input out.
      let action = phi_action n a scaleA order (vec n (λ i. input ! i)) in
      call_first bare-number (phi_tests n order scaleA a input (length out)) _ (refuse_bare out) _ refused_number
      (λ _. either_first bare-number action.tally.ok _ (refuse_bare out Why.Arithmetic) (filled_number action.tally.terms action.tally.squarings (tab n (λ i. action.v ! i))) (refused_number Why.Arithmetic));
  error_norm = λ n relative absolute error state candidate.
      only_tests number (norm_tests n relative absolute error state candidate) Err _ refused_number
      (unfold number values_of figured in refl);
}

-- ---- what a refusal leaves
shown_unchanged : (old s : Session) (o : List Float) (p : Progress) → Unchanged old o (shown old s o p)
unfolding Unchanged shown number values_of figured ready_of
shown_unchanged old s o refused = λ _. (refl, refl)
shown_unchanged old s o (asking x t) = λ h. absurd (h refl)
shown_unchanged old s o (ended x e g w) = λ h. absurd (h refl)

resting_kept : (s t : Session) → Kept s (tell Resting t)
unfolding Kept number values_of figured
resting_kept s t = λ h. absurd (h refl)

settled_kept : (s : Session) (f : List Float) (p : Progress) → Kept s (settled s f p)
unfolding settled arrived
settled_kept s f refused = unfold Kept in λ _. refl
settled_kept s f (asking x t) = unfold Kept in λ _. refl
settled_kept s f (ended x e g w) = go (finite (s.time ⊕ s.step))
  where
    go : (b : Bool) → Kept s (cond b (tell Resting (moved s (s.time ⊕ s.step) x f g)) (refuse s Why.Arithmetic))
    go true = resting_kept s _
    go false = unfold Kept in λ _. refl

-- a bare call: filled, or refused for its arithmetic
filled_unwritten : (out made : List Float) (terms squarings : ℕ) (b : Bool) → Unwritten out (cond b (bare (Ok (Filled terms squarings)) made) (refuse_bare out Why.Arithmetic))
unfolding Unwritten number values_of figured
filled_unwritten out made terms squarings true = λ h. absurd (h refl)
filled_unwritten out made terms squarings false = λ _. refl

kept : (k : Result ⊤ Refusal) (s : Session) (r : Told) → Kept s r → Kept s (unless k (refuse s) r)
kept k s r h = unless_either k (refuse s) r (Kept s) (λ j. unfold Kept in λ _. refl) (λ _. h)

unchanged : (k : Result ⊤ Refusal) (s : Session) (o : List Float) (r : Outcome) → Unchanged s o r → Unchanged s o (unless k (refuse_lent s o) r)
unchanged k s o r h = unless_either k (refuse_lent s o) r (Unchanged s o) (λ j. unfold Unchanged in λ _. (refl, refl)) (λ _. h)

unwritten : (k : Result ⊤ Refusal) (o : List Float) (r : Bare) → Unwritten o r → Unwritten o (unless k (refuse_bare o) r)
unwritten k o r h = unless_either k (refuse_bare o) r (Unwritten o) (λ j. unfold Unwritten in λ _. refl) (λ _. h)

pub refusals : Refusals
unfolding open_call begin_call supply_call accept_call drop_call first_step_call exponential_call phi_call
refusals = record {
  opens = λ r. kept _ nothing _ (resting_kept nothing _);
  begin = λ s step wish jacobian out. unchanged _ s out _ (shown_unchanged s _ out _);
  supply = λ s place answer out. unchanged _ s out _ (shown_unchanged s _ out _);
  accept = λ s derivative. kept _ s _ (settled_kept s derivative _);
  drop = λ s. kept _ s _ (resting_kept s _);
  first_step = λ s largest. kept _ s _ (unfold Kept in λ _. refl);
  exponential = λ size m out. unwritten _ out _ (filled_unwritten out (exponential m size).entries (exponential m size).terms (exponential m size).squarings (admitted m size));
  phi_action = λ n order scaleA a input out.
      let action = phi_action n a scaleA order (vec n (λ i. input ! i)) in
      unwritten _ out _ (filled_unwritten out (tab n (λ i. action.v ! i)) action.tally.terms action.tally.squarings action.tally.ok);
}
