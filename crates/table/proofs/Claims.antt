-- What follows from the definitions of an opening by a table and of a whole step. Assumes nothing.
use Rattle.std.proofs.Common.{ℕ, ◌≡◌, refl, sym, ◌∙◌, subst, ◌⊎◌, inl, inr, Bool, true, false, cond, ◌&&◌, List, [], ◌∷◌, Float, replicate}
use Rattle.std.proofs.Math.Bool.{false≢true}
use Rattle.std.specs.Prelude.{Result, Ok, Err, None}
use Rattle.float.specs.Arith.{zero+}
use Rattle.evaluation.specs.Sizes.{places}
use Rattle.evaluation.specs.Evaluation.{all_finite}
use Rattle.session.specs.declared.Session.{Session}
use Rattle.session.specs.declared.Told.{Told}
use Rattle.session.specs.declared.Answer.{Answer}
use Rattle.session.specs.declared.Answer.TheVariants.{Ask, Ready, Resting, FirstStep, Filled, Norm}
use Rattle.session.specs.declared.Refusal.{Refusal}
use Rattle.session.specs.declared.Refusal.TheVariants as Why
use Rattle.session.specs.Tests.{tested, unless}
use Rattle.session.specs.Values.{is_refused, values_of, figured, number}
use Rattle.session.specs.Refusals.{Kept}
use Rattle.session.specs.Session.{Run, clear, fresh, idle, wanted, good2, good4, tolerances_ok, session_tests}
use Rattle.session.specs.Calls.{told, refuse, opened, nothing, open_call}
use Rattle.session.proofs.Tests.{both_pass, unless_either}
use Rattle.session.proofs.Laws.{passed_sound}
use Rattle.session.proofs.Closed.{passed_good}
use Rattle.session.proofs.Opens.{opening}
use Rattle.session.proofs.Kept.{Same}
use Rattle.table.specs.Table.{table_ok, derivative}
use Rattle.table.specs.Whole.{with_derivative, opening_tests, open_by_table, whole_tests, stepped, keeping, whole_step}
use Rattle.table.specs.Claims.{Openings, WholeSteps}
use Rattle.table.proofs.Steps.{whole_passes}
use Rattle.table.proofs.Ends.{verdict, derivative-clear, Ending, stepped_ends, asks_enough, place_is, overflow_three, candidate_three}

-- ---- a number that is not 0 is a refusal's
refusal_of : (a : Result Answer Refusal) → (number a ≡ 0 → ⊥) → is_refused a ≡ true
unfolding number is_refused values_of figured
refusal_of (Ok (Ask place time)) h = absurd (h refl)
refusal_of (Ok (Ready norm rhs jacobians products)) h = absurd (h refl)
refusal_of (Ok Resting) h = absurd (h refl)
refusal_of (Ok (FirstStep step)) h = absurd (h refl)
refusal_of (Ok (Filled terms squarings)) h = absurd (h refl)
refusal_of (Ok (Norm norm)) h = absurd (h refl)
refusal_of (Err k) h = refl

-- ---- an opening

-- refused, it leaves nothing
opened_same : (r : Run) → Same nothing (open_call r)
unfolding open_call is_refused values_of figured
opened_same r =
    unless_either _ (refuse nothing) _ (Same nothing) (λ why e. refl) (λ _ e. absurd (false≢true e))

opening_same : (r : Run) (t : List ℕ) → Same nothing (open_by_table r t)
unfolding open_by_table
opening_same r t = unless_either (tested (opening_tests r t)) (refuse nothing) _ (Same nothing) (λ why e. refl) (λ _. opened_same _)

opening_kept : (r : Run) (t : List ℕ) → Kept nothing (open_by_table r t)
unfolding Kept
opening_kept r t h = opening_same r t (refusal_of (open_by_table r t).answer h)

opening_order : (r : Run) (t : List ℕ) (why : Refusal) → tested (opening_tests r t) ≡ Err why → (open_by_table r t).answer ≡ Err why
unfolding open_by_table unless
opening_order r t why e = rw e

-- where they hold, all is tested again but the derivative, whose places past n are +0.0
module _ (r : Run) (t : List ℕ) (e : tested (opening_tests r t) ≡ Ok tt) where
  abbrev d : List Float
  d = derivative r.n t r.time r.state

  abbrev still : Run
  still = with_derivative r (replicate places zero+)

  abbrev by_table : Run
  by_table = with_derivative r d

  still_passes : tested (session_tests None (opened still)) ≡ Ok tt
  unfolding opening_tests
  still_passes = (both_pass (session_tests None (opened still)) ((table_ok r.n t, Why.Table) ∷ []) e).0

  table_verdict : tested (session_tests None (opened by_table)) ≡ verdict (all_finite d)
  unfolding tested opened idle fresh wanted good2
  table_verdict =
      let g = passed_good None (opened still) still_passes in
      let clear : clear r.n d ≡ true = derivative-clear r.n t r.time r.state (passed_sound None (opened still) still_passes).small in
      let tolerances : tolerances_ok r.n r.relative r.absolute ≡ true = unfold good4 in g.tolerances in
      opening by_table
      ∙ rw (g.size, g.absolute, g.state, clear, g.previous, g.scheme, g.history, tolerances, g.time_finite, g.state_finite, g.previous_finite) (last (all_finite d))
    where
      last : (b : Bool) → cond (b && true) (Ok tt) (Err Why.NotFinite) ≡ verdict b
      last true = refl
      last false = refl

  opening_later : ((open_by_table r t).answer ≡ Ok Resting) ⊎ (((open_by_table r t).answer ≡ Err Why.NotFinite) × (all_finite d ≡ false))
  unfolding open_by_table open_call unless
  opening_later = rw e (go (all_finite d) refl)
    where
      go : (b : Bool) → all_finite d ≡ b → ((open_call by_table).answer ≡ Ok Resting) ⊎ (((open_call by_table).answer ≡ Err Why.NotFinite) × (all_finite d ≡ false))
      go true f = inl (rw (table_verdict, f))
      go false f = inr (rw (table_verdict, f), f)

pub openings : Openings
openings = record { kept = opening_kept; order = opening_order; later = opening_later }

-- ---- refused, a whole step leaves the session as it came

kept_same : (s : Session) (r : Told) → Same s (keeping s r)
unfolding keeping
kept_same s r = go (is_refused r.answer) refl
  where
    go : (b : Bool) → is_refused r.answer ≡ b → Same s (cond b (told r.answer s) r)
    go true e f = refl
    go false e f = absurd (false≢true (sym e ∙ f))

pub whole_same : (s : Session) (t : List ℕ) (step : Float) → Same s (whole_step s t step)
unfolding whole_step
whole_same s t step = unless_either (tested (whole_tests s t step)) (refuse s) _ (Same s) (λ why e. refl) (λ _. kept_same s (stepped s t step))

whole_kept : (s : Session) (t : List ℕ) (step : Float) → Kept s (whole_step s t step)
unfolding Kept
whole_kept s t step h = whole_same s t step (refusal_of (whole_step s t step).answer h)

-- ---- what is told

kept_answer : (s : Session) (r : Told) → (keeping s r).answer ≡ r.answer
unfolding keeping
kept_answer s r = go (is_refused r.answer)
  where
    go : (b : Bool) → (cond b (told r.answer s) r).answer ≡ r.answer
    go true = refl
    go false = refl

module _ (s : Session) (t : List ℕ) (step : Float) where
  order : (why : Refusal) → tested (whole_tests s t step) ≡ Err why → (whole_step s t step).answer ≡ Err why
  unfolding whole_step unless
  order why e = rw e

  -- where nothing is refused before it, the answer is the step's
  stepped_answer : tested (whole_tests s t step) ≡ Ok tt → (whole_step s t step).answer ≡ (stepped s t step).answer
  unfolding whole_step unless
  stepped_answer e = rw e (kept_answer s (stepped s t step))

  ends : tested (whole_tests s t step) ≡ Ok tt → Ending (whole_step s t step).answer
  ends e = subst Ending (sym (stepped_answer e)) (stepped_ends s t step (whole_passes s t step e))

-- ---- THE CLAIMS
pub whole_steps : WholeSteps
unfolding Ending
whole_steps = record {
  kept = whole_kept;
  order = order;
  later = ends;
  overflow = λ s t step e m place time a f. stepped_answer s t step e ∙ overflow_three s t step (whole_passes s t step e) m place time a f;
  candidate = λ s t step e norm rhs jacobians products a f.
      stepped_answer s t step e ∙ candidate_three s t step (whole_passes s t step e) norm rhs jacobians products a f;
  answered = λ s t step e. asks_enough s t step (whole_passes s t step e);
  place = λ s t step e. place_is s t step (whole_passes s t step e);
}
