-- A whole step: what its parts leave, and the session as it came where it is refused. Assumes nothing.
use Rattle.std.proofs.Common.{ℕ, zero, suc, ◌+◌, ◌≤◌, arith, ◌≡◌, refl, sym, ap, ◌∙◌, subst, true, false, List, [], ◌∷◌, Float, length, replicate, take}
use Rattle.std.proofs.Math.Numerals.{add-one}
use Rattle.std.specs.Prelude.{Result, Ok, Err, is_err, Some}
use Rattle.loops.specs.Loop.{iter}
use Rattle.float.specs.Arith.{zero+}
use Rattle.evaluation.specs.Sizes.{places}
use Rattle.matrix.proofs.Vectors.{length-vec}
use Rattle.session.specs.declared.Session.{Session}
use Rattle.session.specs.declared.Head.{Head}
use Rattle.session.specs.declared.Left.{Left}
use Rattle.session.specs.declared.Told.{Told}
use Rattle.session.specs.declared.Answer.{Answer}
use Rattle.session.specs.declared.Answer.TheVariants.{Ask, Ready, Resting, FirstStep, Filled, Norm}
use Rattle.session.specs.declared.Refusal.{Refusal}
use Rattle.session.specs.declared.Refusal.TheVariants as Why
use Rattle.session.specs.declared.Phase.TheVariants.{Rest}
use Rattle.session.specs.declared.Wish.TheVariants.{Difference}
use Rattle.session.specs.Tests.{tested, condition, unless}
use Rattle.session.specs.Values.{is_refused, values_of, figured}
use Rattle.session.specs.Session.{jacobian_room, wanted, step_ok, run_of, session_tests}
use Rattle.session.specs.Calls.{Outcome, tell, told, begin_call, supply_call, drop_call}
use Rattle.session.specs.Figures.{FIGURES, session_of}
use Rattle.session.specs.Lent.{told_by, refused_by}
use Rattle.session.specs.Runs.{begin, supply, perform, after}
use Rattle.session.specs.Claims.{Doubles, Typed, TypedCall, TypedCalls}
use Rattle.session.proofs.Tests.{passes, both_pass}
use Rattle.session.proofs.Laws.{passed_sound}
use Rattle.session.proofs.Writes.{typed_passed}
use Rattle.session.proofs.Closed.{Good, passed_good, after_good}
use Rattle.session.proofs.Drops.{dropped, begin_run, supply_run, same_rest, rested_same}
use Rattle.session.proofs.Kept.{accept_same}
use Rattle.table.specs.Table.{summed, records, table_ok, derivative}
use Rattle.table.specs.Whole.{handed_tests, whole_tests, whole_step, started, answer_to, replied, answers, derivative_there, accept_after, accepted, stepped, keeping}

pub length-derivative : (n : ℕ) (t : List ℕ) (time : Float) (u : List Float) → n ≤ places → length (derivative n t time u) ≡ places
unfolding derivative
length-derivative n t time u h = length-vec n (λ i. summed t time u i (records t)) h

-- a refusal is an error, and nothing else is
refusal_is : (a : Result Answer Refusal) → is_refused a ≡ is_err a
unfolding is_refused values_of figured
refusal_is (Ok (Ask place time)) = refl
refusal_is (Ok (Ready norm rhs jacobians products)) = refl
refusal_is (Ok Resting) = refl
refusal_is (Ok (FirstStep step)) = refl
refusal_is (Ok (Filled terms squarings)) = refl
refusal_is (Ok (Norm norm)) = refl
refusal_is (Err k) = refl

-- ---- on the way of a whole step of s: its run stays, and nothing is wrong with the session

pub record OnTheWay (s : Session) (o : Outcome) : Type 0 where
  pub run : run_of o.told.session ≡ run_of s
  pub good : Good o.told.session

begin_good : (s : Session) (step : Float) (j out : List Float) → Good s → Good (begin_call s step Difference j out).told.session
unfolding after perform TypedCalls TypedCall
begin_good s step j out g = after_good (begin step Difference j out ∷ []) s (tt, tt) g

supply_good : (s : Session) (place : ℕ) (x out : List Float) → length x ≡ places → Good s → Good (supply_call s place x out).told.session
unfolding after perform TypedCalls TypedCall
supply_good s place x out h g = after_good (supply place x out ∷ []) s (h, tt) g

pub started_way : (s : Session) (step : Float) → Good s → OnTheWay s (started s step)
unfolding started
started_way s step g =
    let j = replicate jacobian_room zero+ in
    let out = replicate s.n zero+ in
    record { run = begin_run s step Difference j out; good = begin_good s step j out g }

module _ (s : Session) (n : ℕ) (t : List ℕ) (small : n ≤ places) where
  pub replied_way : (o : Outcome) → OnTheWay s o → OnTheWay s (replied n t o)
  unfolding replied
  replied_way o w = go o.told.answer
    where
      go : (a : Result Answer Refusal) → OnTheWay s (answer_to a n t o)
      go (Ok (Ask place time)) =
          let d = derivative n t time o.out in
          unfold answer_to in record {
            run = supply_run o.told.session place d o.out ∙ w.run;
            good = supply_good o.told.session place d o.out (length-derivative n t time o.out small) w.good;
          }
      go (Ok (Ready norm rhs jacobians products)) = unfold answer_to in w
      go (Ok Resting) = unfold answer_to in w
      go (Ok (FirstStep step)) = unfold answer_to in w
      go (Ok (Filled terms squarings)) = unfold answer_to in w
      go (Ok (Norm norm)) = unfold answer_to in w
      go (Err k) = unfold answer_to in w

  pub answers_way : (m : ℕ) (o : Outcome) → OnTheWay s o → OnTheWay s (answers n t m o)
  unfolding answers iter
  answers_way zero o w = w
  answers_way (suc m) o w = replied_way (answers n t m o) (answers_way m o w)

-- ---- a refused step leaves an attempt whose drop is the session as it came

-- what accept is not handed, or refuses, stays as the answers left it
accepted_same : (n : ℕ) (t : List ℕ) (o : Outcome) → is_refused (accepted n t o).answer ≡ true → (accepted n t o).session ≡ o.told.session
unfolding accepted
accepted_same n t o = go o.told.answer
  where
    go : (a : Result Answer Refusal) → is_refused (accept_after a n t o).answer ≡ true → (accept_after a n t o).session ≡ o.told.session
    go (Ok (Ask place time)) e = unfold accept_after in refl
    go (Ok (Ready norm rhs jacobians products)) e = unfold accept_after in accept_same o.told.session (derivative_there n t o) (unfold accept_after in e)
    go (Ok Resting) e = unfold accept_after in refl
    go (Ok (FirstStep step)) e = unfold accept_after in refl
    go (Ok (Filled terms squarings)) e = unfold accept_after in refl
    go (Ok (Norm norm)) e = unfold accept_after in refl
    go (Err k) e = unfold accept_after in refl

way_dropped : (s : Session) (o : Outcome) → Typed s → tested (session_tests (Some Rest) s) ≡ Ok tt → OnTheWay s o → drop_call o.told.session ≡ tell Resting s
way_dropped s o typed e w =
    dropped o.told.session w.good ∙ ap (tell Resting) (same_rest o.told.session s w.run ∙ rested_same s typed e)

pub stepped_drops : (s : Session) (t : List ℕ) (step : Float) → Typed s → tested (session_tests (Some Rest) s) ≡ Ok tt → is_refused (stepped s t step).answer ≡ true
    → drop_call (stepped s t step).session ≡ tell Resting s
unfolding stepped
stepped_drops s t step typed e r =
    let way = answers_way s s.n t (passed_sound (Some Rest) s e).small _ (started s step) (started_way s step (passed_good (Some Rest) s e)) in
    ap drop_call (accepted_same s.n t _ r) ∙ way_dropped s _ typed e way

-- ---- what the code's parts show

-- a refused step that was dropped, and one that was not refused
pub kept_refused : (s : Session) (l : Left) (x : List Float) → is_err l.answer ≡ true → {d r : Left} (y : List Float) → told_by d y ≡ drop_call (session_of l.head x)
    → r ≡ record { answer = l.answer; head = d.head } → (is_refused l.answer ≡ true → drop_call (session_of l.head x) ≡ tell Resting s) → told_by r y ≡ keeping s (told_by l x)
unfolding keeping
kept_refused s l x h y f g drops =
    let e : is_refused l.answer ≡ true = refusal_is l.answer ∙ h in
    rw (g, e) (ap (λ (r : Told). told l.answer r.session) (f ∙ drops e))

pub kept_accepted : (s : Session) (l : Left) (x : List Float) → is_err l.answer ≡ false → told_by l x ≡ keeping s (told_by l x)
unfolding keeping
kept_accepted s l x h = rw (refusal_is l.answer ∙ h)

-- one answer more
pub answers_none : (n : ℕ) (t : List ℕ) (o : Outcome) → o ≡ answers n t 0 o
unfolding answers iter
answers_none n t o = refl

pub answers-more : (n : ℕ) (t : List ℕ) (m : ℕ) (o : Outcome) {p r : Outcome} → p ≡ answers n t m o → r ≡ replied n t p → r ≡ answers n t (m + 1) o
unfolding answers iter
answers-more n t m o e f = rw (add-one, ← e) f

pub answers_end : (n : ℕ) (t : List ℕ) (m k : ℕ) (o : Outcome) {p : Outcome} → p ≡ answers n t m o → m ≡ k → p ≡ answers n t k o
answers_end n t m k o e h = rw (← h) e

pub take-zeros : (n m : ℕ) → n ≤ m → take n (replicate m zero+) ≡ replicate n zero+
take-zeros zero m h = refl
take-zeros (suc n) zero h = absurd (omega (arith, h))
take-zeros (suc n) (suc m) h = ap (λ (l : List Float). zero+ ∷ l) (take-zeros n m (omega (arith, h)))

-- begin, the answers and accept, one after the other
pub step_made : (k : Head) (x : List Float) (t : List ℕ) (step : Float) {n : ℕ} → k.n ≡ n
    → {out : List Float} → out ≡ replicate n zero+ → {m : ℕ} → m ≡ wanted k.scheme n (Some Difference)
    → {o p : Outcome} {r : Told} → o ≡ begin_call (session_of k x) step Difference (replicate jacobian_room zero+) out → p ≡ answers n t m o
    → r ≡ accepted n t p → r ≡ stepped (session_of k x) t step
unfolding stepped started session_of
step_made k x t step z e f g h i = rw (i, h, g, f, e, z)

-- ---- a whole step that its tests let through

-- the condition of a row of what is handed in
handed_row : (n : ℕ) (t : List ℕ) (step : Float) → tested (handed_tests n t step) ≡ Ok tt → (why : Refusal) → condition why (handed_tests n t step) ≡ true
handed_row n t step e why = passes (handed_tests n t step) e why

pub record Passed (s : Session) (t : List ℕ) (step : Float) : Type 0 where
  pub at_rest : tested (session_tests (Some Rest) s) ≡ Ok tt
  pub good_table : table_ok s.n t ≡ true
  pub good_step : step_ok step ≡ true

pub whole_passes : (s : Session) (t : List ℕ) (step : Float) → tested (whole_tests s t step) ≡ Ok tt → Passed s t step
unfolding whole_tests
whole_passes s t step e =
    let p = both_pass (session_tests (Some Rest) s) (handed_tests s.n t step) e in
    record {
      at_rest = p.0;
      good_table = unfold handed_tests condition in handed_row s.n t step p.1 Why.Table;
      good_step = unfold handed_tests condition in handed_row s.n t step p.1 Why.Step;
    }

module _ (k : Head) (x : List Float) (t : List ℕ) (step : Float) where
  pub whole_refused : {why : Refusal} → tested (whole_tests (session_of k x) t step) ≡ Err why → {l : Left} → l ≡ refused_by k why → told_by l x ≡ whole_step (session_of k x) t step
  unfolding whole_step unless
  whole_refused e f = rw (e, f)

  pub whole_made : tested (whole_tests (session_of k x) t step) ≡ Ok tt → Doubles FIGURES x → (l : Left) (y : List Float) → told_by l y ≡ stepped (session_of k x) t step
      → {r : Told} → ((s : Session) → (is_refused l.answer ≡ true → drop_call (session_of l.head y) ≡ tell Resting s) → r ≡ keeping s (told_by l y))
      → r ≡ whole_step (session_of k x) t step
  unfolding whole_step unless
  whole_made e doubles l y f kept =
      let s = session_of k x in
      let at_rest = (whole_passes s t step e).at_rest in
      let drops : is_refused l.answer ≡ true → drop_call (session_of l.head y) ≡ tell Resting s =
      subst (λ (r : Told). is_refused r.answer ≡ true → drop_call r.session ≡ tell Resting s) (sym f)
      (stepped_drops s t step (typed_passed k x (Some Rest) at_rest doubles) at_rest) in
      rw e (kept s drops ∙ ap (keeping s) f)
