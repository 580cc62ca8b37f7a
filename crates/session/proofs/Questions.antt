-- An answer that belongs to another question is turned down. Assumes nothing.
use Rattle.std.proofs.Common.{ℕ, ◌+◌, ◌≤◌, ◌<◌, ◌≡◌, ◌⊎◌, inl, inr, refl, sym, ap, ◌∙◌, subst, Bool, true}
use Rattle.std.proofs.Common.{false, cond, List, [], ◌∷◌, ◌++◌, arith, eqb, ltb, lt-ltb, Float, length, eqb-true, ne_eqb, eq-eqb}
use Rattle.std.proofs.Math.Bool.{false≢true}
use Rattle.std.specs.Prelude.{Result, Ok, Err, ⊤, Option, Some, None}
use Rattle.float.specs.Arith.{◌⊕◌, finite}
use Rattle.evaluation.specs.Sizes.{places}
use Rattle.methods.specs.Step.{Progress, refused, asking, ended}
use Rattle.session.specs.declared.Session.{Session}
use Rattle.session.specs.declared.Told.{Told}
use Rattle.session.specs.declared.Answer.{Answer}
use Rattle.session.specs.declared.Answer.TheVariants.{Ask, Resting}
use Rattle.session.specs.declared.Wish.{Wish}
use Rattle.session.specs.declared.Phase.{Phase}
use Rattle.session.specs.declared.Phase.TheVariants.{Rest, Asking, Waiting}
use Rattle.session.specs.declared.Refusal.{Refusal}
use Rattle.session.specs.declared.Refusal.TheVariants as Why
use Rattle.session.specs.Tests.{Tests, refusal_number, tested, unless}
use Rattle.session.specs.Values.{values_of, number}
use Rattle.session.specs.Session.{open_place, wanted, wanted_by, phase_at, phase_of, phase_number, admits, names, good1, good2, good7, good9, session_tests, fresh, idle, progress}
use Rattle.session.specs.Calls.{Outcome, tell, refuse, refuse_lent, opened, begun, rested, answered, moved, shown, arrived, settled, ready_of}
use Rattle.session.specs.Calls.{largest_tests, attempt_tests, vector_tests, begin_tests, supply_tests, accept_tests, first_step_tests, begin_call, supply_call, accept_call, drop_call, first_step_call}
use Rattle.session.specs.Runs.{Call, begin, supply, accept, drop, first_step, wants_of, perform, after}
use Rattle.session.specs.Refusals.{First, works}
use Rattle.session.specs.Claims.{TypedCall, TypedCalls, CountedBy, Counted, Closed}
use Rattle.session.specs.Questions.{Taken, asks, TurnedDown, is_begin, is_supply, Within, Questions}
use Rattle.session.proofs.Tests.{unless_either}
use Rattle.session.proofs.Laws.{open_named, supply_passes, session_fails}
use Rattle.session.proofs.Counts.{counts}
use Rattle.session.proofs.Refusals.{numbers}
use Rattle.session.proofs.Closed.{Good, not_refused, good_closed, kept_or_accepted, performed_good, after_good, closes}

-- ---- what a call that is taken leaves

shown_taken : (old s : Session) (o : List Float) (p : Progress) → Taken (shown old s o p) → (shown old s o p).told.session ≡ s
unfolding shown
shown_taken old s o refused e = not_refused Why.Arithmetic e
shown_taken old s o (asking x t) e = refl
shown_taken old s o (ended x d g w) e = refl

taken_begin : (s : Session) (step : Float) (w : Wish) (j o : List Float) → Taken (begin_call s step w j o) → (begin_call s step w j o).told.session ≡ begun s step (Some w) j
unfolding begin_call
taken_begin s step w j o =
    let next = begun s step (Some w) j in
    unless_either (tested (begin_tests s step (Some w) j (length o))) (refuse_lent s o) (shown s next o (progress next)) (λ r. Taken r → r.told.session ≡ next)
    (λ why e. not_refused why e) (λ _ t. shown_taken s next o (progress next) t)

taken_answer : (s : Session) (place : ℕ) (x o : List Float) → Taken (supply_call s place x o) → (place ≡ s.count) × ((supply_call s place x o).told.session ≡ answered s x)
unfolding supply_call
taken_answer s place x o =
    let next = answered s x in
    unless_either (tested (supply_tests s place x (length o))) (refuse_lent s o) (shown s next o (progress next)) (λ r. Taken r → (place ≡ s.count) × (r.told.session ≡ next))
    (λ why e. not_refused why e)
    (λ e t. (open_named s place (supply_passes s place x (length o) e).0, shown_taken s next o (progress next) t))

-- ---- every Ask carries the place of the question that its session asks

-- fewer answers than are wanted: there is an attempt, and it asks
asking_phase : (a : Option Wish) (scheme n count : ℕ) → count < wanted scheme n a → phase_at a count (ltb count (wanted scheme n a)) ≡ Asking count
unfolding phase_at
asking_phase None scheme n count h = let none : wanted scheme n None ≡ 0 = unfold wanted in refl in absurd (omega (arith, h, none))
asking_phase (Some w) scheme n count h = rw (lt-ltb count (wanted scheme n (Some w)) h)

never : {A : Type 0} (why : Refusal) (asked : ℕ) (time : Float) → ◌≡◌ {A = Result Answer Refusal} (Err why) (Ok (Ask asked time)) → A
never why asked time e = cc

Carries : Told → Type 0
Carries r = (asked : ℕ) (time : Float) → r.answer ≡ Ok (Ask asked time) → phase_of r.session ≡ Asking asked

shown_carries : (old s : Session) (o : List Float) (p : Progress) → Counted (shown old s o p).told → Carries (shown old s o p).told
unfolding Carries Counted CountedBy shown ready_of
shown_carries old s o refused few = λ asked at e. never Why.Arithmetic asked at e
shown_carries old s o (asking x time) few = λ asked at e.
    let same : s.count ≡ asked = cc in
    let asks : phase_of s ≡ Asking s.count = unfold phase_of in asking_phase s.attempt s.scheme s.n s.count few in
    asks ∙ ap Asking same
shown_carries old s o (ended x d g w) few = λ asked at e. cc

lent_carries : (k : Result ⊤ Refusal) (s t : Session) (o : List Float) (p : Progress) → Counted (unless k (refuse_lent s o) (shown s t o p)).told
    → Carries (unless k (refuse_lent s o) (shown s t o p)).told
unfolding unless
lent_carries (Ok passed) s t o p few = shown_carries s t o p few
lent_carries (Err why) s t o p few = unfold Carries in λ asked at e. never why asked at e

told_carries : (k : Result ⊤ Refusal) (s : Session) (r : Told) → Carries r → Carries (unless k (refuse s) r)
told_carries k s r h = unless_either k (refuse s) r Carries (λ why. unfold Carries in λ asked at e. never why asked at e) (λ _. h)

settled_carries : (s : Session) (f : List Float) (p : Progress) → Carries (settled s f p)
unfolding settled arrived Carries
settled_carries s f refused = λ asked at e. never Why.Arithmetic asked at e
settled_carries s f (asking x t) = λ asked at e. never Why.Arithmetic asked at e
settled_carries s f (ended x d g w) = go (finite (s.time ⊕ s.step))
  where
    go : (b : Bool) → Carries (cond b (tell Resting (moved s (s.time ⊕ s.step) x f g)) (refuse s Why.Arithmetic))
    go true = λ asked at e. cc
    go false = λ asked at e. never Why.Arithmetic asked at e

performed_carries : (c : Call) (s : Session) → Carries (perform c s).told
unfolding perform begin_call supply_call accept_call drop_call first_step_call
performed_carries (begin step w j o) s =
    lent_carries (tested (begin_tests s step (Some w) j (length o))) s (begun s step (Some w) j) o (progress (begun s step (Some w) j)) (counts.begin s step w j o)
performed_carries (supply place x o) s =
    lent_carries (tested (supply_tests s place x (length o))) s (answered s x) o (progress (answered s x)) (counts.supply s place x o)
performed_carries (accept f) s = told_carries _ s _ (settled_carries s f (progress s))
performed_carries drop s = told_carries _ s _ (unfold Carries in λ asked at e. cc)
performed_carries (first_step largest) s = told_carries _ s _ (unfold Carries in λ asked at e. cc)

-- the question that is asked is the one after the answers so far
asking_count : (s : Session) (asked : ℕ) → phase_of s ≡ Asking asked → asked ≡ s.count
unfolding phase_of phase_at
asking_count s asked e = go s.attempt (ltb s.count (wanted_by s)) e
  where
    go : (a : Option Wish) (b : Bool) → phase_at a s.count b ≡ Asking asked → asked ≡ s.count
    go None b e = cc
    go (Some w) true e = cc
    go (Some w) false e = cc

-- what asks is taken
asked_taken : (o : Outcome) (asked : ℕ) (time : Float) → o.told.answer ≡ Ok (Ask asked time) → Taken o
unfolding number values_of
asked_taken o asked time e = ap (λ (a : Result Answer Refusal). (values_of a).refusal) e

carried_by : (c : Call) (s : Session) (asked : ℕ) (time : Float) → (perform c s).told.answer ≡ Ok (Ask asked time) → phase_of (perform c s).told.session ≡ Asking asked
unfolding Carries
carried_by c s = performed_carries c s

-- a session that asks a question takes a supply that names it
pub asked_passes : (t : Session) (asked : ℕ) → Closed t → phase_of t ≡ Asking asked → tested (session_tests (Some (Asking asked)) t) ≡ Ok tt
unfolding Closed good7 good9 admits names phase_number
asked_passes t asked closed asks =
    let in_phase : eqb 1 (phase_number (phase_of t)) ≡ true = ap (λ (p : Phase). eqb 1 (phase_number p)) asks in
    let named : eqb asked t.count ≡ true = eq-eqb asked t.count (asking_count t asked asks) in
    closed (Some (Asking asked)) ∙ rw (in_phase, named)

given_back : (c : Call) (s : Session) → TypedCall c → (asked : ℕ) (time : Float) → (perform c s).told.answer ≡ Ok (Ask asked time)
    → tested (session_tests (Some (Asking asked)) (perform c s).told.session) ≡ Ok tt
given_back c s typed asked time e =
    asked_passes (perform c s).told.session asked (closes.call c s typed (asked_taken (perform c s) asked time e)) (carried_by c s asked time e)

-- the first question of an attempt carries 0, and each the place after that of the answer before it
first_place : (s : Session) (step : Float) (w : Wish) (j o : List Float) (asked : ℕ) (time : Float) → (begin_call s step w j o).told.answer ≡ Ok (Ask asked time) → asked ≡ 0
unfolding perform
first_place s step w j o asked time e =
    let left = taken_begin s step w j o (asked_taken (begin_call s step w j o) asked time e) in
    let none : (begun s step (Some w) j).count ≡ 0 = unfold begun fresh in refl in
    asking_count (begin_call s step w j o).told.session asked (carried_by (begin step w j o) s asked time e) ∙ ap (λ (t : Session). t.count) left ∙ none

next_place : (s : Session) (place : ℕ) (x o : List Float) (asked : ℕ) (time : Float) → (supply_call s place x o).told.answer ≡ Ok (Ask asked time) → asked ≡ place + 1
unfolding perform
next_place s place x o asked time e =
    let left = taken_answer s place x o (asked_taken (supply_call s place x o) asked time e) in
    let more : (answered s x).count ≡ s.count + 1 = unfold answered in refl in
    asking_count (supply_call s place x o).told.session asked (carried_by (supply place x o) s asked time e) ∙ ap (λ (t : Session). t.count) left.1 ∙ more ∙ ap (λ (q : ℕ). q + 1) (sym left.0)

-- ---- which places are refused by 9

-- no row that could fail is 9's
Unasked : Tests → Type 0
Unasked [] = Unit
Unasked ((holds, why) ∷ tests) = (refusal_number why ≡ 9 → holds ≡ true) × Unasked tests

not_nine : (tests : Tests) (k : ℕ) → Unasked tests → First tests k → k ≡ 9 → ⊥
unfolding Unasked First
not_nine [] k u f e = omega (arith, f, e)
not_nine ((holds, why) ∷ tests) k u (inl f) e = false≢true (sym f.0 ∙ u.0 (sym f.1 ∙ e))
not_nine ((holds, why) ∷ tests) k u (inr f) e = not_nine tests k u.1 f.1 e

-- up to a row that fails no later one counts
cut : (a : Tests) (why : Refusal) (b : Tests) (k : ℕ) → First (a ++ ((false, why) ∷ b)) k → First (a ++ ((false, why) ∷ [])) k
unfolding First
cut [] why b k (inl f) = inl f
cut [] why b k (inr f) = absurd (false≢true f.0)
cut ((holds, j) ∷ a) why b k (inl f) = inl f
cut ((holds, j) ∷ a) why b k (inr f) = inr (f.0, cut a why b k f.1)

both_unasked : (a b : Tests) → Unasked a → Unasked b → Unasked (a ++ b)
unfolding Unasked
both_unasked [] b p q = q
both_unasked ((holds, why) ∷ a) b p q = (p.0, both_unasked a b p.1 q)

session_unasked : (wants : Option Phase) (s : Session) → good9 wants s ≡ true → Unasked (session_tests wants s)
unfolding Unasked session_tests
session_unasked wants s named = (
  λ e. absurd (omega (arith, e)),
  (
    λ e. absurd (omega (arith, e)),
    (
      λ e. absurd (omega (arith, e)),
      (
        λ _. named,
        (λ e. absurd (omega (arith, e)), (λ e. absurd (omega (arith, e)), (λ e. absurd (omega (arith, e)), tt))),
      ),
    ),
  ),
)

vector_unasked : (n : ℕ) (x : List Float) (lent : Bool) → Unasked (vector_tests n x lent)
unfolding Unasked vector_tests
vector_unasked n x lent = (λ e. absurd (omega (arith, e)), (λ e. absurd (omega (arith, e)), tt))

attempt_unasked : (n : ℕ) (step : Float) (a : Option Wish) (j : List Float) (lent : ℕ) → Unasked (attempt_tests n step a j lent)
unfolding Unasked attempt_tests
attempt_unasked n step a j lent = (λ e. absurd (omega (arith, e)), (λ e. absurd (omega (arith, e)), (λ e. absurd (omega (arith, e)), tt)))

largest_unasked : (largest : Float) → Unasked (largest_tests largest)
unfolding Unasked largest_tests
largest_unasked largest = (λ e. absurd (omega (arith, e)), tt)

-- of the arithmetic
six_unasked : (holds : Bool) (tests : Tests) → Unasked tests → Unasked ((holds, Why.Arithmetic) ∷ tests)
unfolding Unasked
six_unasked holds tests p = (λ e. absurd (omega (arith, e)), p)

none_unasked : Unasked []
unfolding Unasked
none_unasked = tt

-- a call that names no question, or the open one, is not refused by 9
named_open : (c : Call) (s : Session) → names (wants_of c) (open_place s) ≡ true → number (perform c s).told.answer ≡ 9 → ⊥
unfolding perform wants_of good9 begin_tests supply_tests accept_tests first_step_tests
named_open (begin step w j o) s named =
    not_nine _ _
    (both_unasked (begin_tests s step (Some w) j (length o)) _
    (both_unasked (session_tests (Some Rest) s) _ (session_unasked (Some Rest) s named) (attempt_unasked s.n step (Some w) j (length o)))
    (six_unasked (works (progress (begun s step (Some w) j))) [] none_unasked))
    (numbers.begin s step w j o)
named_open (supply place x o) s named =
    not_nine _ _
    (both_unasked (supply_tests s place x (length o)) _
    (both_unasked (session_tests (Some (Asking place)) s) _ (session_unasked (Some (Asking place)) s named) (vector_unasked s.n x (eqb (length o) s.n)))
    (six_unasked (works (progress (answered s x))) [] none_unasked))
    (numbers.supply s place x o)
named_open (accept f) s named =
    not_nine _ _
    (both_unasked (accept_tests s f) _
    (both_unasked (session_tests (Some Waiting) s) _ (session_unasked (Some Waiting) s named) (vector_unasked s.n f true))
    (six_unasked (works (progress s)) _ (six_unasked (finite (s.time ⊕ s.step)) [] none_unasked)))
    (numbers.accept s f)
named_open drop s named = not_nine _ _ (session_unasked None s named) (numbers.drop s)
named_open (first_step largest) s named =
    not_nine _ _ (both_unasked (session_tests None s) _ (session_unasked None s named) (largest_unasked largest)) (numbers.first_step s largest)

same_place : (s : Session) (x o : List Float) → number (supply_call s (open_place s) x o).told.answer ≡ 9 → ⊥
unfolding perform wants_of names
same_place s x o = named_open (supply (open_place s) x o) s (eq-eqb s.count s.count refl)

only_supply : (c : Call) (s : Session) → number (perform c s).told.answer ≡ 9 → is_supply c ≡ true
unfolding wants_of names is_supply
only_supply (begin step w j o) s e = absurd (named_open (begin step w j o) s refl e)
only_supply (supply place x o) s e = refl
only_supply (accept f) s e = absurd (named_open (accept f) s refl e)
only_supply drop s e = absurd (named_open drop s refl e)
only_supply (first_step largest) s e = absurd (named_open (first_step largest) s refl e)

other_place : (s : Session) (place : ℕ) (x o : List Float) → (place ≡ open_place s → ⊥)
    → First ((good1 s, Why.Places) ∷ (good2 s, Why.Scheme) ∷ (good7 (Some (Asking place)) s, Why.Phase) ∷ (false, Why.Question) ∷ []) (number (supply_call s place x o).told.answer)
unfolding supply_tests session_tests good9 names
other_place s place x o differs = go (eqb place s.count) _ _ (ne_eqb place s.count differs) (numbers.supply s place x o)
  where
    early : Tests
    early = (good1 s, Why.Places) ∷ (good2 s, Why.Scheme) ∷ (good7 (Some (Asking place)) s, Why.Phase) ∷ []

    go : (b : Bool) (rest : Tests) (k : ℕ) → b ≡ false → First (early ++ ((b, Why.Question) ∷ rest)) k → First (early ++ ((false, Why.Question) ∷ [])) k
    go true rest k e f = absurd (false≢true (sym e))
    go false rest k e f = cut early Why.Question _ _ f

-- ---- turned down: another place than the open one's, or no question

turned_down : (s : Session) → Good s → (place : ℕ) (x o : List Float) → (good7 (Some (Asking place)) s ≡ true → good9 (Some (Asking place)) s ≡ true → ⊥)
    → TurnedDown s o (supply_call s place x o)
unfolding supply_call supply_tests unless number values_of asks good7 admits phase_number
turned_down s good place x o strays =
    go (good7 wants s) (good9 wants s) refl refl (unfold Closed in good_closed good wants)
  where
    wants : Option Phase
    wants = Some (Asking place)

    refused_by : (why : Refusal) → refusal_number why ≡ cond (asks s) 9 7 → tested (session_tests wants s) ≡ Err why → TurnedDown s o (supply_call s place x o)
    refused_by why n e =
        rw (sym (session_fails wants s (vector_tests s.n x (eqb (length o) s.n)) refl e)) (record { refused = n; session = refl; out = refl })

    open_is : (b : Bool) → good7 wants s ≡ b → asks s ≡ b
    open_is b p = p

    go : (b c : Bool) → good7 wants s ≡ b → good9 wants s ≡ c → tested (session_tests wants s) ≡ cond b (cond c (Ok tt) (Err Why.Question)) (Err Why.Phase)
        → TurnedDown s o (supply_call s place x o)
    go false c p q e = refused_by Why.Phase (ap (λ (b : Bool). cond b 9 7) (sym (open_is false p))) e
    go true false p q e = refused_by Why.Question (ap (λ (b : Bool). cond b 9 7) (sym (open_is true p))) e
    go true true p q e = absurd (strays p q)

-- ---- late

-- the attempt has gone past a place, or is over
Past : ℕ → Session → Type 0
Past place s = (s.attempt ≡ None) ⊎ (place < s.count)

strayed : (s : Session) (place past : ℕ) → Past place s → past ≤ place → good7 (Some (Asking past)) s ≡ true → good9 (Some (Asking past)) s ≡ true → ⊥
unfolding Past
strayed s place past (inl none) h p q =
    let e : eqb 1 (phase_number (phase_of s)) ≡ true = unfold good7 admits phase_number in p in
    let none_is : phase_number (phase_of s) ≡ 0 =
    unfold phase_of phase_at phase_number in ap (λ (a : Option Wish). phase_number (phase_at a s.count (ltb s.count (wanted_by s)))) none in
    omega (arith, eqb-true 1 _ e, none_is)
strayed s place past (inr late) h p q = let e : past ≡ s.count = eqb-true past s.count (unfold good9 names in q) in omega (arith, late, h, e)

accept_ends : (s : Session) (f : List Float) → number (accept_call s f).answer ≡ 0 → (accept_call s f).session.attempt ≡ None
unfolding accept_call settled arrived moved opened idle fresh
accept_ends s f =
    unless_either (tested (accept_tests s f)) (refuse s) (settled s f (progress s)) (λ r. number r.answer ≡ 0 → r.session.attempt ≡ None) (λ why e. not_refused why e) (λ _. go (progress s))
  where
    go : (p : Progress) → number (settled s f p).answer ≡ 0 → (settled s f p).session.attempt ≡ None
    go refused e = not_refused Why.Arithmetic e
    go (asking x t) e = not_refused Why.Arithmetic e
    go (ended x d g w) e = last (finite (s.time ⊕ s.step)) e
      where
        last : (b : Bool) → number (cond b (tell Resting (moved s (s.time ⊕ s.step) x f g)) (refuse s Why.Arithmetic)).answer ≡ 0
            → (cond b (tell Resting (moved s (s.time ⊕ s.step) x f g)) (refuse s Why.Arithmetic)).session.attempt ≡ None
        last true e = refl
        last false e = not_refused Why.Arithmetic e

drop_ends : (s : Session) → number (drop_call s).answer ≡ 0 → (drop_call s).session.attempt ≡ None
unfolding drop_call
drop_ends s =
    unless_either (tested (session_tests None s)) (refuse s) (tell Resting (rested s)) (λ r. number r.answer ≡ 0 → r.session.attempt ≡ None) (λ why e. not_refused why e)
    (λ _ _. unfold rested opened idle fresh in refl)

first_same : (s : Session) (largest : Float) → (first_step_call s largest).session ≡ s
unfolding first_step_call
first_same s largest = unless_either (tested (first_step_tests s largest)) (refuse s) _ (λ r. r.session ≡ s) (λ why. refl) (λ _. refl)

past_answered : (place : ℕ) (s : Session) (x : List Float) → Past place s → Past place (answered s x)
unfolding Past answered
past_answered place s x (inl none) = inl none
past_answered place s x (inr h) = inr (omega (arith, h))

past_on : (place : ℕ) (c : Call) (s : Session) → (is_begin c ≡ true → Taken (perform c s) → ⊥) → Past place s → Past place (perform c s).told.session
unfolding perform is_begin
past_on place c s within past = elim (kept_or_accepted c s) [ inl e ↦ taken c within e | inr e ↦ subst (Past place) (sym e) past ]
  where
    taken : (c : Call) → (is_begin c ≡ true → Taken (perform c s) → ⊥) → Taken (perform c s) → Past place (perform c s).told.session
    taken (begin step w j o) within e = absurd (within refl e)
    taken (supply at x o) within e = subst (Past place) (sym (taken_answer s at x o e).1) (past_answered place s x past)
    taken (accept f) within e = unfold Past in inl (accept_ends s f e)
    taken drop within e = unfold Past in inl (drop_ends s e)
    taken (first_step largest) within e = subst (Past place) (sym (first_same s largest)) past

past_after : (place : ℕ) (cs : List Call) (s : Session) → Within s cs → Past place s → Past place (after s cs)
unfolding Within after
past_after place [] s within past = past
past_after place (c ∷ cs) s within past = past_after place cs (perform c s).told.session within.1 (past_on place c s within.0 past)

module _ (s : Session) (place : ℕ) (x o : List Float) (sixteen : length x ≡ places) (taken : Taken (supply_call s place x o)) where
  abbrev supplied : Session
  supplied = (supply_call s place x o).told.session

  supplied_good : Good supplied
  supplied_good = unfold perform TypedCall in performed_good (supply place x o) s sixteen taken

  supplied_past : Past place supplied
  supplied_past =
      let p = taken_answer s place x o taken in subst (Past place) (sym p.1) (unfold Past answered in inr (omega (arith, p.0)))

  late_answer : (cs : List Call) → TypedCalls cs → Within supplied cs → (past : ℕ) → past ≤ place → (x' o' : List Float)
      → TurnedDown (after supplied cs) o' (supply_call (after supplied cs) past x' o')
  late_answer cs typed within past h x' o' =
      turned_down (after supplied cs) (after_good cs supplied typed supplied_good) past x' o'
      (strayed (after supplied cs) place past (past_after place cs supplied within supplied_past) h)

-- ---- THE CLAIM
pub questions : Questions
questions = record {
  first = first_place;
  next = next_place;
  carried = carried_by;
  back = given_back;
  same = same_place;
  other = other_place;
  alone = only_supply;
  late = late_answer;
  duplicate = λ s place answer out sixteen taken out'.
      unfold after in late_answer s place answer out sixteen taken [] (unfold TypedCalls in tt) (unfold Within in tt) place (omega arith) answer out';
}
