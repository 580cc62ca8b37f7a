-- Mirrored calls: the same answer, mirrored sessions, mirrored outputs. Assumes nothing.
use Rattle.std.proofs.Common.{ℕ, ◌≤◌, ◌<◌, arith, ◌≡◌, refl, sym, ap, ap₂, ◌∙◌, subst, subst₂, Bool, true, false, cond}
use Rattle.std.proofs.Common.{◌&&◌, true≢false, List, [], ◌++◌, eqb, leb, Float, length}
use Rattle.std.proofs.Math.Decide.{dec_lt}
use Rattle.std.proofs.Math.Bool.{and-false, false≢true}
use borrow.Author.Tests.{lt-leb}
use Rattle.float.specs.Arith.{◌⊕◌, zero+, finite}
use Rattle.methods.specs.Step.{Progress, refused, asking, ended}
use Rattle.engine.specs.Engine.{first_step}
use Rattle.std.specs.Prelude.{Result, Ok, Err, ⊤, Option, Some, None}
use Rattle.session.specs.declared.Phase.{Phase}
use Rattle.session.specs.declared.Refusal.{Refusal}
use Rattle.session.specs.declared.Refusal.TheVariants as Why
use Rattle.session.specs.declared.Session.{Session}
use Rattle.session.specs.declared.Told.{Told}
use Rattle.methods.specs.declared.Work.{Work}
use Rattle.session.specs.declared.Answer.TheVariants.{Ready, FirstStep}
use Rattle.session.specs.declared.Wish.{Wish}
use Rattle.session.specs.declared.Wish.TheVariants.{Given, Difference}
use Rattle.session.specs.declared.Phase.TheVariants.{Rest, Asking, Waiting}
use Rattle.session.specs.Tests.{tested, unless}
use Rattle.session.specs.Values.{is_refused, values_of, figured}
use Rattle.session.specs.Session.{Run, used_jacobian, size_ok, wanted, good1, session_tests}
use Rattle.session.specs.Calls.{Outcome, outcome, tell, refuse, refuse_lent, opened, nothing, has_error, ready_of, shown, arrived, settled}
use Rattle.session.specs.Calls.{vector_tests, attempt_tests, largest_tests, begin_tests, supply_tests, accept_tests, first_step_tests}
use Rattle.session.specs.Calls.{open_call, begin_call, supply_call, accept_call, drop_call, first_step_call}
use Rattle.session.proofs.Drops.{nothing-tested, nothing_then}
use Rattle.mirror.specs.Mirror.{within}
use Rattle.mirror.proofs.Vectors.{Vecs, cross}
use Rattle.mirror.proofs.Steps.{Progresses, refused_m, asking_m, ended_m}
use Rattle.mirror.proofs.Places.{Placed, nil_m, finite_p, clear_p, vecs, placed, written_m}
use Rattle.mirror.proofs.Sessions.{Runs, run_m, trial_m, Lives, live, Sessions, void, alive, tests_m, norm_m, first_m, progress_m, opened_m, begun_m, rested_m, answered_m, moved_m}

pub record Tolds (n : ℕ) (σ : ℕ → Bool) (t t' : Told) : Type 0 where
  pub answers : t.answer ≡ t'.answer
  pub sessions : Sessions n σ t.session t'.session

pub record Outcomes (n : ℕ) (σ : ℕ → Bool) (r r' : Outcome) : Type 0 where
  pub tolds : Tolds n σ r.told r'.told
  pub outs : is_refused r.told.answer ≡ false → Placed (within n) σ r.out r'.out

module _ {n : ℕ} {σ : ℕ → Bool} where
  refused_told : {s s' : Session} (k : Refusal) → Sessions n σ s s' → Tolds n σ (refuse s k) (refuse s' k)
  refused_told k S = record { answers = refl; sessions = S }

  refused_outcome : {s s' : Session} {o o' : List Float} (k : Refusal) → Sessions n σ s s' → Outcomes n σ (refuse_lent s o k) (refuse_lent s' o' k)
  unfolding is_refused values_of
  refused_outcome k S = record { tolds = refused_told k S; outs = λ e. absurd (true≢false e) }

  -- a call that is lent no output
  pub bare_m : {t t' : Told} → Tolds n σ t t' → Outcomes n σ (outcome t []) (outcome t' [])
  bare_m R = record { tolds = R; outs = λ e. nil_m _ _ }

-- refused alike, or both go on
unless_m : {A : Type 0} (R : A → A → Type 0) (k k' : Result ⊤ Refusal) (refuse refuse' : Refusal → A) {x x' : A} → k ≡ k' → ((j : Refusal) → R (refuse j) (refuse' j)) → R x x'
    → R (unless k refuse x) (unless k' refuse' x')
unless_m R k k' refuse refuse' {x} {x'} e f r = subst (λ (d : Result ⊤ Refusal). R (unless k refuse x) (unless d refuse' x')) e (go k)
  where
    go : (d : Result ⊤ Refusal) → R (unless d refuse x) (unless d refuse' x')
    go (Ok passed) = unfold unless in r
    go (Err why) = unfold unless in f why

module _ {n : ℕ} {σ : ℕ → Bool} where
  told_m : {s s' : Session} {r r' : Told} (k k' : Result ⊤ Refusal) → k ≡ k' → Sessions n σ s s' → Tolds n σ r r' → Tolds n σ (unless k (refuse s) r) (unless k' (refuse s') r')
  told_m {s} {s'} k k' e S = unless_m (Tolds n σ) k k' (refuse s) (refuse s') e (λ j. refused_told j S)

  lent_m : {s s' : Session} (o o' : List Float) {r r' : Outcome} (k k' : Result ⊤ Refusal) → k ≡ k' → Sessions n σ s s' → Outcomes n σ r r'
      → Outcomes n σ (unless k (refuse_lent s o) r) (unless k' (refuse_lent s' o') r')
  lent_m {s} {s'} o o' k k' e S = unless_m (Outcomes n σ) k k' (refuse_lent s o) (refuse_lent s' o') e (λ j. refused_outcome j S)

  -- ---- what a step comes to
  ready_m : {s s' : Session} {x x' e e' : List Float} (work : Work) → Lives n σ s s' → Vecs n σ x x' → Vecs n σ e e' → ready_of s x e work ≡ ready_of s' x' e' work
  unfolding ready_of
  ready_m work (live N (run_m k t rtol atol held U F W) (trial_m h a c D J R)) X E =
      ap (λ (z : Float). Ready (cond (has_error k) z zero+) (wanted k n a) 1 work.products) (norm_m rtol atol (vecs U) X E)

  shown_m : {b b' s s' : Session} (o o' : List Float) {p p' : Progress} → Lives n σ b b' → Lives n σ s s' → Progresses n σ p p' → Outcomes n σ (shown b s o p) (shown b' s' o' p')
  unfolding shown
  shown_m o o' B S refused_m = refused_outcome Why.Arithmetic (alive B)
  shown_m o o' B (live N (run_m k t rtol atol held U F W) (trial_m h a c D J R)) (asking_m z X) =
      record { tolds = record { answers = refl; sessions = alive (live N (run_m k t rtol atol held U F W) (trial_m h a c D J R)) }; outs = λ e. written_m X }
  shown_m o o' B (live N (run_m k t rtol atol held U F W) T) (ended_m work X E G) =
      let S = live N (run_m k t rtol atol held U F W) T in
      record { tolds = record { answers = ap Ok (ready_m work S X E); sessions = alive S }; outs = λ e. written_m X }

  pick_m : {r r' z z' : Told} (b : Bool) → Tolds n σ r r' → Tolds n σ z z' → Tolds n σ (cond b r z) (cond b r' z')
  pick_m true R Z = R
  pick_m false R Z = Z

  settled_m : {s s' : Session} {f f' : List Float} {p p' : Progress} → Lives n σ s s' → Placed (within n) σ f f' → Progresses n σ p p' → Tolds n σ (settled s f p) (settled s' f' p')
  unfolding settled arrived
  settled_m S F refused_m = refused_told Why.Arithmetic (alive S)
  settled_m S F (asking_m t X) = refused_told Why.Arithmetic (alive S)
  settled_m (live N (run_m k t rtol atol held U F0 W) (trial_m h a c D J R)) F (ended_m work X E G) =
      let S = live N (run_m k t rtol atol held U F0 W) (trial_m h a c D J R) in
      pick_m (finite (t ⊕ h)) (record { answers = refl; sessions = alive (moved_m (t ⊕ h) S (placed X) F (placed G)) }) (refused_told Why.Arithmetic (alive S))

  -- ---- what is handed in
  vector_m : {s s' : Session} {x x' : List Float} (b b' : Bool) → b ≡ b' → Lives n σ s s' → Placed (within n) σ x x' → vector_tests s.n x b ≡ vector_tests s'.n x' b'
  unfolding vector_tests
  vector_m b b' e (live N (run_m k t rtol atol held U F W) T) X = rw (clear_p n X, e, finite_p X)

  length_m : {s s' : Session} (o o' : List Float) → length o ≡ length o' → Lives n σ s s' → eqb (length o) s.n ≡ eqb (length o') s'.n
  length_m o o' e (live N (run_m k t rtol atol held U F W) T) = ap (λ (z : ℕ). eqb z n) e

  begin_tests_lem : {s s' : Session} {j j' : List Float} (o o' : List Float) (h : Float) (a : Option Wish) → length o ≡ length o' → Lives n σ s s'
      → Placed (within (used_jacobian a n)) (cross n σ) j j' → begin_tests s h a j (length o) ≡ begin_tests s' h a j' (length o')
  unfolding begin_tests
  begin_tests_lem {s} {s'} {j} {j'} o o' h a e S J = ap₂ ◌++◌ (tests_m (Some Rest) S) (handed S)
    where
      handed : {t t' : Session} → Lives n σ t t' → attempt_tests t.n h a j (length o) ≡ attempt_tests t'.n h a j' (length o')
      handed (live N (run_m k t rtol atol held U F W) T) = unfold attempt_tests in rw (clear_p (used_jacobian a n) J, e, finite_p J)

  -- ---- the calls
  pub begin_m : {s s' : Session} {j j' : List Float} (o o' : List Float) (h : Float) → length o ≡ length o' → Lives n σ s s' → Placed (within (used_jacobian (Some Given) n)) (cross n σ) j j'
      → Outcomes n σ (begin_call s h Given j o) (begin_call s' h Given j' o')
  unfolding begin_call
  begin_m o o' h e S J =
      let B = begun_m h (Some Given) refl S J in
      lent_m o o' _ _ (ap tested (begin_tests_lem o o' h (Some Given) e S J)) (alive S) (shown_m o o' S B (progress_m B))

  pub supply_m : {s s' : Session} {x x' : List Float} (place : ℕ) (o o' : List Float) → length o ≡ length o' → Lives n σ s s' → Placed (within n) σ x x'
      → Outcomes n σ (supply_call s place x o) (supply_call s' place x' o')
  unfolding supply_call supply_tests
  supply_m place o o' e S X =
      let B = answered_m S X in
      lent_m o o' _ _ (ap₂ (λ a b. tested (a ++ b)) (tests_m (Some (Asking place)) S) (vector_m _ _ (length_m o o' e S) S X)) (alive S) (shown_m o o' S B (progress_m B))

  pub accept_m : {s s' : Session} {x x' : List Float} → Lives n σ s s' → Placed (within n) σ x x' → Tolds n σ (accept_call s x) (accept_call s' x')
  unfolding accept_call accept_tests
  accept_m S X = told_m _ _ (ap₂ (λ a b. tested (a ++ b)) (tests_m (Some Waiting) S) (vector_m true true refl S X)) (alive S) (settled_m S X (progress_m S))

  pub drop_m : {s s' : Session} → Lives n σ s s' → Tolds n σ (drop_call s) (drop_call s')
  unfolding drop_call
  drop_m S = told_m _ _ (ap tested (tests_m None S)) (alive S) (record { answers = refl; sessions = alive (rested_m S) })

  first_told : {s s' : Session} (z : Float) → Lives n σ s s'
      → Tolds n σ
      (tell (FirstStep (first_step s.n s.relative s.absolute s.state s.derivative z)) s)
      (tell (FirstStep (first_step s'.n s'.relative s'.absolute s'.state s'.derivative z)) s')
  first_told z (live N (run_m k t rtol atol held U F W) T) =
      record { answers = ap (λ (h : Float). Ok (FirstStep h)) (first_m rtol atol z (vecs U) (vecs F)); sessions = alive (live N (run_m k t rtol atol held U F W) T) }

  pub first_step_m : {s s' : Session} (z : Float) → Lives n σ s s' → Tolds n σ (first_step_call s z) (first_step_call s' z)
  unfolding first_step_call first_step_tests
  first_step_m z S = told_m _ _ (ap (λ a. tested (a ++ largest_tests z)) (tests_m None S)) (alive S) (first_told z S)

-- a step that is refused gives back the session and the output as they came
shown_refused : (b s : Session) (o : List Float) (p : Progress) → is_refused (shown b s o p).told.answer ≡ true → shown b s o p ≡ refuse_lent b o Why.Arithmetic
unfolding shown ready_of is_refused values_of figured
shown_refused b s o refused e = refl
shown_refused b s o (asking x t) e = absurd (false≢true e)
shown_refused b s o (ended x d g w) e = absurd (false≢true e)

-- ---- refusals for the dimension
size_tested : (wants : Option Phase) (s : Session) → size_ok s.n ≡ false → tested (session_tests wants s) ≡ Err Why.Places
unfolding tested session_tests good1
size_tested wants s e = rw e

size_past : (n : ℕ) → 16 < n → size_ok n ≡ false
unfolding size_ok
size_past n h = ap (λ (b : Bool). leb 1 n && b) (lt-leb n 16 h) ∙ and-false (leb 1 n)

past_tested : (r : Run) → 16 < r.n → tested (session_tests None (opened r)) ≡ Err Why.Places
past_tested r h = size_tested None (opened r) (unfold opened in size_past r.n h)

module _ {n : ℕ} {σ : ℕ → Bool} where
  told_void : (r r' : Told) (k k' : Result ⊤ Refusal) → k ≡ Err Why.Places → k' ≡ Err Why.Places → Tolds n σ (unless k (refuse nothing) r) (unless k' (refuse nothing) r')
  told_void r r' k k' e e' =
      subst₂ (λ (a b : Result ⊤ Refusal). Tolds n σ (unless a (refuse nothing) r) (unless b (refuse nothing) r')) (sym e) (sym e') (unfold unless in refused_told Why.Places void)

  lent_void : (o o' : List Float) (r r' : Outcome) (k k' : Result ⊤ Refusal) → k ≡ Err Why.Places → k' ≡ Err Why.Places → Outcomes n σ (unless k (refuse_lent nothing o) r) (unless k' (refuse_lent nothing o') r')
  lent_void o o' r r' k k' e e' =
      subst₂ (λ (a b : Result ⊤ Refusal). Outcomes n σ (unless a (refuse_lent nothing o) r) (unless b (refuse_lent nothing o') r')) (sym e) (sym e') (unfold unless in refused_outcome Why.Places void)

  pub begin_void : (h : Float) (w w' : Wish) (j j' o o' : List Float) → Outcomes n σ (begin_call nothing h w j o) (begin_call nothing h w' j' o')
  unfolding begin_call begin_tests
  begin_void h w w' j j' o o' = lent_void o o' _ _ _ _ (nothing_then (Some Rest) _) (nothing_then (Some Rest) _)

  pub supply_void : (place : ℕ) (x x' o o' : List Float) → Outcomes n σ (supply_call nothing place x o) (supply_call nothing place x' o')
  unfolding supply_call supply_tests
  supply_void place x x' o o' = lent_void o o' _ _ _ _ (nothing_then (Some (Asking place)) _) (nothing_then (Some (Asking place)) _)

  pub accept_void : (x x' : List Float) → Tolds n σ (accept_call nothing x) (accept_call nothing x')
  unfolding accept_call accept_tests
  accept_void x x' = told_void _ _ _ _ (nothing_then (Some Waiting) _) (nothing_then (Some Waiting) _)

  pub drop_void : Tolds n σ (drop_call nothing) (drop_call nothing)
  unfolding drop_call
  drop_void = told_void _ _ _ _ (nothing-tested None) (nothing-tested None)

  pub first_step_void : (z : Float) → Tolds n σ (first_step_call nothing z) (first_step_call nothing z)
  unfolding first_step_call first_step_tests
  first_step_void z = told_void _ _ _ _ (nothing_then None _) (nothing_then None _)

  -- ---- open
  small_m : {r r' : Run} → n ≤ 16 → Runs n σ r r' → Tolds n σ (open_call r) (open_call r')
  unfolding open_call
  small_m N R = let S = opened_m N R in told_m _ _ (ap tested (tests_m None S)) void (record { answers = refl; sessions = alive S })

  past_m : {r r' : Run} → 16 < n → Runs n σ r r' → Tolds n σ (open_call r) (open_call r')
  unfolding open_call
  past_m l (run_m k t rtol atol held U F W) = told_void _ _ _ _ (past_tested _ l) (past_tested _ l)

  pub open_m : {r r' : Run} → Runs n σ r r' → Tolds n σ (open_call r) (open_call r')
  open_m R = elim (dec_lt n 17) [ yes h ↦ small_m (omega arith) R | no h ↦ past_m (omega arith) R ]

  -- ---- a begin that wishes to difference, refused in both runs
  declined : {s s' : Session} {r r' : Outcome} (o o' : List Float) (k k' : Result ⊤ Refusal) → k ≡ k' → Lives n σ s s'
      → (is_refused r.told.answer ≡ true → r ≡ refuse_lent s o Why.Arithmetic) → (is_refused r'.told.answer ≡ true → r' ≡ refuse_lent s' o' Why.Arithmetic)
      → is_refused (unless k (refuse_lent s o) r).told.answer ≡ true → is_refused (unless k' (refuse_lent s' o') r').told.answer ≡ true
      → Outcomes n σ (unless k (refuse_lent s o) r) (unless k' (refuse_lent s' o') r')
  declined {s} {s'} {r} {r'} o o' k k' e S f f' q q' =
      subst (λ (a : Result ⊤ Refusal). is_refused (unless a (refuse_lent s' o') r').told.answer ≡ true → Outcomes n σ (unless k (refuse_lent s o) r) (unless a (refuse_lent s' o') r')) e (go k q) q'
    where
      go : (k : Result ⊤ Refusal) → is_refused (unless k (refuse_lent s o) r).told.answer ≡ true → is_refused (unless k (refuse_lent s' o') r').told.answer ≡ true
          → Outcomes n σ (unless k (refuse_lent s o) r) (unless k (refuse_lent s' o') r')
      go (Ok passed) q q' = unfold unless in subst₂ (λ (a b : Outcome). Outcomes n σ a b) (sym (f q)) (sym (f' q')) (refused_outcome Why.Arithmetic (alive S))
      go (Err why) q q' = unfold unless in refused_outcome why (alive S)

  pub difference_m : {s s' : Session} {j j' : List Float} (o o' : List Float) (h : Float) → length o ≡ length o' → Lives n σ s s' → Placed (within (used_jacobian (Some Difference) n)) (cross n σ) j j'
      → is_refused (begin_call s h Difference j o).told.answer ≡ true → is_refused (begin_call s' h Difference j' o').told.answer ≡ true
      → Outcomes n σ (begin_call s h Difference j o) (begin_call s' h Difference j' o')
  unfolding begin_call
  difference_m {s} {s'} o o' h e S J q q' =
      declined o o' _ _ (ap tested (begin_tests_lem o o' h (Some Difference) e S J)) S (shown_refused _ _ o _) (shown_refused _ _ o' _) q q'
