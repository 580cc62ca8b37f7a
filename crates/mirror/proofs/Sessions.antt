-- Mirrored sessions: their tests, figures, steps, and the sessions that the calls make of them. Assumes nothing.
use Rattle.std.proofs.Common.{ℕ, ◌+◌, ◌-◌, ◌≤◌, ◌<◌, arith, ◌≡◌, refl, ap, ap₂, ◌∙◌, Bool, true, false, cond, ◌&&◌, true≢false, List, eqb, pos, Float}
use Rattle.std.specs.Float.Ieee.{binary64, of_int}
use Rattle.std.specs.Prelude.{Option, Some, None}
use Rattle.loops.specs.Loop.{◌!◌}
use Rattle.float.proofs.Sums.{sum_ext, most_ext}
use Rattle.float.specs.Arith.{◌⊕◌, ◌⊗◌, ◌⊘◌, zero+, finite, abs, larger, powi2}
use Rattle.float.specs.Root.{sqrt}
use Rattle.engine.specs.Engine.{ratio, root_mean, error_norm, rate, estimate, clamp, by_rates, first_step}
use Rattle.session.specs.declared.Phase.{Phase}
use Rattle.session.specs.declared.Wish.TheVariants.{Given, Difference}
use Rattle.session.specs.declared.Wish.{Wish}
use Rattle.session.specs.declared.Session.{Session}
use Rattle.session.specs.declared.History.{History}
use Rattle.session.specs.declared.History.TheVariants.{Missing, Held}
use Rattle.session.specs.Session.{Run, Trial, joined, fresh, idle, clear, used_history, used_jacobian, size_ok, step_clear, run_places, attempt_places}
use Rattle.session.specs.Session.{good1, good2, good3, good4, good5, good7, good9, phase_of, session_tests, previous_of, point_of, progress_of, progress}
use Rattle.session.specs.Calls.{opened, nothing, begun, rested, answered, moved}
use Rattle.mirror.specs.Mirror.{within}
use Rattle.mirror.proofs.Floats.{abs_m, div_m, square_m}
use Rattle.mirror.proofs.Vectors.{Vecs, cross}
use Rattle.mirror.proofs.Passes.{Pasts, no_past, past, points}
use Rattle.mirror.proofs.Steps.{Progresses, refused_m, step_m}
use Rattle.mirror.proofs.Places.{Placed, slots, slot, blank_m, finite_p, clear_p, clear-answers, vecs, mats, answer_m, store_m}

abbrev pub is_differenced : Option Wish → Bool
is_differenced None = false
is_differenced (Some Given) = false
is_differenced (Some Difference) = true

-- ---- two runs, two attempts, two sessions

pub data Runs (n : ℕ) (σ : ℕ → Bool) : Run → Run → Type 0 where
  run_m : (k : ℕ) (t rtol : Float) (atol : List Float) (held : History) {u u' f f' w w' : List Float}
      → Placed (within n) σ u u' → Placed (within n) σ f f' → Placed (within (used_history held n)) σ w w'
      → Runs n σ
      (record { scheme = k; n = n; time = t; state = u; derivative = f; relative = rtol; absolute = atol; history = held; previous = w })
      (record { scheme = k; n = n; time = t; state = u'; derivative = f'; relative = rtol; absolute = atol; history = held; previous = w' })

-- no Jacobian is differenced
pub data Trials (n : ℕ) (σ : ℕ → Bool) : Trial → Trial → Type 0 where
  trial_m : (h : Float) (a : Option Wish) (c : ℕ) {j j' r r' : List Float} → is_differenced a ≡ false
      → Placed (within (used_jacobian a n)) (cross n σ) j j' → Placed (slots c n) (slot σ) r r'
      → Trials n σ
      (record { attempt = a; step = h; jacobian = j; count = c; answers = r })
      (record { attempt = a; step = h; jacobian = j'; count = c; answers = r' })

-- two sessions that are not refused by 1 for their dimension
pub data Lives (n : ℕ) (σ : ℕ → Bool) : Session → Session → Type 0 where
  live : {r r' : Run} {q q' : Trial} → n ≤ 16 → Runs n σ r r' → Trials n σ q q' → Lives n σ (joined r q) (joined r' q')

pub data Sessions (n : ℕ) (σ : ℕ → Bool) : Session → Session → Type 0 where
  -- what a refused open gave back
  void : Sessions n σ nothing nothing
  alive : {s s' : Session} → Lives n σ s s' → Sessions n σ s s'

-- the history after accept
kept_m : (n : ℕ) (σ : ℕ → Bool) {w w' g g' : List Float} (held : History) (b : Bool) → Placed (within (used_history held n)) σ w w' → Placed (within n) σ g g'
    → Placed (within (used_history (cond b Held held) n)) σ (cond b g w) (cond b g' w')
unfolding used_history
kept_m n σ held true W G = G
kept_m n σ held false W G = W

-- ---- the tests
module _ {n : ℕ} {σ : ℕ → Bool} where
  good1_m : {s s' : Session} → Lives n σ s s' → good1 s ≡ good1 s'
  unfolding good1 run_places attempt_places
  good1_m (live N (run_m k t rtol atol held U F W) (trial_m h a c D J R)) =
      λ i. cond (size_ok n)
      ((clear n atol && clear_p n U i && clear_p n F i && clear_p (used_history held n) W i) && (step_clear a h && clear_p (used_jacobian a n) J i && clear-answers c n R i))
      false

  good2_m : {s s' : Session} → Lives n σ s s' → good2 s ≡ good2 s'
  unfolding good2
  good2_m (live N (run_m k t rtol atol held U F W) (trial_m h a c D J R)) = refl

  good7_m : {s s' : Session} (wants : Option Phase) → Lives n σ s s' → good7 wants s ≡ good7 wants s'
  unfolding good7 phase_of
  good7_m wants (live N (run_m k t rtol atol held U F W) (trial_m h a c D J R)) = refl

  good9_m : {s s' : Session} (wants : Option Phase) → Lives n σ s s' → good9 wants s ≡ good9 wants s'
  unfolding good9
  good9_m wants (live N (run_m k t rtol atol held U F W) (trial_m h a c D J R)) = refl

  good4_m : {s s' : Session} → Lives n σ s s' → good4 s ≡ good4 s'
  unfolding good4
  good4_m (live N (run_m k t rtol atol held U F W) (trial_m h a c D J R)) = refl

  good5_m : {s s' : Session} → Lives n σ s s' → good5 s.attempt s.step ≡ good5 s'.attempt s'.step
  good5_m (live N (run_m k t rtol atol held U F W) (trial_m h a c D J R)) = refl

  good3_m : {s s' : Session} → Lives n σ s s' → good3 s ≡ good3 s'
  unfolding good3
  good3_m (live N (run_m k t rtol atol held U F W) (trial_m h a c D J R)) =
      λ i. finite t && finite_p U i && finite_p F i && finite_p W i && finite_p J i && finite_p R i

  pub tests_m : {s s' : Session} (wants : Option Phase) → Lives n σ s s' → session_tests wants s ≡ session_tests wants s'
  unfolding session_tests
  tests_m wants S = rw (good1_m S, good2_m S, good7_m wants S, good9_m wants S, good4_m S, good5_m S, good3_m S)

  -- ---- figures
  ratio_m : (rtol atol : Float) {u u' x x' e e' : List Float} → Vecs n σ u u' → Vecs n σ x x' → Vecs n σ e e' → (i : ℕ) → i < n
      → powi2 (ratio rtol atol u x e i) ≡ powi2 (ratio rtol atol u' x' e' i)
  unfolding ratio
  ratio_m rtol atol {u} {u'} {x} {x'} {e} {e'} U X E i h =
      ap₂ (λ (a b : Float). powi2 (e ! i ⊘ (atol ⊕ rtol ⊗ larger a b))) (abs_m (U.below i h)) (abs_m (X.below i h))
      ∙ square_m (div_m (E.below i h) (atol ⊕ rtol ⊗ larger (abs (u' ! i)) (abs (x' ! i))))

  pub norm_m : (rtol : Float) (atol : List Float) {u u' x x' e e' : List Float} → Vecs n σ u u' → Vecs n σ x x' → Vecs n σ e e'
      → error_norm n rtol atol u x e ≡ error_norm n rtol atol u' x' e'
  unfolding error_norm root_mean
  norm_m rtol atol U X E = ap (λ (z : Float). sqrt (z ⊘ of_int binary64 (pos n))) (sum_ext n _ _ (λ i h. ratio_m rtol (atol ! i) U X E i h))

  rate_m : (rtol atol : Float) {u u' f f' : List Float} → Vecs n σ u u' → Vecs n σ f f' → (i : ℕ) → i < n → rate rtol atol u f i ≡ rate rtol atol u' f' i
  unfolding rate
  rate_m rtol atol {u} {u'} {f} {f'} U F i h =
      ap (λ (a : Float). abs (f ! i ⊘ (atol ⊕ rtol ⊗ a))) (abs_m (U.below i h)) ∙ abs_m (div_m (F.below i h) (atol ⊕ rtol ⊗ abs (u' ! i)))

  pub first_m : (rtol : Float) (atol : List Float) (largest : Float) {u u' f f' : List Float} → Vecs n σ u u' → Vecs n σ f f'
      → first_step n rtol atol u f largest ≡ first_step n rtol atol u' f' largest
  unfolding first_step by_rates
  first_m rtol atol largest U F = ap (λ (z : Float). clamp (estimate z) largest) (most_ext n _ _ zero+ (λ i h. rate_m rtol (atol ! i) U F i h))

  -- ---- the attempt, as far as its answers go
  history_m : {w w' : List Float} (held : History) → Placed (within (used_history held n)) σ w w' → Pasts n σ (previous_of held w) (previous_of held w')
  unfolding used_history previous_of
  history_m Missing W = no_past
  history_m Held W = past (vecs W)

  pub progress_m : {s s' : Session} → Lives n σ s s' → Progresses n σ (progress s) (progress s')
  unfolding progress progress_of point_of used_jacobian
  progress_m (live N (run_m k t rtol atol held U F W) (trial_m h None c D J R)) = refused_m
  progress_m (live N (run_m k t rtol atol held U F W) (trial_m h (Some Given) c {r = r} {r' = r'} D J R)) =
      step_m r r' k (c - 0) (points t h (vecs U) (vecs F) (history_m held W)) (mats J) (λ j l. answer_m c N R j (omega arith))
  progress_m (live N (run_m k t rtol atol held U F W) (trial_m h (Some Difference) c D J R)) = absurd (true≢false D)

  -- ---- the sessions that the calls make
  pub idle_m : Trials n σ idle idle
  unfolding idle fresh
  idle_m = trial_m zero+ None 0 refl (blank_m _ _ 256) (blank_m _ _ 320)

  pub opened_m : {r r' : Run} → n ≤ 16 → Runs n σ r r' → Lives n σ (opened r) (opened r')
  unfolding opened
  opened_m N R = live N R idle_m

  pub begun_m : {s s' : Session} {j j' : List Float} (h : Float) (a : Option Wish) → is_differenced a ≡ false → Lives n σ s s'
      → Placed (within (used_jacobian a n)) (cross n σ) j j' → Lives n σ (begun s h a j) (begun s' h a j')
  unfolding begun fresh
  begun_m h a E (live N R T) J = live N R (trial_m h a 0 E J (blank_m _ _ 320))

  pub rested_m : {s s' : Session} → Lives n σ s s' → Lives n σ (rested s) (rested s')
  unfolding rested
  rested_m (live N R T) = opened_m N R

  pub answered_m : {s s' : Session} {x x' : List Float} → Lives n σ s s' → Placed (within n) σ x x' → Lives n σ (answered s x) (answered s' x')
  unfolding answered
  answered_m (live N R (trial_m h a c D J A)) X = live N R (trial_m h a (c + 1) D J (store_m n σ c A X))

  pub moved_m : {s s' : Session} {x x' f f' g g' : List Float} (t : Float) → Lives n σ s s' → Placed (within n) σ x x' → Placed (within n) σ f f' → Placed (within n) σ g g'
      → Lives n σ (moved s t x f g) (moved s' t x' f' g')
  unfolding moved
  moved_m t (live N (run_m k t0 rtol atol held U F0 W) T) X F G = opened_m N (run_m k t rtol atol _ X F (kept_m n σ held (eqb k 13) W G))
