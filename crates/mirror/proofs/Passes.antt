-- Mirrored passes: the same questions and the same end, mirrored, as long as the answers are. Assumes nothing.
use Rattle.std.proofs.Common.{ℕ, zero, suc, ◌<◌, ◌≡◌, refl, subst, Bool, List, [], ◌∷◌, lit<, Float, get_or}
use Rattle.float.specs.Arith.{◌⊘◌}
use Rattle.methods.specs.declared.Point.{Point}
use Rattle.methods.specs.Numbers.{num, minus}
use Rattle.std.specs.Prelude.{Option, Some, None}
use Rattle.methods.specs.Tally.{Report, Tried, clean, unadmitted, joined}
use Rattle.methods.specs.Phi.{more, more_all, nothing, combine_all}
use Rattle.methods.specs.Pass.{Pass, ask, done, also, Line, now, try, question, shifted_stage, remainder, ◌>>=◌}
use Rattle.methods.specs.Schemes.{a52, a54, lawson_euler, norsett_euler, etdrk2, etdrk3, etdrk4, hoch_ost4, exp4, epirk4s3, epirk4s3_a, epirk4s3_b, epirk5s3}
use Rattle.methods.specs.Schemes.{exprb53s3, powi, epirk5p, epirk5p_end, epirk5p1, epirk5p2, etd2, exprb32, exprb43}
use Rattle.methods.specs.Step.{pass}
use Rattle.mirror.proofs.Vectors.{Vecs, Mats, no_terms, one_term, zeros_m, plus_m, minus_m, scale_m, axpy_m, combine_m, mat_vec_m}
use Rattle.mirror.proofs.Matrices.{Actions, over_m, phi_action_m, phi_term_m, exp_action_m}

-- the nonlinear part of the last step, where there is one
pub data Pasts (n : ℕ) (σ : ℕ → Bool) : Option (List Float) → Option (List Float) → Type 0 where
  no_past : Pasts n σ None None
  past : {w w' : List Float} → Vecs n σ w w' → Pasts n σ (Some w) (Some w')

pub data Passes (n : ℕ) (σ : ℕ → Bool) : Pass → Pass → Type 0 where
  ask_m : (tally : Report) {x x' : List Float} (t : Float) {k k' : List Float → Pass} → Vecs n σ x x' → ((r r' : List Float) → Vecs n σ r r' → Passes n σ (k r) (k' r'))
      → Passes n σ (ask tally x t k) (ask tally x' t k')
  done_m : (tally : Report) {x x' e e' : List Float} → Vecs n σ x x' → Vecs n σ e e' → Passes n σ (done tally x e) (done tally x' e')

data Lines (n : ℕ) (σ : ℕ → Bool) : Line → Line → Type 0 where
  now_m : {x x' : List Float} → Vecs n σ x x' → Lines n σ (now x) (now x')
  try_m : {p p' : Tried} → Actions n σ p p' → Lines n σ (try p) (try p')
  question_m : {x x' : List Float} (t : Float) {f f' : List Float → List Float} → Vecs n σ x x' → ((r r' : List Float) → Vecs n σ r r' → Vecs n σ (f r) (f' r'))
      → Lines n σ (question x t f) (question x' t f')

module _ {n : ℕ} {σ : ℕ → Bool} where
  also_m : (b b' : Report) → b ≡ b' → {p p' : Pass} → Passes n σ p p' → Passes n σ (also b p) (also b' p')
  also_m b b' e {p} {p'} q = subst (λ (c : Report). Passes n σ (also b p) (also c p')) e (go q)
    where
      go : {p p' : Pass} → Passes n σ p p' → Passes n σ (also b p) (also b p')
      go (ask_m tally t u k) = unfold also in ask_m (joined b tally) t u k
      go (done_m tally u v) = unfold also in done_m (joined b tally) u v

  bind_m : {l l' : Line} {k k' : List Float → Pass} → Lines n σ l l' → ((x x' : List Float) → Vecs n σ x x' → Passes n σ (k x) (k' x')) → Passes n σ (l >>= k) (l' >>= k')
  unfolding ◌>>=◌
  bind_m (now_m {x = x} {x' = x'} p) f = f x x' p
  bind_m (try_m {p = p} {p' = p'} c) f = also_m p.tally p'.tally c.tallies (f p.v p'.v c.vs)
  bind_m (question_m t p q) f = ask_m clean t p (λ r r' R. f _ _ (q r r' R))

  shifted_m : {a a' x x' u u' : List Float} (t : Float) → Mats n σ a a' → Vecs n σ x x' → Vecs n σ u u' → Lines n σ (shifted_stage n a x u t) (shifted_stage n a' x' u' t)
  shifted_m t A X U = question_m t X (λ r r' R. axpy_m (num 1) (axpy_m (minus 1) R (mat_vec_m A X)) U)

  remainder_m : {a a' x x' u u' f f' : List Float} (t : Float) → Mats n σ a a' → Vecs n σ x x' → Vecs n σ u u' → Vecs n σ f f' → Lines n σ (remainder n a x u f t) (remainder n a' x' u' f' t)
  remainder_m t A X U F = question_m t X (λ r r' R. axpy_m (minus 1) (axpy_m (minus 1) R F) (mat_vec_m A (minus_m X U)))

order_1 : 0 < 1
order_1 = lit< tt

order_2 : 0 < 2
order_2 = lit< tt

order_3 : 0 < 3
order_3 = lit< tt

order_4 : 0 < 4
order_4 = lit< tt

module _ {n : ℕ} {σ : ℕ → Bool} where
  action_m : {s s' k k' : Tried} (c : Float) → Actions n σ s s' → Actions n σ k k' → Actions n σ (more n s c k) (more n s' c k')
  unfolding more
  action_m c S K = record { tallies = λ i. joined (S.tallies i) (K.tallies i); vs = axpy_m c S.vs K.vs }

  nothing_m : Actions n σ nothing nothing
  unfolding nothing
  nothing_m = record { tallies = refl; vs = zeros_m }

  a52_m : {a a' x x' : List Float} (h : Float) → Mats n σ a a' → Vecs n σ x x' → Actions n σ (a52 n a h x) (a52 n a' h x')
  unfolding a52 combine_all more_all
  a52_m h A X =
      let p = phi_term_m (h ⊘ num 2) 2 (num 1) order_2 A X in
      let q = phi_term_m h 3 (num 1) order_3 A X in
      let r = phi_term_m h 2 (num 1) order_2 A X in
      let s = phi_term_m (h ⊘ num 2) 3 (num 1) order_3 A X in
      action_m _ (action_m _ (action_m _ (action_m _ nothing_m p) q) r) s

  a54_m : {a a' x x' : List Float} (h : Float) → Mats n σ a a' → Vecs n σ x x' → Actions n σ (a54 n a h x) (a54 n a' h x')
  unfolding a54 combine_all more_all
  a54_m h A X = action_m _ (action_m _ nothing_m (phi_term_m (h ⊘ num 2) 2 (num 1) order_2 A X)) (a52_m h A X)

ruleset parts = (
  bind_m,
  done_m,
  now_m,
  try_m,
  over_m,
  question_m,
  zeros_m,
  plus_m,
  minus_m,
  scale_m,
  axpy_m,
  combine_m,
  no_terms,
  one_term,
  mat_vec_m,
  phi_action_m,
  phi_term_m,
  exp_action_m,
  shifted_m,
  remainder_m,
  a52_m,
  a54_m,
  order_1,
  order_2,
  order_3,
  order_4,
)

module _ {n : ℕ} {σ : ℕ → Bool} {a a' u u' f f' : List Float} (t h : Float) (A : Mats n σ a a') (U : Vecs n σ u u') (F : Vecs n σ f f') where
  lawson_euler_m : Passes n σ (lawson_euler n a u f h) (lawson_euler n a' u' f' h)
  unfolding lawson_euler
  lawson_euler_m = search parts depth 60

  norsett_euler_m : Passes n σ (norsett_euler n a u f h) (norsett_euler n a' u' f' h)
  unfolding norsett_euler
  norsett_euler_m = search parts depth 60

  exp4_m : Passes n σ (exp4 n a u t h f) (exp4 n a' u' t h f')
  unfolding exp4
  exp4_m = search parts depth 60

  epirk4s3_m : {k k' l l' : Tried} (c2 c3 r2c r3c q2c q3c : Float) → Actions n σ k k' → Actions n σ l l'
      → Passes n σ (epirk4s3 n a u t h f k l c2 c3 r2c r3c q2c q3c) (epirk4s3 n a' u' t h f' k' l' c2 c3 r2c r3c q2c q3c)
  unfolding epirk4s3
  epirk4s3_m c2 c3 r2c r3c q2c q3c K L = search parts depth 60

  epirk4s3_a_m : Passes n σ (epirk4s3_a n a u t h f) (epirk4s3_a n a' u' t h f')
  unfolding epirk4s3_a
  epirk4s3_a_m = epirk4s3_m _ _ _ _ _ _ (phi_term_m _ 1 _ order_1 A F) (phi_term_m _ 1 _ order_1 A F)

  epirk4s3_b_m : Passes n σ (epirk4s3_b n a u t h f) (epirk4s3_b n a' u' t h f')
  unfolding epirk4s3_b
  epirk4s3_b_m = epirk4s3_m _ _ _ _ _ _ (phi_term_m _ 2 _ order_2 A F) (phi_term_m _ 2 _ order_2 A F)

  epirk5s3_m : Passes n σ (epirk5s3 n a u t h f) (epirk5s3 n a' u' t h f')
  unfolding epirk5s3
  epirk5s3_m = search parts depth 60

  exprb53s3_m : Passes n σ (exprb53s3 n a u t h f) (exprb53s3 n a' u' t h f')
  unfolding exprb53s3
  exprb53s3_m = search parts depth 60

  epirk5p1_m : Passes n σ (epirk5p1 n a u t h f) (epirk5p1 n a' u' t h f')
  unfolding epirk5p1 epirk5p epirk5p_end powi
  epirk5p1_m = search parts depth 60

  epirk5p2_m : Passes n σ (epirk5p2 n a u t h f) (epirk5p2 n a' u' t h f')
  unfolding epirk5p2 epirk5p epirk5p_end powi
  epirk5p2_m = search parts depth 60

  exprb32_m : Passes n σ (exprb32 n a u t h f) (exprb32 n a' u' t h f')
  unfolding exprb32
  exprb32_m = search parts depth 60

  etd2_m : {o o' : Option (List Float)} → Pasts n σ o o' → Passes n σ (etd2 n a u h f o) (etd2 n a' u' h f' o')
  unfolding etd2
  etd2_m no_past = search parts depth 60
  etd2_m (past W) = search parts depth 60

  module _ {w w' : List Float} (W : Vecs n σ w w') where
    etdrk2_m : Passes n σ (etdrk2 n a u t h f w) (etdrk2 n a' u' t h f' w')
    unfolding etdrk2
    etdrk2_m = search parts depth 60

    etdrk3_m : Passes n σ (etdrk3 n a u t h f w) (etdrk3 n a' u' t h f' w')
    unfolding etdrk3
    etdrk3_m = search parts depth 60

    exprb43_m : Passes n σ (exprb43 n a u t h f w) (exprb43 n a' u' t h f' w')
    unfolding exprb43
    exprb43_m =
        bind_m (search parts depth 12) λ w1h w1h' W1H.
        bind_m (search parts depth 12) λ w11 w11' W11.
        bind_m (search parts depth 12) λ w13 w13' W13.
        bind_m (search parts depth 12) λ w14 w14' W14.
        bind_m (search parts depth 12) λ u2 u2' U2.
        bind_m (search parts depth 12) λ f2 f2' F2.
        bind_m (search parts depth 12) λ w21 w21' W21.
        bind_m (search parts depth 12) λ w23 w23' W23.
        bind_m (search parts depth 12) λ w24 w24' W24.
        bind_m (search parts depth 12) λ u3 u3' U3.
        bind_m (search parts depth 12) λ f3 f3' F3.
        search parts depth 60

    etdrk4_m : Passes n σ (etdrk4 n a u t h f w) (etdrk4 n a' u' t h f' w')
    unfolding etdrk4
    etdrk4_m =
        bind_m (search parts depth 12) λ u2 u2' U2.
        bind_m (search parts depth 12) λ f2 f2' F2.
        bind_m (search parts depth 12) λ u3 u3' U3.
        bind_m (search parts depth 12) λ f3 f3' F3.
        bind_m (search parts depth 12) λ c1 c1' C1.
        bind_m (search parts depth 12) λ c2 c2' C2.
        bind_m (search parts depth 12) λ c3 c3' C3.
        bind_m (search parts depth 12) λ c4 c4' C4.
        bind_m (search parts depth 12) λ u4 u4' U4.
        bind_m (search parts depth 12) λ f4 f4' F4.
        search parts depth 60

    hoch_ost4_m : Passes n σ (hoch_ost4 n a u t h f w) (hoch_ost4 n a' u' t h f' w')
    unfolding hoch_ost4
    hoch_ost4_m =
        bind_m (search parts depth 12) λ u2 u2' U2.
        bind_m (search parts depth 12) λ f2 f2' F2.
        bind_m (search parts depth 12) λ i1 i1' I1.
        bind_m (search parts depth 12) λ i2 i2' I2.
        bind_m (search parts depth 12) λ i3 i3' I3.
        bind_m (search parts depth 12) λ u3 u3' U3.
        bind_m (search parts depth 12) λ f3 f3' F3.
        bind_m (search parts depth 12) λ j1 j1' J1.
        bind_m (search parts depth 12) λ j2 j2' J2.
        bind_m (search parts depth 12) λ j3 j3' J3.
        bind_m (search parts depth 12) λ j4 j4' J4.
        bind_m (search parts depth 12) λ u4 u4' U4.
        bind_m (search parts depth 12) λ f4 f4' F4.
        bind_m (search parts depth 12) λ k1 k1' K1.
        bind_m (search parts depth 12) λ k2 k2' K2.
        bind_m (search parts depth 12) λ k3 k3' K3.
        bind_m (search parts depth 12) λ sum sum' SUM.
        bind_m (search parts depth 12) λ k4 k4' K4.
        bind_m (search parts depth 12) λ k5 k5' K5.
        bind_m (search parts depth 12) λ u5 u5' U5.
        bind_m (search parts depth 12) λ f5 f5' F5.
        search parts depth 60

-- ---- by number
data Each (n : ℕ) (σ : ℕ → Bool) : List Pass → List Pass → Type 0 where
  none_m : Each n σ [] []
  more_m : {p p' : Pass} {ps ps' : List Pass} → Passes n σ p p' → Each n σ ps ps' → Each n σ (p ∷ ps) (p' ∷ ps')

choose_m : {n : ℕ} {σ : ℕ → Bool} {ps ps' : List Pass} {d d' : Pass} (k : ℕ) → Each n σ ps ps' → Passes n σ d d' → Passes n σ (get_or ps k d) (get_or ps' k d')
choose_m k none_m D = D
choose_m zero (more_m P R) D = P
choose_m (suc k) (more_m P R) D = choose_m k R D

-- what the schemes start from
pub data Points (n : ℕ) (σ : ℕ → Bool) : Point → Point → Type 0 where
  points : (t h : Float) {u u' f f' : List Float} {o o' : Option (List Float)} → Vecs n σ u u' → Vecs n σ f f' → Pasts n σ o o'
      → Points n σ
      (record { n = n; time = t; step = h; state = u; f0 = f; previous = o })
      (record { n = n; time = t; step = h; state = u'; f0 = f'; previous = o' })

pub pass_m : {n : ℕ} {σ : ℕ → Bool} {p p' : Point} {a a' v v' g g' : List Float} (k : ℕ) → Points n σ p p' → Mats n σ a a' → Vecs n σ v v' → Vecs n σ g g' → Passes n σ (pass k p a v g)
    (pass k p' a' v' g')
unfolding pass
pass_m k (points t h U F W) A B G =
    choose_m k
    (more_m (lawson_euler_m t h A U G)
    (more_m (norsett_euler_m t h A U F)
    (more_m (etdrk2_m t h A U F G)
    (more_m (etdrk3_m t h A U F B)
    (more_m (etdrk4_m t h A U F B)
    (more_m (hoch_ost4_m t h A U F B)
    (more_m (exp4_m t h A U F)
    (more_m (epirk4s3_a_m t h A U F)
    (more_m (epirk4s3_b_m t h A U F)
    (more_m (epirk5s3_m t h A U F)
    (more_m (exprb53s3_m t h A U F)
    (more_m (epirk5p1_m t h A U F)
    (more_m (epirk5p2_m t h A U F)
    (more_m (etd2_m t h A U G W)
    (more_m (exprb32_m t h A U F)
    (more_m (exprb43_m t h A U F B) none_m))))))))))))))))
    (done_m unadmitted zeros_m zeros_m)
