-- Mirrored steps, as far as mirrored answers lead. Assumes nothing.
use Rattle.std.proofs.Common.{ℕ, zero, suc, ◌+◌, ◌≤◌, ◌<◌, arith, ◌≡◌, refl, ap₂, subst, Bool, true, false, cond, ◌&&◌, List, Float}
use Rattle.float.specs.Arith.{finite}
use Rattle.methods.specs.declared.Point.{Point}
use Rattle.methods.specs.Tally.{Report}
use Rattle.methods.specs.declared.Work.{Work}
use Rattle.methods.specs.Tally.{clean, joined, work_of}
use Rattle.methods.specs.Pass.{Pass, Stand, fails, asks, ends, counting, under, answer, replay}
use Rattle.methods.specs.Step.{Progress, refused, asking, ended, finish, perform_step}
use Rattle.mirror.proofs.Vectors.{Vecs, Mats, minus_m, mat_vec_m, all_finite_m}
use Rattle.mirror.proofs.Passes.{Passes, ask_m, done_m, Points, points, pass_m}

data Stands (n : ℕ) (σ : ℕ → Bool) : Stand → Stand → Type 0 where
  fails_m : Stands n σ fails fails
  asks_m : {x x' : List Float} (t : Float) → Vecs n σ x x' → Stands n σ (asks x t) (asks x' t)
  ends_m : {x x' e e' : List Float} (tally : Report) → Vecs n σ x x' → Vecs n σ e e' → Stands n σ (ends x e tally) (ends x' e' tally)

pub data Progresses (n : ℕ) (σ : ℕ → Bool) : Progress → Progress → Type 0 where
  refused_m : Progresses n σ refused refused
  asking_m : {x x' : List Float} (t : Float) → Vecs n σ x x' → Progresses n σ (asking x t) (asking x' t)
  ended_m : {x x' e e' g g' : List Float} (work : Work) → Vecs n σ x x' → Vecs n σ e e' → Vecs n σ g g' → Progresses n σ (ended x e g work) (ended x' e' g' work)

module _ {n : ℕ} {σ : ℕ → Bool} where
  or_fails : {p p' : Stand} (b b' : Bool) → b ≡ b' → Stands n σ p p' → Stands n σ (cond b p fails) (cond b' p' fails)
  or_fails {p} {p'} b b' e q = subst (λ (d : Bool). Stands n σ (cond b p fails) (cond d p' fails)) e (go b)
    where
      go : (d : Bool) → Stands n σ (cond d p fails) (cond d p' fails)
      go true = q
      go false = fails_m

  -- under one report
  under_m : {p p' : Stand} (tally : Report) → Stands n σ p p' → Stands n σ (under tally p) (under tally p')
  unfolding under
  under_m {p} {p'} tally q = or_fails tally.ok tally.ok refl (go q)
    where
      go : {p p' : Stand} → Stands n σ p p' → Stands n σ (counting tally p) (counting tally p')
      go fails_m = unfold counting in fails_m
      go (asks_m t X) = unfold counting in asks_m t X
      go (ends_m rest X E) = unfold counting in ends_m (joined tally rest) X E

  -- the answers below `most` are mirrored
  replay_m : {p p' : Pass} (most : ℕ) (r r' : List Float) → ((k : ℕ) → k < most → Vecs n σ (answer n r k) (answer n r' k))
      → Passes n σ p p' → (c j : ℕ) → j + c ≤ most → Stands n σ (replay n p c j r) (replay n p' c j r')
  unfolding replay
  replay_m m r r' R (ask_m tally t X K) zero j h = under_m tally (or_fails _ _ (λ i. all_finite_m X i && finite t) (asks_m t X))
  replay_m m r r' R (ask_m tally t X K) (suc c) j h =
      under_m tally (or_fails _ _ (λ i. all_finite_m X i && finite t) (replay_m m r r' R (K _ _ (R j (omega arith))) c (suc j) (omega arith)))
  replay_m m r r' R (done_m tally X E) c j h = under_m tally (or_fails _ _ (λ i. all_finite_m X i && all_finite_m E i) (ends_m clean X E))

  finish_m : {g g' : List Float} {p p' : Stand} → Vecs n σ g g' → Stands n σ p p' → Progresses n σ (finish g p) (finish g' p')
  unfolding finish
  finish_m G fails_m = refused_m
  finish_m G (asks_m t X) = asking_m t X
  finish_m G (ends_m tally X E) = ended_m (work_of tally) X E G

  or_refused : {p p' : Progress} (b b' : Bool) → b ≡ b' → Progresses n σ p p' → Progresses n σ (cond b p refused) (cond b' p' refused)
  or_refused {p} {p'} b b' e q = subst (λ (d : Bool). Progresses n σ (cond b p refused) (cond d p' refused)) e (go b)
    where
      go : (d : Bool) → Progresses n σ (cond d p refused) (cond d p' refused)
      go true = q
      go false = refused_m

  pub step_m : {p p' : Point} {a a' : List Float} (r r' : List Float) (k c : ℕ) → Points n σ p p' → Mats n σ a a' → ((j : ℕ) → j < c → Vecs n σ (answer n r j) (answer n r' j))
      → Progresses n σ (perform_step k p a c 0 r) (perform_step k p' a' c 0 r')
  unfolding perform_step
  step_m r r' k c (points t h U F W) A R =
      let B = mat_vec_m A U in
      let G = minus_m F B in
      or_refused _ _ (ap₂ ◌&&◌ (all_finite_m B) (all_finite_m G))
      (finish_m G (replay_m c r r' R (pass_m k (points t h U F W) A B G) c 0 (omega arith)))
