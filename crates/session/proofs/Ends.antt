-- What an attempt that has ended ends in: finite vectors of the dimension. Assumes nothing.
use Rattle.std.proofs.Common.{ℕ, ◌-◌, ◌*◌, ◌≤◌, ◌≡◌, refl, subst, Bool, true, false, cond, List, ltb, Float, take}
use Rattle.std.specs.Prelude.{Option, Some, None}
use Rattle.loops.specs.Loop.{every, mat}
use Rattle.evaluation.specs.Evaluation.{all_finite}
use Rattle.methods.specs.declared.Work.{Work}
use Rattle.methods.specs.Step.{Progress, refused, asking, ended}
use Rattle.methods.specs.Shape.{Whole}
use Rattle.methods.proofs.Shape.{ends_late}
use Rattle.engine.specs.Engine.{perturbed, jacobian_entry, column_ok}
use Rattle.session.specs.declared.Wish.TheVariants.{Given, Difference}
use Rattle.session.specs.declared.Wish.{Wish}
use Rattle.session.specs.declared.Session.{Session}
use Rattle.session.specs.Session.{point_of, stepped, question, differencing, progress_of, progress}

-- candidate, error vector and nonlinear part
pub record Wholes (n : ℕ) (x e g : List Float) : Type 0 where
  pub candidate : Whole n x
  pub error : Whole n e
  pub nonlinear : Whole n g

-- ---- wherever an attempt stands: what holds where it is refused, of every question and of every step, holds there
module _ (P : Progress → Type 0) (s : Session) (none : P refused) (asked : (x : List Float) (t : Float) → P (asking x t)) (made : (a : List Float) (j : ℕ) → P (stepped s a j)) where
  or_none : (b : Bool) (p : Progress) → P p → P (cond b p refused)
  or_none true p h = h
  or_none false p h = none

  differencing_any : P (differencing s)
  unfolding differencing question
  differencing_any = go (ltb s.count s.n)
    where
      column : ℕ → Bool
      column = column_ok s.n s.state s.derivative s.answers

      next : List Float
      next = perturbed s.n s.state s.count

      jacobian : List Float
      jacobian = mat s.n (jacobian_entry s.state s.derivative s.answers)

      go : (b : Bool) → P (cond b
          (cond (every s.count column) (cond (all_finite next) (asking next s.time) refused) refused)
          (cond (every s.n column) (stepped s jacobian s.n) refused))
      go true = or_none (every s.count column) _ (or_none (all_finite next) _ (asked next s.time))
      go false = or_none (every s.n column) _ (made jacobian s.n)

  pub progress_any : P (progress s)
  unfolding progress
  progress_any = go s.attempt
    where
      go : (a : Option Wish) → P (progress_of a s)
      go None = unfold progress_of in none
      go (Some Given) = unfold progress_of in made (take (s.n * s.n) s.jacobian) 0
      go (Some Difference) = unfold progress_of in differencing_any

-- ---- what it ends in
WholeEnd : ℕ → Progress → Type 0
WholeEnd n refused = Unit
WholeEnd n (asking x t) = Unit
WholeEnd n (ended x e g w) = Wholes n x e g

module _ (s : Session) (small : s.n ≤ 16) where
  step_whole : (a : List Float) (j : ℕ) → WholeEnd s.n (stepped s a j)
  step_whole a j = go (stepped s a j) refl
    where
      go : (p : Progress) → stepped s a j ≡ p → WholeEnd s.n p
      go refused h = unfold WholeEnd in tt
      go (asking x t) h = unfold WholeEnd in tt
      go (ended x e g w) h =
          let k = ends_late s.scheme (point_of s) a (s.count - j) j s.answers x e g w (unfold point_of in small) h in
          unfold WholeEnd point_of in record { candidate = k.candidate; error = k.error; nonlinear = k.nonlinear }

  pub ended_whole : (x e g : List Float) (w : Work) → progress s ≡ ended x e g w → Wholes s.n x e g
  unfolding WholeEnd
  ended_whole x e g w h = subst (WholeEnd s.n) h (progress_any (WholeEnd s.n) s tt (λ x t. tt) step_whole)
