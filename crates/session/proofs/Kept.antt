-- A refused call, by its outcome's number, returns the session as it came. Assumes nothing.
use Rattle.std.proofs.Common.{ℕ, ◌≡◌, refl, Bool, true, false, cond, List, Float, length}
use Rattle.std.proofs.Math.Bool.{false≢true}
use Rattle.std.specs.Prelude.{Some}
use Rattle.float.specs.Arith.{◌⊕◌, finite}
use Rattle.methods.specs.Step.{Progress, refused, asking, ended}
use Rattle.session.specs.declared.Refusal.TheVariants as Why
use Rattle.session.specs.declared.Session.{Session}
use Rattle.session.specs.declared.Told.{Told}
use Rattle.session.specs.declared.Answer.TheVariants.{Resting}
use Rattle.session.specs.declared.Wish.{Wish}
use Rattle.session.specs.Tests.{tested}
use Rattle.session.specs.Values.{values_of, figured, is_refused}
use Rattle.session.specs.Session.{progress}
use Rattle.session.specs.Calls.{tell, refuse, refuse_lent, shown, ready_of, settled, arrived, begin_tests, supply_tests, accept_tests, rested}
use Rattle.session.specs.Calls.{begin_call, supply_call, accept_call, drop_call}
use Rattle.session.proofs.Tests.{unless_either}

module _ (s : Session) where
  -- said of what a call tells
  abbrev pub Same : Told → Type 0
  Same t = is_refused t.answer ≡ true → t.session ≡ s

  moved_same : (b : Bool) (next : Session) → Same (cond b (tell Resting next) (refuse s Why.Arithmetic))
  unfolding is_refused values_of figured
  moved_same true next e = absurd (false≢true e)
  moved_same false next e = refl

  arrived_same : (x d g : List Float) → Same (arrived s x d g)
  unfolding arrived
  arrived_same x d g = moved_same (finite (s.time ⊕ s.step)) _

  settled_same : (d : List Float) (p : Progress) → Same (settled s d p)
  unfolding settled
  settled_same d refused e = refl
  settled_same d (asking x t) e = refl
  settled_same d (ended x f g w) e = arrived_same x d g e

  shown_same : (next : Session) (out : List Float) (p : Progress) → Same (shown s next out p).told
  unfolding shown ready_of is_refused values_of figured
  shown_same next out refused e = refl
  shown_same next out (asking x t) e = absurd (false≢true e)
  shown_same next out (ended x f g w) e = absurd (false≢true e)

  pub accept_same : (d : List Float) → Same (accept_call s d)
  unfolding accept_call
  accept_same d = unless_either (tested (accept_tests s d)) (refuse s) _ Same (λ j e. refl) (λ _. settled_same d (progress s))

  pub drop_same : Same (drop_call s)
  unfolding drop_call is_refused values_of figured
  drop_same = unless_either _ (refuse s) (tell Resting (rested s)) Same (λ j e. refl) (λ _ e. absurd (false≢true e))

  pub begin_same : (step : Float) (w : Wish) (j out : List Float) → Same (begin_call s step w j out).told
  unfolding begin_call
  begin_same step w j out =
      unless_either (tested (begin_tests s step (Some w) j (length out))) (refuse_lent s out) _ (λ o. Same o.told) (λ j e. refl) (λ _. shown_same _ out _)

  pub supply_same : (place : ℕ) (x out : List Float) → Same (supply_call s place x out).told
  unfolding supply_call
  supply_same place x out =
      unless_either (tested (supply_tests s place x (length out))) (refuse_lent s out) _ (λ o. Same o.told) (λ j e. refl) (λ _. shown_same _ out _)
