-- `exp4_epirk::powi`: either exponent. Assumes nothing.
use Rattle.std.proofs.Common.{◌≡◌, refl, Float}
use Rattle.methods.specs.declared.order.Order.{Order}
use Rattle.methods.specs.declared.order.Order.TheVariants.{One, Two, Three, Four}
use Rattle.methods.specs.Order.{order_number}
use Rattle.methods.specs.Schemes.{powi}
use Rattle.exp4_epirk.proofs.powi.Goals as goal

pub returns-in-Two : goal.returns-in-Two
unfolding powi
returns-in-Two c = rw (c.in-Two.is, c.powi2.ensures)

not_two : (x : Float) (k : Order) → (k ≡ Two → ⊥) → x ≡ powi x (order_number k)
unfolding powi
not_two x One h = refl
not_two x Two h = absurd (h refl)
not_two x Three h = refl
not_two x Four h = refl

pub returns-in_default : goal.returns-in_default
returns-in_default c = not_two _ _ c.in_default.not-Two
