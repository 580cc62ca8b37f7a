-- The numbers of the orders of phi functions. Definitions only.
use Rattle.std.specs.Prelude.{◌≡◌, ℕ, ◌<◌, ◌≤◌, Result, MatchResult}
use Rattle.methods.specs.declared.order.Order.{Order}
use Rattle.methods.specs.declared.order.Order.TheVariants.{One, Two, Three, Four}
use Rattle.methods.specs.declared.order.UnknownOrder.{UnknownOrder}

-- the number of an order
abbrev pub order_number : Order → ℕ
order_number One = 1
order_number Two = 2
order_number Three = 3
order_number Four = 4

-- a number is that of the order, or, where no order has it, 0 or above 4
abbrev pub Orders : ℕ → Result Order UnknownOrder → Type 0
Orders number r = MatchResult r (λ order. order_number order ≡ number) (λ e. (e.0 ≡ number) × (1 ≤ number → 4 < number))
