-- An opening and a list of calls after it, each on the session that the last one returned. Definitions only.
use Rattle.std.specs.Prelude.{ℕ, List, [], ◌∷◌, Float, Option, Some, None}
use Rattle.session.specs.declared.Phase.{Phase}
use Rattle.session.specs.declared.Session.{Session}
use Rattle.session.specs.declared.Wish.{Wish}
use Rattle.session.specs.declared.Phase.TheVariants.{Rest, Asking, Waiting}
use Rattle.session.specs.Session.{Run}
use Rattle.session.specs.Calls.{Outcome, outcome, open_call, begin_call, supply_call, accept_call, drop_call, first_step_call}

-- a call with what is handed in: supply's is the place of the question that it answers first; begin and supply are lent an output
pub data Call : Type 0 where
  begin : Float → Wish → List Float → List Float → Call
  supply : ℕ → List Float → List Float → Call
  accept : List Float → Call
  drop : Call
  first_step : Float → Call

-- in which phase it wants the session; supply's names its question
unfoldable pub wants_of : Call → Option Phase
wants_of (begin step wish jacobian out) = Some Rest
wants_of (supply place answer out) = Some (Asking place)
wants_of (accept derivative) = Some Waiting
wants_of drop = None
wants_of (first_step largest) = None

-- the definition of a call; one that is lent no output leaves none
unfoldable pub perform : Call → Session → Outcome
perform (begin step wish jacobian out) s = begin_call s step wish jacobian out
perform (supply place answer out) s = supply_call s place answer out
perform (accept derivative) s = outcome (accept_call s derivative) []
perform drop s = outcome (drop_call s) []
perform (first_step largest) s = outcome (first_step_call s largest) []

unfoldable pub opening : Run → Outcome
opening r = outcome (open_call r) []

-- the outcomes, each call on the session that the last one returned, after a refusal too
unfoldable pub run : Session → List Call → List Outcome
run s [] = []
run s (c ∷ cs) = perform c s ∷ run (perform c s).told.session cs

-- the session that they end in
unfoldable pub after : Session → List Call → Session
after s [] = s
after s (c ∷ cs) = after (perform c s).told.session cs
