-- The places of the questions: an answer that belongs to another question is turned down. Definitions only.
use Rattle.std.specs.Prelude.{ℕ, ◌+◌, ◌≤◌, ◌≡◌, Bool, true, false, cond, List, [], ◌∷◌, Float, length, Ok, Some}
use Rattle.evaluation.specs.Sizes.{places}
use Rattle.session.specs.declared.Session.{Session}
use Rattle.session.specs.declared.Answer.TheVariants.{Ask}
use Rattle.session.specs.declared.Wish.{Wish}
use Rattle.session.specs.declared.Phase.TheVariants.{Asking}
use Rattle.session.specs.declared.Refusal.TheVariants as Why
use Rattle.session.specs.Tests.{tested}
use Rattle.session.specs.Values.{number}
use Rattle.session.specs.Session.{phase_of, open_place, admits, good1, good2, good7, session_tests}
use Rattle.session.specs.Calls.{Outcome, begin_call, supply_call}
use Rattle.session.specs.Runs.{Call, begin, supply, accept, drop, first_step, perform, after}
use Rattle.session.specs.Refusals.{First}
use Rattle.session.specs.Claims.{TypedCall, TypedCalls}

-- a call that is not refused
abbrev pub Taken : Outcome → Type 0
Taken o = number o.told.answer ≡ 0

-- a question is open
unfoldable pub asks : Session → Bool
asks s = admits (Some (Asking (open_place s))) (phase_of s)

-- refused by 9 while a question is open, and by 7 where none is, with nothing changed
pub record TurnedDown (s : Session) (lent : List Float) (o : Outcome) : Type 0 where
  pub refused : number o.told.answer ≡ cond (asks s) 9 7
  pub session : o.told.session ≡ s
  pub out : o.out ≡ lent

unfoldable pub is_begin : Call → Bool
is_begin (begin step wish jacobian out) = true
is_begin (supply place answer out) = false
is_begin (accept derivative) = false
is_begin drop = false
is_begin (first_step largest) = false

unfoldable pub is_supply : Call → Bool
is_supply (begin step wish jacobian out) = false
is_supply (supply place answer out) = true
is_supply (accept derivative) = false
is_supply drop = false
is_supply (first_step largest) = false

-- no begin among the calls is taken: they stay within one attempt, or end it
unfoldable pub Within : Session → List Call → Type 0
Within s [] = Unit
Within s (c ∷ cs) = (is_begin c ≡ true → Taken (perform c s) → ⊥) × Within (perform c s).told.session cs

pub record Questions : Type 0 where
  -- the questions of an attempt carry 0, 1, 2 and so on
  pub first : (s : Session) (step : Float) (wish : Wish) (jacobian out : List Float) (asked : ℕ) (time : Float)
      → (begin_call s step wish jacobian out).told.answer ≡ Ok (Ask asked time) → asked ≡ 0
  pub next : (s : Session) (place : ℕ) (answer out : List Float) (asked : ℕ) (time : Float)
      → (supply_call s place answer out).told.answer ≡ Ok (Ask asked time) → asked ≡ place + 1
  -- the session that comes with an Ask asks the question at the place which the Ask carries ..
  pub carried : (c : Call) (s : Session) (asked : ℕ) (time : Float) → (perform c s).told.answer ≡ Ok (Ask asked time) → phase_of (perform c s).told.session ≡ Asking asked
  -- .. so a supply that gives that place back is never refused because of the session
  pub back : (c : Call) (s : Session) → TypedCall c → (asked : ℕ) (time : Float) → (perform c s).told.answer ≡ Ok (Ask asked time)
      → tested (session_tests (Some (Asking asked)) (perform c s).told.session) ≡ Ok tt
  -- exactly the open question's place is not refused by 9: it never is, of any session, and any other is, right after 1, 2 and 7
  pub same : (s : Session) (answer out : List Float) → number (supply_call s (open_place s) answer out).told.answer ≡ 9 → ⊥
  pub other : (s : Session) (place : ℕ) (answer out : List Float) → (place ≡ open_place s → ⊥)
      → First ((good1 s, Why.Places) ∷ (good2 s, Why.Scheme) ∷ (good7 (Some (Asking place)) s, Why.Phase) ∷ (false, Why.Question) ∷ []) (number (supply_call s place answer out).told.answer)
  -- no call but supply is refused by 9
  pub alone : (c : Call) (s : Session) → number (perform c s).told.answer ≡ 9 → is_supply c ≡ true
  -- late: once a supply was taken, and whatever calls follow until the next begin, an answer to its place or an earlier one is turned down
  pub late : (s : Session) (place : ℕ) (answer out : List Float) → length answer ≡ places → Taken (supply_call s place answer out)
      → (cs : List Call) → TypedCalls cs → Within (supply_call s place answer out).told.session cs
      → (past : ℕ) → past ≤ place → (answer' out' : List Float)
      → let t = after (supply_call s place answer out).told.session cs in TurnedDown t out' (supply_call t past answer' out')
  -- a duplicate: the same supply again, at once, into any output
  pub duplicate : (s : Session) (place : ℕ) (answer out : List Float) → length answer ≡ places → Taken (supply_call s place answer out)
      → (out' : List Float) → let t = (supply_call s place answer out).told.session in TurnedDown t out' (supply_call t place answer out')
