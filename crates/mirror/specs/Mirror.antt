-- The mirrored runs: one statement about an opening and a list of calls. Definitions only.
use Rattle.std.specs.Prelude.{ℕ, ◌/◌, ◌%◌, ◌<◌, ◌≡◌, ◌⊎◌, Bool, true, false, ◌&&◌, List, [], ◌∷◌, ltb, pos, Float, length, Some}
use Rattle.std.specs.Float.{nan, inf, fin}
use Rattle.std.specs.Float.Ieee.{unlike}
use Rattle.loops.specs.Loop.{tab, ◌!◌}
use Rattle.session.specs.declared.Session.{Session}
use Rattle.session.specs.declared.Wish.{Wish}
use Rattle.session.specs.declared.Wish.TheVariants.{Given, Difference}
use Rattle.session.specs.Values.{is_refused}
use Rattle.session.specs.Session.{Run, Trial, run_of, trial_of, used_history, used_jacobian, in_answers}
use Rattle.session.specs.Calls.{Outcome}
use Rattle.session.specs.Runs.{Call, begin, supply, accept, drop, first_step, perform, opening, run}

-- The runs, two that open, then make the same calls in any order and number, none too, are those of the session's specs/Runs.antt:
-- an opening hands in a Run, and 'Each call gets the session that the last one returned, after a refusal too'.

-- ---- flips: 'To flip is to turn the sign bit'

unfoldable pub flip : Bool → Float → Float
flip s nan = nan
flip s (inf t) = inf (unlike s t)
flip s (fin t m e) = fin (unlike s t) m e

-- a list with the places flipped that are in use and whose sign is turned
unfoldable pub flipped : (ℕ → Bool) → (ℕ → Bool) → List Float → List Float
flipped used turned x = tab (length x) (λ p. flip (used p && turned p) (x ! p))

-- 'within the first n places (n² of a Jacobian; all there are, if n is past 16)'; 'A history or Jacobian is in use where its enum says it is held': used_history, used_jacobian
abbrev pub within : ℕ → ℕ → Bool
within n p = ltb p n

-- 'an entry flips if just one of its row and column does'
abbrev pub entry_turned : ℕ → (ℕ → Bool) → ℕ → Bool
entry_turned n turned p = unlike (turned (p / n)) (turned (p % n))

-- what the second hands in, flipped where runs are: n is that handed to open, and `turned` the one choice of components
unfoldable pub flipped_opening : (ℕ → Bool) → Run → Run
flipped_opening turned o = record {
  scheme = o.scheme;
  n = o.n;
  time = o.time;
  state = flipped (within o.n) turned o.state;
  derivative = flipped (within o.n) turned o.derivative;
  relative = o.relative;
  absolute = o.absolute;
  history = o.history;
  previous = flipped (within (used_history o.history o.n)) turned o.previous;
}

-- 'All else handed in, and each lent output's length, is the same'
pub data FlippedCall (n : ℕ) (turned : ℕ → Bool) : Call → Call → Type 0 where
  begins : (step : Float) (wish : Wish) (jacobian out out' : List Float) → length out ≡ length out'
      → FlippedCall n turned (begin step wish jacobian out) (begin step wish (flipped (within (used_jacobian (Some wish) n)) (entry_turned n turned) jacobian) out')
  supplies : (place : ℕ) (answer out out' : List Float) → length out ≡ length out'
      → FlippedCall n turned (supply place answer out) (supply place (flipped (within n) turned answer) out')
  accepts : (derivative : List Float) → FlippedCall n turned (accept derivative) (accept (flipped (within n) turned derivative))
  drops : FlippedCall n turned drop drop
  first_steps : (largest : Float) → FlippedCall n turned (first_step largest) (first_step largest)

pub data FlippedCalls (n : ℕ) (turned : ℕ → Bool) : List Call → List Call → Type 0 where
  no_call : FlippedCalls n turned [] []
  and_call : {c c' : Call} {cs cs' : List Call} → FlippedCall n turned c c' → FlippedCalls n turned cs cs' → FlippedCalls n turned (c ∷ cs) (c' ∷ cs')

-- 'neither run accepts a begin that wishes it'
unfoldable pub wishes_difference : Call → Bool
wishes_difference (begin step Given jacobian out) = false
wishes_difference (begin step Difference jacobian out) = true
wishes_difference (supply place answer out) = false
wishes_difference (accept derivative) = false
wishes_difference drop = false
wishes_difference (first_step largest) = false

unfoldable pub Undifferenced : Session → List Call → Type 0
Undifferenced s [] = Unit
Undifferenced s (c ∷ cs) = (wishes_difference c ≡ true → is_refused (perform c s).told.answer ≡ true) × Undifferenced (perform c s).told.session cs

-- ---- what holds: 'each other's flips, zeros of either sign equal in any of those places within n (n²)'

-- a zero of either sign
unfoldable pub Zero : Float → Type 0
Zero x = (t : Bool) × (x ≡ fin t 0 (pos 0))

-- y is x flipped, or both are zeros
unfoldable pub Agrees : Bool → Float → Float → Type 0
Agrees s x y = (y ≡ flip s x) ⊎ (Zero x × Zero y)

-- two lists, place by place: flips in use, equal to the bit elsewhere
pub record Alike (used turned : ℕ → Bool) (x y : List Float) : Type 0 where
  pub size : length x ≡ length y
  pub in_use : (p : ℕ) → p < length x → used p ≡ true → Agrees (turned p) (x ! p) (y ! p)
  pub other : (p : ℕ) → p < length x → used p ≡ false → x ! p ≡ y ! p

-- 'the rest of the session is equal to the bit', the sixteen tolerances among it: the run
pub record MirroredRun (n : ℕ) (turned : ℕ → Bool) (r r' : Run) : Type 0 where
  pub scheme : r.scheme ≡ r'.scheme
  pub size : r.n ≡ r'.n
  pub time : r.time ≡ r'.time
  pub relative : r.relative ≡ r'.relative
  pub absolute : r.absolute ≡ r'.absolute
  pub history : r.history ≡ r'.history
  pub state : Alike (within n) turned r.state r'.state
  pub derivative : Alike (within n) turned r.derivative r'.derivative
  pub previous : Alike (within (used_history r.history n)) turned r.previous r'.previous

-- and its attempt
pub record MirroredTrial (n : ℕ) (turned : ℕ → Bool) (t t' : Trial) : Type 0 where
  pub attempt : t.attempt ≡ t'.attempt
  pub step : t.step ≡ t'.step
  pub count : t.count ≡ t'.count
  pub jacobian : Alike (within (used_jacobian t.attempt n)) (entry_turned n turned) t.jacobian t'.jacobian
  pub answers : Alike (in_answers t.count n) (λ p. turned (p % 16)) t.answers t'.answers

pub record Mirrored (n : ℕ) (turned : ℕ → Bool) (s s' : Session) : Type 0 where
  pub run : MirroredRun n turned (run_of s) (run_of s')
  pub trial : MirroredTrial n turned (trial_of s) (trial_of s')

-- 'Each call, the opening too, then gives both runs the same kind of outcome; the refusal number and the figures .. are equal to the bit. Written outputs .. are each other's flips'
pub record SameOutcome (n : ℕ) (turned : ℕ → Bool) (r r' : Outcome) : Type 0 where
  pub answer : r.told.answer ≡ r'.told.answer
  pub session : Mirrored n turned r.told.session r'.told.session
  pub written : is_refused r.told.answer ≡ false → Alike (within n) turned r.out r'.out

pub data SameOutcomes (n : ℕ) (turned : ℕ → Bool) : List Outcome → List Outcome → Type 0 where
  no_outcome : SameOutcomes n turned [] []
  and_outcome : {r r' : Outcome} {rs rs' : List Outcome} → SameOutcome n turned r r' → SameOutcomes n turned rs rs' → SameOutcomes n turned (r ∷ rs) (r' ∷ rs')

-- DEMAND 3, whole
unfoldable pub MirroredRuns : Type 0
MirroredRuns =
    (turned : ℕ → Bool) (o : Run) (cs cs' : List Call)
    → FlippedCalls o.n turned cs cs'
    → Undifferenced (opening o).told.session cs
    → Undifferenced (opening (flipped_opening turned o)).told.session cs'
    → SameOutcomes o.n turned
    (opening o ∷ run (opening o).told.session cs)
    (opening (flipped_opening turned o) ∷ run (opening (flipped_opening turned o)).told.session cs')
