-- A session as head and figures: its figures stand one behind the other, in a list that can be lent. Definitions only.
use Rattle.std.specs.Prelude.{ℕ, ◌+◌, List, [], ◌∷◌, ◌++◌, Float}
use Rattle.loops.specs.Loop.{tab, ◌!◌}
use Rattle.evaluation.specs.Sizes.{places, answer_room}
use Rattle.session.specs.declared.Session.{Session}
use Rattle.session.specs.declared.Head.{Head}
use Rattle.session.specs.Session.{jacobian_room}

-- ---- where each figure stands: behind the one before it. The code's constants have the same names, as STATE_AT for state_at

abbrev pub time_at : ℕ
time_at = 0

abbrev pub step_at : ℕ
step_at = time_at + 1

abbrev pub relative_at : ℕ
relative_at = step_at + 1

abbrev pub absolute_at : ℕ
absolute_at = relative_at + 1

abbrev pub state_at : ℕ
state_at = absolute_at + places

abbrev pub derivative_at : ℕ
derivative_at = state_at + places

abbrev pub previous_at : ℕ
previous_at = derivative_at + places

abbrev pub jacobian_at : ℕ
jacobian_at = previous_at + places

abbrev pub answers_at : ℕ
answers_at = jacobian_at + jacobian_room

-- how many there are
abbrev pub FIGURES : ℕ
FIGURES = answers_at + answer_room

-- ---- a session of head and figures, and the head and figures of a session

-- n figures of x from place `at` on
unfoldable pub part : List Float → ℕ → ℕ → List Float
part x at n = tab n (λ i. x ! (at + i))

-- the first n of x
unfoldable pub first : ℕ → List Float → List Float
first n x = tab n (λ i. x ! i)

-- the session that they hold
unfoldable pub session_of : Head → List Float → Session
session_of k figures = record {
  scheme = k.scheme;
  n = k.n;
  time = figures ! time_at;
  state = part figures state_at places;
  derivative = part figures derivative_at places;
  relative = figures ! relative_at;
  absolute = part figures absolute_at places;
  history = k.history;
  previous = part figures previous_at places;
  attempt = k.attempt;
  step = figures ! step_at;
  jacobian = part figures jacobian_at jacobian_room;
  count = k.count;
  answers = part figures answers_at answer_room;
}

abbrev pub head_of : Session → Head
head_of s = record { scheme = s.scheme; n = s.n; history = s.history; attempt = s.attempt; count = s.count }

-- a session's arrays, each with its size, in the order of their places
abbrev pub arrays : Session → List (ℕ × List Float)
arrays s =
    (places, s.absolute) ∷ (places, s.state) ∷ (places, s.derivative) ∷ (places, s.previous) ∷ (jacobian_room, s.jacobian) ∷ (answer_room, s.answers) ∷ []

-- arrays one behind the other
unfoldable pub behind : List (ℕ × List Float) → List Float
behind [] = []
behind ((n, x) ∷ more) = first n x ++ behind more

unfoldable pub figures_of : Session → List Float
figures_of s = (s.time ∷ s.step ∷ s.relative ∷ []) ++ behind (arrays s)
