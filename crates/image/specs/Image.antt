-- A session's image: its head, as words, and the figures that it crosses to other programs as, and what is told of an answer. Definitions only.
use Rattle.std.specs.Prelude.{ℕ, ◌+◌, ◌≤◌, ◌<◌, ◌≡◌, cond, List, [], ◌∷◌, ltb, eqb, Float, length, get_or, Option, Some, None}
use Rattle.image.specs.declared.Reply.{Reply}
use Rattle.image.specs.declared.Outcome.{Outcome}
use Rattle.image.specs.declared.Outcome.TheVariants as outcome
use Rattle.session.specs.Values.{Values}
use Rattle.session.specs.declared.Session.{Session}
use Rattle.session.specs.declared.Head.{Head}
use Rattle.session.specs.declared.History.{History}
use Rattle.session.specs.declared.History.TheVariants.{Missing, Held}
use Rattle.evaluation.specs.Sizes.{places, answer_room}
use Rattle.session.specs.Session.{jacobian_room}
use Rattle.session.specs.Figures.{FIGURES, session_of, head_of, figures_of}
use Rattle.session.specs.Claims.{Typed}
use Rattle.session.specs.declared.Wish.{Wish}
use Rattle.session.specs.declared.Wish.TheVariants.{Given, Difference}

-- ---- how many there are, and where each number stands: behind the one before it. The code's constants have the same names, as N_AT for n_at. Where each
-- figure stands: session/specs/Figures.antt

-- places of a vector, of a Jacobian, of the 20 answers
abbrev pub VECTOR : ℕ
VECTOR = places

abbrev pub MATRIX : ℕ
MATRIX = jacobian_room

abbrev pub ANSWERS : ℕ
ANSWERS = answer_room

-- among the numbers
abbrev pub scheme_at : ℕ
scheme_at = 0

abbrev pub n_at : ℕ
n_at = scheme_at + 1

abbrev pub history_at : ℕ
history_at = n_at + 1

abbrev pub attempt_at : ℕ
attempt_at = history_at + 1

abbrev pub count_at : ℕ
count_at = attempt_at + 1

abbrev pub NUMBERS : ℕ
NUMBERS = count_at + 1

-- among the words of a reply
abbrev pub outcome_at : ℕ
outcome_at = 0

abbrev pub refusal_at : ℕ
refusal_at = outcome_at + 1

abbrev pub counts_at : ℕ
counts_at = refusal_at + 1

abbrev pub COUNTS : ℕ
COUNTS = 3

abbrev pub WORDS : ℕ
WORDS = counts_at + COUNTS

-- ---- enums as numbers: a number above the last counts as it

-- a scheme that no byte holds counts as 255
unfoldable pub scheme_of : ℕ → ℕ
scheme_of x = cond (ltb x 256) x 255

unfoldable pub history_of : ℕ → History
history_of x = cond (eqb x 0) Missing Held

unfoldable pub attempt_of : ℕ → Option Wish
attempt_of x = cond (eqb x 0) None (cond (eqb x 1) (Some Given) (Some Difference))

unfoldable pub wish_of : ℕ → Wish
wish_of x = cond (eqb x 0) Difference Given

abbrev pub history_number : History → ℕ
history_number Missing = 0
history_number Held = 1

abbrev pub attempt_number : Option Wish → ℕ
attempt_number None = 0
attempt_number (Some Given) = 1
attempt_number (Some Difference) = 2

-- ---- a session as words and figures

-- the head that words hold
unfoldable pub head_in : List ℕ → Head
head_in words = record {
  scheme = scheme_of (get_or words scheme_at 0);
  n = get_or words n_at 0;
  history = history_of (get_or words history_at 0);
  attempt = attempt_of (get_or words attempt_at 0);
  count = get_or words count_at 0;
}

-- the session that words and figures hold
abbrev pub unpacked : List ℕ → List Float → Session
unpacked words figures = session_of (head_in words) figures

-- a head as words
unfoldable pub packed : Head → List ℕ
packed k = k.scheme ∷ k.n ∷ history_number k.history ∷ attempt_number k.attempt ∷ k.count ∷ []

abbrev pub packed_numbers : Session → List ℕ
packed_numbers s = packed (head_of s)

abbrev pub packed_figures : Session → List Float
packed_figures s = figures_of s

-- ---- packing and unpacking are each other's inverse (proofs/Inverse.antt)

-- slices that hold a session: their lengths, and numbers that their fields can hold
pub record Holds (numbers' : List ℕ) (figures' : List Float) : Type 0 where
  pub numbers : length numbers' ≡ NUMBERS
  pub figures : length figures' ≡ FIGURES
  pub scheme : get_or numbers' scheme_at 0 < 256
  pub history : get_or numbers' history_at 0 ≤ 1
  pub attempt : get_or numbers' attempt_at 0 ≤ 2

pub record Inverse : Type 0 where
  pub unpack_pack : (s : Session) → Typed s → unpacked (packed_numbers s) (packed_figures s) ≡ s
  pub pack_unpack_numbers : (numbers : List ℕ) (figures : List Float) → Holds numbers figures → packed_numbers (unpacked numbers figures) ≡ numbers
  pub pack_unpack_figures : (numbers : List ℕ) (figures : List Float) → Holds numbers figures → packed_figures (unpacked numbers figures) ≡ figures

-- ---- what is told of an answer

-- an outcome's number
abbrev pub outcome_number : Outcome → ℕ
outcome_number outcome.Refused = 0
outcome_number outcome.Ask = 1
outcome_number outcome.Ready = 2
outcome_number outcome.Resting = 3
outcome_number outcome.FirstStep = 4
outcome_number outcome.Filled = 5
outcome_number outcome.Norm = 6

-- a reply's fields
abbrev pub fields : Reply → Values
fields r = record { outcome = outcome_number r.outcome; refusal = r.refusal; figure = r.figure; counts = r.counts }
