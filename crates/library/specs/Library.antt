-- What a call for programs in other languages leaves in the slices that it is lent. Definitions only.
use Rattle.std.specs.Prelude.{ℕ, ◌≡◌, Bool, true, false, cond, ◌&&◌, List, [], ◌∷◌, eqb, Float, length, Result}
use Rattle.session.specs.Figures.{FIGURES}
use Rattle.session.specs.Old.{old_figures, old_session_of, brought_over}
use Rattle.image.specs.Image.{VECTOR, NUMBERS, WORDS, head_in, unpacked, packed_numbers, packed_figures}
use Rattle.session.specs.declared.Session.{Session}
use Rattle.session.specs.declared.Told.{Told}
use Rattle.session.specs.declared.Answer.{Answer}
use Rattle.session.specs.declared.Refusal.{Refusal}
use Rattle.session.specs.Values.{Values, values_of, is_refused}
use Rattle.session.specs.Calls.{Outcome}
use Rattle.session.specs.Bare.{Bare}

-- ---- the slices of a call

-- room for what is told: words and one figure
pub record Room : Type 0 where
  pub words : List ℕ
  pub told : List Float

abbrev pub room : List ℕ → List Float → Room
room words told = record { words = words; told = told }

-- a session's numbers and figures, and the room
pub record Slices : Type 0 where
  pub numbers : List ℕ
  pub figures : List Float
  pub reply : Room

abbrev pub slices : List ℕ → List Float → List ℕ → List Float → Slices
slices numbers figures words told = record { numbers = numbers; figures = figures; reply = room words told }

-- the session that they hold
abbrev pub session_in : Slices → Session
session_in l = unpacked l.numbers l.figures

-- whether the room has its lengths
unfoldable pub heard : Room → Bool
heard r = eqb (length r.words) WORDS && eqb (length r.told) 1

-- whether all four slices have
unfoldable pub fitting : Slices → Bool
fitting l = eqb (length l.numbers) NUMBERS && eqb (length l.figures) FIGURES && heard l.reply

-- whether four vectors have
unfoldable pub vectors : List Float → List Float → List Float → List Float → Bool
vectors w x y z = eqb (length w) VECTOR && eqb (length x) VECTOR && eqb (length y) VECTOR && eqb (length z) VECTOR

-- the same as facts
pub record Hears (r : Room) : Type 0 where
  pub words : length r.words ≡ WORDS
  pub told : length r.told ≡ 1

pub record Fits (l : Slices) : Type 0 where
  pub numbers : length l.numbers ≡ NUMBERS
  pub figures : length l.figures ≡ FIGURES
  pub reply : Hears l.reply

-- ---- what a call leaves

-- outcome, refusal, and the three counts
abbrev pub words_of : Values → List ℕ
words_of v = v.outcome ∷ v.refusal ∷ v.counts

-- the answer, in words and told
pub record Said (answer : Result Answer Refusal) (after : Room) : Type 0 where
  pub words : after.words ≡ words_of (values_of answer)
  pub told : after.told ≡ (values_of answer).figure ∷ []

-- an open: the answer and the session that it gives, that of a refused open too
pub record Opened (t : Told) (after : Slices) : Type 0 where
  pub numbers : after.numbers ≡ packed_numbers t.session
  pub figures : after.figures ≡ packed_figures t.session
  pub said : Said t.answer after.reply

-- a session of the old layout, brought over: the figures of today, and the session that they hold beside its numbers
pub record Brought (numbers : List ℕ) (old figures' : List Float) : Type 0 where
  pub figures : figures' ≡ packed_figures (brought_over (old_session_of (head_in numbers) old))
  pub session : unpacked numbers figures' ≡ brought_over (old_session_of (head_in numbers) old)

-- a session's call: numbers and figures as they came where it is refused, otherwise the session returned
pub record Back (t : Told) (before after : Slices) : Type 0 where
  pub numbers : after.numbers ≡ cond (is_refused t.answer) before.numbers (packed_numbers t.session)
  pub figures : after.figures ≡ cond (is_refused t.answer) before.figures (packed_figures t.session)
  pub said : Said t.answer after.reply

-- the same with an output lent
pub record BackLent (o : Outcome) (before after : Slices) (out' : List Float) : Type 0 where
  pub back : Back o.told before after
  pub out : out' ≡ o.out

-- a bare call with an output lent
pub record SaidLent (b : Bare) (after : Room) (out' : List Float) : Type 0 where
  pub said : Said b.answer after
  pub out : out' ≡ b.out

-- ---- the calls

-- where every length is right, the code is 0 and the call was made; otherwise it is 1 and nothing was touched
unfoldable pub Crossing : Bool → ℕ → Type 0 → Type 0 → Type 0
Crossing true code made untouched = (code ≡ 0) × made
Crossing false code made untouched = (code ≡ 1) × untouched

-- In each, `fits` says whether what is lent besides the slices has its length.

-- an open
abbrev pub Open : Bool → Told → ℕ → Slices → Slices → Type 0
Open fits t code before after = Crossing (fits && fitting before) code (Opened t after) (after ≡ before)

-- a bring-over
abbrev pub BringOver : ℕ → List ℕ → List Float → List Float → List Float → Type 0
BringOver code numbers old figures figures' =
    Crossing (eqb (length numbers) NUMBERS && (eqb (length old) old_figures && eqb (length figures) FIGURES)) code (Brought numbers old figures') (figures' ≡ figures)

-- a call on the session that the slices hold
abbrev pub Call : Bool → (Session → Told) → ℕ → Slices → Slices → Type 0
Call fits call code before after = Crossing (fits && fitting before) code (Back (call (session_in before)) before after) (after ≡ before)

-- the same with an output lent
abbrev pub CallLent : Bool → (Session → List Float → Outcome) → ℕ → Slices → Slices → List Float → List Float → Type 0
CallLent fits call code before after out out' =
    Crossing (fits && fitting before) code (BackLent (call (session_in before) out) before after out') ((after ≡ before) × (out' ≡ out))

-- a call that only tells
abbrev pub Ask : Bool → (Session → Result Answer Refusal) → ℕ → Slices → Room → Type 0
Ask fits call code before after = Crossing (fits && fitting before) code (Said (call (session_in before)) after) (after ≡ before.reply)

-- the bare error norm
abbrev pub Bared : Bool → Result Answer Refusal → ℕ → Room → Room → Type 0
Bared fits answer code before after = Crossing (fits && heard before) code (Said answer after) (after ≡ before)

-- a bare call with an output lent
abbrev pub BaredLent : (List Float → Bare) → ℕ → Room → Room → List Float → List Float → Type 0
BaredLent call code before after out out' = Crossing (heard before) code (SaidLent (call out) after out') ((after ≡ before) × (out' ≡ out))
