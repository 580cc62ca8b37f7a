-- What the length tests of a call show, and what its words say. Assumes nothing.
use denote.Enum.Bare.{sameb}
use Rattle.image.specs.contracts.Outcome.{the_type}
use Rattle.image.specs.declared.Outcome.{Outcome}
use Rattle.image.specs.declared.Outcome.TheVariants as outcome
use Rattle.std.proofs.Common.{◌≢◌, Option, Some, None, Bor, ◌≡◌, refl, sym, ap, ◌∙◌, Bool, true, false, cond, ◌&&◌, List}
use Rattle.std.proofs.Common.{[], ◌∷◌, eqb, Float, length, get_or, ℕ, eqb-true, eq-eqb}
use Rattle.std.specs.Option.{MatchOption}
use Rattle.std.specs.Array.{IsWholeChunk}
use Rattle.loops.specs.Loop.{tab, from}
use Rattle.session.specs.declared.Head.{Head}
use Rattle.session.specs.declared.Answer.{Answer}
use Rattle.session.specs.declared.Answer.TheVariants.{Ask, Ready, Resting, FirstStep, Filled, Norm}
use Rattle.std.specs.Prelude.{Result, Ok, Err}
use Rattle.session.specs.declared.Refusal.{Refusal}
use Rattle.session.specs.Values.{Values, values_of, figured}
use Rattle.session.specs.Figures.{FIGURES}
use Rattle.session.proofs.Inverse.{spelt}
use Rattle.image.specs.Image.{VECTOR, NUMBERS, WORDS, head_in, outcome_number}
use Rattle.library.specs.Library.{Room, Slices, heard, fitting, vectors, Hears, Fits, words_of}

-- ---- both halves of a test

pub and_left : (a b : Bool) → (a && b) ≡ true → a ≡ true
and_left true b e = refl
and_left false b e = e

pub and_right : (a b : Bool) → (a && b) ≡ true → b ≡ true
and_right true b e = e
and_right false b e = cc

-- ---- lengths that were tested

pub hears : (r : Room) → heard r ≡ true → Hears r
unfolding heard
hears r e =
    let words = eqb (length r.words) WORDS in
    let told = eqb (length r.told) 1 in
    record { words = eqb-true (length r.words) WORDS (and_left words told e); told = eqb-true (length r.told) 1 (and_right words told e) }

pub fits : (l : Slices) → fitting l ≡ true → Fits l
unfolding fitting
fits l e =
    let numbers = eqb (length l.numbers) NUMBERS in
    let figures = eqb (length l.figures) FIGURES in
    let both = and_left (numbers && figures) (heard l.reply) e in
    record {
      numbers = eqb-true (length l.numbers) NUMBERS (and_left numbers figures both);
      figures = eqb-true (length l.figures) FIGURES (and_right numbers figures both);
      reply = hears l.reply (and_right (numbers && figures) (heard l.reply) e);
    }

pub record Vectors (w x y z : List Float) : Type 0 where
  pub first : length w ≡ VECTOR
  pub second : length x ≡ VECTOR
  pub third : length y ≡ VECTOR
  pub fourth : length z ≡ VECTOR

pub four : (w x y z : List Float) → vectors w x y z ≡ true → Vectors w x y z
unfolding vectors
four w x y z e =
    let a = eqb (length w) VECTOR in
    let b = eqb (length x) VECTOR in
    let c = eqb (length y) VECTOR in
    let d = eqb (length z) VECTOR in
    let three = and_left (a && b && c) d e in
    let both = and_left (a && b) c three in
    record {
      first = eqb-true (length w) VECTOR (and_left a b both);
      second = eqb-true (length x) VECTOR (and_right a b both);
      third = eqb-true (length y) VECTOR (and_right (a && b) c three);
      fourth = eqb-true (length z) VECTOR (and_right (a && b && c) d e);
    }

-- what a call knows of the head that it is given: what is lent fits, and so do the slices that hold it
pub record Held (fits' : Bool) (l : Slices) (k : Head) : Type 0 where
  pub fits : fits' ≡ true
  pub slices : Fits l
  pub both : (fits' && fitting l) ≡ true
  pub head : k ≡ head_in l.numbers

pub held : (a : Bool) (l : Slices) (k : Head) → Some k ≡ cond (a && fitting l) (Some (head_in l.numbers)) None → Held a l k
held a l k e = go (a && fitting l) refl e
  where
    go : (b : Bool) → (a && fitting l) ≡ b → Some k ≡ cond b (Some (head_in l.numbers)) None → Held a l k
    go true both e =
        record { fits = and_left a (fitting l) both; slices = fits l (and_right a (fitting l) both); both = both; head = cc }
    go false both e = cc

-- where it is given none, something does not fit
pub not_held : (a : Bool) (l : Slices) (r : Option Head) → r ≡ cond (a && fitting l) (Some (head_in l.numbers)) None → ((k : Head) → r ≡ Some k → ⊥) → (a && fitting l) ≡ false
not_held a l r e none = go (a && fitting l) e
  where
    go : (b : Bool) → r ≡ cond b (Some (head_in l.numbers)) None → b ≡ false
    go true e = absurd (none (head_in l.numbers) e)
    go false e = refl

-- what the tests of an open show: the slices fit
pub tested : (a : Bool) {b : Bool} (l : Slices) → b ≡ fitting l → (a && b) ≡ true → Fits l
tested a l f h = fits l (sym f ∙ and_right a _ h)

pub right_three : (a m : ℕ) (b c : Bool) → a ≡ m → (b && c) ≡ true → (eqb a m && b && c) ≡ true
right_three a m b c e f = rw (eq-eqb a m e) f

pub right_five : (a b c d e m n : ℕ) → a ≡ m → b ≡ n → c ≡ n → d ≡ n → e ≡ n → (eqb a m && eqb b n && eqb c n && eqb d n && eqb e n) ≡ true
right_five a b c d e m n o p q r s = rw (eq-eqb a m o, eq-eqb b n p, eq-eqb c n q, eq-eqb d n r, eq-eqb e n s)

-- what is lent as an array is what was lent
pub whole : {A : Type 0} (x : List A) (n : ℕ) {r : Option (Bor (List A))} (y : Bor (List A)) → MatchOption r (length x ≢ n) (λ y. IsWholeChunk x y.now n) → r ≡ Some y → y.now ≡ x
whole x n y h e = (rw e at h).same

-- ---- what is told, in words

-- three counts of every answer
pub counts_three : (a : Result Answer Refusal) → length (values_of a).counts ≡ 3
unfolding values_of figured
counts_three (Ok (Ask place time)) = refl
counts_three (Ok (Ready norm rhs jacobians products)) = refl
counts_three (Ok Resting) = refl
counts_three (Ok (FirstStep step)) = refl
counts_three (Ok (Filled terms squarings)) = refl
counts_three (Ok (Norm norm)) = refl
counts_three (Err why) = refl

-- the words that are stored
pub said_words : (outcome : ℕ) (v : Values) → outcome ≡ v.outcome → length v.counts ≡ 3
    → outcome ∷ v.refusal ∷ get_or v.counts 0 0 ∷ get_or v.counts 1 0 ∷ get_or v.counts 2 0 ∷ [] ≡ words_of v
unfolding tab from
said_words outcome v e k = rw e (ap (λ z. v.outcome ∷ v.refusal ∷ z) (sym (spelt 0 3 v.counts k)))

-- outcome 0 is a refusal
pub refused_number : (o : Outcome) → sameb the_type o outcome.Refused ≡ eqb (outcome_number o) 0
refused_number outcome.Refused = refl
refused_number outcome.Ask = refl
refused_number outcome.Ready = refl
refused_number outcome.Resting = refl
refused_number outcome.FirstStep = refl
refused_number outcome.Filled = refl
refused_number outcome.Norm = refl
