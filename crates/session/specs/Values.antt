-- The number and values of each answer and refusal. Definitions only.
use Rattle.std.specs.Prelude.{ℕ, Bool, List, [], ◌∷◌, eqb, Float, Result, Ok, Err}
use Rattle.float.specs.Arith.{zero+}
use Rattle.session.specs.declared.Answer.{Answer}
use Rattle.session.specs.declared.Answer.TheVariants.{Ask, Ready, Resting, FirstStep, Filled, Norm}
use Rattle.session.specs.declared.Refusal.{Refusal}
use Rattle.session.specs.Tests.{refusal_number}

-- the outcome's number, the refusal's (0 for none), the figure, and three counts
pub record Values : Type 0 where
  pub outcome : ℕ
  pub refusal : ℕ
  pub figure : Float
  pub counts : List ℕ

-- an outcome that carries no count
abbrev pub uncounted : List ℕ
uncounted = 0 ∷ 0 ∷ 0 ∷ []

-- an outcome that carries a figure at the most
unfoldable pub figured : ℕ → Float → Values
figured outcome figure = record { outcome = outcome; refusal = 0; figure = figure; counts = uncounted }

-- Ask's first count is its place; Ready's counts are right-hand sides, Jacobians and matrix products; Filled's are terms and squarings
unfoldable pub values_of : Result Answer Refusal → Values
values_of (Ok (Ask place time)) = record { outcome = 1; refusal = 0; figure = time; counts = place ∷ 0 ∷ 0 ∷ [] }
values_of (Ok (Ready norm rhs jacobians products)) = record { outcome = 2; refusal = 0; figure = norm; counts = rhs ∷ jacobians ∷ products ∷ [] }
values_of (Ok Resting) = figured 3 zero+
values_of (Ok (FirstStep step)) = figured 4 step
values_of (Ok (Filled terms squarings)) = record { outcome = 5; refusal = 0; figure = zero+; counts = terms ∷ squarings ∷ 0 ∷ [] }
values_of (Ok (Norm norm)) = figured 6 norm
values_of (Err refusal) = record { outcome = 0; refusal = refusal_number refusal; figure = zero+; counts = uncounted }

-- the refusal's number: 0 for none
unfoldable pub number : Result Answer Refusal → ℕ
number answer = (values_of answer).refusal

-- outcome 0 is a refusal
unfoldable pub is_refused : Result Answer Refusal → Bool
is_refused answer = eqb (values_of answer).outcome 0
