-- Tests in their order, a row for each refusal, and what a refusal does to a call. Definitions only.
use Rattle.std.specs.Prelude.{ℕ, Bool, true, cond, List, [], ◌∷◌, eqb, Result, Ok, Err, ⊤}
use Rattle.session.specs.declared.Refusal.{Refusal}
use Rattle.session.specs.declared.Refusal.TheVariants as Why

-- its number in the table of refusals
abbrev pub refusal_number : Refusal → ℕ
refusal_number Why.Places = 1
refusal_number Why.Scheme = 2
refusal_number Why.NotFinite = 3
refusal_number Why.Tolerance = 4
refusal_number Why.Step = 5
refusal_number Why.Arithmetic = 6
refusal_number Why.Phase = 7
refusal_number Why.Table = 8
refusal_number Why.Question = 9

-- a row: a condition, and the refusal that is given where it is the first to fail
abbrev pub Tests : Type 0
Tests = List (Bool × Refusal)

-- refused by the first test that fails, if one does
unfoldable pub tested : Tests → Result ⊤ Refusal
tested [] = Ok tt
tested ((holds, refusal) ∷ tests) = cond holds (tested tests) (Err refusal)

-- the condition of the row with this refusal
unfoldable pub condition : Refusal → Tests → Bool
condition why [] = true
condition why ((holds, refusal) ∷ tests) = cond (eqb (refusal_number refusal) (refusal_number why)) holds (condition why tests)

-- refused; otherwise what follows
unfoldable pub unless : {A : Type 0} → Result ⊤ Refusal → (Refusal → A) → A → A
unless (Ok passed) refuse next = next
unless (Err refusal) refuse next = refuse refusal
