-- Laws of tests in their order, and of what a refusal does to a call. Assumes nothing.
use Rattle.std.proofs.Common.{ℕ, ◌≡◌, refl, sym, ap, ◌∙◌, subst, Bool, true, false, cond, not, true≢false, [], ◌∷◌, ◌++◌, inl, inr, arith, eqb}
use Rattle.std.proofs.Math.Bool.{false≢true}
use Rattle.std.specs.Prelude.{Result, Ok, Err, ⊤}
use Rattle.std.specs.Result.{IsErrAnd}
use Rattle.std.proofs.lemmas.Result.{err_from_is_err_and}
use Rattle.session.specs.declared.Refusal.{Refusal}
use Rattle.session.specs.declared.Refusal.TheVariants as Why
use Rattle.session.specs.Tests.{Tests, refusal_number, tested, condition, unless}
use Rattle.session.specs.Refusals.{First}

-- no refusal has the number 0
pub some_number : {A : Type 0} (refusal : Refusal) → refusal_number refusal ≡ 0 → A
some_number Why.Places e = absurd (omega (arith, e))
some_number Why.Scheme e = absurd (omega (arith, e))
some_number Why.NotFinite e = absurd (omega (arith, e))
some_number Why.Tolerance e = absurd (omega (arith, e))
some_number Why.Step e = absurd (omega (arith, e))
some_number Why.Arithmetic e = absurd (omega (arith, e))
some_number Why.Phase e = absurd (omega (arith, e))
some_number Why.Table e = absurd (omega (arith, e))
some_number Why.Question e = absurd (omega (arith, e))

-- ---- a row that fails gives its refusal; one that holds leaves it to the rows after it

pub stops : {b holds : Bool} (why : Refusal) (tests : Tests) → b ≡ holds → not b ≡ true → Err why ≡ tested ((holds, why) ∷ tests)
unfolding tested
stops {b = true} why tests e h = absurd (false≢true h)
stops {b = false} why tests e h = rw (← e)

pub holds_on : {b holds : Bool} {m : Result ⊤ Refusal} (why : Refusal) (tests : Tests) → b ≡ holds → not b ≡ false → m ≡ tested tests → m ≡ tested ((holds, why) ∷ tests)
unfolding tested
holds_on {b = true} why tests e h f = rw (← e) f
holds_on {b = false} why tests e h f = absurd (true≢false h)

pub all_hold : Ok tt ≡ tested []
unfolding tested
all_hold = refl

-- ---- where nothing is refused every row's condition holds

passed : (b : Bool) (why : Refusal) (x : Result ⊤ Refusal) → cond b x (Err why) ≡ Ok tt → (b ≡ true) × (x ≡ Ok tt)
passed true why x e = (refl, e)
passed false why x e = cc

either : (z b c : Bool) → b ≡ true → c ≡ true → cond z b c ≡ true
either true b c p q = p
either false b c p q = q

pub passes : (tests : Tests) → tested tests ≡ Ok tt → (why : Refusal) → condition why tests ≡ true
unfolding tested condition
passes [] e why = refl
passes ((b, refusal) ∷ tests) e why =
    let q = passed b refusal (tested tests) e in
    either (eqb (refusal_number refusal) (refusal_number why)) b (condition why tests) q.0 (passes tests q.1 why)

-- ---- tests after tests

pub tested-append : (a b : Tests) → tested (a ++ b) ≡ unless (tested a) Err (tested b)
unfolding tested unless
tested-append [] b = refl
tested-append ((true, why) ∷ a) b = tested-append a b
tested-append ((false, why) ∷ a) b = refl

unless-passed : (k m : Result ⊤ Refusal) → unless k Err m ≡ Ok tt → (k ≡ Ok tt) × (m ≡ Ok tt)
unfolding unless
unless-passed (Ok passed) m e = (refl, e)
unless-passed (Err why) m e = cc

pub both_pass : (a b : Tests) → tested (a ++ b) ≡ Ok tt → (tested a ≡ Ok tt) × (tested b ≡ Ok tt)
both_pass a b e = unless-passed (tested a) (tested b) (sym (tested-append a b) ∙ e)

-- ---- refused, or not: what holds of every refusal, and of what follows where there is none

pub unless_either : {A : Type 0} (k : Result ⊤ Refusal) (refuse : Refusal → A) (next : A) (P : A → Type 0)
    → ((why : Refusal) → P (refuse why)) → (k ≡ Ok tt → P next) → P (unless k refuse next)
unless_either {A} k refuse next P f g = go k g
  where
    go : (j : Result ⊤ Refusal) → (j ≡ Ok tt → P next) → P (unless j refuse next)
    go (Ok passed) g = unfold unless in g refl
    go (Err why) g = unfold unless in f why

-- what a `?` passes on
pub passed_on : {A E : Type 0} (r : Result A E) (e : E) → IsErrAnd r (λ x. x ≡ e) → r ≡ Err e
passed_on r e h = let p = err_from_is_err_and r h in p.1 ∙ ap Err p.2

-- ---- the number that is given

-- of a verdict
pub verdict_number : Result ⊤ Refusal → ℕ
verdict_number (Ok passed) = 0
verdict_number (Err why) = refusal_number why

pub first_of : (tests : Tests) → First tests (verdict_number (tested tests))
unfolding First tested verdict_number
first_of [] = refl
first_of ((true, k) ∷ tests) = inr (refl, first_of tests)
first_of ((false, k) ∷ tests) = inl (refl, refl)

first_then : (a b : Tests) (m : ℕ) → (tested a ≡ Ok tt → First b m) → First (a ++ b) (unless (tested a) refusal_number m)
unfolding First tested unless
first_then [] b m f = f refl
first_then ((true, why) ∷ a) b m f = inr (refl, first_then a b m f)
first_then ((false, why) ∷ a) b m f = inl (refl, refl)

-- the tests of a call, and where they hold what its result is refused by: `of` reads the number off a result
pub call_first : {A : Type 0} (of : A → ℕ) (tests last : Tests) (refuse : Refusal → A) (next : A) → ((why : Refusal) → of (refuse why) ≡ refusal_number why)
    → (tested tests ≡ Ok tt → First last (of next)) → First (tests ++ last) (of (unless (tested tests) refuse next))
call_first of tests last refuse next r f = subst (First (tests ++ last)) (sym (numbers (tested tests))) (first_then tests last (of next) f)
  where
    numbers : (k : Result ⊤ Refusal) → of (unless k refuse next) ≡ unless k refusal_number (of next)
    numbers (Ok passed) = unfold unless in refl
    numbers (Err why) = unfold unless in r why
