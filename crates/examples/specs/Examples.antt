-- The proved examples, those of the table of refusals, and tolerances of their own, as one statement over the calls. Definitions only:
-- proofs/Examples.antt evaluates each line.
use Rattle.std.specs.Prelude.{ℕ, ◌≡◌, List, [], ◌∷◌, Float, replicate, Ok, Err}
use Rattle.std.specs.Float.{nan, binary64}
use Rattle.std.specs.Float.Ieee.{of_bits}
use Rattle.loops.specs.Loop.{mat, ◌!◌}
use Rattle.float.specs.Arith.{◌⊗◌, zero+}
use Rattle.matrix.specs.Matrix.{norm, exponential}
use Rattle.methods.specs.Numbers.{num, minus, decimal}
use Rattle.methods.specs.Sizes.{etd2_number, exprb32_number}
use Rattle.engine.specs.Engine.{jacobian_entry}
use Rattle.session.specs.declared.Session.{Session}
use Rattle.session.specs.declared.Told.{Told}
use Rattle.session.specs.declared.Answer.TheVariants.{Ask, Ready, FirstStep, Filled, Norm}
use Rattle.session.specs.declared.Refusal.TheVariants as Why
use Rattle.session.specs.declared.History.{History}
use Rattle.session.specs.declared.History.TheVariants.{Missing, Held}
use Rattle.session.specs.declared.Wish.TheVariants.{Given, Difference}
use Rattle.session.specs.Session.{Run}
use Rattle.session.specs.Calls.{Outcome, open_call, begin_call, supply_call, first_step_call}
use Rattle.session.specs.Bare.{exponential_call, phi_call, norm_call}

-- ---- what the lines are about: n = 1, time 0, both tolerances 1

-- a vector with the entry x, and an output of one place that is lent
unfoldable pub only : Float → List Float
only x = x ∷ replicate 15 zero+

unfoldable pub lent : List Float
lent = zero+ ∷ []

-- a run at u with the derivative f0, of a scheme, a dimension and a relative tolerance, with a history or without
unfoldable pub running : ℕ → ℕ → Float → Float → Float → History → List Float → Run
running scheme n relative u f0 history previous = record {
  scheme = scheme;
  n = n;
  time = zero+;
  state = only u;
  derivative = only f0;
  relative = relative;
  absolute = only (num 1);
  history = history;
  previous = previous;
}

-- a scheme opened at u with the derivative f0, with and without a history
unfoldable pub resting : ℕ → Float → Float → Told
resting scheme u f0 = open_call (running scheme 1 (num 1) u f0 Missing (replicate 16 zero+))

unfoldable pub remembering : ℕ → Float → Float → Float → Told
remembering scheme u f0 previous = open_call (running scheme 1 (num 1) u f0 Held (only previous))

-- a vector with the entries x and y
unfoldable pub pair : Float → Float → List Float
pair x y = x ∷ y ∷ replicate 14 zero+

-- NorsettEuler opened with n = 2 at (1, 1), where the derivative is (2, 8), with the relative tolerance 1 and these absolute ones
unfoldable pub tolerating : List Float → Told
tolerating absolute =
    open_call (record {
      scheme = 1;
      n = 2;
      time = zero+;
      state = pair (num 1) (num 1);
      derivative = pair (num 2) (num 8);
      relative = num 1;
      absolute = absolute;
      history = Missing;
      previous = replicate 16 zero+;
    })

-- then a step h begun with the Jacobian [j]
unfoldable pub begins : Told → Float → Float → Outcome
begins opened j h = begin_call opened.session h Given (j ∷ replicate 255 zero+) lent

-- then the derivative f supplied, to the first question
unfoldable pub supplies : Outcome → Float → Outcome
supplies begun f = supply_call begun.told.session 0 (only f) lent

-- no question is asked: the step is ready at once, its candidate is x, and its exponentials took so many matrix products
unfoldable pub Gives : Outcome → Float → ℕ → Type 0
Gives r x products = (r.told.answer ≡ Ok (Ready zero+ 0 1 products)) × (r.out ≡ x ∷ [])

-- the numbers of the schemes
abbrev pub LawsonEuler : ℕ
LawsonEuler = 0

abbrev pub NorsettEuler : ℕ
NorsettEuler = 1

abbrev pub Etd2 : ℕ
Etd2 = etd2_number

abbrev pub Exprb32 : ℕ
Exprb32 = exprb32_number

-- the matrix whose one entry has the bits b; the entry is its norm, and its exponential is squared s times
unfoldable pub single : ℕ → List Float
single b = of_bits binary64 b ∷ []

unfoldable pub Squares : ℕ → ℕ → Type 0
Squares b s = (norm (single b) 1 ≡ of_bits binary64 b) × ((exponential (single b) 1).squarings ≡ s)

-- Differencing 4·u at 1: the question, the answer 4 times what was asked, and the session that then is ready
unfoldable pub asked : Outcome
asked = begin_call (resting NorsettEuler (num 1) (num 4)).session (num 1) Difference (replicate 256 zero+) lent

unfoldable pub differenced : Outcome
differenced = supplies asked (num 4 ⊗ asked.out ! 0)

-- its Jacobian
unfoldable pub jacobian_of : Session → List Float
jacobian_of s = mat 1 (jacobian_entry s.state s.derivative s.answers)

-- ---- THE STATEMENT: J = [0], u = 1, f0 = 2, h = 1 unless said
pub record Examples : Type 0 where
  -- 'NorsettEuler 3'
  pub norsett_euler : Gives (begins (resting NorsettEuler (num 1) (num 2)) zero+ (num 1)) (num 3) 4
  -- 'with h = 0.5, 2'
  pub norsett_euler-half : Gives (begins (resting NorsettEuler (num 1) (num 2)) zero+ (decimal 5 1)) (num 2) 4
  -- 'with u and f0 negated, −3'
  pub norsett_euler_negated : Gives (begins (resting NorsettEuler (minus 1) (minus 2)) zero+ (num 1)) (minus 3) 4
  -- 'LawsonEuler 3'
  pub lawson_euler : Gives (begins (resting LawsonEuler (num 1) (num 2)) zero+ (num 1)) (num 3) 1
  -- 'Etd2 without history 3'
  pub etd2 : Gives (begins (resting Etd2 (num 1) (num 2)) zero+ (num 1)) (num 3) 5
  -- 'with history 1, 3.5'
  pub etd2_history : Gives (begins (remembering Etd2 (num 1) (num 2) (num 1)) zero+ (num 1)) (decimal 35 1) 14
  -- 'Exprb32 with derivative 2 supplied: error norm 0': one question, at time 1
  pub exprb32_asks : (begins (resting Exprb32 (num 1) (num 2)) zero+ (num 1)).told.answer ≡ Ok (Ask 0 (num 1))
  pub exprb32 : (supplies (begins (resting Exprb32 (num 1) (num 2)) zero+ (num 1)) (num 2)).told.answer ≡ Ok (Ready zero+ 1 1 16)
  -- 's for norm 0.5 is 0'
  pub s_half : Squares 0x3fe0_0000_0000_0000 0
  -- 'just above 0.5, 1'
  pub s_above_half : Squares 0x3fe0_0000_0000_0001 1
  -- '1, 1'
  pub s_one : Squares 0x3ff0_0000_0000_0000 1
  -- 'just above 8, 5'
  pub s_above_8 : Squares 0x4020_0000_0000_0001 5
  -- '2^31, 32'
  pub s_top : Squares 0x41e0_0000_0000_0000 32
  -- 'Just above 2^31 is refused by 6'
  pub s_above_top : (exponential_call 1 (single 0x41e0_0000_0000_0001) lent).answer ≡ Err Why.Arithmetic
  -- 'Differencing 4·u at 1 gives 4'
  pub differencing_asks : asked.told.answer ≡ Ok (Ask 0 zero+)
  pub differencing_ready : differenced.told.answer ≡ Ok (Ready zero+ 1 1 16)
  pub differencing : jacobian_of differenced.told.session ≡ num 4 ∷ []
  -- 'Bare error norm, n = 1, error −3, state and candidate 0, both tolerances 1: 3'
  pub error_norm : norm_call 1 (num 1) (only (num 1)) (only (minus 3)) (only zero+) (only zero+) ≡ Ok (Norm (num 3))
  -- 'First step: tolerances 1 and 1, largest 0.005, gives 0.005'
  pub first_step : (first_step_call (resting NorsettEuler (num 1) (num 2)).session (decimal 5 3)).answer ≡ Ok (FirstStep (decimal 5 3))
  -- the table's 'open with n = 17'
  pub refused_1 : (open_call (running NorsettEuler 17 (num 1) (num 1) (num 2) Missing (replicate 16 zero+))).answer ≡ Err Why.Places
  -- 'scheme 16'
  pub refused_2 : (resting 16 (num 1) (num 2)).answer ≡ Err Why.Scheme
  -- 'supply with a NaN'
  pub refused_3 : (supplies (begins (resting Exprb32 (num 1) (num 2)) zero+ (num 1)) nan).told.answer ≡ Err Why.NotFinite
  -- 'relative tolerance 0'
  pub refused_4 : (open_call (running NorsettEuler 1 zero+ (num 1) (num 2) Missing (replicate 16 zero+))).answer ≡ Err Why.Tolerance
  -- 'step 0'
  pub refused_5 : (begins (resting NorsettEuler (num 1) (num 2)) zero+ zero+).told.answer ≡ Err Why.Step
  -- 'n = 1, J = [2^40], step 1'
  pub refused_6 : (begins (resting NorsettEuler (num 1) (num 2)) (of_bits binary64 0x4270_0000_0000_0000) (num 1)).told.answer ≡ Err Why.Arithmetic
  -- 'supply to a resting session'
  pub refused_7 : (supply_call (resting NorsettEuler (num 1) (num 2)).session 0 (only (num 2)) lent).told.answer ≡ Err Why.Phase

-- ---- each component has its own tolerance
pub record OwnTolerances : Type 0 where
  -- the tolerances 1 and 2 divide the errors 1 and 14 into 1 and 7, so the norm is 5
  pub error_norm : norm_call 2 (num 1) (pair (num 1) (num 2)) (pair (num 1) (num 14)) (pair zero+ zero+) (pair zero+ zero+) ≡ Ok (Norm (num 5))
  -- with 1 and 7 both rates are 1, 2/(1 + 1) and 8/(7 + 1), which suggests 0.01; with 1 for both it would be 0.0025
  pub first_step : (first_step_call (tolerating (pair (num 1) (num 7))).session (decimal 5 3)).answer ≡ Ok (FirstStep (decimal 5 3))
  -- a tolerance past n
  pub refused_1 : (tolerating (replicate 16 (num 1))).answer ≡ Err Why.Places
  -- the second of two is not positive
  pub refused_4 : (tolerating (pair (num 1) zero+)).answer ≡ Err Why.Tolerance

-- ---- the exponential tells how far it went
pub record Reaches : Type 0 where
  -- the zero matrix: its first term is added and found small; the identity is no term
  pub zero : (exponential_call 1 (single 0) lent).answer ≡ Ok (Filled 1 0)
  -- [0.5] takes 15 terms, the most that there are
  pub half : (exponential_call 1 (single 0x3fe0_0000_0000_0000) lent).answer ≡ Ok (Filled 15 0)
  -- [1] is halved, and squared once
  pub one : (exponential_call 1 (single 0x3ff0_0000_0000_0000) lent).answer ≡ Ok (Filled 15 1)
  -- phi_1 of 2 at J = [0]: a matrix whose square is zero, divided by 4
  pub phi_action : (phi_call 1 1 (num 1) (zero+ ∷ []) (num 2 ∷ []) lent).answer ≡ Ok (Filled 2 2)

-- ---- questions carry a number

-- Exprb32 with its Jacobian differenced: the column's question, and after its answer 2 the scheme's own
unfoldable pub column : Outcome
column = begin_call (resting Exprb32 (num 1) (num 2)).session (num 1) Difference (replicate 256 zero+) lent

unfoldable pub own : Outcome
own = supplies column (num 2)

-- what an answer 2 to the question at a place comes to
unfoldable pub answering : Outcome → ℕ → Outcome
answering o place = supply_call o.told.session place (only (num 2)) lent

pub record Places : Type 0 where
  pub first : column.told.answer ≡ Ok (Ask 0 zero+)
  pub second : own.told.answer ≡ Ok (Ask 1 (num 1))
  -- early: the second question is not asked yet
  pub early : (answering column 1).told.answer ≡ Err Why.Question
  -- late, a duplicate of the first answer: the second question is open
  pub late : (answering own 0).told.answer ≡ Err Why.Question
  -- the open one's is taken; a duplicate of that, the last, finds nothing asked
  pub taken : (answering own 1).told.answer ≡ Ok (Ready zero+ 2 1 16)
  pub over : (answering (answering own 1) 1).told.answer ≡ Err Why.Phase
