-- What is claimed of the first step and of equal tolerances. Definitions only.
use Rattle.std.specs.Prelude.{ℕ, ◌<◌, ◌≡◌, true, false, List, Float}
use Rattle.std.specs.Float.Ieee.{is_nan, le}
use Rattle.loops.specs.Loop.{◌!◌}
use Rattle.float.specs.Arith.{epsilon}
use Rattle.engine.specs.Engine.{scaled_error_norm, error_norm, estimate_initial_step, first_step}

-- h is a number from 2 ^ -52 up to the largest step
pub record Between (largest h : Float) : Type 0 where
  pub number : is_nan h ≡ false
  pub least : le epsilon h ≡ true
  pub most : le h largest ≡ true

-- Whatever the tolerances, the state and the derivative are, infinite or NaN too: a largest step of at least 2 ^ -52, +infinity too, bounds the first step.
abbrev pub FirstStepBetween : Type 0
FirstStepBetween =
    (n : ℕ) (relative : Float) (absolute state derivative : List Float) (largest : Float)
    → le epsilon largest ≡ true
    → Between largest (first_step n relative absolute state derivative largest)

-- the first n tolerances are all the same one
abbrev pub Equal : ℕ → Float → List Float → Type 0
Equal n one absolute = (i : ℕ) → i < n → absolute ! i ≡ one

-- Equal tolerances give the bits of before: n equal ones give the Rust's figures, for every input, infinite or NaN too.
pub record EqualTolerances : Type 0 where
  pub norm : (n : ℕ) (relative one : Float) (absolute : List Float) → Equal n one absolute
      → (state candidate error : List Float)
      → error_norm n relative absolute state candidate error ≡ scaled_error_norm n relative one state candidate error
  pub first : (n : ℕ) (relative one : Float) (absolute : List Float) → Equal n one absolute
      → (state derivative : List Float) (largest : Float)
      → first_step n relative absolute state derivative largest ≡ estimate_initial_step n relative one state derivative largest
