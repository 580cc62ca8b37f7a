-- evaluation.rs: the test that an evaluated right-hand side passes. Definitions only.
use Rattle.std.specs.Prelude.{Bool, List, Float, length}
use Rattle.loops.specs.Loop.{every, ◌!◌}
use Rattle.float.specs.Arith.{finite}

-- every entry is finite
unfoldable pub all_finite : List Float → Bool
all_finite x = every (length x) (λ p. finite (x ! p))
