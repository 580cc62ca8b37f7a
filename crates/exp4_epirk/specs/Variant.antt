-- Which of epirk5p's two variants it is. Definitions only.
use Rattle.std.specs.Prelude.{Bool, true, false}
use Rattle.exp4_epirk.specs.declared.Variant.{Variant}
use Rattle.exp4_epirk.specs.declared.Variant.TheVariants.{P1, P2}

-- whether it is the second
abbrev pub is_second : Variant → Bool
is_second P1 = false
is_second P2 = true
