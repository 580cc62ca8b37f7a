-- The numbers of schemes that are named. The code has each as a const of the same value. Definitions only.
use Rattle.std.specs.Prelude.{ℕ}

-- ETD2, the scheme that remembers
abbrev pub etd2_number : ℕ
etd2_number = 13

-- EXPRB32 and EXPRB43, the schemes with an error vector
abbrev pub exprb32_number : ℕ
exprb32_number = 14

abbrev pub exprb43_number : ℕ
exprb43_number = 15
