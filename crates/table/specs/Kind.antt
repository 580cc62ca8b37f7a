-- The numbers of the kinds of records. Definitions only.
use Rattle.std.specs.Prelude.{ℕ}
use Rattle.table.specs.declared.kind.Kind.{Kind}
use Rattle.table.specs.declared.kind.Kind.TheVariants.{Constant, Linear, Product, Timed}

-- the number of a kind: byte 1 of its record
abbrev pub kind_number : Kind → ℕ
kind_number Constant = 0
kind_number Linear = 1
kind_number Product = 2
kind_number Timed = 3
