-- The sonde's equations as a table of 16-byte records: a record's fields, when a table is well-formed, and the derivative that it gives. Definitions only.
use Rattle.std.specs.Prelude.{ℕ, ◌+◌, ◌*◌, ◌/◌, ◌%◌, Bool, false, cond, not, ◌&&◌, List, ltb, leb, eqb, Float, length}
use Rattle.std.specs.Float.{binary64}
use Rattle.std.specs.Float.Ieee.{of_bits}
use Rattle.loops.specs.Loop.{iter, every, ◌!◌}
use Rattle.float.specs.Arith.{◌⊕◌, ◌⊗◌, zero+, finite}
use Rattle.matrix.specs.Vector.{vec}
use Rattle.wire.specs.Wire.{byte_at, word64}

-- ---- sizes; the code has each as a const of the same value

-- the bytes of a record: RECORD
abbrev pub record_bytes : ℕ
record_bytes = 16

-- the most records that a table holds: RECORDS
abbrev pub most_records : ℕ
most_records = 256

-- ---- a record's fields

-- byte i of record r
abbrev pub field : List ℕ → ℕ → ℕ → ℕ
field t r i = byte_at t (record_bytes * r + i)

-- byte 0: the component that it adds to
unfoldable pub target : List ℕ → ℕ → ℕ
target t r = field t r 0

-- byte 1: 0 constant c, 1 c·u_j, 2 (c·u_j)·u_k, 3 (c·u_j)·time
unfoldable pub kind : List ℕ → ℕ → ℕ
kind t r = field t r 1

-- byte 2: j
unfoldable pub first : List ℕ → ℕ → ℕ
first t r = field t r 2

-- byte 3: k
unfoldable pub second : List ℕ → ℕ → ℕ
second t r = field t r 3

-- bytes 8 to 15: c, a little-endian double
unfoldable pub coefficient : List ℕ → ℕ → Float
coefficient t r = of_bits binary64 (word64 t (record_bytes * r + 8))

-- every kind but the constant has j
abbrev pub has_first : ℕ → Bool
has_first kind = not (eqb kind 0)

-- only the product of two components has k
abbrev pub has_second : ℕ → Bool
has_second kind = eqb kind 2

-- ---- when a table is well-formed: 8 is given where one of these rules is broken

-- how many whole records there are
unfoldable pub records : List ℕ → ℕ
records t = length t / record_bytes

-- the length is a multiple of 16, and there are at most 256 records
unfoldable pub length_ok : List ℕ → Bool
length_ok t = eqb (length t % record_bytes) 0 && leb (records t) most_records

-- the target is below n
unfoldable pub target_ok : ℕ → List ℕ → ℕ → Bool
target_ok n t r = ltb (target t r) n

-- there are four kinds
unfoldable pub kind_ok : List ℕ → ℕ → Bool
kind_ok t r = ltb (kind t r) 4

-- a component that the kind has is below n; one that it has not is zero
unfoldable pub index_ok : Bool → ℕ → ℕ → Bool
index_ok has n i = cond has (ltb i n) (eqb i 0)

-- j
unfoldable pub first_ok : ℕ → List ℕ → ℕ → Bool
first_ok n t r = index_ok (has_first (kind t r)) n (first t r)

-- k
unfoldable pub second_ok : ℕ → List ℕ → ℕ → Bool
second_ok n t r = index_ok (has_second (kind t r)) n (second t r)

-- bytes 4 to 7 are zero
unfoldable pub blank_ok : List ℕ → ℕ → Bool
blank_ok t r = every 4 (λ i. eqb (field t r (4 + i)) 0)

-- c is finite
unfoldable pub coefficient_ok : List ℕ → ℕ → Bool
coefficient_ok t r = finite (coefficient t r)

-- all the rules of a record
unfoldable pub record_ok : ℕ → List ℕ → ℕ → Bool
record_ok n t r = target_ok n t r && kind_ok t r && first_ok n t r && second_ok n t r && blank_ok t r && coefficient_ok t r

-- all those of a table
unfoldable pub table_ok : ℕ → List ℕ → Bool
table_ok n t = cond (length_ok t) (every (records t) (record_ok n t)) false

-- ---- the derivative

-- by kind, the products associated as they are written
unfoldable pub product : ℕ → Float → Float → Float → Float → Float
product kind c uj uk time = cond (eqb kind 0) c (cond (eqb kind 1) (c ⊗ uj) (cond (eqb kind 2) ((c ⊗ uj) ⊗ uk) ((c ⊗ uj) ⊗ time)))

-- what record r adds, at a time and a state
unfoldable pub value : List ℕ → Float → List Float → ℕ → Float
value t time u r = product (kind t r) (coefficient t r) (u ! first t r) (u ! second t r) time

-- component i over the first m records: those with this target, summed in record order from +0.0
unfoldable pub summed : List ℕ → Float → List Float → ℕ → ℕ → Float
summed t time u i m = iter m (λ r sum. cond (eqb (target t r) i) (sum ⊕ value t time u r) sum) zero+

-- all n components
unfoldable pub derivative : ℕ → List ℕ → Float → List Float → List Float
derivative n t time u = vec n (λ i. summed t time u i (records t))
