-- Flipping signs in a table of equations: with each coefficient flipped to suit it gives, at the flipped state, the flipped derivative. Definitions only.
use Rattle.std.specs.Prelude.{ℕ, ◌+◌, ◌/◌, ◌%◌, ◌<◌, ◌≡◌, Bool, true, false, cond, ◌&&◌, List, eqb, Float, length}
use Rattle.std.specs.Float.Ieee.{unlike}
use Rattle.loops.specs.Loop.{tab}
use Rattle.wire.specs.Wire.{byte_at}
use Rattle.table.specs.Table.{record_bytes, field, target, kind, first, second, coefficient, records, table_ok, derivative}
use Rattle.mirror.specs.Mirror.{flip, flipped, within, Alike}

-- ---- the flipped table; `turned` is the choice of components

-- whether a product's factors u_j and u_k turn its sign, kind by kind, by whether j and k are turned; the time is not flipped
unfoldable pub factors_turned : ℕ → Bool → Bool → Bool
factors_turned kind j k = cond (eqb kind 0) false (cond (eqb kind 1) j (cond (eqb kind 2) (unlike j k) j))

-- whether record r's coefficient is flipped: if just one of its target and its factors is turned
unfoldable pub flips : (ℕ → Bool) → List ℕ → ℕ → Bool
flips turned t r = unlike (turned (target t r)) (factors_turned (kind t r) (turned (first t r)) (turned (second t r)))

-- a byte, its top bit turned or not
unfoldable pub byte_turned : Bool → ℕ → ℕ
byte_turned s b = cond s ((b + 128) % 256) b

-- the table with those coefficients' sign bits turned: a coefficient's is the top bit of its record's last byte, byte 15
unfoldable pub flipped_table : (ℕ → Bool) → List ℕ → List ℕ
flipped_table turned t = tab (length t) (λ p. byte_turned (eqb (p % record_bytes) 15 && flips turned t (p / record_bytes)) (byte_at t p))

-- ---- what holds of it

-- each place of a table holds a byte
abbrev pub Bytes : List ℕ → Type 0
Bytes t = (p : ℕ) → p < length t → byte_at t p < 256

-- 'flipping signs': for any choice of components
pub record FlippedTables : Type 0 where
  -- the flipped table is well-formed where the first is, and only there
  pub well_formed : (turned : ℕ → Bool) (n : ℕ) (t : List ℕ) → table_ok n (flipped_table turned t) ≡ table_ok n t
  -- each coefficient is flipped to suit
  pub coefficients : (turned : ℕ → Bool) (t : List ℕ) → Bytes t → (r : ℕ) → r < records t → coefficient (flipped_table turned t) r ≡ flip (flips turned t r) (coefficient t r)
  -- and no byte but a record's last is changed
  pub others : (turned : ℕ → Bool) (t : List ℕ) (r i : ℕ) → i < 15 → field (flipped_table turned t) r i ≡ field t r i
  -- at the flipped state a well-formed table gives the flipped derivative, zeros of either sign equal
  pub derivatives : (turned : ℕ → Bool) (n : ℕ) (t : List ℕ) → Bytes t → table_ok n t ≡ true → (time : Float) (u : List Float)
      → Alike (within n) turned (derivative n t time u) (derivative n (flipped_table turned t) time (flipped (within n) turned u))
  -- and so at a state that is the flipped one but for the signs of zeros
  pub derivatives_alike : (turned : ℕ → Bool) (n : ℕ) (t : List ℕ) → Bytes t → table_ok n t ≡ true → (time : Float) (u u' : List Float) → Alike (within n) turned u u'
      → Alike (within n) turned (derivative n t time u) (derivative n (flipped_table turned t) time u')
