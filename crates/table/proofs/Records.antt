-- What the rules of a table give of its records. Assumes nothing.
use Rattle.std.proofs.Common.{ℕ, ◌+◌, ◌*◌, ◌/◌, ◌≤◌, ◌<◌, arith, ◌≡◌, refl, sym, ap, Bool, true, false, cond, ◌&&◌}
use Rattle.std.proofs.Common.{List, Float, eqb, length, lt-ltb, le-ltb, ltb-true, eq-eqb, ne_eqb}
use Rattle.std.proofs.Math.Bool.{false≢true, and-true}
use Rattle.loops.specs.Loop.{every, ◌!◌}
use Rattle.loops.proofs.Bools.{both_true}
use Rattle.loops.proofs.Loops.{every_at}
use Rattle.float.specs.Arith.{◌⊗◌}
use Rattle.table.specs.Table.{record_bytes, field, kind, target, first, second, coefficient, product, value}
use Rattle.table.specs.Table.{records, length_ok, target_ok, kind_ok, first_ok, second_ok, index_ok, blank_ok, coefficient_ok, record_ok, table_ok}

-- ---- a record

module _ (n : ℕ) (t : List ℕ) (r : ℕ) (ok : record_ok n t r ≡ true) where
  -- all but the last two rules
  front : (target_ok n t r && kind_ok t r && first_ok n t r && second_ok n t r) ≡ true
  unfolding record_ok
  front = (both_true _ (blank_ok t r) (both_true _ (coefficient_ok t r) ok).0).0

  pub target_below : target t r < n
  unfolding target_ok
  target_below = ltb-true (target t r) n (both_true (target_ok n t r) (kind_ok t r) (both_true _ (first_ok n t r) (both_true _ (second_ok n t r) front).0).0).0

  pub first_below : eqb (kind t r) 0 ≡ false → first t r < n
  unfolding first_ok index_ok
  first_below e =
      let f : first_ok n t r ≡ true = (both_true (target_ok n t r && kind_ok t r) (first_ok n t r) (both_true _ (second_ok n t r) front).0).1 in
      ltb-true (first t r) n (rw e at f)

  pub second_below : eqb (kind t r) 2 ≡ true → second t r < n
  unfolding second_ok index_ok
  second_below e =
      let f : second_ok n t r ≡ true = (both_true (target_ok n t r && kind_ok t r && first_ok n t r) (second_ok n t r) front).1 in
      ltb-true (second t r) n (rw e at f)

-- ---- a table

-- a whole record stands in the table
pub record_fits : (t : List ℕ) (r : ℕ) → r < length t / record_bytes → record_bytes * r + record_bytes ≤ length t
record_fits t r h = omega (arith, h)

pub table_records : (n : ℕ) (t : List ℕ) → table_ok n t ≡ true → every (length t / record_bytes) (record_ok n t) ≡ true
unfolding table_ok records
table_records n t e = go (length_ok t) e
  where
    go : (b : Bool) → cond b (every (length t / record_bytes) (record_ok n t)) false ≡ true → every (length t / record_bytes) (record_ok n t) ≡ true
    go true f = f
    go false f = absurd (false≢true f)

pub table_record : (n : ℕ) (t : List ℕ) → table_ok n t ≡ true → (r : ℕ) → r < length t / record_bytes → record_ok n t r ≡ true
table_record n t e r h = every_at (length t / record_bytes) (record_ok n t) (table_records n t e) r h

-- its target, as it stands in the bytes, is below n
pub below : (n : ℕ) (t : List ℕ) (r : ℕ) → table_ok n t ≡ true → r < length t / record_bytes → field t r 0 < n
unfolding target
below n t r e h = target_below n t r (table_record n t e r h)

-- ---- what the code reads of a record

-- one whose kind is none is not well-formed
pub kindless : (n : ℕ) (t : List ℕ) (r : ℕ) → 4 ≤ kind t r → false ≡ record_ok n t r
unfolding record_ok kind_ok
kindless n t r h = rw (le-ltb (kind t r) 4 h) (past (target_ok n t r) (first_ok n t r) (second_ok n t r) (blank_ok t r) (coefficient_ok t r))
  where
    past : (a c d e f : Bool) → false ≡ (a && false && c && d && e && f)
    past true c d e f = refl
    past false c d e f = refl

-- of one whose kind is one the other rules are tested
pub tested_rules : (n : ℕ) (t : List ℕ) (r : ℕ) → kind t r < 4 → (target_ok n t r && first_ok n t r && second_ok n t r && blank_ok t r && coefficient_ok t r) ≡ record_ok n t r
unfolding record_ok kind_ok
tested_rules n t r h = rw (lt-ltb (kind t r) 4 h) (ap (λ (a : Bool). a && first_ok n t r && second_ok n t r && blank_ok t r && coefficient_ok t r) (sym (and-true (target_ok n t r))))

module _ (n : ℕ) (t : List ℕ) (r : ℕ) (ok : record_ok n t r ≡ true) where
  pub kind_below : kind t r < 4
  unfolding kind_ok
  kind_below =
      ltb-true (kind t r) 4 (both_true (target_ok n t r) (kind_ok t r) (both_true _ (first_ok n t r) (both_true _ (second_ok n t r) (front n t r ok)).0).0).1

  -- the components that it reads are below n
  pub first_read : {m : ℕ} → m ≡ kind t r → 0 < m → {j : ℕ} → j ≡ first t r → j < n
  first_read e h f = rw f (first_below n t r ok (ne_eqb (kind t r) 0 (λ z. omega (arith, e, h, z))))

  pub second_read : 2 ≡ kind t r → {k : ℕ} → k ≡ second t r → k < n
  second_read e f = rw f (second_below n t r ok (eq-eqb (kind t r) 2 (sym e)))

-- its value, kind by kind
module _ (t : List ℕ) (r : ℕ) (time : Float) (u : List Float) {c : Float} (given : c ≡ coefficient t r) where
  pub value_constant : 0 ≡ kind t r → c ≡ value t time u r
  unfolding value product
  value_constant e = rw (← e, ← given)

  module _ {j : ℕ} (f : j ≡ first t r) where
    pub value_linear : 1 ≡ kind t r → c ⊗ u ! j ≡ value t time u r
    unfolding value product
    value_linear e = rw (← e, ← given, ← f)

    pub value_product : 2 ≡ kind t r → {k : ℕ} → k ≡ second t r → c ⊗ u ! j ⊗ u ! k ≡ value t time u r
    unfolding value product
    value_product e g = rw (← e, ← given, ← f, ← g)

    pub value_timed : 3 ≡ kind t r → c ⊗ u ! j ⊗ time ≡ value t time u r
    unfolding value product
    value_timed e = rw (← e, ← given, ← f)
