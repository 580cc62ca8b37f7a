-- Flipping signs in a table of equations: the flipped table's bytes, its coefficients, and the derivative that it gives. Assumes nothing.
use Rattle.std.proofs.Common.{ℕ, zero, suc, ◌+◌, ◌*◌, ◌/◌, ◌%◌, ◌^◌, ◌≤◌, ◌<◌, arith, ◌≡◌, refl, sym, ap, ap₂, ◌∙◌, ◌≢◌}
use Rattle.std.proofs.Common.{Bool, true, false, cond, ◌&&◌, List, leb, eqb, Float, length, lt-ltb, le-leb, eq-eqb, ne_eqb, eqb-true}
use Rattle.std.proofs.Math.Decide.{dec_lt}
use Rattle.std.proofs.Math.ListN.{get_or-eq_default}
use Rattle.std.proofs.lemmas.Bool.{lt-leb}
use Rattle.std.specs.Float.Ieee.{nan, inf, binary64, unlike, odd, of_fields, of_bits}
use Rattle.loops.specs.Loop.{iter, ◌!◌}
use Rattle.loops.proofs.Loops.{every_ext, past_end, length-tab, get_or-tab}
use Rattle.float.specs.Arith.{◌⊕◌, ◌⊗◌, finite}
use Rattle.float.proofs.Bits.{of_bits_is}
use Rattle.float.proofs.Signs.{unlike_assoc, unlike_false, inner1, false_unlike}
use Rattle.wire.specs.Wire.{byte_at, word16, word32, word64}
use Rattle.table.specs.Table.{field, target, kind, first, second, coefficient, records, product, value, summed, derivative}
use Rattle.table.specs.Table.{length_ok, target_ok, kind_ok, first_ok, second_ok, blank_ok, coefficient_ok, record_ok, table_ok}
use Rattle.table.proofs.Records.{first_below, second_below, record_fits, table_record}
use Rattle.mirror.specs.Mirror.{flip, within, Alike}
use Rattle.mirror.specs.Tables.{factors_turned, flips, byte_turned, flipped_table, Bytes, FlippedTables}
use Rattle.mirror.proofs.Floats.{Mirror, m_nan, m_refl, m_flip, mirrors, add_m, mul_m, finite_m, zero_m}
use Rattle.mirror.proofs.Vectors.{m_sign, vec_m}
use Rattle.mirror.proofs.Places.{placed}
use Rattle.mirror.proofs.Runs.{flipped_m, alike}

-- ---- a pattern whose top bit is turned is the flipped number
odd_flip : (s t : Bool) (d q k l : ℕ) → odd d (unlike s t) q k l ≡ flip s (odd d t q k l)
unfolding odd flip
odd_flip s t d zero k l = refl
odd_flip s t d (suc q) k l = refl

cond-flip : (s b : Bool) (x y x' y' : Float) → x' ≡ flip s x → y' ≡ flip s y → cond b x' y' ≡ flip s (cond b x y)
cond-flip s true x y x' y' p q = p
cond-flip s false x y x' y' p q = q

top_flip : (s t b : Bool) → cond b (inf (unlike s t)) nan ≡ flip s (cond b (inf t) nan)
unfolding flip
top_flip s t true = refl
top_flip s t false = refl

fields-flip : (s t : Bool) (x d : ℕ) → of_fields binary64 (unlike s t) x d ≡ flip s (of_fields binary64 t x d)
unfolding of_fields
fields-flip s t zero d = odd_flip s t 53 d 0 1074
fields-flip s t (suc x) d = cond-flip s (eqb (suc x) 2047) _ _ _ _ (top_flip s t (eqb d 0)) (odd_flip s t 53 (2 ^ 52 + d) x 1074)

low_bits : (w w' : ℕ) → w' % 2 ^ 63 ≡ w % 2 ^ 63 → w' % 2 ^ 52 ≡ w % 2 ^ 52
low_bits w w' e = omega arith

bits_flip : (s : Bool) (w w' : ℕ) → w' % 2 ^ 63 ≡ w % 2 ^ 63 → leb (2 ^ 63) w' ≡ unlike s (leb (2 ^ 63) w) → of_bits binary64 w' ≡ flip s (of_bits binary64 w)
bits_flip s w w' e f = rw (of_bits_is w', of_bits_is w, f, e, low_bits w w' e) (fields-flip s (leb (2 ^ 63) w) (w % 2 ^ 63 / 2 ^ 52) (w % 2 ^ 52))

-- whether it is finite does not turn on the top bit
fields-finite : (s : Bool) (x d : ℕ) → finite (of_fields binary64 s x d) ≡ finite (of_fields binary64 false x d)
fields-finite s x d =
    ap (λ (b : Bool). finite (of_fields binary64 b x d)) (sym (unlike_false s))
    ∙ ap finite (fields-flip s false x d)
    ∙ sym (finite_m (m_flip s (of_fields binary64 false x d)))

bits_finite : (w w' : ℕ) → w' % 2 ^ 63 ≡ w % 2 ^ 63 → finite (of_bits binary64 w') ≡ finite (of_bits binary64 w)
bits_finite w w' e =
    rw (of_bits_is w', of_bits_is w, fields-finite (leb (2 ^ 63) w'), fields-finite (leb (2 ^ 63) w), e, low_bits w w' e)

-- ---- a word by its last byte
-- the seven others
rest : List ℕ → ℕ → ℕ
rest t p =
    byte_at t p + byte_at t (p + 1) * 0x100 + (byte_at t (p + 2) + byte_at t (p + 2 + 1) * 0x100) * 0x1_0000
    + (byte_at t (p + 4) + byte_at t (p + 4 + 1) * 0x100 + byte_at t (p + 4 + 2) * 0x1_0000) * 0x1_0000_0000

word_rest : (t : List ℕ) (p : ℕ) → word64 t p ≡ rest t p + byte_at t (p + 4 + 2 + 1) * 2 ^ 56
unfolding rest word64 word32 word16
word_rest t p = omega arith

turned_low : (a b : ℕ) → (a + (b + 128) % 256 * 2 ^ 56) % 2 ^ 63 ≡ (a + b * 2 ^ 56) % 2 ^ 63
turned_low a b = omega arith

opposite : (v w : ℕ) → (v < 2 ^ 63 → 2 ^ 63 ≤ w) → (2 ^ 63 ≤ v → w < 2 ^ 63) → leb (2 ^ 63) w ≡ unlike true (leb (2 ^ 63) v)
opposite v w f g = elim (dec_lt v (2 ^ 63)) [
  | yes l ↦ rw (le-leb (2 ^ 63) w (f l), lt-leb (2 ^ 63) v l)
  | no l ↦ let k : 2 ^ 63 ≤ v = omega arith in rw (lt-leb (2 ^ 63) w (g k), le-leb (2 ^ 63) v k)
]

turned_top : (a b : ℕ) → a < 2 ^ 56 → b < 256 → leb (2 ^ 63) (a + (b + 128) % 256 * 2 ^ 56) ≡ unlike true (leb (2 ^ 63) (a + b * 2 ^ 56))
turned_top a b h k = opposite (a + b * 2 ^ 56) (a + (b + 128) % 256 * 2 ^ 56) (λ l. omega arith) (λ l. omega arith)

byte_low : (s : Bool) (a b : ℕ) → (a + byte_turned s b * 2 ^ 56) % 2 ^ 63 ≡ (a + b * 2 ^ 56) % 2 ^ 63
unfolding byte_turned
byte_low true a b = turned_low a b
byte_low false a b = refl

byte_top : (s : Bool) (a b : ℕ) → a < 2 ^ 56 → b < 256 → leb (2 ^ 63) (a + byte_turned s b * 2 ^ 56) ≡ unlike s (leb (2 ^ 63) (a + b * 2 ^ 56))
unfolding byte_turned
byte_top true a b h k = turned_top a b h k
byte_top false a b h k = sym (false_unlike (leb (2 ^ 63) (a + b * 2 ^ 56)))

-- ---- a record's product, by its kind
product_m : {s j k : Bool} {c c' x x' y y' : Float} (kind : ℕ) (time : Float) → Mirror s c c' → (eqb kind 0 ≡ false → Mirror j x x') → (eqb kind 2 ≡ true → Mirror k y y')
    → Mirror (unlike s (factors_turned kind j k)) (product kind c x y time) (product kind c' x' y' time)
unfolding product factors_turned
product_m {s} {j} {k} {c} {c'} {x} {x'} {y} {y'} kind time C X Y = go (eqb kind 0) (eqb kind 1) (eqb kind 2) X Y
  where
    go : (a b d : Bool) → (a ≡ false → Mirror j x x') → (d ≡ true → Mirror k y y')
        → Mirror (unlike s (cond a false (cond b j (cond d (unlike j k) j))))
        (cond a c (cond b (c ⊗ x) (cond d ((c ⊗ x) ⊗ y) ((c ⊗ x) ⊗ time))))
        (cond a c' (cond b (c' ⊗ x') (cond d ((c' ⊗ x') ⊗ y') ((c' ⊗ x') ⊗ time))))
    go true b d X Y = m_sign (sym (unlike_false s)) C
    go false true d X Y = mul_m C (X refl)
    go false false true X Y = m_sign (unlike_assoc s j k) (mul_m (mul_m C (X refl)) (Y refl))
    go false false false X Y = m_sign (unlike_false (unlike s j)) (mul_m (mul_m C (X refl)) (m_refl time))

-- a term that is added where a test says so
pick_m : {s : Bool} {x x' v v' : Float} (b : Bool) → Mirror s x x' → (b ≡ true → Mirror s v v') → Mirror s (cond b (x ⊕ v) x) (cond b (x' ⊕ v') x')
pick_m true X Y = add_m X (Y refl)
pick_m false X Y = X

-- what stands at a component
place_m : {n : ℕ} {turned : ℕ → Bool} {u u' : List Float} → Alike (within n) turned u u' → (i : ℕ) → i < n → Mirror (turned i) (u ! i) (u' ! i)
place_m {n} {turned} {u} {u'} U i h = go (dec_lt i (length u))
  where
    go : Dec (i < length u) → Mirror (turned i) (u ! i) (u' ! i)
    go (yes l) = mirrors (U.in_use i l (lt-ltb i n h))
    go (no l) =
        let k : length u ≤ i = omega arith in
        let k' : length u' ≤ i = omega (arith, U.size) in
        rw (past_end u i k, past_end u' i k') m_nan

-- ---- the flipped table's bytes
module _ (turned : ℕ → Bool) (t : List ℕ) where
  flipped-length : length (flipped_table turned t) ≡ length t
  unfolding flipped_table
  flipped-length = length-tab (length t) _

  flipped-records : records (flipped_table turned t) ≡ records t
  unfolding records
  flipped-records = ap (λ (k : ℕ). k / 16) flipped-length

  flipped_in : (p : ℕ) → p < length t → byte_at (flipped_table turned t) p ≡ byte_turned (eqb (p % 16) 15 && flips turned t (p / 16)) (byte_at t p)
  unfolding flipped_table
  flipped_in p h = get_or-tab 0 (length t) _ p h

  -- a byte that is no record's last
  plain_at : (p : ℕ) → p % 16 ≢ 15 → byte_at (flipped_table turned t) p ≡ byte_at t p
  plain_at p ne = go (dec_lt p (length t))
    where
      go : Dec (p < length t) → byte_at (flipped_table turned t) p ≡ byte_at t p
      go (yes h) = flipped_in p h ∙ ap (λ (b : Bool). byte_turned (b && flips turned t (p / 16)) (byte_at t p)) (ne_eqb (p % 16) 15 ne) ∙ unfold byte_turned in refl
      go (no h) =
          let k : length t ≤ p = omega arith in
          let k' : length (flipped_table turned t) ≤ p = rw flipped-length k in
          get_or-eq_default (flipped_table turned t) 0 k' ∙ sym (get_or-eq_default t 0 k)

  -- and one that is
  last_at : (r p : ℕ) → p < length t → p % 16 ≡ 15 → p / 16 ≡ r → byte_at (flipped_table turned t) p ≡ byte_turned (flips turned t r) (byte_at t p)
  last_at r p h e q = flipped_in p h ∙ ap₂ (λ (b : Bool) (k : ℕ). byte_turned (b && flips turned t k) (byte_at t p)) (eq-eqb (p % 16) 15 e) q

  -- ---- a record's fields
  flipped-field : (r i : ℕ) → i < 15 → field (flipped_table turned t) r i ≡ field t r i
  flipped-field r i h = plain_at (16 * r + i) (omega arith)

  flipped-target : (r : ℕ) → target (flipped_table turned t) r ≡ target t r
  unfolding target
  flipped-target r = flipped-field r 0 (omega arith)

  flipped-kind : (r : ℕ) → kind (flipped_table turned t) r ≡ kind t r
  unfolding kind
  flipped-kind r = flipped-field r 1 (omega arith)

  flipped-first : (r : ℕ) → first (flipped_table turned t) r ≡ first t r
  unfolding first
  flipped-first r = flipped-field r 2 (omega arith)

  flipped-second : (r : ℕ) → second (flipped_table turned t) r ≡ second t r
  unfolding second
  flipped-second r = flipped-field r 3 (omega arith)

  -- ---- its coefficient
  last_in : (r : ℕ) → r < records t → 16 * r + 8 + 4 + 2 + 1 < length t
  unfolding records
  last_in r h = omega (arith, record_fits t r h)

  flipped_rest : (r : ℕ) → rest (flipped_table turned t) (16 * r + 8) ≡ rest t (16 * r + 8)
  unfolding rest
  flipped_rest r =
      let p = 16 * r + 8 in
      rw (
        plain_at p (omega arith),
        plain_at (p + 1) (omega arith),
        plain_at (p + 2) (omega arith),
        plain_at (p + 2 + 1) (omega arith),
        plain_at (p + 4) (omega arith),
        plain_at (p + 4 + 1) (omega arith),
        plain_at (p + 4 + 2) (omega arith),
      )

  flipped_word : (r : ℕ) → r < records t
      → word64 (flipped_table turned t) (16 * r + 8) ≡ rest t (16 * r + 8) + byte_turned (flips turned t r) (byte_at t (16 * r + 8 + 4 + 2 + 1)) * 2 ^ 56
  flipped_word r h =
      let p = 16 * r + 8 in
      word_rest (flipped_table turned t) p
      ∙ ap₂ (λ (a b : ℕ). a + b * 2 ^ 56) (flipped_rest r) (last_at r (p + 4 + 2 + 1) (last_in r h) (omega arith) (omega arith))

  flipped-finite : (r : ℕ) → r < records t → finite (coefficient (flipped_table turned t) r) ≡ finite (coefficient t r)
  unfolding coefficient
  flipped-finite r h =
      let p = 16 * r + 8 in
      bits_finite (word64 t p) (word64 (flipped_table turned t) p)
      (rw (flipped_word r h, word_rest t p) (byte_low (flips turned t r) (rest t p) (byte_at t (p + 4 + 2 + 1))))

  -- ---- the tests
  flipped_blank : (r : ℕ) → blank_ok (flipped_table turned t) r ≡ blank_ok t r
  unfolding blank_ok
  flipped_blank r = every_ext 4 _ _ (λ i h. ap (λ (b : ℕ). eqb b 0) (flipped-field r (4 + i) (omega arith)))

  flipped_record : (n r : ℕ) → r < records t → record_ok n (flipped_table turned t) r ≡ record_ok n t r
  unfolding record_ok target_ok kind_ok first_ok second_ok coefficient_ok
  flipped_record n r h = rw (flipped-target r, flipped-kind r, flipped-first r, flipped-second r, flipped_blank r, flipped-finite r h)

  flipped-length_ok : length_ok (flipped_table turned t) ≡ length_ok t
  unfolding length_ok
  flipped-length_ok = rw (flipped-length, flipped-records)

  flipped_ok : (n : ℕ) → table_ok n (flipped_table turned t) ≡ table_ok n t
  unfolding table_ok
  flipped_ok n = rw (flipped-length_ok, flipped-records) (ap (λ (b : Bool). cond (length_ok t) b false) (every_ext (records t) _ _ (flipped_record n)))

  -- ---- where the table holds bytes
  module _ (B : Bytes t) where
    small : (r : ℕ) → r < records t → rest t (16 * r + 8) < 2 ^ 56
    unfolding rest
    small r h =
        let p = 16 * r + 8 in
        let l : p + 4 + 2 + 1 < length t = last_in r h in
        omega (
          arith,
          B p (omega arith),
          B (p + 1) (omega arith),
          B (p + 2) (omega arith),
          B (p + 2 + 1) (omega arith),
          B (p + 4) (omega arith),
          B (p + 4 + 1) (omega arith),
          B (p + 4 + 2) (omega arith),
        )

    flipped-coefficient : (r : ℕ) → r < records t → coefficient (flipped_table turned t) r ≡ flip (flips turned t r) (coefficient t r)
    unfolding coefficient
    flipped-coefficient r h =
        let p = 16 * r + 8 in
        let s = flips turned t r in
        let b = byte_at t (p + 4 + 2 + 1) in
        bits_flip s (word64 t p) (word64 (flipped_table turned t) p)
        (rw (flipped_word r h, word_rest t p) (byte_low s (rest t p) b))
        (rw (flipped_word r h, word_rest t p) (byte_top s (rest t p) b (small r h) (B (p + 4 + 2 + 1) (last_in r h))))

    -- ---- the derivative
    module _ (n : ℕ) (ok : table_ok n t ≡ true) (time : Float) {u u' : List Float} (U : Alike (within n) turned u u') where
      value_m : (r : ℕ) → r < records t → Mirror (turned (target t r)) (value t time u r) (value (flipped_table turned t) time u' r)
      unfolding value flips
      value_m r h =
          let R : record_ok n t r ≡ true = table_record n t ok r (unfold records in h) in
          let C : Mirror (flips turned t r) (coefficient t r) (coefficient (flipped_table turned t) r) = rw (flipped-coefficient r h) (m_flip (flips turned t r) (coefficient t r)) in
          rw (flipped-kind r, flipped-first r, flipped-second r)
          (m_sign (inner1 (turned (target t r)) _) (product_m (kind t r) time C (λ e. place_m U (first t r) (first_below n t r R e)) (λ e. place_m U (second t r) (second_below n t r R e))))

      summed_m : (i m : ℕ) → m ≤ records t → Mirror (turned i) (summed t time u i m) (summed (flipped_table turned t) time u' i m)
      unfolding summed iter
      summed_m i zero h = zero_m (turned i)
      summed_m i (suc m) h =
          rw (flipped-target m)
          (pick_m (eqb (target t m) i) (summed_m i m (omega arith)) (λ e. m_sign (ap turned (eqb-true (target t m) i e)) (value_m m h)))

      derivative_m : Alike (within n) turned (derivative n t time u) (derivative n (flipped_table turned t) time u')
      unfolding derivative
      derivative_m = rw flipped-records (alike (placed (vec_m n turned _ _ (λ i h. summed_m i (records t) (omega arith)))))

pub flipped_tables : FlippedTables
flipped_tables = record {
  well_formed = λ turned n t. flipped_ok turned t n;
  coefficients = flipped-coefficient;
  others = flipped-field;
  derivatives = λ turned n t B ok time u. derivative_m turned t B n ok time (alike (flipped_m (within n) turned u));
  derivatives_alike = λ turned n t B ok time u u' U. derivative_m turned t B n ok time U;
}
