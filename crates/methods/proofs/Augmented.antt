-- The augmented matrix by rows over +0.0, and what its row sums are. Assumes nothing.
use Rattle.std.proofs.Common.{◌≡◌, ℕ, zero, suc, ◌+◌, ◌-◌, ◌*◌, ◌/◌, ◌%◌, ◌<◌, ◌≤◌, Bool, true, false, cond, ◌&&◌, eqb, ltb, ◌≢◌, List, length, set, replicate, take, drop, fold, sym, refl, ap, ◌∙◌, add-zero, zero-add, add-suc, div-add-mod', arith, length-set, get_or-set_other, get_or-set_same, le-ltb, lt-ltb, eq-eqb, ne_eqb, Float, length-drop}
use Rattle.std.proofs.Math.Bool.{and-true}
use Rattle.std.proofs.Math.Nat.{sub_self}
use Rattle.std.proofs.Math.Decide.{ℕ_discrete, dec_lt}
use lib.Count.{count_trailing_zeros}
use Rattle.std.specs.Float.Ieee.{nan, le, lt, eq, add, sum, round, units, size, span, climb, of_bits, of_fields, odd}
use Rattle.std.proofs.Math.ListN.{length-replicate, get_or-replicate}
use Rattle.std.proofs.Math.Seq.{length-take-le}
use Rattle.std.proofs.lemmas.List.{get_or-take, get_or-drop}
use Rattle.loops.specs.Loop.{iter, every, mat, stores, ◌!◌}
use Rattle.loops.proofs.Loops.{every_ext, stores_step}
use Rattle.loops.proofs.Stores.{is_tab, length-stores, stores_in, stores_out}
use Rattle.loops.proofs.Places.{row_fits, row_below, column_below, place_row, mat_at, length-mat}
use Rattle.float.specs.Arith.{◌⊕◌, ◌⊗◌, zero+, one, limit, finite, abs, sum_of}
use Rattle.float.proofs.Sums.{sum_first, sum_step, sum_ext, fold_sum}
use Rattle.float.proofs.Same.{abs_sign, sum_rest}
use Rattle.matrix.specs.Matrix.{at, row_sum, admitted}
use Rattle.matrix.specs.Vector.{zeros}
use Rattle.std.specs.Prelude.{Option, Some, None}
use Rattle.methods.specs.declared.Action.{Action}
use Rattle.methods.proofs.Made.{is_made, none_made}
use Rattle.methods.specs.Tally.{Tried, tested, clean}
use Rattle.methods.proofs.Laws.{single_ok}
use Rattle.methods.specs.Phi.{checked, over, nothing, augmented_entry, augmented, phi_action, phi_term}
use Rattle.methods.specs.Parts.{input_row, rows_to, chained, admitted_sum, input_admitted, if_wanted, taken, made}

-- ---- a matrix is known by its entries
is_mat : (n : ℕ) (f : ℕ → ℕ → Float) (l : List Float) → length l ≡ n * n → ((i j : ℕ) → i < n → j < n → l ! (i * n + j) ≡ f i j) → l ≡ mat n f
unfolding mat
is_mat n f l e h = is_tab (n * n) _ l e (λ p q. rw (div-add-mod' p n) at (h (p / n) (p % n) (row_below p n q) (column_below p n q)))

-- another row than i is before i or not, as before i + 1
pub other_row : (r i : ℕ) → r ≢ i → ltb r i ≡ ltb r (i + 1)
other_row r i s = go (dec_lt r i)
  where
    go : Dec (r < i) → ltb r i ≡ ltb r (i + 1)
    go (yes t) = lt-ltb r i t ∙ sym (lt-ltb r (i + 1) (omega arith))
    go (no t) = le-ltb r i (omega arith) ∙ sym (le-ltb r (i + 1) (omega arith))

-- ---- rows over +0.0
module _ (size : ℕ) (f : ℕ → ℕ → Float) where
  length_rows : (k : ℕ) → length (rows_to k size f) ≡ size * size
  unfolding rows_to
  length_rows k = length-mat size _

  pub rows_length : (k : ℕ) (z : List Float) → z ≡ rows_to k size f → length z ≡ size * size
  rows_length k z e = ap length e ∙ length_rows k

  pub rows_end : (k n : ℕ) (z : List Float) → z ≡ rows_to k size f → k ≡ n → z ≡ rows_to n size f
  rows_end k n z e h = rw (← h) e

  rows_at : (k i j : ℕ) → i < size → j < size → rows_to k size f ! (i * size + j) ≡ cond (ltb i k) (f i j) zero+
  unfolding rows_to
  rows_at k i j h l = mat_at size _ i j h l

  pub rows_none : (z : List Float) → z ≡ replicate (size * size) zero+ → z ≡ rows_to 0 size f
  unfolding rows_to
  rows_none z e = rw e (is_mat size _ (replicate (size * size) zero+) (length-replicate (size * size) zero+)
      (λ i j h k. rw (le-ltb i 0 (omega arith)) (get_or-replicate (size * size) (i * size + j) zero+ nan (omega (arith, row_fits i size h)))))

  -- one row more, the others as they were
  next_row : (i : ℕ) (p q : List Float) → p ≡ rows_to i size f → length q ≡ length p
      → ((r c : ℕ) → r < size → c < size → r ≢ i → q ! (r * size + c) ≡ p ! (r * size + c)) → ((c : ℕ) → c < size → q ! (i * size + c) ≡ f i c) → q ≡ rows_to (i + 1) size f
  unfolding rows_to
  next_row i p q e l o h = is_mat size _ q (l ∙ ap length e ∙ length_rows i) (λ r c a b. go r c a b (ℕ_discrete r i))
    where
      go : (r c : ℕ) → r < size → c < size → Dec (r ≡ i) → q ! (r * size + c) ≡ cond (ltb r (i + 1)) (f r c) zero+
      go r c a b (yes s) = rw (s, lt-ltb i (i + 1) (omega arith)) (h c b)
      go r c a b (no s) = o r c a b s ∙ rw e (rows_at i r c a b ∙ ap (λ t. cond t (f r c) zero+) (other_row r i s))

  -- places of two rows are never one
  apart : (r c i j : ℕ) → c < size → j < size → r ≢ i → r * size + c ≢ i * size + j
  apart r c i j a b n e = n (sym (place_row r c size a) ∙ ap (λ z. z / size) e ∙ place_row i j size b)

-- ---- ones behind the diagonal
chained_none : (n size : ℕ) (o : List Float) → chained n size 0 o ≡ o
unfolding chained iter
chained_none n size o = refl

chained_more : (n size k : ℕ) (o : List Float) → chained n size (suc k) o ≡ set (chained n size k o) ((n + k) * size + (n + k) + 1) one
unfolding chained iter
chained_more n size k o = refl

pub chained-first : (n size : ℕ) (o : List Float) → o ≡ chained n size (n - n) o
chained-first n size o = rw (sub_self, chained_none)

pub chained_step : (n size i : ℕ) (o p : List Float) → n ≤ i → p ≡ chained n size (i - n) o → set p (i * size + i + 1) one ≡ chained n size (i + 1 - n) o
chained_step n size i o p h e =
    let k : i + 1 - n ≡ suc (i - n) = omega arith in
    let w : n + (i - n) ≡ i = omega arith in
    rw (e, k, chained_more n size (i - n) o, w)

pub chained_end : (n size j k : ℕ) (o p : List Float) → p ≡ chained n size j o → j ≡ k → p ≡ chained n size k o
chained_end n size j k o p e h = rw (← h) e

-- ---- a row with the input behind it
module _ (n : ℕ) (a : List Float) (c x : Float) (i from : ℕ) (e : from ≡ i * n) where
  input_left : (j : ℕ) → j < n → c ⊗ a ! (from + j) ≡ input_row n a c x i j
  unfolding input_row
  input_left j h = rw (lt-ltb j n h, e)

  input_last : x ≡ input_row n a c x i n
  unfolding input_row
  input_last = rw (le-ltb n n (omega arith))

  pub input_step : (to j : ℕ) (o p : List Float) → j < n → p ≡ stores (λ j z. input_row n a c x i j) to j o
      → set p (to + j) (c ⊗ a ! (from + j)) ≡ stores (λ j z. input_row n a c x i j) to (j + 1) o
  input_step to j o p h d = rw (input_left j h) (stores_step _ to j o p d)

  pub input_end : (to j : ℕ) (o p : List Float) → j ≡ n → p ≡ stores (λ j z. input_row n a c x i j) to j o
      → set p (to + n) x ≡ stores (λ j z. input_row n a c x i j) to (n + 1) o
  input_end to j o p h d = ap (set p (to + n)) input_last ∙ stores_step _ to n o p (rw h at d)

  pub input_fold : (k : ℕ) (s y : Float) → k + 1 ≡ n → from + n ≤ length a → y ≡ abs (c ⊗ a ! from)
      → s ≡ fold (λ t v. t ⊕ abs (c ⊗ v)) y (take k (drop (from + 1) a)) → s ≡ sum_of n (λ j. abs (input_row n a c x i j))
  input_fold k s y q b d f =
      let l : length (take k (drop (from + 1) a)) ≡ k = length-take-le k (drop (from + 1) a) (rw length-drop (omega arith)) in
      let at : (j : ℕ) → j < length (take k (drop (from + 1) a)) → abs (c ⊗ (take k (drop (from + 1) a) ! j)) ≡ abs (input_row n a c x i (suc j)) =
      λ j m. ap (λ z. abs (c ⊗ z)) (get_or-take k (drop (from + 1) a) j nan (omega arith) ∙ get_or-drop (from + 1) a j nan ∙ ap (λ p. a ! p) (omega arith)) ∙ ap abs (input_left (suc j) (omega arith)) in
      f ∙ ap (λ y. fold (λ t v. t ⊕ abs (c ⊗ v)) y (take k (drop (from + 1) a))) (sum_first _ y (d ∙ ap abs (ap (λ q. c ⊗ a ! q) (sym (add-zero from)) ∙ input_left 0 (omega arith))))
      ∙ fold_sum _ _ 0 (take k (drop (from + 1) a)) (λ j m. rw zero-add (at j m)) ∙ ap (λ m. sum_of m (λ j. abs (input_row n a c x i j))) (omega (arith, l))

  pub input_tested : (j : ℕ) (s y : Float) (b : Bool) → 1 ≤ j → j ≡ n → s ≡ sum_of j (λ j. abs (input_row n a c x i j)) → y ≡ abs x → b ≡ finite (s ⊕ y)
      → (b && le (s ⊕ y) limit) ≡ admitted_sum (sum_of (n + 1) (λ j. abs (input_row n a c x i j)))
  unfolding admitted_sum
  input_tested j s y b h l d w t =
      let k : s ⊕ y ≡ sum_of (n + 1) (λ j. abs (input_row n a c x i j)) = sum_step _ n s y (rw l at d) (w ∙ ap abs input_last) (omega arith) in
      rw (t, k)

-- ---- the entries
module _ (n : ℕ) (a : List Float) (c : Float) (x : List Float) where
  pub entry_in : (i j : ℕ) → i < n → j ≤ n → input_row n a c (x ! i) i j ≡ augmented_entry n a c x i j
  unfolding input_row augmented_entry
  entry_in i j h l = rw (lt-ltb i n h) (go (dec_lt j n))
    where
      go : Dec (j < n) → cond (ltb j n) (c ⊗ at a n i j) (x ! i) ≡ cond (ltb j n) (c ⊗ at a n i j) (cond (eqb j n) (x ! i) zero+)
      go (yes k) = rw (lt-ltb j n k)
      go (no k) = rw (le-ltb j n (omega arith), eq-eqb j n (omega arith))

  pub entry_past : (i j : ℕ) → i < n → n < j → augmented_entry n a c x i j ≡ zero+
  unfolding augmented_entry
  entry_past i j h l = rw (lt-ltb i n h, le-ltb j n (omega arith), ne_eqb j n (omega arith))

  pub entry_below : (i j : ℕ) → n ≤ i → augmented_entry n a c x i j ≡ cond (eqb j (i + 1)) one zero+
  unfolding augmented_entry
  entry_below i j h = rw (le-ltb i n h)

  -- ---- one row more
  pub row_step : (size i : ℕ) (p q : List Float) → n < size → i < n → p ≡ rows_to i size (augmented_entry n a c x)
      → q ≡ stores (λ j z. input_row n a c (x ! i) i j) (i * size) (n + 1) p → q ≡ rows_to (i + 1) size (augmented_entry n a c x)
  row_step size i p q l h e d =
      next_row size (augmented_entry n a c x) i p q e (ap length d ∙ length-stores g (i * size) (n + 1) p)
      (λ r k _ b ne. rw d (stores_out g (i * size) (n + 1) p (r * size + k) (λ j w. apart size (augmented_entry n a c x) r k i j b (omega arith) ne)))
      (λ k b. rw d (go k b (dec_lt k (n + 1))))
    where
      g : ℕ → Float → Float
      g j z = input_row n a c (x ! i) i j

      go : (k : ℕ) → k < size → Dec (k < n + 1) → stores g (i * size) (n + 1) p ! (i * size + k) ≡ augmented_entry n a c x i k
      go k b (yes w) =
          let inside : i * size + k < length p = rw (e, length_rows) (omega (arith, row_fits i size (omega arith))) in
          stores_in g (i * size) (n + 1) p k w inside ∙ entry_in i k h (omega arith)
      go k b (no w) =
          stores_out g (i * size) (n + 1) p (i * size + k) (λ j v. omega arith)
          ∙ rw (e, rows_at size (augmented_entry n a c x) i i k (omega arith) b, le-ltb i i (omega arith), entry_past i k h (omega arith))

  -- ---- the ones below
  one_step : (size i : ℕ) (p : List Float) → n ≤ i → i + 1 < size → p ≡ rows_to i size (augmented_entry n a c x)
      → set p (i * size + i + 1) one ≡ rows_to (i + 1) size (augmented_entry n a c x)
  one_step size i p h l e =
      next_row size (augmented_entry n a c x) i p (set p to one) e (length-set p to one)
      (λ r j _ b ne. get_or-set_other p to (r * size + j) one nan (λ s. apart size (augmented_entry n a c x) r j i (i + 1) b l ne (omega arith)))
      (λ j b. go j b (ℕ_discrete j (i + 1)))
    where
      to : ℕ
      to = i * size + i + 1

      go : (j : ℕ) → j < size → Dec (j ≡ i + 1) → set p to one ! (i * size + j) ≡ augmented_entry n a c x i j
      go j b (yes s) =
          let w : i * size + j ≡ to = omega arith in
          let inside : to < length p = rw (e, length_rows) (omega (arith, row_fits i size (omega arith))) in
          ap (λ q. set p to one ! q) w ∙ get_or-set_same p to one nan inside ∙ sym (entry_below i j h ∙ rw (eq-eqb j (i + 1) s))
      go j b (no s) =
          get_or-set_other p to (i * size + j) one nan (λ q. s (omega arith))
          ∙ ap (λ l. l ! (i * size + j)) e
          ∙ rows_at size (augmented_entry n a c x) i i j (omega arith) b
          ∙ rw (le-ltb i i (omega arith), entry_below i j h, ne_eqb j (i + 1) s)

  chained_rows : (size k : ℕ) → n + k < size → chained n size k (rows_to n size (augmented_entry n a c x)) ≡ rows_to (n + k) size (augmented_entry n a c x)
  chained_rows size zero l = rw (chained_none n size _, add-zero)
  chained_rows size (suc k) l =
      let e : n + suc k ≡ n + k + 1 = omega arith in
      rw (chained_more n size k _, e) (one_step size (n + k) _ (omega arith) (omega arith) (chained_rows size k (omega arith)))

  -- in the last row there is no place for a one
  rows_all : (size : ℕ) → n < size → rows_to (size - 1) size (augmented_entry n a c x) ≡ mat size (augmented_entry n a c x)
  rows_all size l =
      is_mat size (augmented_entry n a c x) _ (length_rows size (augmented_entry n a c x) (size - 1))
      (λ i j h b. rows_at size (augmented_entry n a c x) (size - 1) i j h b ∙ go i j h b (dec_lt i (size - 1)))
    where
      go : (i j : ℕ) → i < size → j < size → Dec (i < size - 1) → cond (ltb i (size - 1)) (augmented_entry n a c x i j) zero+ ≡ augmented_entry n a c x i j
      go i j h b (yes k) = rw (lt-ltb i (size - 1) k)
      go i j h b (no k) = rw (le-ltb i (size - 1) (omega arith), entry_below i j (omega arith), ne_eqb j (i + 1) (omega arith))

  pub all_rows : (size : ℕ) (p q : List Float) → n < size → p ≡ rows_to n size (augmented_entry n a c x) → q ≡ chained n size (size - 1 - n) p → q ≡ mat size (augmented_entry n a c x)
  all_rows size p q l e d =
      let k : n + (size - 1 - n) ≡ size - 1 = omega arith in
      d ∙ rw (e, chained_rows size (size - 1 - n) (omega arith), k) (rows_all size l)

-- ---- the row sums
-- a one or +0.0
bit : Bool → Float
bit b = cond b one zero+

bit_abs : (b : Bool) → abs (bit b) ≡ bit b
unfolding bit abs of_bits of_fields odd count_trailing_zeros
bit_abs true = refl
bit_abs false = refl

bit_more : (b : Bool) → bit false ⊕ bit b ≡ bit b
unfolding bit add sum round units size span climb of_bits of_fields odd count_trailing_zeros
bit_more true = refl
bit_more false = refl

bit_same : bit true ⊕ bit false ≡ bit true
unfolding bit add sum round units size span climb of_bits of_fields odd count_trailing_zeros
bit_same = refl

bit_admitted : (b : Bool) → admitted_sum (bit b) ≡ true
unfolding bit admitted_sum finite le lt eq of_bits of_fields odd count_trailing_zeros
bit_admitted true = refl
bit_admitted false = refl

-- a one among +0.0, past the first place
one_among : (p k : ℕ) → 1 ≤ p → sum_of (suc k) (λ j. abs (bit (eqb j p))) ≡ bit (ltb p (suc k))
unfolding sum_of
one_among p zero h = rw (ne_eqb 0 p (omega arith), le-ltb p 1 (omega arith), bit_abs)
one_among p (suc k) h = rw (one_among p k h, bit_abs) (go (dec_lt p (suc k)) (ℕ_discrete (suc k) p))
  where
    go : Dec (p < suc k) → Dec (suc k ≡ p) → bit (ltb p (suc k)) ⊕ bit (eqb (suc k) p) ≡ bit (ltb p (suc (suc k)))
    go (yes l) d = rw (lt-ltb p (suc k) l, ne_eqb (suc k) p (omega arith), lt-ltb p (suc (suc k)) (omega arith)) bit_same
    go (no l) (yes e) = rw (le-ltb p (suc k) (omega arith), eq-eqb (suc k) p e, lt-ltb p (suc (suc k)) (omega arith)) (bit_more true)
    go (no l) (no e) = rw (le-ltb p (suc k) (omega arith), ne_eqb (suc k) p e, le-ltb p (suc (suc k)) (omega arith)) (bit_more false)

every_true : (n k : ℕ) (f : ℕ → Bool) → ((i : ℕ) → n ≤ i → i < n + k → f i ≡ true) → every (n + k) f ≡ every n f
unfolding every
every_true n zero f h = rw add-zero
every_true n (suc k) f h = rw (add-suc, h (n + k) (omega arith) (omega arith), every_true n k f (λ i l u. h i l (omega arith))) (and-true (every n f))

module _ (n : ℕ) (a : List Float) (c : Float) (order : ℕ) (x : List Float) (some : 1 ≤ n) (more : 1 ≤ order) where
  row_items : (i : ℕ) → i < n + order → row_sum (augmented n a c order x) (n + order) i ≡ sum_of (n + order) (λ j. abs (augmented_entry n a c x i j))
  unfolding row_sum augmented
  row_items i h = sum_ext (n + order) _ _ (λ j l. ap abs (mat_at (n + order) (augmented_entry n a c x) i j h l))

  -- a row of a: past the input stands +0.0
  row_in : (i : ℕ) → i < n → row_sum (augmented n a c order x) (n + order) i ≡ sum_of (n + 1) (λ j. abs (input_row n a c (x ! i) i j))
  unfolding bit
  row_in i h =
      let e : n + order ≡ n + 1 + (order - 1) = omega arith in
      row_items i (omega arith)
      ∙ ap (λ k. sum_of k (λ j. abs (augmented_entry n a c x i j))) e
      ∙ sum_rest (n + 1) (order - 1) (λ j. abs (augmented_entry n a c x i j)) (omega arith) (λ j. abs_sign (augmented_entry n a c x i j))
      (λ j l. ap abs (entry_past n a c x i j h (omega arith)) ∙ bit_abs false)
      ∙ sum_ext (n + 1) _ _ (λ j l. ap abs (sym (entry_in n a c x i j h (omega arith))))

  -- a row below: a one or nothing
  row_under : (i : ℕ) → n ≤ i → i < n + order → admitted_sum (row_sum (augmented n a c order x) (n + order) i) ≡ true
  unfolding bit
  row_under i h l =
      let e : n + order ≡ suc (n + order - 1) = omega arith in
      ap admitted_sum
      (row_items i l
      ∙ sum_ext (n + order) _ (λ j. abs (bit (eqb j (i + 1)))) (λ j _. ap abs (entry_below n a c x i j h))
      ∙ ap (λ k. sum_of k (λ j. abs (bit (eqb j (i + 1))))) e
      ∙ one_among (i + 1) (n + order - 1) (omega arith))
      ∙ bit_admitted (ltb (i + 1) (suc (n + order - 1)))

  pub sums_admitted : admitted (augmented n a c order x) (n + order) ≡ input_admitted n a c x
  unfolding admitted input_admitted admitted_sum
  sums_admitted = every_true n order _ row_under ∙ every_ext n _ _ (λ i h. ap (λ z. finite z && le z limit) (row_in i h))

-- ---- an action that is wanted, and one that is not
pub wanted_is : (b : Bool) (k : Option Action) (l : Tried) → b ≡ true → k ≡ made l → k ≡ made (if_wanted b l)
unfolding if_wanted
wanted_is b k l h e = rw h e

-- one that is not: its row sums are admitted, or not
unwanted : (n : ℕ) (a : List Float) (c : Float) (order : ℕ) (x : List Float) → 1 ≤ n → 1 ≤ order
    → if_wanted false (phi_action n a c order x) ≡ record { v = zeros; tally = tested (input_admitted n a c x) }
unfolding if_wanted phi_action checked
unwanted n a c order x s o = rw (single_ok, sums_admitted n a c order x s o)

pub phi_nothing : (b : Bool) (k : Action) (n : ℕ) (a : List Float) (c : Float) (order : ℕ) (x : List Float) → b ≡ false → 1 ≤ n → 1 ≤ order
    → input_admitted n a c x ≡ true → taken k ≡ nothing → Some k ≡ made (if_wanted b (phi_action n a c order x))
unfolding nothing clean
phi_nothing b k n a c order x h s o e t = is_made k _ (rw (h, unwanted n a c order x s o, e) t)

pub phi_unadmitted : (b : Bool) (n : ℕ) (a : List Float) (c : Float) (order : ℕ) (x : List Float) → b ≡ false → 1 ≤ n → 1 ≤ order
    → input_admitted n a c x ≡ false → None ≡ made (if_wanted b (phi_action n a c order x))
unfolding tested
phi_unadmitted b n a c order x h s o e = none_made _ (rw (h, unwanted n a c order x s o, e))

-- a term reports what its action does
pub term_report : (b : Bool) (k : Option Action) (n : ℕ) (a : List Float) (c : Float) (order : ℕ) (d : Float) (x : List Float) → b ≡ false
    → k ≡ made (if_wanted false (phi_action n a c order x)) → k ≡ made (if_wanted b (phi_term n a c order d x))
unfolding if_wanted phi_term over
term_report b k n a c order d x h e = rw h e
