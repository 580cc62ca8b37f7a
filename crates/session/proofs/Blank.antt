-- Places that hold nothing: by their bits at once, eight a turn, past a place, and row by row; and stores that are taken back. Assumes nothing.
use Rattle.std.proofs.Math.Bool.{and-true, and-false, and_assoc, false≢true}
use Rattle.std.proofs.Math.Bool.{and_comm}
use Rattle.std.specs.List.{list_all, fold}
use Rattle.std.specs.Simd.{first_chunks}
use Rattle.std.proofs.Common.{take, drop, ℕ, zero, suc, ◌+◌, ◌-◌, ◌*◌, ◌/◌, ◌%◌, ◌≤◌, ◌<◌, min, ◌≡◌, refl, sym, ap, ◌∙◌, Bool, true, false, not, ◌&&◌, ◌||◌, List, [], ◌∷◌, ◌++◌, zero-mul, suc-mul, mul-zero, mul-suc, add_assoc, add_comm, add-zero, add-suc, arith, bit_or, T, ltb, eqb, Float, length, eq-eqb, ne_eqb, eqb-true, lt-ltb, le-ltb}
use Rattle.std.proofs.lemmas.List.Folds.{list_all-append}
use Rattle.std.proofs.Math.Seq.{take-add}
use Rattle.std.proofs.lemmas.List.{take-append-drop, length-take-le, length-drop, get_or-take, get_or-drop, take_all}
use Rattle.std.proofs.Math.Nat.{min-le_left, min-le_right, min-eq_left, min-eq_right, mod-eq_of_lt}
use Rattle.std.proofs.Math.Decide.{dec_lt, ℕ_discrete}
use lib.Bits.{or_add_and, and_le_l, and_le_r}
use Rattle.std.specs.Float.Ieee.{add, eq, nan, inf, fin, binary64, fits, is_nan, of_bits, to_bits, size, span, climb}
use lib.Ieee.Bits.{of_bits-to_bits}
use Rattle.std.proofs.Math.Seq.{set-get_or}
use Rattle.loops.specs.Loop.{every, stores, ◌!◌}
use Rattle.loops.proofs.Bools.{both_true}
use Rattle.loops.proofs.Loops.{every_at, every_ext, every_of, stores_none}
use Rattle.loops.proofs.Places.{slot_row, slot_column}
use Rattle.loops.proofs.Stores.{all_first, stores-suc, stores-stores}
use Rattle.float.specs.Arith.{◌⊕◌, mark, zero+, finite, plus_zero}
use Rattle.evaluation.specs.Evaluation.{all_finite}
use Rattle.session.specs.Session.{clear, in_answers, clear_answers}
use Rattle.float.proofs.Floats.{zero_number}
use Rattle.float.proofs.Marks.{marks, marked}
use Rattle.session.proofs.Clear.{zero_plus, plus_zero_is}

-- ---- every, in two stretches
pub every_split : (a b : ℕ) (f : ℕ → Bool) → every (a + b) f ≡ (every a f && every b (λ i. f (a + i)))
unfolding every
every_split a zero f = rw (add-zero, and-true)
every_split a (suc b) f = rw (add-suc, every_split a b f) (and_assoc (every a f) _ _)

-- ---- bits
-- the pattern of +0.0, and no other, has no bit set
no_bits : to_bits binary64 zero+ ≡ 0
unfolding to_bits size span climb of_bits
no_bits = refl

pattern : (x : Float) → T (fits binary64 x) → eqb (to_bits binary64 x) 0 ≡ plus_zero x
pattern x f = go (eqb (to_bits binary64 x) 0) (plus_zero x) refl refl
  where
    go : (a b : Bool) → eqb (to_bits binary64 x) 0 ≡ a → plus_zero x ≡ b → a ≡ b
    go true b e h =
        let z : zero+ ≡ x = ap (of_bits binary64) (sym (eqb-true (to_bits binary64 x) 0 e)) ∙ of_bits-to_bits binary64 x f in
        sym zero_plus ∙ ap plus_zero z ∙ h
    go false false e h = refl
    go false true e h = sym e ∙ eq-eqb (to_bits binary64 x) 0 (ap (to_bits binary64) (plus_zero_is x f h) ∙ no_bits)

-- two patterns together have no bit set just where neither has
or_none : (a b : ℕ) → eqb (bit_or a b) 0 ≡ (eqb a 0 && eqb b 0)
or_none a b = go (ℕ_discrete a 0) (ℕ_discrete b 0)
  where
    go : Dec (a ≡ 0) → Dec (b ≡ 0) → eqb (bit_or a b) 0 ≡ (eqb a 0 && eqb b 0)
    go (yes p) (yes q) = rw (eq-eqb a 0 p, eq-eqb b 0 q) (eq-eqb (bit_or a b) 0 (omega (arith, or_add_and a b)))
    go (no p) d = rw (ne_eqb a 0 p) (ne_eqb (bit_or a b) 0 (λ z. p (omega (arith, or_add_and a b, and_le_r a b))))
    go (yes p) (no q) = rw (eq-eqb a 0 p, ne_eqb b 0 q) (ne_eqb (bit_or a b) 0 (λ z. q (omega (arith, or_add_and a b, and_le_l a b))))

-- one place more, and all of them
pub bits_step : (bits : ℕ) (x : Float) → T (fits binary64 x) → eqb (bit_or bits (to_bits binary64 x)) 0 ≡ (eqb bits 0 && plus_zero x)
bits_step bits x f = rw (or_none, pattern x f)

blank_from : (bits : ℕ) (x : List Float) → ((i : ℕ) → T (fits binary64 (x ! i))) → eqb (fold (λ bits x. bit_or bits (to_bits binary64 x)) bits x) 0 ≡ (eqb bits 0 && list_all plus_zero x)
blank_from bits [] f = sym (and-true _)
blank_from bits (x ∷ rest) f = blank_from (bit_or bits (to_bits binary64 x)) rest (λ i. f (suc i)) ∙ rw (bits_step bits x (f 0)) (and_assoc (eqb bits 0) (plus_zero x) (list_all plus_zero rest))

pub blank_all : (x : List Float) → ((i : ℕ) → T (fits binary64 (x ! i))) → eqb (fold (λ bits x. bit_or bits (to_bits binary64 x)) 0 x) 0 ≡ list_all plus_zero x
blank_all x f = blank_from 0 x f

-- the same of the places of a list, one more
pub blank_step : (x : List Float) (from i bits : ℕ) → from ≤ i → T (fits binary64 (x ! i)) → eqb bits 0 ≡ every (i - from) (λ k. plus_zero (x ! (from + k)))
    → eqb (bit_or bits (to_bits binary64 (x ! i))) 0 ≡ every (i + 1 - from) (λ k. plus_zero (x ! (from + k)))
unfolding every
blank_step x from i bits h f e =
    let s : i + 1 - from ≡ suc (i - from) = omega arith in
    let t : from + (i - from) ≡ i = omega arith in
    rw (or_none, pattern (x ! i) f, e, s, t)

-- ---- eight places at once
-- a sum is a number only of numbers
numbers : (x y : Float) → T (not (is_nan (x ⊕ y))) → T (not (is_nan x)) × T (not (is_nan y))
unfolding add is_nan
numbers nan y h = absurd h
numbers (inf s) nan h = absurd h
numbers (inf s) (inf t) h = (tt, tt)
numbers (inf s) (fin t n d) h = (tt, tt)
numbers (fin s m e) nan h = absurd h
numbers (fin s m e) (inf t) h = (tt, tt)
numbers (fin s m e) (fin t n d) h = (tt, tt)

zeros : zero+ ⊕ zero+ ≡ zero+
unfolding mark
zeros = marks true true

zero_equal : eq zero+ zero+ ≡ true
unfolding mark
zero_equal = marked true

abbrev sum_of_eight : List Float → Float
sum_of_eight x = x ! 0 ⊕ x ! 2 ⊕ (x ! 4 ⊕ x ! 6) ⊕ (x ! 1 ⊕ x ! 3 ⊕ (x ! 5 ⊕ x ! 7))

abbrev bits_at : List Float → ℕ → ℕ
bits_at x i = to_bits binary64 (x ! i)

abbrev bits_of_eight : List Float → ℕ
bits_of_eight x =
    bit_or
    (bit_or (bit_or (bit_or (bits_at x 0) (bits_at x 1)) (bits_at x 2)) (bits_at x 3))
    (bit_or (bit_or (bit_or (bits_at x 4) (bits_at x 5)) (bits_at x 6)) (bits_at x 7))

abbrev Number : List Float → ℕ → Type 0
Number x i = T (not (is_nan (x ! i)))

-- the sum is 0 of numbers alone
pub eight_numbers : (x : List Float) → eq (sum_of_eight x) zero+ ≡ true → Number x 0 × Number x 1 × Number x 2 × Number x 3 × Number x 4 × Number x 5 × Number x 6 × Number x 7
eight_numbers x h =
    let a = numbers (x ! 0 ⊕ x ! 2 ⊕ (x ! 4 ⊕ x ! 6)) (x ! 1 ⊕ x ! 3 ⊕ (x ! 5 ⊕ x ! 7)) (zero_number (sum_of_eight x) h) in
    let b = numbers (x ! 0 ⊕ x ! 2) (x ! 4 ⊕ x ! 6) a.0 in
    let c = numbers (x ! 1 ⊕ x ! 3) (x ! 5 ⊕ x ! 7) a.1 in
    let d = numbers (x ! 0) (x ! 2) b.0 in
    let e = numbers (x ! 4) (x ! 6) b.1 in
    let f = numbers (x ! 1) (x ! 3) c.0 in
    let g = numbers (x ! 5) (x ! 7) c.1 in
    (d.0, f.0, d.1, f.1, e.0, g.0, e.1, g.1)

all_eight : (x : List Float) → length x ≡ 8 → list_all plus_zero x ≡ every 8 (λ i. plus_zero (x ! i))
all_eight x l = sym (ap (list_all plus_zero) (take_all 8 x (omega arith))) ∙ all_first plus_zero x 8 (omega arith)

-- and it is 0 of eight times +0.0
eight_not : (x : List Float) → length x ≡ 8 → ((i : ℕ) → T (fits binary64 (x ! i))) → eq (sum_of_eight x) zero+ ≡ false → list_all plus_zero x ≡ false
eight_not x l f h = go (list_all plus_zero x) refl
  where
    go : (b : Bool) → list_all plus_zero x ≡ b → b ≡ false
    go false e = refl
    go true e =
        let z : (i : ℕ) → i < 8 → x ! i ≡ zero+ = λ i q. plus_zero_is (x ! i) (f i) (every_at 8 (λ i. plus_zero (x ! i)) (sym (all_eight x l) ∙ e) i q) in
        let s : eq (sum_of_eight x) zero+ ≡ true =
        rw (z 0 (omega arith), z 1 (omega arith), z 2 (omega arith), z 3 (omega arith), z 4 (omega arith), z 5 (omega arith), z 6 (omega arith), z 7 (omega arith), zeros, zeros, zeros) zero_equal in
        absurd (false≢true (sym h ∙ s))

eight_bits : (x : List Float) → length x ≡ 8 → ((i : ℕ) → T (fits binary64 (x ! i))) → eqb (bits_of_eight x) 0 ≡ list_all plus_zero x
unfolding every
eight_bits x l f =
    let p : (i : ℕ) → eqb (bits_at x i) 0 ≡ plus_zero (x ! i) = λ i. pattern (x ! i) (f i) in
    rw (all_eight x l, or_none, or_none, or_none, or_none, or_none, or_none, or_none, p 0, p 1, p 2, p 3, p 4, p 5, p 6, p 7) (simp and_assoc)

pub with_eight : (bits : ℕ) (x : List Float) → length x ≡ 8 → ((i : ℕ) → T (fits binary64 (x ! i)))
    → eqb (bit_or bits (bits_of_eight x)) 0 ≡ (eqb bits 0 && list_all plus_zero x)
with_eight bits x l f = or_none bits (bits_of_eight x) ∙ ap (λ (b : Bool). eqb bits 0 && b) (eight_bits x l f)

pub without_eight : (bits : ℕ) (x : List Float) → length x ≡ 8 → ((i : ℕ) → T (fits binary64 (x ! i))) → eq (sum_of_eight x) zero+ ≡ false
    → false ≡ (eqb bits 0 && list_all plus_zero x)
without_eight bits x l f h = rw (eight_not x l f h) (sym (and-false (eqb bits 0)))

pub row_more : (bits a b : ℕ) (rows : List (List Float)) (row : List Float) → eqb a 0 ≡ (eqb bits 0 && list_all (list_all plus_zero) rows)
    → eqb b 0 ≡ (eqb a 0 && list_all plus_zero row) → eqb b 0 ≡ (eqb bits 0 && list_all (list_all plus_zero) (rows ++ row ∷ []))
row_more bits a b rows row e h = rw (h, e, list_all-append, and-true) (and_assoc (eqb bits 0) (list_all (list_all plus_zero) rows) (list_all plus_zero row))

-- the rows of eight, and the places behind them
in_rows : (p : Float → Bool) (w k : ℕ) (x : List Float) → list_all (list_all p) (first_chunks w k x) ≡ list_all p (take (k * w) x)
in_rows p w zero x = rw zero-mul
in_rows p w (suc k) x =
    let s : suc k * w ≡ w + k * w = suc-mul k w ∙ add_comm (k * w) w in
    rw (s, take-add, list_all-append, in_rows p w k (drop w x))

pub rest_and_rows : (p : Float → Bool) (w k : ℕ) (x : List Float) → (list_all p (drop (k * w) x) && list_all (list_all p) (first_chunks w k x)) ≡ list_all p x
rest_and_rows p w k x = and_comm (list_all p (drop (k * w) x)) _ ∙ rw (in_rows, ← (list_all-append p (take (k * w) x) (drop (k * w) x)), take-append-drop)

-- ---- tests of all places but the first ones
every_past : (m n : ℕ) (g : ℕ → Bool) → every m (λ p. ltb p n || g p) ≡ every (m - n) (λ i. g (n + i))
unfolding every
every_past zero n g = let z : zero - n ≡ zero = omega arith in rw z
every_past (suc m) n g = go (dec_lt m n) (every_past m n g)
  where
    go : Dec (m < n) → every m (λ p. ltb p n || g p) ≡ every (m - n) (λ i. g (n + i)) → (every m (λ p. ltb p n || g p) && (ltb m n || g m)) ≡ every (suc m - n) (λ i. g (n + i))
    go (yes h) e =
        let a : suc m - n ≡ zero = omega arith in
        let b : m - n ≡ zero = omega arith in
        rw (a, lt-ltb m n h, e, b)
    go (no h) e =
        let a : suc m - n ≡ suc (m - n) = omega arith in
        let b : n + (m - n) ≡ m = omega arith in
        rw (a, le-ltb m n (omega arith), e, b)

all_past : (x : List Float) (k : ℕ) → list_all plus_zero (drop k x) ≡ every (length x - k) (λ i. plus_zero (x ! (k + i)))
all_past x k = sym (ap (list_all plus_zero) (take_all (length (drop k x)) (drop k x) (omega arith))) ∙ all_first plus_zero (drop k x) (length (drop k x)) (omega arith)
    ∙ rw length-drop (every_ext (length x - k) _ _ (λ i l. rw get_or-drop))

pub clear_past : (used : ℕ) (x : List Float) → list_all plus_zero (drop used x) ≡ clear used x
unfolding clear
clear_past used x = all_past x used ∙ sym (every_past (length x) used (λ p. plus_zero (x ! p)))

-- ---- the places that hold no entry of an answer, row by row
rows : (n k : ℕ) (x : List Float) → 16 * k ≤ length x → list_all (clear n) (first_chunks 16 k x) ≡ every (16 * k) (λ p. ltb (p % 16) n || plus_zero (x ! p))
unfolding every clear
rows n zero x h = refl
rows n (suc k) x h =
    let w : 16 * suc k ≡ 16 + 16 * k = omega arith in
    let l : length (take 16 x) ≡ 16 = length-take-le 16 x (omega arith) in
    let f : ℕ → Bool = λ p. ltb (p % 16) n || plus_zero (x ! p) in
    let a = every_ext 16 (λ p. ltb p n || plus_zero (take 16 x ! p)) f (λ i q. rw (get_or-take, mod-eq_of_lt q)) in
    let b = every_ext (16 * k) (λ p. ltb (p % 16) n || plus_zero (drop 16 x ! p)) (λ i. f (16 + i)) (λ i q. let m : (16 + i) % 16 ≡ i % 16 = omega arith in rw (get_or-drop, m)) in
    rw (w, every_split 16 (16 * k) f, rows n k (drop 16 x) (omega (arith, length-drop 16 x)), l, a, b)

pub answers_by_rows : (x : List Float) (count n k : ℕ) → length x ≡ 320 → k ≡ min count 20
    → (list_all (clear n) (first_chunks 16 k (take (16 * k) x)) && list_all plus_zero (drop (16 * k) x)) ≡ clear_answers count n x
unfolding clear_answers
answers_by_rows x count n k l m =
    let low : k ≤ count = omega (arith, min-le_left count 20) in
    let f : ℕ → Bool = λ p. in_answers count n p || plus_zero (x ! p) in
    let t : 16 * k ≤ length x = omega (arith, min-le_right count 20) in
    let a = rows n k (take (16 * k) x) (omega (arith, length-take-le (16 * k) x t))
    ∙ every_ext (16 * k) (λ p. ltb (p % 16) n || plus_zero (take (16 * k) x ! p)) f (λ p q. rw (get_or-take, lt-ltb (p / 16) count (omega arith))) in
    let b = all_past x (16 * k) ∙ every_ext (length x - 16 * k) (λ i. plus_zero (x ! (16 * k + i))) (λ i. f (16 * k + i)) (λ i q. rw (le-ltb ((16 * k + i) / 16) count (behind i q))) in
    let s : 16 * k + (length x - 16 * k) ≡ length x = omega arith in
    rw (a, b, ← (every_split (16 * k) (length x - 16 * k) f), s)
  where
    behind : (i : ℕ) → i < length x - 16 * k → count ≤ (16 * k + i) / 16
    behind i q = go (dec_lt count 20)
      where
        go : Dec (count < 20) → count ≤ (16 * k + i) / 16
        go (yes h) = let e : min count 20 ≡ count = min-eq_left (omega arith) in omega arith
        go (no h) = let e : min count 20 ≡ 20 = min-eq_right (omega arith) in absurd (omega arith)

-- ---- places that hold nothing are finite
zero_is_finite : (x : Float) → plus_zero x ≡ true → finite x ≡ true
unfolding plus_zero finite
zero_is_finite nan e = e
zero_is_finite (inf s) e = e
zero_is_finite (fin s m e) p = refl

-- so that the first ones tell of all
pub finite_used : (used k : ℕ) (x : List Float) → k ≡ min used (length x) → clear used x ≡ true → all_finite (take k x) ≡ all_finite x
unfolding all_finite clear
finite_used used k x m c =
    let f : ℕ → Bool = λ p. finite (x ! p) in
    let low : k ≤ length x = omega (arith, min-le_right used (length x)) in
    let l : length (take k x) ≡ k = length-take-le k x low in
    let t : k + (length x - k) ≡ length x = omega arith in
    let a = every_ext k (λ p. finite (take k x ! p)) f (λ i q. rw get_or-take) in
    let b = every_of (length x - k) (λ i. f (k + i)) (λ i q. unused (k + i) (omega arith) (past i q)) in
    rw (l, a) (sym (rw (← t, every_split k (length x - k) f, b) (and-true (every k f))))
  where
    past : (i : ℕ) → i < length x - k → used ≤ k + i
    past i q = go (dec_lt used (length x))
      where
        go : Dec (used < length x) → used ≤ k + i
        go (yes h) = let e : min used (length x) ≡ used = min-eq_left (omega arith) in omega arith
        go (no h) = let e : min used (length x) ≡ length x = min-eq_right (omega arith) in absurd (omega arith)

    unused : (p : ℕ) → p < length x → used ≤ p → finite (x ! p) ≡ true
    unused p l h = zero_is_finite (x ! p) (rw (le-ltb p used h) at (every_at (length x) (λ p. ltb p used || plus_zero (x ! p)) c p l))

-- the same row by row
finite_row : (x : List Float) → length (take 16 x) ≡ 16 → all_finite (take 16 x) ≡ every 16 (λ p. finite (x ! p))
unfolding all_finite
finite_row x l = rw l (every_ext 16 (λ p. finite (take 16 x ! p)) (λ p. finite (x ! p)) (λ i q. rw get_or-take))

finite_rows : (n m k : ℕ) (x : List Float) → m ≡ min n 16 → 16 * k ≤ length x → list_all (clear n) (first_chunks 16 k x) ≡ true
    → list_all (λ row. all_finite (take m row)) (first_chunks 16 k x) ≡ every (16 * k) (λ p. finite (x ! p))
unfolding every
finite_rows n m zero x e h c = refl
finite_rows n m (suc k) x e h c =
    let w : 16 * suc k ≡ 16 + 16 * k = omega arith in
    let l : length (take 16 x) ≡ 16 = length-take-le 16 x (omega arith) in
    let both = both_true (clear n (take 16 x)) _ c in
    let f : ℕ → Bool = λ p. finite (x ! p) in
    let a = finite_used n m (take 16 x) (e ∙ ap (min n) (sym l)) both.0 ∙ finite_row x l in
    let b = finite_rows n m k (drop 16 x) e (omega (arith, length-drop 16 x)) both.1 ∙ every_ext (16 * k) (λ p. finite (drop 16 x ! p)) (λ i. f (16 + i)) (λ i q. rw get_or-drop) in
    rw (w, every_split 16 (16 * k) f, a, b)

pub finite_answers : (x : List Float) (count n k m : ℕ) → length x ≡ 320 → k ≡ min count 20 → m ≡ min n 16 → clear_answers count n x ≡ true
    → list_all (λ row. all_finite (take m row)) (first_chunks 16 k (take (16 * k) x)) ≡ all_finite x
unfolding all_finite
finite_answers x count n k m l e h c =
    let f : ℕ → Bool = λ p. finite (x ! p) in
    let t : 16 * k ≤ length x = omega (arith, min-le_right count 20) in
    let both = both_true _ _ (answers_by_rows x count n k l e ∙ c) in
    let a = finite_rows n m k (take (16 * k) x) h (omega (arith, length-take-le (16 * k) x t)) both.0
    ∙ every_ext (16 * k) (λ p. finite (take (16 * k) x ! p)) f (λ p q. rw get_or-take) in
    let z = sym (all_past x (16 * k)) ∙ both.1 in
    let b = every_of (length x - 16 * k) (λ i. f (16 * k + i)) (λ i q. zero_is_finite (x ! (16 * k + i)) (every_at (length x - 16 * k) (λ i. plus_zero (x ! (16 * k + i))) z i q)) in
    let s : 16 * k + (length x - 16 * k) ≡ length x = omega arith in
    a ∙ sym (rw (← s, every_split (16 * k) (length x - 16 * k) f, b) (and-true (every (16 * k) f)))

-- the same, place by place: past n in each answer's sixteen places, and all behind the last
every_rows : (w m : ℕ) (f : ℕ → Bool) → every (w * m) f ≡ every m (λ k. every w (λ i. f (w * k + i)))
unfolding every
every_rows w zero f = rw mul-zero
every_rows w (suc m) f = rw mul-suc (every_split (w * m) w f ∙ rw (every_rows w m f))

module _ (x : List Float) (count n : ℕ) where
  in_row : (k i : ℕ) → k < count → i < 16 → in_answers count n (16 * k + i) ≡ ltb i n
  in_row k i h l = rw (slot_row 16 k i l, slot_column 16 k i l, lt-ltb k count h)

  behind : (i : ℕ) → in_answers count n (16 * count + i) ≡ false
  behind i = rw (le-ltb ((16 * count + i) / 16) count (omega arith))

  row : (k : ℕ) → k < count → every 16 (λ i. in_answers count n (16 * k + i) || plus_zero (x ! (16 * k + i))) ≡ every (16 - n) (λ i. plus_zero (x ! (16 * k + n + i)))
  row k h =
      every_ext 16 _ (λ i. ltb i n || plus_zero (x ! (16 * k + i))) (λ i l. rw (in_row k i h l))
      ∙ every_past 16 n (λ i. plus_zero (x ! (16 * k + i)))
      ∙ every_ext (16 - n) _ _ (λ i l. rw add_assoc)

  pub answers_past : length x ≡ 320 → count ≤ 20
      → (every count (λ k. every (16 - n) (λ i. plus_zero (x ! (16 * k + n + i)))) && every (320 - 16 * count) (λ i. plus_zero (x ! (16 * count + i)))) ≡ clear_answers count n x
  unfolding clear_answers
  answers_past l h =
      let f : ℕ → Bool = λ p. in_answers count n p || plus_zero (x ! p) in
      let s : 16 * count + (320 - 16 * count) ≡ length x = omega arith in
      let a = every_ext count _ _ row in
      let b = every_ext (320 - 16 * count) (λ i. f (16 * count + i)) (λ i. plus_zero (x ! (16 * count + i))) (λ i q. rw (behind i)) in
      rw (← a, ← b, ← (every_rows 16 count f), ← (every_split (16 * count) (320 - 16 * count) f), s)

-- ---- stores that are taken back
-- stores of what stands there already
stores_kept : (g : ℕ → Float → Float) (b n : ℕ) (o : List Float) → ((j : ℕ) → j < n → g j (o ! (b + j)) ≡ o ! (b + j)) → stores g b n o ≡ o
stores_kept g b zero o h = sym (stores_none g b o)
stores_kept g b (suc n) o h = rw (stores-suc, stores_kept g b n o (λ j q. h j (omega arith)), h n (omega arith), set-get_or)

-- what was +0.0 is +0.0 again
pub wiped : (g : ℕ → Float → Float) (b n : ℕ) (x : List Float) → b + n ≤ length x → ((i : ℕ) → T (fits binary64 (x ! i)))
    → ((j : ℕ) → j < n → plus_zero (x ! (b + j)) ≡ true) → stores (λ _ _. zero+) b n (stores g b n x) ≡ x
wiped g b n x r f h = stores-stores g (λ _ _. zero+) b n x r ∙ stores_kept (λ _ _. zero+) b n x (λ j q. sym (plus_zero_is (x ! (b + j)) (f (b + j)) (h j q)))
