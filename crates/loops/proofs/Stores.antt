-- A list is known by its length and what stands at each place: so is a run of stores, and two runs are one. Assumes nothing.
use Rattle.std.proofs.Common.{ℕ, zero, suc, ◌+◌, ◌-◌, ◌*◌, ◌<◌, ◌≤◌, ◌≡◌, refl, sym, ap, ◌∙◌, ◌≢◌, List, ◌++◌, arith, length, take, Float, Bool}
use Rattle.std.proofs.Math.Nat.{add-suc, add-zero, zero-add, zero-mul, suc-mul, not-suc-le-zero}
use Rattle.std.proofs.Math.Numerals.{add-one}
use Rattle.std.proofs.Math.Decide.{ℕ_discrete, dec_lt}
use Rattle.std.specs.Float.Ieee.{nan}
use Rattle.std.proofs.Math.ListN.{set, length-set, length-append, length-drop}
use Rattle.std.proofs.Math.Seq.{take-suc, get_or-set_same, get_or-set_other, set-get_or, ext_get_or, get_or-append-add, length-take-le}
use borrow.Rule.Slice.PartMut.{put_mid}
use Rattle.std.specs.List.{list_all}
use Rattle.std.proofs.lemmas.List.{get_or-take, get_or-drop}
use Rattle.std.proofs.lemmas.List.Folds.{list_all-append}
use Rattle.std.proofs.Math.Bool.{and-true}
use Rattle.std.proofs.lemmas.Slice.{take-put_mid_below, take-put_mid, drop-put_mid}
use Rattle.loops.specs.Loop.{iter, every, tab, stores, ◌!◌}
use Rattle.loops.proofs.Loops.{length-tab, tab_at}

-- a list is a tab by its entries
pub is_tab : (n : ℕ) (f : ℕ → Float) (l : List Float) → length l ≡ n → ((p : ℕ) → p < n → l ! p ≡ f p) → l ≡ tab n f
is_tab n f l e h =
    ext_get_or nan l (tab n f) (e ∙ sym (length-tab n f)) (λ p q. let k : p < n = omega arith in h p k ∙ sym (tab_at n f p k))

-- two tabs of the same entries are one
pub tab_ext : (n : ℕ) (f g : ℕ → Float) → ((p : ℕ) → p < n → f p ≡ g p) → tab n f ≡ tab n g
tab_ext n f g h = is_tab n g (tab n f) (length-tab n f) (λ p q. tab_at n f p q ∙ h p q)

-- the first n of a list are its tab
pub tab_first : (x : List Float) (n : ℕ) → n ≤ length x → take n x ≡ tab n (λ i. x ! i)
tab_first x n h = is_tab n (λ i. x ! i) (take n x) (length-take-le n x h) (λ p q. get_or-take n x p nan q)

-- the library's test of each, of the first n
pub all_first : (p : Float → Bool) (x : List Float) (n : ℕ) → n ≤ length x → list_all p (take n x) ≡ every n (λ i. p (x ! i))
unfolding every
all_first p x zero h = refl
all_first p x (suc n) h = rw (take-suc x n nan (omega arith), list_all-append, all_first p x n (omega arith), and-true)

-- ---- what stands where after a run of stores
stores-zero : (g : ℕ → Float → Float) (b : ℕ) (o : List Float) → stores g b zero o ≡ o
unfolding stores iter
stores-zero g b o = refl

pub stores-suc : (g : ℕ → Float → Float) (b n : ℕ) (o : List Float) → stores g b (suc n) o ≡ set (stores g b n o) (b + n) (g n (stores g b n o ! (b + n)))
unfolding stores iter
stores-suc g b n o = refl

pub length-stores : (g : ℕ → Float → Float) (b n : ℕ) (o : List Float) → length (stores g b n o) ≡ length o
length-stores g b zero o = rw stores-zero
length-stores g b (suc n) o = rw (stores-suc, length-set) (length-stores g b n o)

pub stores_out : (g : ℕ → Float → Float) (b n : ℕ) (o : List Float) (p : ℕ) → ((j : ℕ) → j < n → p ≢ b + j) → stores g b n o ! p ≡ o ! p
stores_out g b zero o p h = rw stores-zero
stores_out g b (suc n) o p h =
    let ne : p ≢ b + n = h n (omega arith) in
    rw (stores-suc, get_or-set_other) (stores_out g b n o p (λ j q. h j (omega arith)))

pub stores_in : (g : ℕ → Float → Float) (b n : ℕ) (o : List Float) (j : ℕ) → j < n → b + j < length o → stores g b n o ! (b + j) ≡ g j (o ! (b + j))
stores_in g b zero o j h r = absurd (not-suc-le-zero h)
stores_in g b (suc n) o j h r = go (ℕ_discrete j n) (λ q. stores_in g b n o j q r)
  where
    go : Dec (j ≡ n) → (j < n → stores g b n o ! (b + j) ≡ g j (o ! (b + j))) → stores g b (suc n) o ! (b + j) ≡ g j (o ! (b + j))
    go (yes e) ih =
        let k : b + n < length (stores g b n o) = rw length-stores (omega arith) in
        rw (e, stores-suc, get_or-set_same, stores_out g b n o (b + n) (λ j q. omega arith))
    go (no ne) ih =
        let ne' : b + j ≢ b + n = omega arith in
        rw (stores-suc, get_or-set_other) (ih (omega arith))

-- two runs of the same stores are one
pub stores_ext : (f g : ℕ → Float → Float) (b n : ℕ) (o : List Float) → ((j : ℕ) → j < n → (x : Float) → f j x ≡ g j x) → stores f b n o ≡ stores g b n o
stores_ext f g b zero o h = rw (stores-zero, stores-zero)
stores_ext f g b (suc n) o h = rw (stores-suc, stores-suc, stores_ext f g b n o (λ j q x. h j (omega arith) x), h n (omega arith))

-- a run over all of a list
pub stores_all : (g : ℕ → Float → Float) (n : ℕ) (o : List Float) → length o ≡ n → stores g 0 n o ≡ tab n (λ p. g p (o ! p))
stores_all g n o e = is_tab n _ _ (length-stores g 0 n o ∙ e) (λ p q. rw zero-add at (stores_in g 0 n o p q (omega arith)))

-- two runs over the same places are one
pub stores-stores : (f g : ℕ → Float → Float) (b n : ℕ) (o : List Float) → b + n ≤ length o → stores g b n (stores f b n o) ≡ stores (λ j x. g j (f j x)) b n o
stores-stores f g b n o r = ext_get_or nan _ _ (rw (length-stores, length-stores, length-stores)) (λ p q. go p (dec_lt p b) (dec_lt p (b + n)))
  where
    go : (p : ℕ) → Dec (p < b) → Dec (p < b + n) → stores g b n (stores f b n o) ! p ≡ stores (λ j x. g j (f j x)) b n o ! p
    go p (yes a) d =
        let away : (j : ℕ) → j < n → p ≢ b + j = λ j q. omega arith in
        rw (stores_out, stores_out, stores_out)
    go p (no a) (yes m) =
        let e : p ≡ b + (p - b) = omega arith in
        let q : p - b < n = omega arith in
        let l : b + (p - b) < length o = omega arith in
        let l' : b + (p - b) < length (stores f b n o) = rw length-stores l in
        rw (e, stores_in, stores_in, stores_in)
    go p (no a) (no m) =
        let away : (j : ℕ) → j < n → p ≢ b + j = λ j q. omega arith in
        rw (stores_out, stores_out, stores_out)

-- a run, and a run of what follows it
pub stores_join : (f g : ℕ → Float → Float) (b n : ℕ) (o : List Float) → ((j : ℕ) → j < n → (x : Float) → g j x ≡ f (b + j) x) → stores g b n (stores f 0 b o) ≡ stores f 0 (b + n) o
stores_join f g b zero o h = rw (stores-zero, add-zero)
stores_join f g b (suc n) o h =
    rw (stores-suc, add-suc, stores-suc, zero-add, stores_join f g b n o (λ j q x. h j (omega arith) x), h n (omega arith))

-- stores that change nothing
pub stores_same : (g : ℕ → Float → Float) (b n : ℕ) (o : List Float) → ((j : ℕ) → j < n → (x : Float) → g j x ≡ x) → stores g b n o ≡ o
stores_same g b zero o h = stores-zero g b o
stores_same g b (suc n) o h = rw (stores-suc, h n (omega arith), stores_same g b n o (λ j q x. h j (omega arith) x), set-get_or)

-- the next place is still as it was
pub ahead : (g : ℕ → Float → Float) (k : ℕ) (o p : List Float) → p ≡ stores g 0 k o → p ! k ≡ o ! k
ahead g k o p e = rw e (stores_out g 0 k o k (λ j q. omega arith))

-- a loop over all of a list
pub run_all : (g : ℕ → Float → Float) (o p : List Float) (k : ℕ) → p ≡ stores g 0 k o → k ≡ length o → p ≡ tab (length o) (λ q. g q (o ! q))
run_all g o p k e h = rw h at e ∙ stores_all g (length o) o refl

-- a part that is written anew, lent as a slice, is a run of stores
pub put_part : (f : ℕ → Float) (b n k : ℕ) (o y : List Float) → k ≡ n → y ≡ tab n f → b + n ≤ length o → put_mid b k o y ≡ stores (λ j x. f j) b n o
put_part f b n k o y h e r = ext_get_or nan _ _ (long ∙ sym (length-stores (λ j x. f j) b n o)) (λ p q. go p (dec_lt p b) (dec_lt p (b + n)))
  where
    size : length y ≡ n
    size = rw e (length-tab n f)

    before : b ≤ length o
    before = omega arith

    long : length (put_mid b k o y) ≡ length o
    long = simp (length-append, length-drop) (let l : length (take b o) ≡ b = length-take-le b o before in omega (arith, size))

    go : (p : ℕ) → Dec (p < b) → Dec (p < b + n) → put_mid b k o y ! p ≡ stores (λ j x. f j) b n o ! p
    go p (yes a) d =
        let away : (j : ℕ) → j < n → p ≢ b + j = λ j q. omega arith in
        rw stores_out (sym (get_or-take b (put_mid b k o y) p nan a) ∙ ap (λ z. z ! p) (take-put_mid_below b k o y b (omega arith) before) ∙ get_or-take b o p nan a)
    go p (no a) (yes m) =
        let s : p ≡ b + (p - b) = omega arith in
        let q : p - b < n = omega arith in
        let i : b + (p - b) < length o = omega arith in
        let t : p ≡ length (take b o) + (p - b) = rw (length-take-le b o before) s in
        let here : stores (λ j x. f j) b n o ! p ≡ f (p - b) = ap (λ z. stores (λ j x. f j) b n o ! z) s ∙ stores_in (λ j x. f j) b n o (p - b) q i in
        sym (get_or-take (b + n) (put_mid b k o y) p nan m) ∙ ap (λ z. z ! p) (take-put_mid b k o y (b + n) (omega (arith, size)) before)
        ∙ ap (λ z. (take b o ++ y) ! z) t ∙ get_or-append-add (take b o) y (p - b) nan ∙ ap (λ z. z ! (p - b)) e ∙ tab_at n f (p - b) q ∙ sym here
    go p (no a) (no m) =
        let away : (j : ℕ) → j < n → p ≢ b + j = λ j q. omega arith in
        let s : p ≡ b + n + (p - (b + n)) = omega arith in
        let fact = drop-put_mid b k o y (b + n) (omega arith) before (omega (arith, size)) in
        rw stores_out (ap (λ z. put_mid b k o y ! z) s ∙ sym (get_or-drop (b + n) (put_mid b k o y) (p - (b + n)) nan) ∙ ap (λ z. z ! (p - (b + n))) fact ∙ get_or-drop (b + n) o (p - (b + n)) nan ∙ ap (λ z. o ! z) (sym s))

-- stores over the first i rows of n places, and over one row more
pub rows_none : (f : ℕ → Float → Float) (n : ℕ) (z : List Float) → z ≡ stores f 0 (0 * n) z
rows_none f n z = rw zero-mul (sym (stores-zero f 0 z))

pub rows_step : (f g : ℕ → Float → Float) (n i : ℕ) (z p q : List Float) → ((j : ℕ) → j < n → (x : Float) → g j x ≡ f (i * n + j) x)
    → p ≡ stores f 0 (i * n) z → q ≡ stores g (i * n) n p → q ≡ stores f 0 ((i + 1) * n) z
rows_step f g n i z p q h e d = rw (add-one, suc-mul) (rw e at d ∙ stores_join f g (i * n) n z h)
