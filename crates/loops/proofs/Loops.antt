-- The three steps of a loop's invariant, for each shape of loop: no turn yet, one turn more, and the end. Assumes nothing.
use Rattle.std.proofs.Common.{ℕ, zero, suc, ◌+◌, ◌-◌, ◌≤◌, ◌<◌, ◌≡◌, refl, sym, ap, ◌∙◌, Bool, true, false, ◌&&◌, ◌≢◌, List, [], ◌∷◌, ◌++◌, arith, get_or, length, drop, append-nil, Float}
use Rattle.std.proofs.Math.Bool.{and-true}
use Rattle.std.proofs.Math.Numerals.{add-one}
use Rattle.std.proofs.Math.Nat.{add-zero, add-suc, suc-add, zero-add, not-suc-le-zero}
use Rattle.std.proofs.Math.Decide.{ℕ_discrete}
use Rattle.std.specs.Float.Ieee.{nan}
use Rattle.std.proofs.lemmas.List.{get_or-drop}
use Rattle.std.proofs.Math.ListN.{set, replicate, length-append, length-drop, get_or-eq_default}
use Rattle.std.proofs.Math.Seq.{set_at, append_snoc, drop-cons, drop-length, get_or-append-add}
use Rattle.loops.specs.Loop.{iter, every, from, tab, fill, stores, ◌!◌}
use Rattle.loops.proofs.Bools.{both_true}

-- ---- iter
-- turns that do the same leave the same
pub iter_ext : {A : Type 0} (n : ℕ) (f g : ℕ → A → A) (s : A) → ((k : ℕ) → k < n → (x : A) → f k x ≡ g k x) → iter n f s ≡ iter n g s
unfolding iter
iter_ext zero f g s h = refl
iter_ext (suc n) f g s h = rw (iter_ext n f g s (λ k l. h k (omega arith)), h n (omega arith))

-- ---- every
pub every_none : (f : ℕ → Bool) → true ≡ every 0 f
unfolding every
every_none f = refl

pub every_step : (f : ℕ → Bool) (i : ℕ) (b r : Bool) → b ≡ every i f → r ≡ f i → (b && r) ≡ every (i + 1) f
unfolding every
every_step f i b r e h = rw (add-one, e, h)

pub every_end : (f : ℕ → Bool) (i n : ℕ) (b : Bool) → b ≡ every i f → i ≡ n → b ≡ every n f
every_end f i n b e h = rw (← h) e

-- what holds of all holds of each
pub every_at : (n : ℕ) (f : ℕ → Bool) → every n f ≡ true → (i : ℕ) → i < n → f i ≡ true
unfolding every
every_at zero f h i l = absurd (not-suc-le-zero l)
every_at (suc n) f h i l = go (ℕ_discrete i n) (λ k. every_at n f both.0 i k)
  where
    both : (every n f ≡ true) × (f n ≡ true)
    both = both_true (every n f) (f n) h

    go : Dec (i ≡ n) → (i < n → f i ≡ true) → f i ≡ true
    go (yes e) ih = rw e both.1
    go (no ne) ih = ih (omega arith)

-- where one fails, not all hold
pub every_fails : (n : ℕ) (f : ℕ → Bool) (i : ℕ) → i < n → f i ≡ false → every n f ≡ false
every_fails n f i l h = go (every n f) refl
  where
    go : (b : Bool) → every n f ≡ b → b ≡ false
    go true e = cc (every_at n f e i l)
    go false e = refl

-- the same tests hold together
pub every_ext : (n : ℕ) (f g : ℕ → Bool) → ((k : ℕ) → k < n → f k ≡ g k) → every n f ≡ every n g
unfolding every
every_ext zero f g p = refl
every_ext (suc n) f g p = rw (every_ext n f g (λ k h. p k (omega arith)), p n (omega arith))

-- what holds of each holds of all
pub every_of : (n : ℕ) (f : ℕ → Bool) → ((i : ℕ) → i < n → f i ≡ true) → every n f ≡ true
unfolding every
every_of zero f h = refl
every_of (suc n) f h = rw (every_of n f (λ i l. h i (omega arith)), h n (omega arith))

-- where all others hold, one test decides
pub every_one : (n : ℕ) (f : ℕ → Bool) (j : ℕ) → j < n → ((i : ℕ) → i < n → i ≢ j → f i ≡ true) → every n f ≡ f j
unfolding every
every_one zero f j l h = absurd (not-suc-le-zero l)
every_one (suc n) f j l h = go (ℕ_discrete j n) (λ k. every_one n f j k (λ i q ne. h i (omega arith) ne))
  where
    go : Dec (j ≡ n) → (j < n → every n f ≡ f j) → (every n f && f n) ≡ f j
    go (yes e) ih = rw (e, every_of n f (λ i q. h i (omega arith) (omega arith)))
    go (no ne) ih = rw (ih (omega arith), h n (omega arith) (omega arith)) (and-true (f j))

-- ---- lists
-- a place that is not there reads as a NaN
pub past_end : (x : List Float) (p : ℕ) → length x ≤ p → x ! p ≡ nan
past_end x p h = get_or-eq_default x nan h

-- past two lists of one length stands what follows them
pub append_past : (x y z : List Float) (i : ℕ) → length x ≡ length y → length x ≤ i → (x ++ z) ! i ≡ (y ++ z) ! i
append_past x y z i e h =
    let a : i ≡ length x + (i - length x) = omega arith in
    let b : length y + (i - length x) ≡ i = omega arith in
    rw a (get_or-append-add x z (i - length x) nan ∙ sym (get_or-append-add y z (i - length x) nan) ∙ rw (b, ← a))

-- ---- tab
length_from : {A : Type 0} (n i : ℕ) (f : ℕ → A) → length (from n i f) ≡ n
unfolding from
length_from zero i f = refl
length_from (suc n) i f = ap suc (length_from n (suc i) f)

get_or-from : {A : Type 0} (d : A) (n i : ℕ) (f : ℕ → A) (p : ℕ) → p < n → get_or (from n i f) p d ≡ f (i + p)
unfolding from
get_or-from d zero i f p h = absurd (not-suc-le-zero h)
get_or-from d (suc n) i f zero h = ap f (sym (add-zero i))
get_or-from d (suc n) i f (suc p) h = get_or-from d n (suc i) f p (omega arith) ∙ ap f (omega arith)

from_suc : {A : Type 0} (n i : ℕ) (f : ℕ → A) → from (suc n) i f ≡ from n i f ++ (f (i + n) ∷ [])
unfolding from
from_suc zero i f = rw add-zero
from_suc (suc n) i f = ap (λ l. f i ∷ l) (rw (add-suc, ← suc-add) (from_suc n (suc i) f))

pub length-tab : {A : Type 0} (n : ℕ) (f : ℕ → A) → length (tab n f) ≡ n
unfolding tab
length-tab n f = length_from n 0 f

pub get_or-tab : {A : Type 0} (d : A) (n : ℕ) (f : ℕ → A) (p : ℕ) → p < n → get_or (tab n f) p d ≡ f p
unfolding tab
get_or-tab d n f p h = get_or-from d n 0 f p h ∙ ap f (zero-add p)

pub tab_at : (n : ℕ) (f : ℕ → Float) (p : ℕ) → p < n → tab n f ! p ≡ f p
tab_at n f p h = get_or-tab nan n f p h

pub tab-suc : {A : Type 0} (n : ℕ) (f : ℕ → A) → tab (suc n) f ≡ tab n f ++ (f n ∷ [])
unfolding tab
tab-suc n f = rw zero-add at (from_suc n 0 f)

-- ---- fill
pub length-fill : {A : Type 0} (n : ℕ) (f : ℕ → A) (o : List A) → n ≤ length o → length (fill n f o) ≡ length o
unfolding fill
length-fill n f o h = rw (length-append, length-tab, length-drop) (omega arith)

pub fill_none : {A : Type 0} (f : ℕ → A) (o : List A) → o ≡ fill 0 f o
unfolding fill tab from
fill_none f o = refl

pub fill_step : {A : Type 0} (d : A) (f : ℕ → A) (i : ℕ) (o x : List A) → x ≡ fill i f o → i < length o → set x i (f i) ≡ fill (i + 1) f o
unfolding fill
fill_step d f i o x e h =
    rw (add-one, e, drop-cons o i d, set_at (tab i f) (get_or o i d) (drop (suc i) o) (f i) i (length-tab i f), tab-suc, append_snoc)

pub fill_call : {A : Type 0} (d : A) (f : ℕ → A) (i : ℕ) (o x : List A) (y : A) → x ≡ fill i f o → i < length o → y ≡ f i → set x i y ≡ fill (i + 1) f o
fill_call d f i o x y e h k = rw k (fill_step d f i o x e h)

pub fill_all : {A : Type 0} (f : ℕ → A) (i : ℕ) (o x : List A) → x ≡ fill i f o → i ≡ length o → x ≡ tab (length o) f
unfolding fill
fill_all f i o x e h = rw (h, drop-length, append-nil) at e

-- the next place is still as it was
pub fill_old : {A : Type 0} (d : A) (f : ℕ → A) (i : ℕ) (o x : List A) → x ≡ fill i f o → get_or x i d ≡ get_or o i d
unfolding fill
fill_old d f i o x e =
    let h : i ≡ length (tab i f) + 0 = rw length-tab (sym (add-zero i)) in
    rw e (ap (λ k. get_or (tab i f ++ drop i o) k d) h ∙ get_or-append-add (tab i f) (drop i o) 0 d ∙ get_or-drop i o 0 d ∙ ap (λ k. get_or o k d) (add-zero i))

-- ---- equal entries
from_same : {A : Type 0} (n i : ℕ) (x : A) → replicate n x ≡ from n i (λ j. x)
unfolding from
from_same zero i x = refl
from_same (suc n) i x = ap (λ l. x ∷ l) (from_same n (suc i) x)

pub tab_same : {A : Type 0} (n : ℕ) (x : A) → replicate n x ≡ tab n (λ j. x)
unfolding tab
tab_same n x = from_same n 0 x

-- ---- stores
pub stores_none : (g : ℕ → Float → Float) (b : ℕ) (o : List Float) → o ≡ stores g b 0 o
unfolding stores iter
stores_none g b o = refl

pub stores_step : (g : ℕ → Float → Float) (b j : ℕ) (o p : List Float) → p ≡ stores g b j o → set p (b + j) (g j (p ! (b + j))) ≡ stores g b (j + 1) o
unfolding stores iter
stores_step g b j o p e = rw (add-one, e)

-- the same from the first place on
pub stores_step0 : (g : ℕ → Float → Float) (j : ℕ) (o p : List Float) → p ≡ stores g 0 j o → set p j (g j (p ! j)) ≡ stores g 0 (j + 1) o
stores_step0 g j o p e = rw zero-add at (stores_step g 0 j o p e)
