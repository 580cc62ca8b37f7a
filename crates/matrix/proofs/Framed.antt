-- Products by blocks: the sums of a block, product by product. Assumes nothing.
use Rattle.std.proofs.Common.{ℕ, ◌+◌, ◌-◌, ◌*◌, ◌<◌, ◌≤◌, ◌≡◌, ◌≢◌, refl, ap, ◌∙◌, Bool, true, false, cond, ◌&&◌, ◌||◌, lt-ltb, le-ltb, List, length, take, drop, arith, Float}
use Rattle.std.proofs.Math.Numerals.{add-one}
use Rattle.std.proofs.Math.Nat.{le_refl, mul-le-mul_right, add-mul}
use Rattle.std.proofs.Math.Bool.{and-false}
use Rattle.std.proofs.Math.Decide.{dec_lt}
use Rattle.std.proofs.Math.ListN.{replicate}
use borrow.Rule.Slice.PartMut.{put_mid}
use Rattle.std.proofs.lemmas.List.{get_or-take, get_or-drop}
use Rattle.loops.specs.Loop.{iter, tab, ◌!◌}
use Rattle.loops.proofs.Loops.{iter_ext, tab_at, tab_same, length-tab}
use Rattle.loops.proofs.Stores.{is_tab, tab_ext, put_part, stores_in, stores_out, length-stores}
use Rattle.loops.proofs.Places.{length-grid, grid_at, is_grid, row_within}
use Rattle.float.specs.Arith.{◌⊕◌, ◌⊗◌, zero+}
use Rattle.matrix.specs.Matrix.{at}
use Rattle.matrix.specs.Products.{dot, entry, within, framed}

pub dot-suc : (k : ℕ) (l r : ℕ → Float) → dot (k + 1) l r ≡ dot k l r ⊕ l k ⊗ r k
unfolding dot iter
dot-suc k l r = rw add-one

-- a block before its first products
pub no_products : (R W d w f : ℕ) (l rt : List Float) → replicate R (replicate W zero+) ≡ tab R (λ r. tab W (λ c. entry 0 l d rt w r (f + c)))
unfolding dot iter
no_products R W d w f l rt = rw (tab_same W zero+) (tab_same R _)

-- a row of a block with its next products
pub next_row : (k d w r f W s m p : ℕ) (l rt old new : List Float) → s ≡ k * w + f → m ≡ W → p ≡ r * d + k → old ≡ tab W (λ c. entry k l d rt w r (f + c))
    → new ≡ tab W (λ j. old ! j ⊕ l ! p ⊗ take m (drop s rt) ! j) → new ≡ tab W (λ c. entry (k + 1) l d rt w r (f + c))
next_row k d w r f W s m p l rt old new es em ep eo en =
    rw (eo, es, em, ep) at en ∙ tab_ext W _ _ (λ c h. let e : k * w + f + c ≡ k * w + (f + c) = omega arith in rw (tab_at W _ c h, get_or-take, get_or-drop, dot-suc, e))

-- ---- the numbers from i on
pub within_yes : (i n a : ℕ) → i ≤ a → a < i + n → within i n a ≡ true
within_yes i n a h k = rw (le-ltb a i h, lt-ltb a (i + n) k)

pub within_low : (i n a : ℕ) → a < i → within i n a ≡ false
within_low i n a h = rw (lt-ltb a i h)

pub within_high : (i n a : ℕ) → i + n ≤ a → within i n a ≡ false
within_high i n a h = rw (le-ltb a (i + n) h, and-false)

pub within_none : (i a : ℕ) → within i 0 a ≡ false
within_none i a = elim (dec_lt a i) [ yes h ↦ within_low i 0 a h | no h ↦ within_high i 0 a (omega arith) ]

pub within_join : (i m n a : ℕ) → within i (m + n) a ≡ (within (i + m) n a || within i m a)
within_join i m n a = go (dec_lt a i) (dec_lt a (i + m)) (dec_lt a (i + (m + n)))
  where
    go : Dec (a < i) → Dec (a < i + m) → Dec (a < i + (m + n)) → within i (m + n) a ≡ (within (i + m) n a || within i m a)
    go (yes h) k l = rw (within_low i (m + n) a h, within_low (i + m) n a (omega arith), within_low i m a h)
    go (no h) (yes k) l = rw (within_yes i (m + n) a (omega arith) (omega arith), within_low (i + m) n a k, within_yes i m a (omega arith) k)
    go (no h) (no k) (yes l) = rw (within_yes i (m + n) a (omega arith) l, within_yes (i + m) n a (omega arith) (omega arith))
    go (no h) (no k) (no l) = rw (within_high i (m + n) a (omega arith), within_high (i + m) n a (omega arith), within_high i m a (omega arith))

-- ---- what a block leaves
pub length-framed : (rows width i r j c : ℕ) (f : ℕ → ℕ → Float) (o : List Float) → length (framed rows width i r j c f o) ≡ rows * width
unfolding framed
length-framed rows width i r j c f o = length-grid rows width _

pub framed_at : (rows width i r j c : ℕ) (f : ℕ → ℕ → Float) (o : List Float) (a b : ℕ) → a < rows → b < width
    → framed rows width i r j c f o ! (a * width + b) ≡ cond (within i r a && within j c b) (f a b) (at o width a b)
unfolding framed
framed_at rows width i r j c f o a b h k = grid_at rows width _ a b h k

pub is_framed : (rows width i r j c : ℕ) (f : ℕ → ℕ → Float) (o p : List Float) → length p ≡ rows * width
    → ((a b : ℕ) → a < rows → b < width → p ! (a * width + b) ≡ cond (within i r a && within j c b) (f a b) (at o width a b)) → p ≡ framed rows width i r j c f o
unfolding framed
is_framed rows width i r j c f o p h k = is_grid rows width _ p h k

-- no rows, or no columns
pub framed_no_rows : (rows width i j c : ℕ) (f : ℕ → ℕ → Float) (o : List Float) → length o ≡ rows * width → o ≡ framed rows width i 0 j c f o
framed_no_rows rows width i j c f o h = is_framed rows width i 0 j c f o o h (λ a b k l. rw (within_none i a))

pub framed_no_columns : (rows width i r j : ℕ) (f : ℕ → ℕ → Float) (o : List Float) → length o ≡ rows * width → o ≡ framed rows width i r j 0 f o
framed_no_columns rows width i r j f o h = is_framed rows width i r j 0 f o o h (λ a b k l. rw (within_none j b, and-false))

-- rows behind rows, and columns behind columns
both_rows : (x y c : Bool) (f o : Float) → cond (x && c) f (cond (y && c) f o) ≡ cond ((x || y) && c) f o
both_rows true y true f o = refl
both_rows true y false f o = rw and-false
both_rows false y c f o = refl

both_columns : (x y c : Bool) (f o : Float) → cond (c && x) f (cond (c && y) f o) ≡ cond (c && (x || y)) f o
both_columns true y true f o = refl
both_columns false y true f o = refl
both_columns x y false f o = refl

pub more_rows : (rows width i r s n j c k : ℕ) (f : ℕ → ℕ → Float) (o p q : List Float) → k ≡ i + r → n ≡ r + s → p ≡ framed rows width i r j c f o
    → q ≡ framed rows width k s j c f p → q ≡ framed rows width i n j c f o
more_rows rows width i r s n j c k f o p q e m u v =
    is_framed rows width i n j c f o q (rw v (length-framed rows width k s j c f p))
    (λ a b h l. rw (v, framed_at rows width k s j c f p a b h l, u, framed_at rows width i r j c f o a b h l, m, within_join i r s a, e)
    (both_rows (within (i + r) s a) (within i r a) (within j c b) (f a b) (at o width a b)))

pub more_columns : (rows width i r j c d n k : ℕ) (f : ℕ → ℕ → Float) (o p q : List Float) → k ≡ j + c → n ≡ c + d → p ≡ framed rows width i r j c f o
    → q ≡ framed rows width i r k d f p → q ≡ framed rows width i r j n f o
more_columns rows width i r j c d n k f o p q e m u v =
    is_framed rows width i r j n f o q (rw v (length-framed rows width i r k d f p))
    (λ a b h l. rw (v, framed_at rows width i r k d f p a b h l, u, framed_at rows width i r j c f o a b h l, m, within_join j c d b, e)
    (both_columns (within (j + c) d b) (within j c b) (within i r a) (f a b) (at o width a b)))

-- ---- parts of a matrix that are written anew
-- what stands in a part, and besides it
pub part_in : (b n m p : ℕ) (o y : List Float) → m ≡ n → length y ≡ n → b + n ≤ length o → p < n → put_mid b m o y ! (b + p) ≡ y ! p
part_in b n m p o y e h r k =
    let w : y ≡ tab n (λ j. y ! j) = is_tab n _ y h (λ q l. refl) in
    ap (λ z. z ! (b + p)) (put_part (λ j. y ! j) b n m o y e w r) ∙ stores_in (λ j x. y ! j) b n o p k (omega arith)

pub part_out : (b n m p : ℕ) (o y : List Float) → m ≡ n → length y ≡ n → b + n ≤ length o → ((q : ℕ) → q < n → p ≢ b + q) → put_mid b m o y ! p ≡ o ! p
part_out b n m p o y e h r k =
    let w : y ≡ tab n (λ j. y ! j) = is_tab n _ y h (λ q l. refl) in
    ap (λ z. z ! p) (put_part (λ j. y ! j) b n m o y e w r) ∙ stores_out (λ j x. y ! j) b n o p k

pub length-part : (b n m : ℕ) (o y : List Float) → m ≡ n → length y ≡ n → b + n ≤ length o → length (put_mid b m o y) ≡ length o
length-part b n m o y e h r =
    let w : y ≡ tab n (λ j. y ! j) = is_tab n _ y h (λ q l. refl) in
    ap length (put_part (λ j. y ! j) b n m o y e w r) ∙ length-stores (λ j x. y ! j) b n o

-- one row of a block
pub row_put : (rows width i j c s m : ℕ) (f : ℕ → ℕ → Float) (p y : List Float) → length p ≡ rows * width → i < rows → j + c ≤ width → s ≡ i * width + j → m ≡ c
    → y ≡ tab c (λ k. f i (j + k)) → put_mid s m p y ≡ framed rows width i 1 j c f p
row_put rows width i j c s m f p y lp hi hj es em ey =
    is_framed rows width i 1 j c f p _ (length-part s c m p y em ly room ∙ lp) (λ a b h k. go a b h k (dec_lt a i) (dec_lt i a) (dec_lt b j) (dec_lt b (j + c)))
  where
    ly : length y ≡ c
    ly = rw ey (length-tab c _)

    room : s + c ≤ length p
    room = let l = row_within i rows width hi in rw (lp, es) (omega arith)

    out : (a b : ℕ) → ((q : ℕ) → q < c → a * width + b ≢ s + q) → (within i 1 a && within j c b) ≡ false
        → put_mid s m p y ! (a * width + b) ≡ cond (within i 1 a && within j c b) (f a b) (at p width a b)
    out a b k e = rw e (part_out s c m (a * width + b) p y em ly room k)

    here : (b : ℕ) → j ≤ b → b < j + c → put_mid s m p y ! (i * width + b) ≡ f i b
    here b v w =
        let e : i * width + b ≡ s + (b - j) = omega (arith, es) in
        let l : b - j < c = omega arith in
        let g : j + (b - j) ≡ b = omega arith in
        let z : y ! (b - j) ≡ f i b = rw (ey, tab_at c _ (b - j) l, g) in
        rw e (part_in s c m (b - j) p y em ly room l ∙ z)

    go : (a b : ℕ) → a < rows → b < width → Dec (a < i) → Dec (i < a) → Dec (b < j) → Dec (b < j + c) → put_mid s m p y ! (a * width + b) ≡ cond (within i 1 a && within j c b) (f a b) (at p width a b)
    go a b h k (yes x) z v w = let l = row_within a i width x in out a b (λ q n. omega (arith, es, l)) (rw (within_low i 1 a x))
    go a b h k (no x) (yes z) v w = let l = row_within i a width z in out a b (λ q n. omega (arith, es, l)) (rw (within_high i 1 a (omega arith)))
    go a b h k (no x) (no z) v w = let e : a ≡ i = omega arith in rw e (same v w)
      where
        same : Dec (b < j) → Dec (b < j + c) → put_mid s m p y ! (i * width + b) ≡ cond (within i 1 i && within j c b) (f i b) (at p width i b)
        same (yes v) w = out i b (λ q n. omega (arith, es)) (rw (within_low j c b v, and-false))
        same (no v) (no w) = out i b (λ q n. omega (arith, es)) (rw (within_high j c b (omega arith), and-false))
        same (no v) (yes w) = rw (within_yes i 1 i (le_refl i) (omega arith), within_yes j c b (omega arith) w) (here b (omega arith) w)

-- several rows of a block, lent as a part
pub rows_put : (rows width i r j c s m : ℕ) (f g : ℕ → ℕ → Float) (p x y : List Float) → length p ≡ rows * width → i + r ≤ rows → s ≡ i * width → m ≡ r * width
    → x ≡ take m (drop s p) → ((a b : ℕ) → a < r → b < c + j → g a b ≡ f (i + a) b) → y ≡ framed r width 0 r j c g x → put_mid s m p y ≡ framed rows width i r j c f p
rows_put rows width i r j c s m f g p x y lp hi es em ex eg ey =
    is_framed rows width i r j c f p _ (length-part s (r * width) m p y em ly room ∙ lp) (λ a b h k. go a b h k (dec_lt a i) (dec_lt a (i + r)))
  where
    ly : length y ≡ r * width
    ly = rw ey (length-framed r width 0 r j c g x)

    room : s + r * width ≤ length p
    room = let l = rw add-mul at (mul-le-mul_right width hi) in rw (lp, es) l

    out : (a b : ℕ) → ((q : ℕ) → q < r * width → a * width + b ≢ s + q) → within i r a ≡ false → put_mid s m p y ! (a * width + b) ≡ cond (within i r a && within j c b) (f a b) (at p width a b)
    out a b k e = rw e (part_out s (r * width) m (a * width + b) p y em ly room k)

    same : (u v w : Float) (b : ℕ) → (b < c + j → u ≡ v) → cond (true && within j c b) u w ≡ cond (true && within j c b) v w
    same u v w b q = elim (dec_lt b (j + c)) [ yes h ↦ ap (λ z. cond (true && within j c b) z w) (q (omega arith)) | no h ↦ rw (within_high j c b (omega arith)) ]

    inner : (a b : ℕ) → a < r → b < width → put_mid s m p y ! ((i + a) * width + b) ≡ cond (within i r (i + a) && within j c b) (f (i + a) b) (at p width (i + a) b)
    inner a b h k =
        let e : (i + a) * width + b ≡ s + (a * width + b) = rw (add-mul, es) (omega arith) in
        let l : a * width + b < r * width = let z = row_within a r width h in omega (arith, z) in
        let z : y ! (a * width + b) ≡ cond (within 0 r a && within j c b) (g a b) (at x width a b) = rw ey (framed_at r width 0 r j c g x a b h k) in
        let lm : a * width + b < m = omega (arith, em, l) in
        let o : at x width a b ≡ at p width (i + a) b = rw (ex, get_or-take, get_or-drop, e) in
        let u : within i r (i + a) ≡ true = within_yes i r (i + a) (omega arith) (omega arith) in
        let v : within 0 r a ≡ true = within_yes 0 r a (omega arith) (omega arith) in
        let w : put_mid s m p y ! ((i + a) * width + b) ≡ y ! (a * width + b) = ap (λ q. put_mid s m p y ! q) e ∙ part_in s (r * width) m (a * width + b) p y em ly room l in
        rw u (w ∙ z ∙ rw (v, o) (same (g a b) (f (i + a) b) (at p width (i + a) b) b (λ q. eg a b h q)))

    go : (a b : ℕ) → a < rows → b < width → Dec (a < i) → Dec (a < i + r) → put_mid s m p y ! (a * width + b) ≡ cond (within i r a && within j c b) (f a b) (at p width a b)
    go a b h k (yes x) z = let l = row_within a i width x in out a b (λ q n. omega (arith, es, l)) (within_low i r a x)
    go a b h k (no x) (no z) =
        let l : (i + r) * width ≤ a * width = mul-le-mul_right width (omega arith) in
        let w = rw add-mul at l in
        out a b (λ q n. omega (arith, es, w)) (within_high i r a (omega arith))
    go a b h k (no x) (yes z) = let e : a ≡ i + (a - i) = omega arith in rw e (inner (a - i) b (omega arith) k)

-- the products of a part's rows are those of the whole's
pub part_entry : (k c d w i r a b m : ℕ) (l x rt : List Float) → c ≡ d → m ≡ r * d → x ≡ take m (drop (i * d) l) → k ≤ d → a < r → entry k x c rt w a b ≡ entry k l d rt w (i + a) b
unfolding dot
part_entry k c d w i r a b m l x rt ec em ex h ha =
    rw ec (iter_ext k _ _ zero+ (λ q hq z.
    let s = row_within a r d ha in
    let p : a * d + q < m = omega (arith, em, s) in
    let e : (i + a) * d + q ≡ i * d + (a * d + q) = rw add-mul (omega arith) in
    rw (ex, get_or-take, get_or-drop, e)))
