-- A session's numbers and figures are its own, and figures are those of the session that they hold. Assumes nothing.
use Rattle.std.proofs.Common.{ℕ, zero, suc, ◌+◌, ◌≤◌, ◌<◌, zero-add, suc-add, add-one, arith, ◌≡◌, refl, sym, ap, ◌∙◌, List, [], ◌∷◌, ◌++◌, append_assoc, Float, length, set, take, drop, get_or, replicate, length-append, length-drop, take-append-drop, ext_get_or, get_or-append-add, length-take-le}
use Rattle.std.specs.Float.Ieee.{nan}
use Rattle.std.proofs.Math.ListN.{length-replicate, get_or-append, get_or-replicate}
use Rattle.std.proofs.Math.Seq.{set-get_or}
use borrow.Rule.Slice.PartMut.{put_mid}
use Rattle.loops.specs.Loop.{tab, from, fill, stores, ◌!◌}
use Rattle.loops.proofs.Loops.{length-tab, get_or-tab, tab_at, fill_none, fill_step, stores_none}
use Rattle.loops.proofs.Stores.{is_tab, stores-suc, stores_ext}
use Rattle.evaluation.specs.Sizes.{places, answer_room}
use Rattle.session.specs.declared.Session.{Session}
use Rattle.session.specs.declared.Head.{Head}
use Rattle.session.specs.Session.{jacobian_room}
use Rattle.session.specs.Figures.{FIGURES, time_at, step_at, relative_at, absolute_at, state_at, derivative_at, previous_at, jacobian_at, answers_at}
use Rattle.session.specs.Figures.{part, first, session_of, head_of, arrays, behind, figures_of}

-- ---- lists

-- a list of n, place by place
pub spelt : {A : Type 0} (d : A) (n : ℕ) (l : List A) → length l ≡ n → l ≡ tab n (λ i. get_or l i d)
spelt d n l h = ext_get_or d l (tab n (λ i. get_or l i d)) (h ∙ sym (length-tab n _)) (λ i k. sym (get_or-tab d n (λ i. get_or l i d) i (omega arith)))

pub length-first : (n : ℕ) (x : List Float) → length (first n x) ≡ n
unfolding first
length-first n x = length-tab n _

pub length_more : (p x : List Float) (b n : ℕ) → length p ≡ b → length (p ++ first n x) ≡ b + n
length_more p x b n e = length-append p (first n x) ∙ omega (arith, length-first n x)

emptied : (l : List Float) → length l ≡ 0 → l ≡ []
emptied [] e = refl
emptied (x ∷ xs) e = absurd (omega (arith, e))

-- ---- stores

-- n figures of x, from place b on
abbrev pub stored : List Float → ℕ → ℕ → List Float → List Float
stored x b n o = stores (λ i _. x ! i) b n o

set_after : (p l : List Float) (i : ℕ) (v : Float) → set (p ++ l) (length p + i) v ≡ p ++ set l i v
set_after [] l i v = ap (λ (k : ℕ). set l k v) (zero-add i)
set_after (x ∷ p) l i v = ap (λ (k : ℕ). set (x ∷ (p ++ l)) k v) (suc-add (length p) i) ∙ ap (λ (r : List Float). x ∷ r) (set_after p l i v)

-- n stores after p
stored_after : (x p l : List Float) (b n : ℕ) → length p ≡ b → n ≤ length l → stored x b n (p ++ l) ≡ p ++ fill n (λ i. x ! i) l
stored_after x p l b zero e h = sym (stores_none _ _ _) ∙ ap (λ (r : List Float). p ++ r) (fill_none (λ i. x ! i) l)
stored_after x p l b (suc n) e h =
    stores-suc (λ i _. x ! i) b n (p ++ l)
    ∙ ap (λ (r : List Float). set r (b + n) (x ! n)) (stored_after x p l b n e (omega arith))
    ∙ ap (λ (k : ℕ). set (p ++ fill n (λ i. x ! i) l) (k + n) (x ! n)) (sym e)
    ∙ set_after p (fill n (λ i. x ! i) l) n (x ! n)
    ∙ ap (λ (r : List Float). p ++ r) (fill_step nan (λ i. x ! i) n l _ refl (omega arith) ∙ ap (λ (k : ℕ). fill k (λ i. x ! i) l) (add-one n))

-- the same with what is stored told apart from what is left
placed : (x p l : List Float) (b n : ℕ) → length p ≡ b → n ≤ length l → stored x b n (p ++ l) ≡ (p ++ first n x) ++ drop n l
unfolding fill first
placed x p l b n e h = stored_after x p l b n e h ∙ sym (append_assoc p (tab n (λ i. x ! i)) (drop n l))

-- a part of a list with all of v in its place
pub put_in : (v x : List Float) (at n : ℕ) → n ≡ length v → at + n ≤ length x → put_mid at n x v ≡ stores (λ i _. v ! i) at (length v) x
unfolding first
put_in v x at n e h =
    ap (λ (k : ℕ). put_mid at k x v) e
    ∙ ap (λ (l : List Float). take at x ++ (l ++ drop (length v) (drop at x))) (spelt nan (length v) v refl)
    ∙ sym (append_assoc (take at x) (first (length v) v) (drop (length v) (drop at x)))
    ∙ sym (placed v (take at x) (drop at x) at (length v) (length-take-le at x (omega arith)) (omega (arith, length-drop at x)))
    ∙ ap (λ (l : List Float). stored v at (length v) l) (take-append-drop at x)

-- with n times y
pub put_each : (y : Float) (x : List Float) (at n k : ℕ) → n ≡ k → at + n ≤ length x → put_mid at n x (replicate k y) ≡ stores (λ _ _. y) at k x
put_each y x at n k e h =
    put_in (replicate k y) x at n (e ∙ sym (length-replicate k y)) h
    ∙ ap (λ (m : ℕ). stored (replicate k y) at m x) (length-replicate k y)
    ∙ stores_ext _ _ at k x (λ j l v. get_or-replicate k j y nan l)

-- ---- arrays one behind the other

unfoldable pub total : List (ℕ × List Float) → ℕ
total [] = 0
total ((n, x) ∷ more) = n + total more

-- o with the arrays stored from place b on, the first one first
unfoldable pub stored_all : List (ℕ × List Float) → ℕ → List Float → List Float
stored_all [] b o = o
stored_all ((n, x) ∷ more) b o = stored_all more (b + n) (stored x b n o)

-- what is stored up to the list's end stands behind what was there before
pub stored_behind : (fs : List (ℕ × List Float)) (p l : List Float) (b : ℕ) → length p ≡ b → length l ≡ total fs → stored_all fs b (p ++ l) ≡ p ++ behind fs
unfolding stored_all total behind
stored_behind [] p l b e h = ap (λ (r : List Float). p ++ r) (emptied l h)
stored_behind ((n, x) ∷ more) p l b e h =
    ap (λ (r : List Float). stored_all more (b + n) r) (placed x p l b n e (omega (arith, h)))
    ∙ stored_behind more (p ++ first n x) (drop n l) (b + n) (length_more p x b n e) (length-drop n l ∙ omega (arith, h))
    ∙ append_assoc p (first n x) (behind more)

set_head : (l : List Float) (a b c : Float) → 3 ≤ length l → set (set (set l 0 a) 1 b) 2 c ≡ (a ∷ b ∷ c ∷ []) ++ drop 3 l
set_head [] a b c h = absurd (omega (arith, h))
set_head (x0 ∷ []) a b c h = absurd (omega (arith, h))
set_head (x0 ∷ x1 ∷ []) a b c h = absurd (omega (arith, h))
set_head (x0 ∷ x1 ∷ x2 ∷ xs) a b c h = refl

-- what the stores of put_figures leave
pub all_stored : (s : Session) (o : List Float) → length o ≡ FIGURES
    → stored_all (arrays s) absolute_at (set (set (set o time_at s.time) step_at s.step) relative_at s.relative) ≡ figures_of s
unfolding figures_of total
all_stored s o h =
    ap (λ (r : List Float). stored_all (arrays s) absolute_at r) (set_head o _ _ _ (omega arith))
    ∙ stored_behind (arrays s) (s.time ∷ s.step ∷ s.relative ∷ []) (drop 3 o) absolute_at refl (length-drop 3 o ∙ omega arith)

-- ---- arrays one behind the other, found again

-- the place of the j-th array where the first stands at b, its size, and itself
unfoldable place_of : List (ℕ × List Float) → ℕ → ℕ → ℕ
place_of [] b j = b
place_of ((n, x) ∷ more) b zero = b
place_of ((n, x) ∷ more) b (suc j) = place_of more (b + n) j

unfoldable size_of : List (ℕ × List Float) → ℕ → ℕ
size_of [] j = 0
size_of ((n, x) ∷ more) zero = n
size_of ((n, x) ∷ more) (suc j) = size_of more j

unfoldable array_of : List (ℕ × List Float) → ℕ → List Float
array_of [] j = []
array_of ((n, x) ∷ more) zero = x
array_of ((n, x) ∷ more) (suc j) = array_of more j

-- each array has its size
unfoldable Sized : List (ℕ × List Float) → Type 0
Sized [] = Unit
Sized ((n, x) ∷ more) = (length x ≡ n) × Sized more

first_at : (n : ℕ) (x : List Float) (i : ℕ) → i < n → first n x ! i ≡ x ! i
unfolding first
first_at n x i h = tab_at n (λ i. x ! i) i h

no_part : (l : List Float) (b : ℕ) → part l b 0 ≡ []
unfolding part tab from
no_part l b = refl

-- the n figures behind p
part-behind : (p x q : List Float) (b n : ℕ) → length p ≡ b → length x ≡ n → part (p ++ (first n x ++ q)) b n ≡ x
unfolding part
part-behind p x q b n e f =
    sym (is_tab n (λ i. (p ++ (first n x ++ q)) ! (b + i)) x f
    (λ i h. sym
    (ap (λ (k : ℕ). (p ++ (first n x ++ q)) ! (k + i)) (sym e)
    ∙ get_or-append-add p (first n x ++ q) i nan
    ∙ get_or-append (first n x) q nan i (omega (arith, length-first n x))
    ∙ first_at n x i h)))

found : (fs : List (ℕ × List Float)) (p : List Float) (b : ℕ) → length p ≡ b → Sized fs → (j : ℕ) → part (p ++ behind fs) (place_of fs b j) (size_of fs j) ≡ array_of fs j
unfolding behind place_of size_of array_of Sized
found [] p b e h j = no_part (p ++ []) b
found ((n, x) ∷ more) p b e h zero = part-behind p x (behind more) b n e h.0
found ((n, x) ∷ more) p b e h (suc j) =
    ap (λ (l : List Float). part l (place_of more (b + n) j) (size_of more j)) (sym (append_assoc p (first n x) (behind more)))
    ∙ found more (p ++ first n x) (b + n) (length_more p x b n e) h.1 j

-- ---- a session, as numbers and figures and back

-- what its arrays' types give
pub record Long (s : Session) : Type 0 where
  pub absolute : length s.absolute ≡ places
  pub state : length s.state ≡ places
  pub derivative : length s.derivative ≡ places
  pub previous : length s.previous ≡ places
  pub jacobian : length s.jacobian ≡ jacobian_room
  pub answers : length s.answers ≡ answer_room

module _ (s : Session) (t : Long s) where
  -- the j-th array of a session
  kept : (j : ℕ) → part (figures_of s) (place_of (arrays s) absolute_at j) (size_of (arrays s) j) ≡ array_of (arrays s) j
  unfolding figures_of Sized
  kept j =
      found (arrays s) (s.time ∷ s.step ∷ s.relative ∷ []) absolute_at refl
      (t.absolute, (t.state, (t.derivative, (t.previous, (t.jacobian, (t.answers, tt)))))) j

  pub session_back : session_of (head_of s) (figures_of s) ≡ s
  unfolding session_of figures_of place_of size_of array_of
  session_back = rw (kept 0, kept 1, kept 2, kept 3, kept 4, kept 5)

-- ---- numbers and figures, as a session and back

restored : (l : List Float) (b m n : ℕ) → n ≤ m → stored (part l b m) b n l ≡ l
unfolding part
restored l b m zero h = sym (stores_none _ _ _)
restored l b m (suc n) h =
    stores-suc _ b n l
    ∙ ap (λ (r : List Float). set r (b + n) (part l b m ! n)) (restored l b m n (omega arith))
    ∙ ap (λ (x : Float). set l (b + n) x) (tab_at m (λ i. l ! (b + i)) n (omega arith))
    ∙ set-get_or l (b + n) nan

back : (l : List Float) (b n : ℕ) → stored (part l b n) b n l ≡ l
back l b n = restored l b n n (omega arith)

pub figures_back : (k : Head) (f : List Float) → length f ≡ FIGURES → figures_of (session_of k f) ≡ f
unfolding session_of stored_all
figures_back k f h =
    sym (all_stored (session_of k f) f h)
    ∙ rw (
      set-get_or f time_at nan,
      set-get_or f step_at nan,
      set-get_or f relative_at nan,
      back f absolute_at places,
      back f state_at places,
      back f derivative_at places,
      back f previous_at places,
      back f jacobian_at jacobian_room,
      back f answers_at answer_room,
    )
