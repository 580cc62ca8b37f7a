-- Laws of `vec`: what a loop over a vector leaves after i turns, and what stands at each place. Assumes nothing.
use Rattle.std.proofs.Common.{ℕ, ◌+◌, ◌-◌, ◌≤◌, ◌<◌, ◌≡◌, ◌∙◌, List, arith, Float, length, set, replicate, drop, get_or-append-add, get_or-drop}
use Rattle.std.specs.Float.Ieee.{nan, binary64, of_bits}
use Rattle.std.proofs.Math.ListN.{get_or-replicate, get_or-append}
use Rattle.loops.specs.Loop.{fill, tab, ◌!◌}
use Rattle.loops.proofs.Loops.{fill_none, fill_step, length-fill, length-tab, tab_at}
use Rattle.float.specs.Arith.{zero+}
use Rattle.matrix.specs.Vector.{zeros, vec}

-- ---- the steps of a loop that stores the places in turn
pub vec_none : (f : ℕ → Float) → replicate 16 (of_bits binary64 0) ≡ vec 0 f
unfolding vec zeros
vec_none f = fill_none f zeros

-- where what is stored came from a call
pub vec_call : (f : ℕ → Float) (i : ℕ) (x : List Float) (y : Float) → x ≡ vec i f → i < 16 → y ≡ f i → set x i y ≡ vec (i + 1) f
unfolding vec zeros
vec_call f i x y e h k = rw k (fill_step nan f i zeros x e h)

pub vec_end : (f : ℕ → Float) (i n : ℕ) (x : List Float) → x ≡ vec i f → i ≡ n → x ≡ vec n f
vec_end f i n x e h = rw (← h) e

-- ---- what stands where
pub length-vec : (n : ℕ) (f : ℕ → Float) → n ≤ 16 → length (vec n f) ≡ 16
unfolding vec zeros
length-vec n f h = length-fill n f zeros h

pub zeros_at : (i : ℕ) → i < 16 → zeros ! i ≡ zero+
unfolding zeros
zeros_at i h = get_or-replicate 16 i zero+ nan h

-- past n a vector is +0.0
pub vec-clear : (n : ℕ) (f : ℕ → Float) (i : ℕ) → n ≤ i → i < 16 → vec n f ! i ≡ zero+
unfolding vec fill
vec-clear n f i h l =
    let e : i ≡ length (tab n f) + (i - n) = rw length-tab (omega arith) in
    let s : n + (i - n) ≡ i = omega arith in
    rw (e, get_or-append-add, get_or-drop, s) (zeros_at i l)

pub fill_at : (n : ℕ) (f : ℕ → Float) (o : List Float) (i : ℕ) → i < n → fill n f o ! i ≡ f i
unfolding fill
fill_at n f o i h = let k : i < length (tab n f) = rw length-tab h in get_or-append (tab n f) (drop n o) nan i k ∙ tab_at n f i h

pub vec_at : (n : ℕ) (f : ℕ → Float) (i : ℕ) → i < n → vec n f ! i ≡ f i
unfolding vec
vec_at n f i h = fill_at n f zeros i h
