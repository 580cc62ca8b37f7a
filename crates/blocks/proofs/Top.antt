-- What is raised: the norm by the first n rows, the divided array, and what is told. Assumes nothing.
use Rattle.std.proofs.Common.{ℕ, ◌+◌, ◌-◌, ◌*◌, ◌<◌, ◌≤◌, ◌≡◌, refl, sym, ap, ◌∙◌, Bool, true, cond, eqb, nat_lt, List, T, length, take, Float}
use Rattle.std.proofs.Common.{eq-eqb, ne_eqb, lt-ltb, le-ltb, zero-lt-suc, arith}
use Rattle.std.proofs.Math.Decide.{ℕ_discrete}
use Rattle.std.specs.Float.{binary64}
use Rattle.std.specs.Float.Ieee.{fits}
use Rattle.loops.specs.Loop.{◌!◌}
use Rattle.loops.proofs.Loops.{length-tab, tab_at}
use Rattle.loops.proofs.Stores.{is_tab, tab_ext}
use Rattle.float.specs.Arith.{◌⊘◌, zero+, one, larger}
use Rattle.matrix.specs.Matrix.{at, norm, admitted, squarings, power, div_all, scaled, squared, exponential, reach}
use Rattle.matrix.specs.Vector.{vec}
use Rattle.matrix.specs.Calls.{rows_admitted, rows_norm, Summed}
use Rattle.matrix.specs.Claims.{Admitted}
use Rattle.matrix.proofs.Zeros.{Over}
use Rattle.matrix.proofs.Calm.{calm}
use Rattle.blocks.specs.declared.Raised.TheVariants.{Told}
use Rattle.blocks.specs.Blocks.{Blocks, block_div, one_diagonal, Shifts}
use Rattle.std.specs.Prelude.{Option, Some, None, MatchOption}
use Rattle.blocks.specs.declared.Raised.{Raised}
use Rattle.blocks.specs.Storage.{told, Grown, Overflow, places, split, held, Shifting, Tame, RaisedTo}
use Rattle.blocks.proofs.Bounds.{terms_entries}
use Rattle.blocks.proofs.First.{div_shifts}
use Rattle.blocks.proofs.Norms.{admitted_parts, norm_parts}
use Rattle.blocks.proofs.Arrays.{length-upper, length-lower, split_upper, split_lower}
use Rattle.blocks.proofs.Turns.{length-held, fits_held, div_held}

-- where p is 1 no number stands right of the diagonal
pub below_some : (p : ℕ) (x : Float) → x ≡ one → 1 < p → x ≡ cond (nat_lt 1 p) one zero+
below_some p x e h = rw (lt-ltb 1 p h) e

pub below_none : (p : ℕ) (x : Float) → x ≡ zero+ → p ≤ 1 → x ≡ cond (nat_lt 1 p) one zero+
below_none p x e h = rw (le-ltb 1 p h) e

power_over : (c : ℕ) → Over (power c)
power_over c = (refl, zero-lt-suc 0)

-- ---- the norm
module _ (n p : ℕ) (m : List Float) (S : Shifts n p (split n p m) one) where
  admitted_rows : admitted (held n p m) (n + p) ≡ rows_admitted n (take (n * (n + p)) m) (n + p)
  unfolding held split rows_admitted
  admitted_rows = admitted_parts n p (split n p m) S.lower

  norm_rows : 0 < p → norm (held n p m) (n + p) ≡ larger (rows_norm n (take (n * (n + p)) m) (n + p)) (cond (nat_lt 1 p) one zero+)
  unfolding held split rows_norm
  norm_rows h = norm_parts n p (split n p m) S.lower h

  module _ (a w : ℕ) (e : a ≡ n * (n + p)) (f : w ≡ n + p) where
    pub rows_are : (b : Bool) → rows_admitted n (take a m) w ≡ b → admitted (held n p m) (n + p) ≡ b
    rows_are b h = admitted_rows ∙ rw (e, f) at h

    pub norm_is : 0 < p → (x y z : Float) → x ≡ rows_norm n (take a m) w → y ≡ cond (nat_lt 1 p) one zero+ → z ≡ larger x y → z ≡ norm (held n p m) (n + p)
    norm_is o x y z h k g = g ∙ rw (h, k, e, f) (sym (norm_rows o))

pub admitted_held : (n p : ℕ) (m : List Float) → n ≤ 16 → p ≤ 4 → ((q : ℕ) → T (fits binary64 (m ! q))) → admitted (held n p m) (n + p) ≡ true → Admitted (held n p m) (n + p)
admitted_held n p m h k f a = record { size = omega arith; places = length-held n p m; doubles = λ q _. fits_held n p m f q; rows = a }

-- ---- the divided array
same_blocks : (x y : Blocks) → x.upper ≡ y.upper → x.lower ≡ y.lower → x ≡ y
same_blocks x y u l = ap (λ z. record { upper = z; lower = x.lower }) u ∙ ap (λ z. record { upper = y.upper; lower = z }) l

-- any number may be named where p is 1
shifting : (n p : ℕ) (a : List Float) (nu : Float) → Shifts n p (split n p a) nu → Shifting n p a
unfolding one_diagonal
shifting n p a nu S = record { columns = S.columns; lower = S.lower ∙ tab_ext p _ _ (λ d h. same d h (ℕ_discrete d 1)) }
  where
    same : (d : ℕ) → d < p → Dec (d ≡ 1) → cond (eqb d 1) nu zero+ ≡ cond (eqb d 1) (a ! (n * (n + p) + 1)) zero+
    same d h (yes e) = rw (eq-eqb d 1 e) (sym (tab_at p _ 1 (omega arith)) ∙ sym (ap (λ z. z ! 1) S.lower) ∙ split_lower n p a 1)
    same d h (no e) = rw (ne_eqb d 1 e)

module _ (n p : ℕ) (m : List Float) (d : Float) (l : length m ≡ places n p) where
  length-divided : length (div_all m d) ≡ places n p
  unfolding div_all
  length-divided = length-tab (length m) _ ∙ l

  split_divided : split n p (div_all m d) ≡ block_div n p (split n p m) d
  unfolding block_div
  split_divided =
      same_blocks _ _
      (is_tab (n * (n + p)) _ _ (length-upper n p (div_all m d) length-divided) (λ q h. rw (split_upper n p (div_all m d) q h, split_upper n p m q h) (divided_at q (omega arith))))
      (is_tab p _ _ (length-lower n p (div_all m d) length-divided) (λ e h. rw (split_lower n p (div_all m d) e, split_lower n p m e) (divided_at (n * (n + p) + e) (omega arith))))
    where
      divided_at : (q : ℕ) → q < length m → div_all m d ! q ≡ m ! q ⊘ d
      divided_at q h = unfold div_all in tab_at (length m) _ q h

-- an admitted array, divided by the power of two that its norm asks for
module _ (n p : ℕ) (m a : List Float) (c : ℕ) (l : length m ≡ places n p) (ok : Admitted (held n p m) (n + p)) (k : c ≡ squarings (norm (held n p m) (n + p)))
    (u : a ≡ scaled m c) where
  abbrev w : ℕ
  w = n + p

  abbrev H : List Float
  H = held n p m

  held_divided : held n p a ≡ scaled H c
  unfolding scaled
  held_divided = ap (held n p) u ∙ sym (div_held n p m (power c) (power_over c) l)

  blocks : split n p a ≡ block_div n p (split n p m) (power c)
  unfolding scaled
  blocks = ap (split n p) u ∙ split_divided n p m (power c) l

  pub tame : Shifts n p (split n p m) one → Tame n p a
  tame S = record {
    shifting = shifting n p a (one ⊘ power c) (rw blocks (div_shifts n p (split n p m) one (power c) (power_over c) S));
    calm = rw (held_divided, k) (calm H w ok);
    terms = λ j q h o. rw (held_divided, k) (terms_entries H w ok j q h o);
  }

  told_some : (sum v : List Float) (t : ℕ) → Summed (held n p a) w (held n p sum) t → v ≡ vec n (λ i. at (squared c (held n p sum) w) w i (w - 1))
      → RaisedTo n p H (Told (record { terms = t; squarings = c }) v)
  unfolding RaisedTo reach exponential
  told_some sum v t s e =
      let b = rw (held_divided, k) at s.number in
      let y = rw (held_divided, k) at s.whole in
      (rw (ok.rows, b, k), rw (y, k) at e)

  overflow : (sum : List Float) (t : ℕ) → Summed (held n p a) w (held n p sum) t → Grown n p c sum → Overflow n p H
  unfolding exponential
  overflow sum t s h = record { rows = ok.rows; array = sum; sum = rw (held_divided, k) at s.whole; grown = rw k at h }

  pub raised : (sum : List Float) (t : ℕ) (x : Option (List Float)) (r : Raised) → Summed (held n p a) w (held n p sum) t
      → MatchOption x (Grown n p c sum) (λ v. v ≡ vec n (λ i. at (squared c (held n p sum) w) w i (w - 1))) → r ≡ told x t c → RaisedTo n p H r
  raised sum t x r s h e = rw e (go x h)
    where
      go : (x : Option (List Float)) → MatchOption x (Grown n p c sum) (λ v. v ≡ vec n (λ i. at (squared c (held n p sum) w) w i (w - 1))) → RaisedTo n p H (told x t c)
      go None h = unfold told RaisedTo in overflow sum t s h
      go (Some v) h = unfold told in told_some sum v t s h
