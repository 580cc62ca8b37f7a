-- The augmented matrix as an array of blocks. Assumes nothing.
use Rattle.std.proofs.Common.{◌≡◌, ℕ, ◌+◌, ◌-◌, ◌*◌, ◌<◌, ◌≤◌, cond, eqb, ltb, ◌≢◌, List, length, set, drop, sym, refl, ap, ◌∙◌, arith, length-set, get_or-set_other, get_or-set_same, le-ltb, lt-ltb, eq-eqb, ne_eqb, Float, length-drop}
use Rattle.std.proofs.Math.Decide.{ℕ_discrete, dec_lt}
use Rattle.std.specs.Float.Ieee.{nan}
use Rattle.std.proofs.lemmas.List.{get_or-take, get_or-drop}
use Rattle.loops.specs.Loop.{stores, ◌!◌}
use Rattle.loops.proofs.Stores.{is_tab, length-stores, stores_in, stores_out}
use Rattle.loops.proofs.Places.{row_within}
use Rattle.float.specs.Arith.{zero+, one}
use Rattle.matrix.specs.Matrix.{at}
use Rattle.blocks.specs.Blocks.{one_diagonal, Shifts}
use Rattle.blocks.specs.declared.Raised.TheVariants.{Refused, Told}
use Rattle.blocks.specs.Storage.{places, split, held, RaisedTo}
use Rattle.blocks.proofs.Whole.{whole_ext}
use Rattle.std.specs.Prelude.{Some, None}
use Rattle.matrix.specs.declared.Reach.{Reach}
use Rattle.methods.specs.declared.Tally.{Tally}
use Rattle.methods.specs.Tally.{single}
use Rattle.methods.specs.Phi.{augmented_entry, augmented, checked, phi_action}
use Rattle.methods.proofs.Made.{is_made, none_made}
use Rattle.methods.proofs.Laws.{single_ok}
use Rattle.methods.specs.Parts.{input_row, report, made}
use Rattle.methods.proofs.Augmented.{other_row, entry_in, entry_past, entry_below}

module _ (n p : ℕ) (a : List Float) (c : Float) (x : List Float) where
  -- the first i rows are the augmented matrix's, and the rest is +0.0
  pub record Begun (i : ℕ) (o : List Float) : Type 0 where
    pub len : length o ≡ places n p
    pub rows : (r j : ℕ) → r < n → j < n + p → o ! (r * (n + p) + j) ≡ cond (ltb r i) (augmented_entry n a c x r j) zero+
    pub below : (d : ℕ) → d < p → o ! (n * (n + p) + d) ≡ zero+

  -- a place in the first n rows
  place : (r j : ℕ) → r < n → j < n + p → r * (n + p) + j < n * (n + p)
  place r j h k = let l = row_within r n (n + p) h in omega arith

  -- places of two rows are never one
  apart : (r j i k : ℕ) → j < n + p → k < n + p → r ≢ i → r * (n + p) + j ≢ i * (n + p) + k
  apart r j i k h l ne e = go (dec_lt r i)
    where
      go : Dec (r < i) → ⊥
      go (yes s) = let w = row_within r i (n + p) s in absurd (omega arith)
      go (no s) = let w = row_within i r (n + p) (omega arith) in absurd (omega arith)

  pub begun_more : (i : ℕ) (o q : List Float) → 0 < p → i < n → Begun i o → q ≡ stores (λ j z. input_row n a c (x ! i) i j) (i * (n + p)) (n + 1) o → Begun (i + 1) q
  begun_more i o q s h b e = record {
    len = rw e (length-stores g (i * (n + p)) (n + 1) o) ∙ b.len;
    rows = λ r j k l. rw e (go r j k l (ℕ_discrete r i) (dec_lt j (n + 1)));
    below = λ d k. rw e (stores_out g (i * (n + p)) (n + 1) o (n * (n + p) + d) (λ j l. let w = row_within i n (n + p) h in omega arith)) ∙ b.below d k;
  }
    where
      g : ℕ → Float → Float
      g j z = input_row n a c (x ! i) i j

      go : (r j : ℕ) → r < n → j < n + p → Dec (r ≡ i) → Dec (j < n + 1) → stores g (i * (n + p)) (n + 1) o ! (r * (n + p) + j) ≡ cond (ltb r (i + 1)) (augmented_entry n a c x r j) zero+
      go r j k l (yes f) (yes m) =
          let w = place i j h l in
          rw (f, lt-ltb i (i + 1) (omega arith)) (stores_in g (i * (n + p)) (n + 1) o j m (rw b.len (omega arith)) ∙ entry_in n a c x i j h (omega arith))
      go r j k l (yes f) (no m) =
          rw (f, lt-ltb i (i + 1) (omega arith))
          (stores_out g (i * (n + p)) (n + 1) o (i * (n + p) + j) (λ q u. omega arith) ∙ b.rows i j h l ∙ rw (le-ltb i i (omega arith)) (sym (entry_past n a c x i j h (omega arith))))
      go r j k l (no f) m =
          stores_out g (i * (n + p)) (n + 1) o (r * (n + p) + j) (λ q u. apart r j i q l (omega arith) f) ∙ b.rows r j k l
          ∙ ap (λ t. cond t (augmented_entry n a c x r j) zero+) (other_row r i f)

  -- all rows, and below them a one at place 1
  pub record Ended (o : List Float) : Type 0 where
    pub len : length o ≡ places n p
    pub rows : (r j : ℕ) → r < n → j < n + p → o ! (r * (n + p) + j) ≡ augmented_entry n a c x r j
    pub below : (d : ℕ) → d < p → o ! (n * (n + p) + d) ≡ cond (eqb d 1) one zero+

  pub ended_one : (i s : ℕ) (o : List Float) → Begun i o → i ≡ n → 1 < p → s ≡ n * (n + p) + 1 → Ended (set o s one)
  ended_one i s o b e h f = record {
    len = length-set o s one ∙ b.len;
    rows = λ r j k l. let w = place r j k l in get_or-set_other o s (r * (n + p) + j) one nan (λ q. omega (arith, f)) ∙ b.rows r j k l ∙ rw (e, lt-ltb r n k);
    below = λ d k. go d k (ℕ_discrete d 1);
  }
    where
      go : (d : ℕ) → d < p → Dec (d ≡ 1) → set o s one ! (n * (n + p) + d) ≡ cond (eqb d 1) one zero+
      go d k (yes u) = let w : n * (n + p) + 1 < length o = rw b.len (omega arith) in rw (u, f) (get_or-set_same o (n * (n + p) + 1) one nan w)
      go d k (no u) = get_or-set_other o s (n * (n + p) + d) one nan (λ q. omega (arith, f)) ∙ b.below d k ∙ rw (ne_eqb d 1 u)

  pub ended_none : (i : ℕ) (o : List Float) → Begun i o → i ≡ n → p ≤ 1 → Ended o
  ended_none i o b e h = record {
    len = b.len;
    rows = λ r j k l. b.rows r j k l ∙ rw (e, lt-ltb r n k);
    below = λ d k. b.below d k ∙ rw (ne_eqb d 1 (omega arith));
  }

  module _ (o : List Float) (w : Ended o) where
    upper_at : (i j : ℕ) → i < n → j < n + p → at (split n p o).upper (n + p) i j ≡ augmented_entry n a c x i j
    unfolding split
    upper_at i j h k = let l = place i j h k in get_or-take (n * (n + p)) o (i * (n + p) + j) nan l ∙ w.rows i j h k

    lower_at : (d : ℕ) → d < p → (split n p o).lower ! d ≡ cond (eqb d 1) one zero+
    unfolding split
    lower_at d h = get_or-drop (n * (n + p)) o d nan ∙ w.below d h

    -- the array holds the augmented matrix
    pub ended_whole : held n p o ≡ augmented n a c p x
    unfolding held augmented
    ended_whole = sym (whole_ext n p (augmented_entry n a c x) (split n p o) (λ i j h k. sym (upper_at i j h k))
        (λ i j h _ _ k. entry_below n a c x i j h ∙ rw (ne_eqb j (i + 1) (omega arith)))
        (λ i j h k l. entry_below n a c x i j h ∙ same i j h k l (ℕ_discrete j (i + 1)) ∙ sym (lower_at (j - i) (omega arith))))
      where
        same : (i j : ℕ) → n ≤ i → i ≤ j → j < n + p → Dec (j ≡ i + 1) → cond (eqb j (i + 1)) one zero+ ≡ cond (eqb (j - i) 1) one zero+
        same i j h k l (yes e) = let m : j - i ≡ 1 = omega arith in rw (eq-eqb j (i + 1) e, eq-eqb (j - i) 1 m)
        same i j h k l (no e) = rw (ne_eqb j (i + 1) e, ne_eqb (j - i) 1 (λ m. omega arith))

    pub ended_shifts : Shifts n p (split n p o) one
    ended_shifts = record { columns = λ k j h l m. upper_at k j h m ∙ entry_past n a c x k j h l; lower = lower_is }
      where
        lower_is : (split n p o).lower ≡ one_diagonal p one
        lower_is = unfold split one_diagonal in
            is_tab p (λ d. cond (eqb d 1) one zero+) (drop (n * (n + p)) o) (rw (length-drop, w.len) (omega arith)) (λ d h. get_or-drop (n * (n + p)) o d nan ∙ w.below d h)

-- what is told of the augmented matrix is the phi action
module _ (n : ℕ) (a : List Float) (c : Float) (p : ℕ) (x : List Float) where
  pub phi_refused : RaisedTo n p (augmented n a c p x) Refused → None ≡ made (phi_action n a c p x)
  unfolding RaisedTo phi_action checked
  phi_refused h = none_made (phi_action n a c p x) (single_ok (augmented n a c p x) (n + p) ∙ h)

  pub phi_told : (r : Reach) (v : List Float) (t : Tally) → RaisedTo n p (augmented n a c p x) (Told r v) → report t ≡ single (Some r)
      → Some (record { v = v; tally = t }) ≡ made (phi_action n a c p x)
  unfolding RaisedTo phi_action checked
  phi_told r v t h s = is_made (record { v = v; tally = t }) (phi_action n a c p x) (rw (s, h.1, ← h.0) refl)
