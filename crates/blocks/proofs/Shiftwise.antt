-- A term times the matrix, row by row: first the columns up to n, then those behind, which are the term's own, one place on. Assumes nothing.
use Rattle.std.proofs.Common.{ℕ, zero, suc, ◌+◌, ◌-◌, ◌*◌, ◌<◌, ◌≤◌, ◌≡◌, ◌≢◌, sym, ap, ◌∙◌, true, cond, eqb, ne_eqb, List, ◌++◌, length, set, take, drop, arith, add-zero, Float}
use Rattle.std.proofs.Math.Decide.{dec_lt, ℕ_discrete}
use Rattle.std.proofs.Math.Arith.{digits_lt}
use Rattle.std.proofs.Math.ListN.{length-set}
use Rattle.std.proofs.Math.Seq.{get_or-set_same, get_or-set_other}
use Rattle.std.proofs.lemmas.List.{get_or-drop}
use borrow.Rule.Slice.PartMut.{put_mid}
use Rattle.std.specs.Float.Ieee.{nan}
use Rattle.loops.specs.Loop.{tab, ◌!◌}
use Rattle.float.specs.Arith.{◌⊕◌, ◌⊗◌, zero+}
use Rattle.matrix.specs.Matrix.{at}
use Rattle.matrix.specs.Products.{entry, framed}
use Rattle.blocks.specs.Blocks.{Blocks, block_mul}
use Rattle.blocks.specs.Storage.{places, split, all_finite, times, Shifting}
use Rattle.blocks.specs.Claims.{ShiftedTerm}
use Rattle.blocks.proofs.Claims.{terms_shift}
use Rattle.blocks.proofs.Arrays.{split_at, split_lower, is_joined, length-product, finite_split}
use Rattle.blocks.proofs.Upper.{length-first, in_columns, firsts_split}
use Rattle.blocks.proofs.Tails.{written, tail_at, length-tail, length-end, lent_end, tail_long, tail_other, tail_before, tail_here, tail_lower, end_long, end_above, end_here}

-- of the product b: the columns up to n, the first number of the lower block, and in i rows the columns behind
pub record Shiftwise (n p : ℕ) (b : Blocks) (i : ℕ) (o : List Float) : Type 0 where
  pub long : length o ≡ places n p
  pub first : o ! (n * (n + p)) ≡ zero+
  pub near : (a c : ℕ) → a < n → c ≤ n → c < n + p → at o (n + p) a c ≡ at b.upper (n + p) a c
  pub far : (a d : ℕ) → a < i → suc d < p → at o (n + p) a (n + suc d) ≡ at b.upper (n + p) a (n + suc d)

module _ (n p : ℕ) (t a : List Float) (lt : length t ≡ places n p) (ft : all_finite t ≡ true) (sa : Shifting n p a) where
  S : ShiftedTerm n p (split n p t) (split n p a) (a ! (n * (n + p) + 1))
  S = terms_shift n p (split n p t) (split n p a) (a ! (n * (n + p) + 1)) (finite_split n p t lt ft) sa

  abbrev pub B : Blocks
  B = block_mul n p (split n p t) (split n p a)

  pub not_shifted : (l : ℕ) (o q : List Float) → l ≡ n * (n + p) → 0 < p → length o ≡ places n p
      → q ≡ framed n (n + p) 0 n 0 (n + 1) (entry n t (n + p) a (n + p)) (take (n * (n + p)) o) ++ drop (n * (n + p)) o → Shiftwise n p B 0 (set q l zero+)
  not_shifted l o q el hp lo e = rw el (record {
    long = rw length-set lq;
    first = let h : n * (n + p) < length q = rw lq (omega arith) in rw get_or-set_same;
    near = λ r c h k m.
        let s : r * (n + p) + c < n * (n + p) = digits_lt h m in
        let ne : r * (n + p) + c ≢ n * (n + p) = omega arith in
        rw get_or-set_other (in_columns n p (n + 1) (entry n t (n + p) a (n + p)) o q e lo r c h m (omega arith) ∙ firsts_split n p r c t a h m ∙ sym (S.up_to r c h k m));
    far = λ r d h k. absurd (omega arith);
  })
    where
      lq : length q ≡ places n p
      lq = length-first n p (n + 1) (entry n t (n + p) a (n + p)) o q e lo

  -- one row more
  module _ (i s m l : ℕ) (o z : List Float) (hi : i < n) (es : s ≡ i * (n + p) + n) (em : m ≡ p) (el : l ≡ n * (n + p)) (R : Shiftwise n p B i o)
      (ez : z ≡ tab (length (take m (drop s o))) (λ d. cond (eqb d 0) (take m (drop s o) ! 0) (zero+ ⊕ take m (drop s t) ! (d - 1) ⊗ a ! (l + 1)))) where
    new : (length z ≡ p) × ((d : ℕ) → d < p → z ! d ≡ cond (eqb d 0) (take m (drop s o) ! 0) (zero+ ⊕ take m (drop s t) ! (d - 1) ⊗ a ! (l + 1)))
    new = written _ p _ z (length-tail n p i s m o hi es em R.long) ez

    new_first : 0 < p → z ! 0 ≡ at o (n + p) i (n + 0)
    new_first h = new.1 0 h ∙ tail_at n p i s m 0 o es em h

    new_next : (d : ℕ) → suc d < p → z ! suc d ≡ at B.upper (n + p) i (n + suc d)
    new_next d h =
        let e : suc d - 1 ≡ d = omega arith in
        let same : take m (drop s t) ! d ≡ at (split n p t).upper (n + p) i (n + d) = tail_at n p i s m d t es em (omega arith) ∙ sym (split_at n p t i (n + d) hi (omega arith)) in
        new.1 (suc d) h ∙ rw (ne_eqb (suc d) 0 (λ q. omega arith), e, el) (ap (λ y. zero+ ⊕ y ⊗ a ! (n * (n + p) + 1)) same ∙ sym (S.behind i d hi h))

    pub next_shifted : Shiftwise n p B (i + 1) (put_mid s m o z)
    next_shifted = record {
      long = tail_long n p i s m o z hi es em new.0 R.long;
      first = rw add-zero at (tail_lower n p i s m o z hi es em new.0 R.long 0) ∙ R.first;
      near = λ r c h k q. near r c h k q (ℕ_discrete r i) (dec_lt c n);
      far = λ r d h k. far r d h k (ℕ_discrete r i);
    }
      where
        near : (r c : ℕ) → r < n → c ≤ n → c < n + p → Dec (r ≡ i) → Dec (c < n) → at (put_mid s m o z) (n + p) r c ≡ at B.upper (n + p) r c
        near r c h k q (no ne) x = tail_other n p i s m o z hi es em new.0 R.long r c q ne ∙ R.near r c h k q
        near r c h k q (yes e) (yes x) = rw e (tail_before n p i s m o z hi es em new.0 R.long c x ∙ R.near i c hi k q)
        near r c h k q (yes e) (no x) =
            let f : c ≡ n + 0 = omega arith in
            rw (e, f) (tail_here n p i s m o z hi es em new.0 R.long 0 (omega arith) ∙ new_first (omega arith) ∙ R.near i (n + 0) hi (omega arith) (omega arith))

        far : (r d : ℕ) → r < i + 1 → suc d < p → Dec (r ≡ i) → at (put_mid s m o z) (n + p) r (n + suc d) ≡ at B.upper (n + p) r (n + suc d)
        far r d h k (no ne) = tail_other n p i s m o z hi es em new.0 R.long r (n + suc d) (omega arith) ne ∙ R.far r d (omega arith) k
        far r d h k (yes e) = rw e (tail_here n p i s m o z hi es em new.0 R.long (suc d) k ∙ new_next d k)

  -- an array of all the product's entries
  all_entries : (q : List Float) → length q ≡ places n p → ((r c : ℕ) → r < n → c < n + p → at q (n + p) r c ≡ at B.upper (n + p) r c)
      → ((d : ℕ) → d < p → q ! (n * (n + p) + d) ≡ B.lower ! d) → q ≡ times n p t a
  unfolding times
  all_entries q l f g = let k = length-product n p (split n p t) (split n p a) in is_joined n p B q k.0 k.1 l f g

  pub all_shifted : (i l m : ℕ) (o z : List Float) → n ≤ i → l ≡ n * (n + p) → m ≡ length o - l → Shiftwise n p B i o
      → z ≡ tab (length (take (length o - l) (drop l o))) (λ d. cond (eqb d 0) (take (length o - l) (drop l o) ! 0) (zero+ ⊕ take (length t - l) (drop l t) ! (d - 1) ⊗ a ! (l + 1)))
      → put_mid l m o z ≡ times n p t a
  all_shifted i l m o z hi el em R e0 =
      all_entries (put_mid l m o z) (end_long n p l m o z el size new.0 R.long)
      (λ r c h k. end_above n p l m o z el size new.0 R.long r c h k ∙ entries r c h k (dec_lt n c)) (λ d h. end_here n p l m o z el size new.0 R.long d h ∙ numbers d h)
    where
      ez : z ≡ tab (length (drop l o)) (λ d. cond (eqb d 0) (drop l o ! 0) (zero+ ⊕ drop l t ! (d - 1) ⊗ a ! (l + 1)))
      ez = rw (← lent_end l o, ← lent_end l t) e0

      size : m ≡ p
      size = rw em (omega (arith, el, R.long))

      new : (length z ≡ p) × ((d : ℕ) → d < p → z ! d ≡ cond (eqb d 0) (drop l o ! 0) (zero+ ⊕ drop l t ! (d - 1) ⊗ a ! (l + 1)))
      new = written _ p _ z (length-end n p l o el R.long) ez

      entries : (r c : ℕ) → r < n → c < n + p → Dec (n < c) → at o (n + p) r c ≡ at B.upper (n + p) r c
      entries r c h k (no x) = R.near r c h (omega arith) k
      entries r c h k (yes x) = let e : c ≡ n + suc (c - n - 1) = omega arith in rw e (R.far r (c - n - 1) (omega arith) (omega arith))

      numbers : (d : ℕ) → d < p → z ! d ≡ B.lower ! d
      numbers zero h = new.1 0 h ∙ get_or-drop l o 0 nan ∙ rw (add-zero, el) (R.first ∙ sym (S.diagonal h))
      numbers (suc d) h =
          let e : suc d - 1 ≡ d = omega arith in
          let same : drop (n * (n + p)) t ! d ≡ (split n p t).lower ! d = get_or-drop (n * (n + p)) t d nan ∙ sym (split_lower n p t d) in
          new.1 (suc d) h ∙ rw (ne_eqb (suc d) 0 (λ q. omega arith), e, el) (ap (λ y. zero+ ⊕ y ⊗ a ! (n * (n + p) + 1)) same ∙ sym (S.next d h))

  -- where the lower block has one number
  pub one_lower : (o : List Float) → p ≤ 1 → Shiftwise n p B 0 o → o ≡ times n p t a
  one_lower o h R = all_entries o R.long (λ r c k l. R.near r c k (omega arith) l) numbers
    where
      numbers : (d : ℕ) → d < p → o ! (n * (n + p) + d) ≡ B.lower ! d
      numbers zero k = rw add-zero (R.first ∙ sym (S.diagonal k))
      numbers (suc d) k = absurd (omega arith)
