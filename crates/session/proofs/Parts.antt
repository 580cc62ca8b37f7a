-- Figures one behind the other: what is read after a run of stores, and a session's numbers and figures as its own. Assumes nothing.
use Rattle.std.proofs.Common.{ℕ, zero, suc, ◌+◌, ◌-◌, ◌≤◌, ◌<◌, zero-add, suc-add, arith, ◌≡◌, refl, sym, ap, ◌∙◌, subst, ◌≢◌, Bool, List, [], ◌∷◌, T, Float, length, set, take, drop, replicate, length-drop, get_or-set_other, length-take-le}
use Rattle.std.proofs.Math.Decide.{dec_lt}
use Rattle.std.specs.Float.Ieee.{nan, binary64, fits}
use Rattle.std.proofs.Math.ListN.{length-replicate, get_or-replicate}
use Rattle.loops.specs.Loop.{stores, ◌!◌}
use Rattle.loops.proofs.Loops.{length-tab, tab_at, past_end}
use Rattle.loops.proofs.Stores.{is_tab, tab_ext, stores_out, stores_in, length-stores}
use Rattle.float.specs.Arith.{zero+}
use Rattle.evaluation.specs.Sizes.{places, answer_room}
use Rattle.session.specs.declared.Head.{Head}
use Rattle.session.specs.Session.{jacobian_room, good5}
use Rattle.session.specs.Claims.{Doubles, Typed}
use Rattle.session.specs.Figures.{FIGURES, time_at, step_at, relative_at, absolute_at, state_at, derivative_at, previous_at, jacobian_at, answers_at}
use Rattle.session.specs.Figures.{part, session_of}

-- ---- parts

pub length_part : (x : List Float) (at n : ℕ) → length (part x at n) ≡ n
unfolding part
length_part x at n = length-tab n _

pub part_at : (x : List Float) (at n i : ℕ) → i < n → part x at n ! i ≡ x ! (at + i)
unfolding part
part_at x at n i h = tab_at n (λ i. x ! (at + i)) i h

-- a list is a part by its entries
pub is_part : (x l : List Float) (at n : ℕ) → length l ≡ n → ((i : ℕ) → i < n → l ! i ≡ x ! (at + i)) → l ≡ part x at n
unfolding part
is_part x l at n e h = is_tab n (λ i. x ! (at + i)) l e h

-- two parts of the same entries are one
pub part_ext : (x y : List Float) (at n : ℕ) → ((i : ℕ) → i < n → x ! (at + i) ≡ y ! (at + i)) → part x at n ≡ part y at n
unfolding part
part_ext x y at n h = tab_ext n (λ i. x ! (at + i)) (λ i. y ! (at + i)) h

-- ---- what is read after stores

module _ (g : ℕ → Float → Float) (b m : ℕ) (x : List Float) where
  -- behind them
  pub read_after : (p : ℕ) → b + m ≤ p → stores g b m x ! p ≡ x ! p
  read_after p h = stores_out g b m x p (λ j l. omega arith)

  -- before them
  pub read_before : (p : ℕ) → p < b → stores g b m x ! p ≡ x ! p
  read_before p h = stores_out g b m x p (λ j l. omega arith)

  pub part-after : (at n : ℕ) → b + m ≤ at → part (stores g b m x) at n ≡ part x at n
  part-after at n h = part_ext _ _ at n (λ i l. read_after (at + i) (omega arith))

  pub part_before : (at n : ℕ) → at + n ≤ b → part (stores g b m x) at n ≡ part x at n
  part_before at n h = part_ext _ _ at n (λ i l. read_before (at + i) (omega arith))

module _ (p : ℕ) (v : Float) (x : List Float) where
  pub set-part-after : (at n : ℕ) → p < at → part (set x p v) at n ≡ part x at n
  set-part-after at n h = part_ext _ _ at n (λ i l. let ne : at + i ≢ p = omega arith in get_or-set_other x p (at + i) v nan ne)

-- within the part that is read: the same stores there
pub part-within : (g : ℕ → Float → Float) (at i m n : ℕ) (x : List Float) → i + m ≤ n → at + n ≤ length x
    → part (stores g (at + i) m x) at n ≡ stores g i m (part x at n)
part-within g at i m n x h l =
    sym (is_part _ _ at n (length-stores g i m _ ∙ length_part x at n) (λ q r. go q r (dec_lt q i) (dec_lt q (i + m))))
  where
    go : (q : ℕ) → q < n → Dec (q < i) → Dec (q < i + m) → stores g i m (part x at n) ! q ≡ stores g (at + i) m x ! (at + q)
    go q r (yes a) d =
        stores_out g i m (part x at n) q (λ j k. omega arith) ∙ part_at x at n q r ∙ sym (stores_out g (at + i) m x (at + q) (λ j k. omega arith))
    go q r (no a) (yes d) =
        let e : i + (q - i) ≡ q = omega arith in
        let f : at + i + (q - i) ≡ at + q = omega arith in
        let inside : q - i < m = omega arith in
        let below : i + (q - i) < length (part x at n) = omega (arith, length_part x at n) in
        ap (λ (k : ℕ). stores g i m (part x at n) ! k) (sym e)
        ∙ stores_in g i m (part x at n) (q - i) inside below
        ∙ ap (λ (k : ℕ). g (q - i) (part x at n ! k)) e
        ∙ ap (g (q - i)) (part_at x at n q r)
        ∙ ap (λ (k : ℕ). g (q - i) (x ! k)) (sym f)
        ∙ sym (stores_in g (at + i) m x (q - i) inside (omega arith))
        ∙ ap (λ (k : ℕ). stores g (at + i) m x ! k) f
    go q r (no a) (no d) =
        stores_out g i m (part x at n) q (λ j k. omega arith) ∙ part_at x at n q r ∙ sym (stores_out g (at + i) m x (at + q) (λ j k. omega arith))

-- a list of n, stored and read
pub part_put : (y : List Float) (at n : ℕ) (x : List Float) → length y ≡ n → at + n ≤ length x → part (stores (λ i _. y ! i) at n x) at n ≡ y
part_put y at n x e l = sym (is_part _ y at n e (λ i h. sym (stores_in (λ i _. y ! i) at n x i h (omega arith))))

-- n times +0.0, stored and read
pub part_wiped : (at n b m : ℕ) (x : List Float) → b ≤ at → at + n ≤ b + m → b + m ≤ length x → part (stores (λ _ _. zero+) b m x) at n ≡ replicate n zero+
part_wiped at n b m x h k l =
    sym (is_part _ (replicate n zero+) at n (length-replicate n zero+) (λ i r.
    let e : b + (at + i - b) ≡ at + i = omega arith in
    get_or-replicate n i zero+ nan r
    ∙ sym (stores_in (λ _ _. zero+) b m x (at + i - b) (omega arith) (omega arith))
    ∙ ap (λ (q : ℕ). stores (λ _ _. zero+) b m x ! q) e))

-- a part of a lent slice
pub slice_part : (x : List Float) (at n : ℕ) → at + n ≤ length x → take n (drop at x) ≡ part x at n
slice_part x at n h = is_part x (take n (drop at x)) at n (length-take-le n (drop at x) (omega (arith, length-drop at x))) (λ i l. taken x at n i l)
  where
    dropped : (x : List Float) (at i : ℕ) → drop at x ! i ≡ x ! (at + i)
    dropped x zero i = ap (λ (k : ℕ). x ! k) (sym (zero-add i))
    dropped [] (suc at) i = refl
    dropped (v ∷ x) (suc at) i = dropped x at i ∙ ap (λ (k : ℕ). (v ∷ x) ! k) (sym (suc-add at i))

    some : (y : List Float) (n i : ℕ) → i < n → take n y ! i ≡ y ! i
    some [] zero i l = refl
    some [] (suc n) i l = refl
    some (v ∷ y) zero i l = absurd (omega (arith, l))
    some (v ∷ y) (suc n) zero l = refl
    some (v ∷ y) (suc n) (suc i) l = some y n i (omega arith)

    taken : (x : List Float) (at n i : ℕ) → i < n → take n (drop at x) ! i ≡ x ! (at + i)
    taken x at n i l = some (drop at x) n i l ∙ dropped x at i

pub slice_long : (x : List Float) (at n : ℕ) → at + n ≤ length x → length (take n (drop at x)) ≡ n
slice_long x at n h = ap length (slice_part x at n h) ∙ length_part x at n

-- ---- a session of figures

-- what the code's types give of figures
pub typed_of : (k : Head) (x : List Float) → k.scheme < 256 → Doubles FIGURES x → Typed (session_of k x)
unfolding session_of fits
typed_of k x s d = record {
  scheme = s;
  time = d.fit time_at;
  relative = d.fit relative_at;
  step = d.fit step_at;
  absolute = of absolute_at places;
  state = of state_at places;
  derivative = of derivative_at places;
  previous = of previous_at places;
  jacobian = of jacobian_at jacobian_room;
  answers = of answers_at answer_room;
}
  where
    past : (at n i : ℕ) → (i < n → ⊥) → T (fits binary64 (part x at n ! i))
    past at n i h = subst (λ (v : Float). T (fits binary64 v)) (sym (past_end (part x at n) i (omega (arith, length_part x at n)))) tt

    of : (at n : ℕ) → Doubles n (part x at n)
    of at n = record { places = length_part x at n; fit = λ i. go i (dec_lt i n) }
      where
        go : (i : ℕ) → Dec (i < n) → T (fits binary64 (part x at n ! i))
        go i (yes l) = subst (λ (v : Float). T (fits binary64 v)) (sym (part_at x at n i l)) (d.fit (at + i))
        go i (no l) = past at n i l

-- the test of 5, from what the code reads
pub attempt_step : (k : Head) (x : List Float) {b : Bool} → b ≡ good5 k.attempt (x ! step_at) → b ≡ good5 (session_of k x).attempt (session_of k x).step
unfolding session_of
attempt_step k x e = e

-- the Jacobian as a part of the lent figures
pub jacobian_slice : (k : Head) (x : List Float) → length x ≡ FIGURES → take jacobian_room (drop jacobian_at x) ≡ (session_of k x).jacobian
unfolding session_of
jacobian_slice k x e = slice_part x jacobian_at jacobian_room (omega arith)
