-- Sums of numbers less themselves: each step of the test of a list. Assumes nothing.
use Rattle.std.proofs.Common.{ℕ, zero, suc, ◌≡◌, refl, sym, ap, ◌∙◌, ◌+◌, ◌-◌, ◌*◌, ◌<◌, ◌≤◌, Bool, true, false, ◌&&◌, List, [], ◌∷◌, length, get_or, take, drop, fold, arith, length-drop, Float}
use Rattle.std.proofs.Math.Nat.{add-zero, add-suc}
use Rattle.std.proofs.lemmas.List.{drop-drop, get_or-take, get_or-drop}
use Rattle.std.specs.Simd.{first_chunks}
use Rattle.std.proofs.Math.Bool.{and_assoc, and-true}
use Rattle.std.specs.Float.Ieee.{eq}
use Rattle.loops.specs.Loop.{every, ◌!◌}
use Rattle.loops.proofs.Loops.{every_none, every_step}
use Rattle.float.specs.Arith.{◌⊕◌, ◌⊖◌, zero+, finite, mark}
use Rattle.float.proofs.Marks.{less_itself, marks, marked}
use Rattle.evaluation.specs.Evaluation.{all_finite}

pub four_marks : (a b c d : Float) → a ⊖ a ⊕ (b ⊖ b) ⊕ (c ⊖ c) ⊕ (d ⊖ d) ≡ mark (finite a && finite b && finite c && finite d)
four_marks a b c d = simp (less_itself, marks)

-- ---- eight places more
and_left : (a b c : Bool) → (a && (b && c)) ≡ (b && (a && c))
and_left true b c = refl
and_left false true c = refl
and_left false false c = refl

-- what two sums tell of the first p places
abbrev pub Halves : (ℕ → Bool) → ℕ → Float → Float → Type 0
Halves f p s t = (σ : Bool) × (τ : Bool) × (s ≡ mark σ) × (t ≡ mark τ) × ((σ && τ) ≡ every p f)

next : (f : ℕ → Bool) (i j : ℕ) (b : Bool) → j ≡ i + 1 → b ≡ every i f → (b && f i) ≡ every j f
next f i j b h e = rw h (every_step f i b (f i) e refl)

eight : (f : ℕ → Bool) (p : ℕ) (b : Bool) → b ≡ every p f
    → (b && f p && f (p + 1) && f (p + 2) && f (p + 3) && f (p + 4) && f (p + 5) && f (p + 6) && f (p + 7)) ≡ every (p + 8) f
eight f p b e =
    next f (p + 7) (p + 8) _ (omega arith)
    (next f (p + 6) (p + 7) _ (omega arith)
    (next f (p + 5) (p + 6) _ (omega arith)
    (next f (p + 4) (p + 5) _ (omega arith)
    (next f (p + 3) (p + 4) _ (omega arith)
    (next f (p + 2) (p + 3) _ (omega arith)
    (next f (p + 1) (p + 2) _ (omega arith)
    (next f p (p + 1) b (omega arith) e)))))))

mixed : (σ τ a b c d e f g h : Bool) → (σ && (a && c && e && g) && (τ && (b && d && f && h))) ≡ (σ && τ && a && b && c && d && e && f && g && h)
mixed σ τ a b c d e f g h = simp (and_assoc, and_left)

pub halves_none : (f : ℕ → Bool) → Halves f 0 zero+ zero+
unfolding mark
halves_none f = (true, true, refl, refl, every_none f)

pub halves_step : (f g : ℕ → Bool) (p : ℕ) (s t a b : Float) → Halves f p s t → ((j : ℕ) → j < 8 → g j ≡ f (p + j))
    → a ≡ mark (g 0 && g 2 && g 4 && g 6) → b ≡ mark (g 1 && g 3 && g 5 && g 7) → Halves f (p + 8) (s ⊕ a) (t ⊕ b)
halves_step f g p s t a b h e A B = (
  h.0 && (g 0 && g 2 && g 4 && g 6),
  h.1 && (g 1 && g 3 && g 5 && g 7),
  rw (h.2, A) (marks _ _),
  rw (h.3, B) (marks _ _),
  mixed h.0 h.1 (g 0) (g 1) (g 2) (g 3) (g 4) (g 5) (g 6) (g 7)
      ∙ rw (e 0 (omega arith), e 1 (omega arith), e 2 (omega arith), e 3 (omega arith), e 4 (omega arith), e 5 (omega arith), e 6 (omega arith), e 7 (omega arith), add-zero) (eight f p _ h.4),
)

-- chunk i of eight places
chunk : (k i : ℕ) (x : List Float) → i < k → get_or (first_chunks 8 k x) i [] ≡ take 8 (drop (8 * i) x)
chunk zero i x h = absurd (omega arith)
chunk (suc k) zero x h = refl
chunk (suc k) (suc i) x h = chunk k i (drop 8 x) (omega arith) ∙ rw drop-drop (ap (λ p. take 8 (drop p x)) (omega arith))

chunk_at : (k i j : ℕ) (x : List Float) → i < k → j < 8 → get_or (first_chunks 8 k x) i [] ! j ≡ x ! (8 * i + j)
chunk_at k i j x h l = rw (chunk k i x h, get_or-take, get_or-drop)

next_eight : (i : ℕ) → 8 * i + 8 ≡ 8 * (i + 1)
next_eight i = omega arith

-- one chunk more
pub chunk_step : (k i : ℕ) (x : List Float) (chunks : List (List Float)) (s t a b : Float) → chunks ≡ first_chunks 8 k x → i < k → let v = get_or chunks i [] in
    Halves (λ q. finite (x ! q)) (8 * i) s t → a ≡ mark (finite (v ! 0) && finite (v ! 2) && finite (v ! 4) && finite (v ! 6))
    → b ≡ mark (finite (v ! 1) && finite (v ! 3) && finite (v ! 5) && finite (v ! 7)) → Halves (λ q. finite (x ! q)) (8 * (i + 1)) (s ⊕ a) (t ⊕ b)
chunk_step k i x chunks s t a b e l h A B =
    rw next_eight at (halves_step (λ q. finite (x ! q)) (λ j. finite (get_or chunks i [] ! j)) (8 * i) s t a b h (λ j q. rw e (ap finite (chunk_at k i j x l q))) A B)

-- ---- the other places
every_more : (p n : ℕ) (f : ℕ → Bool) → every (p + n) f ≡ (every p f && every n (λ i. f (p + i)))
unfolding every
every_more p zero f = rw add-zero (sym (and-true (every p f)))
every_more p (suc n) f = rw (add-suc, every_more p n f) (and_assoc (every p f) (every n (λ i. f (p + i))) (f (p + n)))

every_first : (n : ℕ) (f : ℕ → Bool) → every (suc n) f ≡ (f 0 && every n (λ i. f (suc i)))
unfolding every
every_first zero f = sym (and-true (f 0))
every_first (suc n) f = rw (every_first n f) (and_assoc (f 0) (every n (λ i. f (suc i))) (f (suc n)))

fold_marks : (b : Bool) (x : List Float) → fold (λ sum x. sum ⊕ (x ⊖ x)) (mark b) x ≡ mark (b && all_finite x)
unfolding all_finite every
fold_marks b [] = ap mark (sym (and-true b))
fold_marks b (v ∷ x) = rw (less_itself, marks, fold_marks (b && finite v) x, every_first) (ap mark (and_assoc b (finite v) (all_finite x)))

-- the sum of all, where two sums tell of the first p places
pub halves_end : (p : ℕ) (x : List Float) (s t r : Float) → Halves (λ q. finite (x ! q)) p s t → p ≤ length x → r ≡ fold (λ sum x. sum ⊕ (x ⊖ x)) (s ⊕ t) (drop p x) → eq r zero+ ≡ all_finite x
unfolding all_finite
halves_end p x s t r h l e =
    let n : p + (length x - p) ≡ length x = omega arith in
    rw (e, h.2, h.3, marks, fold_marks, marked, h.4, length-drop) (simp get_or-drop (sym (every_more p (length x - p) (λ q. finite (x ! q))) ∙ ap (λ n. every n (λ q. finite (x ! q))) n))
