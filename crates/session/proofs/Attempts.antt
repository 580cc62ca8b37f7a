-- Lent parts of a session's figures, the supplied Jacobian among them, and a copy at the front of a room. Assumes nothing.
use Rattle.std.proofs.Common.{ℕ, ◌+◌, ◌-◌, ◌*◌, ◌≤◌, arith, ◌≡◌, sym, ap, ◌∙◌, List, Float, length, take, drop, length-drop, length-take-le, take-take}
use Rattle.loops.specs.Loop.{stores, ◌!◌}
use Rattle.loops.proofs.Stores.{stores_in, length-stores}
use Rattle.evaluation.specs.Sizes.{places}
use Rattle.session.specs.declared.Head.{Head}
use Rattle.session.specs.Figures.{FIGURES, jacobian_at, session_of}
use Rattle.session.proofs.Laws.{area}
use Rattle.session.proofs.Parts.{is_part, slice_part, jacobian_slice}

pub lent_length : (x : List Float) → length x ≡ FIGURES → (at n : ℕ) → at + n ≤ FIGURES → length (take n (drop at x)) ≡ n
lent_length x e at n h = length-take-le n (drop at x) (omega (arith, length-drop at x))

-- the Jacobian's n * n entries, lent from its place up to their end
module _ (k : Head) (x : List Float) (e : length x ≡ FIGURES) (h : k.n ≤ places) where
  entries : jacobian_at + k.n * k.n - jacobian_at ≡ k.n * k.n
  entries = omega arith

  pub entries_slice : take (jacobian_at + k.n * k.n - jacobian_at) (drop jacobian_at x) ≡ take (k.n * k.n) (session_of k x).jacobian
  entries_slice =
      ap (λ (m : ℕ). take m (drop jacobian_at x)) entries
      ∙ sym (take-take (k.n * k.n) 256 (drop jacobian_at x) (area h))
      ∙ ap (take (k.n * k.n)) (jacobian_slice k x e)

  pub entries_length : length (take (jacobian_at + k.n * k.n - jacobian_at) (drop jacobian_at x)) ≡ k.n * k.n
  entries_length =
      ap (λ (m : ℕ). length (take m (drop jacobian_at x))) entries
      ∙ lent_length x e jacobian_at (k.n * k.n) (omega (arith, area h))

-- a copy at the front of a room that holds it
pub copied : (m z x : List Float) (n : ℕ) → x ≡ stores (λ i _. m ! i) 0 (length m) z → length m ≡ n → n ≤ length z → take n x ≡ m
copied m z x n f e h =
    slice_part x 0 n (omega (arith, ap length f, length-stores (λ i _. m ! i) 0 (length m) z))
    ∙ sym (is_part x m 0 n e (λ i l. sym (rw f (stores_in (λ i _. m ! i) 0 (length m) z i (omega arith) (omega arith)))))
