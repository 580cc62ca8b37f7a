-- What matrix_exp hands on from step to step, and what it leaves. Assumes nothing.
use Rattle.std.proofs.Common.{ℕ, ◌≡◌, ◌*◌, ◌≤◌, true, false, List, length, arith}
use Rattle.std.specs.Float.{binary64}
use Rattle.std.specs.Float.Ieee.{fits, le}
use Rattle.std.specs.Prelude.{T, Float, Some, None}
use Rattle.loops.specs.Loop.{◌!◌}
use Rattle.float.specs.Arith.{limit}
use Rattle.matrix.specs.Matrix.{scaled, norm, admitted, squarings, exponential, reach}
use Rattle.matrix.specs.Calls.{Calm, Ready, Worked, Filled}
use Rattle.matrix.proofs.Powers.{norm-limit, squarings-room}
use Rattle.matrix.proofs.Calm.{calm}

pub refused : (m o : List Float) (n : ℕ) → admitted m n ≡ false → Filled m n m o o None
unfolding reach
refused m o n e = record { told = rw e; few = tt; work = rw e; output = rw e }

-- an admitted matrix, its norm, and the number of its squarings
module _ (m : List Float) (n : ℕ) (x : Float) (c : ℕ) (a : admitted m n ≡ true) (h : x ≡ norm m n) where
  pub norm-admitted : le x limit ≡ true
  norm-admitted = rw h (norm-limit m n a)

  scaled_calm : c ≡ squarings x → n ≤ 20 → length m ≡ n * n → ((p : ℕ) → T (fits binary64 (m ! p))) → Calm (scaled m c) n
  scaled_calm k l w f = rw (k, h) (calm m n (record { size = l; places = w; doubles = λ p _. f p; rows = a }))

  -- what the room is asked for
  pub ready : (o : List Float) → c ≡ squarings x → n ≤ 20 → (length m ≡ n * n) × (length o ≡ n * n) → ((p : ℕ) → T (fits binary64 (m ! p))) → Ready m o n c
  ready o k l w f = record { size = l; places = w.0; room = w.1; calm = scaled_calm k l w.0 f }

  pub done : (m' o p : List Float) (t : ℕ) → c ≡ squarings x → Ready m o n c → Worked m n c m' p t → Filled m n m' o p (Some (record { terms = t; squarings = c }))
  unfolding exponential reach
  done m' o p t k r e =
      let b : c ≡ squarings (norm m n) = rw h at k in
      let few_terms : t ≤ 15 = rw e.number r.calm.stops in
      let few-squarings : c ≤ 32 = rw b (squarings-room (norm m n)) in
      record {
        told = rw (a, ← b, ← e.number);
        few = (few_terms, few-squarings, omega (arith, few_terms, few-squarings));
        work = rw (a, ← b) e.divided;
        output = rw (a, ← b) e.output;
      }
