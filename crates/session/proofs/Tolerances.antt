-- Each of the n tolerances counts, and no place past them does. Assumes nothing.
use Rattle.std.proofs.Common.{ℕ, ◌≤◌, ◌<◌, arith, ◌≡◌, refl, Bool, true, false, cond, ◌||◌, List, ltb, Float, length, le-ltb}
use Rattle.std.proofs.Math.Bool.{and-false}
use Rattle.loops.specs.Loop.{◌!◌}
use Rattle.loops.proofs.Loops.{every_of, every_fails}
use Rattle.float.specs.Arith.{plus_zero}
use Rattle.evaluation.specs.Sizes.{places}
use Rattle.session.specs.declared.Session.{Session}
use Rattle.session.specs.Session.{clear, size_ok, run_places, good1, positive, tolerances_ok, good4}
use Rattle.session.specs.Claims.{Tolerances}

bad_each : (s : Session) (i : ℕ) → i < s.n → positive (s.absolute ! i) ≡ false → good4 s ≡ false
unfolding good4 tolerances_ok
bad_each s i l h = rw (every_fails s.n (λ i. positive (s.absolute ! i)) i l h) (and-false (positive s.relative))

good_all : (s : Session) → positive s.relative ≡ true → ((i : ℕ) → i < s.n → positive (s.absolute ! i) ≡ true) → good4 s ≡ true
unfolding good4 tolerances_ok
good_all s r h = rw (r, every_of s.n (λ i. positive (s.absolute ! i)) h)

uncleared : (n : ℕ) (x : List Float) (i : ℕ) → n ≤ i → i < length x → plus_zero (x ! i) ≡ false → clear n x ≡ false
unfolding clear
uncleared n x i h l e = every_fails (length x) (λ p. ltb p n || plus_zero (x ! p)) i l (rw (le-ltb i n h, e))

bad_past : (s : Session) → length s.absolute ≡ places → (i : ℕ) → s.n ≤ i → i < places → plus_zero (s.absolute ! i) ≡ false → good1 s ≡ false
unfolding good1 run_places
bad_past s long i h l e = rw (uncleared s.n s.absolute i h (omega arith) e) (go (size_ok s.n))
  where
    go : (b : Bool) → cond b false false ≡ false
    go true = refl
    go false = refl

-- ---- THE CLAIM
pub tolerances : Tolerances
tolerances = record { each = bad_each; all = good_all; past = bad_past }
