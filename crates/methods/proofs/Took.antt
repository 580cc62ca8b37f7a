-- What an exponential takes at the most, and each action of the schemes. Assumes nothing.
use Rattle.std.proofs.Common.{◌≡◌, ℕ, zero, suc, ◌+◌, ◌*◌, ◌<◌, ◌≤◌, Bool, true, false, cond, T, eqb, ltb, List, [], ◌∷◌, refl, mul-add, arith, lit≤, ltb-true, Float}
use Rattle.std.specs.Prelude.{Some, None}
use Rattle.std.specs.Float.Ieee.{binary64, fits, of_bits, of_fields, odd}
use lib.Ieee.Fits.{add-fits, sub-fits, mul-fits, cond-fits}
use lib.Count.{count_trailing_zeros}
use Rattle.loops.specs.Loop.{mat, ◌!◌}
use Rattle.loops.proofs.Places.{length-mat}
use Rattle.loops.proofs.Loops.{tab_at}
use Rattle.float.specs.Arith.{◌⊗◌, zero+, one}
use Rattle.matrix.specs.Matrix.{at, norm, admitted, small, next_term, add_all, series, taylor, exponential, reach}
use Rattle.matrix.specs.Vector.{zeros, vec}
use Rattle.matrix.specs.Claims.{Admitted}
use Rattle.matrix.proofs.Powers.{squarings-room}
use Rattle.matrix.proofs.Series.{series_stop, series_go}
use Rattle.matrix.proofs.Claims.{stops_at_15}
use Rattle.matrix.proofs.Vectors.{vec_at}
use Rattle.methods.specs.Vectors.{add, subtract, axpy, axpy_all, combine}
use Rattle.methods.specs.Tally.{Report, Tried, tested, clean, unadmitted, single, joined}
use Rattle.methods.specs.Phi.{checked, over, more, more_all, nothing, combine_all, augmented_entry, augmented, phi_action, phi_term, exp_action}
use Rattle.methods.specs.Schemes.{a52, a54}
use Rattle.methods.specs.Shape.{Doubles, PhiReach}

-- ---- what one exponential takes

-- Terms of one exponential: 15 at the most of doubles; of anything the definition's own term_room, by which the counts fit 32 bits whatever they are of.
unfoldable pub term_room : Bool → ℕ
term_room true = 15
term_room false = 129

-- j exponentials, of at most so many terms and 32 squarings each
pub record Took (b : Bool) (j : ℕ) (t : Report) : Type 0 where
  pub number : t.exponentials ≡ j
  pub terms : t.terms ≤ term_room b * j
  pub squarings : t.squarings ≤ 32 * j

pub took_tested : (b c : Bool) → Took b 0 (tested c)
unfolding tested
took_tested b c = record { number = refl; terms = omega arith; squarings = omega arith }

pub took_clean : (b : Bool) → Took b 0 clean
unfolding clean
took_clean b = took_tested b true

pub took_unadmitted : (b : Bool) → Took b 0 unadmitted
unfolding unadmitted
took_unadmitted b = took_tested b false

pub took_joined : (b : Bool) {j k : ℕ} {x y : Report} → Took b j x → Took b k y → Took b (j + k) (joined x y)
unfolding joined
took_joined b {j} {k} p q =
    let room = mul-add (term_room b) j k in
    record { number = omega (arith, p.number, q.number); terms = omega (arith, room, p.terms, q.terms); squarings = omega (arith, p.squarings, q.squarings) }

-- the series adds no more terms than it has room for
series-room : (d : ℕ) (a : List Float) (n : ℕ) (t r : List Float) (k : ℕ) → (series d a n t r k).terms ≤ k + d
series-room zero a n t r k = unfold series in omega arith
series-room (suc d) a n t r k = go (small t' r') refl (series-room d a n t' r' (suc k))
  where
    t' : List Float
    t' = next_term t a n k

    r' : List Float
    r' = add_all r t'

    go : (c : Bool) → small t' r' ≡ c → (series d a n t' r' (suc k)).terms ≤ suc k + d → (series (suc d) a n t r k).terms ≤ k + suc d
    go true e h = rw (series_stop d a n t r k e) (omega arith)
    go false e h = rw (series_go d a n t r k e) (omega (arith, h))

-- how far any exponential goes: its terms have room for 128 and one more to be counted
exponential-room : (m : List Float) (n : ℕ) → (exponential m n).terms ≤ 129
unfolding exponential taylor
exponential-room m n = series-room 128 _ n _ _ 1

exponential-squarings : (m : List Float) (n : ℕ) → (exponential m n).squarings ≤ 32
unfolding exponential
exponential-squarings m n = squarings-room (norm m n)

-- what one takes
took_single : (b : Bool) (m : List Float) (n : ℕ) → (b ≡ true → admitted m n ≡ true → Admitted m n) → Took b 1 (single (reach m n))
unfolding single reach
took_single b m n doubles = go b (admitted m n) doubles refl
  where
    terms : (b : Bool) → (b ≡ true → Admitted m n) → (exponential m n).terms ≤ term_room b * 1
    terms true d = unfold term_room in omega (arith, stops_at_15 m n (d refl))
    terms false d = unfold term_room in omega (arith, exponential-room m n)

    go : (b c : Bool) → (b ≡ true → admitted m n ≡ true → Admitted m n) → admitted m n ≡ c
        → Took b 1 (single (cond c (Some (record { terms = (exponential m n).terms; squarings = (exponential m n).squarings })) None))
    go b true d e = record { number = refl; terms = terms b (λ k. d k e); squarings = omega (arith, exponential-squarings m n) }
    go b false d e = record { number = refl; terms = omega arith; squarings = omega arith }

-- ---- of which matrices: doubles, if the input's first n places are

-- known to be doubles where b says so
pub record Fit (b : Bool) (n : ℕ) (x : List Float) : Type 0 where
  pub fit : b ≡ true → Doubles n x

-- the entries of a matrix
mat_fits : (n : ℕ) (f : ℕ → ℕ → Float) → ((i j : ℕ) → T (fits binary64 (f i j))) → (p : ℕ) → p < n * n → T (fits binary64 (mat n f ! p))
unfolding mat
mat_fits n f h p l = rw (tab_at (n * n) _ p l) (h _ _)

zero_fits : T (fits binary64 zero+)
unfolding of_bits of_fields odd count_trailing_zeros fits
zero_fits = tt

one_fits : T (fits binary64 one)
unfolding of_bits of_fields odd count_trailing_zeros fits
one_fits = tt

augmented_fits : (n : ℕ) (a : List Float) (c : Float) (x : List Float) → Doubles n x → (i j : ℕ) → T (fits binary64 (augmented_entry n a c x i j))
unfolding augmented_entry
augmented_fits n a c x d i j = go (ltb i n) refl
  where
    go : (b : Bool) → ltb i n ≡ b → T (fits binary64 (cond b (cond (ltb j n) (c ⊗ at a n i j) (cond (eqb j n) (x ! i) zero+)) (cond (eqb j (i + 1)) one zero+)))
    go true e = cond-fits binary64 (ltb j n) _ _ (mul-fits binary64 c (at a n i j)) (cond-fits binary64 (eqb j n) _ _ (d.fit i (ltb-true i n e)) zero_fits)
    go false e = cond-fits binary64 (eqb j (i + 1)) _ _ one_fits zero_fits

module _ (b : Bool) (n : ℕ) (small : b ≡ true → n ≤ 16) (a : List Float) (c : Float) where
  phi_took : (order : ℕ) (x : List Float) → order ≤ 4 → Fit b n x → Took b 1 (phi_action n a c order x).tally
  unfolding phi_action checked augmented
  phi_took order x h d =
      took_single b (mat (n + order) (augmented_entry n a c x)) (n + order) (λ k r. record {
        size = omega (arith, small k);
        places = length-mat (n + order) _;
        doubles = mat_fits (n + order) _ (augmented_fits n a c x (d.fit k));
        rows = r;
      })

  exp_took : (x : List Float) → Took b 1 (exp_action n a c x).tally
  unfolding exp_action checked
  exp_took x =
      took_single b (mat n (λ i j. c ⊗ at a n i j)) n (λ k r. record {
        size = omega (arith, small k);
        places = length-mat n _;
        doubles = mat_fits n _ (λ i j. mul-fits binary64 c (at a n i j));
        rows = r;
      })

pub phi_reach : PhiReach
unfolding term_room
phi_reach n a scaleA order input small h d =
    let t = phi_took true n (λ _. small) a scaleA order input h (record { fit = λ _. d }) in
    (omega (arith, t.terms), omega (arith, t.squarings), omega (arith, t.terms, t.squarings))

-- ---- the actions and the inputs of the schemes
module _ {b : Bool} (n : ℕ) where
  vec_fit : (f : ℕ → Float) → ((i : ℕ) → T (fits binary64 (f i))) → Fit b n (vec n f)
  vec_fit f h = record { fit = λ _. record { fit = λ i l. rw (vec_at n f i l) (h i) } }

  pub add_f : (x y : List Float) → Fit b n (add n x y)
  unfolding add
  add_f x y = vec_fit _ (λ i. add-fits binary64 _ _)

  pub subtract_f : (x y : List Float) → Fit b n (subtract n x y)
  unfolding subtract
  subtract_f x y = vec_fit _ (λ i. sub-fits binary64 _ _)

  pub axpy_f : (x : List Float) (c : Float) (y : List Float) → Fit b n (axpy n x c y)
  unfolding axpy
  axpy_f x c y = vec_fit _ (λ i. add-fits binary64 _ _)

  -- what a sum of terms ends in
  axpy_all_f : (x : List Float) → Fit b n x → (terms : List (Float × List Float)) → Fit b n (axpy_all n x terms)
  unfolding axpy_all
  axpy_all_f x h [] = h
  axpy_all_f x h ((c, y) ∷ terms) = axpy_all_f (axpy n x c y) (axpy_f x c y) terms

  pub combine_f : (term : Float × List Float) (terms : List (Float × List Float)) → Fit b n (combine n (term ∷ terms))
  unfolding combine axpy_all
  combine_f (c, y) terms = axpy_all_f (axpy n zeros c y) (axpy_f zeros c y) terms

pub over_t : {b : Bool} {j : ℕ} (f : List Float → List Float) (p : Tried) → Took b j p.tally → Took b j (over f p).tally
unfolding over
over_t f p t = t

more_t : {b : Bool} (n : ℕ) {j k : ℕ} (s : Tried) (c : Float) (p : Tried) → Took b j s.tally → Took b k p.tally → Took b (j + k) (more n s c p).tally
unfolding more
more_t {b} n s c p t u = took_joined b t u

module _ {b : Bool} {n : ℕ} (small : b ≡ true → n ≤ 16) (a : List Float) (c : Float) where
  term_t : (order : ℕ) (d : Float) (x : List Float) → order ≤ 4 → Fit b n x → Took b 1 (phi_term n a c order d x).tally
  unfolding phi_term
  term_t order d x h f = over_t _ _ (phi_took b n small a c order x h f)

  pub term_1 : (d : Float) (x : List Float) → Fit b n x → Took b 1 (phi_term n a c 1 d x).tally
  term_1 d x f = term_t 1 d x (lit≤ tt) f

  pub term_2 : (d : Float) (x : List Float) → Fit b n x → Took b 1 (phi_term n a c 2 d x).tally
  term_2 d x f = term_t 2 d x (lit≤ tt) f

  pub term_3 : (d : Float) (x : List Float) → Fit b n x → Took b 1 (phi_term n a c 3 d x).tally
  term_3 d x f = term_t 3 d x (lit≤ tt) f

  pub term_4 : (d : Float) (x : List Float) → Fit b n x → Took b 1 (phi_term n a c 4 d x).tally
  term_4 d x f = term_t 4 d x (lit≤ tt) f

  pub action_1 : (x : List Float) → Fit b n x → Took b 1 (phi_action n a c 1 x).tally
  action_1 x f = phi_took b n small a c 1 x (lit≤ tt) f

  pub action_2 : (x : List Float) → Fit b n x → Took b 1 (phi_action n a c 2 x).tally
  action_2 x f = phi_took b n small a c 2 x (lit≤ tt) f

  pub action_3 : (x : List Float) → Fit b n x → Took b 1 (phi_action n a c 3 x).tally
  action_3 x f = phi_took b n small a c 3 x (lit≤ tt) f

  pub action_4 : (x : List Float) → Fit b n x → Took b 1 (phi_action n a c 4 x).tally
  action_4 x f = phi_took b n small a c 4 x (lit≤ tt) f

  pub exp_1 : (x : List Float) → Took b 1 (exp_action n a c x).tally
  exp_1 x = exp_took b n small a c x

-- HochOst4's combinations: four exponentials, and one more
module _ {b : Bool} {n : ℕ} (small : b ≡ true → n ≤ 16) (a : List Float) (h : Float) where
  pub a52_4 : (x : List Float) → Fit b n x → Took b 4 (a52 n a h x).tally
  unfolding a52 combine_all more_all nothing
  a52_4 x f =
      more_t n _ _ _ (more_t n _ _ _ (more_t n _ _ _ (more_t n _ _ _ (took_clean b) (term_2 small a _ _ x f)) (term_3 small a _ _ x f)) (term_2 small a _ _ x f)) (term_3 small a _ _ x f)

  pub a54_5 : (x : List Float) → Fit b n x → Took b 5 (a54 n a h x).tally
  unfolding a54 combine_all more_all nothing
  a54_5 x f = more_t n _ _ _ (more_t n _ _ _ (took_clean b) (term_2 small a _ _ x f)) (a52_4 x f)
