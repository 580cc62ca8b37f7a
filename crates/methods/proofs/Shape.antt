-- The shape of the sixteen passes, and how many exponentials they make, by one walk over their trees. Assumes nothing.
use Rattle.std.proofs.Common.{◌≡◌, ℕ, zero, suc, ◌+◌, ◌-◌, ◌<◌, ◌≤◌, Bool, true, false, cond, ◌&&◌, leb, List, [], ◌∷◌, get_or, refl, subst, add-zero, add_assoc, zero-add, arith, leb-true, Float}
use Rattle.std.proofs.Math.Bool.{false≢true}
use Rattle.std.proofs.Math.Nat.{sub-zero}
use Rattle.std.specs.Prelude.{Option, Some, None, is_some, IfSome}
use Rattle.std.proofs.Math.ListN.{get_or-eq_default}
use Rattle.loops.proofs.Bools.{both_true}
use Rattle.loops.specs.Loop.{mat}
use Rattle.float.specs.Arith.{◌⊗◌, finite}
use Rattle.evaluation.specs.Evaluation.{all_finite}
use Rattle.matrix.specs.Matrix.{at, exponential, reach}
use Rattle.matrix.specs.Vector.{zeros, vec, mat_vec}
use Rattle.matrix.proofs.Vectors.{length-vec, zeros_at, vec-clear}
use Rattle.methods.specs.declared.Point.{Point}
use Rattle.methods.specs.declared.Work.{Work}
use Rattle.methods.specs.Vectors.{add, subtract, axpy}
use Rattle.methods.specs.Tally.{Report, Tried, clean, work_of}
use Rattle.methods.specs.Parts.{narrow, narrow_work, in32, counted_in32}
use Rattle.methods.specs.Phi.{checked, over, exp_action}
use Rattle.methods.specs.Pass.{Pass, ask, done, also, now, try, question, ◌>>=◌, Stand, fails, asks, ends, counting, under, answer, replay}
use Rattle.methods.specs.Schemes.{lawson_euler, norsett_euler, etdrk2, etdrk3, etdrk4, hoch_ost4, exp4, epirk4s3, epirk4s3_a, epirk4s3_b}
use Rattle.methods.specs.Schemes.{epirk5s3, exprb53s3, epirk5p, epirk5p_end, epirk5p1, epirk5p2, etd2, exprb32, exprb43}
use Rattle.methods.specs.Step.{pass, question_table, questions, exponential_table, exponentials, refused, asking, ended, finish, perform_step}
use Rattle.methods.specs.Shape.{Asks, asks_more, asks_none, Makes, makes_more, makes_last, Vector, Vectors, asked_vector, ended_vectors, Whole}
use Rattle.methods.specs.Shape.{AsksQuestions, MakesExponentials, AtMost34, PassVectors, AsksEarly, EndsLate}
use Rattle.methods.specs.Shape.{Doubles, Worked, StepWork, StepFits}
use Rattle.methods.proofs.Tallies.{word_is}
use Rattle.methods.proofs.Took.{term_room, Took, took_clean, took_unadmitted, took_joined, Fit, over_t, term_1, term_2, term_3, term_4}
use Rattle.methods.proofs.Took.{action_1, action_2, action_3, action_4, exp_1, a52_4, a54_5, add_f, subtract_f, axpy_f, combine_f}

-- ---- vectors

-- whatever `vec` makes is a vector
pub vec_vector : (n : ℕ) (f : ℕ → Float) → n ≤ 16 → Vector n (vec n f)
vec_vector n f small = record { places = length-vec n f small; clear = vec-clear n f }

-- and so is a difference
pub subtract_vector : (n : ℕ) (x y : List Float) → n ≤ 16 → Vector n (subtract n x y)
unfolding subtract
subtract_vector n x y small = vec_vector n _ small

-- and +0.0 in every place
pub zeros_vector : (n : ℕ) → Vector n zeros
zeros_vector n = record { places = unfold zeros in refl; clear = λ i h l. zeros_at i l }

-- a vector, if the dimension is one: the number of questions needs no dimension
record Fits (n : ℕ) (x : List Float) : Type 0 where
  fits : n ≤ 16 → Vector n x

-- what the helpers on vectors make
module _ (n : ℕ) where
  zeros_v : Fits n zeros
  zeros_v = record { fits = λ small. zeros_vector n }

  vec_v : (f : ℕ → Float) → Fits n (vec n f)
  vec_v f = record { fits = vec_vector n f }

  add_v : (x y : List Float) → Fits n (add n x y)
  unfolding add
  add_v x y = vec_v _

  axpy_v : (x : List Float) (c : Float) (y : List Float) → Fits n (axpy n x c y)
  unfolding axpy
  axpy_v x c y = vec_v _

  mat_vec_v : (a x : List Float) → Fits n (mat_vec n a x)
  unfolding mat_vec
  mat_vec_v a x = vec_v _

  -- the action of an exponential that is not admitted is +0.0
  or_zeros : (b : Bool) {x : List Float} → Fits n x → Fits n (cond b x zeros)
  or_zeros true v = v
  or_zeros false v = zeros_v

  exp_action_v : (a : List Float) (c : Float) (x : List Float) → Fits n (exp_action n a c x).v
  unfolding exp_action checked
  exp_action_v a c x = let m = mat n (λ i j. c ⊗ at a n i j) in or_zeros (is_some (reach m n)) (mat_vec_v (exponential m n).entries x)

  -- an action with a function over it is what the function makes
  over_v : {f : List Float → List Float} (p : Tried) → ((x : List Float) → Fits n (f x)) → Fits n (over f p).v
  unfolding over
  over_v p made = made p.v

-- ---- the shape: so many questions, so many exponentials, and vectors of n
data Shaped (b : Bool) (n : ℕ) : ℕ → ℕ → Pass → Type 0 where
  ask_s : {m j k : ℕ} {t : Report} {x : List Float} {time : Float} {next : List Float → Pass}
      → Took b j t → Fits n x → ((r : List Float) → Shaped b n m k (next r)) → Shaped b n (suc m) (j + k) (ask t x time next)
  done_s : {j : ℕ} {t : Report} {x e : List Float} → Took b j t → Fits n x → Fits n e → Shaped b n 0 j (done t x e)

-- what is told of the shape: the number of questions
shaped_asks : {b : Bool} {n m k : ℕ} {p : Pass} → Shaped b n m k p → Asks m p
shaped_asks (ask_s t v next) = asks_more (λ r. shaped_asks (next r))
shaped_asks (done_s t v w) = asks_none

-- the exponentials
shaped_makes : {b : Bool} {n m k : ℕ} {p : Pass} → Shaped b n m k p → Makes k p
shaped_makes (ask_s {k = k} {t = t} {x = x} {time = time} {next = next} p v rest) =
    subst (λ (j : ℕ). Makes (j + k) (ask t x time next)) p.number (makes_more (λ r. shaped_makes (rest r)))
shaped_makes (done_s {t = t} {x = x} {e = e} p v w) = subst (λ (j : ℕ). Makes j (done t x e)) p.number makes_last

-- and the vectors
shaped_vectors : {b : Bool} {n m k : ℕ} {p : Pass} → n ≤ 16 → Shaped b n m k p → Vectors n p
shaped_vectors small (ask_s t v next) = asked_vector (v.fits small) (λ r. shaped_vectors small (next r))
shaped_vectors small (done_s t v w) = ended_vectors (v.fits small) (w.fits small)

-- ---- the lines of a pass

-- the same number of exponentials, written otherwise
as_many : {b : Bool} {n m j k : ℕ} {p : Pass} → j ≡ k → Shaped b n m j p → Shaped b n m k p
as_many {b} {n} {m} {p = p} e s = subst (λ (k : ℕ). Shaped b n m k p) e s

-- more exponentials before the next question or the end
also_s : {b : Bool} {n m i k : ℕ} {t : Report} {p : Pass} → Took b i t → Shaped b n m k p → Shaped b n m (i + k) (also t p)
unfolding also
also_s {b} {i = i} p (ask_s {j = j} {k = k} q v next) = as_many (add_assoc i j k) (ask_s (took_joined b p q) v next)
also_s {b} p (done_s q v w) = done_s (took_joined b p q) v w

-- a pass of m questions, from `from` exponentials already made to `to` of them
record Up (b : Bool) (n m from to : ℕ) (p : Pass) : Type 0 where
  room : from ≤ to
  shape : Shaped b n m (to - from) p

-- the exponentials of one action more
try_u : {b : Bool} {n m from to : ℕ} (j : ℕ) (p : Tried) (next : List Float → Pass) → Took b j p.tally → Up b n m (from + j) to (next p.v) → Up b n m from to (try p >>= next)
unfolding ◌>>=◌
try_u {from = from} {to = to} j p next t u =
    let e : j + (to - (from + j)) ≡ to - from = omega (arith, u.room) in
    record { room = omega (arith, u.room); shape = as_many e (also_s t u.shape) }

module _ {b : Bool} {n m from to : ℕ} where
  -- a vector worked out at once
  now_u : (x : List Float) (next : List Float → Pass) → Up b n m from to (next x) → Up b n m from to (now x >>= next)
  unfolding ◌>>=◌
  now_u x next u = u

  -- one that one exponential was worked out for, or four, or five
  one_u : (p : Tried) (next : List Float → Pass) → Took b 1 p.tally → Up b n m (from + 1) to (next p.v) → Up b n m from to (try p >>= next)
  one_u p next t u = try_u 1 p next t u

  four_u : (p : Tried) (next : List Float → Pass) → Took b 4 p.tally → Up b n m (from + 4) to (next p.v) → Up b n m from to (try p >>= next)
  four_u p next t u = try_u 4 p next t u

  five_u : (p : Tried) (next : List Float → Pass) → Took b 5 p.tally → Up b n m (from + 5) to (next p.v) → Up b n m from to (try p >>= next)
  five_u p next t u = try_u 5 p next t u

-- a question, with m more to come
abbrev Question : Bool → ℕ → ℕ → ℕ → ℕ → Type 0
Question b n m from to =
    (x : List Float) (time : Float) (made : List Float → List Float) (next : List Float → Pass)
    → Fits n x
    → ((r : List Float) → Up b n m from to (next (made r)))
    → Up b n (suc m) from to (question x time made >>= next)

question_u : {b : Bool} {n m from to : ℕ} → Question b n m from to
unfolding ◌>>=◌
question_u {b} {from = from} {to = to} x time made next v u =
    record { room = (u []).room; shape = as_many (zero-add (to - from)) (ask_s (took_clean b) v (λ r. (u r).shape)) }

-- the same by its number from the end
last_question : {b : Bool} {n from to : ℕ} → Question b n 0 from to
last_question = question_u

second_last : {b : Bool} {n from to : ℕ} → Question b n 1 from to
second_last = question_u

third_last : {b : Bool} {n from to : ℕ} → Question b n 2 from to
third_last = question_u

fourth_last : {b : Bool} {n from to : ℕ} → Question b n 3 from to
fourth_last = question_u

-- the end
done_u : {b : Bool} {n k : ℕ} {x e : List Float} → Fits n x → Fits n e → Up b n 0 k k (done clean x e)
done_u {b} {n} {k} v w = let z : 0 ≡ k - k = omega arith in record { room = omega arith; shape = as_many z (done_s (took_clean b) v w) }

ruleset parts = (
  now_u,
  one_u,
  four_u,
  five_u,
  last_question,
  second_last,
  third_last,
  fourth_last,
  done_u,
  add_v,
  axpy_v,
  exp_action_v,
  over_v,
  zeros_v,
  over_t,
  term_1,
  term_2,
  term_3,
  term_4,
  action_1,
  action_2,
  action_3,
  action_4,
  exp_1,
  a52_4,
  a54_5,
  add_f,
  subtract_f,
  axpy_f,
  combine_f,
)

-- ---- the sixteen
module _ {b : Bool} (n : ℕ) (small : b ≡ true → n ≤ 16) (a u : List Float) (t h : Float) (f g : List Float) (ff : Fit b n f) where
  lawson_euler_u : Up b n 0 0 1 (lawson_euler n a u f h)
  unfolding lawson_euler
  lawson_euler_u = search parts depth 60

  norsett_euler_u : Up b n 0 0 1 (norsett_euler n a u f h)
  unfolding norsett_euler
  norsett_euler_u = search parts depth 60

  etdrk2_u : Up b n 1 0 2 (etdrk2 n a u t h f g)
  unfolding etdrk2
  etdrk2_u = search parts depth 60

  etdrk3_u : Up b n 2 0 9 (etdrk3 n a u t h f g)
  unfolding etdrk3
  etdrk3_u = search parts depth 60

  etdrk4_u : Up b n 3 0 12 (etdrk4 n a u t h f g)
  unfolding etdrk4
  etdrk4_u = search parts depth 60

  hoch_ost4_u : Up b n 4 0 34 (hoch_ost4 n a u t h f g)
  unfolding hoch_ost4
  hoch_ost4_u =
      one_u _ _ (search parts)
      (fourth_last _ _ _ _ (search parts) (λ r2.
      one_u _ _ (search parts)
      (one_u _ _ (search parts)
      (one_u _ _ (search parts)
      (now_u _ _
      (third_last _ _ _ _ (search parts) (λ r3.
      one_u _ _ (search parts)
      (one_u _ _ (search parts)
      (one_u _ _ (search parts)
      (one_u _ _ (search parts)
      (now_u _ _
      (second_last _ _ _ _ (search parts) (λ r4.
      one_u _ _ (search parts)
      (four_u _ _ (search parts)
      (five_u _ _ (search parts)
      (now_u _ _
      (four_u _ _ (search parts)
      (five_u _ _ (search parts)
      (now_u _ _
      (last_question _ _ _ _ (search parts) (λ r5.
      one_u _ _ (search parts)
      (one_u _ _ (search parts)
      (one_u _ _ (search parts)
      (one_u _ _ (search parts)
      (one_u _ _ (search parts)
      (one_u _ _ (search parts)
      (one_u _ _ (search parts)
      (done_u (search parts) (search parts)))))))))))))))))))))))))))))

  exp4_u : Up b n 2 0 7 (exp4 n a u t h f)
  unfolding exp4
  exp4_u = search parts depth 60

  epirk4s3_u : (k l : Tried) (c2 c3 r2c r3c q2c q3c : Float) → Took b 1 k.tally → Took b 1 l.tally → Up b n 2 0 5 (epirk4s3 n a u t h f k l c2 c3 r2c r3c q2c q3c)
  unfolding epirk4s3
  epirk4s3_u k l c2 c3 r2c r3c q2c q3c p q = search parts depth 60

  epirk4s3_a_u : Up b n 2 0 5 (epirk4s3_a n a u t h f)
  unfolding epirk4s3_a
  epirk4s3_a_u = epirk4s3_u _ _ _ _ _ _ _ _ (term_1 small a _ _ f ff) (term_1 small a _ _ f ff)

  epirk4s3_b_u : Up b n 2 0 5 (epirk4s3_b n a u t h f)
  unfolding epirk4s3_b
  epirk4s3_b_u = epirk4s3_u _ _ _ _ _ _ _ _ (term_2 small a _ _ f ff) (term_2 small a _ _ f ff)

  epirk5s3_u : Up b n 2 0 8 (epirk5s3 n a u t h f)
  unfolding epirk5s3
  epirk5s3_u = search parts depth 60

  exprb53s3_u : Up b n 2 0 7 (exprb53s3 n a u t h f)
  unfolding exprb53s3
  exprb53s3_u = search parts depth 60

  epirk5p1_u : Up b n 2 0 5 (epirk5p1 n a u t h f)
  unfolding epirk5p1 epirk5p epirk5p_end
  epirk5p1_u = search parts depth 60

  epirk5p2_u : Up b n 2 0 7 (epirk5p2 n a u t h f)
  unfolding epirk5p2 epirk5p epirk5p_end
  epirk5p2_u = search parts depth 60

  etd2_u : (previous : Option (List Float)) → ((w : List Float) → previous ≡ Some w → Fit b n w) → Up b n 0 0 (cond (is_some previous) 4 2) (etd2 n a u h f previous)
  unfolding etd2
  etd2_u None known = search parts depth 60
  etd2_u (Some w) known = let fw = known w refl in search parts depth 60

  exprb32_u : Up b n 1 0 3 (exprb32 n a u t h f)
  unfolding exprb32
  exprb32_u = search parts depth 60

  exprb43_u : Up b n 2 0 9 (exprb43 n a u t h f g)
  unfolding exprb43
  exprb43_u = search parts depth 60

-- ---- by number: a list of passes, how many questions each asks, and how many exponentials it makes
data Each (b : Bool) (n : ℕ) : List ℕ → List ℕ → List Pass → Type 0 where
  none_s : Each b n [] [] []
  more_s : {m k : ℕ} {ms ks : List ℕ} {p : Pass} {ps : List Pass} → Up b n m 0 k p → Each b n ms ks ps → Each b n (m ∷ ms) (k ∷ ks) (p ∷ ps)

-- what holds of each pass of a list, and of the one past its end, holds of the pass at every number
choose_s : {b : Bool} {n m k : ℕ} {ms ks : List ℕ} {p : Pass} {ps : List Pass} (i : ℕ)
    → Each b n ms ks ps → Shaped b n m k p → Shaped b n (get_or ms i m) (get_or ks i k) (get_or ps i p)
choose_s i none_s past = past
choose_s zero (more_s {k = k} first rest) past = as_many (sub-zero k) first.shape
choose_s (suc i) (more_s first rest) past = choose_s i rest past

-- what a step starts from, known to be doubles where b says so
record Start (b : Bool) (p : Point) (g : List Float) : Type 0 where
  small : b ≡ true → p.n ≤ 16
  slope : Fit b p.n p.f0
  before : (w : List Float) → p.previous ≡ Some w → Fit b p.n w
  rest : Fit b p.n g

-- scheme k
pass_s : {b : Bool} (k : ℕ) (p : Point) (a au g : List Float) → Start b p g → Shaped b p.n (questions k) (exponentials k (is_some p.previous)) (pass k p a au g)
unfolding pass questions exponentials
pass_s {b} k p a au g s =
    let n = p.n in
    let u = p.state in
    let t = p.time in
    let h = p.step in
    let f = p.f0 in
    let l = s.small in
    let ff = s.slope in
    choose_s k
    (more_s (lawson_euler_u n l a u t h g g s.rest)
    (more_s (norsett_euler_u n l a u t h f g ff)
    (more_s (etdrk2_u n l a u t h f g ff)
    (more_s (etdrk3_u n l a u t h f au ff)
    (more_s (etdrk4_u n l a u t h f au ff)
    (more_s (hoch_ost4_u n l a u t h f au ff)
    (more_s (exp4_u n l a u t h f g ff)
    (more_s (epirk4s3_a_u n l a u t h f g ff)
    (more_s (epirk4s3_b_u n l a u t h f g ff)
    (more_s (epirk5s3_u n l a u t h f g ff)
    (more_s (exprb53s3_u n l a u t h f g ff)
    (more_s (epirk5p1_u n l a u t h f g ff)
    (more_s (epirk5p2_u n l a u t h f g ff)
    (more_s (etd2_u n l a u t h g g s.rest p.previous s.before)
    (more_s (exprb32_u n l a u t h f g ff)
    (more_s (exprb43_u n l a u t h f au ff) none_s))))))))))))))))
    (done_s (took_unadmitted b) (zeros_v n) (zeros_v n))

-- nothing need be known of it
any_start : (p : Point) (g : List Float) → Start false p g
any_start p g =
    let no : (x : List Float) → Fit false p.n x = λ x. record { fit = λ e. absurd (false≢true e) } in
    record { small = λ e. absurd (false≢true e); slope = no p.f0; before = λ w e. no w; rest = no g }

-- a list whose entries are all at most b, and what stands at each place of it
all_within : ℕ → List ℕ → Bool
all_within b [] = true
all_within b (x ∷ xs) = leb x b && all_within b xs

within_at : (b : ℕ) (l : List ℕ) → all_within b l ≡ true → (k : ℕ) → get_or l k 0 ≤ b
unfolding all_within
within_at b [] e k = omega arith
within_at b (x ∷ xs) e zero = leb-true x b (both_true (leb x b) (all_within b xs) e).0
within_at b (x ∷ xs) e (suc k) = within_at b xs (both_true (leb x b) (all_within b xs) e).1 k

-- no scheme asks more than four questions
pub questions-small : (k : ℕ) → questions k ≤ 4
unfolding questions all_within
questions-small k = within_at 4 question_table refl k

-- none makes more than 34 exponentials
pub at_most_34 : AtMost34
unfolding exponentials all_within
at_most_34 k true = within_at 34 (exponential_table true) refl k
at_most_34 k false = within_at 34 (exponential_table false) refl k

-- above 15 there is no scheme, and no question
pub questions_past : (k : ℕ) → 16 ≤ k → questions k ≡ 0
unfolding questions
questions_past k h = get_or-eq_default question_table 0 h

-- ---- THE CLAIMS, of a pass
any_shape : (k : ℕ) (p : Point) (a au g : List Float) → Shaped false p.n (questions k) (exponentials k (is_some p.previous)) (pass k p a au g)
any_shape k p a au g = pass_s k p a au g (any_start p g)

pub asks_questions : AsksQuestions
asks_questions k p a au nonlinear0 = shaped_asks (any_shape k p a au nonlinear0)

pub makes_exponentials : MakesExponentials
makes_exponentials k p a au nonlinear0 = shaped_makes (any_shape k p a au nonlinear0)

pub pass-vectors : PassVectors
pass-vectors k p a au nonlinear0 small = shaped_vectors small (any_shape k p a au nonlinear0)

-- ---- how far answers lead

-- what holds of `fails`, and of a stand whose tests hold, holds of the stand under its tests
or_fails : (P : Stand → Type 0) → P fails → (b : Bool) (s : Stand) → (b ≡ true → P s) → P (cond b s fails)
or_fails P f true s h = h refl
or_fails P f false s h = f

-- and of the stand under a report, if no report alters it
or_under : (P : Stand → Type 0) → P fails → (t : Report) (s : Stand) → P (counting t s) → P (under t s)
unfolding under
or_under P f t s h = or_fails P f t.ok (counting t s) (λ _. h)

-- `count` answers are too few for m questions where a question is open, and enough at the end
Counted : ℕ → ℕ → Stand → Type 0
Counted m count fails = Unit
Counted m count (asks x time) = count < m
Counted m count (ends x e t) = m ≤ count

counted_suc : (m count : ℕ) (s : Stand) → Counted m count s → Counted (suc m) (suc count) s
unfolding Counted
counted_suc m count fails h = tt
counted_suc m count (asks x time) h = omega arith
counted_suc m count (ends x e t) h = omega arith

counted_fails : (m count : ℕ) → Counted m count fails
unfolding Counted
counted_fails m count = tt

counted_under : (m count : ℕ) (t : Report) (s : Stand) → Counted m count s → Counted m count (under t s)
unfolding counting Counted
counted_under m count t s h = or_under (Counted m count) (counted_fails m count) t s (go s h)
  where
    go : (s : Stand) → Counted m count s → Counted m count (counting t s)
    go fails h = h
    go (asks x time) h = h
    go (ends x e u) h = h

-- wherever answers lead
replay_counted : (n : ℕ) {m : ℕ} {p : Pass} → Asks m p → (count j : ℕ) (answers : List Float) → Counted m count (replay n p count j answers)
unfolding replay
replay_counted n (asks_more {m} {tally} {x} {time} next) zero j answers =
    counted_under (suc m) 0 tally _ (or_fails (Counted (suc m) 0) (counted_fails _ _) (all_finite x && finite time) (asks x time) (λ _. unfold Counted in omega arith))
replay_counted n (asks_more {m} {tally} {x} {time} next) (suc count) j answers =
    counted_under (suc m) (suc count) tally _ (or_fails (Counted (suc m) (suc count)) (counted_fails _ _) (all_finite x && finite time) _
    (λ _. counted_suc m count _ (replay_counted n (next (answer n answers j)) count (suc j) answers)))
replay_counted n (asks_none {tally} {x} {e}) count j answers =
    counted_under 0 count tally _ (or_fails (Counted 0 count) (counted_fails _ _) (all_finite x && all_finite e) (ends x e clean) (λ _. unfold Counted in omega arith))

-- what is asked and what a pass ends in are finite vectors of n
Kept : ℕ → Stand → Type 0
Kept n fails = Unit
Kept n (asks x time) = Whole n x × (finite time ≡ true)
Kept n (ends x e t) = Whole n x × Whole n e

kept_under : (n : ℕ) (t : Report) (s : Stand) → Kept n s → Kept n (under t s)
unfolding counting Kept
kept_under n t s h = or_under (Kept n) tt t s (go s h)
  where
    go : (s : Stand) → Kept n s → Kept n (counting t s)
    go fails h = h
    go (asks x time) h = h
    go (ends x e u) h = h

-- by the tests of a question, and of an end
ask_kept : {n : ℕ} {x : List Float} (time : Float) → Vector n x → (all_finite x && finite time) ≡ true → Whole n x × (finite time ≡ true)
ask_kept {n} {x} time v h = let t = both_true (all_finite x) (finite time) h in (record { vector = v; numbers = t.0 }, t.1)

end_kept : {n : ℕ} {x e : List Float} → Vector n x → Vector n e → (all_finite x && all_finite e) ≡ true → Whole n x × Whole n e
end_kept {n} {x} {e} v w h =
    let t = both_true (all_finite x) (all_finite e) h in
    (record { vector = v; numbers = t.0 }, record { vector = w; numbers = t.1 })

-- wherever answers lead
replay_kept : {n : ℕ} {p : Pass} → Vectors n p → (d count j : ℕ) (answers : List Float) → Kept n (replay d p count j answers)
unfolding replay Kept
replay_kept {n} (asked_vector {tally} {x} {time} v next) d zero j answers =
    kept_under n tally _ (or_fails (Kept n) tt (all_finite x && finite time) (asks x time) (ask_kept time v))
replay_kept {n} (asked_vector {tally} {x} {time} v next) d (suc count) j answers =
    kept_under n tally _ (or_fails (Kept n) tt (all_finite x && finite time) _ (λ _. replay_kept (next (answer d answers j)) d count (suc j) answers))
replay_kept {n} (ended_vectors {tally} {x} {e} v w) d count j answers =
    kept_under n tally _ (or_fails (Kept n) tt (all_finite x && all_finite e) (ends x e clean) (end_kept v w))

-- a pass of m questions that asks has had fewer than m answers, and one that ends has had m at least
module _ {m : ℕ} {p : Pass} (shape : Asks m p) (n count j : ℕ) (answers : List Float) where
  pub replay_asks : {x : List Float} {time : Float} → replay n p count j answers ≡ asks x time → count < m
  unfolding Counted
  replay_asks h = subst (Counted m count) h (replay_counted n shape count j answers)

  pub replay_ends : {x e : List Float} {t : Report} → replay n p count j answers ≡ ends x e t → m ≤ count
  unfolding Counted
  replay_ends h = subst (Counted m count) h (replay_counted n shape count j answers)

-- ---- the same of a step
-- a step stands where its pass does
finish_asks : (b : Bool) (g : List Float) (s : Stand) {x : List Float} {time : Float} → cond b (finish g s) refused ≡ asking x time → s ≡ asks x time
unfolding finish
finish_asks true g fails h = cc
finish_asks true g (asks y t) h = cc
finish_asks true g (ends y e t) h = cc
finish_asks false g s h = let z : ◌≡◌ {A = ℕ} 0 1 = cc in absurd (omega arith)

-- what a step that has ended says of its pass
record Finished (b : Bool) (g : List Float) (s : Stand) (x e r : List Float) (work : Work) : Type 0 where
  tests : b ≡ true
  tally : Report
  stands : s ≡ ends x e tally
  nonlinear : g ≡ r
  told : work_of tally ≡ work

finish_ends : (b : Bool) (g : List Float) (s : Stand) {x e r : List Float} {work : Work} → cond b (finish g s) refused ≡ ended x e r work → Finished b g s x e r work
unfolding finish
finish_ends true g fails h = let z : ◌≡◌ {A = ℕ} 0 1 = cc in absurd (omega arith)
finish_ends true g (asks y t) h = let z : ◌≡◌ {A = ℕ} 0 1 = cc in absurd (omega arith)
finish_ends true g (ends y e t) h = record { tests = refl; tally = t; stands = cc; nonlinear = cc; told = cc }
finish_ends false g s h = let z : ◌≡◌ {A = ℕ} 0 1 = cc in absurd (omega arith)

-- ---- THE CLAIMS, of a step
pub asks_early : AsksEarly
unfolding perform_step Kept
asks_early k p a count j answers x time small h =
    let au = mat_vec p.n a p.state in
    let g = subtract p.n p.f0 au in
    let stand = replay p.n (pass k p a au g) count j answers in
    let e : stand ≡ asks x time = finish_asks (all_finite au && all_finite g) g stand h in
    let kept = subst (Kept p.n) e (replay_kept (pass-vectors k p a au g small) p.n count j answers) in
    record { early = replay_asks (asks_questions k p a au g) p.n count j answers e; state = kept.0; moment = kept.1 }

pub ends_late : EndsLate
unfolding perform_step Kept
ends_late k p a count j answers x e g work small h =
    let au = mat_vec p.n a p.state in
    let g' = subtract p.n p.f0 au in
    let stand = replay p.n (pass k p a au g') count j answers in
    let f = finish_ends (all_finite au && all_finite g') g' stand h in
    let kept = subst (Kept p.n) f.stands (replay_kept (pass-vectors k p a au g' small) p.n count j answers) in
    let whole : Whole p.n g' = record { vector = subtract_vector p.n p.f0 au small; numbers = (both_true (all_finite au) (all_finite g') f.tests).1 } in
    record {
      late = replay_ends (asks_questions k p a au g') p.n count j answers f.stands;
      candidate = kept.0;
      error = kept.1;
      nonlinear = subst (Whole p.n) f.nonlinear whole;
    }

-- ---- what the exponentials took, wherever answers lead

-- what is told of an end
Reported : Bool → ℕ → Stand → Type 0
Reported b m fails = Unit
Reported b m (asks x time) = Unit
Reported b m (ends x e t) = Took b m t

reported_fails : (b : Bool) (m : ℕ) → Reported b m fails
unfolding Reported
reported_fails b m = tt

reported_under : (b : Bool) (j m : ℕ) (t : Report) (s : Stand) → Took b j t → Reported b m s → Reported b (j + m) (under t s)
unfolding counting Reported
reported_under b j m t s p h = or_under (Reported b (j + m)) tt t s (go s h)
  where
    go : (s : Stand) → Reported b m s → Reported b (j + m) (counting t s)
    go fails h = tt
    go (asks x time) h = tt
    go (ends x e u) h = took_joined b p h

replay_reported : {d : ℕ} (n : ℕ) {b : Bool} {m k : ℕ} {p : Pass} → Shaped b d m k p → (count j : ℕ) (answers : List Float) → Reported b k (replay n p count j answers)
unfolding replay
replay_reported n {b} (ask_s {j = i} {k = m} {t = t} {x = x} {time = time} p v next) zero j answers =
    reported_under b i m t _ p (or_fails (Reported b m) (reported_fails b m) (all_finite x && finite time) (asks x time) (λ _. unfold Reported in tt))
replay_reported n {b} (ask_s {j = i} {k = m} {t = t} {x = x} {time = time} p v next) (suc count) j answers =
    reported_under b i m t _ p (or_fails (Reported b m) (reported_fails b m) (all_finite x && finite time) _ (λ _. replay_reported n (next (answer n answers j)) count (suc j) answers))
replay_reported n {b} (done_s {j = i} {t = t} {x = x} {e = e} p v w) count j answers =
    subst (λ (k : ℕ). Reported b k (under t (cond (all_finite x && all_finite e) (ends x e clean) fails))) (add-zero i)
    (reported_under b i 0 t _ p (or_fails (Reported b 0) (reported_fails b 0) (all_finite x && all_finite e) (ends x e clean) (λ _. unfold Reported in took_clean b)))

-- an end of the pass of scheme k, from any start
end_took : {b : Bool} (k : ℕ) (p : Point) (a au g : List Float) → Start b p g → (count j : ℕ) (answers : List Float) {x e : List Float} {t : Report}
    → replay p.n (pass k p a au g) count j answers ≡ ends x e t → Took b (exponentials k (is_some p.previous)) t
unfolding Reported
end_took {b} k p a au g s count j answers h = subst (Reported b (exponentials k (is_some p.previous))) h (replay_reported p.n (pass_s k p a au g s) count j answers)

-- ---- THE CLAIM, of a step
pub step_work : StepWork
unfolding perform_step
step_work k p a count j answers x e g work small slope before h =
    let au = mat_vec p.n a p.state in
    let g' = subtract p.n p.f0 au in
    let f = finish_ends (all_finite au && all_finite g') g' (replay p.n (pass k p a au g') count j answers) h in
    let s : Start true p g' = record { small = λ _. small; slope = record { fit = λ _. slope }; before = λ w e. record { fit = λ _. subst (λ o. IfSome o (Doubles p.n)) e before }; rest = subtract_f p.n p.f0 au } in
    let t = end_took k p a au g' s count j answers f.stands in
    rw f.told at (told_work (exponentials k (is_some p.previous)) f.tally t)
  where
    told_work : (m : ℕ) (t : Report) → Took true m t → Worked m (work_of t)
    told_work m t p = unfold work_of term_room in record { made = p.number; few = omega (arith, p.terms, p.squarings) }

-- ---- the counts fit 32 bits, whatever the numbers are
narrow_fits : (m : ℕ) (t : Report) → m ≤ 34 → Took false m t → narrow t ≡ t
unfolding narrow term_room
narrow_fits m t h p =
    rw (word_is t.exponentials (omega (arith, p.number)), word_is t.terms (omega (arith, p.terms)), word_is t.squarings (omega (arith, p.squarings)))

work_fits : (m : ℕ) (t : Report) → m ≤ 34 → Took false m t → narrow_work (work_of t) ≡ work_of t
unfolding narrow_work work_of term_room
work_fits m t h p = rw (word_is t.exponentials (omega (arith, p.number)), word_is (t.terms + t.squarings) (omega (arith, p.terms, p.squarings)))

-- so a step is told as it is
pub step_fits : StepFits
step_fits k p a au g r count j answers = go (replay p.n (pass k p a au g) count j answers) refl
  where
    go : (s : Stand) → replay p.n (pass k p a au g) count j answers ≡ s → counted_in32 (finish r (in32 s)) ≡ finish r s
    go fails e = unfold counted_in32 finish in32 in refl
    go (asks x t) e = unfold counted_in32 finish in32 in refl
    go (ends x z t) e =
        let m = exponentials k (is_some p.previous) in
        let few = at_most_34 k (is_some p.previous) in
        let took = end_took k p a au g (any_start p g) count j answers e in
        unfold counted_in32 finish in32 in rw (narrow_fits m t few took, work_fits m t few took)
