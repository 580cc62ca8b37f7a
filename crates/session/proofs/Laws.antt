-- What follows from tests that passed, and what is told of an attempt. Assumes nothing.
use Rattle.loops.proofs.Bools.{both_true}
use Rattle.methods.specs.Step.{Progress, progress as reached}
use Rattle.std.specs.Prelude.{Result, Ok, Err, ⊤, Option, Some, None}
use Rattle.session.specs.declared.Wish.TheVariants.{Given, Difference}
use Rattle.session.specs.declared.Refusal.{Refusal}
use Rattle.session.specs.declared.Refusal.TheVariants as Why
use Rattle.session.specs.Tests.{Tests, tested, condition, unless}
use Rattle.session.specs.Session.{schemes, fresh, wanted, wanted_by, phase_at, phase_of, phase_number, open_place, admits, names, size_ok, run_places, attempt_places}
use Rattle.float.specs.Arith.{finite}
use Rattle.evaluation.specs.Evaluation.{all_finite}
use Rattle.session.specs.Session.{good1, history_ok, good2, good3, good7, good9, session_tests, used_jacobian, Sound, clear}
use Rattle.methods.proofs.Shape.{questions-small}
use Rattle.evaluation.specs.Sizes.{answers_kept}
use Rattle.methods.specs.Vectors.{Sized}
use Rattle.matrix.specs.declared.Reach.{Reach}
use Rattle.matrix.specs.Matrix.{admitted, exponential, reach}
use Rattle.matrix.specs.Calls.{Filled as Raised}
use Rattle.methods.specs.declared.Action.{Action}
use Rattle.methods.specs.Tally.{Tried}
use Rattle.methods.specs.Parts.{taken, made}
use Rattle.methods.proofs.Made.{taken_is, untaken}
use Rattle.session.specs.Bare.{bare, refuse_bare, exponential_tests, phi_tests, norm_tests}
use Rattle.session.specs.Calls.{outcome, tell, refuse, refuse_lent, begun, answered, vector_tests, attempt_tests, begin_tests, supply_tests}
use Rattle.session.specs.Calls.{accept_tests, first_step_tests, shown, arrived, settled, ready_of}
use Rattle.std.proofs.Common.{ℕ, zero, suc, ◌*◌, ◌≤◌, ◌<◌, ◌≡◌, refl, Bool, true, false, cond, ◌&&◌, List, ◌++◌, arith, leb, ltb, eqb, Float, length, leb-true, ltb-true, eqb-true, mul-le-mul}
use Rattle.std.proofs.Math.Bool.{false≢true}
use Rattle.std.proofs.lemmas.Bool.{lt-leb}
use Rattle.std.proofs.Math.Bool.{and-false}
use Rattle.loops.specs.Loop.{tab, ◌!◌}
use Rattle.std.specs.Prelude.{Option, Some, None}
use Rattle.methods.specs.declared.Work.{Work}
use Rattle.methods.specs.declared.StepResult.TheVariants.{Question, Done}
use Rattle.session.specs.declared.Session.{Session}
use Rattle.session.specs.declared.Told.{Told}
use Rattle.session.specs.declared.Answer.{Answer}
use Rattle.session.specs.declared.Answer.TheVariants.{Ask, Filled}
use Rattle.session.specs.declared.Phase.{Phase}
use Rattle.session.specs.declared.Phase.TheVariants.{Rest, Asking, Waiting}
use Rattle.session.specs.declared.Wish.{Wish}
use Rattle.session.proofs.Tests.{passes, both_pass, tested-append}

pub wanted-small : (k n : ℕ) (a : Option Wish) → n ≤ 16 → wanted k n a ≤ answers_kept
unfolding wanted
wanted-small k n None h = omega arith
wanted-small k n (Some Given) h = omega (arith, questions-small k)
wanted-small k n (Some Difference) h = omega (arith, questions-small k)

pub size_both : (n : ℕ) → (leb 1 n && leb n 16) ≡ true → (1 ≤ n) × (n ≤ 16)
size_both n e = let p : (leb 1 n ≡ true) × (leb n 16 ≡ true) = both_true (leb 1 n) (leb n 16) e in (leb-true 1 n p.0, leb-true n 16 p.1)

good_size : (b p : Bool) → cond b p false ≡ true → b ≡ true
good_size true p e = refl
good_size false p e = absurd (false≢true e)

pub good1_size : (s : Session) → good1 s ≡ true → (1 ≤ s.n) × (s.n ≤ 16)
unfolding good1 size_ok
good1_size s e = size_both s.n (good_size (size_ok s.n) (run_places s && attempt_places s) e)

good2_parts : (s : Session) → good2 s ≡ true → (s.scheme < schemes) × (s.count ≤ wanted_by s)
unfolding good2
good2_parts s e =
    let a = both_true (ltb s.scheme schemes && history_ok s.history s.scheme) (leb s.count (wanted_by s)) e in
    let b = both_true (ltb s.scheme schemes) (history_ok s.history s.scheme) a.0 in
    (ltb-true s.scheme schemes b.0, leb-true s.count (wanted_by s) a.1)

good3_state : (s : Session) → good3 s ≡ true → all_finite s.state ≡ true
unfolding good3
good3_state s e =
    let a = both_true (finite s.time && all_finite s.state && all_finite s.derivative && all_finite s.previous && all_finite s.jacobian) (all_finite s.answers) e in
    let b = both_true (finite s.time && all_finite s.state && all_finite s.derivative && all_finite s.previous) (all_finite s.jacobian) a.0 in
    let c = both_true (finite s.time && all_finite s.state && all_finite s.derivative) (all_finite s.previous) b.0 in
    let d = both_true (finite s.time && all_finite s.state) (all_finite s.derivative) c.0 in
    (both_true (finite s.time) (all_finite s.state) d.0).1

-- ---- sessions that are not refused

-- the row of a refusal
pub session_row : (wants : Option Phase) (s : Session) → tested (session_tests wants s) ≡ Ok tt → (why : Refusal) → condition why (session_tests wants s) ≡ true
session_row wants s e = passes (session_tests wants s) e

pub passed_sound : (wants : Option Phase) (s : Session) → tested (session_tests wants s) ≡ Ok tt → Sound s
passed_sound wants s e =
    let n = good1_size s (unfold condition session_tests in session_row wants s e Why.Places) in
    let m = good2_parts s (unfold condition session_tests in session_row wants s e Why.Scheme) in
    record { some = n.0; small = n.1; scheme = m.0; enough = m.1; calm = good3_state s (unfold condition session_tests in session_row wants s e Why.NotFinite) }

pub in_phase : (phase : Phase) (s : Session) → tested (session_tests (Some phase) s) ≡ Ok tt → phase_number phase ≡ phase_number (phase_of s)
in_phase phase s e =
    eqb-true (phase_number phase) (phase_number (phase_of s)) (unfold condition session_tests good7 admits in session_row (Some phase) s e Why.Phase)

asking_more : (a : Option Wish) (place : ℕ) (b : Bool) → 1 ≡ phase_number (phase_at a place b) → b ≡ true
unfolding phase_at phase_number
asking_more None place b e = absurd (omega (arith, e))
asking_more (Some wish) place true e = refl
asking_more (Some wish) place false e = absurd (omega (arith, e))

-- a session that asks wants an answer more
pub wants_more : (s : Session) (place : ℕ) → tested (session_tests (Some (Asking place)) s) ≡ Ok tt → s.count < wanted_by s
wants_more s place e = ltb-true s.count (wanted_by s) (asking_more s.attempt s.count _ (unfold phase_of phase_number in in_phase (Asking place) s e))

-- and a call that names a question names the open one
pub open_named : (s : Session) (place : ℕ) → tested (session_tests (Some (Asking place)) s) ≡ Ok tt → place ≡ s.count
open_named s place e = eqb-true place s.count (unfold condition session_tests good9 names in session_row (Some (Asking place)) s e Why.Question)

pub few_answers : (s : Session) (place : ℕ) → tested (session_tests (Some (Asking place)) s) ≡ Ok tt → s.count < answers_kept
few_answers s place e = omega (arith, wants_more s place e, wanted-small s.scheme s.n s.attempt (passed_sound (Some (Asking place)) s e).small)

-- what is handed in is tested where the session passes
pub session_then : (wants : Option Phase) (s : Session) (handed : Tests) {k m : Result ⊤ Refusal} → k ≡ tested (session_tests wants s) → k ≡ Ok tt → m ≡ tested handed
    → m ≡ tested (session_tests wants s ++ handed)
unfolding unless
session_then wants s handed e z f = rw (tested-append (session_tests wants s) handed, ← e, z) f

pub session_fails : (wants : Option Phase) (s : Session) (handed : Tests) {k : Result ⊤ Refusal} {why : Refusal} → k ≡ tested (session_tests wants s) → k ≡ Err why
    → Err why ≡ tested (session_tests wants s ++ handed)
unfolding unless
session_fails wants s handed e z = rw (tested-append (session_tests wants s) handed, ← e, z)

-- ---- calls that are not refused

pub begin_passes : (s : Session) (h : Float) (a : Option Wish) (j : List Float) (lent : ℕ) → tested (begin_tests s h a j lent) ≡ Ok tt
    → (tested (session_tests (Some Rest) s) ≡ Ok tt) × (tested (attempt_tests s.n h a j lent) ≡ Ok tt)
unfolding begin_tests
begin_passes s h a j lent e = both_pass (session_tests (Some Rest) s) _ e

pub supply_passes : (s : Session) (place : ℕ) (x : List Float) (lent : ℕ) → tested (supply_tests s place x lent) ≡ Ok tt
    → (tested (session_tests (Some (Asking place)) s) ≡ Ok tt) × (tested (vector_tests s.n x (eqb lent s.n)) ≡ Ok tt)
unfolding supply_tests
supply_passes s place x lent e = both_pass (session_tests (Some (Asking place)) s) _ e

pub accept_passes : (s : Session) (x : List Float) → tested (accept_tests s x) ≡ Ok tt
    → (tested (session_tests (Some Waiting) s) ≡ Ok tt) × (tested (vector_tests s.n x true) ≡ Ok tt)
unfolding accept_tests
accept_passes s x e = both_pass (session_tests (Some Waiting) s) _ e

pub first_step_passes : (s : Session) (largest : Float) → tested (first_step_tests s largest) ≡ Ok tt → tested (session_tests None s) ≡ Ok tt
unfolding first_step_tests
first_step_passes s most e = (both_pass (session_tests None s) _ e).0

pub attempt_row : (n : ℕ) (h : Float) (a : Option Wish) (j : List Float) (lent : ℕ) → tested (attempt_tests n h a j lent) ≡ Ok tt
    → (why : Refusal) → condition why (attempt_tests n h a j lent) ≡ true
attempt_row n h a j lent e = passes (attempt_tests n h a j lent) e

pub vector_row : (n : ℕ) (x : List Float) (lent : Bool) → tested (vector_tests n x lent) ≡ Ok tt → (why : Refusal) → condition why (vector_tests n x lent) ≡ true
vector_row n x lent e = passes (vector_tests n x lent) e

pub begin_length : (n : ℕ) (h : Float) (a : Option Wish) (j : List Float) (lent : ℕ) → tested (attempt_tests n h a j lent) ≡ Ok tt → lent ≡ n
begin_length n h a j lent e =
    eqb-true lent n (both_true (clear (used_jacobian a n) j) (eqb lent n) (unfold condition attempt_tests in attempt_row n h a j lent e Why.Places)).1

pub vector_length : (n : ℕ) (x : List Float) (lent : ℕ) → tested (vector_tests n x (eqb lent n)) ≡ Ok tt → lent ≡ n
vector_length n x lent e =
    eqb-true lent n (both_true (clear n x) (eqb lent n) (unfold condition vector_tests in vector_row n x (eqb lent n) e Why.Places)).1

pub begun_sound : (s : Session) (h : Float) (w : Wish) (j : List Float) → Sound s → Sound (begun s h (Some w) j)
unfolding begun fresh
begun_sound s h w j r = record { some = r.some; small = r.small; scheme = r.scheme; enough = omega arith; calm = r.calm }

pub answered_sound : (s : Session) (x : List Float) → Sound s → s.count < wanted_by s → Sound (answered s x)
unfolding answered
answered_sound s x r h = record { some = r.some; small = r.small; scheme = r.scheme; enough = omega arith; calm = r.calm }

-- ---- what is shown of a pass, from what the code knows of it
module _ (old s : Session) (o o' : List Float) (p : Progress) where
  pub show_none : reached None ≡ p → refuse_lent old o Why.Arithmetic ≡ shown old s o p
  unfolding shown reached
  show_none v = rw (← v) refl

  pub show_question : (x : List Float) (t : Float) → reached (Some (Question x t)) ≡ p → length o ≡ s.n → o' ≡ tab (length o) (λ i. x ! i)
      → outcome (tell (Ask (open_place s) t) s) o' ≡ shown old s o p
  unfolding shown reached
  show_question x t v l c = rw (← v, c, l) refl

  pub show_done : (x e g : List Float) (w : Work) (a : Answer) → reached (Some (Done x e g w)) ≡ p → length o ≡ s.n → o' ≡ tab (length o) (λ i. x ! i) → a ≡ ready_of s x e w
      → outcome (tell a s) o' ≡ shown old s o p
  unfolding shown reached
  show_done x e g w a v l c h = rw (← v, c, l, h) refl

module _ (s : Session) (f : List Float) (p : Progress) (r : Told) where
  pub settle_none : reached None ≡ p → r ≡ refuse s Why.Arithmetic → r ≡ settled s f p
  unfolding settled reached
  settle_none v h = rw (← v) h

  pub settle_question : (x : List Float) (t : Float) → reached (Some (Question x t)) ≡ p → r ≡ refuse s Why.Arithmetic → r ≡ settled s f p
  unfolding settled reached
  settle_question x t v h = rw (← v) h

  pub settle_done : (x e g : List Float) (w : Work) → reached (Some (Done x e g w)) ≡ p → r ≡ arrived s x f g → r ≡ settled s f p
  unfolding settled reached
  settle_done x e g w v h = rw (← v) h

pub area : {n : ℕ} → n ≤ 16 → n * n ≤ 256
area h = mul-le-mul h h

-- ---- the bare calls
pub area20 : {n : ℕ} → n ≤ 20 → n * n ≤ 400
area20 h = mul-le-mul h h

pub size20 : (n : ℕ) → (leb 1 n && leb n 20) ≡ true → n ≤ 20
size20 n e = leb-true n 20 (both_true (leb 1 n) (leb n 20) e).1

pub order_size : (n : ℕ) (b c : Bool) → (leb 1 n && leb n 16 && b && c) ≡ true → n ≤ 16
order_size n b c e = (size_both n (both_true (leb 1 n && leb n 16) b (both_true (leb 1 n && leb n 16 && b) c e).0).0).1

pub exponential_sized : (size : ℕ) (m : List Float) (lent : ℕ) → tested (exponential_tests size m lent) ≡ Ok tt → (size ≤ 20) × ((length m ≡ size * size) × (lent ≡ size * size))
exponential_sized size m lent e =
    let p = both_true (leb 1 size && leb size 20) (eqb (length m) (size * size) && eqb lent (size * size))
    (unfold condition exponential_tests in passes (exponential_tests size m lent) e Why.Places) in
    let q = both_true (eqb (length m) (size * size)) (eqb lent (size * size)) p.1 in
    (size20 size p.0, (eqb-true (length m) (size * size) q.0, eqb-true lent (size * size) q.1))

-- what is told of an exponential, from what matrix_exp leaves
module _ (m m' o out : List Float) (n : ℕ) where
  pub filled_is : (k : Reach) → Raised m n m' o out (Some k)
      → bare (Ok (Filled k.terms k.squarings)) out ≡ cond (admitted m n) (bare (Ok (Filled (exponential m n).terms (exponential m n).squarings)) (exponential m n).entries) (refuse_bare o Why.Arithmetic)
  unfolding reach
  filled_is k f = go (admitted m n) f.told f.output
    where
      go : (b : Bool) → Some k ≡ cond {A = Option Reach} b (Some (record { terms = (exponential m n).terms; squarings = (exponential m n).squarings })) None
          → out ≡ cond b (exponential m n).entries o
          → bare (Ok (Filled k.terms k.squarings)) out ≡ cond b (bare (Ok (Filled (exponential m n).terms (exponential m n).squarings)) (exponential m n).entries) (refuse_bare o Why.Arithmetic)
      go true e h =
          let q : ◌≡◌ {A = Reach} k (record { terms = (exponential m n).terms; squarings = (exponential m n).squarings }) = cc in
          rw (q, h) refl
      go false e h = cc

  pub unfilled_is : Raised m n m' o out None
      → bare (Err Why.Arithmetic) out ≡ cond (admitted m n) (bare (Ok (Filled (exponential m n).terms (exponential m n).squarings)) (exponential m n).entries) (refuse_bare o Why.Arithmetic)
  unfolding reach
  unfilled_is f = go (admitted m n) f.told f.output
    where
      go : (b : Bool) → None ≡ cond {A = Option Reach} b (Some (record { terms = (exponential m n).terms; squarings = (exponential m n).squarings })) None
          → out ≡ cond b (exponential m n).entries o
          → bare (Err Why.Arithmetic) out ≡ cond b (bare (Ok (Filled (exponential m n).terms (exponential m n).squarings)) (exponential m n).entries) (refuse_bare o Why.Arithmetic)
      go true e h = cc
      go false e h = rw h refl

-- what is told of a phi action
module _ (p : Tried) (o out : List Float) (n : ℕ) where
  pub acted_is : (k : Action) → Some k ≡ made p → out ≡ tab n (λ i. k.v ! i)
      → bare (Ok (Filled k.tally.terms k.tally.squarings)) out ≡ cond p.tally.ok (bare (Ok (Filled p.tally.terms p.tally.squarings)) (tab n (λ i. p.v ! i))) (refuse_bare o Why.Arithmetic)
  acted_is k e h = let q : taken k ≡ p = taken_is k p e in rw (← q, h) refl

  pub unacted_is : None ≡ made p
      → bare (Err Why.Arithmetic) o ≡ cond p.tally.ok (bare (Ok (Filled p.tally.terms p.tally.squarings)) (tab n (λ i. p.v ! i))) (refuse_bare o Why.Arithmetic)
  unacted_is e = rw (untaken p e) refl

-- what a phi action that is not refused has
pub record Acted (n order : ℕ) (a input : List Float) (lent : ℕ) : Type 0 where
  pub sized : Sized n a
  pub least : 1 ≤ order
  pub most : order ≤ 4
  pub inputs : length input ≡ n
  pub places : lent ≡ n

pub phi_sized : (n order : ℕ) (scaleA : Float) (a input : List Float) (lent : ℕ) → tested (phi_tests n order scaleA a input lent) ≡ Ok tt → Acted n order a input lent
unfolding size_ok
phi_sized n order scaleA a input lent e =
    let p = both_true (leb 1 n && leb n 16 && leb 1 order && leb order 4) (eqb (length a) (n * n) && eqb (length input) n && eqb lent n)
    (unfold condition phi_tests in passes (phi_tests n order scaleA a input lent) e Why.Places) in
    let q = both_true (leb 1 n && leb n 16 && leb 1 order) (leb order 4) p.0 in
    let r = both_true (leb 1 n && leb n 16) (leb 1 order) q.0 in
    let s = size_both n r.0 in
    let t = both_true (eqb (length a) (n * n) && eqb (length input) n) (eqb lent n) p.1 in
    let u = both_true (eqb (length a) (n * n)) (eqb (length input) n) t.0 in
    record {
      sized = record { some = s.0; small = s.1; square = eqb-true (length a) (n * n) u.0 };
      least = leb-true 1 order r.1;
      most = leb-true order 4 q.1;
      inputs = eqb-true (length input) n u.1;
      places = eqb-true lent n t.1;
    }

-- an order that is none
pub phi_unordered : (n order : ℕ) (scaleA : Float) (a input : List Float) (lent : ℕ) → (1 ≤ order → 4 < order) → tested (phi_tests n order scaleA a input lent) ≡ Err Why.Places
unfolding phi_tests tested
phi_unordered n zero scaleA a input lent far = rw (and-false (size_ok n))
phi_unordered n (suc k) scaleA a input lent far = rw (lt-leb (suc k) 4 (far (omega arith)), and-false (size_ok n && leb 1 (suc k)))

-- 1, of the error norm
abbrev pub placed : ℕ → List Float → List Float → List Float → List Float → Bool
placed n absolute error state candidate = size_ok n && clear n absolute && clear n error && clear n state && clear n candidate

pub placed_sized : (n : ℕ) (absolute error state candidate : List Float) → placed n absolute error state candidate ≡ true → (1 ≤ n) × (n ≤ 16)
unfolding size_ok
placed_sized n absolute error state candidate e =
    let p = both_true (leb 1 n && leb n 16 && clear n absolute && clear n error && clear n state) (clear n candidate) e in
    let q = both_true (leb 1 n && leb n 16 && clear n absolute && clear n error) (clear n state) p.0 in
    let t = both_true (leb 1 n && leb n 16 && clear n absolute) (clear n error) q.0 in
    size_both n (both_true (leb 1 n && leb n 16) (clear n absolute) t.0).0

pub placed_by : {a b c d : Bool} (n : ℕ) (absolute error state candidate : List Float)
    → a ≡ clear n absolute → b ≡ clear n error → c ≡ clear n state → d ≡ clear n candidate
    → (leb 1 n && leb n 16 && a && b && c && d) ≡ placed n absolute error state candidate
unfolding size_ok
placed_by n absolute error state candidate e f g h = rw (e, f, g, h)

pub norm_sized : (n : ℕ) (relative : Float) (absolute error state candidate : List Float) → tested (norm_tests n relative absolute error state candidate) ≡ Ok tt → (1 ≤ n) × (n ≤ 16)
norm_sized n relative absolute error state candidate e =
    placed_sized n absolute error state candidate (unfold condition norm_tests in passes (norm_tests n relative absolute error state candidate) e Why.Places)
