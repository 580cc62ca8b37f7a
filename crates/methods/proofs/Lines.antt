-- Replaying a pass line by line: S is where the code's record stands, and b what the exponentials have reported so far. Assumes nothing.
use Rattle.std.proofs.Common.{◌≡◌, ℕ, zero, suc, ◌+◌, ◌-◌, ◌<◌, Bool, true, false, cond, ◌&&◌, leb, List, sym, refl, ap, ◌∙◌, add-zero, arith, leb-false, Float}
use Rattle.float.specs.Arith.{finite}
use Rattle.evaluation.specs.Evaluation.{all_finite}
use Rattle.std.specs.Prelude.{Option, Some, None}
use Rattle.methods.specs.declared.Tally.{Tally}
use Rattle.methods.specs.declared.Reached.{Reached}
use Rattle.methods.specs.declared.Reached.TheVariants.{Question, End}
use Rattle.methods.specs.Vectors.{axpy}
use Rattle.methods.specs.Tally.{Report, Tried, tested, clean, joined}
use Rattle.methods.specs.Phi.{over, more}
use Rattle.methods.specs.Parts.{if_wanted, narrow, narrowed, in32, report, stand}
use Rattle.methods.specs.Pass.{Pass, ask, done, also, now, try, question, ◌>>=◌, Stand, fails, asks, ends, counting, under, answer, replay}
use Rattle.methods.proofs.Tallies.{joined_assoc, joined-clean, under-clean, under-joined, narrow_right, held_narrow, held_alike}

-- ---- reports

replay-also : (n : ℕ) (b : Report) (p : Pass) (c j : ℕ) (r : List Float) → replay n (also b p) c j r ≡ under b (replay n p c j r)
unfolding replay also
replay-also n b (ask tally x t k) zero j r = under-joined b tally _
replay-also n b (ask tally x t k) (suc c) j r = under-joined b tally _
replay-also n b (done tally x e) c j r = under-joined b tally _

-- a report that fails, and a stand that does
under_refused : (t : Report) (s : Stand) → t.ok ≡ false → under t s ≡ fails
unfolding under
under_refused t s e = rw e

under_fails : (t : Report) → in32 (under t fails) ≡ fails
unfolding under counting in32
under_fails t = go t.ok
  where
    go : (b : Bool) → in32 (cond b fails fails) ≡ fails
    go true = refl
    go false = refl

-- ---- lines

-- the code's record stands at S, the pass has come to p, and b is the report so far
pub record Held (S : Stand) (b : Report) (n : ℕ) (p : Pass) (c j : ℕ) (r : List Float) : Type 0 where
  pub holds : S ≡ in32 (under b (replay n p c j r))

-- the same, with the report of the action that the pass is summing up beside it
pub record Sums (S : Stand) (b : Report) (q : Tried) (n : ℕ) (p : Pass) (c j : ℕ) (r : List Float) : Type 0 where
  pub holds : S ≡ in32 (under (joined b q.tally) (replay n p c j r))

-- the beginning: no report yet
pub begin : {S : Stand} (n : ℕ) (p : Pass) (c j : ℕ) (r : List Float) → Held S clean n p c j r → S ≡ in32 (replay n p c j r)
begin n p c j r h = rw (under-clean (replay n p c j r)) at h.holds

-- a function that takes over with a report
pub go_on : {S : Stand} (b : Report) (n : ℕ) (p : Pass) (c j : ℕ) (r : List Float) → Held S b n p c j r → S ≡ in32 (under b (replay n p c j r))
go_on b n p c j r h = h.holds

module _ {S : Stand} {b : Report} {n c j : ℕ} {r : List Float} where
  -- a vector worked out at once
  pub at_once : (x y : List Float) (next : List Float → Pass) → x ≡ y → Held S b n (next x) c j r → Held S b n (now y >>= next) c j r
  unfolding ◌>>=◌
  at_once x y next e h = record { holds = rw (← e) h.holds }

  -- one that exponentials were worked out for
  pub checked_line : (q p : Tried) (next : List Float → Pass)
      → q ≡ p → Held S (joined b q.tally) n (next q.v) c j r → Held S b n (try p >>= next) c j r
  unfolding ◌>>=◌
  checked_line q p next e h = record { holds = rw (← e, replay-also, ← under-joined) h.holds }

  -- one that is not admitted
  pub untried_line : (p : Tried) (next : List Float → Pass) → p.tally.ok ≡ false → S ≡ fails → Held S b n (try p >>= next) c j r
  unfolding ◌>>=◌
  untried_line p next e h = record { holds = h ∙ rw (replay-also n p.tally (next p.v) c j r, under_refused p.tally _ e, under_fails b) }

  -- the same, and something is made of it
  pub over_line : (q k p : Tried) (f : List Float → List Float) (next : List Float → Pass)
      → k ≡ p → q ≡ over f k → Held S (joined b q.tally) n (next q.v) c j r → Held S b n (try (over f p) >>= next) c j r
  over_line q k p f next g e h = checked_line q (over f p) next (rw (← g) e) h

  -- the same, where the code has only the vector
  pub over_plain : (k p : Tried) (f : List Float → List Float) (x : List Float) (next : List Float → Pass)
      → k ≡ p → x ≡ f k.v → Held S (joined b k.tally) n (next x) c j r → Held S b n (try (over f p) >>= next) c j r
  unfolding over
  over_plain k p f x next g e h = checked_line (over f k) (over f p) next (rw g) (record { holds = rw e at h.holds })

  -- the report as the code has it
  pub reported : {p : Pass} (t : Report) → t ≡ narrow b → Held S t n p c j r → Held S b n p c j r
  reported {p} t e h = record { holds = (rw e at h.holds) ∙ held_narrow b (replay n p c j r) }

  -- a sum: its first part, one part more, and the end
  pub first_part : (q p : Tried) (next : List Float → Pass) → q ≡ p → Sums S b q n (next q.v) c j r → Held S b n (try p >>= next) c j r
  first_part q p next e h = checked_line q p next e (record { holds = h.holds })

  pub first-over : (q k p : Tried) (f : List Float → List Float) (next : List Float → Pass)
      → k ≡ p → q ≡ over f k → Sums S b q n (next q.v) c j r → Held S b n (try (over f p) >>= next) c j r
  first-over q k p f next g e h = over_line q k p f next g e (record { holds = h.holds })

  pub next_plain : {s : Tried} (q p : Tried) (factor : Float) (next : List Float → Pass)
      → q ≡ more n s factor p → Sums S b q n (next q.v) c j r → Sums S b s n (try (over (axpy n s.v factor) p) >>= next) c j r
  unfolding ◌>>=◌ over more
  next_plain {s} q p factor next e h = record { holds = rw (replay-also, ← under-joined, joined_assoc) (rw e at h.holds) }

  pub next_part : {s : Tried} (q p : Tried) (factor : Float) (next : List Float → Pass)
      → q ≡ narrowed (more n s factor p) → Sums S b q n (next q.v) c j r → Sums S b s n (try (over (axpy n s.v factor) p) >>= next) c j r
  unfolding ◌>>=◌ over more narrowed
  next_part {s} q p factor next e h =
      record { holds = rw (replay-also, ← under-joined, joined_assoc) ((rw e at h.holds) ∙ held_alike _ _ _ (narrow_right b (joined s.tally p.tally))) }

  pub next_made : {s : Tried} (q k p : Tried) (factor : Float) (next : List Float → Pass)
      → k ≡ p → q ≡ narrowed (more n s factor k) → Sums S b q n (next q.v) c j r → Sums S b s n (try (over (axpy n s.v factor) p) >>= next) c j r
  next_made q k p factor next g e h = next_part q p factor next (rw (← g) e) h

  -- a vector worked out at once, on the way
  pub part_now : {q : Tried} (x y : List Float) (next : List Float → Pass) → x ≡ y → Sums S b q n (next x) c j r → Sums S b q n (now y >>= next) c j r
  unfolding ◌>>=◌
  part_now x y next e h = record { holds = rw (← e) h.holds }

  -- a sum with a part that was not admitted
  pub sum_fails : (q : Tried) (p : Pass) → q.tally.ok ≡ false → S ≡ fails → Sums S b q n p c j r
  sum_fails q p e h = record { holds = h ∙ rw (under-joined, under_refused q.tally _ e, under_fails b) refl }

  pub summed : (q : Tried) (p : Pass) → Held S (joined b q.tally) n p c j r → Sums S b q n p c j r
  summed q p h = record { holds = h.holds }

-- ---- what is not admitted, and nor is what is made of it
pub over_fails : (f : List Float → List Float) (p : Tried) → p.tally.ok ≡ false → (over f p).tally.ok ≡ false
unfolding over
over_fails f p e = e

pub wanted_fails : (w : Bool) (p : Tried) → (if_wanted w p).tally.ok ≡ false → p.tally.ok ≡ false
unfolding if_wanted tested
wanted_fails true p e = e
wanted_fails false p e = e

pub narrowed_fails : (p : Tried) → (narrowed p).tally.ok ≡ false → p.tally.ok ≡ false
unfolding narrowed narrow
narrowed_fails p e = e

no_and : (b : Bool) → (b && false) ≡ false
no_and true = refl
no_and false = refl

pub more_fails : (n : ℕ) (s : Tried) (factor : Float) (p : Tried) → p.tally.ok ≡ false → (more n s factor p).tally.ok ≡ false
unfolding more joined
more_fails n s factor p e = rw (e, no_and s.tally.ok) refl

pub onto_fails : (n : ℕ) (s : Tried) (factor : Float) (p : Tried) → s.tally.ok ≡ false → (more n s factor p).tally.ok ≡ false
unfolding more joined
onto_fails n s factor p e = rw e refl

-- a pass that is refused
pub stand_none : {r : Option Reached} → r ≡ None → stand r ≡ fails
unfolding stand
stand_none e = rw e refl

-- ---- questions and ends, where the exponentials so far took t

-- a stand under a test and a report whose tests held
under_held : (t : Tally) (b : Bool) (s : Stand) → in32 (under (report t) (under clean (cond b s fails))) ≡ cond b (in32 (under (report t) s)) fails
unfolding under counting in32 clean tested
under_held t true s = rw (under-clean s)
under_held t false s = refl

-- what the code reaches is no refusal
reached_test : (q : Reached) (b : Bool) (s : Stand) → stand (Some q) ≡ cond b s fails → b ≡ true
unfolding stand
reached_test (Question x t) true s h = refl
reached_test (Question x t) false s h = cc
reached_test (End x e t) true s h = refl
reached_test (End x e t) false s h = cc

-- a question that is still open, or is refused
pub open_line : {S : Stand} {t : Tally} {n c j : ℕ} {r : List Float} (x : List Float) (time : Float) (made : List Float → List Float) (next : List Float → Pass)
    → c ≡ 0 → S ≡ cond (all_finite x && finite time) (asks x time) fails → Held S (report t) n (question x time made >>= next) c j r
unfolding ◌>>=◌ replay under counting in32
open_line {t = t} x time made next z h = record { holds = rw z (h ∙ sym (under_held t (all_finite x && finite time) (asks x time))) }

-- one that is refused, with answers or without
unasked_test : (b : Bool) (x : List Float) (time : Float) → fails ≡ cond b (asks x time) fails → b ≡ false
unasked_test true x time h = cc
unasked_test false x time h = refl

refused_question : (t : Tally) (n c j : ℕ) (r x : List Float) (time : Float) (next : List Float → Pass) → (all_finite x && finite time) ≡ false
    → in32 (under (report t) (replay n (ask clean x time next) c j r)) ≡ fails
unfolding replay
refused_question t n zero j r x time next e = rw e (under_held t false fails)
refused_question t n (suc c) j r x time next e = rw e (under_held t false fails)

pub unasked_line : {S : Stand} {t : Tally} {n c j : ℕ} {r : List Float} (x : List Float) (time : Float) (made : List Float → List Float) (next : List Float → Pass)
    → stand None ≡ cond (all_finite x && finite time) (asks x time) fails → S ≡ fails → Held S (report t) n (question x time made >>= next) c j r
unfolding ◌>>=◌ stand
unasked_line {t = t} {n = n} {c = c} {j = j} {r = r} x time made next h s =
    record { holds = s ∙ sym (refused_question t n c j r x time (λ answer. next (made answer)) (unasked_test _ x time h)) }

-- one that is answered, and what is made of the answer
pub answered_line : {S : Stand} {t : Tally} {n c j : ℕ} {r : List Float} (q : Reached) (x : List Float) (time : Float) (made : List Float → List Float)
    (f : List Float) (next : List Float → Pass) (k : ℕ)
    → stand (Some q) ≡ cond (all_finite x && finite time) (asks x time) fails → (c ≡ 0 → ⊥) → f ≡ made (answer n r k) → k ≡ j → Held S (report t) n (next f) (c - 1) (j + 1) r
    → Held S (report t) n (question x time made >>= next) c j r
unfolding ◌>>=◌ replay
answered_line {c = zero} q x time made f next k e z g y h = absurd (z refl)
answered_line {t = t} {n = n} {c = suc c} {j = j} {r = r} q x time made f next k e z g y h =
    let d : suc c - 1 ≡ c = omega arith in
    let i : j + 1 ≡ suc j = omega arith in
    let f' : f ≡ made (answer n r j) = rw y at g in
    let b : (all_finite x && finite time) ≡ true = reached_test q _ _ e in
    record { holds = rw (b, under_held t true _, ← f') (rw (d, i) at h.holds) }

-- the end
end_held : (t : Tally) (b : Bool) (x e : List Float)
    → cond b (ends x e (narrow (report t))) fails ≡ in32 (under (report t) (under clean (cond b (ends x e clean) fails)))
unfolding under counting in32 clean tested joined narrow
end_held t true x e = rw (add-zero t.exponentials, add-zero t.terms, add-zero t.squarings) refl
end_held t false x e = refl

pub last_line : {S : Stand} {t : Tally} {n c j : ℕ} {r : List Float} (x y e : List Float) → x ≡ y
    → S ≡ cond (all_finite x && all_finite e) (ends x e (narrow (report t))) fails → Held S (report t) n (done clean y e) c j r
unfolding replay
last_line {t = t} x y e k h = record { holds = rw (← k) (h ∙ end_held t (all_finite x && all_finite e) x e) }

-- the first report, which nothing stands before
pub alone : {S : Stand} {n c j : ℕ} {r : List Float} (t : Report) (p : Pass) → Held S t n p c j r → Held S (joined clean t) n p c j r
alone t p h = record { holds = rw (joined-clean t) h.holds }

-- the rest is another function's
pub handed_on : {S : Stand} {b : Report} {n c j : ℕ} {p : Pass} {r : List Float} → S ≡ in32 (under b (replay n p c j r)) → Held S b n p c j r
handed_on h = record { holds = h }

-- the same, where the numbers are written otherwise
pub handed_later : {S : Stand} {b : Report} {n c j : ℕ} {p : Pass} {r : List Float} (d k : ℕ) → S ≡ in32 (under b (replay n p d k r)) → d ≡ c → k ≡ j → Held S b n p c j r
handed_later d k h e f = record { holds = rw (e, f) at h }

-- ---- vectors that are not used yet

-- two passes that ask the same in their first m questions, whatever the answers
pub data AskAlike : ℕ → Pass → Pass → Type 0 where
  unasked : {p q : Pass} → AskAlike zero p q
  both_ask : {m : ℕ} {t : Report} {x : List Float} {time : Float} {f g : List Float → Pass}
      → ((answer : List Float) → AskAlike m (f answer) (g answer)) → AskAlike (suc m) (ask t x time f) (ask t x time g)

-- a stand that no report but its test alters: it fails or asks
abbrev pub Open : Stand → Type 0
Open s = (t : Report) → counting t s ≡ s

open_fails : Open fails
unfolding counting
open_fails t = refl

open_asks : (x : List Float) (time : Float) → Open (asks x time)
unfolding counting
open_asks x time t = refl

open_cond : (b : Bool) (s : Stand) → Open s → Open (cond b s fails)
open_cond true s h = h
open_cond false s h = open_fails

open_under : (t : Report) (s : Stand) → Open s → Open (under t s)
unfolding under
open_under t s h = open_cond t.ok (counting t s) (rw (h t) h)

-- fewer answers than that do not tell them apart, and lead to no end
pub replay_alike : {m : ℕ} {p q : Pass} (n c j : ℕ) (r : List Float) → AskAlike m p q → c < m → (replay n p c j r ≡ replay n q c j r) × Open (replay n p c j r)
unfolding replay
replay_alike n c j r unasked h = absurd (omega arith)
replay_alike n zero j r (both_ask {m} {t} {x} {time} next) h =
    (refl, open_under t _ (open_cond (all_finite x && finite time) (asks x time) (open_asks x time)))
replay_alike n (suc c) j r (both_ask {m} {t} {x} {time} next) h =
    let rest = replay_alike n c (suc j) r (next (answer n r j)) (omega arith) in
    (rw rest.0, open_under t _ (open_cond (all_finite x && finite time) _ rest.1))

-- a report whose test alone is told, over a stand that it does not alter
under_open : (t : Report) (s : Stand) → Open s → under t s ≡ cond t.ok s fails
unfolding under
under_open t s h = rw (h t)

same_test : (b t u : Report) → t ≡ tested u.ok → (joined b t).ok ≡ (joined b u).ok
unfolding joined tested
same_test b t u e = rw e

told_alone : (b t u : Report) (s : Stand) → t ≡ tested u.ok → Open s → under (joined b t) s ≡ under (joined b u) s
told_alone b t u s e h = under_open (joined b t) s h ∙ ap (λ c. cond c s fails) (same_test b t u e) ∙ sym (under_open (joined b u) s h)

-- a vector that is worked out only where it is wanted, and the report with it
wanted_vector : {S : Stand} {m n c j : ℕ} {r : List Float} (b : Report) (w : Bool) (q p : Tried) (next : List Float → Pass)
    → q ≡ if_wanted w p → (w ≡ false → c < m) → ((x y : List Float) → AskAlike m (next x) (next y))
    → Held S (joined b q.tally) n (next q.v) c j r → Held S (joined b p.tally) n (next p.v) c j r
unfolding if_wanted
wanted_vector b true q p next e few unused h = record { holds = rw e at h.holds }
wanted_vector {n = n} {c = c} {j = j} {r = r} b false q p next e few unused h =
    let alike = replay_alike n c j r (unused q.v p.v) (few refl) in
    let t : q.tally ≡ tested p.tally.ok = rw e in
    record { holds = rw (← alike.0, ← (told_alone b q.tally p.tally _ t alike.1)) h.holds }

-- a line of it: with d answers it is wanted from the k-th on; before, the c that are left do not lead past the m questions that the pass asks without it
pub wanted_line : {S : Stand} {b : Report} {n c j : ℕ} {r : List Float} (m k d : ℕ) (q p : Tried) (next : List Float → Pass)
    → q ≡ if_wanted (leb k d) p → (d < k → c < m) → ((x y : List Float) → AskAlike m (next x) (next y))
    → Held S (joined b q.tally) n (next q.v) c j r → Held S b n (try p >>= next) c j r
wanted_line {b = b} m k d q p next e few unused h = checked_line p p next refl (wanted_vector b (leb k d) q p next e (λ f. few (leb-false k d f)) unused h)
