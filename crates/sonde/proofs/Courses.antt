-- A run, step by step: what its definition says of it so far, and what is written so far. Assumes nothing.
use Rattle.std.proofs.Common.{inl, inr, ℕ, suc, ◌<◌, arith, ◌≡◌, refl, sym, ap, ◌∙◌, Bool, true, false, cond, ◌&&◌, leb, List, [], ◌++◌, append-nil, append_assoc, Option}
use Rattle.std.specs.Prelude.{Ok, Err, ◌⊎◌}
use Rattle.std.specs.Io.KnownBytes.{Appends}
use Rattle.std.proofs.KnownBytes.{Appends-nil, Appends-trans}
use Rattle.evaluation.specs.Sizes.{places}
use Rattle.session.specs.declared.Session.{Session}
use Rattle.session.specs.declared.Told.{Told}
use Rattle.session.specs.declared.Answer.{Answer}
use Rattle.session.specs.declared.Refusal.{Refusal}
use Rattle.session.specs.declared.Refusal.TheVariants as Why
use Rattle.session.specs.Tests.{tested, unless}
use Rattle.session.specs.Session.{Run, size_ok, good1, session_tests}
use Rattle.session.specs.Calls.{opened}
use Rattle.table.specs.Whole.{opening_tests, open_by_table, whole_step}
use Rattle.sonde.specs.Frames.{size_in, steps_in, step_in, table_in, reaches_table, run_in, frame, Course, finished, ends_by, framed, unless_refused, steps_by, course_of}

-- a run of this course has written some frames and goes on as `rest`
pub record Along (course rest : Course) (old now : Option (List ℕ)) : Type 0 where
  pub frames : List ℕ
  pub so_far : course.frames ≡ frames ++ rest.frames
  pub as_well : course.refusal ≡ rest.refusal
  pub appended : Appends old now frames

pub begins : (b : List ℕ) (k : ℕ) {j : ℕ} (s : Session) (now : Option (List ℕ)) → j ≡ k → Along (steps_by b k s) (steps_by b j s) now now
begins b k s now e = record {
  frames = [];
  so_far = ap (λ j. (steps_by b j s).frames) (sym e);
  as_well = ap (λ j. (steps_by b j s).refusal) (sym e);
  appended = Appends-nil now;
}

-- a frame more
pub goes_on : {course rest : Course} (next : Course) (bytes : List ℕ) (old now new : Option (List ℕ)) → Along course rest old now → rest ≡ framed bytes next → Appends now new bytes
    → Along course next old new
goes_on next bytes old now new a e p = record {
  frames = a.frames ++ bytes;
  so_far = a.so_far ∙ ap (λ (c : Course). a.frames ++ c.frames) e ∙ sym (append_assoc a.frames bytes next.frames);
  as_well = a.as_well ∙ ap (λ (c : Course). c.refusal) e;
  appended = Appends-trans old now new a.frames bytes a.appended p;
}

-- with no frame any more
pub ends : {course rest : Course} (old now : Option (List ℕ)) → Along course rest old now → {refusal : Option Refusal} → rest ≡ record { frames = []; refusal = refusal }
    → (course.refusal ≡ refusal) × Appends old now course.frames
ends {course} {rest} old now a e =
    let all : a.frames ≡ course.frames = sym (append-nil a.frames) ∙ ap (λ (c : Course). a.frames ++ c.frames) (sym e) ∙ sym a.so_far in
    (a.as_well ∙ ap (λ (c : Course). c.refusal) e, rw all at a.appended)

-- ---- steps

module _ (b : List ℕ) {k : ℕ} (j : ℕ) (more : k ≡ suc j) (s : Session) {t : Told} (made : t ≡ whole_step s (table_in b) (step_in b)) where
  pub steps_refused : (refusal : Refusal) → t.answer ≡ Err refusal → steps_by b k s ≡ ends_by refusal
  unfolding steps_by unless_refused
  steps_refused refusal e = rw (more, ← made, e)

  pub steps_more : (answer : Answer) → t.answer ≡ Ok answer → steps_by b k s ≡ framed (frame (size_in b) t.session.time t.session.state) (steps_by b j t.session)
  unfolding steps_by unless_refused
  steps_more answer e = rw (more, ← made, e)

pub steps_none : (b : List ℕ) {k : ℕ} (s : Session) → k ≡ 0 → steps_by b k s ≡ finished
unfolding steps_by
steps_none b s e = rw e

-- ---- the run of an input

-- 1 is what open refuses more than 16 components by
too_many : (r : Run) (t : List ℕ) → places < r.n → (open_by_table r t).answer ≡ Err Why.Places
unfolding open_by_table opening_tests session_tests opened tested unless good1 size_ok
too_many r t many =
    let e : (leb 1 r.n && leb r.n places) ≡ false = grind arith in
    rw e

module _ (b : List ℕ) where
  pub unfit : (reaches_table b ≡ false) ⊎ (places < size_in b) → course_of b ≡ ends_by Why.Places
  unfolding course_of unless_refused
  unfit (inl short) = rw short
  unfit (inr many) = go (reaches_table b)
    where
      run : Session
      run = (open_by_table (run_in b) (table_in b)).session

      go : (r : Bool) → cond r (unless_refused (open_by_table (run_in b) (table_in b)).answer (steps_by b (steps_in b) run)) (ends_by Why.Places) ≡ ends_by Why.Places
      go true = rw (too_many (run_in b) (table_in b) (unfold run_in in many))
      go false = refl

  module _ {t : Told} (whole : reaches_table b ≡ true) (made : t ≡ open_by_table (run_in b) (table_in b)) where
    pub opening-refused : (refusal : Refusal) → t.answer ≡ Err refusal → course_of b ≡ ends_by refusal
    unfolding course_of unless_refused
    opening-refused refusal e = rw (whole, ← made, e)

    pub opening-rests : (answer : Answer) → t.answer ≡ Ok answer → course_of b ≡ steps_by b (steps_in b) t.session
    unfolding course_of unless_refused
    opening-rests answer e = rw (whole, ← made, e)
