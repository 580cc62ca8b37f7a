-- What is told of where a pass stands, and of a number that no scheme has. Assumes nothing.
use Rattle.std.proofs.Common.{◌≡◌, ℕ, ◌≤◌, List, refl, ◌∙◌, Float}
use Rattle.std.specs.Prelude.{Option, Some, None}
use Rattle.std.proofs.Math.ListN.{get_or-eq_default}
use Rattle.matrix.specs.Vector.{zeros}
use Rattle.methods.specs.declared.Point.{Point}
use Rattle.methods.specs.declared.Tally.{Tally}
use Rattle.methods.specs.declared.Work.{Work}
use Rattle.methods.specs.declared.Reached.TheVariants.{Question, End}
use Rattle.methods.specs.declared.StepResult.{StepResult}
use Rattle.methods.specs.declared.StepResult.TheVariants.{Question as Question', Done}
use Rattle.methods.specs.Tally.{tested, unadmitted, work_of}
use Rattle.methods.specs.Parts.{narrow_work, in32, counted_in32, report, stand}
use Rattle.methods.specs.Pass.{Stand, done, under, replay}
use Rattle.methods.specs.Step.{pass, refused, finish, progress}
use Rattle.methods.proofs.Tallies.{told_work}

-- by where the pass stands, whose counts fit 32 bits
module _ (g : List Float) (s : Stand) (fit : counted_in32 (finish g (in32 s)) ≡ finish g s) where
  pub told_refused : {r : Option StepResult} → r ≡ None → stand None ≡ in32 s → progress r ≡ finish g s
  unfolding progress stand finish counted_in32
  told_refused e h = rw (e, ← fit, ← h) refl

  pub told_question : (x : List Float) (time : Float) → stand (Some (Question x time)) ≡ in32 s → progress (Some (Question' x time)) ≡ finish g s
  unfolding progress stand finish counted_in32
  told_question x time h = rw (← fit, ← h) refl

  pub told_end : (x e : List Float) (t : Tally) (w : Work) → stand (Some (End x e t)) ≡ in32 s → w ≡ narrow_work (work_of (report t)) → progress (Some (Done x e g w)) ≡ finish g s
  unfolding progress stand
  told_end x e t w h k = told_work x e g t s w h k ∙ fit

-- above 15 there is no scheme, and its pass fails
pub no_scheme : (k : ℕ) (p : Point) (a au g r : List Float) (c j : ℕ) (answers : List Float) → 16 ≤ k → refused ≡ finish r (replay p.n (pass k p a au g) c j answers)
unfolding pass replay under unadmitted tested finish
no_scheme k p a au g r c j answers m = rw (get_or-eq_default _ (done unadmitted zeros zeros) m) refl
