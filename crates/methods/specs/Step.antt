-- perform_step: the choice by number, and what stands around it. Definitions only.
use Rattle.std.specs.Prelude.{ℕ, Bool, cond, ◌&&◌, Option, Some, None, List, [], ◌∷◌, slice_index, slice_index_or, Float}
use Rattle.evaluation.specs.Evaluation.{all_finite}
use Rattle.matrix.specs.Vector.{zeros, mat_vec}
use Rattle.methods.specs.declared.Point.{Point}
use Rattle.methods.specs.declared.StepResult.{StepResult}
use Rattle.methods.specs.declared.StepResult.TheVariants.{Question, Done}
use Rattle.methods.specs.declared.Work.{Work}
use Rattle.methods.specs.Vectors.{subtract}
use Rattle.methods.specs.Tally.{unadmitted, work_of}
use Rattle.methods.specs.Pass.{Pass, done, Stand, fails, asks, ends, replay}
use Rattle.methods.specs.Schemes.{lawson_euler, norsett_euler, etdrk2, etdrk3, etdrk4, hoch_ost4, exp4}
use Rattle.methods.specs.Schemes.{epirk4s3_a, epirk4s3_b, epirk5s3, exprb53s3, epirk5p1, epirk5p2, etd2, exprb32, exprb43}

-- the pass of scheme k, with the Jacobian a, au = a u and nonlinear0 = f0 - au
unfoldable pub pass : ℕ → Point → List Float → List Float → List Float → Pass
pass k p a au nonlinear0 =
    let n = p.n in
    let u = p.state in
    let t = p.time in
    let h = p.step in
    let f0 = p.f0 in
    slice_index_or (
    lawson_euler n a u nonlinear0 h
    ∷ norsett_euler n a u f0 h
    ∷ etdrk2 n a u t h f0 nonlinear0
    ∷ etdrk3 n a u t h f0 au
    ∷ etdrk4 n a u t h f0 au
    ∷ hoch_ost4 n a u t h f0 au
    ∷ exp4 n a u t h f0
    ∷ epirk4s3_a n a u t h f0
    ∷ epirk4s3_b n a u t h f0
    ∷ epirk5s3 n a u t h f0
    ∷ exprb53s3 n a u t h f0
    ∷ epirk5p1 n a u t h f0
    ∷ epirk5p2 n a u t h f0
    ∷ etd2 n a u h nonlinear0 p.previous
    ∷ exprb32 n a u t h f0
    ∷ exprb43 n a u t h f0 au
    ∷ []) k (done unadmitted zeros zeros)

-- how many questions the pass of each scheme asks
abbrev pub question_table : List ℕ
question_table = 0 ∷ 0 ∷ 1 ∷ 2 ∷ 3 ∷ 4 ∷ 2 ∷ 2 ∷ 2 ∷ 2 ∷ 2 ∷ 2 ∷ 2 ∷ 0 ∷ 1 ∷ 2 ∷ []

-- that of scheme k; above 15 none
unfoldable pub questions : ℕ → ℕ
questions k = slice_index question_table k

-- how many exponentials it makes, as the Rust calls them, repeats counted; `held` says whether Etd2 has a previous nonlinear part
abbrev pub exponential_table : Bool → List ℕ
exponential_table held = 1 ∷ 1 ∷ 2 ∷ 9 ∷ 12 ∷ 34 ∷ 7 ∷ 5 ∷ 5 ∷ 8 ∷ 7 ∷ 5 ∷ 7 ∷ cond held 4 2 ∷ 3 ∷ 9 ∷ []

-- that of scheme k; above 15 none
unfoldable pub exponentials : ℕ → Bool → ℕ
exponentials k held = slice_index (exponential_table held) k

-- where a step stands: it is refused by 6, asks, or has ended in a candidate, an error vector and the nonlinear part f0 - a u, with the work that it took
pub data Progress : Type 0 where
  refused : Progress
  asking : List Float → Float → Progress
  ended : List Float → List Float → List Float → Work → Progress

-- a pass's stand, with the nonlinear part
unfoldable pub finish : List Float → Stand → Progress
finish nonlinear0 fails = refused
finish nonlinear0 (asks x t) = asking x t
finish nonlinear0 (ends x e tally) = ended x e nonlinear0 (work_of tally)

-- perform_step with the Jacobian a over `count` answers, the first of them answer j: a u and f0 - a u are tested before the scheme
unfoldable pub perform_step : ℕ → Point → List Float → ℕ → ℕ → List Float → Progress
perform_step k p a count j answers =
    let au = mat_vec p.n a p.state in
    let nonlinear0 = subtract p.n p.f0 au in
    cond (all_finite au && all_finite nonlinear0) (finish nonlinear0 (replay p.n (pass k p a au nonlinear0) count j answers)) refused

-- what the code's result says of it
unfoldable pub progress : Option StepResult → Progress
progress None = refused
progress (Some (Question x t)) = asking x t
progress (Some (Done x e g work)) = ended x e g work
