-- `schemes::questions`: a place of the table, or none. Assumes nothing.
use Rattle.std.proofs.Common.{refl, sym, arith}
use Rattle.methods.specs.Step.{questions}
use Rattle.methods.proofs.Shape.{questions-small, questions_past}
use Rattle.schemes.proofs.questions.Goals as goal

pub returns-then-scheme-lt16 : goal.returns-then-scheme-lt16
unfolding questions
returns-then-scheme-lt16 c = (refl, questions-small c.args.scheme)

pub returns : goal.returns
unfolding questions
returns c = (sym (questions_past c.args.scheme (omega arith)), omega arith)
