-- `evaluation::four` meets its contract: each difference tells of its place. Assumes nothing.
use Rattle.evaluation.proofs.Sums.{four_marks}
use Rattle.evaluation.proofs.four.Goals as goal

pub returns : goal.returns
returns c = four_marks _ _ _ _
