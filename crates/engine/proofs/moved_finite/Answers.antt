-- `engine::moved_finite`: all other components are as they were. Assumes nothing.
use Rattle.std.proofs.Common.{◌∙◌, sym, arith}
use Rattle.engine.proofs.Differences.{moved-finite}
use Rattle.engine.proofs.moved_finite.Goals as goal

pub returns : goal.returns
returns c = λ n h k. rw c.delta.ensures at c.finite.ensures ∙ sym (moved-finite n c.args.j c.args.state.now h k (omega arith) c.requires.state_value)
