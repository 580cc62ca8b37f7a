-- `blocks::multiply` meets its contract: the first i rows are shifted. Assumes nothing.
use Rattle.blocks.specs.Blocks.{block_mul}
use Rattle.blocks.specs.Storage.{split}
use Rattle.blocks.proofs.Shiftwise.{Shiftwise}
use Rattle.blocks.proofs.multiply.Given as goal

abbrev pub invariant-loop-i : goal.invariant-loop-i
invariant-loop-i l = Shiftwise l.s.n l.s.p (block_mul l.s.n l.s.p (split l.s.n l.s.p l.last) (split l.s.n l.s.p l.a)) l.i l.next
