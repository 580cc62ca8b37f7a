-- `blocks::shift_row` meets its contract: the places before d are done. Assumes nothing.
use Rattle.std.proofs.Common.{◌≡◌}
use Rattle.loops.specs.Loop.{stores}
use Rattle.blocks.proofs.Shifted.{shifted}
use Rattle.blocks.proofs.shift_row.Given as goal

abbrev pub invariant-loop-d : goal.invariant-loop-d
invariant-loop-d l = l.out ≡ stores (shifted l.row l.nu) 0 l.d l.initial.out
