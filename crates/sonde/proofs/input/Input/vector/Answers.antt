-- `sonde::input::Input::vector` meets its contract. Assumes nothing.
use Rattle.std.proofs.Common.{rules, ◌+◌, ◌*◌}
use Rattle.sonde.specs.Frames.{double_at, vector_in}
use Rattle.sonde.proofs.input.Input.vector.Goals as goal

pub returns : goal.returns
unfolding vector_in
returns c = c.vector.ensures (λ i. double_at c.args.self.now.bytes.now (c.args.from + 8 * i)) (λ i x l p. search rules)
