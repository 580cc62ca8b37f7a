-- `blocks::first_term` meets its contract: it is that of the whole matrix. Assumes nothing.
use Rattle.std.proofs.Common.{◌≡◌, length, arith}
use Rattle.blocks.specs.Storage.{places}
use Rattle.blocks.proofs.Turns.{first_low, first_held}
use Rattle.blocks.proofs.first_term.Goals as goal

pub add_first-requires-clause-low : goal.add_first-requires-clause-low
add_first-requires-clause-low c =
    let m : length c.identity.new.out ≡ places c.args.s.n c.args.s.p = omega arith in
    first_low _ _ _ _ c.requires.tame.calm c.requires.len.0 m c.type_inv.a c.identity.ensures

pub returns-clause-turned : goal.returns-clause-turned
returns-clause-turned c =
    let m : length c.identity.new.out ≡ places c.args.s.n c.args.s.p = omega arith in
    first_held _ _ _ _ c.requires.tame.calm c.requires.len.0 m c.type_inv.a c.identity.ensures _ _ _ (omega arith) (omega arith) c.add_first.ensures
