-- `blocks::raise_known` meets its contract: what is lent is all of each array. Assumes nothing.
use Rattle.std.proofs.Common.{◌≡◌, ◌+◌, ◌*◌, take, arith}
use Rattle.std.proofs.lemmas.List.{take_all}
use Rattle.blocks.proofs.raise_known.Goals as goal

pub raise_line-requires-clause-augmented : goal.raise_line-requires-clause-augmented
raise_line-requires-clause-augmented g c =
    let e : take (2 * g.row.P + 1) c.args.m.now ≡ c.args.m.now = take_all (2 * g.row.P + 1) c.args.m.now (omega (arith, c.requires.len.0)) in
    rw e c.requires.augmented

pub returns : goal.returns
returns g c =
    let e : take (2 * g.row.P + 1) c.args.m.now ≡ c.args.m.now = take_all (2 * g.row.P + 1) c.args.m.now (omega (arith, c.requires.len.0)) in
    rw e at c.raise_line.ensures
