-- `float::positive_root` meets its contract: `Strict`'s laws of the parts, at what the calls gave. Assumes nothing.
use Rattle.std.proofs.Common.{◌-◌}
use Rattle.float.specs.Digits.{squares_of}
use Rattle.float.proofs.Strict.{Strict, digits_lt, parts_enclosed, parts_root, parts_power}
use Rattle.float.proofs.positive_root.Goals as goal

pub rounded-requires : goal.rounded-requires
rounded-requires c =
    let h = c.halve-half in
    digits_lt h.result.digits c.long_root-root.result.root c.long_root-root.result.rest h.ensures.lead h.ensures.room c.long_root-root.ensures

pub pack-requires : goal.pack-requires
pack-requires c =
    let b = c.args.b in
    let d = c.long_root-root in
    let h = c.halve-half in
    let u = c.unpack in
    let k : Strict (squares_of b) c.rounded.result (h.result.power - 26) =
    rw c.rounded.ensures (parts_enclosed (squares_of b) u.result.digits u.result.power h.result.digits h.result.power d.result.root d.result.rest u.ensures h.ensures d.ensures)
    in
    (k.lead, k.room, parts_power h.result.power h.ensures.most)

pub returns : goal.returns
returns c =
    let d = c.long_root-root in
    let h = c.halve-half in
    let u = c.unpack in
    let e = parts_root (squares_of c.args.b) u.result.digits u.result.power h.result.digits h.result.power d.result.root d.result.rest u.ensures h.ensures d.ensures in
    cc
