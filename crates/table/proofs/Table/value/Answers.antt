-- `table::Table::value` meets its contract. Assumes nothing.
use Rattle.std.proofs.Common.{ap, ◌∙◌, arith, Some}
use Rattle.table.proofs.Known.{known, is_one}
use Rattle.table.proofs.Records.{kind_below, first_read, second_read, value_constant, value_linear, value_product, value_timed}
use Rattle.table.proofs.Table.value.Goals as goal

pub unwrap-requires : goal.unwrap-requires
unwrap-requires c = is_one _ c.kind.ensures (kind_below _ _ _ c.record-record.ensures.ok)

pub offset_bounds-u-first : goal.offset_bounds-u-first
offset_bounds-u-first c =
    let k = known _ c.kind.ensures (c.unwrap.ensures ∙ ap Some c.in-Linear.is) in
    let below = first_read _ _ _ c.record-record.ensures.ok k.0 (omega arith) c.first.ensures in
    omega (arith, below, c.requires.1)

pub bounds-u-first : goal.bounds-u-first
bounds-u-first c =
    let k = known _ c.kind.ensures (c.unwrap.ensures ∙ ap Some c.in-Linear.is) in
    let below = first_read _ _ _ c.record-record.ensures.ok k.0 (omega arith) c.first.ensures in
    omega (arith, below, c.requires.1)

pub offset_bounds-u-first-in-Product : goal.offset_bounds-u-first-in-Product
offset_bounds-u-first-in-Product c =
    let k = known _ c.kind.ensures (c.unwrap.ensures ∙ ap Some c.in-Product.is) in
    let below = first_read _ _ _ c.record-record.ensures.ok k.0 (omega arith) c.first-in-Product.ensures in
    omega (arith, below, c.requires.1)

pub bounds-u-first-in-Product : goal.bounds-u-first-in-Product
bounds-u-first-in-Product c =
    let k = known _ c.kind.ensures (c.unwrap.ensures ∙ ap Some c.in-Product.is) in
    let below = first_read _ _ _ c.record-record.ensures.ok k.0 (omega arith) c.first-in-Product.ensures in
    omega (arith, below, c.requires.1)

pub offset_bounds-u-second : goal.offset_bounds-u-second
offset_bounds-u-second c =
    let k = known _ c.kind.ensures (c.unwrap.ensures ∙ ap Some c.in-Product.is) in
    let below = second_read _ _ _ c.record-record.ensures.ok k.0 c.second.ensures in
    omega (arith, below, c.requires.1)

pub bounds-u-second : goal.bounds-u-second
bounds-u-second c =
    let k = known _ c.kind.ensures (c.unwrap.ensures ∙ ap Some c.in-Product.is) in
    let below = second_read _ _ _ c.record-record.ensures.ok k.0 c.second.ensures in
    omega (arith, below, c.requires.1)

pub offset_bounds-u-first-in-Timed : goal.offset_bounds-u-first-in-Timed
offset_bounds-u-first-in-Timed c =
    let k = known _ c.kind.ensures (c.unwrap.ensures ∙ ap Some c.in-Timed.is) in
    let below = first_read _ _ _ c.record-record.ensures.ok k.0 (omega arith) c.first-in-Timed.ensures in
    omega (arith, below, c.requires.1)

pub bounds-u-first-in-Timed : goal.bounds-u-first-in-Timed
bounds-u-first-in-Timed c =
    let k = known _ c.kind.ensures (c.unwrap.ensures ∙ ap Some c.in-Timed.is) in
    let below = first_read _ _ _ c.record-record.ensures.ok k.0 (omega arith) c.first-in-Timed.ensures in
    omega (arith, below, c.requires.1)

pub returns-in-Constant : goal.returns-in-Constant
returns-in-Constant c =
    let k = known _ c.kind.ensures (c.unwrap.ensures ∙ ap Some c.in-Constant.is) in
    rw (← c.record-record.ensures.same.0, ← c.record-record.ensures.same.1) (value_constant _ _ _ _ c.coefficient-c.ensures k.0)

pub returns-in-Linear : goal.returns-in-Linear
returns-in-Linear c =
    let k = known _ c.kind.ensures (c.unwrap.ensures ∙ ap Some c.in-Linear.is) in
    rw (← c.record-record.ensures.same.0, ← c.record-record.ensures.same.1) (value_linear _ _ _ _ c.coefficient-c.ensures c.first.ensures k.0)

pub returns-in-Product : goal.returns-in-Product
returns-in-Product c =
    let k = known _ c.kind.ensures (c.unwrap.ensures ∙ ap Some c.in-Product.is) in
    rw (← c.record-record.ensures.same.0, ← c.record-record.ensures.same.1)
    (value_product _ _ _ _ c.coefficient-c.ensures c.first-in-Product.ensures k.0 c.second.ensures)

pub returns-in-Timed : goal.returns-in-Timed
returns-in-Timed c =
    let k = known _ c.kind.ensures (c.unwrap.ensures ∙ ap Some c.in-Timed.is) in
    rw (← c.record-record.ensures.same.0, ← c.record-record.ensures.same.1) (value_timed _ _ _ _ c.coefficient-c.ensures c.first-in-Timed.ensures k.0)
