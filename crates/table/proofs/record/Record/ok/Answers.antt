-- `table::record::Record::ok` meets its contract. Assumes nothing.
use Rattle.table.specs.Table.{target_ok, first_ok, second_ok, coefficient_ok}
use Rattle.table.proofs.Known.{known, unknown}
use Rattle.table.proofs.Records.{kindless, tested_rules}
use Rattle.table.proofs.record.Record.ok.Goals as goal

pub returns-in_default : goal.returns-in_default
returns-in_default c = kindless _ _ _ (unknown _ c.kind.ensures c.in_default.not-Some)

pub returns : goal.returns
unfolding target_ok first_ok second_ok coefficient_ok
returns c =
    let k = known _ c.kind.ensures c.in-Some.is in
    rw (
      c.finite.ensures,
      c.coefficient.ensures,
      c.blank_ok.ensures,
      c.index_ok-2.ensures,
      c.index_ok.ensures,
      c.has_first.ensures,
      c.has_second.ensures,
      c.first.ensures,
      c.second.ensures,
      c.target.ensures,
      k.0,
    )
    (tested_rules c.args.n c.args.self.now.bytes.now c.args.self.now.r k.1)
