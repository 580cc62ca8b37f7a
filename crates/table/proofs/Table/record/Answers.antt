-- `table::Table::record` meets its contract. Assumes nothing.
use Rattle.table.specs.Table.{records}
use Rattle.table.proofs.Records.{record_fits, table_record}
use Rattle.table.proofs.Table.record.Goals as goal

pub new-requires : goal.new-requires
unfolding records
new-requires c = record_fits _ _ c.requires

pub returns-clause-ok : goal.returns-clause-ok
unfolding records
returns-clause-ok c =
    let s = c.args.self.now in
    rw (c.new.ensures.0, c.new.ensures.1) (table_record s.n s.bytes.now s.well_formed c.args.r c.requires)
