-- `sonde::read` meets its contract. Assumes nothing.
use Rattle.sonde.specs.declared.input.TheConstants.{KEPT}
use Rattle.sonde.proofs.Keeping.{kept_first}
use Rattle.sonde.proofs.read.Goals as goal

pub returns-clause-kept : goal.returns-clause-kept
returns-clause-kept g c =
    kept_first KEPT (g.R.Read.remaining c.args.input.now) c.new-kept.result.items c.copy.new.writer.items c.new-kept.ensures
    (rw (c.take-first.ensures.limit, c.take-first.ensures.inner) at c.in_ok-copy.ensures.bytes)
