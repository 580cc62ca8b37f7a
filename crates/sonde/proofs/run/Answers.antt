-- `sonde::run` meets its contract. Assumes nothing.
use Rattle.sonde.proofs.Writing.{finished, refused}
use Rattle.sonde.proofs.run.Goals as goal

pub returns-in-Ok-write_run-clause-written : goal.returns-in-Ok-write_run-clause-written
returns-in-Ok-write_run-clause-written g c =
    finished (g.R.Read.remaining c.args.pipe.now.input) c.as_slice.ensures.value c.in-Ok.ensures.kept (g.W.Write.contents c.args.pipe.now.output) (g.W.Write.contents c.write_run.new.output)
    c.in-Ok-write_run.ensures

pub returns-in-Ok-write_refusal-2-clause-written : goal.returns-in-Ok-write_refusal-2-clause-written
returns-in-Ok-write_refusal-2-clause-written g c =
    refused (g.R.Read.remaining c.args.pipe.now.input) c.as_slice.ensures.value c.in-Ok.ensures.kept (g.W.Write.contents c.args.pipe.now.output) (g.W.Write.contents c.write_run.new.output)
    c.in-Err-Refused.refusal _ (rw c.in-Err-Refused.field-0-is at c.in-Err-Refused.ensures) c.in-Ok-write_refusal-2.ensures
