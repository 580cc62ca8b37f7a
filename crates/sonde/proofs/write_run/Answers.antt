-- `sonde::write_run` meets its contract. Assumes nothing.
use Rattle.std.proofs.Common.{refl}
use Rattle.std.proofs.KnownBytes.{Appends-nil}
use Rattle.std.proofs.lemmas.Result.{err_from_is_err_and}
use Rattle.sonde.proofs.Courses.{unfit, opening-refused, opening-rests}
use Rattle.sonde.proofs.write_run.Goals as goal

pub returns-in_default : goal.returns-in_default
returns-in_default g c = rw (unfit c.args.bytes.now c.in_default.ensures) (refl, Appends-nil (g.W.Write.contents c.args.output.now))

pub returns-in_err-left : goal.returns-in_err-left
returns-in_err-left g c =
    let b = c.args.bytes.now in
    let made = rw c.in-Some.ensures.1 at c.open-left.ensures in
    let p = err_from_is_err_and c.from_residual.result c.from_residual.ensures.1 in
    rw (p.1, p.2, opening-refused b c.in-Some.ensures.0 made c.in_err-left.field-0.0 c.in_err-left.was) (refl, Appends-nil (g.W.Write.contents c.args.output.now))

pub returns : goal.returns
returns g c =
    let b = c.args.bytes.now in
    let made = rw c.in-Some.ensures.1 at c.open-left.ensures in
    rw (opening-rests b c.in-Some.ensures.0 made c.in_ok-left.field-0 c.in_ok-left.was) (rw c.in-Some.ensures.1 at c.write_steps.ensures)
