-- `sonde::write_steps` meets its contract. Assumes nothing.
use Rattle.std.proofs.Common.{◌+◌, ◌-◌, arith}
use Rattle.std.proofs.lemmas.Result.{err_from_is_err_and}
use Rattle.session.specs.Figures.{session_of}
use Rattle.sonde.specs.Frames.{steps_in, table_in, step_in, steps_by}
use Rattle.sonde.proofs.Courses.{begins, goes_on, ends, steps_refused, steps_more, steps_none}
use Rattle.sonde.proofs.Lengths.{whole_held}
use Rattle.sonde.proofs.write_steps.Goals as goal

pub loop-init : goal.loop-init
loop-init g c = (omega arith, begins c.args.input.now.bytes.now c.steps-steps.result (session_of c.args.head c.args.figures.now) (g.W.Write.contents c.args.output.now) (omega arith))

pub returns-in_err-left : goal.returns-in_err-left
returns-in_err-left g c =
    let b = c.args.input.now.bytes.now in
    let s = session_of c.loop.head c.loop.figures in
    let j = c.steps-steps.result - (c.loop.counter + 1) in
    let made = whole_held c.loop.head c.loop.figures (table_in b) (step_in b) (omega arith) (rw (c.table.ensures, c.step.ensures) at c.whole_step-left.ensures) in
    let p = err_from_is_err_and c.from_residual.result c.from_residual.ensures.1 in
    rw (p.1, p.2, ← c.steps-steps.ensures) (ends _ _ c.loop.invariant.1 (steps_refused b j (omega arith) s made c.in_err-left.field-0.0 c.in_err-left.was))

pub loop-preserved : goal.loop-preserved
loop-preserved g c =
    let b = c.args.input.now.bytes.now in
    let s = session_of c.loop.head c.loop.figures in
    let j = c.steps-steps.result - (c.loop.counter + 1) in
    let made = whole_held c.loop.head c.loop.figures (table_in b) (step_in b) (omega arith) (rw (c.table.ensures, c.step.ensures) at c.whole_step-left.ensures) in (
      omega arith,
      goes_on _ _ _ _ _ c.loop.invariant.1 (steps_more b j (omega arith) s made c.in_ok-left.field-0 c.in_ok-left.was)
          (unfold session_of in rw c.size.ensures at c.in_ok-write_frame.ensures),
    )

pub returns : goal.returns
returns g c =
    let b = c.args.input.now.bytes.now in
    let course = steps_by b (steps_in b) (session_of c.args.head c.args.figures.now) in
    let e = rw c.steps-steps.ensures at c.loop.invariant.1 in
    ends {course = course} (g.W.Write.contents c.args.output.now) (g.W.Write.contents c.loop.output) e (steps_none b (session_of c.loop.head c.loop.figures) (omega arith))
