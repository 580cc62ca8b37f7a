-- `sonde::write_steps`: the frames so far, and the run as it goes on. Assumes nothing.
use Rattle.std.proofs.Common.{◌-◌, ◌≤◌}
use Rattle.session.specs.Figures.{session_of}
use Rattle.sonde.specs.Frames.{steps_by}
use Rattle.sonde.proofs.Courses.{Along}
use Rattle.sonde.proofs.write_steps.Given as goal

abbrev pub invariant-loop : goal.invariant-loop
invariant-loop g l =
    (l.counter ≤ l.steps)
    × Along (steps_by l.input.bytes.now l.steps (session_of l.initial.head l.initial.figures)) (steps_by l.input.bytes.now (l.steps - l.counter) (session_of l.head l.figures))
    (g.W.Write.contents l.initial.output) (g.W.Write.contents l.output)
