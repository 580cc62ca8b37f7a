-- `sonde::write_frame` meets its contract. Assumes nothing.
use Rattle.std.proofs.Common.{◌≡◌, ◌+◌, ◌-◌, arith}
use Rattle.session.specs.Figures.{state_at}
use Rattle.sonde.proofs.Writing.{if_ok, frame_written}
use Rattle.sonde.proofs.write_frame.Goals as goal

pub returns : goal.returns
returns g c =
    let known = g.W.Write.contents in
    let size : c.args.n ≡ c.get.result = omega arith in
    if_ok c.flush.result
    (frame_written (known c.args.output.now) (known c.put_f64.new.output) (known c.put_doubles.new.output) (known c.flush.new.self) c.args.n (state_at + c.get.result - state_at)
    c.args.figures.now (omega arith) (omega arith) (omega arith) c.in_ok-put_f64.ensures c.in_ok-put_doubles.ensures c.flush.ensures.bytes)
