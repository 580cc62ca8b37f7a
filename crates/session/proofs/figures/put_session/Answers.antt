-- `session::figures::put_session` meets its contract. Assumes nothing.
use Rattle.std.proofs.Common.{rules, ◌≡◌, length}
use Rattle.session.proofs.Inverse.{stored_all, all_stored}
use Rattle.session.proofs.figures.put_session.Goals as goal

pub returns : goal.returns
unfolding stored_all
returns c =
    let absolute : length c.args.s.absolute ≡ 16 = search rules in
    let state : length c.args.s.state ≡ 16 = search rules in
    let derivative : length c.args.s.derivative ≡ 16 = search rules in
    let previous : length c.args.s.previous ≡ 16 = search rules in
    let jacobian : length c.args.s.jacobian ≡ 256 = search rules in
    let answers : length c.args.s.answers ≡ 320 = search rules in
    rw (c.put-6.ensures, c.put-5.ensures, c.put-4.ensures, c.put-3.ensures, c.put-2.ensures, c.put.ensures, absolute, state, derivative, previous, jacobian, answers)
    (all_stored c.args.s c.args.figures.now c.told-figures)
