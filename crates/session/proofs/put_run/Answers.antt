-- `session::put_run` meets its contract. Assumes nothing.
use Rattle.session.proofs.Writes.{open_is}
use Rattle.session.proofs.put_run.Goals as goal

pub returns : goal.returns
returns c =
    let a = c.args in
    open_is a.figures.now c.told-figures a.time a.relative a.absolute.now a.state.now a.derivative.now a.previous.now
    c.told-absolute c.told-state c.told-derivative c.told-previous c.put.ensures c.put-2.ensures c.put-3.ensures c.put-4.ensures c.wipe.ensures
