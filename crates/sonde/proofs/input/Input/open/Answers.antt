-- `sonde::input::Input::open` meets its contract. Assumes nothing.
use Rattle.std.proofs.Common.{◌∙◌, arith, ap, sym}
use Rattle.sonde.specs.Frames.{absolute_from, state_from, vector_in}
use Rattle.sonde.proofs.Opening.{opened_made}
use Rattle.sonde.proofs.input.Input.open.Goals as goal

pub returns : goal.returns
returns c =
    let self = c.args.self.now in
    let b = self.bytes.now in
    let n = c.get.ensures.value in
    opened_made b _ c.args.figures.now _ _ (omega arith) (n ∙ self.size) (omega arith) c.scheme.ensures (c.vector-absolute.ensures ∙ ap (λ m. vector_in m b absolute_from) (sym n))
    (c.vector-state.ensures ∙ ap (vector_in self.n b) c.state_at.ensures ∙ ap (λ m. vector_in m b (state_from m)) (sym n)) c.time.ensures c.relative.ensures
    (rw c.table.ensures at c.open_by_table.ensures)
