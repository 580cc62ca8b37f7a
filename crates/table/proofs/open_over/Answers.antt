-- `table::open_over` meets its contract. Assumes nothing.
use Rattle.std.proofs.Common.{◌≡◌, ◌∙◌, sym, ap, true, false}
use Rattle.session.specs.declared.Session.{Session}
use Rattle.session.specs.declared.Refusal.TheVariants as Why
use Rattle.session.specs.Calls.{refuse}
use Rattle.table.specs.Table.{table_ok}
use Rattle.table.proofs.Openings.{run_by, refused_opening, opening_passes, opening-small, opening_eight, opening_ok, untabled, tabled}
use Rattle.table.proofs.open_over.Goals as goal

pub returns-then-is_err : goal.returns-then-is_err
returns-then-is_err c =
    let a = c.args in
    refused_opening (run_by a.scheme a.n a.time a.state.now a.relative a.absolute.now) a.bytes.now c.open_over-first.ensures (sym c.is_err.ensures.value ∙ c.if-is_err.true)

pub new-requires : goal.new-requires
new-requires c =
    let a = c.args in
    let r = run_by a.scheme a.n a.time a.state.now a.relative a.absolute.now in
    opening-small r a.bytes.now (opening_passes r a.bytes.now c.open_over-first.ensures (sym c.is_err.ensures.value ∙ c.if-is_err.false))

pub returns-in_default : goal.returns-in_default
returns-in_default c =
    let a = c.args in
    let r = run_by a.scheme a.n a.time a.state.now a.relative a.absolute.now in
    let passes = opening_passes r a.bytes.now c.open_over-first.ensures (sym c.is_err.ensures.value ∙ c.if-is_err.false) in
    let bad : table_ok a.n a.bytes.now ≡ false = rw c.new.ensures at c.in_default.ensures in
    rw c.refused.ensures (ap (λ (s : Session). refuse s Why.Table) c.put_nothing.ensures ∙ untabled r a.bytes.now (opening_eight r a.bytes.now passes bad))

pub returns : goal.returns
returns c =
    let a = c.args in
    let r = run_by a.scheme a.n a.time a.state.now a.relative a.absolute.now in
    let passes = opening_passes r a.bytes.now c.open_over-first.ensures (sym c.is_err.ensures.value ∙ c.if-is_err.false) in
    let good : table_ok a.n a.bytes.now ≡ true = rw (c.in-Some.ensures.0, c.in-Some.ensures.1, c.new.ensures) at c.in-Some.table.well_formed in
    (rw (c.derivative.ensures, c.in-Some.ensures.0, c.in-Some.ensures.1, c.new.ensures) at c.open_over.ensures) ∙ tabled r a.bytes.now (opening_ok r a.bytes.now passes good)
