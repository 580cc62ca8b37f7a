-- `session::move_on` meets its contract. Assumes nothing.
use Rattle.std.proofs.Common.{arith, ne_eqb, eq-eqb}
use Rattle.session.specs.Figures.{session_of}
use Rattle.session.proofs.Writes.{move_is, move_etd2}
use Rattle.session.proofs.move_on.Goals as goal

pub returns-then-k-eq-ETD2 : goal.returns-then-k-eq-ETD2
returns-then-k-eq-ETD2 c =
    move_etd2 _ _ (omega (arith, c.rest-next.auto.figures, c.told-figures)) _ c.rest-next.ensures _ _ _ _ c.told-state c.told-derivative c.told-nonlinear
    (unfold session_of in eq-eqb _ _ c.if-k-eq-ETD2.true) c.put.ensures c.put-2.ensures c.put-then-k-eq-ETD2.ensures

pub returns : goal.returns
returns c =
    move_is _ _ (omega (arith, c.rest-next.auto.figures, c.told-figures)) _ c.rest-next.ensures _ _ _ _ c.told-state c.told-derivative c.told-nonlinear
    (unfold session_of in ne_eqb _ _ c.if-k-eq-ETD2.false) c.put.ensures c.put-2.ensures

pub rest-next-requires : goal.rest-next-requires
rest-next-requires c =
    record {
      figures_len = c.told-figures;
      figures_value = c.requires;
    }
