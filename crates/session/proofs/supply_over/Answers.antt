-- `session::supply_over` meets its contract. Assumes nothing.
use Rattle.std.proofs.Common.{refl, sym, ap, ◌∙◌}
use Rattle.session.specs.declared.Session.{Session}
use Rattle.session.specs.Calls.{answered}
use Rattle.session.specs.Figures.{session_of}
use Rattle.session.proofs.Bodies.{supply_refused, supply_asks, supply_early, supply_room, supply_sound, supply_shown, supply_six}
use Rattle.session.proofs.supply_over.Goals as goal

pub put_answer-next-requires : goal.put_answer-next-requires
unfolding session_of
put_answer-next-requires c =
    record {
      figures_len = c.told-figures;
      figures_value = supply_asks _ _ _ c.args.out.now c.test_supply.ensures c.in_default.is;
    }

pub invariant_of-tried : goal.invariant_of-tried
invariant_of-tried c = record { sound = supply_sound _ _ _ c.args.out.now c.test_supply.ensures c.in_default.is _ c.put_answer-next.ensures.answered }

pub show-requires : goal.show-requires
show-requires c =
    unfold session_of answered in
    (supply_room (session_of c.args.k c.args.figures.now) c.args.place c.args.answer.now c.args.out.now c.test_supply.ensures c.in_default.is
    ∙ sym (ap (λ (z : Session). z.n) c.put_answer-next.ensures.answered))

pub take_answer_back-requires : goal.take_answer_back-requires
take_answer_back-requires c =
    unfold session_of in supply_early (session_of c.args.k c.args.figures.now) c.args.place c.args.answer.now c.args.out.now c.test_supply.ensures c.in_default.is

pub returns-in-Err : goal.returns-in-Err
returns-in-Err c = supply_refused _ _ _ c.args.out.now c.test_supply.ensures c.in-Err.is _ _ c.refused.ensures refl

pub returns : goal.returns
returns c = supply_shown _ _ _ c.args.out.now c.test_supply.ensures c.in_default.is _ c.put_answer-next.ensures.answered _ (c.in-Some.ensures _)

pub returns-in_default-show : goal.returns-in_default-show
returns-in_default-show c =
    supply_six _ _ _ c.args.out.now c.test_supply.ensures c.in_default.is _ c.put_answer-next.ensures.answered
    (c.in_default-show.ensures _) _ _ c.refused-in_default-show.ensures (ap (session_of c.args.k) (c.take_answer_back.ensures ∙ c.put_answer-next.ensures.back))
