-- `session::begin_over` meets its contract. Assumes nothing.
use Rattle.std.proofs.Common.{arith, refl, sym, ap, ◌∙◌}
use Rattle.session.specs.declared.Session.{Session}
use Rattle.session.specs.Figures.{session_of}
use Rattle.session.specs.Calls.{begun}
use Rattle.session.proofs.Bodies.{begin_refused, begin_rests, begin_clear, begin_room, begin_sound, begin_any, begin_shown, begin_six}
use Rattle.session.proofs.begin_over.Goals as goal

pub returns-in-Err : goal.returns-in-Err
returns-in-Err c = begin_refused _ _ _ _ c.args.out.now c.test_begin.ensures c.in-Err.is _ _ c.refused.ensures refl

pub put_attempt-next-requires : goal.put_attempt-next-requires
put_attempt-next-requires c =
    record {
      figures_len = (c.told-figures, c.told-jacobian);
      figures_value = begin_rests _ _ _ _ c.args.out.now c.test_begin.ensures c.in_default.is;
      jacobian_value = (unfold session_of in
          begin_clear (session_of c.args.k c.args.figures.now) c.args.step c.args.wish c.args.jacobian.now c.args.out.now
          c.test_begin.ensures c.in_default.is);
    }

pub invariant_of-tried : goal.invariant_of-tried
invariant_of-tried c = record { sound = begin_sound _ _ _ _ c.args.out.now c.test_begin.ensures c.in_default.is _ c.put_attempt-next.ensures.begun }

pub show-requires : goal.show-requires
show-requires c =
    unfold session_of begun in
    (begin_room (session_of c.args.k c.args.figures.now) c.args.step c.args.wish c.args.jacobian.now c.args.out.now
    c.test_begin.ensures c.in_default.is
    ∙ sym (ap (λ (z : Session). z.n) c.put_attempt-next.ensures.begun))

pub rest-requires : goal.rest-requires
rest-requires c =
    record {
      figures_len = omega (arith, c.put_attempt-next.auto.figures, c.told-figures);
      figures_value = begin_any _ _ _ _ c.args.out.now c.test_begin.ensures c.in_default.is _ c.put_attempt-next.ensures.begun;
    }

pub returns : goal.returns
returns c =
    begin_shown _ _ _ _ c.args.out.now c.test_begin.ensures c.in_default.is _ c.put_attempt-next.ensures.begun _ (c.in-Some.ensures _)

pub returns-in_default-show : goal.returns-in_default-show
returns-in_default-show c =
    begin_six _ _ _ _ c.args.out.now c.test_begin.ensures c.in_default.is _ c.put_attempt-next.ensures.begun
    (c.in_default-show.ensures _) c.put_attempt-next.ensures.typed _ _ c.refused-in_default-show.ensures c.rest.ensures
