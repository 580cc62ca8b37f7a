-- `session::put_attempt` meets its contract. Assumes nothing.
use Rattle.std.specs.Prelude.{Some}
use Rattle.std.proofs.Common.{◌≤◌, length, arith, sym, length-set, length-take-le}
use Rattle.session.specs.declared.Phase.TheVariants.{Rest}
use Rattle.session.specs.Figures.{session_of}
use Rattle.session.proofs.Laws.{passed_sound}
use Rattle.session.proofs.Writes.{typed_passed, begin_is, used_room}
use Rattle.session.proofs.put_attempt.Goals as goal

pub new-requires : goal.new-requires
new-requires c = unfold session_of in (passed_sound (Some Rest) _ c.requires.figures_value).small

pub bounds-figures-1 : goal.bounds-figures-1
bounds-figures-1 c = omega (arith, c.requires.figures_len.0)

pub slice_bounds-put-end : goal.slice_bounds-put-end
slice_bounds-put-end c =
    sym (length-take-le _ _ (omega (
      arith,
      (rw c.new.ensures at c.used_jacobian-used.ensures),
      c.requires.figures_len.1,
      used_room c.args.k c.args.figures.now
          (Some Rest) c.args.attempt c.requires.figures_value,
    )))

pub put-requires : goal.put-requires
put-requires c =
    let inside : c.used_jacobian-used.result ≤ length c.args.jacobian.now = omega
    (arith, (rw c.new.ensures at c.used_jacobian-used.ensures), c.requires.figures_len.1, used_room c.args.k c.args.figures.now (Some Rest) c.args.attempt c.requires.figures_value) in
    simp length-set
    (omega (
      arith,
      c.requires.figures_len.0,
      c.requires.figures_len.1,
      (rw c.new.ensures at c.used_jacobian-used.ensures),
      used_room c.args.k c.args.figures.now (Some Rest) c.args.attempt c.requires.figures_value,
      length-take-le c.used_jacobian-used.result c.args.jacobian.now inside,
    ))

pub shape_of-figures : goal.shape_of-figures
shape_of-figures c = omega (arith, c.put.auto.out, length-set c.args.figures.now 1 c.args.step)

pub returns : goal.returns
returns c =
    let passed = c.requires.figures_value in
    let long = c.requires.figures_len.0 in
    let typed = typed_passed c.args.k c.args.figures.now (Some Rest) passed (record { places = long; fit = c.slice_known-1.given }) in
    let next = begin_is _ _ long typed passed _ _ _ (record { places = c.requires.figures_len.1; fit = c.shared_slice_known-1.given })
    c.requires.jacobian_value (rw c.new.ensures at c.used_jacobian-used.ensures) c.put.ensures in record {
      begun = next;
      typed = typed;
    }
