-- `session::rest` meets its contract. Assumes nothing.
use Rattle.std.specs.Prelude.{None}
use Rattle.float.specs.Arith.{zero+}
use Rattle.std.proofs.Common.{arith, length-set}
use Rattle.session.specs.Figures.{session_of}
use Rattle.session.proofs.Laws.{passed_sound}
use Rattle.session.proofs.Writes.{typed_passed, rest_is, few, short}
use Rattle.session.proofs.rest.Goals as goal

pub new-requires : goal.new-requires
new-requires c = unfold session_of in (passed_sound None _ c.requires.figures_value).small

pub bounds-figures-1 : goal.bounds-figures-1
bounds-figures-1 c = omega (arith, c.requires.figures_len)

pub wipe-requires : goal.wipe-requires
wipe-requires c =
    simp length-set
    (omega (
      arith,
      (rw c.new.ensures at c.used_jacobian-used.ensures),
      c.requires.figures_len,
      few _ _ c.requires.figures_len (typed_passed _ _ None c.requires.figures_value
          (record { places = c.requires.figures_len; fit = c.slice_known-1.given })) c.requires.figures_value,
    ))

pub overflow_mul-k : goal.overflow_mul-k
overflow_mul-k c =
    omega (
      arith,
      short _ _ c.requires.figures_len (typed_passed _ _ None c.requires.figures_value
          (record { places = c.requires.figures_len; fit = c.slice_known-1.given })) c.requires.figures_value,
    )

pub wipe-requires-2 : goal.wipe-requires-2
wipe-requires-2 c =
    omega (
      arith,
      short _ _ c.requires.figures_len (typed_passed _ _ None c.requires.figures_value (record { places = c.requires.figures_len; fit = c.slice_known-1.given }))
          c.requires.figures_value,
      c.wipe.auto.out,
      c.requires.figures_len,
      length-set c.args.figures.now 1 zero+,
    )

pub shape_of-figures : goal.shape_of-figures
shape_of-figures c = omega (arith, c.wipe.auto.out, c.wipe-2.auto.out, length-set c.args.figures.now 1 zero+)

pub returns : goal.returns
returns c =
    rest_is c.args.k c.args.figures.now c.requires.figures_len (typed_passed _ _ None c.requires.figures_value
    (record { places = c.requires.figures_len; fit = c.slice_known-1.given })) c.requires.figures_value
    (rw c.new.ensures at c.used_jacobian-used.ensures) c.wipe.ensures c.wipe-2.ensures
