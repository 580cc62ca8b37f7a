-- `float::unpack` meets its contract. Assumes nothing.
use Rattle.std.proofs.Common.{arith}
use Rattle.float.proofs.Steps.{shift_bounds, unpack_low, unpack_high}
use Rattle.float.proofs.unpack.Goals as goal

pub overflow_sub-shift : goal.overflow_sub-shift
overflow_sub-shift c = omega (arith, (shift_bounds c.args.b c.requires.0 (omega arith)).0)

pub overflow_cast-result : goal.overflow_cast-result
overflow_cast-result c = record { fits = omega (arith, (shift_bounds c.args.b c.requires.0 (omega arith)).1) }

pub overflow_shl-result : goal.overflow_shl-result
overflow_shl-result c = omega (arith, (shift_bounds c.args.b c.requires.0 (omega arith)).1)

pub overflow_cast-result-then-field-eq0 : goal.overflow_cast-result-then-field-eq0
overflow_cast-result-then-field-eq0 c = record { fits = omega (arith, (shift_bounds c.args.b c.requires.0 (omega arith)).1) }

pub overflow_sub-result : goal.overflow_sub-result
overflow_sub-result c = omega (arith, (shift_bounds c.args.b c.requires.0 (omega arith)).1)

pub returns-then-field-eq0 : goal.returns-then-field-eq0
returns-then-field-eq0 c = unpack_low c.args.b c.requires.0 (omega arith)

pub returns-else-field-eq0 : goal.returns-else-field-eq0
returns-else-field-eq0 c = unpack_high c.args.b (omega arith) c.requires.1
