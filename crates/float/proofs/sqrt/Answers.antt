-- `float::sqrt` meets its contract: each test parts x's pattern as `Cases` has it. Assumes nothing.
use Rattle.std.proofs.Common.{◌∙◌}
use Rattle.std.proofs.lemmas.Float.{T_from_true, T_from_false}
use Rattle.float.proofs.Cases.{root_of_nan, nan_bits-nan, root-minus, root_flat, root_infinite, in_range, root_plus}
use Rattle.float.proofs.sqrt.Goals as goal

pub returns-then-is_nan : goal.returns-then-is_nan
returns-then-is_nan c = root_of_nan _ (cc)

pub returns-then-b-gt9223372036854775808 : goal.returns-then-b-gt9223372036854775808
returns-then-b-gt9223372036854775808 c = nan_bits-nan ∙ root-minus c.args.x (T_from_true _ c.well_formed.0.1) c.if-b-gt9223372036854775808.true

pub returns-then-b-eq0 : goal.returns-then-b-eq0
returns-then-b-eq0 c = root_flat c.args.x (T_from_true _ c.well_formed.0.1) c.if-b-gt9223372036854775808.false c.if-b-eq0.true

pub returns-then-b-eq9218868437227405312 : goal.returns-then-b-eq9218868437227405312
returns-then-b-eq9218868437227405312 c = root_infinite c.args.x (T_from_true _ c.well_formed.0.1) c.if-b-eq9218868437227405312.true

pub positive_root-requires : goal.positive_root-requires
positive_root-requires c = in_range c.args.x (T_from_true _ c.well_formed.0.1) (T_from_false _ (cc)) c.if-b-gt9223372036854775808.false c.if-b-eq0.false c.if-b-eq9218868437227405312.false

pub returns : goal.returns
returns c =
    let r = in_range c.args.x (T_from_true _ c.well_formed.0.1) (T_from_false _ (cc)) c.if-b-gt9223372036854775808.false c.if-b-eq0.false c.if-b-eq9218868437227405312.false in
    c.positive_root.ensures ∙ root_plus c.args.x (T_from_true _ c.well_formed.0.1) r.0 r.1
