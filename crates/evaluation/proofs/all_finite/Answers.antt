-- `evaluation::all_finite` meets its contract: the two sums tell of the places passed. Assumes nothing.
use Rattle.std.proofs.Common.{◌≡◌, ◌*◌, ◌/◌, length, arith}
use Rattle.evaluation.proofs.Sums.{halves_none, chunk_step, halves_end}
use Rattle.evaluation.proofs.all_finite.Goals as goal

pub loop-eight-init : goal.loop-eight-init
loop-eight-init c = halves_none _

pub loop-eight-preserved : goal.loop-eight-preserved
loop-eight-preserved c = chunk_step _ _ _ _ _ _ _ _ c.as_chunks.ensures.front (omega (arith, c.as_chunks.ensures.front_len)) c.loop-eight.invariant c.four-even.ensures c.four-odd.ensures

pub returns : goal.returns
returns c =
    let n : 8 * c.loop-eight.eight-index ≡ length c.args.x.now / 8 * 8 = omega (arith, c.as_chunks.ensures.front_len) in
    halves_end _ _ _ _ _ c.loop-eight.invariant (omega (arith, c.as_chunks.ensures.front_len)) (cc)
