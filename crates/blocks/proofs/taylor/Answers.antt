-- `blocks::taylor` meets its contract: what is left of the series is the whole, and term 15 is never passed. Assumes nothing.
use Rattle.std.proofs.Common.{arith}
use Rattle.matrix.proofs.Series.{left_all, left_bound, left_low, left_step, left_stop, left-two}
use Rattle.blocks.proofs.Turns.{tame_finite, last_finite}
use Rattle.blocks.proofs.taylor.Goals as goal

pub returns-then-first_term-clause-summed : goal.returns-then-first_term-clause-summed
returns-then-first_term-clause-summed c = left_stop c.requires.tame.calm (left_all _ _) _ _ _ c.first_term.ensures.turned c.if-first_term.true

pub loop-s-init : goal.loop-s-init
loop-s-init c = left_step c.requires.tame.calm (left_all _ _) _ _ _ c.first_term.ensures.turned c.if-first_term.false

pub turn-requires-clause-finite : goal.turn-requires-clause-finite
turn-requires-clause-finite c = (last_finite _ _ _ _ _ _ (omega arith) c.requires.tame c.loop-s.invariant, tame_finite _ _ _ c.requires.len.0 c.requires.tame)

pub turn-requires-clause-low : goal.turn-requires-clause-low
turn-requires-clause-low c = left_low c.requires.tame.calm c.loop-s.invariant

pub overflow_add-k : goal.overflow_add-k
overflow_add-k c = omega (arith, left_bound c.loop-s.invariant c.requires.tame.calm.stops)

pub turn-requires-in-loop-s-clause-finite : goal.turn-requires-in-loop-s-clause-finite
turn-requires-in-loop-s-clause-finite c =
    let one = left_step c.requires.tame.calm c.loop-s.invariant _ _ _ c.turn.ensures.turned c.if-turn.false in
    (last_finite _ _ _ _ _ _ (omega arith) c.requires.tame one, tame_finite _ _ _ c.requires.len.0 c.requires.tame)

pub turn-requires-in-loop-s-clause-low : goal.turn-requires-in-loop-s-clause-low
turn-requires-in-loop-s-clause-low c = left_low c.requires.tame.calm (left_step c.requires.tame.calm c.loop-s.invariant _ _ _ c.turn.ensures.turned c.if-turn.false)

pub overflow_add-result : goal.overflow_add-result
overflow_add-result c = omega (arith, left_bound c.loop-s.invariant c.requires.tame.calm.stops)

pub overflow_add-k-in-loop-s : goal.overflow_add-k-in-loop-s
overflow_add-k-in-loop-s c =
    let one = left_step c.requires.tame.calm c.loop-s.invariant _ _ _ c.turn.ensures.turned c.if-turn.false in
    omega (arith, left_bound one c.requires.tame.calm.stops)

pub loop-s-smaller : goal.loop-s-smaller
loop-s-smaller c =
    let one = left_step c.requires.tame.calm c.loop-s.invariant _ _ _ c.turn.ensures.turned c.if-turn.false in
    omega (arith, left_bound one c.requires.tame.calm.stops)

pub loop-s-preserved : goal.loop-s-preserved
loop-s-preserved c =
    let one = left_step c.requires.tame.calm c.loop-s.invariant _ _ _ c.turn.ensures.turned c.if-turn.false in
    left-two _ (left_step c.requires.tame.calm one _ _ _ c.turn-in-loop-s.ensures.turned c.if-turn-2.false)

pub returns-then-turn-clause-summed : goal.returns-then-turn-clause-summed
returns-then-turn-clause-summed c = left_stop c.requires.tame.calm c.loop-s.invariant _ _ _ c.turn.ensures.turned c.if-turn.true

pub returns-then-turn-2-clause-summed : goal.returns-then-turn-2-clause-summed
returns-then-turn-2-clause-summed c =
    let one = left_step c.requires.tame.calm c.loop-s.invariant _ _ _ c.turn.ensures.turned c.if-turn.false in
    left_stop c.requires.tame.calm one _ _ _ c.turn-in-loop-s.ensures.turned c.if-turn-2.true
