-- `matrix::taylor` meets its contract: what is left of the series is the whole, and term 15 is never passed. Assumes nothing.
use Rattle.std.proofs.Common.{arith}
use Rattle.matrix.proofs.Series.{left_all, left_bound, left_low, left_step, left_stop, left-two}
use Rattle.matrix.proofs.taylor.Goals as goal

pub returns-then-first_term : goal.returns-then-first_term
returns-then-first_term c = left_stop c.requires.calm (left_all _ _) _ _ _ c.first_term.ensures c.if-first_term.true

pub loop-sum-init : goal.loop-sum-init
loop-sum-init c = left_step c.requires.calm (left_all _ _) _ _ _ c.first_term.ensures c.if-first_term.false

pub turn-requires-clause-low : goal.turn-requires-clause-low
turn-requires-clause-low c = left_low c.requires.calm c.loop-sum.invariant

pub overflow_add-k : goal.overflow_add-k
overflow_add-k c = omega (arith, left_bound c.loop-sum.invariant c.requires.calm.stops)

pub turn-requires-in-loop-sum-clause-low : goal.turn-requires-in-loop-sum-clause-low
turn-requires-in-loop-sum-clause-low c = left_low c.requires.calm (left_step c.requires.calm c.loop-sum.invariant _ _ _ c.turn.ensures c.if-turn.false)

pub overflow_add-result : goal.overflow_add-result
overflow_add-result c = omega (arith, left_bound c.loop-sum.invariant c.requires.calm.stops)

pub overflow_add-k-in-loop-sum : goal.overflow_add-k-in-loop-sum
overflow_add-k-in-loop-sum c =
    let one = left_step c.requires.calm c.loop-sum.invariant _ _ _ c.turn.ensures c.if-turn.false in
    omega (arith, left_bound one c.requires.calm.stops)

pub loop-sum-smaller : goal.loop-sum-smaller
loop-sum-smaller c =
    let one = left_step c.requires.calm c.loop-sum.invariant _ _ _ c.turn.ensures c.if-turn.false in
    omega (arith, left_bound one c.requires.calm.stops)

pub loop-sum-preserved : goal.loop-sum-preserved
loop-sum-preserved c =
    let one = left_step c.requires.calm c.loop-sum.invariant _ _ _ c.turn.ensures c.if-turn.false in
    left-two _ (left_step c.requires.calm one _ _ _ c.turn-in-loop-sum.ensures c.if-turn-2.false)

pub returns-then-turn : goal.returns-then-turn
returns-then-turn c = left_stop c.requires.calm c.loop-sum.invariant _ _ _ c.turn.ensures c.if-turn.true

pub returns-then-turn-2 : goal.returns-then-turn-2
returns-then-turn-2 c =
    let one = left_step c.requires.calm c.loop-sum.invariant _ _ _ c.turn.ensures c.if-turn.false in
    left_stop c.requires.calm one _ _ _ c.turn-in-loop-sum.ensures c.if-turn-2.true
