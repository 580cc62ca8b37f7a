-- `session::places::with_eight` meets its contract. Assumes nothing.
use Rattle.session.proofs.Blank.{eight_numbers, with_eight, without_eight}
use Rattle.session.proofs.places.with_eight.Goals as goal

pub float_to_bits-result : goal.float_to_bits-result
float_to_bits-result c = (eight_numbers c.args.x.now c.if-sum.true).0

pub float_to_bits-result-then-sum : goal.float_to_bits-result-then-sum
float_to_bits-result-then-sum c = (eight_numbers c.args.x.now c.if-sum.true).1

pub float_to_bits-result-then-sum-2 : goal.float_to_bits-result-then-sum-2
float_to_bits-result-then-sum-2 c = (eight_numbers c.args.x.now c.if-sum.true).2

pub float_to_bits-result-then-sum-3 : goal.float_to_bits-result-then-sum-3
float_to_bits-result-then-sum-3 c = (eight_numbers c.args.x.now c.if-sum.true).3

pub float_to_bits-result-then-sum-4 : goal.float_to_bits-result-then-sum-4
float_to_bits-result-then-sum-4 c = (eight_numbers c.args.x.now c.if-sum.true).4

pub float_to_bits-result-then-sum-5 : goal.float_to_bits-result-then-sum-5
float_to_bits-result-then-sum-5 c = (eight_numbers c.args.x.now c.if-sum.true).5

pub float_to_bits-result-then-sum-6 : goal.float_to_bits-result-then-sum-6
float_to_bits-result-then-sum-6 c = (eight_numbers c.args.x.now c.if-sum.true).6

pub float_to_bits-result-then-sum-7 : goal.float_to_bits-result-then-sum-7
float_to_bits-result-then-sum-7 c = (eight_numbers c.args.x.now c.if-sum.true).7

pub returns-then-sum : goal.returns-then-sum
returns-then-sum c = with_eight c.args.bits c.args.x.now c.requires c.type_inv.x

pub returns-else-sum : goal.returns-else-sum
returns-else-sum c = without_eight c.args.bits c.args.x.now c.requires c.type_inv.x c.if-sum.false
