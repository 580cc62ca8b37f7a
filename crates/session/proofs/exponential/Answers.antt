-- `session::exponential` meets its contract. Assumes nothing.
use Rattle.std.proofs.Common.{arith, sym, ◌∙◌, length-take-le}
use Rattle.session.specs.Tests.{unless}
use Rattle.session.specs.Bare.{exponential_call}
use Rattle.session.proofs.Tests.{passed_on}
use Rattle.session.proofs.Laws.{area20, exponential_sized, filled_is, unfilled_is}
use Rattle.session.proofs.Attempts.{copied}
use Rattle.session.proofs.exponential.Goals as goal

pub overflow_mul-end : goal.overflow_mul-end
unfolding exponential_call unless
overflow_mul-end c = let s = exponential_sized _ _ _ (sym c.test_exponential.ensures ∙ c.in_ok-test_exponential.was) in omega (arith, area20 s.0)

pub put-requires : goal.put-requires
unfolding exponential_call unless
put-requires c = let s = exponential_sized _ _ _ (sym c.test_exponential.ensures ∙ c.in_ok-test_exponential.was) in omega (arith, area20 s.0, s.1.0)

pub slice_bounds-a-end : goal.slice_bounds-a-end
unfolding exponential_call unless
slice_bounds-a-end c = let s = exponential_sized _ _ _ (sym c.test_exponential.ensures ∙ c.in_ok-test_exponential.was) in omega (arith, area20 s.0, c.put.auto.out)

pub slice_bounds-matrix_exp-end : goal.slice_bounds-matrix_exp-end
unfolding exponential_call unless
slice_bounds-matrix_exp-end c = let s = exponential_sized _ _ _ (sym c.test_exponential.ensures ∙ c.in_ok-test_exponential.was) in sym (length-take-le _ _ (omega (arith, area20 s.0, c.put.auto.out)))

pub matrix_exp-requires : goal.matrix_exp-requires
unfolding exponential_call unless
matrix_exp-requires c =
    let s = exponential_sized _ _ _ (sym c.test_exponential.ensures ∙ c.in_ok-test_exponential.was) in record {
      n_bound = s.0;
      m_len = (length-take-le _ c.put.new.out (omega (arith, area20 s.0, c.put.auto.out)), s.1.1);
    }

pub returns : goal.returns
unfolding exponential_call unless
returns c =
    let s = exponential_sized _ _ _ (sym c.test_exponential.ensures ∙ c.in_ok-test_exponential.was) in
    let e = copied c.args.m.now _ c.put.new.out _ c.put.ensures s.1.0 (area20 s.0) in
    let f = rw e at c.in-Some.ensures in
    rw (← c.test_exponential.ensures, c.in_ok-test_exponential.was) (filled_is _ _ _ _ _ _ f)

pub returns-in_default : goal.returns-in_default
unfolding exponential_call unless
returns-in_default c =
    let s = exponential_sized _ _ _ (sym c.test_exponential.ensures ∙ c.in_ok-test_exponential.was) in
    let e = copied c.args.m.now _ c.put.new.out _ c.put.ensures s.1.0 (area20 s.0) in
    let f = rw e at c.in_default.ensures in
    rw (← c.test_exponential.ensures, c.in_ok-test_exponential.was) (unfilled_is _ _ _ _ _ f)

pub returns-in_err-test_exponential : goal.returns-in_err-test_exponential
unfolding exponential_call unless
returns-in_err-test_exponential c = rw (← c.test_exponential.ensures, c.in_err-test_exponential.was, passed_on _ _ c.from_residual.ensures.1)
