-- `session::put_answer` meets its contract. Assumes nothing.
use Rattle.std.specs.Prelude.{Some}
use Rattle.session.proofs.Laws.{few_answers}
use Rattle.session.specs.declared.Phase.TheVariants.{Asking}
use Rattle.float.specs.Arith.{zero+}
use Rattle.std.proofs.Common.{arith, ℕ, ◌+◌, ◌*◌, ap, ◌∙◌}
use Rattle.loops.specs.Loop.{stores, ◌!◌}
use Rattle.evaluation.specs.Sizes.{places}
use Rattle.session.specs.Figures.{answers_at, session_of}
use Rattle.session.proofs.Writes.{typed_passed, put_answer_is, taken_back}
use Rattle.session.proofs.put_answer.Goals as goal

pub returns : goal.returns
unfolding session_of
returns c =
    let k = c.args.k in
    let x = c.args.figures.now in
    let long = c.requires.figures_len in
    let passed = c.requires.figures_value in
    let fit = c.slice_known-1.given in
    let typed = typed_passed k x (Some (Asking k.count)) passed (record { places = long; fit = fit }) in
    let early = few_answers (session_of k x) k.count passed in
    let put = c.put.ensures ∙ ap (λ (n : ℕ). stores (λ i _. c.args.answer.now ! i) (answers_at + places * k.count) n x) c.told-answer in record {
      answered = put_answer_is k x long c.args.answer.now early c.told-answer _ c.put.ensures;
      back = ap (stores (λ _ _. zero+) (answers_at + places * k.count) places) put ∙ taken_back k x long c.args.answer.now early typed fit (Some (Asking k.count)) passed;
    }

pub overflow_mul-count : goal.overflow_mul-count
unfolding session_of
overflow_mul-count c = omega (arith, few_answers (session_of c.args.k c.args.figures.now) c.args.k.count c.requires.figures_value)

pub overflow_add-count : goal.overflow_add-count
unfolding session_of
overflow_add-count c = omega (arith, few_answers (session_of c.args.k c.args.figures.now) c.args.k.count c.requires.figures_value)

pub put-requires : goal.put-requires
unfolding session_of
put-requires c = omega (arith, few_answers (session_of c.args.k c.args.figures.now) c.args.k.count c.requires.figures_value)

pub overflow_add-result : goal.overflow_add-result
unfolding session_of
overflow_add-result c = omega (arith, few_answers (session_of c.args.k c.args.figures.now) c.args.k.count c.requires.figures_value)
