-- `session::figures::part` meets its contract. Assumes nothing.
use Rattle.std.proofs.Common.{arith, ap, ◌∙◌, take, drop, ℕ, ◌+◌, ◌-◌, ◌≡◌}
use Rattle.session.proofs.Parts.{slice_part}
use Rattle.session.proofs.figures.part.Goals as goal

pub returns : goal.returns
returns g c =
    let w = rw c.unwrap.ensures at c.as_array.ensures.cases in
    let e : c.args.at + g.row.N - c.args.at ≡ g.row.N = omega arith in
    w.same ∙ ap (λ (n : ℕ). take n (drop c.args.at c.args.figures.now)) e ∙ slice_part c.args.figures.now c.args.at g.row.N (omega arith)
