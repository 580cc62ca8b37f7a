-- `session::Session::first_step` meets its contract. Assumes nothing.
use Rattle.std.proofs.Common.{◌≡◌, ap, ◌∙◌}
use Rattle.session.specs.declared.Head.{Head}
use Rattle.session.specs.Figures.{session_of}
use Rattle.session.proofs.Session.first_step.Goals as goal

pub returns : goal.returns
returns c =
    let same : session_of c.head.result c.figures-figures.result ≡ c.args.self = ap (λ (k : Head). session_of k c.figures-figures.result) c.head.ensures ∙ c.figures-figures.ensures.1 in
    rw same at c.first_step_over-answer.ensures
