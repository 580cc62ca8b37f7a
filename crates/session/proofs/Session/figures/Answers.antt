-- `session::Session::figures` meets its contract. Assumes nothing.
use Rattle.std.proofs.Common.{rules, ap, ◌∙◌}
use Rattle.session.specs.Figures.{session_of, head_of}
use Rattle.session.proofs.Inverse.{session_back}
use Rattle.session.proofs.Session.figures.Goals as goal

pub returns : goal.returns
returns c =
    let self = c.args.self in (
      c.put_session.ensures,
      ap (session_of (head_of self)) c.put_session.ensures ∙ session_back self
          (record {
            absolute = search rules;
            state = search rules;
            derivative = search rules;
            previous = search rules;
            jacobian = search rules;
            answers = search rules;
          }),
    )
