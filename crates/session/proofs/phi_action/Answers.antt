-- `session::phi_action` meets its contract. Assumes nothing.
use Rattle.std.proofs.Common.{sym, ◌∙◌, arith}
use Rattle.session.specs.Tests.{unless}
use Rattle.session.specs.Bare.{phi_call}
use Rattle.session.proofs.Tests.{passed_on}
use Rattle.session.proofs.Laws.{phi_sized, phi_unordered, acted_is, unacted_is}
use Rattle.session.proofs.phi_action.Goals as goal

pub new-requires : goal.new-requires
new-requires c = (phi_sized _ _ _ _ _ _ (sym c.test_phi.ensures ∙ c.in_ok-test_phi.was)).sized.small

pub invariant_of-square : goal.invariant_of-square
invariant_of-square c = record { sized = rw c.new.ensures (phi_sized _ _ _ _ _ _ (sym c.test_phi.ensures ∙ c.in_ok-test_phi.was)).sized }

pub vector-requires : goal.vector-requires
vector-requires c =
    let k = phi_sized _ _ _ _ _ _ (sym c.test_phi.ensures ∙ c.in_ok-test_phi.was) in record {
      n_le_places = k.sized.small;
      x_len = k.inputs;
    }

pub copy_out-requires : goal.copy_out-requires
copy_out-requires c = let k = phi_sized _ _ _ _ _ _ (sym c.test_phi.ensures ∙ c.in_ok-test_phi.was) in omega (arith, k.places, k.sized.small)

pub returns : goal.returns
unfolding phi_call unless
returns c =
    let k = phi_sized _ _ _ _ _ _ (sym c.test_phi.ensures ∙ c.in_ok-test_phi.was) in
    rw (← c.in-Ok.ensures, ← c.test_phi.ensures, c.in_ok-test_phi.was, ← c.vector.ensures)
    (acted_is _ _ _ _ _ (rw c.new.ensures at c.in-Some.ensures) (rw k.places at c.copy_out.ensures))

pub returns-in_default-phi_action : goal.returns-in_default-phi_action
unfolding phi_call unless
returns-in_default-phi_action c =
    rw (← c.in-Ok.ensures, ← c.test_phi.ensures, c.in_ok-test_phi.was, ← c.vector.ensures)
    (unacted_is _ _ c.args.out.now _ (rw c.new.ensures at c.in_default-phi_action.ensures))

pub returns-in_default : goal.returns-in_default
unfolding phi_call unless
returns-in_default c = rw (phi_unordered c.args.n c.args.order c.args.scale_a c.args.a.now c.args.input.now _ c.in_default.ensures.1)

pub returns-in_err-test_phi : goal.returns-in_err-test_phi
unfolding phi_call unless
returns-in_err-test_phi c = rw (← c.in-Ok.ensures, ← c.test_phi.ensures, c.in_err-test_phi.was, passed_on _ _ c.from_residual.ensures.1)
