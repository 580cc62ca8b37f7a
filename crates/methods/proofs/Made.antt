-- The code's actions, and the definitions' actions with their reports. Assumes nothing.
use Rattle.std.proofs.Common.{◌≡◌, Bool, true, false, cond, sym, refl}
use Rattle.std.specs.Prelude.{Option, Some, None}
use Rattle.methods.specs.declared.Action.{Action}
use Rattle.methods.specs.Tally.{Tried}
use Rattle.methods.specs.Parts.{counts, taken, made}

-- an action that is what there is of p
pub is_made : (k : Action) (p : Tried) → taken k ≡ p → Some k ≡ made p
unfolding made
is_made k p e = rw (← e) refl

-- none, of one that was not admitted
pub none_made : (p : Tried) → p.tally.ok ≡ false → None ≡ made p
unfolding made
none_made p e = rw e

-- ---- what a call of an action tells, by its two results
some_of : (p : Tried) (k : Action) (b : Bool) → p.tally.ok ≡ b → cond {A = Option Action} b (Some (record { v = p.v; tally = counts p.tally })) None ≡ Some k → taken k ≡ p
some_of p k true e h =
    let q : ◌≡◌ {A = Action} (record { v = p.v; tally = counts p.tally }) k = cc in
    rw (← q, ← e) refl
some_of p k false e h = cc

pub taken_is : (k : Action) (p : Tried) → Some k ≡ made p → taken k ≡ p
unfolding made
taken_is k p e = some_of p k p.tally.ok refl (sym e)

none_of : (p : Tried) (b : Bool) → cond {A = Option Action} b (Some (record { v = p.v; tally = counts p.tally })) None ≡ None → b ≡ false
none_of p true h = cc
none_of p false h = refl

pub untaken : (p : Tried) → None ≡ made p → p.tally.ok ≡ false
unfolding made
untaken p e = none_of p p.tally.ok (sym e)
