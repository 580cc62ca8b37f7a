-- `session::figures::wipe` meets its contract. Assumes nothing.
use Rattle.std.proofs.Common.{arith, ◌≡◌, ap, ◌∙◌, List, ℕ, ◌+◌, ◌-◌, Float, replicate}
use Rattle.float.specs.Arith.{zero+}
use borrow.Rule.Slice.PartMut.{put_mid}
use Rattle.session.proofs.Inverse.{put_each}
use Rattle.session.proofs.Parts.{slice_long}
use Rattle.session.proofs.figures.wipe.Goals as goal

pub returns : goal.returns
returns c =
    let at = c.args.at in
    let n = c.args.n in
    let m = at + n - at in
    let e : m ≡ n = omega arith in
    ap (λ (l : List Float). put_mid at m c.args.out.now l) (c.fill.ensures.after (λ y e. e))
    ∙ ap (λ (k : ℕ). put_mid at m c.args.out.now (replicate k zero+)) (slice_long c.args.out.now at m (omega arith) ∙ e)
    ∙ put_each zero+ c.args.out.now at m n e (omega arith)
