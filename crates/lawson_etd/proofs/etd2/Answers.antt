-- `lawson_etd::etd2`: its pass, line by line, with and without a history. Assumes nothing.
use Rattle.std.proofs.Common.{refl}
use Rattle.matrix.specs.Vector.{zeros}
use Rattle.methods.specs.Numbers.{numbers}
use Rattle.methods.specs.Schemes.{etd2}
use Rattle.lawson_etd.proofs.Histories.{first_refused, second_refused}
use Rattle.methods.proofs.Made.{taken_is, untaken}
use Rattle.methods.proofs.Lines.{begin, alone, last_line, first_part, next_plain, next_part, summed, sum_fails, narrowed_fails, stand_none}
use Rattle.lawson_etd.proofs.etd2.Goals as goal

pub returns-in_err-k : goal.returns-in_err-k
unfolding zeros numbers etd2
returns-in_err-k c =
    λ count first answers. first_refused _ _ _ _ _ c.args.r.now.point.previous count first answers (untaken _ c.in_err-k.ensures) (stand_none c.from_residual.ensures)

pub returns-in_err-k-2 : goal.returns-in_err-k-2
unfolding zeros numbers etd2
returns-in_err-k-2 c =
    λ count first answers. second_refused _ _ _ _ _ c.args.r.now.point.previous count first answers _ (taken_is _ _ c.in_ok-k.ensures)
    (narrowed_fails _ (untaken _ c.in_err-k-2.ensures)) (stand_none c.from_residual-in_err-k-2.ensures)

pub returns-in_err-k-in-Some : goal.returns-in_err-k-in-Some
unfolding zeros numbers etd2
returns-in_err-k-in-Some c =
    λ count first answers.
    rw c.in-Some.is
    (begin _ _ _ _ _
    (first_part _ _ _ (taken_is _ _ c.in_ok-k.ensures)
    (next_part _ _ _ _ (taken_is _ _ c.in_ok-k-2.ensures)
    (next_plain _ _ _ _ refl (sum_fails _ _ (narrowed_fails _ (untaken _ c.in_err-k-in-Some.ensures)) (stand_none c.from_residual-in_err-k-in-Some.ensures))))))

pub returns-in_err-k-in-Some-2 : goal.returns-in_err-k-in-Some-2
unfolding zeros numbers etd2
returns-in_err-k-in-Some-2 c =
    λ count first answers.
    rw c.in-Some.is
    (begin _ _ _ _ _
    (first_part _ _ _ (taken_is _ _ c.in_ok-k.ensures)
    (next_part _ _ _ _ (taken_is _ _ c.in_ok-k-2.ensures)
    (next_part _ _ _ _ (taken_is _ _ c.in_ok-k-in-Some.ensures)
    (next_plain _ _ _ _ refl (sum_fails _ _ (narrowed_fails _ (untaken _ c.in_err-k-in-Some-2.ensures)) (stand_none c.from_residual-in_err-k-in-Some-2.ensures)))))))

pub returns-in_ok-k-in-Some-2 : goal.returns-in_ok-k-in-Some-2
unfolding zeros numbers etd2
returns-in_ok-k-in-Some-2 c =
    λ count first answers.
    rw c.in-Some.is
    (begin _ _ _ _ _
    (first_part _ _ _ (taken_is _ _ c.in_ok-k.ensures)
    (next_part _ _ _ _ (taken_is _ _ c.in_ok-k-2.ensures)
    (next_part _ _ _ _ (taken_is _ _ c.in_ok-k-in-Some.ensures)
    (next_part _ _ _ _ (taken_is _ _ c.in_ok-k-in-Some-2.ensures)
    (summed _ _
    (alone _ _
    (last_line _ _ _ refl c.ended.ensures))))))))

pub returns-in-None : goal.returns-in-None
unfolding zeros numbers etd2
returns-in-None c =
    λ count first answers.
    rw c.in-None.is
    (begin _ _ _ _ _
    (first_part _ _ _ (taken_is _ _ c.in_ok-k.ensures)
    (next_part _ _ _ _ (taken_is _ _ c.in_ok-k-2.ensures)
    (summed _ _
    (alone _ _
    (last_line _ _ _ refl c.ended-in-None.ensures))))))
