-- `schemes::pass`: an arm for each scheme. Assumes nothing.
use Rattle.methods.specs.Step.{pass}
use Rattle.schemes.proofs.pass.Goals as goal

pub returns-in-LawsonEuler : goal.returns-in-LawsonEuler
unfolding pass
returns-in-LawsonEuler c = rw c.in-LawsonEuler.is (c.lawson_euler.ensures _ _ _)

pub returns-in-NorsettEuler : goal.returns-in-NorsettEuler
unfolding pass
returns-in-NorsettEuler c = rw c.in-NorsettEuler.is (c.norsett_euler.ensures _ _ _)

pub returns-in-Etdrk2 : goal.returns-in-Etdrk2
unfolding pass
returns-in-Etdrk2 c = rw c.in-Etdrk2.is c.etdrk2.ensures

pub returns-in-Etdrk3 : goal.returns-in-Etdrk3
unfolding pass
returns-in-Etdrk3 c = rw c.in-Etdrk3.is c.etdrk3.ensures

pub returns-in-Etdrk4 : goal.returns-in-Etdrk4
unfolding pass
returns-in-Etdrk4 c = rw c.in-Etdrk4.is c.etdrk4.ensures

pub returns-in-HochOst4 : goal.returns-in-HochOst4
unfolding pass
returns-in-HochOst4 c = rw c.in-HochOst4.is c.hoch_ost4.ensures

pub returns-in-Exp4 : goal.returns-in-Exp4
unfolding pass
returns-in-Exp4 c = rw c.in-Exp4.is c.exp4.ensures

pub returns-in-Epirk4s3A : goal.returns-in-Epirk4s3A
unfolding pass
returns-in-Epirk4s3A c = rw c.in-Epirk4s3A.is c.epirk4s3_a.ensures

pub returns-in-Epirk4s3B : goal.returns-in-Epirk4s3B
unfolding pass
returns-in-Epirk4s3B c = rw c.in-Epirk4s3B.is c.epirk4s3_b.ensures

pub returns-in-Epirk5s3 : goal.returns-in-Epirk5s3
unfolding pass
returns-in-Epirk5s3 c = rw c.in-Epirk5s3.is c.epirk5s3.ensures

pub returns-in-Exprb53s3 : goal.returns-in-Exprb53s3
unfolding pass
returns-in-Exprb53s3 c = rw c.in-Exprb53s3.is c.exprb53s3.ensures

pub returns-in-Epirk5P1 : goal.returns-in-Epirk5P1
unfolding pass
returns-in-Epirk5P1 c = rw c.in-Epirk5P1.is c.epirk5p1.ensures

pub returns-in-Epirk5P2 : goal.returns-in-Epirk5P2
unfolding pass
returns-in-Epirk5P2 c = rw c.in-Epirk5P2.is c.epirk5p2.ensures

pub returns-in-Etd2 : goal.returns-in-Etd2
unfolding pass
returns-in-Etd2 c = rw c.in-Etd2.is (c.etd2.ensures _ _ _)

pub returns-in-Exprb32 : goal.returns-in-Exprb32
unfolding pass
returns-in-Exprb32 c = rw c.in-Exprb32.is c.exprb32.ensures

pub returns-in-Exprb43 : goal.returns-in-Exprb43
unfolding pass
returns-in-Exprb43 c = rw c.in-Exprb43.is c.exprb43.ensures
