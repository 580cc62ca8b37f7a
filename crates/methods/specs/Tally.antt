-- What the exponentials of a pass report: that the row sums of each were admitted, how many they are, and how many terms and squarings they took. Definitions only.
use Rattle.std.specs.Prelude.{ℕ, ◌+◌, Bool, true, false, ◌&&◌, Option, Some, None, List, Float}
use Rattle.matrix.specs.declared.Reach.{Reach}
use Rattle.methods.specs.declared.Work.{Work}

pub record Report : Type 0 where
  pub ok : Bool
  pub exponentials : ℕ
  pub terms : ℕ
  pub squarings : ℕ

-- a vector that exponentials were worked out for, with what they report; +0.0 where one was not admitted
pub record Tried : Type 0 where
  pub v : List Float
  pub tally : Report

-- a test, of no exponential
unfoldable pub tested : Bool → Report
tested ok = record { ok = ok; exponentials = 0; terms = 0; squarings = 0 }

-- nothing yet
unfoldable pub clean : Report
clean = tested true

-- a test that failed, of no exponential
unfoldable pub unadmitted : Report
unadmitted = tested false

-- one exponential, and how far it went where its matrix was admitted
unfoldable pub single : Option Reach → Report
single (Some r) = record { ok = true; exponentials = 1; terms = r.terms; squarings = r.squarings }
single None = record { ok = false; exponentials = 1; terms = 0; squarings = 0 }

-- the exponentials and tests of both, in the order of working
unfoldable pub joined : Report → Report → Report
joined x y = record {
  ok = x.ok && y.ok;
  exponentials = x.exponentials + y.exponentials;
  terms = x.terms + y.terms;
  squarings = x.squarings + y.squarings;
}

-- what is told of them: how many they are, and the matrix products that they took, one for each term and each squaring
unfoldable pub work_of : Report → Work
work_of t = record { exponentials = t.exponentials; products = t.terms + t.squarings }
