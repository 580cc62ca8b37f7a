-- An opening by a table: what open refuses with a derivative of +0.0, then 8, then open with the table's. Assumes nothing.
use Rattle.std.proofs.Common.{ℕ, ◌≤◌, ◌≡◌, refl, sym, ap, ◌∙◌, true, false, List, [], ◌∷◌, Float, replicate}
use Rattle.std.proofs.Math.Bool.{false≢true}
use Rattle.std.specs.Prelude.{Result, Ok, Err, ⊤, None, is_err}
use Rattle.float.specs.Arith.{zero+}
use Rattle.evaluation.specs.Sizes.{places}
use Rattle.session.specs.declared.Told.{Told}
use Rattle.session.specs.declared.Answer.TheVariants.{Resting}
use Rattle.session.specs.declared.History.TheVariants.{Missing}
use Rattle.session.specs.declared.Refusal.{Refusal}
use Rattle.session.specs.declared.Refusal.TheVariants as Why
use Rattle.session.specs.Tests.{tested, unless}
use Rattle.session.specs.Session.{Run, session_tests}
use Rattle.session.specs.Calls.{tell, refuse, opened, nothing, open_call}
use Rattle.session.proofs.Tests.{stops, holds_on, all_hold}
use Rattle.session.proofs.Laws.{passed_sound, session_then, session_fails}
use Rattle.table.specs.Table.{table_ok, derivative}
use Rattle.table.specs.Whole.{with_derivative, opening_tests, open_by_table}

-- a run that is to be opened by a table
abbrev pub run_by : ℕ → ℕ → Float → List Float → Float → List Float → Run
run_by scheme n time state relative absolute = record {
  scheme = scheme;
  n = n;
  time = time;
  state = state;
  derivative = replicate places zero+;
  relative = relative;
  absolute = absolute;
  history = Missing;
  previous = replicate places zero+;
}

module _ (r : Run) (t : List ℕ) where
  -- the run with a derivative of +0.0, and its tests
  abbrev still : Run
  still = with_derivative r (replicate places zero+)

  abbrev verdict : Result ⊤ Refusal
  verdict = tested (session_tests None (opened still))

  abbrev by_table : Run
  by_table = with_derivative r (derivative r.n t r.time r.state)

  -- refused so, the opening is refused
  pub refused_opening : {a : Told} → a ≡ open_call still → is_err a.answer ≡ true → a ≡ open_by_table r t
  unfolding open_call open_by_table opening_tests unless
  refused_opening {a} e h = go verdict refl e
    where
      go : (k : Result ⊤ Refusal) → verdict ≡ k → a ≡ unless k (refuse nothing) (tell Resting (opened still))
          → a ≡ unless (tested (opening_tests r t)) (refuse nothing) (open_call by_table)
      go (Ok tt) f g = absurd (false≢true (sym (ap (λ (x : Told). is_err x.answer) g) ∙ h))
      go (Err why) f g = rw (← (session_fails None (opened still) ((table_ok r.n t, Why.Table) ∷ []) refl f)) g

  -- where it is not, nothing is wrong with it
  pub opening_passes : {a : Told} → a ≡ open_call still → is_err a.answer ≡ false → verdict ≡ Ok tt
  unfolding open_call unless
  opening_passes {a} e h = go verdict refl e
    where
      go : (k : Result ⊤ Refusal) → verdict ≡ k → a ≡ unless k (refuse nothing) (tell Resting (opened still)) → verdict ≡ Ok tt
      go (Ok tt) f g = f
      go (Err why) f g = absurd (false≢true (sym h ∙ ap (λ (x : Told). is_err x.answer) g))

  pub opening-small : verdict ≡ Ok tt → r.n ≤ places
  unfolding opened
  opening-small e = (passed_sound None (opened still) e).small

  -- then the table
  pub opening_eight : verdict ≡ Ok tt → table_ok r.n t ≡ false → tested (opening_tests r t) ≡ Err Why.Table
  unfolding opening_tests
  opening_eight e h = sym (session_then None (opened still) ((table_ok r.n t, Why.Table) ∷ []) refl e (stops {b = false} Why.Table [] (sym h) refl))

  pub opening_ok : verdict ≡ Ok tt → table_ok r.n t ≡ true → tested (opening_tests r t) ≡ Ok tt
  unfolding opening_tests
  opening_ok e h = sym (session_then None (opened still) ((table_ok r.n t, Why.Table) ∷ []) refl e (holds_on {b = true} Why.Table [] (sym h) refl all_hold))

  -- 8, or the run with the table's derivative
  pub untabled : tested (opening_tests r t) ≡ Err Why.Table → refuse nothing Why.Table ≡ open_by_table r t
  unfolding open_by_table unless
  untabled e = rw e

  pub tabled : tested (opening_tests r t) ≡ Ok tt → open_call by_table ≡ open_by_table r t
  unfolding open_by_table unless
  tabled e = rw e
