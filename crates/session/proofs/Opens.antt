-- The tests of a run that is to be opened: its attempt holds nothing. Assumes nothing.
use Rattle.std.proofs.Common.{◌≡◌, refl, sym, ◌∙◌, Bool, true, false, cond, ◌&&◌, [], ◌∷◌, ltb}
use Rattle.std.proofs.Math.Bool.{and-true}
use Rattle.std.specs.Float.Ieee.{of_bits}
use Rattle.float.specs.Arith.{finite, plus_zero}
use Rattle.evaluation.specs.Evaluation.{all_finite}
use Rattle.evaluation.specs.Sizes.{answer_room}
use Rattle.std.specs.Prelude.{Err, Result, ⊤, None}
use Rattle.session.specs.declared.Refusal.{Refusal}
use Rattle.session.specs.declared.Refusal.TheVariants as Why
use Rattle.session.specs.Tests.{tested}
use Rattle.session.specs.Session.{Run, jacobian_room, fresh, idle, clear, used_history, used_jacobian, step_clear, size_ok, run_places, attempt_places}
use Rattle.session.specs.Session.{schemes, history_ok, wanted, good1, good2, good3, good4, good5, good7, good9, admits, names, tolerances_ok, session_tests}
use Rattle.session.specs.Calls.{opened}
use Rattle.session.proofs.Clear.{clear-zeros, clear-answers-zeros, finite-zeros}

-- two rows of one refusal are one row of both
one_row : (a b : Bool) (next k : Result ⊤ Refusal) → cond (cond a b false) next k ≡ cond a (cond b next k) k
one_row true b next k = refl
one_row false b next k = refl

module _ (r : Run) where
  -- the places in use of the run
  abbrev pub open_places : Bool
  open_places = clear r.n r.absolute && clear r.n r.state && clear r.n r.derivative && clear (used_history r.history r.n) r.previous

  idle-places : attempt_places (opened r) ≡ true
  unfolding attempt_places opened idle fresh step_clear used_jacobian plus_zero of_bits
  idle-places = rw (clear-zeros 0 jacobian_room, clear-answers-zeros 0 r.n answer_room)

  run-places : run_places (opened r) ≡ open_places
  unfolding run_places opened
  run-places = refl

  places : good1 (opened r) ≡ cond (size_ok r.n) open_places false
  unfolding good1
  places = rw (run-places, idle-places, and-true open_places) (unfold opened in refl)

  figures : good3 (opened r) ≡ (finite r.time && all_finite r.state && all_finite r.derivative && all_finite r.previous)
  unfolding good3 opened idle fresh
  figures = rw (finite-zeros jacobian_room, finite-zeros answer_room) (and-true _ ∙ and-true _)

  tolerances : good4 (opened r) ≡ tolerances_ok r.n r.relative r.absolute
  unfolding good4 opened
  tolerances = refl

  no_step : good5 (opened r).attempt (opened r).step ≡ true
  unfolding good5 opened idle fresh
  no_step = refl

  -- the tests that are left
  pub opening : tested (session_tests None (opened r))
      ≡ tested ((size_ok r.n, Why.Places) ∷ (open_places, Why.Places) ∷ (good2 (opened r), Why.Scheme) ∷ (tolerances_ok r.n r.relative r.absolute, Why.Tolerance)
      ∷ (finite r.time && all_finite r.state && all_finite r.derivative && all_finite r.previous, Why.NotFinite) ∷ [])
  unfolding session_tests good7 good9 admits names tested
  opening = rw (places, figures, tolerances, no_step) (one_row (size_ok r.n) open_places _ (Err Why.Places))

  -- 2: an opened run has no answer, so its scheme and its history are what is left
  pub opened_scheme : {b : Bool} → b ≡ history_ok r.history r.scheme → (ltb r.scheme schemes && b) ≡ good2 (opened r)
  unfolding good2 opened idle fresh wanted
  opened_scheme e = rw e (sym (and-true _))
