-- The mirrored runs proved: an opening and a list of calls, and what the working relations say in the statement's words. Assumes nothing.
use Rattle.std.proofs.Common.{ℕ, ◌≤◌, ◌<◌, arith, ◌≡◌, refl, sym, ap, subst, subst₂, Bool, true, false, ◌&&◌, List, Float, length}
use Rattle.std.proofs.Math.Decide.{dec_lt}
use Rattle.std.specs.Float.Ieee.{nan, inf, fin}
use Rattle.loops.specs.Loop.{tab, ◌!◌}
use Rattle.loops.proofs.Loops.{past_end, length-tab, tab_at}
use Rattle.float.proofs.Signs.{false_unlike}
use Rattle.session.specs.declared.Session.{Session}
use Rattle.session.specs.declared.Wish.TheVariants.{Given, Difference}
use Rattle.session.specs.Values.{is_refused}
use Rattle.session.specs.Session.{Run, Trial}
use Rattle.session.specs.Calls.{Outcome, nothing, opened}
use Rattle.session.specs.Runs.{Call, perform, opening, run}
use Rattle.mirror.specs.Mirror.{flip, flipped, flipped_opening, FlippedCall, begins, supplies, accepts, drops, first_steps, FlippedCalls, no_call, and_call, wishes_difference}
use Rattle.mirror.specs.Mirror.{Undifferenced, Alike, MirroredRun, MirroredTrial, Mirrored, SameOutcome, SameOutcomes, no_outcome, and_outcome, MirroredRuns}
use Rattle.mirror.proofs.Floats.{m_flip, agrees}
use Rattle.mirror.proofs.Places.{At, at_nan, Placed, blank_m}
use Rattle.mirror.proofs.Sessions.{Runs, run_m, Trials, trial_m, live, Sessions, void, alive, idle_m}
use Rattle.mirror.proofs.Calls.{Outcomes, bare_m, begin_m, difference_m, supply_m, accept_m, drop_m, first_step_m, begin_void, supply_void, accept_void, drop_void, first_step_void, open_m}

-- ---- the flips
flip_false : (x : Float) → flip false x ≡ x
unfolding flip
flip_false nan = refl
flip_false (inf t) = ap inf (false_unlike t)
flip_false (fin t m e) = ap (λ (s : Bool). fin s m e) (false_unlike t)

flip_at : (b s : Bool) (x : Float) → At b s x (flip (b && s) x)
flip_at true s x = m_flip s x
flip_at false s x = sym (flip_false x)

pub flipped_m : (used turned : ℕ → Bool) (x : List Float) → Placed used turned x (flipped used turned x)
unfolding flipped
flipped_m used turned x = record { size = sym (length-tab (length x) turn); at = λ p. go p (dec_lt p (length x)) }
  where
    turn : ℕ → Float
    turn p = flip (used p && turned p) (x ! p)

    go : (p : ℕ) → Dec (p < length x) → At (used p) (turned p) (x ! p) (tab (length x) turn ! p)
    go p (yes h) = subst (λ (y : Float). At (used p) (turned p) (x ! p) y) (sym (tab_at (length x) turn p h)) (flip_at (used p) (turned p) (x ! p))
    go p (no h) =
        let k : length x ≤ p = omega arith in
        let k' : length (tab (length x) turn) ≤ p = rw length-tab k in
        subst₂ (λ (y z : Float). At (used p) (turned p) y z) (sym (past_end x p k)) (sym (past_end (tab (length x) turn) p k')) (at_nan (used p) (turned p))

-- ---- one call
call_m : {n : ℕ} {turned : ℕ → Bool} {c c' : Call} {s s' : Session} → FlippedCall n turned c c' → Sessions n turned s s'
    → (wishes_difference c ≡ true → is_refused (perform c s).told.answer ≡ true) → (wishes_difference c' ≡ true → is_refused (perform c' s').told.answer ≡ true)
    → Outcomes n turned (perform c s) (perform c' s')
unfolding perform wishes_difference
call_m (begins h w j o o' e) void q q' = begin_void h w w j _ o o'
call_m (supplies place x o o' e) void q q' = supply_void place x _ o o'
call_m (accepts x) void q q' = bare_m (accept_void x _)
call_m drops void q q' = bare_m drop_void
call_m (first_steps z) void q q' = bare_m (first_step_void z)
call_m {n} {turned} (begins h Given j o o' e) (alive S) q q' = begin_m o o' h e S (flipped_m _ _ j)
call_m {n} {turned} (begins h Difference j o o' e) (alive S) q q' = difference_m o o' h e S (flipped_m _ _ j) (q refl) (q' refl)
call_m (supplies place x o o' e) (alive S) q q' = supply_m place o o' e S (flipped_m _ _ x)
call_m (accepts x) (alive S) q q' = bare_m (accept_m S (flipped_m _ _ x))
call_m drops (alive S) q q' = bare_m (drop_m S)
call_m (first_steps z) (alive S) q q' = bare_m (first_step_m z S)

opening_m : (turned : ℕ → Bool) (o : Run) → Outcomes o.n turned (opening o) (opening (flipped_opening turned o))
unfolding opening flipped_opening
opening_m turned o =
    bare_m (open_m (run_m o.scheme o.time o.relative o.absolute o.history (flipped_m _ _ o.state) (flipped_m _ _ o.derivative) (flipped_m _ _ o.previous)))

-- ---- what the relations say
pub alike : {used turned : ℕ → Bool} {x y : List Float} → Placed used turned x y → Alike used turned x y
alike {used} {turned} {x} {y} P = record {
  size = P.size;
  in_use = λ p h e. agrees (subst (λ (b : Bool). At b (turned p) (x ! p) (y ! p)) e (P.at p));
  other = λ p h e. subst (λ (b : Bool). At b (turned p) (x ! p) (y ! p)) e (P.at p);
}

run_mirrored : {n : ℕ} {turned : ℕ → Bool} {r r' : Run} → Runs n turned r r' → MirroredRun n turned r r'
run_mirrored (run_m k t rtol atol held U F W) = record {
  scheme = refl;
  size = refl;
  time = refl;
  relative = refl;
  absolute = refl;
  history = refl;
  state = alike U;
  derivative = alike F;
  previous = alike W;
}

trial_mirrored : {n : ℕ} {turned : ℕ → Bool} {q q' : Trial} → Trials n turned q q' → MirroredTrial n turned q q'
trial_mirrored (trial_m h a c D J R) = record { attempt = refl; step = refl; count = refl; jacobian = alike J; answers = alike R }

mirrored : {n : ℕ} {turned : ℕ → Bool} {s s' : Session} → Sessions n turned s s' → Mirrored n turned s s'
mirrored {n} {turned} void = unfold nothing opened in record {
  run = record {
    scheme = refl;
    size = refl;
    time = refl;
    relative = refl;
    absolute = refl;
    history = refl;
    state = alike (blank_m _ _ 16);
    derivative = alike (blank_m _ _ 16);
    previous = alike (blank_m _ _ 16);
  };
  trial = trial_mirrored idle_m;
}
mirrored (alive (live N R T)) = record { run = run_mirrored R; trial = trial_mirrored T }

same : {n : ℕ} {turned : ℕ → Bool} {r r' : Outcome} → Outcomes n turned r r' → SameOutcome n turned r r'
same R = record { answer = R.tolds.answers; session = mirrored R.tolds.sessions; written = λ e. alike (R.outs e) }

-- ---- the list
list_m : {n : ℕ} {turned : ℕ → Bool} {cs cs' : List Call} {s s' : Session} → FlippedCalls n turned cs cs' → Sessions n turned s s' → Undifferenced s cs → Undifferenced s' cs'
    → SameOutcomes n turned (run s cs) (run s' cs')
unfolding run Undifferenced
list_m no_call S q q' = no_outcome
list_m (and_call C L) S q q' = let R = call_m C S q.0 q'.0 in and_outcome (same R) (list_m L R.tolds.sessions q.1 q'.1)

pub mirrored_runs : MirroredRuns
unfolding MirroredRuns
mirrored_runs turned o cs cs' L q q' = let R = opening_m turned o in and_outcome (same R) (list_m L R.tolds.sessions q q')
