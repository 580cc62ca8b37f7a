-- The proved examples, each by computing. Assumes nothing.
use Rattle.std.proofs.Common.{ℕ, refl}
use Rattle.std.specs.Float.Ieee.{is_nan, add, sub, mul, div, sum, lt, eq, le, neg, round, units, odd, size, span, climb, of_bits, of_fields, of_int}
use lib.Count.{count_trailing_zeros}
use Rattle.loops.specs.Loop.{iter, every, from, tab, mat, fill, stores}
use Rattle.float.specs.Arith.{finite, plus_zero, abs, larger, sum_of, most}
use Rattle.float.specs.Root.{floor_root, nearest_root, root}
use Rattle.evaluation.specs.Evaluation.{all_finite}
use Rattle.matrix.specs.Matrix.{identity, mat_mul, div_all, add_all, max_abs, row_sum, norm, admitted, enough, least, squarings, scaled, next_term, small, series, taylor, squared, exponential, reach}
use Rattle.matrix.specs.Vector.{zeros, vec, mat_vec}
use Rattle.methods.specs.Numbers.{num, minus, decimal}
use Rattle.methods.specs.Vectors.{add as plus, subtract, scale, axpy, axpy_all, combine}
use Rattle.methods.specs.Phi.{checked, over, augmented_entry, augmented, phi_action, phi_term, exp_action}
use Rattle.methods.specs.Tally.{tested, clean, single as reports, joined, work_of}
use Rattle.methods.specs.Pass.{also, ◌>>=◌, counting, under, answer, replay}
use Rattle.methods.specs.Schemes.{lawson_euler, norsett_euler, etd2, exprb32}
use Rattle.methods.specs.Step.{pass, questions, finish, perform_step}
use Rattle.engine.specs.Engine.{delta, perturbed_entry, perturbed, jacobian_entry, column_ok, ratio, root_mean, error_norm, rate, estimate, clamp, by_rates, first_step}
use Rattle.session.specs.Tests.{tested as verdict, unless}
use Rattle.session.specs.Session.{fresh, idle, clear, clear_answers, used_history, used_jacobian, step_clear, wanted, phase_at, phase_of, phase_number, admits, names}
use Rattle.session.specs.Session.{size_ok, run_places, attempt_places, good1, history_ok, good2, good7, good9, positive, tolerances_ok, good4, step_ok, good5, good3, session_tests}
use Rattle.session.specs.Session.{previous_of, point_of, question, differencing, progress_of, progress}
use Rattle.session.specs.Calls.{opened, nothing, begun, answered, has_error, ready_of, shown, vector_tests, attempt_tests, largest_tests}
use Rattle.session.specs.Calls.{begin_tests, supply_tests, first_step_tests, open_call, begin_call, supply_call, first_step_call}
use Rattle.session.specs.Bare.{exponential_tests, phi_tests, norm_tests, exponential_call, phi_call, norm_call}
use Rattle.examples.specs.Examples.{only, pair, lent, running, resting, remembering, tolerating, begins, supplies, Gives, single, Squares, asked, differenced, jacobian_of}
use Rattle.examples.specs.Examples.{Examples, OwnTolerances, Reaches, column, own, answering, Places}

-- ---- what is opened to compute

-- doubles
unfoldable doubles : ℕ
unfolding is_nan add sub mul div sum lt eq le neg round units odd size span climb of_bits of_fields of_int count_trailing_zeros finite plus_zero abs larger sum_of most num minus decimal
doubles = 0

-- loops, vectors and matrices
unfoldable matrices : ℕ
unfolding iter every from tab mat fill stores all_finite identity mat_mul div_all add_all max_abs row_sum norm admitted enough least squarings scaled next_term small series taylor squared
    exponential reach zeros vec mat_vec plus subtract scale axpy axpy_all combine
matrices = 0

-- the schemes
unfoldable schemes : ℕ
unfolding tested clean reports joined work_of checked over augmented_entry augmented phi_action phi_term exp_action
    also ◌>>=◌ counting under answer replay lawson_euler norsett_euler etd2 exprb32 pass questions finish perform_step
schemes = 0

-- the differencing, and the tests of a session
unfoldable tests : ℕ
unfolding delta perturbed_entry perturbed jacobian_entry column_ok clear clear_answers used_history used_jacobian step_clear wanted phase_at phase_of phase_number admits
    names size_ok run_places attempt_places good1 history_ok good2 good7 good9 positive tolerances_ok good4 step_ok good5 good3 session_tests verdict unless
tests = 0

-- the calls
unfoldable calls : ℕ
unfolding previous_of point_of question differencing progress_of progress fresh idle opened nothing begun answered has_error ready_of shown vector_tests attempt_tests largest_tests
    begin_tests supply_tests first_step_tests open_call begin_call supply_call first_step_call only pair lent running resting remembering tolerating begins supplies Gives asked
    differenced column own answering
calls = 0

-- the bare calls, the error norm and the first step
unfoldable bare : ℕ
unfolding floor_root nearest_root root ratio root_mean error_norm rate estimate clamp by_rates first_step exponential_tests phi_tests norm_tests exponential_call phi_call
    norm_call single Squares jacobian_of
bare = 0

-- ---- THE STATEMENT
pub examples : Examples
unfolding doubles matrices schemes tests calls bare
examples = record {
  norsett_euler = (refl, refl);
  norsett_euler-half = (refl, refl);
  norsett_euler_negated = (refl, refl);
  lawson_euler = (refl, refl);
  etd2 = (refl, refl);
  etd2_history = (refl, refl);
  exprb32_asks = refl;
  exprb32 = refl;
  s_half = (refl, refl);
  s_above_half = (refl, refl);
  s_one = (refl, refl);
  s_above_8 = (refl, refl);
  s_top = (refl, refl);
  s_above_top = refl;
  differencing_asks = refl;
  differencing_ready = refl;
  differencing = refl;
  error_norm = refl;
  first_step = refl;
  refused_1 = refl;
  refused_2 = refl;
  refused_3 = refl;
  refused_4 = refl;
  refused_5 = refl;
  refused_6 = refl;
  refused_7 = refl;
}

pub own_tolerances : OwnTolerances
unfolding doubles matrices tests calls bare
own_tolerances = record { error_norm = refl; first_step = refl; refused_1 = refl; refused_4 = refl }

pub reaches : Reaches
unfolding doubles matrices schemes tests calls bare
reaches = record { zero = refl; half = refl; one = refl; phi_action = refl }

pub places : Places
unfolding doubles matrices schemes tests calls bare
places = record { first = refl; second = refl; early = refl; late = refl; taken = refl; over = refl }
