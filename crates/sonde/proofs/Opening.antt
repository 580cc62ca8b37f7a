-- The run that an input tells of. Assumes nothing.
use Rattle.std.proofs.Common.{ℕ, ◌≤◌, ◌≡◌, ap, ◌∙◌, ◌&&◌, List, Float, eqb, length, replicate, eq-eqb}
use Rattle.std.proofs.Math.ListN.{length-replicate}
use Rattle.float.specs.Arith.{zero+}
use Rattle.evaluation.specs.Sizes.{places}
use Rattle.matrix.proofs.Vectors.{length-vec}
use Rattle.session.specs.declared.Left.{Left}
use Rattle.session.specs.declared.History.TheVariants.{Missing}
use Rattle.session.specs.Figures.{FIGURES}
use Rattle.session.specs.Lent.{told_by, remains, lent_open}
use Rattle.table.specs.Whole.{open_by_table}
use Rattle.sonde.proofs.Lengths.{opening_held}
use Rattle.sonde.specs.Frames.{size_in, scheme_in, time_in, relative_in, absolute_from, state_from, vector_in, run_in}

pub length-vector_in : (n : ℕ) (b : List ℕ) (from : ℕ) → n ≤ places → length (vector_in n b from) ≡ places
unfolding vector_in
length-vector_in n b from small = length-vec n _ small

-- what the code hands to the opening is that run
pub opened_made : (b table : List ℕ) (x y : List Float) (l : Left) → length x ≡ FIGURES → {n : ℕ} → n ≡ size_in b → n ≤ places → {scheme : ℕ} → scheme ≡ scheme_in b
    → {absolute state : List Float} → absolute ≡ vector_in n b absolute_from → state ≡ vector_in n b (state_from n)
    → {time relative : Float} → time ≡ time_in b → relative ≡ relative_in b
    → remains l y ≡ lent_open (eqb (length x) FIGURES && eqb (length absolute) places && eqb (length state) places) x (open_by_table (record {
      scheme = scheme;
      n = n;
      time = time;
      state = state;
      derivative = replicate places zero+;
      relative = relative;
      absolute = absolute;
      history = Missing;
      previous = replicate places zero+;
    }) table)
    → told_by l y ≡ open_by_table (run_in b) table
unfolding run_in
opened_made b table x y l long {n} size small scheme {absolute} {state} a s t r e =
    let la : length absolute ≡ places = ap length a ∙ length-vector_in n b absolute_from small in
    let ls : length state ≡ places = ap length s ∙ length-vector_in n b (state_from n) small in
    let small_in : size_in b ≤ places = rw (← size) small in
    opening_held (run_in b) table x small_in (length-vector_in (size_in b) b absolute_from small_in) (length-vector_in (size_in b) b (state_from (size_in b)) small_in) (length-replicate places zero+)
    (rw (eq-eqb (length x) FIGURES long, eq-eqb (length absolute) places la, eq-eqb (length state) places ls, a, s, t, r, scheme, size) at e)
