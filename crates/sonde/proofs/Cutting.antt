-- What is past the bytes that are kept of an input does not count: a table that goes so far is too long. Assumes nothing.
use Rattle.std.proofs.Common.{inl, inr, ℕ, ◌+◌, ◌*◌, ◌/◌, ◌%◌, ◌≤◌, ◌<◌, arith, ◌≡◌, refl, sym, ap, ◌∙◌}
use Rattle.std.proofs.Common.{Bool, true, false, cond, ◌&&◌, leb, eqb, List, [], ◌∷◌, length, take, drop, replicate, length-drop, length-take-le, take_all}
use Rattle.std.proofs.lemmas.Bool.{eqb-true, leb-true, le-leb}
use Rattle.std.proofs.lemmas.List.{get_or-take}
use Rattle.std.specs.Prelude.{Result, Ok, Err, ⊤, ◌⊎◌, None}
use Rattle.loops.specs.Loop.{every, fill}
use Rattle.loops.proofs.Bools.{both_true}
use Rattle.loops.proofs.Stores.{tab_ext}
use Rattle.float.specs.Arith.{zero+}
use Rattle.evaluation.specs.Sizes.{places}
use Rattle.matrix.specs.Vector.{vec}
use Rattle.wire.specs.Wire.{byte_at, word16, word32, word64}
use Rattle.session.specs.declared.Refusal.{Refusal}
use Rattle.session.specs.declared.Refusal.TheVariants as Why
use Rattle.session.specs.Tests.{tested, unless}
use Rattle.session.specs.Session.{Run, session_tests}
use Rattle.session.specs.Calls.{opened}
use Rattle.session.proofs.Laws.{session_fails}
use Rattle.table.specs.Table.{record_bytes, most_records, records, length_ok, record_ok, table_ok}
use Rattle.table.specs.Whole.{with_derivative, opening_tests, open_by_table}
use Rattle.table.proofs.Openings.{opening_eight}
use Rattle.sonde.specs.declared.input.TheConstants.{KEPT}
use Rattle.sonde.specs.Frames.{double_at, size_in, scheme_in, time_in, relative_in, absolute_from, state_from, table_from, vector_in, table_in, reaches_table, run_in, ends_by, course_of}
use Rattle.sonde.proofs.Courses.{unfit, opening-refused}

-- ---- what stands in the bytes that are kept

module _ (b : List ℕ) where
  byte_kept : (i : ℕ) → i < KEPT → byte_at (take KEPT b) i ≡ byte_at b i
  byte_kept i h = get_or-take KEPT b i 0 h

  word16_kept : (i : ℕ) → i + 2 ≤ KEPT → word16 (take KEPT b) i ≡ word16 b i
  unfolding word16
  word16_kept i h = rw (byte_kept i (omega (arith, h)), byte_kept (i + 1) (omega (arith, h)))

  word32_kept : (i : ℕ) → i + 4 ≤ KEPT → word32 (take KEPT b) i ≡ word32 b i
  unfolding word32
  word32_kept i h = rw (word16_kept i (omega (arith, h)), word16_kept (i + 2) (omega (arith, h)))

  double_kept : (i : ℕ) → i + 8 ≤ KEPT → double_at (take KEPT b) i ≡ double_at b i
  unfolding word64
  double_kept i h = rw (word32_kept i (omega (arith, h)), word32_kept (i + 4) (omega (arith, h)))

  size_kept : size_in (take KEPT b) ≡ size_in b
  unfolding size_in
  size_kept = byte_kept 0 (omega arith)

  vector_kept : (n from : ℕ) → from + 8 * n ≤ KEPT → vector_in n (take KEPT b) from ≡ vector_in n b from
  unfolding vector_in vec fill
  vector_kept n from h = rw (tab_ext n (λ i. double_at (take KEPT b) (from + 8 * i)) (λ i. double_at b (from + 8 * i)) (λ i l. double_kept (from + 8 * i) (omega (arith, h, l))))

  run_kept : size_in b ≤ places → run_in (take KEPT b) ≡ run_in b
  unfolding run_in scheme_in time_in relative_in
  run_kept small =
      let n = size_in b in
      let absolute = vector_kept n absolute_from (omega (arith, small)) in
      let state = vector_kept n (state_from n) (omega (arith, small)) in
      rw (size_kept, byte_kept 1 (omega arith), double_kept 4 (omega arith), double_kept 20 (omega arith), absolute, state)

-- ---- a table that is too long

too_long : (n : ℕ) (t : List ℕ) → record_bytes * most_records < length t → table_ok n t ≡ false
unfolding table_ok length_ok records
too_long n t long = go (eqb (length t % record_bytes) 0 && leb (length t / record_bytes) most_records) refl
  where
    go : (ok : Bool) → (eqb (length t % record_bytes) 0 && leb (length t / record_bytes) most_records) ≡ ok → cond ok (every (length t / record_bytes) (record_ok n t)) false ≡ false
    go true e =
        let both = both_true (eqb (length t % record_bytes) 0) (leb (length t / record_bytes) most_records) e in
        absurd (omega (arith, eqb-true (length t % record_bytes) 0 both.0, leb-true (length t / record_bytes) most_records both.1, long))
    go false e = refl

-- what a run with such a table is refused by, whatever else the table says
so_refused : (r : Run) → (why : Refusal) × ((t : List ℕ) → table_ok r.n t ≡ false → (open_by_table r t).answer ≡ Err why)
unfolding open_by_table unless
so_refused r = go (tested (session_tests None (opened still))) refl
  where
    still : Run
    still = with_derivative r (replicate places zero+)

    refused_by : (t : List ℕ) (why : Refusal) → tested (opening_tests r t) ≡ Err why → (open_by_table r t).answer ≡ Err why
    refused_by t why e = rw e

    go : (k : Result ⊤ Refusal) → tested (session_tests None (opened still)) ≡ k → (why : Refusal) × ((t : List ℕ) → table_ok r.n t ≡ false → (open_by_table r t).answer ≡ Err why)
    go (Ok tt) e = (Why.Table, λ t bad. refused_by t Why.Table (opening_eight r t e bad))
    go (Err why) e = (why, λ t bad. refused_by t why (unfold opening_tests in sym (session_fails None (opened still) ((table_ok r.n t, Why.Table) ∷ []) refl e)))

-- ---- the run of the bytes that are kept

module _ (b : List ℕ) (long : KEPT < length b) where
  length_kept : length (take KEPT b) ≡ KEPT
  length_kept = length-take-le KEPT b (omega (arith, long))

  reaches : (c : List ℕ) → size_in c ≤ places → KEPT ≤ length c → reaches_table c ≡ true
  unfolding reaches_table
  reaches c small h = le-leb (table_from (size_in c)) (length c) (omega (arith, small, h))

  too_long_in : (c : List ℕ) → size_in c ≤ places → KEPT ≤ length c → table_ok (size_in c) (table_in c) ≡ false
  unfolding table_in
  too_long_in c small h = too_long (size_in c) (drop (table_from (size_in c)) c) (omega (arith, length-drop (table_from (size_in c)) c, small, h))

  refused_in : (c : List ℕ) (why : Refusal) → size_in c ≤ places → KEPT ≤ length c → run_in c ≡ run_in b
      → ((t : List ℕ) → table_ok (run_in b).n t ≡ false → (open_by_table (run_in b) t).answer ≡ Err why) → course_of c ≡ ends_by why
  refused_in c why small h same refused =
      let bad : table_ok (run_in b).n (table_in c) ≡ false = rw (← same) (unfold run_in in too_long_in c small h) in
      opening-refused c (reaches c small h) refl why (rw same (refused (table_in c) bad))

  past_kept : course_of (take KEPT b) ≡ course_of b
  past_kept = go (few_or_many (size_in b))
    where
      few_or_many : (n : ℕ) → (n ≤ places) ⊎ (places < n)
      few_or_many n = grind arith

      go : (size_in b ≤ places) ⊎ (places < size_in b) → course_of (take KEPT b) ≡ course_of b
      go (inr many) = unfit (take KEPT b) (inr (rw size_kept many)) ∙ sym (unfit b (inr many))
      go (inl small) =
          let refused = so_refused (run_in b) in
          let kept = length_kept in
          refused_in (take KEPT b) refused.0 (rw size_kept small) (omega arith) (run_kept b small) refused.1
          ∙ sym (refused_in b refused.0 small (omega (arith, long)) refl refused.1)

pub as_kept : (b : List ℕ) → course_of (take KEPT b) ≡ course_of b
as_kept b = go (long_or_not (length b))
  where
    long_or_not : (n : ℕ) → (n ≤ KEPT) ⊎ (KEPT < n)
    long_or_not n = grind arith

    go : (length b ≤ KEPT) ⊎ (KEPT < length b) → course_of (take KEPT b) ≡ course_of b
    go (inl short) = ap course_of (take_all KEPT b short)
    go (inr long) = past_kept b long
