-- Packing and unpacking are each other's inverse: `Inverse` of specs/Image.antt. Assumes nothing.
use Rattle.std.proofs.Common.{ℕ, zero, suc, ◌≤◌, ◌<◌, arith, ◌≡◌, refl, sym, ap, ◌∙◌, List, lt-ltb, Float}
use Rattle.std.specs.Prelude.{Option, Some, None}
use Rattle.loops.specs.Loop.{tab, from}
use Rattle.session.specs.declared.Wish.TheVariants.{Given, Difference}
use Rattle.session.specs.declared.Wish.{Wish}
use Rattle.session.specs.declared.Session.{Session}
use Rattle.session.specs.declared.Head.{Head}
use Rattle.session.specs.declared.History.{History}
use Rattle.session.specs.declared.History.TheVariants.{Missing, Held}
use Rattle.session.specs.Claims.{Typed}
use Rattle.session.specs.Figures.{session_of, head_of}
use Rattle.session.proofs.Inverse.{spelt, session_back, figures_back}
use Rattle.image.specs.Image.{NUMBERS, scheme_of, history_of, attempt_of, history_number, attempt_number, head_in, unpacked, packed, packed_numbers, packed_figures, Holds, Inverse}

-- ---- numbers

scheme_kept : (x : ℕ) → x < 256 → scheme_of x ≡ x
unfolding scheme_of
scheme_kept x h = rw (lt-ltb _ _ h)

history_kept : (h : History) → history_of (history_number h) ≡ h
unfolding history_of
history_kept Missing = refl
history_kept Held = refl

attempt_kept : (a : Option Wish) → attempt_of (attempt_number a) ≡ a
unfolding attempt_of
attempt_kept None = refl
attempt_kept (Some Given) = refl
attempt_kept (Some Difference) = refl

history_back : (x : ℕ) → x ≤ 1 → history_number (history_of x) ≡ x
unfolding history_of
history_back zero h = refl
history_back (suc zero) h = refl
history_back (suc (suc x)) h = absurd (omega (arith, h))

attempt_back : (x : ℕ) → x ≤ 2 → attempt_number (attempt_of x) ≡ x
unfolding attempt_of
attempt_back zero h = refl
attempt_back (suc zero) h = refl
attempt_back (suc (suc zero)) h = refl
attempt_back (suc (suc (suc x))) h = absurd (omega (arith, h))

-- ---- a session, packed and unpacked

numbers_kept : (s : Session) → s.scheme < 256 → head_in (packed_numbers s) ≡ head_of s
unfolding head_in packed
numbers_kept s h = rw (scheme_kept s.scheme h, history_kept s.history, attempt_kept s.attempt)

unpack_pack_lem : (s : Session) → Typed s → unpacked (packed_numbers s) (packed_figures s) ≡ s
unpack_pack_lem s t =
    ap (λ (k : Head). session_of k (packed_figures s)) (numbers_kept s t.scheme)
    ∙ session_back s (record {
      absolute = t.absolute.places;
      state = t.state.places;
      derivative = t.derivative.places;
      previous = t.previous.places;
      jacobian = t.jacobian.places;
      answers = t.answers.places;
    })

numbers_back : (l : List ℕ) (f : List Float) → Holds l f → packed_numbers (unpacked l f) ≡ l
unfolding packed head_in session_of tab from
numbers_back l f h =
    rw (scheme_kept _ h.scheme, history_back _ h.history, attempt_back _ h.attempt) (sym (spelt 0 NUMBERS l h.numbers))

pub inverse : Inverse
inverse = record { unpack_pack = unpack_pack_lem; pack_unpack_numbers = numbers_back; pack_unpack_figures = λ l f h. figures_back (head_in l) f h.figures }
