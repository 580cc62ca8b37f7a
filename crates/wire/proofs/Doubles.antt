-- Doubles that stand one after another, one more read or written. Assumes nothing.
use Rattle.std.proofs.Common.{ℕ, ◌≡◌, ◌+◌, ◌*◌, ◌<◌, ◌≤◌, ◌∙◌, arith, ap, refl, sym, below_more, append_assoc, append-nil, take, drop, Option, List, [], ◌∷◌, ◌++◌, length, get_or, set}
use borrow.Rule.Slice.PartMut.{put_mid}
use Rattle.std.proofs.Math.ListN.{get_or-append, length-append}
use Rattle.std.proofs.lemmas.List.{take_more, take_at, drop_at, drop-drop, length-take-le, get_or-append-add, get_or-set_same, get_or-set_other}
use Rattle.std.proofs.KnownBytes.{Consumes-trans}
use Rattle.std.specs.Float.{binary64}
use Rattle.std.specs.Float.Ieee.{Float, of_bits, to_bits, nan}
use Rattle.wire.specs.Wire.{word16, word32, word64, Takes, blank, put32, put64, doubles_bytes}

byte_behind : (b c : List ℕ) (i n : ℕ) → i ≡ length b + n → get_or (b ++ c) i 0 ≡ get_or c n 0
byte_behind b c i n e = rw e (get_or-append-add b c n 0)

-- a number that stands in b stands there too where c comes behind b
word64_before : (b c : List ℕ) (i : ℕ) → i + 8 ≤ length b → word64 (b ++ c) i ≡ word64 b i
unfolding word16 word32 word64
word64_before b c i h =
    let at = λ (j : ℕ) (l : j < length b). get_or-append b c 0 j l in
    let e0 : get_or (b ++ c) i 0 ≡ get_or b i 0 = at i (omega arith) in
    let e1 : get_or (b ++ c) (i + 1) 0 ≡ get_or b (i + 1) 0 = at (i + 1) (omega arith) in
    let e2 : get_or (b ++ c) (i + 2) 0 ≡ get_or b (i + 2) 0 = at (i + 2) (omega arith) in
    let e3 : get_or (b ++ c) (i + 2 + 1) 0 ≡ get_or b (i + 2 + 1) 0 = at (i + 2 + 1) (omega arith) in
    let e4 : get_or (b ++ c) (i + 4) 0 ≡ get_or b (i + 4) 0 = at (i + 4) (omega arith) in
    let e5 : get_or (b ++ c) (i + 4 + 1) 0 ≡ get_or b (i + 4 + 1) 0 = at (i + 4 + 1) (omega arith) in
    let e6 : get_or (b ++ c) (i + 4 + 2) 0 ≡ get_or b (i + 4 + 2) 0 = at (i + 4 + 2) (omega arith) in
    let e7 : get_or (b ++ c) (i + 4 + 2 + 1) 0 ≡ get_or b (i + 4 + 2 + 1) 0 = at (i + 4 + 2 + 1) (omega arith) in
    rw (e0, e1, e2, e3, e4, e5, e6, e7)

-- the number that c begins with
word64_behind : (b c : List ℕ) (i : ℕ) → i ≡ length b → word64 (b ++ c) i ≡ word64 c 0
unfolding word16 word32 word64
word64_behind b c i h =
    let at = byte_behind b c in
    let e0 : get_or (b ++ c) i 0 ≡ get_or c 0 0 = at i 0 (omega arith) in
    let e1 : get_or (b ++ c) (i + 1) 0 ≡ get_or c 1 0 = at (i + 1) 1 (omega arith) in
    let e2 : get_or (b ++ c) (i + 2) 0 ≡ get_or c 2 0 = at (i + 2) 2 (omega arith) in
    let e3 : get_or (b ++ c) (i + 2 + 1) 0 ≡ get_or c 3 0 = at (i + 2 + 1) 3 (omega arith) in
    let e4 : get_or (b ++ c) (i + 4) 0 ≡ get_or c 4 0 = at (i + 4) 4 (omega arith) in
    let e5 : get_or (b ++ c) (i + 4 + 1) 0 ≡ get_or c 5 0 = at (i + 4 + 1) 5 (omega arith) in
    let e6 : get_or (b ++ c) (i + 4 + 2) 0 ≡ get_or c 6 0 = at (i + 4 + 2) 6 (omega arith) in
    let e7 : get_or (b ++ c) (i + 4 + 2 + 1) 0 ≡ get_or c 7 0 = at (i + 4 + 2 + 1) 7 (omega arith) in
    rw (e0, e1, e2, e3, e4, e5, e6, e7)

-- the first i doubles of x stand in b
abbrev pub HoldsFirst : ℕ → List Float → List ℕ → Type 0
HoldsFirst i x b = (k : ℕ) → k < i → get_or x k nan ≡ of_bits binary64 (word64 b (8 * k))

-- one double more
pub holds_more : (i : ℕ) (x : List Float) (y : Float) (b c : List ℕ) → i < length x → length b ≡ 8 * i → HoldsFirst i x b → y ≡ of_bits binary64 (word64 c 0)
    → HoldsFirst (i + 1) (set x i y) (b ++ c)
holds_more i x y b c within long held last =
    below_more (λ k. get_or (set x i y) k nan ≡ of_bits binary64 (word64 (b ++ c) (8 * k))) i
    (λ k less. get_or-set_other x i k y nan (λ e. omega (arith, e, less)) ∙ held k less ∙ ap (of_bits binary64) (sym (word64_before b c (8 * k) (omega arith))))
    (get_or-set_same x i y nan within ∙ last ∙ ap (of_bits binary64) (sym (word64_behind b c (8 * i) (sym long))))

pub takes_more : (i : ℕ) (x : List Float) (y : Float) (first now then : Option (List ℕ)) → i < length x
    → Takes (8 * i) (HoldsFirst i x) first now → Takes 8 (λ c. y ≡ of_bits binary64 (word64 c 0)) now then
    → Takes (8 * (i + 1)) (HoldsFirst (i + 1) (set x i y)) first then
takes_more i x y first now then within (b, long, lost, held) (c, eight, next, last) =
    (b ++ c, simp length-append (omega arith), Consumes-trans first now then b c lost next, holds_more i x y b c within long held last)

-- the bytes of one double more
pub bytes_more : (x : List Float) (i : ℕ) (d : Float) → i < length x
    → doubles_bytes (take (i + 1) x) ≡ doubles_bytes (take i x) ++ put64 (blank 8) 0 (to_bits binary64 (get_or x i d))
bytes_more x i d within = rw (take_more x i d within) (go (take i x) (get_or x i d))
  where
    go : (x : List Float) (y : Float) → doubles_bytes (x ++ y ∷ []) ≡ doubles_bytes x ++ put64 (blank 8) 0 (to_bits binary64 y)
    go [] y = append-nil _
    go (x ∷ xs) y = rw (go xs y) (sym (append_assoc (put64 (blank 8) 0 (to_bits binary64 x)) (doubles_bytes xs) (put64 (blank 8) 0 (to_bits binary64 y))))

-- eight bytes for each double
doubles_long : (x : List Float) → length (doubles_bytes x) ≡ 8 * length x
unfolding put32 put64
doubles_long [] = refl
doubles_long (x ∷ xs) = length-append (put64 (blank 8) 0 (to_bits binary64 x)) (doubles_bytes xs) ∙ rw (doubles_long xs) (omega arith)

-- one double more in its place, and what stands behind it is as it was
pub doubles_set : (x : List Float) (i m : ℕ) (b from y : List ℕ) → m ≡ 8 → i < length x → b ≡ doubles_bytes (take i x) ++ drop (8 * i) from
    → y ≡ put64 (blank 8) 0 (to_bits binary64 (get_or x i nan)) → put_mid (8 * i) m b y ≡ doubles_bytes (take (i + 1) x) ++ drop (8 * (i + 1)) from
doubles_set x i m b from y eight within e f =
    let p = doubles_bytes (take i x) in
    let long : length p ≡ 8 * i = doubles_long (take i x) ∙ ap (λ n. 8 * n) (length-take-le i x (omega arith)) in
    let front : take (8 * i) b ≡ p = ap (take (8 * i)) e ∙ take_at p (drop (8 * i) from) (8 * i) long in
    let back : drop (8 * i) b ≡ drop (8 * i) from = ap (drop (8 * i)) e ∙ drop_at p (drop (8 * i) from) (8 * i) long in
    let rest : drop m (drop (8 * i) from) ≡ drop (8 * (i + 1)) from = drop-drop m (8 * i) from ∙ ap (λ n. drop n from) (omega arith) in
    rw (front, back, rest, f, bytes_more x i nan within) (sym (append_assoc p (put64 (blank 8) 0 (to_bits binary64 (get_or x i nan))) (drop (8 * (i + 1)) from)))
