-- The bytes that std gives a number are those of `put32` and `put64`; a number within bytes. Assumes nothing.
use Rattle.std.proofs.Common.{ℕ, ◌≡◌, ◌+◌, ◌/◌, ◌%◌, ◌≤◌, ◌<◌, refl, ◌∙◌, List, take, drop, arith}
use Rattle.std.proofs.lemmas.List.{get_or-take, get_or-drop}
use Rattle.std.specs.Int.{w32, w64, to_le_bytes}
use Rattle.wire.specs.Wire.{byte_at, word16, word32, word64, blank, put32, put64}

pub bytes_of_u32 : (x : ℕ) → to_le_bytes w32 x ≡ put32 (blank 4) 0 x
unfolding put32
bytes_of_u32 x = refl

pub bytes_of_u64 : (x : ℕ) → to_le_bytes w64 x ≡ put64 (blank 8) 0 x
unfolding put32 put64
bytes_of_u64 x =
    let a : x % 4294967296 % 256 ≡ x % 256 = omega arith in
    let b : x % 4294967296 / 256 % 256 ≡ x / 256 % 256 = omega arith in
    let c : x % 4294967296 / 65536 % 256 ≡ x / 65536 % 256 = omega arith in
    let d : x % 4294967296 / 16777216 % 256 ≡ x / 16777216 % 256 = omega arith in
    let e : x / 4294967296 / 256 % 256 ≡ x / 1099511627776 % 256 = omega arith in
    let f : x / 4294967296 / 65536 % 256 ≡ x / 281474976710656 % 256 = omega arith in
    let g : x / 4294967296 / 16777216 % 256 ≡ x / 72057594037927936 % 256 = omega arith in
    cc

-- a number that begins at place i is the one that begins the bytes from there on
byte_from : (b : List ℕ) (i n k : ℕ) → k < n → byte_at (take n (drop i b)) k ≡ byte_at b (i + k)
byte_from b i n k h = get_or-take n (drop i b) k 0 h ∙ get_or-drop i b k 0

pub word16_from : (b : List ℕ) (i n : ℕ) → 2 ≤ n → word16 (take n (drop i b)) 0 ≡ word16 b i
unfolding word16
word16_from b i n h =
    let m0 : i + 0 ≡ i = omega arith in
    rw (byte_from b i n 0 (omega (arith, h)), byte_from b i n 1 (omega (arith, h)), m0)

pub word64_from : (b : List ℕ) (i n : ℕ) → 8 ≤ n → word64 (take n (drop i b)) 0 ≡ word64 b i
unfolding word64 word32 word16
word64_from b i n h =
    let m0 : i + 0 ≡ i = omega arith in
    let m3 : i + 3 ≡ i + 2 + 1 = omega arith in
    let m5 : i + 5 ≡ i + 4 + 1 = omega arith in
    let m6 : i + 6 ≡ i + 4 + 2 = omega arith in
    let m7 : i + 7 ≡ i + 4 + 2 + 1 = omega arith in
    rw (
      byte_from b i n 0 (omega (arith, h)),
      byte_from b i n 1 (omega (arith, h)),
      byte_from b i n 2 (omega (arith, h)),
      byte_from b i n 3 (omega (arith, h)),
      byte_from b i n 4 (omega (arith, h)),
      byte_from b i n 5 (omega (arith, h)),
      byte_from b i n 6 (omega (arith, h)),
      byte_from b i n 7 (omega (arith, h)),
      m0,
      m3,
      m5,
      m6,
      m7,
    )
