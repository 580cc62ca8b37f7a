-- Numbers as bytes, the lowest first. Definitions only.
use Rattle.std.specs.Prelude.{ℕ, ◌≡◌, ◌+◌, ◌*◌, ◌/◌, ◌%◌, ◌<◌, Option, List, [], ◌∷◌, ◌++◌, Float, get_or, set, length, replicate}
use Rattle.std.specs.Float.{binary64}
use Rattle.std.specs.Float.Ieee.{of_bits, to_bits, nan}
use Rattle.std.specs.Io.KnownBytes.{Consumes}

-- the byte at place i
abbrev pub byte_at : List ℕ → ℕ → ℕ
byte_at b i = get_or b i 0

-- the 16-bit number that begins at place i
unfoldable pub word16 : List ℕ → ℕ → ℕ
word16 b i = byte_at b i + byte_at b (i + 1) * 0x100

-- the 32-bit number that begins at place i
unfoldable pub word32 : List ℕ → ℕ → ℕ
word32 b i = word16 b i + word16 b (i + 2) * 0x1_0000

-- the 64-bit number that begins at place i
unfoldable pub word64 : List ℕ → ℕ → ℕ
word64 b i = word32 b i + word32 b (i + 4) * 0x1_0000_0000

-- b with the four bytes of x from place i on
unfoldable pub put32 : List ℕ → ℕ → ℕ → List ℕ
put32 b i x = set (set (set (set b i (x % 0x100)) (i + 1) (x / 0x100 % 0x100)) (i + 2) (x / 0x1_0000 % 0x100)) (i + 3) (x / 0x100_0000 % 0x100)

-- b with the eight bytes of x from place i on
unfoldable pub put64 : List ℕ → ℕ → ℕ → List ℕ
put64 b i x = put32 (put32 b i (x % 0x1_0000_0000)) (i + 4) (x / 0x1_0000_0000)

-- room for n bytes
abbrev pub blank : ℕ → List ℕ
blank n = replicate n 0

-- a reader's known bytes lose the first n, of which `holds` is true
abbrev pub Takes : ℕ → (List ℕ → Type 0) → Option (List ℕ) → Option (List ℕ) → Type 0
Takes n holds old new = (b : List ℕ) × (length b ≡ n) × Consumes old new b × holds b

-- the doubles of x stand in b, one after another
abbrev pub HoldsDoubles : List Float → List ℕ → Type 0
HoldsDoubles x b = (k : ℕ) → k < length x → get_or x k nan ≡ of_bits binary64 (word64 b (8 * k))

-- the bytes of the doubles of x, one after another
abbrev pub doubles_bytes : List Float → List ℕ
doubles_bytes [] = []
doubles_bytes (x ∷ xs) = put64 (blank 8) 0 (to_bits binary64 x) ++ doubles_bytes xs
