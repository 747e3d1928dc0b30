-- Bytes, as lists of numbers: one byte, a two-byte number, a part, bytes that are all zero (01, "The file").
use Rattle.std.specs.Prelude.{Bool, true, ◌&&◌, List, [], ◌∷◌, ◌++◌, ℕ, ◌+◌, ◌-◌, ◌*◌, ◌/◌, ◌%◌, ◌<◌, length, get_or, take, drop, replicate, eqb}

-- what a slice of bytes holds: each number is below 256
unfoldable pub IsBytes : List ℕ → Type 0
IsBytes bytes = (i : ℕ) → get_or bytes i 0 < 256

-- the byte at an index
abbrev pub at : List ℕ → ℕ → ℕ
at bytes i = get_or bytes i 0

-- "Two-byte numbers are low byte first": the number that stands at an index
abbrev pub word : List ℕ → ℕ → ℕ
word bytes i = at bytes i + 256 * at bytes (i + 1)

-- a two-byte number is below this
abbrev pub word_size : ℕ
word_size = 256 * 256

-- a number's two bytes
abbrev pub word_bytes : ℕ → List ℕ
word_bytes n = n % 256 ∷ n / 256 ∷ []

-- the bytes from one index up to, not including, another
abbrev pub part : ℕ → ℕ → List ℕ → List ℕ
part from to bytes = take (to - from) (drop from bytes)

-- whether all bytes are zero
unfoldable pub all_zero : List ℕ → Bool
all_zero [] = true
all_zero (byte ∷ bytes) = eqb byte 0 && all_zero bytes

-- bytes, and zeros after them up to a size
unfoldable pub padded : ℕ → List ℕ → List ℕ
padded size bytes = bytes ++ replicate (size - length bytes) 0
