-- What each of the six operations does in a flow of a version (01, "The file", the table of codes; 02, Q-8).
use Rattle.std.specs.Prelude.{cond, List, ℕ, ◌+◌, ◌-◌, ◌*◌, ◌/◌, ◌%◌, ◌^◌, max, get_or, set, eqb}
use Rattle.layout.specs.Bytes.{word_size}
use Rattle.layout.specs.Flow.{Operation}

-- "A cell holds 32 unsigned bits"
abbrev pub cell_size : ℕ
cell_size = 2 ^ 32

-- "exchanges the two bytes of the low half": what the low half becomes, and what the high half of a number counts for
abbrev pub exchanged : ℕ → ℕ
exchanged b = b % 256 * 256 + b / 256 % 256

abbrev pub high_half : ℕ → ℕ
high_half b = b / word_size * word_size

-- "In a version 2 flow, operation 5 .. keeps the high half of b; in version 1 it clears it"
abbrev pub swapped : ℕ → ℕ → ℕ
swapped version b = cond (eqb version 2) (high_half b) 0 + exchanged b

-- the value that cell a becomes in a flow of a version, by the code, out of k and of the values of a and b (no flow with another code is
-- accepted)
unfoldable pub becomes : ℕ → ℕ → ℕ → ℕ → ℕ → ℕ
becomes version code k a b =
    cond (eqb code 1) k
    (cond (eqb code 2) b
    (cond (eqb code 3) ((a + b) % cell_size)
    (cond (eqb code 4) ((a + (cell_size - b)) % cell_size)
    (cond (eqb code 5) (swapped version b)
    (cond (eqb code 6) (max a b) 0)))))

-- what an operation does is handed to the runs as such a function: the new value of a, out of the values of a and b
abbrev pub Effect : Type 0
Effect = Operation → ℕ → ℕ → ℕ

-- the effect of 01's and 02's operations in a flow of a version
abbrev pub effect : ℕ → Effect
effect version o a b = becomes version o.code o.k a b

-- the cells after an operation
abbrev pub operated : Effect → Operation → List ℕ → List ℕ
operated does o cells = set cells o.a (does o (get_or cells o.a 0) (get_or cells o.b 0))
