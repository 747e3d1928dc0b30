-- The code that a number stands for (01, "The file", the table of codes).
use Rattle.std.specs.Prelude.{cond, ℕ, eqb, Result, Ok, Err}
use Rattle.rows.specs.declared.UnknownCode.{UnknownCode}
use Rattle.rows.specs.declared.Code.{Code}
use Rattle.rows.specs.declared.Code.TheVariants.{Set, Copy, Add, Subtract, Swap, Larger}

-- another number than 1 to 6 stands for none
abbrev pub code_of : ℕ → Result Code UnknownCode
code_of number =
    cond (eqb number 1) (Ok Set)
    (cond (eqb number 2) (Ok Copy)
    (cond (eqb number 3) (Ok Add)
    (cond (eqb number 4) (Ok Subtract)
    (cond (eqb number 5) (Ok Swap)
    (cond (eqb number 6) (Ok Larger) (Err (record { number = number })))))))
