-- Each contract for C allows one outcome for given inputs: it says what is returned, what the words are and what the lent memory holds, and two
-- things that are equal to a third are equal.
use mathlib.Core.Path.{◌≡◌, sym, ◌∙◌}
use mathlib.Core.List.{List}
use Prim.Native.Nat.{ℕ}
use Rattle.sflw.specs.Words.{Checked, Read, Written, Plain, Ran}

pub check_unique : (file : List ℕ) (r s : ℕ) (r_words s_words : List ℕ) → Checked file r r_words → Checked file s s_words → (r ≡ s) × (r_words ≡ s_words)
check_unique file r s r_words s_words p q = (p.number_is ∙ sym q.number_is, p.words_are ∙ sym q.words_are)

pub read_unique : (file rows : List ℕ) (r s : ℕ) (r_after r_words s_after s_words : List ℕ) → Read file rows r r_after r_words
    → Read file rows s s_after s_words
    → (r ≡ s) × (r_after ≡ s_after) × (r_words ≡ s_words)
read_unique file rows r s r_after r_words s_after s_words p q =
    (p.number_is ∙ sym q.number_is, p.lent ∙ sym q.lent, p.words_are ∙ sym q.words_are)

pub write_unique : (rows : List ℕ) (version workers cells : ℕ) (out : List ℕ) (r s : ℕ) (r_after r_words s_after s_words : List ℕ)
    → Written rows version workers cells out r r_after r_words
    → Written rows version workers cells out s s_after s_words
    → (r ≡ s) × (r_after ≡ s_after) × (r_words ≡ s_words)
write_unique rows version workers cells out r s r_after r_words s_after s_words p q =
    (p.number_is ∙ sym q.number_is, p.lent ∙ sym q.lent, p.words_are ∙ sym q.words_are)

pub plain_unique : (file cells : List ℕ) (r s : ℕ) (r_after r_words s_after s_words : List ℕ) → Plain file cells r r_after r_words
    → Plain file cells s s_after s_words
    → (r ≡ s) × (r_after ≡ s_after) × (r_words ≡ s_words)
plain_unique file cells r s r_after r_words s_after s_words p q =
    (p.number_is ∙ sym q.number_is, p.cells_after ∙ sym q.cells_after, p.words_are ∙ sym q.words_are)

pub run_unique : (file cells schedule : List ℕ) (r s : ℕ) (r_after r_words s_after s_words : List ℕ) → Ran file cells schedule r r_after r_words
    → Ran file cells schedule s s_after s_words
    → (r ≡ s) × (r_after ≡ s_after) × (r_words ≡ s_words)
run_unique file cells schedule r s r_after r_words s_after s_words p q =
    (p.number_is ∙ sym q.number_is, p.cells_after ∙ sym q.cells_after, p.words_are ∙ sym q.words_are)
