-- What is left to ask of a row that keeps the rules 6 to 11 and 18: rule 17, which the table that the operations leave answers.
use Rattle.std.proofs.Common.{◌≡◌, ℕ, ◌≤◌, Bool, true, cond, List, sym, ap, ◌∙◌}
use Rattle.layout.specs.Flow.{most_cells}
use Rattle.layout.specs.Refusal.{first_broken}
use Rattle.layout.specs.Row.{task_of, owner_sound, counts_sound, accesses_sound, named_once, operations_sound, retirement_kept, modes_sound, writes_made, row_refusal}
use Rattle.layout.proofs.Modes.{accesses_more}
use Rattle.modes.specs.Table.{table_left, none_owed}
use Rattle.modes.proofs.Owed.{owed_same}

module _ (retired : Bool) (workers cells : ℕ) (row : List ℕ) (owner : owner_sound workers row ≡ true) (counts : counts_sound row ≡ true)
    (accesses : accesses_sound cells row ≡ true)
    (once : named_once (task_of row).accesses ≡ true)
    (operations : operations_sound cells row ≡ true)
    (retirement : retirement_kept retired (task_of row) ≡ true)
    (modes : modes_sound (task_of row) ≡ true) where
  -- past the other rules a row's refusal is that of rule 17
  pub only_17 : row_refusal retired workers cells row ≡ cond (writes_made (task_of row)) 0 17
  unfolding row_refusal first_broken
  only_17 = rw (owner, counts, accesses, once, operations, retirement, modes)

  -- and rule 17 is kept where the table that the operations leave owes no write
  pub last-rule : cells ≤ most_cells → row_refusal retired workers cells row ≡ cond (none_owed (table_left (task_of row))) 0 17
  last-rule few =
      let within = accesses_more cells most_cells row few accesses in
      only_17 ∙ ap (λ (kept : Bool). cond kept 0 17) (sym (owed_same (task_of row) within once modes))
