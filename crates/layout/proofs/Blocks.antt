-- What the tests of version and sizes tell: a known version is a byte, sizes within range are within the limits, and a block whose sizes
-- are sound has at most ten rows.
use mathlib.Core.Path.{◌≡◌, refl, sym, ◌∙◌}
use mathlib.Core.Bool.{Bool, true, false, not, ◌&&◌, ◌||◌}
use mathlib.Core.List.{List}
use Prim.Native.Nat.{ℕ, ◌≤◌, ◌<◌}
use native.Mathlib.Omega.{arith}
use borrow.Author.Tests.{eqb-true, leb-true, not-false}
use lib.Dec.{eqb, leb}
use Rattle.layout.specs.Bytes.{at, word}
use Rattle.layout.specs.Flow.{known_version, most_tasks, most_workers, most_cells, in_range, up_to, WithinLimits}
use Rattle.layout.specs.Block.{blocks_for, rows_in, states, sizes_sound}
use Rattle.layout.proofs.Lists.{and_left, and_right}

-- one of two numbers that are bytes
pub version_byte : (version : ℕ) → known_version version ≡ true → version < 256
version_byte version h = go (eqb version 1) refl h
  where
    go : (first : Bool) → eqb version 1 ≡ first → (first || eqb version 2) ≡ true → version < 256
    go true e k = omega (arith, eqb-true version 1 e)
    go false e k = omega (arith, eqb-true version 2 k)

pub in_range_lem : (tasks workers cells : ℕ) → in_range tasks workers cells ≡ true → WithinLimits tasks workers cells
in_range_lem tasks workers cells h =
    let tw = and_left (up_to most_tasks tasks && up_to most_workers workers) (up_to most_cells cells) h in
    let t = and_left (up_to most_tasks tasks) (up_to most_workers workers) tw in
    let w = and_right (up_to most_tasks tasks) (up_to most_workers workers) tw in
    let c = and_right (up_to most_tasks tasks && up_to most_workers workers) (up_to most_cells cells) h in
    record {
      some_task = leb-true 1 tasks (and_left (leb 1 tasks) (leb tasks most_tasks) t);
      tasks_fit = leb-true tasks most_tasks (and_right (leb 1 tasks) (leb tasks most_tasks) t);
      some_worker = leb-true 1 workers (and_left (leb 1 workers) (leb workers most_workers) w);
      workers_fit = leb-true workers most_workers (and_right (leb 1 workers) (leb workers most_workers) w);
      some_cell = leb-true 1 cells (and_left (leb 1 cells) (leb cells most_cells) c);
      cells_fit = leb-true cells most_cells (and_right (leb 1 cells) (leb cells most_cells) c);
    }

-- where the test of the sizes held, the block has at most ten rows
pub few_rows : (blocks tasks workers cells index : ℕ) (block : List ℕ) (result : Bool)
    → result ≡ sizes_sound blocks tasks workers cells index block
    → not result ≡ false
    → at block 5 ≤ 10
few_rows blocks tasks workers cells index block result e h =
    let others : Bool = in_range (word block 10) (at block 12) (at block 13) && states tasks workers cells block && eqb blocks (blocks_for tasks) in
    let rows : at block 5 ≡ rows_in tasks index =
    eqb-true (at block 5) (rows_in tasks index) (and_right others (eqb (at block 5) (rows_in tasks index)) (sym e ∙ not-false result h)) in
    omega arith
