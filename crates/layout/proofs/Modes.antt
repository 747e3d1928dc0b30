-- Laws of a row's accesses and operations: what rules 7, 8 and 10 tell of its bytes, what rules 9 and 11 say of the accesses
-- or operations from some index on, and what rule 17 says of a cell.
use mathlib.Core.Path.{◌≡◌, refl, sym, ap, ◌∙◌}
use mathlib.Core.Bool.{Bool, true, false, not, cond, ◌&&◌, ◌||◌}
use mathlib.Core.List.{List, [], ◌∷◌}
use Prim.Native.Nat.{ℕ, zero, suc, ◌+◌, ◌-◌, ◌*◌, ◌≤◌, ◌<◌}
use native.Mathlib.Nat.{lt_of_lt_of_le}
use native.Mathlib.Omega.{arith}
use native.Mathlib.Numerals.{add-one}
use borrow.Author.Tests.{eqb-true, ltb-true, lt-ltb, leb-true, ne_eqb}
use lib.ListN.{length, drop, drop_of_length-le}
use lib.Seq.{drop-cons}
use lib.Dec.{eqb, leb, ltb}
use Rattle.layout.specs.Lists.{each, all, any}
use Rattle.layout.specs.Bytes.{at, part, all_zero}
use Rattle.layout.specs.Flow.{Access, Operation, most_accesses, most_operations, up_to}
use Rattle.layout.specs.Row.{access_at, operation_at, spare_at, task_of, counts_sound, access_in_range, accesses_sound, mode_of, names, named_once, zeros_kept, operation_sound, operations_sound, keeps_modes, all_keep_modes, write_made}
use Rattle.layout.proofs.Lists.{and-false, and_left, and_right, and_both, each-length, each_at, all_keeps}

-- ---- a list from some index on

module _ {A : Type 0} where
  pub each-drop : (n : ℕ) (f : ℕ → A) (i : ℕ) → i < n → drop i (each n f) ≡ f i ∷ drop (i + 1) (each n f)
  each-drop n f i h =
      let l : i < length (each n f) = omega (arith, each-length n f) in
      drop-cons (each n f) i (f i) l ∙ ap (λ (x : A). x ∷ drop (suc i) (each n f)) (each_at n f i (f i) h)
      ∙ ap (λ (k : ℕ). f i ∷ drop k (each n f)) (sym (add-one i))

  -- the same, from the end towards the front
  pub each-drop_less : (n : ℕ) (f : ℕ → A) (j : ℕ) → 0 < j → j ≤ n → drop (j - 1) (each n f) ≡ f (j - 1) ∷ drop j (each n f)
  each-drop_less n f j h l =
      let again : j - 1 + 1 ≡ j = omega arith in
      rw again at (each-drop n f (j - 1) (omega arith))

  pub each-drop-all : (n : ℕ) (f : ℕ → A) (i : ℕ) → n ≤ i → drop i (each n f) ≡ []
  each-drop-all n f i h = drop_of_length-le (each n f) {i = i} (omega (arith, each-length n f))

  pub all_drop : (p : A → Bool) (i : ℕ) (xs : List A) → all p xs ≡ true → all p (drop i xs) ≡ true
  unfolding all
  all_drop p zero xs t = t
  all_drop p (suc i) [] t = refl
  all_drop p (suc i) (x ∷ xs) t = all_drop p i xs (and_right (p x) (all p xs) t)

  -- a loop that has passed every member
  pub all_whole : (p : A → Bool) (n : ℕ) (f : ℕ → A) (i : ℕ) → i ≤ n → n ≤ i → all p (each i f) ≡ true → all p (each n f) ≡ true
  all_whole p n f i h l t =
      let whole : i ≡ n = omega arith in
      rw whole at t

  -- a weaker test
  pub all_weaker : (p q : A → Bool) → ((x : A) → p x ≡ true → q x ≡ true) → (xs : List A) → all p xs ≡ true → all q xs ≡ true
  unfolding all
  all_weaker p q h [] t = refl
  all_weaker p q h (x ∷ xs) t =
      and_both (q x) (all q xs) (h x (and_left (p x) (all p xs) t)) (all_weaker p q h xs (and_right (p x) (all p xs) t))

-- ---- what the rules tell of a row's bytes

-- 7: at most four accesses and six operations
pub counts_kept : (row : List ℕ) → counts_sound row ≡ true → (at row 1 ≤ most_accesses) × (at row 2 ≤ most_operations)
counts_kept row h =
    let both = and_left (up_to most_accesses (at row 1) && leb (at row 2) most_operations) (eqb (at row 3) 0) h in
    let first = and_left (up_to most_accesses (at row 1)) (leb (at row 2) most_operations) both in (
      leb-true (at row 1) most_accesses (and_right (leb 1 (at row 1)) (leb (at row 1) most_accesses) first),
      leb-true (at row 2) most_operations (and_right (up_to most_accesses (at row 1)) (leb (at row 2) most_operations) both),
    )

ltb_more : (n cells more : ℕ) → cells ≤ more → ltb n cells ≡ true → ltb n more ≡ true
ltb_more n cells more h t = lt-ltb n more (lt_of_lt_of_le (ltb-true n cells t) h)

-- both of two tests, each of which is a weaker one
and_weaker : {x x' y y' : Bool} → (x ≡ true → x' ≡ true) → (y ≡ true → y' ≡ true) → (x && y) ≡ true → (x' && y') ≡ true
and_weaker {x} {x'} {y} {y'} p q t = and_both x' y' (p (and_left x y t)) (q (and_right x y t))

-- a test as it is
same : (x : Bool) → x ≡ true → x ≡ true
same x t = t

-- 8: each used access names a cell
pub access_cell : (cells : ℕ) (row : List ℕ) (j : ℕ) → all (access_in_range cells) (task_of row).accesses ≡ true → j < at row 1
    → at row (4 + 2 * j) < cells
unfolding task_of
access_cell cells row j t h =
    ltb-true (at row (4 + 2 * j)) cells
    (and_left (ltb (at row (4 + 2 * j)) cells) (up_to 3 (at row (5 + 2 * j)))
    (all_keeps (access_in_range cells) (at row 1) (access_at row) j h t))

-- and a mode
pub access_mode : (cells : ℕ) (x : Access) → access_in_range cells x ≡ true → (1 ≤ x.mode) × (x.mode ≤ 3)
access_mode cells x t =
    let within = and_right (ltb x.cell cells) (up_to 3 x.mode) t in
    (leb-true 1 x.mode (and_left (leb 1 x.mode) (leb x.mode 3) within), leb-true x.mode 3 (and_right (leb 1 x.mode) (leb x.mode 3) within))

-- and so it does where there are more cells
pub accesses_more : (cells more : ℕ) (row : List ℕ) → cells ≤ more → accesses_sound cells row ≡ true
    → all (access_in_range more) (task_of row).accesses ≡ true
unfolding accesses_sound
accesses_more cells more row h t =
    all_weaker (access_in_range cells) (access_in_range more) (λ x. and_weaker (ltb_more x.cell cells more h) (same (up_to 3 x.mode)))
    (task_of row).accesses
    (and_left (all (access_in_range cells) (task_of row).accesses) (all_zero (part (4 + 2 * at row 1) 12 row)) t)

-- 10: each used operation has a and b among the cells
pub operation_cells : (cells : ℕ) (row : List ℕ) (i : ℕ) → operations_sound cells row ≡ true → i < at row 2
    → (at row (13 + 6 * i) < cells) × (at row (14 + 6 * i) < cells)
unfolding operations_sound
operation_cells cells row i t h =
    let used = and_left (all (operation_sound cells row) (each (at row 2) (λ i. i))) (all_zero (part (12 + 6 * at row 2) 48 row)) t in
    let sound : operation_sound cells row i ≡ true = all_keeps (operation_sound cells row) (at row 2) (λ i. i) i h used in
    let both = and_left _ (zeros_kept (operation_at row i)) (and_left _ (eqb (spare_at row i) 0) sound) in
    let known = up_to 6 (at row (12 + 6 * i)) in
    let a = ltb (at row (13 + 6 * i)) cells in
    let b = ltb (at row (14 + 6 * i)) cells in
    (ltb-true _ _ (and_right known a (and_left (known && a) b both)), ltb-true _ _ (and_right (known && a) b both))

-- and so it has where there are more cells
pub operations_more : (cells more : ℕ) (row : List ℕ) → cells ≤ more → operations_sound cells row ≡ true → operations_sound more row ≡ true
unfolding operations_sound
operations_more cells more row h =
    and_weaker
    (all_weaker (operation_sound cells row) (operation_sound more row)
    (λ i.
    and_weaker
    (and_weaker (and_weaker (and_weaker (same (up_to 6 (at row (12 + 6 * i)))) (ltb_more (at row (13 + 6 * i)) cells more h)) (ltb_more (at row (14 + 6 * i)) cells more h))
    (same (zeros_kept (operation_at row i))))
    (same (eqb (spare_at row i) 0)))
    (each (at row 2) (λ i. i)))
    (same (all_zero (part (12 + 6 * at row 2) 48 row)))

-- ---- rule 9, from some access on

-- a cell is among those named where its mode isn't 0
pub names_mode : (cells : ℕ) (xs : List Access) (cell : ℕ) → all (access_in_range cells) xs ≡ true
    → names xs cell ≡ not (eqb (mode_of xs cell) 0)
unfolding names any mode_of all
names_mode cells [] cell t = refl
names_mode cells (x ∷ xs) cell t =
    go (eqb x.cell cell) (names_mode cells xs cell (and_right (access_in_range cells x) (all (access_in_range cells) xs) t))
  where
    moded : 1 ≤ x.mode
    moded = (access_mode cells x (and_left (access_in_range cells x) (all (access_in_range cells) xs) t)).0

    go : (here : Bool) → names xs cell ≡ not (eqb (mode_of xs cell) 0)
        → (here || names xs cell) ≡ not (eqb (cond here x.mode (mode_of xs cell)) 0)
    go true later = ap not (sym (ne_eqb x.mode 0 (λ e. omega (arith, moded))))
    go false later = later

-- a cell named twice from some access on is named twice
pub once_drop : (j : ℕ) (xs : List Access) → named_once (drop j xs) ≡ false → named_once xs ≡ false
unfolding named_once
once_drop zero xs h = h
once_drop (suc j) [] h = h
once_drop (suc j) (x ∷ xs) h =
    ap (λ (t : Bool). not (names xs x.cell) && t) (once_drop j xs h) ∙ and-false (not (names xs x.cell))

-- ---- rule 11, from some operation on

-- the operations before an index, the latest first
unfoldable pub earlier : ℕ → (ℕ → Operation) → List Operation
earlier zero f = []
earlier (suc i) f = f i ∷ earlier i f

-- one operation more
pub keep_next : (accesses : List Access) (n : ℕ) (f : ℕ → Operation) (i : ℕ) → i < n
    → all_keep_modes accesses (earlier i f) (drop i (each n f))
    ≡ (keeps_modes accesses (earlier i f) (f i) && all_keep_modes accesses (earlier (i + 1) f) (drop (i + 1) (each n f)))
unfolding all_keep_modes earlier
keep_next accesses n f i h =
    ap (all_keep_modes accesses (earlier i f)) (each-drop n f i h)
    ∙ ap (λ (k : ℕ). keeps_modes accesses (earlier i f) (f i) && all_keep_modes accesses (earlier k f) (drop (i + 1) (each n f)))
    (sym (add-one i))

-- ---- rule 17, of any cell

-- a cell under the mode that the accesses give it
abbrev pub named_as : List Access → ℕ → Access
named_as accesses cell = record { cell = cell; mode = mode_of accesses cell }

-- what the rule asks of every access, it asks of every cell
pub write_of : (accesses : List Access) (operations : List Operation) (cell : ℕ) → all (write_made operations) accesses ≡ true
    → write_made operations (named_as accesses cell) ≡ true
unfolding mode_of all
write_of [] operations cell made = refl
write_of (x ∷ xs) operations cell made =
    go (eqb x.cell cell) refl
    (write_of xs operations cell (and_right (write_made operations x) (all (write_made operations) xs) made))
  where
    go : (here : Bool) → eqb x.cell cell ≡ here → write_made operations (named_as xs cell) ≡ true
        → write_made operations (record { cell = cell; mode = cond here x.mode (mode_of xs cell) }) ≡ true
    go true e later =
        ap (λ (c : ℕ). write_made operations (record { cell = c; mode = x.mode })) (sym (eqb-true x.cell cell e))
        ∙ and_left (write_made operations x) (all (write_made operations) xs) made
    go false e later = later
