-- Of a list in which one thing is stored, what is told of each is what was told of the list, with that of the thing stored.
use Rattle.std.proofs.Common.{◌≡◌, ℕ, List, map, set}
use Rattle.std.proofs.lemmas.List.{map-set}

pub told_set : {A B : Type 0} (tells : A → B) (l : List A) (i : ℕ) (one : A) → map tells (set l i one) ≡ set (map tells l) i (tells one)
told_set tells l i one = map-set tells l i one
