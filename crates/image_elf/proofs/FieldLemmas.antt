-- Fields read from the rest of a file.
use Rattle.std.proofs.Common.{◌≡◌, ℕ, ◌-◌, List, length, take, drop, ap, ◌∙◌, arith, add-zero, length-drop}
use Rattle.std.proofs.lemmas.List.{take_all}
use Rattle.byteorder.specs.Endian.{little_from}
use Rattle.image_mem.proofs.WordLemmas.{little_from-drop}

-- the first n bytes from an address to the end
pub field_of_rest : (n : ℕ) (xs : List ℕ) (address : ℕ)
    → little_from 0 n (take (length xs - address) (drop address xs)) ≡ little_from address n xs
field_of_rest n xs address =
    let whole = take_all (length xs - address) (drop address xs) (simp length-drop (omega arith)) in
    let part = little_from-drop n 0 address xs ∙ ap (λ (i : ℕ). little_from i n xs) (add-zero address) in
    rw whole part
