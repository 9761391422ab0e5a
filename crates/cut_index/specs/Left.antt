-- What a list of accesses leaves of a word.
use Rattle.std.specs.Prelude.{ℕ, Bool, ◌&&◌, nat_eq, List, [], ◌∷◌, if◌then◌else◌}
use Rattle.rtr_types.specs.Accesses.{is_write}
use Rattle.rtr_types.specs.declared.access.Access.{Access}

-- the access writes the word
abbrev pub writes : (word : ℕ) → Access → Bool
writes word access = nat_eq access.word word && is_write access.kind

-- what the word holds behind these accesses, if it held this before them
abbrev pub left_by : (word held : ℕ) → List Access → ℕ
left_by word held [] = held
left_by word held (access ∷ rest) = left_by word (if writes word access then access.after else held) rest
