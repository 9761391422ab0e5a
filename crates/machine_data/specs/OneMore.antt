-- What one access more makes of the memory that accesses leave.
use Rattle.std.specs.Prelude.{◌≡◌, false, List, [], ◌∷◌, ◌++◌, slice_set, if◌then◌else◌}
use Rattle.image_mem.specs.Contents.{Contents, opening_word}
use Rattle.machine_data.specs.LastValues.{last_value, memory_left}
use Rattle.rtr_types.specs.Accesses.{is_write}
use Rattle.rtr_types.specs.declared.access.Access.{Access}

-- An access that finds what the earlier ones left in its word, and leaves it where it only reads, makes of their memory
-- the one with its value in its word where it writes, and the same one where it only reads.
abbrev pub AccessLeavesLaw : Type 0
AccessLeavesLaw =
    (image : Contents) (list : List Access) (a : Access) → a.before ≡ last_value (opening_word image a.word) a.word list
    → (is_write a.kind ≡ false → a.after ≡ a.before)
    → (if is_write a.kind then slice_set (memory_left image list) a.word a.after else memory_left image list)
    ≡ memory_left image (list ++ a ∷ [])
