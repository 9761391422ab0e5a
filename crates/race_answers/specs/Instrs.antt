-- How an instruction is told: which it is, its pc, and its access if it has one.
use Rattle.std.specs.Prelude.{ℕ, ◌*◌, ◌%◌, ◌^◌, List, [], ◌++◌, Option, Some, None, codes, decimal, if◌then◌else◌}
use Rattle.std.specs.Int.{to_be_bytes, w32}
use Rattle.hex.specs.Hex.{encode_lower}
use Rattle.rtr_types.specs.Accesses.{is_write}
use Rattle.rtr_types.specs.declared.access.Access.{Access}
use Rattle.rtr_types.specs.declared.access.Kind.{Kind}
use Rattle.rtr_types.specs.declared.access.Kind.TheVariants.{Load, Store, Amo}
use Rattle.rtr_types.specs.declared.instr.Instr.{Instr}
use Rattle.race_queries.specs.Conflicts.{access_at}
use Rattle.race_answers.specs.Pcs.{pc_in}

-- a word: eight digits
abbrev pub hex_word : ℕ → List ℕ
hex_word word = encode_lower (to_be_bytes w32 word)

abbrev pub kind_text : Kind → List ℕ
kind_text Load = codes " load "
kind_text Store = codes " store "
kind_text Amo = codes " amo "

-- what an access left, where it may have changed the word
abbrev pub left_text : Access → List ℕ
left_text access = if is_write access.kind then codes " -> " ++ hex_word access.after else []

-- its word's address, which has 32 bits, what it found and what it left
abbrev pub access_text : Access → List ℕ
access_text access =
    kind_text access.kind ++ hex_word (access.word * 4 % 2 ^ 32) ++ codes " " ++ hex_word access.before
    ++ left_text access

-- `C:N pc H`
abbrev pub place_text : (pcs : List (List ℕ)) → Instr → List ℕ
place_text pcs at =
    decimal at.core ++ codes ":" ++ decimal at.count ++ codes " pc " ++ hex_word (pc_in pcs at)

-- an access, with its instruction
abbrev pub row_text : (pcs : List (List ℕ)) → Access → List ℕ
row_text pcs access = place_text pcs access.at ++ access_text access

abbrev pub accessed_text : Option Access → List ℕ
accessed_text None = []
accessed_text (Some access) = access_text access

-- an instruction, with this access
abbrev pub touch_text : (pcs : List (List ℕ)) → Instr → Option Access → List ℕ
touch_text pcs at access = place_text pcs at ++ accessed_text access

-- an instruction, with its access
unfoldable pub instr_text : (pcs : List (List ℕ)) → (accesses : List Access) → Instr → List ℕ
instr_text pcs accesses at = touch_text pcs at (access_at at accesses)
