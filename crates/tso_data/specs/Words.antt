-- That what loads are logged with are words.
use Rattle.std.specs.Prelude.{ℕ, ◌<◌, ◌≤◌, ◌^◌, List, [], ◌∷◌, slice_index}
use Rattle.image_mem.specs.Contents.{Contents, opening_word}
use Rattle.rtr_types.specs.declared.TheConstants.{CORES_MAX}
use Rattle.rtr_types.specs.declared.params.Params.{Params}
use Rattle.tso_state.specs.Events.{Told, Alone, Ordered, Logged}
use Rattle.tso_state.specs.Runs.{all_told}

-- the words that loads were logged with are below 2^32
abbrev pub SmallTold : List Told → Type 0
SmallTold [] = Unit {0}
SmallTold (Alone at ∷ list) = SmallTold list
SmallTold (Ordered a ∷ list) = SmallTold list
SmallTold (Logged at word value ∷ list) = (value < 2 ^ 32) × SmallTold list

-- and so are those of the memory at the start
abbrev pub OpensSmall : Contents → Type 0
OpensSmall image = (word : ℕ) → opening_word image word < 2 ^ 32

-- Where the memory opens with such words, loads are logged with such words along every run.
abbrev pub SmallToldLaw : Type 0
SmallToldLaw =
    (image : Contents) (params : Params) (choices : ℕ → ℕ) (t : ℕ) → params.cores ≤ CORES_MAX → params.limit < 2 ^ 32
    → OpensSmall image → SmallTold (all_told image params choices t)

-- An image of bytes opens so.
abbrev pub OpensSmallLaw : Type 0
OpensSmallLaw = (image : Contents) → ((i : ℕ) → slice_index image.bytes i < 256) → OpensSmall image
