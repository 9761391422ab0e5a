-- A run of one block that can be followed by hand.
use Rattle.std.specs.Prelude.{◌≡◌, List, [], ◌∷◌}
use Rattle.rtr_types.specs.CoreSets.{with_core, no_cores}
use Rattle.msi_cache.specs.declared.line.State.TheVariants.{I, S, M}
use Rattle.msi_directory.specs.declared.entry.Stage.TheVariants.{Shared, Owned}
use Rattle.msi_protocol.specs.Block.{view, Block, BlockMove, TakesRequest, TakesResponse, TakesMessage, Wishes, ToLoad}
use Rattle.msi_protocol.specs.Block.{ToStore}

-- core 0 asks to write and gets the block; core 1 asks to read, and gets it once core 0 has given it
abbrev pub store_then_load : List BlockMove
store_then_load =
    Wishes 0 ToStore
    ∷ TakesRequest 0
    ∷ TakesMessage 0
    ∷ Wishes 1 ToLoad
    ∷ TakesRequest 1
    ∷ TakesMessage 0
    ∷ TakesResponse 0
    ∷ TakesMessage 1
    ∷ []

-- core 0 asks to write again, and gets the block once core 1 has acknowledged
abbrev pub store_again : List BlockMove
store_again =
    Wishes 0 ToStore
    ∷ TakesRequest 0
    ∷ TakesMessage 1
    ∷ TakesResponse 1
    ∷ TakesMessage 0
    ∷ []

-- cores 0 and 1 share the block, and nothing is under way
pub record BothShare (b : Block) : Type 0 where
  pub stage : b.stage ≡ Shared (with_core (with_core no_cores 0) 1)
  pub first : b.views 0 ≡ view S [] [] []
  pub second : b.views 1 ≡ view S [] [] []

-- core 0 owns the block, core 1 has no copy, and nothing is under way
pub record FirstOwns (b : Block) : Type 0 where
  pub stage : b.stage ≡ Owned 0
  pub first : b.views 0 ≡ view M [] [] []
  pub second : b.views 1 ≡ view I [] [] []
