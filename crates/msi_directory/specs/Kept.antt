-- What a home keeps: an entry for each block that room was made for, in the order in which that came.
-- Stages lie apart from copies. A block without an entry is as the image has it.
use Rattle.std.specs.Prelude.{◌≡◌, ◌<◌, ◌^◌, ℕ, All, Bool, IsTrue, List, [], ◌∷◌, ◌++◌, Option, Some, None, is_some}
use Rattle.std.specs.Prelude.{length, map, nat_eq, slice_index_or, slice_set}
use Rattle.std.specs.List.{position, range_with_len}
use Rattle.image_mem.specs.Contents.{Contents}
use Rattle.msi_directory.specs.Blocks.{Blocks, block_count, opening_entry, touched}
use Rattle.msi_directory.specs.Fitting.{stage_fits}
use Rattle.msi_directory.specs.declared.entry.Entry.{Entry}
use Rattle.msi_directory.specs.declared.entry.Stage.{Stage}
use Rattle.msi_directory.specs.declared.home_copies.HomeCopy.{HomeCopy}

-- the blocks, and beside each its stage and the home's copy of it
pub record Kept (R : Type 0) : Type 0 where
  pub blocks : List ℕ
  pub stages : List Stage
  pub copies : List (HomeCopy R)

-- as many stages and copies as blocks
pub record IsEven {R : Type 0} (kept : Kept R) : Type 0 where
  pub stages : length kept.stages ≡ length kept.blocks
  pub copies : length kept.copies ≡ length kept.blocks

-- where a block stands among these
abbrev pub place_of : List ℕ → ℕ → Option ℕ
place_of blocks block = position (nat_eq block) blocks

-- the block is one of these
abbrev pub is_kept : List ℕ → ℕ → Bool
is_kept blocks block = is_some (place_of blocks block)

-- the block's entry is at this place
pub record IsAt {R : Type 0} (kept : Kept R) (block place : ℕ) : Type 0 where
  pub stands : place_of kept.blocks block ≡ Some place
  pub stage : place < length kept.stages
  pub copy : place < length kept.copies

-- all blocks of the memory
abbrev pub all_blocks : Contents → List ℕ
all_blocks image = range_with_len 0 (block_count image.words)

module _ {R : Type 0} where
  -- the entry that a stage and a copy make
  abbrev pub entry_of : Stage → HomeCopy R → Entry R
  entry_of stage copy = record { stage = stage; words = copy.words; rider = copy.rider }

  -- an entry without its stage
  abbrev pub copy_of : Entry R → HomeCopy R
  copy_of e = record { words = e.words; rider = e.rider }

  abbrev pub nothing_kept : Kept R
  nothing_kept = record { blocks = []; stages = []; copies = [] }

  -- the entry at a place, and this one past the last
  abbrev pub kept_at : Kept R → ℕ → Entry R → Entry R
  kept_at kept place past =
      entry_of (slice_index_or kept.stages place past.stage) (slice_index_or kept.copies place (copy_of past))

  -- with this entry at the place
  abbrev pub kept_with : Kept R → ℕ → Entry R → Kept R
  kept_with kept place e =
      record kept {
        stages = slice_set kept.stages place e.stage;
        copies = slice_set kept.copies place (copy_of e);
      }

  -- with this entry of one more block
  abbrev pub kept_more : Kept R → ℕ → Entry R → Kept R
  kept_more kept block e =
      record {
        blocks = kept.blocks ++ block ∷ [];
        stages = kept.stages ++ e.stage ∷ [];
        copies = kept.copies ++ copy_of e ∷ [];
      }

  -- the entry at this place, if there is one, or else this one
  abbrev pub kept_or : Kept R → Option ℕ → Entry R → Entry R
  kept_or kept (Some place) opening = kept_at kept place opening
  kept_or kept None opening = opening

-- the parts of a home: the image, the rider that holds nothing, and what is kept
pub record Sparse (R : Type 0) : Type 0 where
  pub opening : Contents
  pub fresh : R
  pub kept : Kept R

module _ {R : Type 0} where
  abbrev pub home_of : Contents → R → Kept R → Sparse R
  home_of opening fresh kept = record { opening = opening; fresh = fresh; kept = kept }

  -- a block's entry: the one that is kept, or else the block as the image has it
  abbrev pub entry_in : Sparse R → ℕ → Entry R
  entry_in home block =
      kept_or home.kept (place_of home.kept.blocks block) (opening_entry home.fresh home.opening block)

  -- what the home is to contracts
  abbrev pub blocks_in : Sparse R → Blocks R
  blocks_in home =
      record {
        entries = map (entry_in home) (all_blocks home.opening);
        rooms = map (is_kept home.kept.blocks) (all_blocks home.opening);
      }

-- what holds of a home's parts: each block's stage fits; as many blocks have room as there are entries; and a word's
-- index is a 32-bit number
pub record HomeFits {R : Type 0} (home : Sparse R) : Type 0 where
  pub stages : All (λ e. IsTrue (stage_fits e.stage)) (blocks_in home).entries
  pub counted : touched (blocks_in home).rooms ≡ length home.kept.blocks
  pub words : home.opening.words < 2 ^ 32
