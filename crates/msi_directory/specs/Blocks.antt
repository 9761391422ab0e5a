-- What a home is to contracts: the entries of all blocks, whether or not the home keeps one of its own
-- for a block, and which blocks have room. A block that was never asked for reads as unshared, with
-- its opening words and a fresh rider.
use Rattle.std.specs.Prelude.{◌≡◌, ◌≢◌, ℕ, ◌+◌, ◌-◌, ◌*◌, ◌/◌, Bool, false, List, [], ◌∷◌, map, slice_index_or}
use Rattle.std.specs.Prelude.{slice_set}
use Rattle.std.specs.List.{count_by, range_with_len}
use Rattle.access_times.specs.Riding.{Riding}
use Rattle.rtr_types.specs.declared.TheConstants.{BLOCK_WORDS}
use Rattle.image_mem.specs.Contents.{Contents, opening_word}
use Rattle.msi_cache.specs.Messages.{request_block, response_block}
use Rattle.msi_cache.specs.declared.messages.Response.{Response}
use Rattle.msi_cache.specs.declared.messages.Request.{Request}
use Rattle.msi_directory.specs.Entries.{entry_after_request, entry_after_response}
use Rattle.msi_directory.specs.declared.entry.Stage.TheVariants.{Unshared}
use Rattle.msi_directory.specs.declared.entry.Entry.{Entry}

-- the entry of each block of the memory, by the block's number, and for each whether a request for it
-- needs no memory
pub record Blocks (R : Type 0) : Type 0 where
  pub entries : List (Entry R)
  pub rooms : List Bool

-- how many blocks the words of a memory lie in
abbrev pub block_count : ℕ → ℕ
block_count words = (words + (BLOCK_WORDS - 1)) / BLOCK_WORDS

-- a request for the block needs no memory
abbrev pub has_room : List Bool → ℕ → Bool
has_room rooms block = slice_index_or rooms block false

-- how many blocks have room
abbrev pub touched : List Bool → ℕ
touched rooms = count_by (λ room. room) rooms

module _ {R : Type 0} where
  -- a block as the image has it, which no cache holds
  abbrev pub opening_entry : R → Contents → ℕ → Entry R
  opening_entry fresh image block =
      record {
        stage = Unshared;
        words =
            opening_word image (block * BLOCK_WORDS)
            ∷ opening_word image (block * BLOCK_WORDS + 1)
            ∷ opening_word image (block * BLOCK_WORDS + 2)
            ∷ opening_word image (block * BLOCK_WORDS + 3)
            ∷ [];
        rider = fresh;
      }

  -- all blocks as the image has them
  abbrev pub opening_entries : R → Contents → List (Entry R)
  opening_entries fresh image = map (opening_entry fresh image) (range_with_len 0 (block_count image.words))

  -- what is read where there is no block
  abbrev pub no_entry : R → Entry R
  no_entry fresh = record { stage = Unshared; words = 0 ∷ 0 ∷ 0 ∷ 0 ∷ []; rider = fresh }

  -- the block's entry
  abbrev pub entry_at : R → List (Entry R) → ℕ → Entry R
  entry_at fresh entries block = slice_index_or entries block (no_entry fresh)

  -- the entries after a request from core c: that of its block alone is another
  abbrev pub entries_after_request : Riding R → List (Entry R) → ℕ → Request R → List (Entry R)
  entries_after_request riding entries c request =
      slice_set entries (request_block request)
      (entry_after_request riding (entry_at riding.fresh entries (request_block request)) c request)

  -- the entries after a response from core c: that of its block alone is another
  abbrev pub entries_after_response : Riding R → List (Entry R) → ℕ → Response R → List (Entry R)
  entries_after_response riding entries c response =
      slice_set entries (response_block response)
      (entry_after_response riding (entry_at riding.fresh entries (response_block response)) c response)

  -- the two homes differ at most at the block's entry
  abbrev pub SameElsewhere : R → List (Entry R) → List (Entry R) → ℕ → Type 0
  SameElsewhere fresh old new block =
      (other : ℕ) → other ≢ block → entry_at fresh new other ≡ entry_at fresh old other
