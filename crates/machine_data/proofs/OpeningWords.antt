-- At the start the copies that count have what the image has.
use Rattle.std.proofs.Common.{◌≡◌, ◌∙◌, ap, refl, sym, subst, ℕ, ◌+◌, ◌*◌, ◌<◌, ◌≤◌, ◌%◌, ◌/◌, List, [], ◌∷◌, length}
use Rattle.std.proofs.Common.{inl, inr, ◌⊎◌, arith, zero-add, zero, suc}
use Rattle.std.specs.Prelude.{slice_index}
use Rattle.std.proofs.lemmas.Bool.{cases_lt}
use Rattle.std.proofs.lemmas.List.{get_or_past}
use Rattle.std.proofs.lemmas.List.FromFn.{get_or-map-range_with_len}
use Rattle.access_times.specs.Riding.{Riding, Carrying}
use Rattle.rtr_types.specs.declared.TheConstants.{BLOCK_WORDS}
use Rattle.image_mem.specs.Contents.{Contents, opening_word}
use Rattle.image_mem.proofs.WordLemmas.{opening_word-past}
use Rattle.msi_directory.specs.declared.entry.Entry.{Entry}
use Rattle.msi_directory.specs.Blocks.{block_count, opening_entry, opening_entries, entry_at, no_entry}
use Rattle.msi_directory.proofs.Openings.{openings_counted}
use Rattle.msi_protocol.specs.Seats.{FullBlock, HoldersHave}
use Rattle.msi_protocol.specs.Showing.{Shows}
use Rattle.msi_protocol.specs.Shown.{Payload}
use Rattle.msi_memory.specs.Memories.{Memory, port_at, memory_start}
use Rattle.msi_laws.specs.Links.{port_sight}
use Rattle.msi_laws.specs.Words.{HaveWords}
use Rattle.msi_state.specs.States.{state_start}
use Rattle.msi_laws.proofs.StartInvariant.{words_start}
use Rattle.machine_data.specs.Coherent.{Coherent, WordsFit, opening_memory, word_of}

-- the memory that a home opens with
abbrev pub home_memory : {R : Type 0} → R → Contents → ℕ → List ℕ
home_memory fresh image b = (entry_at fresh (opening_entries fresh image) b).words

module _ {R : Type 0} where
  -- a block of the home's is as the image has it
  home_within : (fresh : R) (image : Contents) (b : ℕ) → b < block_count image.words →
      home_memory fresh image b ≡ opening_memory image b
  home_within fresh image b within =
      ap (λ (e : Entry R). e.words) (get_or-map-range_with_len (opening_entry fresh image) 0 (block_count image.words) b
      b (no_entry fresh) within (zero-add b))

  home_past : (fresh : R) (image : Contents) (b : ℕ) → block_count image.words ≤ b →
      home_memory fresh image b ≡ 0 ∷ 0 ∷ 0 ∷ 0 ∷ []
  home_past fresh image b past =
      ap (λ (e : Entry R). e.words)
      (get_or_past (opening_entries fresh image) b (no_entry fresh)
      (subst (λ (n : ℕ). n ≤ b) (sym (openings_counted fresh image (block_count image.words))) past))

  pub home_fits : (fresh : R) (image : Contents) → WordsFit (home_memory fresh image)
  home_fits fresh image b = by_place (cases_lt b (block_count image.words))
    where
      by_place : (b < block_count image.words) ⊎ (block_count image.words ≤ b) →
          length (home_memory fresh image b) ≡ BLOCK_WORDS
      by_place (inr past) = ap (λ (words : List ℕ). length words) (home_past fresh image b past)
      by_place (inl within) = ap (λ (words : List ℕ). length words) (home_within fresh image b within)

-- the word at a slot of a block
opening_slot : (image : Contents) (b slot word : ℕ) → slot < BLOCK_WORDS → word ≡ b * BLOCK_WORDS + slot →
    slice_index (opening_memory image b) slot
    ≡ opening_word image word
opening_slot image b zero word lt is = ap (opening_word image) (omega arith)
opening_slot image b (suc zero) word lt is = ap (opening_word image) (sym is)
opening_slot image b (suc (suc zero)) word lt is = ap (opening_word image) (sym is)
opening_slot image b (suc (suc (suc zero))) word lt is = ap (opening_word image) (sym is)
opening_slot image b (suc (suc (suc (suc slot)))) word lt is = absurd (omega arith)

-- a word of the memory opens as the image has it
pub opening_at : {R : Type 0} (fresh : R) (image : Contents) (word : ℕ) → word < image.words →
    word_of (home_memory fresh image) word ≡ opening_word image word
opening_at fresh image word within =
    ap (λ (words : List ℕ). slice_index words (word % BLOCK_WORDS)) (home_within fresh image (word / BLOCK_WORDS)
    (omega arith))
    ∙ opening_slot image (word / BLOCK_WORDS) (word % BLOCK_WORDS) word (omega arith) (omega arith)

-- past the image's bytes the memory opens with 0
opening_past : (image : Contents) (b : ℕ) → length image.bytes ≤ 4 * image.words → block_count image.words ≤ b →
    opening_memory image b ≡ 0 ∷ 0 ∷ 0 ∷ 0 ∷ []
opening_past image b fits past =
    rw (
      opening_word-past image (b * BLOCK_WORDS) (omega arith),
      opening_word-past image (b * BLOCK_WORDS + 1) (omega arith),
      opening_word-past image (b * BLOCK_WORDS + 2) (omega arith),
      opening_word-past image (b * BLOCK_WORDS + 3) (omega arith),
    ) refl

home_opens : {R : Type 0} (fresh : R) (image : Contents) (b : ℕ) → length image.bytes ≤ 4 * image.words →
    home_memory fresh image b ≡ opening_memory image b
home_opens fresh image b fits = by_place (cases_lt b (block_count image.words))
  where
    by_place : (b < block_count image.words) ⊎ (block_count image.words ≤ b) →
        home_memory fresh image b ≡ opening_memory image b
    by_place (inr past) = home_past fresh image b past ∙ sym (opening_past image b fits past)
    by_place (inl within) = home_within fresh image b within

module _ {R K : Type 0} where
  -- the memory matters block by block
  same_memory : (riding : Riding R) (carrying : Carrying K) (m : Memory R K) (old new : ℕ → List ℕ) →
      ((b : ℕ) → old b ≡ new b) →
      HaveWords riding carrying m old → HaveWords riding carrying m new
  same_memory riding carrying m old new same h =
      record {
        blocks = λ b. subst (λ (words : List ℕ). Shows (λ (block : FullBlock (Payload R)).
            HoldersHave (λ (x : Payload R). x.words ≡ words) block) b (entry_at riding.fresh m.home b)
            (λ d. port_sight riding b (port_at carrying m.ports d))) (same b) (h.blocks b);
      }

  -- the home has the only copies
  pub home_coherent : (riding : Riding R) (carrying : Carrying K) (image : Contents) (cores limit : ℕ) →
      Coherent riding carrying (state_start riding carrying image cores limit) (home_memory riding.fresh image)
  home_coherent riding carrying image cores limit = words_start riding carrying image cores

  -- where the image's bytes lie within the memory, it is as the image has it
  pub start_coherent : (riding : Riding R) (carrying : Carrying K) (image : Contents) (cores limit : ℕ) →
      length image.bytes ≤ 4 * image.words →
      Coherent riding carrying (state_start riding carrying image cores limit) (opening_memory image)
  start_coherent riding carrying image cores limit fits =
      same_memory riding carrying (memory_start riding carrying image cores) (home_memory riding.fresh image)
      (opening_memory image)
      (λ b. home_opens riding.fresh image b fits) (words_start riding carrying image cores)
