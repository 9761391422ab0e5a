-- The words of the copies: those that count have the memory's.
use Rattle.std.specs.Prelude.{◌≡◌, ℕ, ◌<◌, ◌==◌, true, ◌&&◌, List, length, slice_set, if◌then◌else◌, IsTrue}
use Rattle.access_times.specs.Riding.{Riding, Carrying}
use Rattle.image_mem.specs.Contents.{Contents}
use Rattle.rtr_types.specs.Accesses.{is_write}
use Rattle.rtr_types.specs.declared.access.Kind.{Kind}
use Rattle.msi_cache.specs.Lines.{line_for}
use Rattle.msi_directory.specs.Blocks.{entry_at, opening_entries}
use Rattle.msi_protocol.specs.Seats.{FullBlock, HoldersHave}
use Rattle.msi_protocol.specs.Shown.{Payload}
use Rattle.msi_memory.specs.Acts.{Act, Touch, can, after_act, allows}
use Rattle.msi_memory.specs.Memories.{Memory, port_at, memory_start}
use Rattle.msi_laws.specs.Holds.{MemoryHolds}
use Rattle.msi_laws.specs.Links.{AllShow}

module _ {R : Type 0} where
  -- the copies of the block that count have the memory's words
  abbrev pub HasWords : (memory : ℕ → List ℕ) → (b : ℕ) → FullBlock (Payload R) → Type 0
  HasWords memory b block = HoldersHave (λ x. x.words ≡ memory b) block

-- the memory after an access
abbrev pub memory_by : (block slot : ℕ) → Kind → (value : ℕ) → (ℕ → List ℕ) → ℕ → List ℕ
memory_by block slot kind value memory b =
    if is_write kind && (b == block) then slice_set (memory b) slot value else memory b

-- the memory after an act
abbrev pub memory_after_act : {R : Type 0} → Act R → (ℕ → List ℕ) → ℕ → List ℕ
memory_after_act (Touch c block slot kind value rider) memory = memory_by block slot kind value memory
memory_after_act _ memory = memory

module _ {R K : Type 0} where
  -- the copies of each block that count have the memory's words; the memory gives each block's words
  abbrev pub HaveWords : Riding R → Carrying K → Memory R K → (ℕ → List ℕ) → Type 0
  HaveWords riding carrying m memory = AllShow riding carrying (HasWords memory) m

  -- at the start the memory is what the home has
  abbrev pub OpeningWordsLaw : Riding R → Carrying K → Type 0
  OpeningWordsLaw riding carrying =
      (image : Contents) (cores : ℕ)
      → HaveWords riding carrying (memory_start riding carrying image cores)
      (λ b. (entry_at riding.fresh (opening_entries riding.fresh image) b).words)

  -- each act keeps the copies' words, as the memory is after it
  abbrev pub WordsLaw : Riding R → Carrying K → Type 0
  WordsLaw riding carrying =
      (m : Memory R K) (act : Act R) (memory : ℕ → List ℕ)
      → MemoryHolds riding carrying m → IsTrue (can riding carrying m act)
      → HaveWords riding carrying m memory
      → HaveWords riding carrying (after_act riding carrying m act) (memory_after_act act memory)

  -- where a port allows an access, it has the memory's words there
  abbrev pub FindsLaw : Riding R → Carrying K → Type 0
  FindsLaw riding carrying =
      (m : Memory R K) (c block : ℕ) (kind : Kind) (memory : ℕ → List ℕ)
      → MemoryHolds riding carrying m → c < length m.ports
      → allows riding (port_at carrying m.ports c) block kind ≡ true → HaveWords riding carrying m memory
      → (line_for riding.fresh (port_at carrying m.ports c).cache block).words ≡ memory block

-- the start has the memory's words, and acts keep that
pub record WordsLaws {R K : Type 0} (riding : Riding R) (carrying : Carrying K) : Type 0 where
  pub start : OpeningWordsLaw riding carrying
  pub act : WordsLaw riding carrying
