-- Rule: states of any cores over a memory system: CoresState
-- The states of cores of any type over a memory system.
use Rattle.std.specs.Prelude.{ℕ, List, map, Bool}
use Rattle.std.specs.List.{range_with_len, list_all}
use Rattle.access_times.specs.Riding.{Riding, Carrying}
use Rattle.image_mem.specs.Contents.{Contents}
use Rattle.msi_memory.specs.Memories.{Memory, memory_start}

-- the image that the cores run, which never changes; the cores; and the memory system that they share
pub record CoresState (C R K : Type 0) : Type 0 where
  pub image : Contents
  pub cores : List C
  pub memory : Memory R K

-- those on which nothing rides
abbrev pub PlainCores : Type 0 → Type 0
PlainCores C = CoresState C (Unit {0}) (Unit {0})

module _ {C R K : Type 0} where
  -- the start: each core is as it starts by its number, no cache holds a block, and the home has what the image has
  abbrev pub cores_start : (starts : ℕ → C) → Riding R → Carrying K → Contents → (cores : ℕ) → CoresState C R K
  cores_start starts riding carrying image cores =
      record {
        image = image;
        cores = map starts (range_with_len 0 cores);
        memory = memory_start riding carrying image cores;
      }

  -- each core has ended
  abbrev pub all_ended : (has_ended : Contents → C → Bool) → CoresState C R K → Bool
  all_ended has_ended s = list_all (λ core. has_ended s.image core) s.cores
