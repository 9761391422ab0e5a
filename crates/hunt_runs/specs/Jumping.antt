-- Rule: which cores go round: Jumped, jumps_after
-- Which cores go round: each jumped or branched to where it was or before, twice with the same pc and registers, and no
-- word has changed since. It can't do anything else until a word changes.
use Rattle.std.specs.Prelude.{ℕ, ◌==◌, nat_le, Bool, not, ◌&&◌, List, bytes_eq, if◌then◌else◌, replicate}
use Rattle.std.specs.Prelude.{slice_index_or}
use Rattle.std.specs.Prelude.{slice_set}
use Rattle.rtr_types.specs.CoreSets.{has, no_cores, with_core}
use Rattle.rtr_types.specs.declared.core_set.CoreSet.{CoreSet}
use Rattle.rv_core.specs.States.{starting}
use Rattle.rv_core.specs.declared.core_state.Core.{Core}
use Rattle.hunt_runs.specs.declared.jumps.Spot.{Spot}

-- what is remembered of the cores' jumps since a word changed last
pub record Jumped : Type 0 where
  -- the cores that went back
  pub back : CoreSet
  -- each core as it was after it last went back
  pub last : List Core
  -- the cores that go round
  pub round : CoreSet

-- nothing is remembered yet of so many cores
abbrev pub no_jumps : (cores : ℕ) → Jumped
no_jumps cores = record { back = no_cores; last = replicate cores (starting 0 0); round = no_cores }

-- the two have the same pc and the same registers
abbrev pub stands_as : Core → Core → Bool
stands_as k l = (k.pc == l.pc) && bytes_eq k.registers l.registers

-- where a core stands
abbrev pub spot_of : Core → Spot
spot_of core = record { pc = core.pc; count = core.count }

-- in a step the core executed an instruction, and its pc is now at most that of the instruction
abbrev pub goes_back : (before : Spot) → (after : Core) → Bool
goes_back before after = not (after.count == before.count) && nat_le after.pc before.pc

-- once a word has changed nothing is remembered
abbrev pub unless_changed : (changed : Bool) → Jumped → Jumped
unless_changed changed j = if changed then record j { back = no_cores; round = no_cores } else j

-- core c went back, and is this core after it, with so many stores in its buffer: it goes round where it stood so the
-- time before and holds no store
abbrev pub with_jump : (c : ℕ) → Core → (stores : ℕ) → Jumped → Jumped
with_jump c core stores j = record {
  back = with_core j.back c;
  last = slice_set j.last c core;
  round =
      if has j.back c && (stands_as (slice_index_or j.last c (starting 0 0)) core && (stores == 0))
      then with_core j.round c else j.round;
}

-- what is remembered after a step of core c
abbrev pub jumps_after : (c : ℕ) → (before : Spot) → (after : Core) → (stores : ℕ) → (changed : Bool) → Jumped → Jumped
jumps_after c before after stores changed j =
    let kept = unless_changed changed j in
    if goes_back before after then with_jump c after stores kept else kept
