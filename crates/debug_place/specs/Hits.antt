-- Rule: what a test of an instruction says of a core's counts and of the places of a way: hit, stops_behind, stops_on
-- Which instructions a test stops before, by the core's own count alone. Counts and places are numbers from 0.
use Rattle.std.specs.Prelude.{◌≡◌, ℕ, ◌+◌, ◌<◌, ◌≤◌, Bool, true, false, ◌&&◌, ◌||◌, nat_eq, List, take}
use Rattle.std.specs.Prelude.{slice_index}
use Rattle.std.specs.Prelude.{Option, MatchOption}
use Rattle.rtr_types.specs.declared.cut.Cut.{Cut}
use Rattle.rtr_types.specs.declared.pairs.Which.{Which}
use Rattle.rv_core.specs.declared.outcome.Outcome.{Outcome}
use Rattle.race_log.specs.declared.recording.Recording.{Recording}
use Rattle.replay_core.specs.Orders.{counts, counts_in, nought}
use Rattle.replay_core.specs.Plans.{Plan}
use Rattle.replay_core.specs.Play.{Use, core_at}
use Rattle.cut_replay.specs.ClosedCuts.{count_in}
use Rattle.cut_moves.specs.Ways.{between, is_on_way}
use Rattle.cut_index.specs.AloneLaws.{next_at}
use Rattle.cut_index.specs.Runs.{next_of}
use Rattle.cut_index.specs.Touches.{used_by}
use Rattle.cut_index.specs.declared.alone.Next.{Next}

-- ---- a test of an instruction

-- what stops a core before an instruction of its own: its address, or its access; and before its last one
pub record Hits : Type 0 where
  pub by_pc : (core pc : ℕ) → Bool
  pub by_use : (core : ℕ) → Use → Bool
  pub last : (core : ℕ) → Bool

-- it stops the core before this instruction, whichever it is
abbrev pub hits_next : Hits → (core : ℕ) → Next → Bool
hits_next hits core next = hits.by_pc core next.pc || hits.by_use core next.used

-- it stops the core behind so many of its instructions, of so many in all, before this one
abbrev pub hit : Hits → (core count total : ℕ) → Next → Bool
hit hits core count total next = hits.last core && nat_eq (count + 1) total || hits_next hits core next

-- the same of what comes next at a core in a state
abbrev pub hit_in : Hits → Plan → Outcome → (core : ℕ) → Bool
hit_in hits p s core =
    hit hits core (counts_in s core) (slice_index p.totals core) (next_of p.image (core_at s core))

-- it stops before the core's instruction that comes behind so many of its own
abbrev pub stops_behind : Hits → Which → Recording → (core count : ℕ) → Bool
stops_behind hits which r core count = hit hits core count (slice_index r.totals core) (next_at which r core count)

-- the same of an instruction that isn't its last
abbrev pub hits_at : Hits → Which → Recording → (core count : ℕ) → Bool
hits_at hits which r core count = hits_next hits core (next_at which r core count)

-- and by lists of the addresses and of the accesses
abbrev pub pc_hits : Hits → (core : ℕ) → (pcs : List ℕ) → (count : ℕ) → Bool
pc_hits hits core pcs count = hits.by_pc core (slice_index pcs count)

abbrev pub use_hits : Hits → (core : ℕ) → (uses : List ℕ) → (count : ℕ) → Bool
use_hits hits core uses count = hits.by_use core (used_by (slice_index uses count))

-- the last of so many instructions, which comes from one count on, before another, stops the core
pub record EndsIn (hits : Hits) (core total from past : ℕ) : Type 0 where
  pub some : from < past
  pub all : past ≡ total
  pub last : hits.last core ≡ true

-- and before the instruction at the place of the timeline with this number
abbrev pub stops_before_place : Hits → Which → Recording → (timeline : List ℕ) → (number : ℕ) → Bool
stops_before_place hits which r timeline number =
    stops_behind hits which r (slice_index timeline number)
    (counts nought (take number timeline) (slice_index timeline number))

-- the place is on the way from the one cut to the other, and it stops before it
abbrev pub stops_on : Hits → Which → Recording → (low high : Cut) → (timeline : List ℕ) → (number : ℕ) → Bool
stops_on hits which r low high timeline number =
    is_on_way (count_in low) (count_in high) timeline number && stops_before_place hits which r timeline number

-- from the one count on, before the other, are those of a core on the way that stand from a number on, before another
pub record AreCountsWithin (which : Which) (r : Recording) (core : ℕ) (low high : Cut) (timeline : List ℕ)
    (from past least most : ℕ) : Type 0 where
  pub least_is : least ≡ between (count_in low core) (count_in high core) (counts nought (take from timeline) core)
  pub most_is : most ≡ between (count_in low core) (count_in high core) (counts nought (take past timeline) core)
  pub within : most ≤ slice_index r.totals core
  pub whole : count_in high core ≤ counts nought timeline core

-- ---- the first and the last of some numbers of which a test is true

-- of none from one on, before another
abbrev pub NoneIn : (at : ℕ → Bool) → (from past : ℕ) → Type 0
NoneIn at from past = (n : ℕ) → from ≤ n → n < past → at n ≡ false

pub record IsFirst (at : ℕ → Bool) (from past number : ℕ) : Type 0 where
  pub least : from ≤ number
  pub most : number < past
  pub here : at number ≡ true
  pub before : NoneIn at from number

pub record IsLast (at : ℕ → Bool) (from past number : ℕ) : Type 0 where
  pub least : from ≤ number
  pub most : number < past
  pub here : at number ≡ true
  pub behind : NoneIn at (number + 1) past

-- if there is one
abbrev pub FirstIn : (at : ℕ → Bool) → (from past : ℕ) → Option ℕ → Type 0
FirstIn at from past found = MatchOption found (NoneIn at from past) (IsFirst at from past)

abbrev pub LastIn : (at : ℕ → Bool) → (from past : ℕ) → Option ℕ → Type 0
LastIn at from past found = MatchOption found (NoneIn at from past) (IsLast at from past)
