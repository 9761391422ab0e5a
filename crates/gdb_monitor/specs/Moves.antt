-- Rule: where such a command goes: GoesTo
-- What a command does to a place, and what it tells.
use Rattle.std.specs.Prelude.{◌≡◌, ℕ, ◌<◌, ◌≤◌, List, length, map, slice_index, codes, Option, Some, None}
use Rattle.std.specs.Prelude.{MatchOption}
use Rattle.std.specs.List.{range_with_len}
use Rattle.rtr_types.specs.declared.TheConstants.{CORES_MAX}
use Rattle.rtr_types.specs.declared.access.Access.{Access}
use Rattle.rtr_types.specs.declared.cut.Cut.{Cut}
use Rattle.rtr_types.specs.declared.instr.Instr.{Instr}
use Rattle.rtr_types.specs.declared.pairs.Which.{Which}
use Rattle.rtr_types.specs.declared.pairs.Which.TheVariants.{Reduced}
use Rattle.race_log.specs.declared.recording.Recording.{Recording}
use Rattle.race_log.specs.Sources.{HasEdge}
use Rattle.replay_audit.specs.Audits.{Findings, IsInstrOf, PassesOf}
use Rattle.cut_replay.specs.ClosedCuts.{IsClosed, IsGreatestWithout, IsLeastWith}
use Rattle.cut_moves.specs.Steps.{IsHull, last_in, next_in}
use Rattle.race_queries.specs.Queries.{IsLastWrite, NoWriteIn}
use Rattle.race_cuts.specs.OpenCuts.{ComesNext, HasLeastLog}
use Rattle.debug_place.specs.Places.{Placed, cut_at}
use Rattle.gdb_moves.specs.Sights.{IsOf}
use Rattle.gdb_monitor.specs.declared.moves.Extreme.{Extreme}
use Rattle.gdb_monitor.specs.declared.moves.Extreme.TheVariants.{Earliest, Latest}
use Rattle.gdb_monitor.specs.Ordering.{AreBoth}
use Rattle.gdb_commands.specs.Lines.{line}
use Rattle.race_answers.specs.Missing.{no_instr_text}
use Rattle.gdb_monitor.specs.Texts.{here_text, no_core_text, no_counts_text, open_text}

-- ---- commands that move nothing

-- nothing moves, and this is told
pub record Tells (old new : Placed) (told text : List ℕ) : Type 0 where
  pub place : new ≡ old
  pub told_is : told ≡ text

-- ---- commands that move

-- the place comes to a cut of which this is true, and it's told
pub record ComesWhere (Is : Cut → Type 0) (new : Placed) (told : List ℕ) : Type 0 where
  pub cut : Is (cut_at new)
  pub told_is : told ≡ here_text new

-- to this cut
abbrev pub Comes : (to : Cut) → (new : Placed) → (told : List ℕ) → Type 0
Comes to new told = ComesWhere (λ cut. cut ≡ to) new told

-- `goto C:N`: to the least closed cut with this instruction
pub record GoesTo (at : Instr) (old new : Placed) (told : List ℕ) : Type 0 where
  pub there : IsInstrOf old.recording at → ComesWhere (IsLeastWith old.which old.recording at) new told
  pub missing : (IsInstrOf old.recording at → ⊥) → Tells old new told (no_instr_text at)

-- to the greatest closed cut without this instruction: it comes next, and all is done that doesn't need it
pub record GoesBefore (at : Instr) (old new : Placed) (told : List ℕ) : Type 0 where
  pub there : IsInstrOf old.recording at → ComesWhere (IsGreatestWithout old.which old.recording at) new told
  pub missing : (IsInstrOf old.recording at → ⊥) → Tells old new told (no_instr_text at)

abbrev pub no_write_text : List ℕ
no_write_text = line (codes "no write: the opening value")

-- before a write, if there is one
abbrev pub GoesBeforeWrite : Option Access → (old new : Placed) → (told : List ℕ) → Type 0
GoesBeforeWrite None old new told = Tells old new told no_write_text
GoesBeforeWrite (Some access) old new told = GoesBefore access.at old new told

-- `last ADDR`: before the last write of the word in the cut
pub record GoesToLast (word : ℕ) (old new : Placed) (told : List ℕ) : Type 0 where
  pub audit : Findings
  pub run : IsOf audit old
  pub passed : PassesOf audit
  pub written : Option Access
  pub is : MatchOption written (NoWriteIn audit.accesses (cut_at old) word) (IsLastWrite audit (cut_at old) word)
  pub goes : GoesBeforeWrite written old new told

-- the core's last instruction is kept, and only what it needs, or all comes that doesn't need the core's next one
abbrev pub IsExtreme : Extreme → Which → Recording → (here : Cut) → (core : ℕ) → (to : Cut) → Type 0
IsExtreme Earliest which r here core to = IsLeastWith which r (last_in here core) to
IsExtreme Latest which r here core to = IsGreatestWithout which r (next_in here core) to

-- `earliest C` and `latest C`
pub record GoesAround (extreme : Extreme) (core : ℕ) (old new : Placed) (told : List ℕ) : Type 0 where
  pub there : core < old.recording.params.cores →
      ComesWhere (IsExtreme extreme old.which old.recording (cut_at old) core) new told
  pub missing : old.recording.params.cores ≤ core → Tells old new told (no_core_text core)

pub record BothComeNext (cut : Cut) (at other : Instr) : Type 0 where
  pub first : ComesNext cut at
  pub second : ComesNext cut other

-- the greatest closed cut without the one instruction, at which it and the other one come next
pub record IsDecision (which : Which) (r : Recording) (at other : Instr) (cut : Cut) : Type 0 where
  pub greatest : IsGreatestWithout which r at cut
  pub both : BothComeNext cut at other

-- each edge of a least log is a decision
abbrev pub EdgesAreDecisionsLaw : Type 0
EdgesAreDecisionsLaw = (r : Recording) (x y : Instr) (cut : Cut) → HasLeastLog r → HasEdge Reduced r x y →
    IsGreatestWithout Reduced r x cut → IsDecision Reduced r x y cut

-- the log says more of the order of the two
abbrev pub decided_text : List ℕ
decided_text = line (codes "no decision: the log says more of their order")

-- `decision C:N C:N`
pub record GoesToDecision (at other : Instr) (old new : Placed) (told : List ℕ) : Type 0 where
  pub there : (cut : Cut) → AreBoth old.recording at other → IsDecision old.which old.recording at other cut →
      ComesWhere (IsDecision old.which old.recording at other) new told
  pub decided : AreBoth old.recording at other →
      ((cut : Cut) → IsDecision old.which old.recording at other cut → ⊥) → Tells old new told decided_text
  pub missing : (IsInstrOf old.recording at → ⊥) → Tells old new told (no_instr_text at)
  pub other_missing : IsInstrOf old.recording at → (IsInstrOf old.recording other → ⊥) →
      Tells old new told (no_instr_text other)

-- one count for each core, at most its total
pub record AreCounts (r : Recording) (counts : List ℕ) : Type 0 where
  pub all : length counts ≡ r.params.cores
  pub most : (core : ℕ) → core < r.params.cores → slice_index counts core ≤ slice_index r.totals core

-- the cut with these counts
abbrev pub cut_with_counts : (cores : ℕ) → List ℕ → Cut
cut_with_counts cores counts =
    record { cores = cores; counts = map (λ core. slice_index counts core) (range_with_len 0 CORES_MAX) }

-- to a cut that is closed; where it isn't, the least closed cut that contains it is told, and nothing moves
pub record GoesIfClosed (to : Cut) (old new : Placed) (told : List ℕ) : Type 0 where
  pub hull : Cut
  pub is_hull : IsHull old.which old.recording to hull
  pub closed : IsClosed old.which old.recording to → Comes to new told
  pub not_closed : (IsClosed old.which old.recording to → ⊥) → Tells old new told (open_text hull)

-- `goto N N ..`
pub record GoesToCut (counts : List ℕ) (old new : Placed) (told : List ℕ) : Type 0 where
  pub there : AreCounts old.recording counts →
      GoesIfClosed (cut_with_counts old.recording.params.cores counts) old new told
  pub missing : (AreCounts old.recording counts → ⊥) → Tells old new told no_counts_text
