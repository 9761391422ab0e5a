-- Rule: what stops a debugger's move: stops_at
-- What stops a move, before a core takes its next instruction.
use Rattle.std.proofs.Common.{refl}
use Rattle.std.specs.Prelude.{◌≡◌, ℕ, ◌+◌, ◌&&◌, ◌||◌, Bool, true, false, is_some, nat_eq, List, slice_index}
use Rattle.std.specs.Prelude.{Option}
use Rattle.rtr_types.specs.CoreSets.{has}
use Rattle.rtr_types.specs.declared.core_set.CoreSet.{CoreSet}
use Rattle.rv_core.specs.declared.core_state.Stop.{Stop}
use Rattle.rv_core.specs.declared.outcome.Outcome.{Outcome}
use Rattle.replay_core.specs.Orders.{counts_in}
use Rattle.replay_core.specs.Plans.{Plan}
use Rattle.replay_core.specs.Play.{core_at, need_at, use_of}
use Rattle.debug_place.specs.Hits.{Hits, hit_in}
use Rattle.gdb_moves.specs.declared.points.Point.{Point}
use Rattle.gdb_moves.specs.declared.hearing.Hearing.{Hearing}
use Rattle.gdb_moves.specs.Ends.{end_in, signal_of}
use Rattle.gdb_moves.specs.Points.{breaks_at, touched}

-- the points that are set, the cores that breakpoints stop, the cores whose faults stop, and how each core's program
-- ends
pub record Stopping : Type 0 where
  pub points : List Point
  pub paused : CoreSet
  pub heard : CoreSet
  pub ends : ℕ → Stop

abbrev pub stopping_by : List Point → (paused heard : CoreSet) → (ends : ℕ → Stop) → Stopping
stopping_by points paused heard ends =
    record { points = points; paused = paused; heard = heard; ends = ends }

-- what the code has of it
abbrev pub stopping_of : Hearing → Stopping
stopping_of hearing = record {
  points = hearing.points;
  paused = hearing.paused;
  heard = hearing.heard;
  ends = end_in hearing.image.now hearing.audited.now.outcome;
}

-- a breakpoint stops the core
abbrev pub breaks : Stopping → Outcome → (core : ℕ) → Bool
breaks stopping s core = has stopping.paused core && breaks_at stopping.points (core_at s core).pc

-- the point whose range the core's next access touches
abbrev pub watched : Stopping → Plan → Outcome → (core : ℕ) → Option Point
watched stopping p s core = touched stopping.points (use_of (need_at p s core))

-- the core's next instruction is its last, and then its program ends by a fault that is heard
abbrev pub faults : Stopping → Plan → Outcome → (core : ℕ) → Bool
faults stopping p s core =
    has stopping.heard core
    && (nat_eq (counts_in s core + 1) (slice_index p.totals core) && is_some (signal_of (stopping.ends core)))

abbrev pub stops_at : Stopping → Plan → Outcome → (core : ℕ) → Bool
stops_at stopping p s core =
    breaks stopping s core || (is_some (watched stopping p s core) || faults stopping p s core)

-- the same by a core's next instruction
abbrev pub hits_of : Stopping → Hits
hits_of stopping = record {
  by_pc = λ core pc. has stopping.paused core && breaks_at stopping.points pc;
  by_use = λ core used. is_some (touched stopping.points used);
  last = λ core. has stopping.heard core && is_some (signal_of (stopping.ends core));
}

-- nothing else of a state matters to it
or_last : (x : Bool) → true ≡ (x || true)
or_last true = refl
or_last false = refl

end_first : (breaks touches heard here faults : Bool) →
    (breaks || (touches || heard && (here && faults))) ≡ ((heard && faults) && here || (breaks || touches))
end_first true touches heard here faults = or_last ((heard && faults) && here)
end_first false true heard here faults = or_last ((heard && faults) && here)
end_first false false true true true = refl
end_first false false true true false = refl
end_first false false true false true = refl
end_first false false true false false = refl
end_first false false false here faults = refl

pub own_test : (stopping : Stopping) (p : Plan) (s : Outcome) (core : ℕ) →
    stops_at stopping p s core ≡ hit_in (hits_of stopping) p s core
own_test stopping p s core =
    end_first (breaks stopping s core) (is_some (watched stopping p s core)) (has stopping.heard core)
    (nat_eq (counts_in s core + 1) (slice_index p.totals core)) (is_some (signal_of (stopping.ends core)))
