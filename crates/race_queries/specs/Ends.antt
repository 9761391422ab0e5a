-- Rule: the edges of a log, with the accesses at their ends: log_ends
-- The edges of a log with what their instructions access, and how the accesses are looked up.
use Rattle.std.specs.Prelude.{◌≡◌, ℕ, ◌&&◌, nat_eq, Bool, List, map, Option, Some, None, unwrap_or}
use Rattle.std.specs.Prelude.{if◌then◌else◌}
use Rattle.std.specs.List.{All}
use Rattle.indexmap.specs.IndexMap.{IndexMap, get}
use Rattle.rtr_types.specs.Accesses.{is_same}
use Rattle.rtr_types.specs.declared.access.Access.{Access}
use Rattle.rtr_types.specs.declared.instr.Edge.{Edge}
use Rattle.rtr_types.specs.declared.instr.Instr.{Instr}
use Rattle.race_log.specs.Sources.{log_edges}
use Rattle.replay_audit.specs.Audits.{Findings}
use Rattle.race_queries.specs.declared.ends.Ends.{Ends}
use Rattle.race_queries.specs.Conflicts.{access_at}

-- an edge, with the access of each of its instructions, if it has one
abbrev pub ends_of : List Access → Edge → Ends
ends_of accesses edge =
    record { edge = edge; from = access_at edge.from accesses; to = access_at edge.to accesses }

-- all edges of the log of an audit
abbrev pub log_ends : Findings → List Ends
log_ends a = map (ends_of a.accesses) (log_edges a.which a.recording)

-- ---- how they are looked up

-- an instruction's key, and when two keys are one
abbrev pub key_of : Instr → ℕ × ℕ
key_of at = (at.core, at.count)

abbrev pub is_same_key : ℕ × ℕ → ℕ × ℕ → Bool
is_same_key x y = nat_eq x.0 y.0 && nat_eq x.1 y.1

module _ {S : Type 0} where
  -- what is kept of an instruction: nothing, or its access if it has one
  abbrev pub kept_of : IndexMap (ℕ × ℕ) (Option Access) S → Instr → Option (Option Access)
  kept_of kept at = get is_same_key kept (key_of at)

  -- its access, as it is kept
  abbrev pub found_in : IndexMap (ℕ × ℕ) (Option Access) S → Instr → Option Access
  found_in kept at = unwrap_or (kept_of kept at) None

  abbrev pub ends_by : IndexMap (ℕ × ℕ) (Option Access) S → Edge → Ends
  ends_by kept edge = record { edge = edge; from = found_in kept edge.from; to = found_in kept edge.to }

  -- the ends of these edges have a place, without an access as yet
  pub record HasPlaces (kept : IndexMap (ℕ × ℕ) (Option Access) S) (edges : List Edge) : Type 0 where
    pub from : All (λ e. kept_of kept e.from ≡ Some None) edges
    pub to : All (λ e. kept_of kept e.to ≡ Some None) edges

  -- each instruction that had a place without an access has its access among these
  pub record HasAccesses (old new : IndexMap (ℕ × ℕ) (Option Access) S) (accesses : List Access) : Type 0 where
    pub each : (at : Instr) → kept_of old at ≡ Some None → kept_of new at ≡ Some (access_at at accesses)

  -- an instruction that has a place has one with this access, if it is the instruction's
  pub record HasAccess (old new : IndexMap (ℕ × ℕ) (Option Access) S) (access : Access) : Type 0 where
    pub each : (at : Instr) (found : Option Access) → kept_of old at ≡ Some found →
        kept_of new at ≡ Some (if is_same access.at at then Some access else found)
