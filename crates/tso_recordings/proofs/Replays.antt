-- Every replay order replays what was told, where the log is the least set of the ordered accesses.
use Rattle.std.proofs.Common.{List, sym, subst}
use Rattle.rtr_types.specs.declared.access.Access.{Access}
use Rattle.conflict_edge.specs.Conflicts.{ConflictPair}
use Rattle.replay_core.specs.Play.{start}
use Rattle.tso_replay.specs.Replays.{tso_given, tso_plan}
use Rattle.tso_replay.proofs.Forward.{conflicts_forward}
use Rattle.tso_replay.proofs.ToldReplays.{told_replays}
use Rattle.tso_told.specs.Played.{ordered_told}
use Rattle.tso_recordings.specs.Replays.{LeastReplaysLaw}
use Rattle.tso_recordings.specs.Tells.{cores_told}
use Rattle.tso_recordings.proofs.Tells.{told_plays}

pub least_replays : LeastReplaysLaw
least_replays r list outcome valid h =
    let p = tso_plan r in
    let plays = told_plays (tso_given r) p (start p) list h.tells in
    told_replays r (cores_told list) (ordered_told list) outcome valid (record {
      inside = h.inside;
      whole = h.whole;
      plays = plays.0;
      accesses = plays.1;
      outcome_is = h.outcome_is;
      forward = conflicts_forward (tso_given r) p (cores_told list) p.edges h.inside
          (λ x y edge. subst (λ (l : List Access). ConflictPair l x y) (sym plays.1) (h.least.conflict x y edge));
      suffices = h.least.suffices;
    })
