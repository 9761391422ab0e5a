use Rattle.std.proofs.Common.{◌≡◌, ◌<◌, ◌+◌, ℕ, List, [], length, get_or, sym, subst, arith}
use Rattle.std.specs.Prelude.{slice_index}
use Rattle.race_log.proofs.InTurn.{stand-map, stand-places}
use Rattle.replay_core.specs.Play.{EachRising}
use Rattle.tso_codec.specs.Validity.{AreValuesOf, ValueStands, count_of}
use Rattle.tso_replay.proofs.replaying.tso_replay.Goals as goal

pub run_given-requires-clause-values : goal.run_given-requires-clause-values
run_given-requires-clause-values c =
    let r = c.args.recording.now in
    subst EachRising (sym c.as_slice.ensures)
    (λ core lt. stand-map (ValueStands (slice_index r.totals (0 + core))) (λ (last : ℕ) (v : ℕ × ℕ). last < v.0)
    count_of (λ s v h. h.rises) 0
    (get_or r.values core []) (stand-places (AreValuesOf r.totals) 0 r.values c.requires.values core [] lt))
