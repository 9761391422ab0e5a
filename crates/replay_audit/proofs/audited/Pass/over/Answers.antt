use Rattle.std.proofs.Common.{[], ◌∙◌, ℕ, ap}
use Rattle.std.specs.Prelude.{replicate}
use Rattle.replay_audit.proofs.audited.Pass.over.Goals as goal

pub along-requires-clause-begins : goal.along-requires-clause-begins
along-requires-clause-begins c =
    let t = c.in_ok-tally.ensures in
    let r = c.in_ok-replay.ensures in
    let s = c.in_ok-trail.ensures in
    record {
      tally_plan = t.plan;
      counts = t.counts;
      replay_plan = r.plan;
      state = r.state;
      clocks = s.clocks ∙ ap (λ (n : ℕ). replicate n []) c.cores.ensures.all;
      accesses = s.accesses;
      found = s.found;
    }
