use Rattle.std.proofs.Common.{◌≡◌, ◌∙◌, ap, refl, sym}
use Rattle.rtr_types.specs.declared.cut.Cut.{Cut}
use Rattle.race_log.specs.declared.recording.Recording.{Recording}
use Rattle.cut_moves.proofs.Hulls.{empty_closed, none_in}
use Rattle.cut_replay.specs.ClosedCuts.{count_in}
use Rattle.debug_place.proofs.AtCuts.{cut_is}
use Rattle.debug_place.proofs.place.Place.begin.Goals as goal

pub invariant_of-result : goal.invariant_of-result
invariant_of-result c =
    let a = c.args.audited.now in
    let cores = c.recording.result.now.params.cores in
    record {
      valid = c.recording.ensures.valid;
      determinate = c.outcome.ensures.passed.determinate;
      timeline_is = c.in_ok-timeline.ensures.rounds;
      index_is = c.in_ok-index.ensures;
      closed = empty_closed a.which a.recording cores c.recording.ensures.valid
          (ap (λ (r : Recording). r.params.cores) c.recording.ensures.recording);
    }

pub returns-clause-nothing : goal.returns-clause-nothing
returns-clause-nothing c core =
    let a = c.args.audited.now in
    let cores = c.recording.result.now.params.cores in
    ap (λ (k : Cut). count_in k core)
    (cut_is a.which a.recording c.recording.ensures.valid c.outcome.ensures.passed.determinate _
    (empty_closed a.which a.recording cores c.recording.ensures.valid
    (ap (λ (r : Recording). r.params.cores) c.recording.ensures.recording)))
    ∙ none_in cores core
