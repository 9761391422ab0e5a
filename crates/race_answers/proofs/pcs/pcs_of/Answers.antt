use Rattle.std.proofs.Common.{List, ℕ, [], replicate, sym, ap, subst, ◌∙◌}
use Rattle.race_log.specs.declared.recording.Recording.{Recording}
use Rattle.roomy_lists.specs.Lists.{items_in}
use Rattle.replay_core.specs.Plans.{plan_of}
use Rattle.replay_core.specs.Play.{start}
use Rattle.race_answers.specs.Pcs.{IsNoting}
use Rattle.race_answers.proofs.NotedPcs.{begins_noting}
use Rattle.race_answers.proofs.pcs.pcs_of.Goals as goal

pub note-requires : goal.note-requires
note-requires c =
    let a = c.args.audited.now in
    let same = ap (λ w. plan_of w c.recording.result.now) c.which.ensures
    ∙ ap (λ r. plan_of a.which r) c.recording.ensures.recording in
    subst (λ (places : List ℕ). IsNoting a.which a.recording c.in_ok-replay.replay places (items_in c.in_ok-pcs.pcs))
    (sym c.as_slice.ensures)
    (begins_noting a.which a.recording c.in_ok-replay.replay c.in_ok-places.places c.recording.ensures.valid
    (c.in_ok-replay.ensures.plan ∙ same) (c.in_ok-replay.ensures.state ∙ ap start same) c.in_ok-places.ensures.ordered
    c.in_ok-places.ensures.whole (items_in c.in_ok-pcs.pcs)
    (c.in_ok-pcs.ensures
    ∙ ap (λ (r : Recording). replicate r.params.cores []) c.recording-2.ensures.recording))
