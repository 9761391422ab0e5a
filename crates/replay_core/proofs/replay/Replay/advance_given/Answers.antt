-- The core's own step says what retires, and the memory and the counts change at its place alone.
use Rattle.std.proofs.Common.{◌∙◌, ◌<◌, length, ap, sym, subst, arith, get_or-set_same}
use Rattle.std.proofs.lemmas.List.{get_or_default}
use Rattle.image_mem.specs.Contents.{Contents}
use Rattle.rv_core.specs.declared.core_state.Core.{Core}
use Rattle.rv_core.specs.declared.outcome.Outcome.{Outcome}
use Rattle.rv_core.specs.States.{starting}
use Rattle.std.specs.Prelude.{slice_set}
use Rattle.rv_core.specs.Steps.{access_of, is_done}
use Rattle.replay_core.specs.Plans.{Plan, plan_of}
use Rattle.replay_core.specs.Orders.{counts_in}
use Rattle.replay_core.specs.Play.{Use}
use Rattle.replay_core.specs.Answers.{UnderWay, RetiresGiven, UsesWithin}
use Rattle.replay_core.proofs.Ready.{ready_true}
use Rattle.replay_core.proofs.PlaceSteps.{used_within, shared_within, retires_by}
use Rattle.replay_core.proofs.replay.Replay.advance_given.Goals as goal

pub found-old-requires : goal.found-old-requires
found-old-requires c =
    used_within c.image-image.result.now c.index-2.result.now c.access-used.result _
    (c.access-used.ensures ∙ ap access_of c.need_by_op-need.ensures)
    (c.self.invariant.all_words
    ∙ sym (ap (λ (i : Contents). i.words) (c.image-image.ensures ∙ c.self.invariant.image_is)))

pub leave-requires : goal.leave-requires
leave-requires c =
    subst (λ (u : Use). UsesWithin u (length c.self.inside.noted.memory)) (sym c.shared-mine.ensures)
    (shared_within c.heeded-given.result c.access-used.result (length c.self.inside.noted.memory)
    (used_within c.image-image.result.now c.index-2.result.now c.access-used.result _
    (c.access-used.ensures ∙ ap access_of c.need_by_op-need.ensures)
    (c.self.invariant.all_words
    ∙ sym (ap (λ (i : Contents). i.words) (c.image-image.ensures ∙ c.self.invariant.image_is)))))

pub returns-clause-place : goal.returns-clause-place
returns-clause-place c =
    let all = c.self.invariant in
    let r = c.self.inside.recording.now in
    let plan_is = ap (λ (u : UnderWay). u.plan) c.self.view_is in
    let ready = ready_true c.args.self.now.plan (counts_in c.args.self.now.state) c.args.core c.requires.ready in
    let inside : c.args.core < length r.totals =
    subst (λ (p : Plan). c.args.core < length p.totals) (sym plan_is) ready.inside in
    let below : c.args.core < length c.self.inside.cores.items = omega (arith, all.all_cores, all.valid.each_core) in
    let s : Outcome = record {
      cores = c.self.inside.cores.items;
      words = c.self.inside.noted.memory;
      loads =
          c.self.inside.noted.loads.lists;
    } in
    let left : Outcome =
    record {
      cores = slice_set c.self.inside.cores.items c.args.core c.finish_op-value.new.self;
      words = c.leave.new.memory;
      loads = c.note.new.loads.lists;
    } in
    let by = retires_by c.image-image.result.now
    (plan_of c.self.inside.which r) s c.args.core c.args.given c.heeded-given.result c.index-2.result.now
    c.index_mut.result.now c.finish_op-value.new.self
    c.access-used.result c.shared-mine.result c.found-old.result c.finish_op-value.result c.count-count.result
    c.leave.new.memory c.note.new.loads.lists c.access.result (c.image-image.ensures ∙ all.image_is)
    (c.index-2.ensures ∙ get_or_default s.cores c.args.core c.index-2.result.now (starting 0 0) below)
    (c.index_mut.ensures.value
    ∙ get_or_default s.cores c.args.core c.index_mut.result.now (starting 0 0) below)
    (sym (ap is_done c.need_by_op-need.ensures) ∙ sym c.is_done.ensures ∙ c.if-is_done.false) (c.access-used.ensures
    ∙ ap access_of c.need_by_op-need.ensures) c.heeded-given.ensures c.shared-mine.ensures c.found-old.ensures
    c.finish_op-value.ensures.core
    c.finish_op-value.ensures.value
    (c.count-count.ensures
    ∙ ap (λ (k : Core). k.count)
    (c.index-3.ensures ∙ get_or-set_same s.cores c.args.core c.finish_op-value.new.self c.index-3.result.now below))
    c.leave.ensures c.note.ensures c.access.ensures in
    subst (λ (u : UnderWay). RetiresGiven u.plan u.state c.args.core c.args.given c.access.result left) c.self.view_is
    by
