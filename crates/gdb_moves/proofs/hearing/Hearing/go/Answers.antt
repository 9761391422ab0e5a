use Rattle.std.proofs.Common.{ap, subst, ◌∙◌}
use Rattle.std.specs.Prelude.{IfOk}
use Rattle.std.proofs.lemmas.Result.{IfOk-weaker}
use Rattle.gdb_packets.specs.declared.replies.Stop as stops
use Rattle.gdb_packets.specs.declared.replies.Why.{Why}
use Rattle.rtr_types.specs.declared.pairs.Which.{Which}
use Rattle.race_log.specs.declared.recording.Recording.{Recording}
use Rattle.cut_replay.specs.ClosedCuts.{IsClosed}
use Rattle.debug_place.specs.Places.{cut_at}
use Rattle.gdb_moves.specs.Directions.{IsLimit}
use Rattle.gdb_moves.specs.Moves.{Walks, plain_stop}
use Rattle.gdb_moves.specs.Stopping.{stopping_of}
use Rattle.gdb_moves.proofs.AheadLemmas.{limit_ahead}
use Rattle.gdb_moves.proofs.hearing.Hearing.go.Goals as goal

pub walk-requires-clause-ahead : goal.walk-requires-clause-ahead
walk-requires-clause-ahead c =
    let old = c.args.place.now in
    limit_ahead c.args.direction old.recording c.limit-to.result (cut_at old)
    (subst (λ (r : Recording). IsLimit c.args.direction r c.limit-to.result) c.requires.run.recording
    c.limit-to.ensures.limit)
    c.cut-to.ensures.stands.closed.is_cut

pub returns-clause-goes : goal.returns-clause-goes
returns-clause-goes c =
    let old = c.args.place.now in
    let to = c.limit-to.result in
    let a = c.args.self.now.audited.now in
    let walks = subst (λ (told : stops.Stop). IfOk c.walk.result (λ stop.
    Walks c.args.direction (stopping_of c.args.self.now) c.args.lead old to c.walk.new.place stop told))
    (c.plain_stop.ensures ∙ ap (λ (why : Why). plain_stop c.args.lead why) c.limit_why.ensures) c.walk.ensures.walks in
    IfOk-weaker c.walk.result _ _ (λ stop way. record {
      to = to;
      closed = subst (λ (w : Which). IsClosed w old.recording to) c.requires.run.which
          (subst (λ (r : Recording). IsClosed a.which r to) c.requires.run.recording c.limit-to.ensures.closed);
      limit = subst (λ (r : Recording). IsLimit c.args.direction r to) c.requires.run.recording
          c.limit-to.ensures.limit;
      walks = way;
    }) walks
