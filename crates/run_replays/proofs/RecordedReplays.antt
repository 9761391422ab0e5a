-- The replays of what a run records, by the order in which its instructions retired.
use Rattle.std.proofs.Common.{◌≡◌, ◌∙◌, refl, sym, ap, subst, ℕ, List, None}
use Rattle.image_mem.specs.Contents.{Contents}
use Rattle.rtr_types.specs.Parameters.{Fits}
use Rattle.rtr_types.specs.declared.access.Access.{Access}
use Rattle.rtr_types.specs.declared.pairs.Which.{Which}
use Rattle.rtr_types.specs.declared.pairs.Which.TheVariants.{Reduced}
use Rattle.rtr_types.specs.declared.params.Params.{Params}
use Rattle.rv_core.specs.declared.outcome.Outcome.{Outcome}
use Rattle.schedule_pick.specs.Choices.{Choices}
use Rattle.conflict_edge.specs.Conflicts.{StandsIn}
use Rattle.race_log.specs.Validity.{Valid}
use Rattle.race_log.specs.declared.recording.Recording.{Recording}
use Rattle.run_outcome.specs.Outcomes.{outcome_of}
use Rattle.run_records.specs.Recordings.{run_accesses, recording_of}
use Rattle.replay_core.proofs.Lists.{short_law}
use Rattle.replay_core.specs.Answers.{Refuses}
use Rattle.replay_core.specs.declared.answers.ReplayFault.{ReplayFault}
use Rattle.replay_core.specs.declared.answers.ReplayFault.TheVariants as replaying
use Rattle.replay_core.specs.Orders.{IsReplayOrder}
use Rattle.replay_core.specs.Plans.{Plan, recorded_image, plan_of}
use Rattle.replay_core.specs.Play.{first_short, loads_at, start}
use Rattle.replay_audit.proofs.OrdersAgree.{any_whole_law, every_order_law}
use Rattle.replay_audit.specs.Audits.{AuditRefuses, Findings, IsAuditOf, Passed}
use Rattle.replay_audit.specs.Determinate.{Decides, IsDeterminate, low_accesses, low_order_of, low_outcome}
use Rattle.replay_audit.specs.Laws.{Agrees}
use Rattle.replay_audit.specs.declared.audit_fault.AuditFault.{AuditFault}
use Rattle.replay_audit.specs.declared.audit_fault.AuditFault.TheVariants as auditing
use Rattle.replay_audit.proofs.RefusedLogs as refused
use Rattle.run_replays.specs.Orders.{order_of}
use Rattle.run_replays.specs.Plays.{IsOfRun, PlaysRun}
use Rattle.run_replays.proofs.RunLaws.{of_run, run_is_play}
use Rattle.run_records.proofs.Recordings.{recording_valid_law}
use Rattle.run_replays.specs.Replays.{FollowsRun, ReducedReplaysLaw, RunReplaysLaw}
use Rattle.run_replays.proofs.DecidingOrder.{reduced_decides}

-- a recording of the run has its image
image_same : (image : Contents) (params : Params) (schedule : Choices) (r : Recording) → image.words ≡ params.words
    → IsOfRun image params schedule r → recorded_image r ≡ image
image_same image params schedule r words h =
    ap (λ (bytes : List ℕ). made bytes r.params.words) h.image_is
    ∙ ap (λ (p : Params). made image.bytes p.words) h.params_are
    ∙ ap (made image.bytes) (sym words)
  where
    made : List ℕ → ℕ → Contents
    made bytes n = record { bytes = bytes; words = n }

module _ (image : Contents) (params : Params) (schedule : Choices) (r : Recording) (which : Which) (fits : Fits params)
    (words : image.words ≡ params.words) (valid : Valid r) (h : IsOfRun image params schedule r)
    (decides : Decides (plan_of which r) (order_of image params schedule)) where
  abbrev p : Plan
  p = plan_of which r

  abbrev order : List ℕ
  order = order_of image params schedule

  run : PlaysRun image params schedule (plan_of which r) (order_of image params schedule)
  run = run_is_play image params schedule r which fits words h

  follows : (other : List ℕ) → IsReplayOrder (plan_of which r) other →
      FollowsRun image params schedule (plan_of which r) other
  follows other ordered =
      let agrees : Agrees p order other = every_order_law which r order other valid decides ordered in
      record {
        plays = agrees.plays;
        accesses = λ a stands. subst (λ (l : List Access). StandsIn l a) run.accesses (agrees.accesses a stands);
        loads = λ c. (
          (agrees.loads c).0,
          ap (λ (s : Outcome). loads_at s c) (sym run.outcome) ∙ (agrees.loads c).1,
        );
        further = agrees.further;
        ends = λ whole. agrees.outcome whole ∙ run.outcome;
      }

  determinate : IsDeterminate which r
  determinate = (any_whole_law which r order valid decides.ordered decides.whole).1 decides

  low_ends : low_outcome which r ≡ outcome_of image params schedule
  low_ends = (follows (low_order_of which r) determinate.ordered).ends determinate.whole

  no_short : first_short (plan_of which r) (start (plan_of which r)) (low_order_of which r) ≡ None
  no_short = (short_law p (start p) (low_order_of which r)).0 determinate.plays

  not_replayed : (fault : ReplayFault) → Refuses (plan_of which r) fault → fault ≡ replaying.OutOfMemory
  not_replayed (replaying.Stuck cut) it = absurd (it.not_whole determinate.whole)
  not_replayed (replaying.Short core count) it = let none = no_short in absurd cc
  not_replayed replaying.OutOfMemory it = refl

  not_audited : (fault : AuditFault) → AuditRefuses which r fault → fault ≡ auditing.OutOfMemory
  not_audited (auditing.Stuck cut) it = absurd (it.not_whole determinate.whole)
  not_audited (auditing.Short core count) it = let none = no_short in absurd cc
  not_audited (auditing.Undetermined first second) it =
      absurd (refused.refused_law which r (auditing.Undetermined first second) it (λ is. cc) determinate)
  not_audited auditing.OutOfMemory it = refl

  -- the low order's accesses are the run's
  low_touched : (a : Access) → StandsIn (low_accesses which r) a → StandsIn (run_accesses image params schedule) a
  low_touched a stands = (follows (low_order_of which r) determinate.ordered).accesses a stands

  run_touched : (a : Access) → StandsIn (run_accesses image params schedule) a → StandsIn (low_accesses which r) a
  run_touched a stands =
      (every_order_law which r (low_order_of which r) order valid determinate decides.ordered).accesses a
      (subst (λ (l : List Access). StandsIn l a) (sym run.accesses) stands)

-- what an audit of the recording by the log says of them
passed_here : (which : Which) (r : Recording) (a : Findings) → IsAuditOf which r a → Passed which r a.outcome a.accesses
passed_here which r a it =
    subst (λ (w : Which). Passed w r a.outcome a.accesses) it.which_is
    (subst (λ (s : Recording). Passed a.which s a.outcome a.accesses) it.recording_is it.passed)

pub run_replays : RunReplaysLaw
run_replays image params schedule r which fits words valid h decides =
    let known : IsDeterminate which r = determinate image params schedule r which fits words valid h decides in
    let low = low_ends image params schedule r which fits words valid h decides in
    record {
      every_order = follows image params schedule r which fits words valid h decides;
      determinate = known;
      low = low;
      image_is = image_same image params schedule r words h;
      answers = record {
        replayed = λ outcome it. it.outcome_is ∙ low;
        not_replayed = not_replayed image params schedule r which fits words valid h decides;
        audited = λ a it. (passed_here which r a it).outcome_is ∙ low;
        touched = λ a it b.
            let same = (passed_here which r a it).accesses_is in (
              λ stands.
                  low_touched image params schedule r which fits words valid h decides b
                  (subst (λ (l : List Access). StandsIn l b) same stands),
              λ stands.
                  subst (λ (l : List Access). StandsIn l b) (sym same)
                  (run_touched image params schedule r which fits words valid h decides b stands),
            );
        not_audited = not_audited image params schedule r which fits words valid h decides;
      };
    }

pub reduced_replays : ReducedReplaysLaw
reduced_replays image params schedule fits words room =
    run_replays image params schedule (recording_of image params schedule) Reduced fits words
    (recording_valid_law image params schedule fits words room) (of_run image params schedule)
    (reduced_decides image params schedule fits words)
