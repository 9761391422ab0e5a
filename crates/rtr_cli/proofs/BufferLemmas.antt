-- What a replay of a recording of cores with store buffers comes to: it is an outcome over the recording's image, and
-- nothing but want of memory refuses the recording of a run.
use Rattle.std.proofs.Common.{◌≡◌, ◌∙◌, refl, sym, subst}
use Rattle.replay_core.specs.declared.answers.ReplayFault.{ReplayFault}
use Rattle.replay_core.specs.declared.answers.ReplayFault.TheVariants as replays
use Rattle.replay_core.specs.Orders.{low_order}
use Rattle.replay_core.specs.Plans.{recorded_image}
use Rattle.replay_core.specs.Play.{start}
use Rattle.replay_core.proofs.Lists.{valued_short_law}
use Rattle.replay_audit.specs.declared.audit_fault.AuditFault.{AuditFault}
use Rattle.replay_audit.specs.declared.audit_fault.AuditFault.TheVariants as faults
use Rattle.rv_core.specs.declared.outcome.Outcome.{Outcome}
use Rattle.state_text.specs.States.{IsOutcomeOf}
use Rattle.tso_codec.specs.declared.recording.TsoRecording.{TsoRecording}
use Rattle.tso_codec.specs.Validity.{IsTso, plain_of}
use Rattle.tso_replay.specs.Replays.{TsoRefuses, TsoReplays, tso_given, tso_plan}
use Rattle.replay_audit.proofs.PlaySizes.{valued_fits}
use Rattle.tso_replay.proofs.ToldReplays.{ordered_agree}
use Rattle.tso_recordings.proofs.Replays.{least_replays}
use Rattle.rtr_cli.specs.Buffers.{IsTsoReplayed, TsoEnds, TsoStops, exit_of_replay, tso_outcome}
use Rattle.rtr_cli.specs.Completeness.{IsOfBuffers}

-- what is replayed is an outcome over the recording's image
pub tso_fits : (r : TsoRecording) (outcome : Outcome) → IsTso r → TsoReplays r outcome
    → IsOutcomeOf (recorded_image (plain_of r)) outcome
tso_fits r outcome valid is =
    let fits = valued_fits (tso_given r) (tso_plan r) (low_order (tso_plan r)) in
    let low : IsOutcomeOf (recorded_image (plain_of r)) (tso_outcome r) =
    record {
      memory = valid.plain.params.words;
      words = fits.words;
      loads = fits.lists ∙ sym fits.cores;
      within = fits.within;
    } in
    subst (λ (o : Outcome). IsOutcomeOf (recorded_image (plain_of r)) o) (sym is.outcome_is) low

-- and what is promised of it
pub tso_promised : (r : TsoRecording) (outcome : Outcome) → IsTso r → TsoReplays r outcome → IsTsoReplayed r
tso_promised r outcome valid is = record {
  whole = is.whole;
  plays = (valued_short_law (tso_given r) (tso_plan r) (start (tso_plan r)) (low_order (tso_plan r))).1 is.plays;
  every_order = λ orders. ordered_agree r outcome valid is orders;
  told = λ list left told. least_replays r list left valid told;
}

-- a command whose replay was refused ends so
pub replay_ends : (r : TsoRecording) (fault : ReplayFault) → TsoRefuses r fault → TsoEnds r (exit_of_replay fault)
replay_ends r (replays.Stuck cut) h = h
replay_ends r (replays.Short core count) h = h
replay_ends r replays.OutOfMemory h = tt

-- no replay of the recording of a run stops
pub not_stopped : (r : TsoRecording) (fault : AuditFault) → IsOfBuffers r → TsoStops r fault
    → fault ≡ faults.OutOfMemory
not_stopped r (faults.Stuck cut) h it =
    let told = least_replays r h.list h.outcome h.valid h.told in
    let none : replays.Stuck cut ≡ replays.OutOfMemory = told.not_refused (replays.Stuck cut) it in absurd cc
not_stopped r (faults.Short core count) h it =
    let told = least_replays r h.list h.outcome h.valid h.told in
    let none : replays.Short core count ≡ replays.OutOfMemory = told.not_refused (replays.Short core count) it in
    absurd cc
not_stopped r (faults.Undetermined first second) h it = absurd it
not_stopped r faults.OutOfMemory h it = refl
