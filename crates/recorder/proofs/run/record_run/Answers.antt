use Rattle.std.proofs.Common.{subst}
use Rattle.image_mem.specs.Contents.{Contents}
use Rattle.schedule_pick.specs.Choices.{Choices}
use Rattle.recorder.specs.Promises.{IsRecordingOf}
use Rattle.recorder.proofs.run.record_run.Goals as goal

pub returns : goal.returns
returns c =
    let made = c.in_ok-recording.recording in
    record {
      outcome = c.in_ok-ran.ensures.outcome;
      recorded = subst (λ (s : Choices). IsRecordingOf c.args.image c.args.params s made) c.in_ok-again.ensures
          (subst (λ (i : Contents). IsRecordingOf i c.args.params c.in_ok-again.again made) c.in_ok-ran.ensures.image
          c.in_ok-recording.ensures);
    }
