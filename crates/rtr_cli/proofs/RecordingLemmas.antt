-- What a recording has of its run.
use Rattle.std.proofs.Common.{◌≡◌, ◌∙◌, refl, sym, ap, subst, Bool, ℕ, ◌*◌, ◌≤◌, List, length, Result, Ok, arith}
use Rattle.image_mem.specs.Contents.{Contents}
use Rattle.rtr_types.specs.Parameters.{Fits}
use Rattle.rtr_types.specs.declared.pairs.Which.{Which}
use Rattle.rtr_types.specs.declared.pairs.Which.TheVariants.{Reduced}
use Rattle.rtr_types.specs.declared.params.Params.{Params}
use Rattle.rv_core.specs.declared.outcome.Outcome.{Outcome}
use Rattle.schedule_pick.specs.Choices.{Choices, choice_at, choices_of}
use Rattle.log_codec.specs.Reading.{whole_at}
use Rattle.log_codec.specs.Spelling.{spelling}
use Rattle.race_log.specs.declared.recording.Recording.{Recording}
use Rattle.run_outcome.proofs.RunPlaces.{run_ends}
use Rattle.run_outcome.specs.Outcomes.{outcome_of}
use Rattle.run_records.specs.Recordings.{recording_of}
use Rattle.replay_audit.specs.Audits.{AuditRefuses, Findings, IsAuditOf}
use Rattle.replay_audit.specs.declared.audit_fault.AuditFault.{AuditFault}
use Rattle.replay_audit.specs.declared.audit_fault.AuditFault.TheVariants as faults
use Rattle.replay_core.specs.Plans.{recorded_image as replayed_image}
use Rattle.run_records.proofs.Recordings.{recorded_law}
use Rattle.run_replays.proofs.BothLogs.{both_replay, run_regulated}
use Rattle.run_replays.specs.Replays.{ReplaysRun}
use Rattle.state_text.specs.States.{state_lines}
use Rattle.state_text.specs.declared.exit.Exit.{Exit}
use Rattle.state_text.specs.declared.exit.Exit.TheVariants as exits
use Rattle.tool_words.specs.declared.command.RunWords.{RunWords}
use Rattle.image_elf.specs.declared.elf_fault.ElfFault.{ElfFault}
use Rattle.tool_words.specs.declared.command.Command.TheVariants.{Certify, Record, Replay, Run}
use Rattle.rtr_cli.specs.Inputs.{SpellsSome, image_of, loaded}
use Rattle.rtr_cli.specs.Replays.{AuditEnds, replay_lines}
use Rattle.rtr_cli.specs.Runs.{RunEnds}
use Rattle.rtr_cli.specs.Promises.{KeepsRun, Promised}
use Rattle.rtr_cli.specs.Completeness.{IsOfRecord}
use Rattle.rtr_cli.proofs.AcceptedLemmas.{accepted_is_not_refused}

-- ---- what every recording keeps of its run

-- what is said of the recording that was read
of_read : (bytes : List ℕ) (r : Recording) (P : Recording → Type 0) → whole_at bytes ≡ Ok r
    → SpellsSome (whole_at bytes) P → P r
of_read bytes r P is h = subst (λ (read : Result Recording ℕ). SpellsSome read P) is h

pub keeps_run : (params : Params) (choices : List ℕ) (seed : ℕ) (input : List ℕ) → Fits params
    → length input ≤ 4 * params.words → KeepsRun params choices seed input
keeps_run params choices seed input fits room =
    let image : Contents = image_of params input in
    let schedule : Choices = choices_of choices seed in
    let r : Recording = recording_of image params schedule in
    let recorded = recorded_law image params schedule fits refl room in
    let replays : (which : Which) → ReplaysRun image params schedule which r = λ which.
    both_replay image params schedule which fits refl room in
    let of_record : IsOfRecord r =
    record {
      params = params;
      choices = choices;
      seed = seed;
      bytes = input;
      fits = fits;
      room = room;
      recorded = refl;
    } in
    let accepted : SpellsSome (whole_at (spelling r)) IsOfRecord =
    subst (λ (read : Result Recording ℕ). SpellsSome read IsOfRecord) (sym recorded.read_back) of_record in
    record {
      ended = run_ends image params (choice_at schedule)
          (record { cores = fits.cores; limit = omega (arith, fits.limit) });
      recorded = recorded;
      regulates = run_regulated image params schedule fits refl room;
      replays = replays;
      prints = λ which threads loads out.
          let same : replay_lines which loads r ≡ state_lines (outcome_of image params schedule) image loads =
          ap (λ (o : Outcome). state_lines o (replayed_image r) loads) (replays which).low
          ∙ ap (λ (i : Contents). state_lines (outcome_of image params schedule) i loads) (replays which).image_is in (
            (λ replayed. of_read (spelling r) r (λ q. out ≡ replay_lines which loads q) recorded.read_back replayed
                ∙ same),
            (λ ran.
                subst (λ (read : Result Recording ℕ). SpellsSome read (λ q. out ≡ replay_lines which loads q))
                (sym recorded.read_back)
                (ran ∙ sym same)),
          );
      refuses = λ which threads loads exit it. accepted_is_not_refused (Replay which threads loads) (spelling r) exit
          accepted it;
      certified = λ exit it. accepted_is_not_refused Certify (spelling r) exit accepted it;
    }

-- so the promise of `record` stands whatever its options are and whatever image its input is
pub record_promised : (run : RunWords) (input bytes : List ℕ) → loaded run input ≡ Ok bytes → Fits run.params
    → length bytes ≤ 4 * run.params.words → Promised (Record run) input
record_promised run input bytes is fits room =
    subst (λ (read : Result (List ℕ) ElfFault). SpellsSome read (λ b. KeepsRun run.params run.choices run.seed b))
    (sym is)
    (keeps_run run.params run.choices run.seed bytes fits room)

-- what `run` prints is taken where the run ends
pub run_promised : (run : RunWords) (loads : Bool) (input bytes : List ℕ) → loaded run input ≡ Ok bytes →
    Fits run.params → Promised (Run run loads) input
run_promised run loads input bytes is fits =
    subst (λ (read : Result (List ℕ) ElfFault). SpellsSome read
    (λ b. RunEnds (image_of run.params b) run.params (choice_at (choices_of run.choices run.seed)))) (sym is)
    (run_ends (image_of run.params bytes) run.params (choice_at (choices_of run.choices run.seed))
    (record { cores = fits.cores; limit = omega (arith, fits.limit) }))

-- ---- a run's recording in an audit

-- what passes comes to what the run came to
pub run_audited : (image : Contents) (params : Params) (schedule : Choices) (a : Findings) → Fits params
    → image.words ≡ params.words
    → length image.bytes ≤ 4 * params.words → IsAuditOf Reduced (recording_of image params schedule) a
    → a.outcome ≡ outcome_of image params schedule
run_audited image params schedule a fits words room audited =
    (both_replay image params schedule Reduced fits words room).answers.audited a audited

-- a command ends for want of memory where its audit is refused for nothing else
audit_memory : (which : Which) (r : Recording) (exit : Exit)
    → ((fault : AuditFault) → AuditRefuses which r fault → fault ≡ faults.OutOfMemory)
    → AuditEnds which r exit → exit ≡ exits.OutOfMemory
audit_memory which r (exits.Stuck cut) knows it = let none = knows (faults.Stuck cut) it in absurd cc
audit_memory which r (exits.Short core count) knows it = let none = knows (faults.Short core count) it in absurd cc
audit_memory which r (exits.Undetermined first second) knows it = let none = knows (faults.Undetermined first second)
    it in absurd cc
audit_memory which r (exits.CheckFailed failure) knows it = absurd it
audit_memory which r exits.OutOfMemory knows it = refl
audit_memory which r (exits.Bad part) knows it = absurd it
audit_memory which r exits.Done knows it = absurd it
audit_memory which r exits.Usage knows it = absurd it
audit_memory which r exits.TooLarge knows it = absurd it
audit_memory which r exits.ReadFault knows it = absurd it
audit_memory which r exits.WriteFault knows it = absurd it
audit_memory which r (exits.Elf fault) knows it = absurd it
audit_memory which r (exits.NoInstr at) knows it = absurd it
audit_memory which r (exits.TooMany vectors edges) knows it = absurd it
audit_memory which r (exits.NotShown vector) knows it = absurd it

-- nothing but want of memory refuses it
pub run_not_refused : (image : Contents) (params : Params) (schedule : Choices) (exit : Exit) → Fits params
    → image.words ≡ params.words
    → length image.bytes ≤ 4 * params.words → AuditEnds Reduced (recording_of image params schedule) exit
    → exit ≡ exits.OutOfMemory
run_not_refused image params schedule exit fits words room ends =
    audit_memory Reduced (recording_of image params schedule) exit
    (both_replay image params schedule Reduced fits words room).answers.not_audited ends
