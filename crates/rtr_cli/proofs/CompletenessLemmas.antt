-- A command whose input is accepted ends at Done, unless memory runs out or a stream fails; and what a command wrote is
-- accepted by those that read it.
use Rattle.std.proofs.Common.{◌≡◌, ◌∙◌, refl, sym, ap, subst, ℕ, ◌*◌, ◌≤◌, Bool, true, false, List, ◌++◌, length}
use Rattle.std.proofs.Common.{Result, Ok, Err, inr}
use Rattle.std.proofs.lemmas.List.{append-nil}
use Rattle.std.specs.Prelude.{if◌then◌else◌, Option, Some, None}
use Rattle.std.specs.Io.KnownBytes.{Consumes, IsAtEnd}
use Rattle.image_elf.specs.declared.elf_fault.ElfFault.{ElfFault}
use Rattle.image_elf.specs.Faults.{elf_fault}
use Rattle.image_elf.specs.FlatImage.{flat_image}
use Rattle.image_elf.proofs.RoomLemmas.{flat_image_fits}
use Rattle.log_codec.specs.Reading.{whole_at}
use Rattle.race_log.specs.declared.recording.Recording.{Recording}
use Rattle.run_records.proofs.Recordings.{recorded_law}
use Rattle.replay_audit.specs.Audits.{IsInstrOf}
use Rattle.rtr_types.specs.Parameters.{Fits}
use Rattle.schedule_pick.specs.Choices.{choices_of}
use Rattle.state_text.specs.declared.exit.Exit.{Exit}
use Rattle.tool_words.specs.declared.command.Command.{Command}
use Rattle.tool_words.specs.declared.command.RunWords.{RunWords}
use Rattle.tool_words.specs.declared.command.Command.TheVariants.{CheckThin}
use Rattle.vector_reduce.specs.declared.thinned.Thinned.{Thinned}
use Rattle.vector_reduce.specs.Answers.{AreFew}
use Rattle.vector_reduce.specs.Laws.{SpelledIsRead}
use Rattle.vector_reduce.specs.Reading.{thinned_at}
use Rattle.rtr_cli.specs.Answers.{IsTaken}
use Rattle.rtr_cli.specs.Inputs.{SpellsSome, file_bytes_max, image_of, loaded, most_of, run_bytes_max, unless_faulty}
use Rattle.rtr_cli.specs.Runs.{recorded_bytes, recording_of_bytes}
use Rattle.rtr_cli.specs.Thinnings.{IsThinnedTo}
use Rattle.rtr_cli.specs.Commands.{Refuses}
use Rattle.rtr_cli.specs.Completeness.{Accepts, EndsWell, HasLeft, IsOfRecord, IsOfThin, RecordingIsAccepted}
use Rattle.rtr_cli.specs.Completeness.{WrittenIsAccepted}
use Rattle.rtr_cli.proofs.AcceptedLemmas.{accepted_is_not_refused}
use Rattle.rtr_cli.proofs.BufferRuns.{buffered_is_accepted}
use Rattle.rtr_cli.proofs.CertificatesAccepted.{check_accepts}
use Rattle.rtr_cli.proofs.MigratedReading.{migrated_reads_the_same}

-- ---- what the top call answers

-- what was taken is what the input had left
all_taken : (left' : Option (List ℕ)) (bytes taken : List ℕ) → Consumes (Some bytes) left' taken → IsAtEnd left'
    → taken ≡ bytes
all_taken None bytes taken was end = absurd was
all_taken (Some rest) bytes taken was end = sym (append-nil taken) ∙ ap (λ (ys : List ℕ). taken ++ ys) (sym end)
    ∙ sym was

taken_is_left : (most : Option ℕ) (left left' : Option (List ℕ)) (bytes taken : List ℕ) → HasLeft most left bytes
    → IsTaken most left left' taken → taken ≡ bytes
taken_is_left None left left' bytes taken is was = was.1 ∙ sym is
taken_is_left (Some most) left left' bytes taken is was =
    all_taken left' bytes taken (subst (λ (old : Option (List ℕ)). Consumes old left' taken) is.0 was.taken) was.end

-- a call that took its input and gave nothing lacked memory
pub lacks_memory : (command : Command) (exit : Exit) (left left' : Option (List ℕ)) (bytes taken : List ℕ)
    → HasLeft (most_of command) left bytes
    → Accepts command bytes → IsTaken (most_of command) left left' taken → Refuses command taken exit → EndsWell exit
lacks_memory command exit left left' bytes taken is a was refused =
    let same : taken ≡ bytes = taken_is_left (most_of command) left left' bytes taken is was in
    inr (accepted_is_not_refused command bytes exit a
    (subst (λ (input : List ℕ). Refuses command input exit) same refused))

-- ---- what a command wrote

-- the image of a run fits the memory
fits_by : (elf : Bool) (fault : Option ElfFault) (words : ℕ) (input bytes : List ℕ) → elf_fault input words ≡ fault
    → length input ≤ (if elf then file_bytes_max else 4 * words)
    → (if elf then unless_faulty (flat_image input) fault else Ok input) ≡ Ok bytes
    → length bytes ≤ 4 * words
fits_by false fault words input bytes e within is =
    let same : input ≡ bytes = cc in
    subst (λ (b : List ℕ). length b ≤ 4 * words) same within
fits_by true None words input bytes e within is =
    let same : flat_image input ≡ bytes = cc in
    subst (λ (b : List ℕ). length b ≤ 4 * words) same (flat_image_fits input words e)
fits_by true (Some fault) words input bytes e within is = absurd cc

loaded_fits : (run : RunWords) (input bytes : List ℕ) → length input ≤ run_bytes_max run → loaded run input ≡ Ok bytes
    → length bytes ≤ 4 * run.params.words
loaded_fits run input bytes within is = fits_by run.elf (elf_fault input run.params.words) run.params.words input
    bytes refl within is

-- what is said twice of something that was read
both_hold : {X E : Type 0} (read : Result X E) (P Q : X → Type 0) → SpellsSome read P → SpellsSome read Q
    → SpellsSome read (λ x. P x × Q x)
both_hold (Ok x) P Q h k = (h, k)
both_hold (Err e) P Q h k = h

accepted_recording : (out : List ℕ) (r : Recording) → whole_at out ≡ Ok r → IsOfRecord r → RecordingIsAccepted out
accepted_recording out r is h =
    let of_record : SpellsSome (whole_at out) IsOfRecord = subst
    (λ (read : Result Recording ℕ). SpellsSome read IsOfRecord) (sym is) h in
    let any : SpellsSome (whole_at out) (λ q. Unit {0}) = subst
    (λ (read : Result Recording ℕ). SpellsSome read (λ q. Unit {0})) (sym is) tt in
    record {
      printed = any;
      replayed = λ which threads loads. of_record;
      told = λ which at latest loads has. both_hold (whole_at out) IsOfRecord (λ q. IsInstrOf q at) of_record has;
      thinned = λ certify few. both_hold (whole_at out) IsOfRecord AreFew of_record few;
      migrated = any;
      certified = of_record;
    }

recorded_is_accepted : (run : RunWords) (out bytes : List ℕ) → Fits run.params → length bytes ≤ 4 * run.params.words
    → out ≡ recorded_bytes run bytes
    → RecordingIsAccepted out
recorded_is_accepted run out bytes fits room made =
    let recorded = recorded_law (image_of run.params bytes) run.params (choices_of run.choices run.seed) fits refl
    room in
    accepted_recording out (recording_of_bytes run.params run.choices run.seed bytes)
    (ap whole_at made ∙ recorded.read_back)
    (record {
      params = run.params;
      choices = run.choices;
      seed = run.seed;
      bytes = bytes;
      fits = fits;
      room = room;
      recorded = refl;
    })

made_of_loaded : (run : RunWords) (input out : List ℕ) (found : Result (List ℕ) ElfFault) → loaded run input ≡ found
    → Fits run.params
    → length input ≤ run_bytes_max run → SpellsSome found (λ bytes. out ≡ recorded_bytes run bytes)
    → RecordingIsAccepted out
made_of_loaded run input out (Ok bytes) is fits within made =
    recorded_is_accepted run out bytes fits (loaded_fits run input bytes within is) made
made_of_loaded run input out (Err fault) is fits within made = absurd made

migrated_of : (out : List ℕ) (read : Result Recording ℕ) → whole_at out ≡ read → SpellsSome read IsOfRecord
    → RecordingIsAccepted out
migrated_of out (Ok r) is h = accepted_recording out r is h
migrated_of out (Err part) is h = absurd h

-- a thin file is read back
thinned_of : SpelledIsRead → (input out : List ℕ) (read : Result Recording ℕ)
    → SpellsSome read (λ r. IsThinnedTo true r out) → Accepts CheckThin out
thinned_of reads input out (Ok r) (t, thinning, is) =
    let read : thinned_at out ≡ Ok t = ap thinned_at is ∙ reads t thinning.thin in
    let of_thin : IsOfThin t = (r, thinning) in
    subst (λ (found : Result Thinned ℕ). SpellsSome found IsOfThin) (sym read) of_thin
thinned_of reads input out (Err part) made = absurd made

pub written_is_accepted : SpelledIsRead → WrittenIsAccepted
written_is_accepted reads = record {
  recorded = λ run input out fits within made. made_of_loaded run input out (loaded run input) refl fits within made;
  migrated = λ input out bytes made a. migrated_of out (whole_at input) (migrated_reads_the_same input out bytes made)
      a;
  certified = check_accepts;
  thinned = λ input out made. thinned_of reads input out (whole_at input) made;
  buffered = buffered_is_accepted;
}
