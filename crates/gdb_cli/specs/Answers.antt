-- What each way to end says of the input and the output.
use Rattle.std.specs.Prelude.{◌≡◌, ℕ, ◌⊎◌, List, Option, Some, None}
use Rattle.std.specs.Io.KnownBytes.{Appends, Keeps}
use Rattle.rtr_cli.specs.Answers.{Answers as AnswersCommand, IsTaken, Tells}
use Rattle.rtr_cli.specs.Inputs.{most_of}
use Rattle.rtr_cli.specs.Promises.{Promised}
use Rattle.rtr_cli.specs.Completeness.{Accepts, EndsWell, HasLeft, IsFaultless}
use Rattle.rtr_io.specs.Faults.{HasRisen}
use Rattle.rtr_io.specs.Moved.{GivesPart}
use Rattle.state_text.specs.Exits.{fault_line, status_of}
use Rattle.state_text.specs.declared.exit.Exit.{Exit}
use Rattle.state_text.specs.declared.exit.Exit.TheVariants as exits
use Rattle.gdb_cli.specs.declared.words.Moment.{Moment}
use Rattle.gdb_cli.specs.Cores.{MakesCore, printed_by}
use Rattle.gdb_cli.specs.Sessions.{DebugsStreams, replayed_by}
use Rattle.gdb_cli.specs.Words.{file_name, moment_in}
use Rattle.rtr_types.specs.declared.pairs.Which.{Which}

-- at Done the output got exactly the core file of the moment in the recording on the input, and at WriteFault a part of
-- it; at both the recording is as promised. Every other exit says what it says of the command that prints the state
abbrev pub Answers : Moment → Exit → (left left' got got' : Option (List ℕ)) → Type 0
Answers moment exits.Done left left' got got' =
    (input : List ℕ) × (out : List ℕ) × IsTaken (most_of (printed_by moment)) left left' input
    × MakesCore moment input out × Promised (printed_by moment) input × Appends got got' out
Answers moment exits.WriteFault left left' got got' =
    (input : List ℕ) × (out : List ℕ) × IsTaken (most_of (printed_by moment)) left left' input
    × MakesCore moment input out × Promised (printed_by moment) input × GivesPart out got got'
Answers moment exit left left' got got' = AnswersCommand (printed_by moment) exit left left' got got'

-- the same of what words ask for. Words that ask for nothing end at Usage, unless memory runs out, and touch neither
abbrev pub AnswersWords : Option Moment → Exit → (left left' got got' : Option (List ℕ)) → Type 0
AnswersWords None exit left left' got got' =
    ((exit ≡ exits.Usage) ⊎ (exit ≡ exits.OutOfMemory)) × Keeps left left' × Keeps got got'
AnswersWords (Some moment) exit left left' got got' = Answers moment exit left left' got got'

-- the process ends with the exit's status, and the report got the exit's text and nothing else, unless it failed
pub record EndsBy (exit : Exit) (status : ℕ) (got got' : Option (List ℕ)) (faults faults' : ℕ) : Type 0 where
  pub status_is : status ≡ status_of exit
  pub tells : Tells (fault_line exit) got got' faults faults'

-- the exit of words that ask for this, by what became of input and output and of their counts of faults. A fault is
-- told only where the count of its stream rose, and every other exit leaves that count as it was; and of a recording
-- that `rtr at` accepts a core file is made, unless memory runs out or a stream fails
pub record IsAnswerOf (asked : Option Moment) (exit : Exit) (left left' got got' : Option (List ℕ))
    (read read' written written' : ℕ) : Type 0 where
  pub answers : AnswersWords asked exit left left' got got'
  pub read_fault : exit ≡ exits.ReadFault → HasRisen read read'
  pub no_read_fault : (exit ≡ exits.ReadFault) ⊎ (read' ≡ read)
  pub write_fault : exit ≡ exits.WriteFault → HasRisen written written'
  pub no_write_fault : (exit ≡ exits.WriteFault) ⊎ (written' ≡ written)
  pub complete : (moment : Moment) (bytes : List ℕ) → asked ≡ Some moment
      → HasLeft (most_of (printed_by moment)) left bytes → Accepts (printed_by moment) bytes
      → IsFaultless read read' → IsFaultless written written' → EndsWell exit

-- the exit of a session, by what became of the recording's source, of input and output, and of their counts of faults.
-- A fault is told only where the count of its stream rose, and every other exit leaves that count as it was; and on a
-- recording that `rtr replay` accepts there is a session to its end, unless memory runs out or a stream fails
pub record IsSessionOf (which : Which) (exit : Exit) (file file' left left' got got' : Option (List ℕ))
    (opened opened' read read' written written' : ℕ) : Type 0 where
  pub debugs : DebugsStreams which exit file file' left left' got got'
  pub read_fault : exit ≡ exits.ReadFault → HasRisen opened opened' ⊎ HasRisen read read'
  pub no_read_fault : (exit ≡ exits.ReadFault) ⊎ (opened' ≡ opened) × (read' ≡ read)
  pub write_fault : exit ≡ exits.WriteFault → HasRisen written written'
  pub no_write_fault : (exit ≡ exits.WriteFault) ⊎ (written' ≡ written)
  pub complete : (bytes : List ℕ) → HasLeft (most_of (replayed_by which)) file bytes
      → Accepts (replayed_by which) bytes → IsFaultless opened opened' → IsFaultless read read'
      → IsFaultless written written' → EndsWell exit

module _ {F : Type 0} where
  -- the same of a file, whatever becomes of it
  abbrev pub IsSessionIn : (left_of : F → Option (List ℕ)) (faults_of : F → ℕ) → Which → Exit → (file : F)
      → (left left' got got' : Option (List ℕ)) (read read' written written' : ℕ) → Type 0
  IsSessionIn left_of faults_of which exit file left left' got got' read read' written written' =
      (file' : F) × IsSessionOf which exit (left_of file) (left_of file') left left' got got' (faults_of file)
      (faults_of file') read read' written written'

  -- the exit of words that ask for a session, if they do, or else for a core file. Opening the file that the words name
  -- comes to this one; before that memory may run out, and then nothing was heard or said, and nothing failed
  abbrev pub IsAnswerIn : (opens : List ℕ → F → Type 0) (left_of : F → Option (List ℕ)) (faults_of : F → ℕ)
      → (words : List (List ℕ)) → (log : Option Which) → Exit → (left left' got got' : Option (List ℕ))
      (read read' written written' : ℕ) → Type 0
  IsAnswerIn opens left_of faults_of words None exit left left' got got' read read' written written' =
      IsAnswerOf (moment_in words) exit left left' got got' read read' written written'
  IsAnswerIn opens left_of faults_of words (Some which) exit left left' got got' read read' written written' =
      ((exit ≡ exits.OutOfMemory) × Keeps left left' × Keeps got got' × (read' ≡ read) × (written' ≡ written))
      ⊎ ((file : F) × opens (file_name words) file
      × IsSessionIn left_of faults_of which exit file left left' got got' read read' written written')
