-- How the program ends, by the exit of the tool's answer.
use Rattle.std.specs.Prelude.{◌≡◌, ℕ, ◌⊎◌, List, Option, Some, None}
use Rattle.std.specs.Io.KnownBytes.{Keeps}
use Rattle.rtr_io.specs.Faults.{HasRisen}
use Rattle.state_text.specs.Exits.{fault_line, status_of}
use Rattle.state_text.specs.declared.exit.Exit.{Exit}
use Rattle.state_text.specs.declared.exit.Exit.TheVariants as exits
use Rattle.tool_words.specs.declared.command.Command.{Command}
use Rattle.rtr_cli.specs.Answers.{Answers, LeavesUntaken, Tells}
use Rattle.rtr_cli.specs.Completeness.{Accepts, EndsWell, HasLeft, IsFaultless}
use Rattle.rtr_cli.specs.Inputs.{most_of}

-- the process ends with the exit's status, and the report got the exit's text and nothing else, unless it failed
pub record EndsBy (exit : Exit) (status : ℕ) (got got' : Option (List ℕ)) (faults faults' : ℕ) : Type 0 where
  pub status_is : status ≡ status_of exit
  pub tells : Tells (fault_line exit) got got' faults faults'

-- what the exit says of input and output: that of the command which words mean. Words that mean nothing end at Usage,
-- and touch neither
abbrev pub AnswersMeaning : Option Command → Exit → (left left' got got' : Option (List ℕ)) → Type 0
AnswersMeaning None exit left left' got got' = (exit ≡ exits.Usage) × Keeps left left' × Keeps got got'
AnswersMeaning (Some command) exit left left' got got' = Answers command exit left left' got got'

-- the exit of words with this meaning, by what became of input and output and of their counts of faults. A fault is
-- told only where the count of its stream rose, and every other exit leaves that count as it was. A command that takes
-- no input leaves it as it was; and of what a command accepts it makes its whole output, unless memory runs out or a
-- stream fails
pub record IsAnswerOf (meant : Option Command) (exit : Exit) (left left' got got' : Option (List ℕ))
    (read read' written written' : ℕ) : Type 0 where
  pub answers : AnswersMeaning meant exit left left' got got'
  pub read_fault : exit ≡ exits.ReadFault → HasRisen read read'
  pub no_read_fault : (exit ≡ exits.ReadFault) ⊎ (read' ≡ read)
  pub write_fault : exit ≡ exits.WriteFault → HasRisen written written'
  pub no_write_fault : (exit ≡ exits.WriteFault) ⊎ (written' ≡ written)
  pub untaken : (command : Command) → meant ≡ Some command → LeavesUntaken (most_of command) left left' read read'
  pub complete : (command : Command) (bytes : List ℕ) → meant ≡ Some command → HasLeft (most_of command) left bytes
      → Accepts command bytes → IsFaultless read read' → IsFaultless written written' → EndsWell exit
