-- What the tool's answer says of the words' meaning.
use Rattle.std.proofs.Common.{◌≡◌, ℕ, List, refl}
use Rattle.std.specs.Prelude.{◌↔◌, ◌⊎◌, Option, Some, None}
use Rattle.std.specs.Io.KnownBytes.{Keeps}
use Rattle.rtr_io.specs.Faults.{HasRisen}
use Rattle.state_text.specs.declared.exit.Exit.{Exit}
use Rattle.state_text.specs.declared.exit.Exit.TheVariants as exits
use Rattle.tool_words.specs.declared.command.Command.{Command}
use Rattle.rtr_cli.specs.Answers.{Answers, LeavesUntaken}
use Rattle.rtr_cli.specs.Inputs.{most_of}
use Rattle.rtr_cli.specs.Completeness.{Accepts, EndsWell, HasLeft, IsFaultless}
use Rattle.rtr_program.specs.Conclusions.{AnswersMeaning, IsAnswerOf}

answers_meaning : (meant : Option Command) (exit : Exit) (left left' got got' : Option (List ℕ)) → ((exit
    ≡ exits.Usage) ↔ (meant ≡ None))
    → (exit ≡ exits.Usage → Keeps left left' × Keeps got got')
    → ((command : Command) → meant ≡ Some command → Answers command exit left left' got got')
    → AnswersMeaning meant exit left left' got got'
answers_meaning None exit left left' got got' usage untouched answered =
    let is = usage.1 refl in let kept = untouched is in (is, kept.0, kept.1)
answers_meaning (Some command) exit left left' got got' usage untouched answered = answered command refl

pub is_answer : (meant : Option Command) (exit : Exit) (left left' got got' : Option (List ℕ)) (read read' written
    written' : ℕ)
    → ((exit ≡ exits.Usage) ↔ (meant ≡ None)) → (exit ≡ exits.Usage → Keeps left left' × Keeps got got')
    → ((command : Command) → meant ≡ Some command → Answers command exit left left' got got')
    → (exit ≡ exits.ReadFault → HasRisen read read') → (exit ≡ exits.ReadFault) ⊎ (read' ≡ read)
    → (exit ≡ exits.WriteFault → HasRisen written written') → (exit ≡ exits.WriteFault) ⊎ (written' ≡ written)
    → ((command : Command) → meant ≡ Some command → LeavesUntaken (most_of command) left left' read read')
    → ((command : Command) (bytes : List ℕ) → meant ≡ Some command → HasLeft (most_of command) left bytes
    → Accepts command bytes
    → IsFaultless read read' → IsFaultless written written' → EndsWell exit)
    → IsAnswerOf meant exit left left' got got' read read' written written'
is_answer meant exit left left' got got' read read' written written' usage untouched answered read_fault
    no_read_fault write_fault no_write_fault untaken complete = record {
      answers = answers_meaning meant exit left left' got got' usage untouched answered;
      read_fault = read_fault;
      no_read_fault = no_read_fault;
      write_fault = write_fault;
      no_write_fault = no_write_fault;
      untaken = untaken;
      complete = complete;
    }
