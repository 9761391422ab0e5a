-- How the program answers, beside the core file itself: as the command does that prints the state.
use Rattle.std.proofs.Common.{◌≡◌, ◌≤◌, List, ℕ, length, refl, subst, inl, inr}
use Rattle.std.specs.Prelude.{Option, Some, None}
use Rattle.std.specs.Io.KnownBytes.{Consumes, IsAtEnd, Keeps}
use Rattle.rtr_cli.specs.Answers.{Answers as AnswersCommand, IsRead, IsTaken, one_more}
use Rattle.rtr_cli.specs.Inputs.{file_bytes_max, most_of}
use Rattle.rtr_cli.specs.Commands.{Refuses}
use Rattle.rtr_cli.proofs.RefusalLemmas.{none_taken, refused_answers}
use Rattle.state_text.specs.declared.exit.Exit.{Exit}
use Rattle.state_text.specs.declared.exit.Exit.TheVariants as exits
use Rattle.gdb_cli.specs.declared.words.Moment.{Moment}
use Rattle.gdb_cli.specs.Answers.{Answers, AnswersWords}
use Rattle.gdb_cli.specs.Cores.{printed_by}

-- an input that was read to its end
pub whole_read : (left left' : Option (List ℕ)) (bytes : List ℕ) → Consumes left left' bytes → IsAtEnd left'
    → length bytes ≤ file_bytes_max → IsRead file_bytes_max left left' bytes
whole_read left left' bytes taken end within = record { taken = taken; end = end; within = within }

-- what is said of a command that gave nothing is said of the program
as_printed : (moment : Moment) (input : List ℕ) (exit : Exit) (left left' got got' : Option (List ℕ))
    → Refuses (printed_by moment) input exit
    → AnswersCommand (printed_by moment) exit left left' got got' → Answers moment exit left left' got got'
as_printed moment input exits.Done left left' got got' h it = absurd h
as_printed moment input exits.WriteFault left left' got got' h it = absurd h
as_printed moment input exit left left' got got' h it = it

-- so it answers where the recording was taken and is refused
pub refused_core : (moment : Moment) (input : List ℕ) (exit : Exit) (left left' got got' : Option (List ℕ))
    → IsTaken (most_of (printed_by moment)) left left' input → Refuses (printed_by moment) input exit → Keeps got got'
    → Answers moment exit left left' got got'
refused_core moment input exit left left' got got' was h keeps =
    as_printed moment input exit left left' got got' h
    (refused_answers (printed_by moment) input exit left left' got got' was h keeps)

-- ---- what is said of what the words ask for

pub keeps : (known : Option (List ℕ)) → Keeps known known
keeps None = tt
keeps (Some bytes) = refl

pub answers_some : (asked : Option Moment) (moment : Moment) (exit : Exit) (left left' got got' : Option (List ℕ))
    → Some moment ≡ asked → Answers moment exit left left' got got' → AnswersWords asked exit left left' got got'
answers_some asked moment exit left left' got got' is h =
    subst (λ (o : Option Moment). AnswersWords o exit left left' got got') is h

pub answers_none : (asked : Option Moment) (left got : Option (List ℕ)) → None ≡ asked
    → AnswersWords asked exits.Usage left left got got
answers_none asked left got is =
    subst (λ (o : Option Moment). AnswersWords o exits.Usage left left got got) is (inl refl, keeps left, keeps got)

-- for want of memory before anything was read
pub answers_memory : (asked : Option Moment) (left got : Option (List ℕ))
    → AnswersWords asked exits.OutOfMemory left left got got
answers_memory None left got = (inr refl, keeps left, keeps got)
answers_memory (Some moment) left got = (none_taken (one_more (most_of (printed_by moment))) left, keeps got)
