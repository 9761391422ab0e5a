-- Rule: what a hunt answers: HuntAnswers
-- What each way to end says of the input, the output and the report.
use Rattle.std.specs.Prelude.{◌≡◌, ℕ, ◌+◌, ◌⊎◌, List, Option, None, Some, Ok, Err}
use Rattle.std.specs.Io.KnownBytes.{Appends, Keeps}
use Rattle.rtr_io.specs.Faults.{HasRisen}
use Rattle.rtr_io.specs.Moved.{GivesPart, TakesAtMost, TakesJust}
use Rattle.state_text.specs.Exits.{fault_line}
use Rattle.state_text.specs.declared.exit.Exit.{Exit}
use Rattle.state_text.specs.declared.exit.Exit.TheVariants as exits
use Rattle.rtr_cli.specs.Answers.{IsRead, Tells}
use Rattle.rtr_cli.specs.Completeness.{HasLeft, IsFaultless}
use Rattle.rtr_cli.specs.Inputs.{loaded}
use Rattle.hunt_words.specs.declared.hunt.Hunt.{Hunt}
use Rattle.hunt_words.specs.declared.hunt.Setup.{Setup}
use Rattle.hunt_cli.specs.declared.exits.HuntExit.{HuntExit}
use Rattle.hunt_cli.specs.declared.exits.HuntExit.TheVariants.{As, Breaks, Whole}
use Rattle.hunt_cli.specs.Finds.{Finds}
use Rattle.hunt_cli.specs.Inputs.{as_run, bytes_max, setup_in}

-- what was left of the input, what the output got and what the report got, before and after; and the report's faults
pub record Moved : Type 0 where
  pub left : Option (List ℕ)
  pub left' : Option (List ℕ)
  pub got : Option (List ℕ)
  pub got' : Option (List ℕ)
  pub told : Option (List ℕ)
  pub told' : Option (List ℕ)
  pub faults : ℕ
  pub faults' : ℕ

-- the report got this text
abbrev pub IsTold : (text : List ℕ) → Moved → Type 0
IsTold text m = Tells text m.told m.told' m.faults m.faults'

-- the input was read to its end, and this is what the hunt finds of the image that it is
pub record IsFound (hunt : Hunt) (exit : HuntExit) (out report : List ℕ) (m : Moved) : Type 0 where
  pub input : List ℕ
  pub bytes : List ℕ
  pub read : IsRead (bytes_max (setup_in hunt)) m.left m.left' input
  pub loads : loaded (as_run (setup_in hunt)) input ≡ Ok bytes
  pub finds : Finds hunt bytes out report exit

-- what was found was printed and reported
abbrev pub Gives : Hunt → HuntExit → Moved → Type 0
Gives hunt exit m =
    (out : List ℕ) × (report : List ℕ) × IsFound hunt exit out report m × Appends m.got m.got' out × IsTold report m

-- where nothing is given
abbrev pub GivesNothing : Exit → Moved → Type 0
GivesNothing exit m = Keeps m.got m.got' × IsTold (fault_line exit) m

-- what was found was given: all of it, and it was reported, and the hunt ends so; or a part, and that is reported
abbrev pub IsGiven : (found : HuntExit) → (out report : List ℕ) → (ends : HuntExit)
    → (got got' told told' : Option (List ℕ)) → (faults faults' : ℕ) → Type 0
IsGiven found out report ends got got' told told' faults faults' =
    ((ends ≡ found) × Appends got got' out × Tells report told told' faults faults')
    ⊎ ((ends ≡ As exits.WriteFault) × GivesPart out got got'
    × Tells (fault_line exits.WriteFault) told told' faults faults')

-- why nothing is found: the first fault of an ELF file, more bytes than the hunt takes, of which one more was taken, a
-- fault of the input, where no more were, or want of memory, where at most one more was
abbrev pub IsRefused : Setup → Exit → (left left' : Option (List ℕ)) → Type 0
IsRefused setup (exits.Elf fault) left left' =
    (input : List ℕ) × IsRead (bytes_max setup) left left' input × (loaded (as_run setup) input ≡ Err fault)
IsRefused setup exits.TooLarge left left' = TakesJust (bytes_max setup + 1) left left'
IsRefused setup exits.ReadFault left left' = TakesAtMost (bytes_max setup) left left'
IsRefused setup exits.OutOfMemory left left' = TakesAtMost (bytes_max setup + 1) left left'
IsRefused setup exit left left' = ⊥

-- what a hunt's exit says. At WriteFault a part of what was found was printed.
abbrev pub HuntAnswers : Hunt → HuntExit → Moved → Type 0
HuntAnswers hunt Breaks m = Gives hunt Breaks m
HuntAnswers hunt Whole m = Gives hunt Whole m
HuntAnswers hunt (As exits.Done) m = Gives hunt (As exits.Done) m
HuntAnswers hunt (As exits.WriteFault) m =
    (exit : HuntExit) × (out : List ℕ) × (report : List ℕ) × IsFound hunt exit out report m
    × GivesPart out m.got m.got' × IsTold (fault_line exits.WriteFault) m
HuntAnswers hunt (As exit) m = IsRefused (setup_in hunt) exit m.left m.left' × GivesNothing exit m

-- A fault of the input or the output is told only where the count of its stream rose, and every other exit leaves that
-- count as it was.
pub record TellsFaults (exit : HuntExit) (read read' written written' : ℕ) : Type 0 where
  pub read_fault : exit ≡ As exits.ReadFault → HasRisen read read'
  pub no_read_fault : (exit ≡ As exits.ReadFault) ⊎ (read' ≡ read)
  pub write_fault : exit ≡ As exits.WriteFault → HasRisen written written'
  pub no_write_fault : (exit ≡ As exits.WriteFault) ⊎ (written' ≡ written)

-- what was found was given, or memory ran out
abbrev pub EndsWell : HuntExit → Type 0
EndsWell exit = (exit ≡ As exits.Done) ⊎ (exit ≡ Breaks) ⊎ (exit ≡ Whole) ⊎ (exit ≡ As exits.OutOfMemory)

-- Where the input is this image, no larger than the hunt takes, all that is found is given, unless memory runs out or a
-- stream fails.
abbrev pub GivesWhole : Hunt → (input bytes : List ℕ) → HuntExit → (left : Option (List ℕ)) →
    (read read' written written' : ℕ) → Type 0
GivesWhole hunt input bytes exit left read read' written written' =
    HasLeft (Some (bytes_max (setup_in hunt))) left input → loaded (as_run (setup_in hunt)) input ≡ Ok bytes →
    IsFaultless read read' → IsFaultless written written' → EndsWell exit

-- Words that ask for nothing end at Usage, unless memory runs out, and are told so; neither input nor output is
-- touched.
abbrev pub IsIdle : HuntExit → Moved → Type 0
IsIdle exit m =
    (((exit ≡ As exits.Usage) × IsTold (fault_line exits.Usage) m)
    ⊎ ((exit ≡ As exits.OutOfMemory) × IsTold (fault_line exits.OutOfMemory) m))
    × Keeps m.left m.left' × Keeps m.got m.got'

-- what the exit says of words that ask for this hunt, or for nothing
abbrev pub AnswersAsked : Option Hunt → HuntExit → Moved → Type 0
AnswersAsked None exit m = IsIdle exit m
AnswersAsked (Some hunt) exit m = HuntAnswers hunt exit m
