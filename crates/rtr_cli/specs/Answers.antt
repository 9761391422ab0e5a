-- Rule: what the tool answers: Answers
-- What each way to end says of the input and the output.
use Rattle.std.specs.Prelude.{◌≡◌, ℕ, ◌+◌, ◌≤◌, ◌⊎◌, List, [], length, Option, Some, None}
use Rattle.std.specs.Option.{option_map}
use Rattle.std.specs.Io.KnownBytes.{Appends, Consumes, IsAtEnd, Keeps}
use Rattle.rtr_io.specs.Faults.{HasRisen}
use Rattle.rtr_io.specs.Moved.{GivesPart, TakesAtMost, TakesJust}
use Rattle.state_text.specs.declared.exit.Exit.{Exit}
use Rattle.state_text.specs.declared.exit.Exit.TheVariants as exits
use Rattle.tool_words.specs.declared.command.Command.{Command}
use Rattle.rtr_cli.specs.Inputs.{most_of}
use Rattle.rtr_cli.specs.Commands.{Makes, Overflows, Refuses}
use Rattle.rtr_cli.specs.Promises.{Promised}

-- the input was read to its end, and these bytes were its rest; there are at most `most` of them
pub record IsRead (most : ℕ) (old new : Option (List ℕ)) (bytes : List ℕ) : Type 0 where
  pub taken : Consumes old new bytes
  pub end : IsAtEnd new
  pub within : length bytes ≤ most

-- these bytes were taken: all of an input, or none where the command takes no input, which then is as it was
abbrev pub IsTaken : (most : Option ℕ) → (old new : Option (List ℕ)) → (bytes : List ℕ) → Type 0
IsTaken None old new bytes = Keeps old new × (bytes ≡ [])
IsTaken (Some most) old new bytes = IsRead most old new bytes

-- the input has more bytes than the command takes
abbrev pub HasMore : (most : Option ℕ) → (old new : Option (List ℕ)) → Type 0
HasMore None old new = ⊥
HasMore (Some most) old new = TakesJust (most + 1) old new

-- at most so many bytes of the input were taken, and none where the command takes no input
abbrev pub IsTakenUpTo : (most : Option ℕ) → (old new : Option (List ℕ)) → Type 0
IsTakenUpTo None old new = Keeps old new
IsTakenUpTo (Some most) old new = TakesAtMost most old new

-- an input of which nothing is taken is as it was
abbrev pub LeavesUntaken : (most : Option ℕ) → (old new : Option (List ℕ)) → (faults faults' : ℕ) → Type 0
LeavesUntaken most old new faults faults' = most ≡ None → Keeps old new × (faults' ≡ faults)

-- one byte more
abbrev pub one_more : Option ℕ → Option ℕ
one_more most = option_map (λ n. n + 1) most

-- the input was taken and is refused so, and nothing was given
abbrev pub GivesNothing : Command → Exit → (left left' got got' : Option (List ℕ)) → Type 0
GivesNothing command exit left left' got got' =
    (input : List ℕ) × IsTaken (most_of command) left left' input × Refuses command input exit × Keeps got got'

-- what a command's exit says of the bytes that the input had left and of those that the output got. The input of a
-- command that takes none is as it was.
-- At Done the output got exactly what the command makes of the input, and at WriteFault a part of it; at both that is
-- as promised. At ReadFault no more was taken than the command takes, and at OutOfMemory at most one byte more.
abbrev pub Answers : Command → Exit → (left left' got got' : Option (List ℕ)) → Type 0
Answers command exits.Done left left' got got' =
    (input : List ℕ) × (out : List ℕ) × IsTaken (most_of command) left left' input
    × Makes command input out × Promised command input × Appends got got' out
Answers command exits.WriteFault left left' got got' =
    (input : List ℕ) × (out : List ℕ) × IsTaken (most_of command) left left' input
    × Makes command input out × Promised command input × GivesPart out got got'
Answers command (exits.Bad part) left left' got got' = GivesNothing command (exits.Bad part) left left' got got'
Answers command (exits.Stuck cut) left left' got got' = GivesNothing command (exits.Stuck cut) left left' got got'
Answers command (exits.Short core count) left left' got got' =
    GivesNothing command (exits.Short core count) left left' got got'
Answers command (exits.Undetermined first second) left left' got got' =
    GivesNothing command (exits.Undetermined first second) left left' got got'
Answers command (exits.CheckFailed failure) left left' got got' =
    GivesNothing command (exits.CheckFailed failure) left left' got got'
Answers command (exits.Elf fault) left left' got got' = GivesNothing command (exits.Elf fault) left left' got got'
Answers command (exits.NoInstr at) left left' got got' = GivesNothing command (exits.NoInstr at) left left' got got'
Answers command (exits.TooMany vectors edges) left left' got got' =
    GivesNothing command (exits.TooMany vectors edges) left left' got got'
Answers command (exits.NotShown vector) left left' got got' =
    GivesNothing command (exits.NotShown vector) left left' got got'
Answers command exits.TooLarge left left' got got' =
    (HasMore (most_of command) left left' ⊎ Overflows command) × Keeps got got'
Answers command exits.ReadFault left left' got got' = IsTakenUpTo (most_of command) left left' × Keeps got got'
Answers command exits.OutOfMemory left left' got got' =
    IsTakenUpTo (one_more (most_of command)) left left' × Keeps got got'
Answers command exits.Usage left left' got got' = ⊥

-- the report got exactly the text, unless its count of faults rose: then a part of it
abbrev pub Tells : (text : List ℕ) (got got' : Option (List ℕ)) (faults faults' : ℕ) → Type 0
Tells text got got' faults faults' =
    (Appends got got' text × (faults' ≡ faults)) ⊎ (GivesPart text got got' × HasRisen faults faults')
