-- A command that gives nothing for an input that was taken answers so.
use Rattle.std.proofs.Common.{◌≡◌, ◌≤◌, ◌+◌, Bool, List, [], ℕ, refl, sym, subst, inl, inr, arith}
use Rattle.std.specs.Prelude.{Option, Some, None}
use Rattle.std.specs.Io.KnownBytes.{Keeps}
use Rattle.replay_audit.specs.declared.audit_fault.AuditFault.{AuditFault}
use Rattle.replay_audit.specs.declared.audit_fault.AuditFault.TheVariants as faults
use Rattle.min_certificate.specs.declared.answers.CheckFailure.{CheckFailure}
use Rattle.state_text.specs.declared.exit.Exit.{Exit}
use Rattle.state_text.specs.declared.exit.Exit.TheVariants as exits
use Rattle.rtr_types.specs.declared.params.Params.{Params}
use Rattle.trace_gen.specs.declared.shape.Shape.{Shape}
use Rattle.tool_words.specs.declared.command.Command.{Command}
use Rattle.tool_words.specs.declared.command.Command.TheVariants.{Record, Run, Soak}
use Rattle.tool_words.specs.declared.command.RunWords.{RunWords}
use Rattle.rtr_cli.specs.Answers.{Answers, IsTaken, IsTakenUpTo, one_more}
use Rattle.rtr_cli.specs.Inputs.{IsWithin, most_of}
use Rattle.rtr_cli.specs.Replays.{Ends, exit_of_audit}
use Rattle.rtr_cli.specs.Runs.{LoadEnds}
use Rattle.rtr_cli.specs.Soaks.{SoakEnds}
use Rattle.rtr_cli.specs.Commands.{Refuses}

-- what was taken is at most one byte more than what is taken
pub taken_up_to : (most : Option ℕ) (old new : Option (List ℕ)) (bytes : List ℕ) → IsTaken most old new bytes
    → IsTakenUpTo (one_more most) old new
taken_up_to None old new bytes taken = taken.0
taken_up_to (Some most) old new bytes taken = let few = taken.within in (bytes, omega (arith, few), taken.taken)

-- nothing was taken
pub none_taken : (most : Option ℕ) (left : Option (List ℕ)) → IsTakenUpTo most left left
none_taken None None = tt
none_taken None (Some bytes) = refl
none_taken (Some most) None = ([], omega arith, tt)
none_taken (Some most) (Some bytes) = ([], omega arith, refl)

pub refused_answers : (command : Command) (input : List ℕ) (exit : Exit) (left left' got got' : Option (List ℕ))
    → IsTaken (most_of command) left left' input → Refuses command input exit → Keeps got got' → Answers command exit
    left left' got got'
refused_answers command input (exits.Bad part) left left' got got' was h keeps = (input, was, h, keeps)
refused_answers command input (exits.Stuck cut) left left' got got' was h keeps = (input, was, h, keeps)
refused_answers command input (exits.Short core count) left left' got got' was h keeps = (input, was, h, keeps)
refused_answers command input (exits.Undetermined first second) left left' got got' was h keeps = (input, was, h, keeps)
refused_answers command input (exits.CheckFailed failure) left left' got got' was h keeps = (input, was, h, keeps)
refused_answers command input (exits.Elf fault) left left' got got' was h keeps = (input, was, h, keeps)
refused_answers command input (exits.NoInstr at) left left' got got' was h keeps = (input, was, h, keeps)
refused_answers command input (exits.TooMany vectors edges) left left' got got' was h keeps = (input, was, h, keeps)
refused_answers command input (exits.NotShown vector) left left' got got' was h keeps = (input, was, h, keeps)
refused_answers command input exits.TooLarge left left' got got' was h keeps = (inr h, keeps)
refused_answers command input exits.OutOfMemory left left' got got' was h keeps =
    (taken_up_to (most_of command) left left' input was, keeps)
refused_answers command input exits.Done left left' got got' was h keeps = absurd h
refused_answers command input exits.Usage left left' got got' was h keeps = absurd h
refused_answers command input exits.ReadFault left left' got got' was h keeps = absurd h
refused_answers command input exits.WriteFault left left' got got' was h keeps = absurd h

-- a command whose audit was refused ends so
pub audit_ends : (Audits : AuditFault → Type 0) (Shows : CheckFailure → Type 0) (fault : AuditFault) → Audits fault
    → Ends Audits Shows (exit_of_audit fault)
audit_ends Audits Shows (faults.Stuck cut) h = h
audit_ends Audits Shows (faults.Short core count) h = h
audit_ends Audits Shows (faults.Undetermined first second) h = h
audit_ends Audits Shows faults.OutOfMemory h = tt

-- a run whose input has no image ends as its command does
pub record_refused : (run : RunWords) (input : List ℕ) (exit : Exit) → LoadEnds run input exit → Refuses (Record run)
    input exit
record_refused run input exit (inl is) = subst (λ (e : Exit). Refuses (Record run) input e) (sym is) tt
record_refused run input exit (inr (fault, is, why)) = subst (λ (e : Exit). Refuses (Record run) input e) (sym is) why

pub run_refused : (run : RunWords) (loads : Bool) (input : List ℕ) (exit : Exit) → LoadEnds run input exit
    → Refuses (Run run loads) input exit
run_refused run loads input exit (inl is) = subst (λ (e : Exit). Refuses (Run run loads) input e) (sym is) tt
run_refused run loads input exit (inr (fault, is, why)) = subst (λ (e : Exit). Refuses (Run run loads) input e)
    (sym is) why

-- and so does a soak
pub soak_refused : (shape : Shape) (number : ℕ) (params : Params) (seed : ℕ) (input : List ℕ) (exit : Exit)
    → SoakEnds shape params exit
    → Refuses (Soak shape number params seed) input exit
soak_refused shape number params seed input exit (inl is) = subst
    (λ (e : Exit). Refuses (Soak shape number params seed) input e) (sym is) tt
soak_refused shape number params seed input exit (inr (is, more)) = subst
    (λ (e : Exit). Refuses (Soak shape number params seed) input e) (sym is) more

-- what was taken is within what the command takes
pub taken_within : (most : Option ℕ) (old new : Option (List ℕ)) (bytes : List ℕ) → IsTaken most old new bytes
    → IsWithin most bytes
taken_within None old new bytes taken = taken.1
taken_within (Some most) old new bytes taken = taken.within
