-- How a hunt ends that found something, or was refused.
use Rattle.std.proofs.Common.{◌≡◌, ◌∙◌, refl, sym, subst, ap, ℕ, ◌==◌, Bool, true, false, cond, List, Option, Some}
use Rattle.std.proofs.Common.{None, inl, inr}
use Rattle.std.specs.Io.KnownBytes.{Appends, Keeps}
use Rattle.state_text.specs.declared.exit.Exit.{Exit}
use Rattle.state_text.specs.declared.exit.Exit.TheVariants as exits
use Rattle.std.specs.Prelude.{◌⊎◌}
use Rattle.rtr_io.specs.Faults.{HasRisen}
use Rattle.rtr_cli.specs.Answers.{Tells}
use Rattle.end_claims.specs.declared.claim.Demand.{Demand}
use Rattle.hunt_words.specs.declared.hunt.Hunt.{Hunt}
use Rattle.hunt_words.specs.declared.hunt.Hunt.TheVariants.{First, Table, Small, Words, Record}
use Rattle.hunt_words.specs.declared.hunt.RunName.{RunName}
use Rattle.hunt_words.specs.declared.hunt.Runs.{Runs}
use Rattle.hunt_words.specs.declared.hunt.Setup.{Setup}
use Rattle.hunt_cli.specs.declared.exits.HuntExit.{HuntExit}
use Rattle.hunt_cli.specs.declared.exits.HuntExit.TheVariants.{As, Breaks, Whole}
use Rattle.hunt_cli.specs.Answers.{AnswersAsked, GivesNothing, HuntAnswers, IsFound, IsGiven, IsIdle, IsRefused}
use Rattle.hunt_cli.specs.Answers.{Moved, TellsFaults}
use Rattle.hunt_cli.specs.Finds.{FindsFirst, FindsOn, FindsSmall, broken_in, table_exit}
use Rattle.hunt_cli.specs.Inputs.{setup_in}
use Rattle.hunt_cli.specs.Kinds.{Setting, setting_of}

pub keeps-same : (got : Option (List ℕ)) → Keeps got got
keeps-same None = tt
keeps-same (Some bytes) = refl

-- a hunt that found something ends so
abbrev Finishes : HuntExit → Type 0
Finishes Breaks = Unit {0}
Finishes Whole = Unit {0}
Finishes (As exit) = exit ≡ exits.Done

first-finishes : (setup : Setup) (s : Setting) (runs : Runs) (demand : Demand) (plain : Bool) (out report : List ℕ)
    (exit : HuntExit) → FindsFirst setup s runs demand plain out report exit → Finishes exit
first-finishes setup s runs demand plain out report Breaks h = tt
first-finishes setup s runs demand plain out report Whole h = absurd h
first-finishes setup s runs demand plain out report (As exits.Done) h = refl
first-finishes setup s runs demand plain out report (As exits.Usage) h = absurd h
first-finishes setup s runs demand plain out report (As exits.TooLarge) h = absurd h
first-finishes setup s runs demand plain out report (As (exits.Bad part)) h = absurd h
first-finishes setup s runs demand plain out report (As (exits.Stuck cut)) h = absurd h
first-finishes setup s runs demand plain out report (As (exits.Short core count)) h = absurd h
first-finishes setup s runs demand plain out report (As (exits.Undetermined first second)) h = absurd h
first-finishes setup s runs demand plain out report (As (exits.CheckFailed failure)) h = absurd h
first-finishes setup s runs demand plain out report (As exits.ReadFault) h = absurd h
first-finishes setup s runs demand plain out report (As exits.WriteFault) h = absurd h
first-finishes setup s runs demand plain out report (As exits.OutOfMemory) h = absurd h
first-finishes setup s runs demand plain out report (As (exits.Elf fault)) h = absurd h
first-finishes setup s runs demand plain out report (As (exits.NoInstr at)) h = absurd h
first-finishes setup s runs demand plain out report (As (exits.TooMany vectors edges)) h = absurd h
first-finishes setup s runs demand plain out report (As (exits.NotShown vector)) h = absurd h

small-finishes : (setup : Setup) (s : Setting) (run : RunName) (demand : Demand) (out report : List ℕ)
    (exit : HuntExit) → FindsSmall setup s run demand out report exit → Finishes exit
small-finishes setup s run demand out report Breaks h = absurd h
small-finishes setup s run demand out report Whole h = tt
small-finishes setup s run demand out report (As exits.Done) h = refl
small-finishes setup s run demand out report (As exits.Usage) h = absurd h
small-finishes setup s run demand out report (As exits.TooLarge) h = absurd h
small-finishes setup s run demand out report (As (exits.Bad part)) h = absurd h
small-finishes setup s run demand out report (As (exits.Stuck cut)) h = absurd h
small-finishes setup s run demand out report (As (exits.Short core count)) h = absurd h
small-finishes setup s run demand out report (As (exits.Undetermined first second)) h = absurd h
small-finishes setup s run demand out report (As (exits.CheckFailed failure)) h = absurd h
small-finishes setup s run demand out report (As exits.ReadFault) h = absurd h
small-finishes setup s run demand out report (As exits.WriteFault) h = absurd h
small-finishes setup s run demand out report (As exits.OutOfMemory) h = absurd h
small-finishes setup s run demand out report (As (exits.Elf fault)) h = absurd h
small-finishes setup s run demand out report (As (exits.NoInstr at)) h = absurd h
small-finishes setup s run demand out report (As (exits.TooMany vectors edges)) h = absurd h
small-finishes setup s run demand out report (As (exits.NotShown vector)) h = absurd h

table-finishes : (broken : ℕ) → Finishes (table_exit broken)
table-finishes broken = by (broken == 0)
  where
    by : (none : Bool) → Finishes (cond none (As exits.Done) Breaks)
    by true = refl
    by false = tt

finishes-so : (exit exit' : HuntExit) → exit ≡ exit' → Finishes exit' → Finishes exit
finishes-so exit exit' is h = subst Finishes (sym is) h

finishes : (s : Setting) (hunt : Hunt) (bytes out report : List ℕ) (exit : HuntExit)
    → FindsOn s hunt bytes out report exit → Finishes exit
finishes s (First setup runs demand plain) bytes out report exit h =
    first-finishes setup s runs demand plain out report exit h
finishes s (Table setup runs places demand) bytes out report exit h =
    finishes-so exit (table_exit (broken_in h.0)) h.4 (table-finishes (broken_in h.0))
finishes s (Small setup run demand) bytes out report exit h = small-finishes setup s run demand out report exit h
finishes s (Words setup run) bytes out report exit h = finishes-so exit (As exits.Done) h.4 refl
finishes s (Record setup run) bytes out report exit h = finishes-so exit (As exits.Done) h.4 refl

-- what was found was printed and reported, so the hunt ends as it found
printed : (hunt : Hunt) (exit : HuntExit) (out report : List ℕ) (m : Moved) → Finishes exit
    → IsFound hunt exit out report m → Appends m.got m.got' out → Tells report m.told m.told' m.faults m.faults'
    → HuntAnswers hunt exit m
printed hunt Breaks out report m good found gave told = (out, report, found, gave, told)
printed hunt Whole out report m good found gave told = (out, report, found, gave, told)
printed hunt (As exit) out report m good found gave told =
    subst (λ (e : Exit). HuntAnswers hunt (As e) m) (sym good) (
      out,
      report,
      subst (λ (e : Exit). IsFound hunt (As e) out report m) good found,
      gave,
      told,
    )

pub given-answers : (hunt : Hunt) (found ends : HuntExit) (out report : List ℕ) (m : Moved)
    → IsFound hunt found out report m
    → IsGiven found out report ends m.got m.got' m.told m.told' m.faults m.faults' → HuntAnswers hunt ends m
given-answers hunt found ends out report m is (inl all) =
    subst (λ (e : HuntExit). HuntAnswers hunt e m) (sym all.0)
    (printed hunt found out report m (finishes (setting_of (setup_in hunt) is.bytes) hunt is.bytes out report found
    is.finds) is all.1 all.2)
given-answers hunt found ends out report m is (inr part) =
    subst (λ (e : HuntExit). HuntAnswers hunt e m) (sym part.0) (found, out, report, is, part.1, part.2)

-- a hunt that was refused
pub refused-answers : (hunt : Hunt) (exit : Exit) (m : Moved) → IsRefused (setup_in hunt) exit m.left m.left'
    → GivesNothing exit m → HuntAnswers hunt (As exit) m
refused-answers hunt exits.Done m h none = absurd h
refused-answers hunt exits.Usage m h none = (h, none)
refused-answers hunt exits.TooLarge m h none = (h, none)
refused-answers hunt (exits.Bad part) m h none = (h, none)
refused-answers hunt (exits.Stuck cut) m h none = (h, none)
refused-answers hunt (exits.Short core count) m h none = (h, none)
refused-answers hunt (exits.Undetermined first second) m h none = (h, none)
refused-answers hunt (exits.CheckFailed failure) m h none = (h, none)
refused-answers hunt exits.ReadFault m h none = (h, none)
refused-answers hunt exits.WriteFault m h none = absurd h
refused-answers hunt exits.OutOfMemory m h none = (h, none)
refused-answers hunt (exits.Elf fault) m h none = (h, none)
refused-answers hunt (exits.NoInstr at) m h none = (h, none)
refused-answers hunt (exits.TooMany vectors edges) m h none = (h, none)
refused-answers hunt (exits.NotShown vector) m h none = (h, none)

-- the exit of a hunt that ends as a command does
abbrev as-exit : HuntExit → Exit
as-exit (As exit) = exit
as-exit Breaks = exits.Done
as-exit Whole = exits.Done

abbrev IsDone : Exit → Type 0
IsDone exits.Done = Unit {0}
IsDone exit = ⊥

abbrev IsWritten : Exit → Type 0
IsWritten exits.WriteFault = Unit {0}
IsWritten exit = ⊥

-- a hunt that was refused tells of faults as its exit does
pub refused-faults : (setup : Setup) (exit : Exit) (left left' : Option (List ℕ)) (read read' written : ℕ)
    → IsRefused setup exit left left' → (exit ≡ exits.ReadFault → HasRisen read read')
    → (exit ≡ exits.ReadFault) ⊎ (read' ≡ read) → TellsFaults (As exit) read read' written written
refused-faults setup exit left left' read read' written refused risen other = record {
  read_fault = λ h. risen (ap as-exit h);
  no_read_fault = by other;
  write_fault = λ h. absurd (subst (λ (e : Exit). IsRefused setup e left left') (ap as-exit h) refused);
  no_write_fault = inr refl;
}
  where
    by : (exit ≡ exits.ReadFault) ⊎ (read' ≡ read) → (As exit ≡ As exits.ReadFault) ⊎ (read' ≡ read)
    by (inl h) = inl (ap As h)
    by (inr h) = inr h

-- what was found ends as no fault does
not-read : (found : HuntExit) → Finishes found → found ≡ As exits.ReadFault → ⊥
not-read found good h = subst IsDone (sym (subst Finishes h good)) tt

not-written : (found : HuntExit) → Finishes found → found ≡ As exits.WriteFault → ⊥
not-written found good h = subst IsDone (sym (subst Finishes h good)) tt

-- and so a hunt that found something tells of the output's fault alone
pub given-faults : (s : Setting) (hunt : Hunt) (bytes out report : List ℕ) (found ends : HuntExit)
    (read read' written written' : ℕ) → FindsOn s hunt bytes out report found → read' ≡ read
    → ((ends ≡ found) × (written' ≡ written)) ⊎ ((ends ≡ As exits.WriteFault) × HasRisen written written')
    → TellsFaults ends read read' written written'
given-faults s hunt bytes out report found ends read read' written written' finds same (inl all) =
    let good : Finishes found = finishes s hunt bytes out report found finds in
    record {
      read_fault = λ h. absurd (not-read found good (sym all.0 ∙ h));
      no_read_fault = inr same;
      write_fault = λ h. absurd (not-written found good (sym all.0 ∙ h));
      no_write_fault = inr all.1;
    }
given-faults s hunt bytes out report found ends read read' written written' finds same (inr part) = record {
  read_fault = λ h. absurd (not-both (sym part.0 ∙ h));
  no_read_fault = inr same;
  write_fault = λ _. part.1;
  no_write_fault = inl part.0;
}
  where
    not-both : As exits.WriteFault ≡ As exits.ReadFault → ⊥
    not-both h = subst IsWritten (ap as-exit h) tt

-- what is said of each hunt, and of none, is said of what words ask for
pub asked-answers : (asked : Option Hunt) (exit : HuntExit) (m : Moved) → (asked ≡ None → IsIdle exit m)
    → ((hunt : Hunt) → asked ≡ Some hunt → HuntAnswers hunt exit m) → AnswersAsked asked exit m
asked-answers None exit m idle answered = idle refl
asked-answers (Some hunt) exit m idle answered = answered hunt refl
