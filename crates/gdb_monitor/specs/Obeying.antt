-- Rule: what such a command does to the place: Obeys
-- What each command does, and what it tells.
use Rattle.std.specs.Prelude.{◌≡◌, ℕ, List, []}
use Rattle.rtr_types.specs.declared.cut.Cut as cuts
use Rattle.replay_audit.specs.Audits.{Findings, PassesOf}
use Rattle.debug_place.specs.Places.{Placed, cut_at}
use Rattle.cut_marks.specs.declared.marks.Mark.{Mark}
use Rattle.cut_marks.specs.Marks.{marks_text}
use Rattle.gdb_commands.specs.declared.commands.Command.{Command}
use Rattle.gdb_commands.specs.declared.commands.Command.TheVariants.{Cut, GoTo, GoToCut, Earliest, Latest, Edges}
use Rattle.gdb_commands.specs.declared.commands.Command.TheVariants.{Writer, Readers, History, Conflicts, Why}
use Rattle.gdb_commands.specs.declared.commands.Command.TheVariants.{Decision, Decisions, Order, Lead, Slack}
use Rattle.gdb_commands.specs.declared.commands.Command.TheVariants.{Last, Other, When, Info, GoToMark, Marks, Unmeant}
use Rattle.gdb_commands.specs.declared.commands.Command.TheVariants.{Calls, Trace}
use Rattle.gdb_commands.specs.declared.commands.Command.TheVariants as commands
use Rattle.gdb_monitor.specs.declared.moves.Extreme.TheVariants as extremes
use Rattle.race_answers.specs.About.{info_text}
use Rattle.race_answers.specs.Asking.{AreConflictsTold, AreDecisionsTold, AreEdgesTold, AreReadersTold}
use Rattle.race_answers.specs.Asking.{IsHistoryTold, IsWhyTold, IsWriterTold}
use Rattle.race_answers.specs.Traces.{AreCallsTold, IsTraceTold}
use Rattle.gdb_commands.specs.Forms.{unmeant_text}
use Rattle.gdb_monitor.specs.Leading.{lead_told}
use Rattle.gdb_moves.specs.Sights.{IsOf}
use Rattle.gdb_monitor.specs.Marking.{GoesToMark}
use Rattle.gdb_monitor.specs.Moves.{GoesAround, GoesTo, GoesToCut, GoesToDecision, GoesToLast, Tells}
use Rattle.gdb_monitor.specs.Ordering.{IsOrderTold}
use Rattle.gdb_monitor.specs.OtherWay.{IsOtherTold}
use Rattle.gdb_monitor.specs.Slack.{IsSlackTold}
use Rattle.gdb_monitor.specs.Texts.{here_text}
use Rattle.gdb_monitor.specs.Whens.{when_text}

-- what a command that asks for a word, an instruction, a pc or all decisions is told, by the audit, at a cut
abbrev pub AuditTells : Command → Findings → cuts.Cut → (told : List ℕ) → Type 0
AuditTells (Edges at) a cut told = AreEdgesTold a cut at told
AuditTells (Writer word) a cut told = IsWriterTold a cut word told
AuditTells (Readers word) a cut told = AreReadersTold a cut word told
AuditTells (History word filter) a cut told = IsHistoryTold a cut word filter told
AuditTells (Conflicts at) a cut told = AreConflictsTold a at told
AuditTells Decisions a cut told = AreDecisionsTold a told
AuditTells (Why at) a cut told = IsWhyTold a at told
AuditTells (Other at next) a cut told = IsOtherTold a at next told
AuditTells Info a cut told = told ≡ info_text a
AuditTells (Trace at near) a cut told = IsTraceTold a cut at near told
AuditTells (Calls pc) a cut told = AreCallsTold a pc told
AuditTells _ a cut told = told ≡ []

-- by the audit of the place's recording, at its cut, and nothing moves
pub record Asks (command : Command) (old new : Placed) (told : List ℕ) : Type 0 where
  pub place : new ≡ old
  pub audit : Findings
  pub run : IsOf audit old
  pub passed : PassesOf audit
  pub tells : AuditTells command audit (cut_at old) told

abbrev pub Obeys : Command → List Mark → (old new : Placed) → (told : List ℕ) → Type 0
Obeys Cut marks old new told = Tells old new told (here_text old)
Obeys (GoTo at) marks old new told = GoesTo at old new told
Obeys (GoToCut counts) marks old new told = GoesToCut counts old new told
Obeys (GoToMark name) marks old new told = GoesToMark name marks old new told
Obeys (commands.Mark name) marks old new told = Tells old new told (here_text old)
Obeys Marks marks old new told = Tells old new told (marks_text marks)
Obeys (Earliest core) marks old new told = GoesAround extremes.Earliest core old new told
Obeys (Latest core) marks old new told = GoesAround extremes.Latest core old new told
Obeys (Edges at) marks old new told = Asks (Edges at) old new told
Obeys (Writer word) marks old new told = Asks (Writer word) old new told
Obeys (Readers word) marks old new told = Asks (Readers word) old new told
Obeys (History word filter) marks old new told = Asks (History word filter) old new told
Obeys (Conflicts at) marks old new told = Asks (Conflicts at) old new told
Obeys Decisions marks old new told = Asks Decisions old new told
Obeys (Order at other) marks old new told = (new ≡ old) × IsOrderTold at other old told
Obeys (Decision at other) marks old new told = GoesToDecision at other old new told
Obeys (Lead core) marks old new told = Tells old new told (lead_told core old.recording.params.cores)
Obeys (Last word) marks old new told = GoesToLast word old new told
Obeys (Slack core) marks old new told = (new ≡ old) × IsSlackTold core old told
Obeys (Why at) marks old new told = Asks (Why at) old new told
Obeys (Other at next) marks old new told = Asks (Other at next) old new told
Obeys When marks old new told = Tells old new told (when_text old)
Obeys Info marks old new told = Asks Info old new told
Obeys (Trace at near) marks old new told = Asks (Trace at near) old new told
Obeys (Calls pc) marks old new told = Asks (Calls pc) old new told
Obeys (Unmeant word) marks old new told = Tells old new told (unmeant_text word)
