-- The state at a cut: it is an outcome over the recording's image, and there is one.
use Rattle.std.proofs.Common.{◌≡◌, ◌∙◌, sym, ap, subst, Bool, true, false, List, ℕ}
use Rattle.rtr_types.specs.declared.cut.Cut.{Cut}
use Rattle.rtr_types.specs.declared.instr.Instr.{Instr}
use Rattle.rtr_types.specs.declared.pairs.Which.{Which}
use Rattle.image_mem.specs.Contents.{Contents}
use Rattle.rv_core.specs.declared.outcome.Outcome.{Outcome}
use Rattle.race_log.specs.declared.recording.Recording.{Recording}
use Rattle.race_log.specs.Validity.{Valid}
use Rattle.replay_core.specs.Plans.{plan_of, recorded_image}
use Rattle.replay_core.specs.Play.{played}
use Rattle.replay_audit.specs.Audits.{Findings, IsAuditOf, IsInstrOf}
use Rattle.replay_audit.specs.Laws.{OutcomeFits, ReplayFitsLaw}
use Rattle.cut_replay.specs.ClosedCuts.{IsClosed, OneGreatestCutLaw, OneLeastCutLaw}
use Rattle.cut_replay.specs.CutStates.{IsStateAt, OneStateLaw}
use Rattle.state_text.specs.Cuts.{cut_state_lines}
use Rattle.state_text.specs.States.{IsOutcomeOf}
use Rattle.state_text.specs.declared.exit.Exit.{Exit}
use Rattle.state_text.specs.declared.exit.Exit.TheVariants as exits
use Rattle.rtr_cli.specs.Replays.{AuditEnds, IsReplayed}
use Rattle.rtr_cli.specs.Cuts.{AtEnds, IsCutAt, IsToldAt}

-- what a replay order plays to is an outcome over the recording's image
pub state_fits : ReplayFitsLaw → (which : Which) (r : Recording) (image : Contents) (cut : Cut) (outcome : Outcome)
    → Valid r → image ≡ recorded_image r → IsStateAt which r cut outcome → IsOutcomeOf image outcome
state_fits law which r image cut outcome valid is state =
    let order = state.some_order.0 in
    let plays = state.every_order order state.some_order.1 in
    let fits : OutcomeFits (plan_of which r) (played (plan_of which r) order) = law (plan_of which r) order
    state.some_order.1.ordered in
    let played_fits : IsOutcomeOf (recorded_image r) (played (plan_of which r) order) =
    record {
      memory = valid.params.words;
      words = fits.words;
      loads = fits.lists ∙ sym fits.cores;
      within
          = fits.within;
    } in
    subst (λ (i : Contents). IsOutcomeOf i outcome) (sym is)
    (subst (λ (o : Outcome). IsOutcomeOf (recorded_image r) o) (sym plays.outcome_is) played_fits)

-- there is one cut of each kind
pub one_cut : OneLeastCutLaw → OneGreatestCutLaw → (which : Which) (r : Recording) (at : Instr) (latest : Bool)
    (cut other : Cut)
    → IsCutAt which r at latest cut → IsCutAt which r at latest other → cut ≡ other
one_cut least greatest which r at false cut other is also = least which r at cut other is also
one_cut least greatest which r at true cut other is also = greatest which r at cut other is also

-- and so one text
pub one_text : OneLeastCutLaw → OneGreatestCutLaw → OneStateLaw → (which : Which) (at : Instr) (latest loads : Bool)
    (r : Recording) (out other : List ℕ)
    → IsToldAt which at latest loads r out → IsToldAt which at latest loads r other → out ≡ other
one_text least greatest state which at latest loads r out other (has, cut, outcome, is_cut, is_state, is)
    (has', cut', outcome', is_cut', is_state', is') =
    let same_cut : cut' ≡ cut = one_cut least greatest which r at latest cut' cut is_cut' is_cut in
    let same_state : outcome ≡ outcome' =
    state which r cut outcome outcome' is_state (subst (λ (c : Cut). IsStateAt which r c outcome') same_cut is_state')
    in
    is ∙ ap (λ (o : Outcome). cut_state_lines cut o (recorded_image r) loads) same_state
    ∙ ap (λ (c : Cut). cut_state_lines c outcome' (recorded_image r) loads) (sym same_cut) ∙ sym is'

-- what an audit's recording and log are replaced by: those that were audited
pub told_of : (which : Which) (at : Instr) (latest loads : Bool) (r : Recording) (a : Findings) (image : Contents)
    (cut : Cut) (outcome : Outcome)
    (out : List ℕ) → IsInstrOf r at → IsAuditOf which r a → image ≡ recorded_image r → IsCutAt a.which a.recording at
    latest cut
    → IsStateAt a.which a.recording cut outcome → out ≡ cut_state_lines cut outcome image loads → IsToldAt which at
    latest loads r out
told_of which at latest loads r a image cut outcome out has audited is is_cut is_state made =
    let cut_by : IsCutAt which a.recording at latest cut =
    subst (λ (w : Which). IsCutAt w a.recording at latest cut) audited.which_is is_cut in
    let state_by : IsStateAt which a.recording cut outcome =
    subst (λ (w : Which). IsStateAt w a.recording cut outcome) audited.which_is is_state in (
      has,
      cut,
      outcome,
      subst (λ (q : Recording). IsCutAt which q at latest cut) audited.recording_is cut_by,
      subst (λ (q : Recording). IsStateAt which q cut outcome) audited.recording_is state_by,
      made ∙ ap (λ (i : Contents). cut_state_lines cut outcome i loads) is,
    )

-- either cut is closed
pub cut_is_closed : (which : Which) (r : Recording) (at : Instr) (latest : Bool) (cut : Cut) → IsCutAt which r at
    latest cut → IsClosed which r cut
cut_is_closed which r at false cut is = is.closed
cut_is_closed which r at true cut is = is.closed

-- the recording has the instruction that was looked for in it
pub instr_of : (r audited : Recording) (at : Instr) → audited ≡ r → IsInstrOf r at → IsInstrOf audited at
instr_of r audited at is has = subst (λ (q : Recording). IsInstrOf q at) (sym is) has

-- the audit of a recording that has the instruction was refused
pub at_ends : (which : Which) (at : Instr) (r : Recording) (exit : Exit) → IsInstrOf r at → AuditEnds which r exit
    → AtEnds which at r exit
at_ends which at r (exits.Stuck cut) has it = (has, it)
at_ends which at r (exits.Short core count) has it = (has, it)
at_ends which at r (exits.Undetermined first second) has it = (has, it)
at_ends which at r (exits.CheckFailed failure) has it = it
at_ends which at r exits.OutOfMemory has it = tt
at_ends which at r (exits.Bad part) has it = it
at_ends which at r exits.Done has it = it
at_ends which at r exits.Usage has it = it
at_ends which at r exits.TooLarge has it = it
at_ends which at r exits.ReadFault has it = it
at_ends which at r exits.WriteFault has it = it
at_ends which at r (exits.Elf fault) has it = it
at_ends which at r (exits.NoInstr absent) has it = absurd it
at_ends which at r (exits.TooMany vectors edges) has it = it
at_ends which at r (exits.NotShown vector) has it = it

-- what was audited is replayed
pub replayed_of : (which : Which) (r : Recording) (a : Findings) → IsAuditOf which r a → IsReplayed which r
replayed_of which r a audited =
    let by_which : IsReplayed which a.recording =
    subst (λ (w : Which). IsReplayed w a.recording) audited.which_is
    (audited.passed.determinate, audited.passed.every_order) in
    subst (λ (q : Recording). IsReplayed which q) audited.recording_is by_which
