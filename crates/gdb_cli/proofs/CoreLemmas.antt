-- The state at a moment: it fits a core file, and there is one.
use Rattle.std.proofs.Common.{◌≡◌, ◌∙◌, sym, ap, subst, ◌<◌, ◌≤◌, List, ℕ, length, Result, Ok}
use Rattle.std.proofs.Common.{Err, arith}
use Rattle.core_file.specs.CoreFiles.{core_bytes_of}
use Rattle.cut_replay.specs.ClosedCuts.{OneGreatestCutLaw, OneLeastCutLaw}
use Rattle.cut_replay.specs.CutStates.{IsStateAt, OneStateLaw}
use Rattle.log_codec.specs.Reading.{whole_at}
use Rattle.race_log.specs.Validity.{Valid}
use Rattle.race_log.specs.declared.recording.Recording.{Recording}
use Rattle.replay_audit.specs.Audits.{Findings, IsAuditOf, IsInstrOf}
use Rattle.replay_audit.specs.Laws.{OutcomeFits, ReplayFitsLaw}
use Rattle.replay_core.specs.Plans.{plan_of}
use Rattle.replay_core.specs.Play.{played}
use Rattle.rtr_cli.specs.Inputs.{SpellsSome}
use Rattle.rtr_cli.specs.Cuts.{IsCutAt}
use Rattle.rtr_cli.proofs.CutLemmas.{one_cut}
use Rattle.rtr_types.specs.declared.TheConstants.{CORES_MAX}
use Rattle.rtr_types.specs.declared.cut.Cut.{Cut}
use Rattle.rtr_types.specs.declared.instr.Instr.{Instr}
use Rattle.rtr_types.specs.declared.pairs.Which.{Which}
use Rattle.rtr_types.specs.declared.params.TheConstants.{WORDS_MAX}
use Rattle.rv_core.specs.declared.outcome.Outcome.{Outcome}
use Rattle.gdb_cli.specs.Cores.{IsCoreAt, OneCoreFileLaw}
use Rattle.gdb_cli.specs.declared.words.Moment.{Moment}

-- a core file can be made of the outcome, with the instruction's core in front
pub record FitsFile (at : Instr) (outcome : Outcome) : Type 0 where
  pub first : at.core < length outcome.cores
  pub cores : length outcome.cores ≤ CORES_MAX
  pub words : length outcome.words ≤ WORDS_MAX

-- what a replay order plays to has the recording's cores and memory
pub state_fits : ReplayFitsLaw → (which : Which) (r : Recording) (at : Instr) (cut : Cut) (outcome : Outcome) → Valid r
    → IsInstrOf r at → IsStateAt which r cut outcome → FitsFile at outcome
state_fits law which r at cut outcome valid has state =
    let order = state.some_order.0 in
    let plays = state.every_order order state.some_order.1 in
    let played_fits : OutcomeFits (plan_of which r) (played (plan_of which r) order) =
    law (plan_of which r) order state.some_order.1.ordered in
    let fits : OutcomeFits (plan_of which r) outcome =
    subst (λ (o : Outcome). OutcomeFits (plan_of which r) o) (sym plays.outcome_is) played_fits in
    record {
      first = omega (arith, fits.cores, has.core);
      cores = omega (arith, fits.cores, valid.each_core, valid.params.cores);
      words = omega (arith, fits.words, valid.params.words);
    }

-- what is made of the recording that was audited is made of the one that was read
pub core_of_audited : (moment : Moment) (r : Recording) (a : Findings) (cut : Cut) (outcome : Outcome) (out : List ℕ)
    → IsInstrOf r moment.at → IsAuditOf moment.which r a → IsCutAt a.which a.recording moment.at moment.latest cut
    → IsStateAt a.which a.recording cut outcome → out ≡ core_bytes_of moment.at.core outcome → IsCoreAt moment r out
core_of_audited moment r a cut outcome out has audited is_cut is_state made =
    let cut_by : IsCutAt moment.which a.recording moment.at moment.latest cut =
    subst (λ (w : Which). IsCutAt w a.recording moment.at moment.latest cut) audited.which_is is_cut in
    let state_by : IsStateAt moment.which a.recording cut outcome =
    subst (λ (w : Which). IsStateAt w a.recording cut outcome) audited.which_is is_state in
    let cut_of : IsCutAt moment.which r moment.at moment.latest cut =
    subst (λ (q : Recording). IsCutAt moment.which q moment.at moment.latest cut) audited.recording_is cut_by in
    let state_of : IsStateAt moment.which r cut outcome =
    subst (λ (q : Recording). IsStateAt moment.which q cut outcome) audited.recording_is state_by in
    (has, cut, outcome, (cut_of, state_of), made)

-- ---- there is one

one_file : OneLeastCutLaw → OneGreatestCutLaw → OneStateLaw → (moment : Moment) (r : Recording) (out other : List ℕ)
    → IsCoreAt moment r out → IsCoreAt moment r other → out ≡ other
one_file least greatest state moment r out other (has, cut, outcome, (is_cut, is_state), is)
    (has', cut', outcome', (is_cut', is_state'), is') =
    let same_cut : cut' ≡ cut =
    one_cut least greatest moment.which r moment.at moment.latest cut' cut is_cut' is_cut in
    let same_state : outcome ≡ outcome' =
    state moment.which r cut outcome outcome' is_state
    (subst (λ (c : Cut). IsStateAt moment.which r c outcome') same_cut is_state') in
    is ∙ ap (λ (o : Outcome). core_bytes_of moment.at.core o) same_state ∙ sym is'

of_spelled : (read : Result Recording ℕ) (M : Recording → List ℕ → Type 0) (out other : List ℕ)
    → ((r : Recording) → M r out → M r other → out ≡ other) → SpellsSome read (λ r. M r out)
    → SpellsSome read (λ r. M r other) → out ≡ other
of_spelled (Ok r) M out other one made also = one r made also
of_spelled (Err part) M out other one made also = absurd made

pub one_core_file : OneLeastCutLaw → OneGreatestCutLaw → OneStateLaw → OneCoreFileLaw
one_core_file least greatest state moment input out other =
    of_spelled (whole_at input) (IsCoreAt moment) out other
    (λ r. one_file least greatest state moment r out other)
