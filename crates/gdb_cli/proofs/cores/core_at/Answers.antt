use Rattle.std.proofs.Common.{subst}
use Rattle.cut_replay.specs.CutStates.{IsStateAt}
use Rattle.race_log.specs.declared.recording.Recording.{Recording}
use Rattle.rtr_types.specs.declared.pairs.Which.{Which}
use Rattle.rtr_cli.proofs.CutLemmas.{replayed_of}
use Rattle.gdb_cli.proofs.CoreLemmas.{FitsFile, state_fits}
use Rattle.gdb_cli.proofs.cores.core_at.Goals as goal
use Rattle.gdb_cli.proofs.cores.core_at.Goals.{In_ok-outcome}

-- what the moment's state is fits a core file
fits : (c : In_ok-outcome) → FitsFile c.args.moment.at c.in_ok-outcome.outcome
fits c =
    state_fits c.replays_fit_their_plan.ensures c.args.moment.which c.args.recording c.args.moment.at
    c.in_ok-cut.cut c.in_ok-outcome.outcome c.requires
    (c.has_instr.ensures.0 c.if-not-has_instr.false)
    (subst (λ (w : Which). IsStateAt w c.args.recording c.in_ok-cut.cut c.in_ok-outcome.outcome)
    c.in_ok-audited.ensures.which_is
    (subst (λ (r : Recording). IsStateAt c.in_ok-audited.audited.which r c.in_ok-cut.cut c.in_ok-outcome.outcome)
    c.in_ok-audited.ensures.recording_is c.in_ok-outcome.ensures))

pub core_file-requires-clause-first : goal.core_file-requires-clause-first
core_file-requires-clause-first c = (fits (goal.at.core_file-requires-clause-first c).In_ok-outcome).first

pub core_file-requires-clause-cores : goal.core_file-requires-clause-cores
core_file-requires-clause-cores c = (fits (goal.at.core_file-requires-clause-cores c).In_ok-outcome).cores

pub core_file-requires-clause-words : goal.core_file-requires-clause-words
core_file-requires-clause-words c = (fits (goal.at.core_file-requires-clause-words c).In_ok-outcome).words

pub returns-clause-determinate : goal.returns-clause-determinate
returns-clause-determinate c =
    replayed_of c.args.moment.which c.args.recording c.in_ok-audited.audited c.in_ok-audited.ensures
