use Rattle.msi_protocol.proofs.Keeps.{start_holds, keeps_move, holds_in_runs, stage_fits_holds}
use Rattle.msi_protocol.proofs.laws.moves_keep_the_invariant.Goals as goal

pub returns : goal.returns
returns c = record { start = start_holds; step = keeps_move; run = holds_in_runs; fits = stage_fits_holds }
