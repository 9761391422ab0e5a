use Rattle.machine_known.proofs.KnownRuns.{known_run_law, run_knows, run_plain}
use Rattle.machine_known.proofs.laws.runs_count_what_is_known.Goals as goal

pub returns-clause-carries : goal.returns-clause-carries
returns-clause-carries g c =
    λ image params choices riders t few. (
      run_plain g.R.Rider.riding image params choices riders t,
      run_knows g.R.Rider.riding image params choices riders t
          few,
    )

pub returns-clause-told : goal.returns-clause-told
returns-clause-told g c = known_run_law g.R.Rider.riding
