use Rattle.race_queries.proofs.EndLemmas.{all_ends}
use Rattle.race_queries.proofs.ends.kept_of.Goals as goal

pub returns : goal.returns
returns c = all_ends _ _ c.args.accesses.now c.in_ok-put_accesses.ensures c.args.edges.now c.in_ok-put_places.ensures
