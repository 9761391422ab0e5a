use Rattle.race_queries.proofs.EndLemmas.{none_put}
use Rattle.race_queries.specs.Ends.{key_of}
use Rattle.race_queries.proofs.ends.put_place.Goals as goal

pub returns-clause-others : goal.returns-clause-others
returns-clause-others c other was = none_put _ _ _ (c.in_ok-insert.ensures.updates.0 (key_of other)) was
