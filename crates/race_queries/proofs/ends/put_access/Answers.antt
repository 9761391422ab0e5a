use Rattle.std.proofs.Common.{sym, ◌∙◌}
use Rattle.rtr_types.specs.Accesses.{is_same}
use Rattle.race_queries.specs.Ends.{key_of}
use Rattle.race_queries.proofs.EndLemmas.{access_left, access_put}
use Rattle.race_queries.proofs.ends.put_access.Goals as goal

pub returns-in_ok-insert : goal.returns-in_ok-insert
returns-in_ok-insert c = record {
  each = λ at found was.
      access_put c.args.access (is_same c.args.access.at at) _ _ found
      (c.in_ok-insert.ensures.updates.0 (key_of at)) was;
}

pub returns-else-contains_key : goal.returns-else-contains_key
returns-else-contains_key c =
    access_left _ c.args.access (sym c.if-contains_key.false ∙ c.contains_key.ensures)
