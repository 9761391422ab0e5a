use Rattle.min_certificate.proofs.AccessPlaces.{both_conflict, no_first, no_second}
use Rattle.min_certificate.proofs.core_accesses.CoreAccesses.is_conflict.Goals as goal

pub returns-in-Some-find : goal.returns-in-Some-find
returns-in-Some-find c =
    both_conflict c.args.self.now c.args.edge.from c.args.edge.to c.in-Some.first c.in-Some-find.second
    c.conflicts.result c.in-Some.ensures
    c.in-Some-find.ensures c.conflicts.ensures.fact

pub returns-in-None-find : goal.returns-in-None-find
returns-in-None-find c = no_second c.args.self.now c.args.edge.from c.args.edge.to c.in-None-find.ensures

pub returns-in-None : goal.returns-in-None
returns-in-None c = no_first c.args.self.now c.args.edge.from c.args.edge.to c.in-None.ensures
