use Rattle.race_log.proofs.ValidityTest as validity
use Rattle.race_log.proofs.laws.validity_laws.Goals as goal

pub returns : goal.returns
returns c = record { test = validity.valid_test; edges = validity.edges_by_pair; vectors = validity.vectors_by_pair }
