use Rattle.msi_protocol.proofs.ExampleRun.{both_share, first_owns}
use Rattle.msi_protocol.proofs.laws.the_example_goes_so.Goals as goal

pub returns-clause-shared : goal.returns-clause-shared
returns-clause-shared c = both_share

pub returns-clause-owned : goal.returns-clause-owned
returns-clause-owned c = first_owns
