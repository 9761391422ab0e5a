use Rattle.rtr_types.specs.declared.pairs.Which.TheVariants.{Regulated}
use Rattle.table_examples.proofs.table_tests.two_threads_share_a_table.Given as goal

abbrev pub ghosts-worked : goal.ghosts-worked
ghosts-worked g a = record { recording = a.recording.now; which = Regulated }
