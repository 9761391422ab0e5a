use Rattle.rtr_types.specs.declared.pairs.Which.TheVariants.{Reduced}
use Rattle.table_examples.proofs.turn_tests.turns_are.Given as goal

abbrev pub ghosts-turns_by : goal.ghosts-turns_by
ghosts-turns_by g a = record { recording = a.recording.now; which = Reduced }
