use Rattle.rtr_types.specs.declared.pairs.Which.TheVariants.{Reduced}
use Rattle.table_examples.proofs.turn_tests.a_raced_turn_is_taken_again.Given as goal

abbrev pub ghosts-race_by : goal.ghosts-race_by
ghosts-race_by g a = record { recording = a.recording.now; which = Reduced }
