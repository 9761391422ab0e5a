use Rattle.rtr_types.specs.declared.pairs.Which.TheVariants.{Reduced}
use Rattle.table_examples.proofs.table_tests.one_loses.Given as goal

abbrev pub ghosts-both_held : goal.ghosts-both_held
ghosts-both_held g a = record { recording = a.recording.now; which = Reduced }
