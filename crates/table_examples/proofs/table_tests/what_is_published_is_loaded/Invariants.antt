use Rattle.rtr_types.specs.declared.pairs.Which.TheVariants.{Reduced}
use Rattle.table_examples.proofs.table_tests.what_is_published_is_loaded.Given as goal

abbrev pub ghosts-stored_then_loaded : goal.ghosts-stored_then_loaded
ghosts-stored_then_loaded g a = record { recording = a.recording.now; which = Reduced }
