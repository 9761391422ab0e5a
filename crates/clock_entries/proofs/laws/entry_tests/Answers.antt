use Rattle.clock_entries.proofs.ExactEntryTest.{exact_passes, next_exact}
use Rattle.clock_entries.proofs.EntryTests.{good_test, needed_test}
use Rattle.clock_entries.proofs.laws.entry_tests.Goals as goal

pub returns : goal.returns
returns c = record { good = good_test; needed = needed_test; passes = exact_passes; next = next_exact }
