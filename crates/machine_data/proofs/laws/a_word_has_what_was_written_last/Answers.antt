use Rattle.machine_data.proofs.Memory.{last_write_found}
use Rattle.machine_data.proofs.laws.a_word_has_what_was_written_last.Goals as goal

pub returns : goal.returns
returns c = last_write_found
