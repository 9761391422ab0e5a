use Rattle.image_elf.proofs.LawLemmas.{first_fault, is_taken_where}
use Rattle.image_elf.proofs.laws.fault_laws.Goals as goal

pub returns : goal.returns
returns c = record { taken = is_taken_where; first = first_fault }
