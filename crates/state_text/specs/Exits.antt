-- Rule: exits, their numbers and reports: status_of, fault_line
-- The exit status and the fault text of each way to end.
use Rattle.std.specs.Prelude.{ℕ, List, [], ◌++◌, codes, decimal, take}
use Rattle.std.specs.List.{flat_map}
use Rattle.rtr_types.specs.declared.cut.Cut.{Cut}
use Rattle.rtr_types.specs.declared.instr.Edge.{Edge}
use Rattle.rtr_types.specs.declared.instr.Instr.{Instr}
use Rattle.image_elf.specs.declared.elf_fault.ElfFault.{ElfFault}
use Rattle.image_elf.specs.declared.elf_fault.ElfFault.TheVariants as elf_faults
use Rattle.log_codec.specs.declared.codec_fault.CodecFault.{CodecFault}
use Rattle.log_codec.specs.declared.codec_fault.CodecFault.TheVariants as faults
use Rattle.min_certificate.specs.declared.answers.CheckFailure.{CheckFailure}
use Rattle.min_certificate.specs.declared.answers.CheckFailure.TheVariants.{NotConflict, BadClock, NotNeeded, NotLeast}
use Rattle.state_text.specs.declared.exit.Exit.{Exit}
use Rattle.state_text.specs.declared.exit.Exit.TheVariants.{Done, Usage, TooLarge, Bad, Stuck, Short, Undetermined}
use Rattle.state_text.specs.declared.exit.Exit.TheVariants.{CheckFailed, ReadFault, WriteFault}
use Rattle.state_text.specs.declared.exit.Exit.TheVariants.{OutOfMemory, Elf, NoInstr}
use Rattle.state_text.specs.declared.exit.Exit.TheVariants.{TooMany, NotShown}
use Rattle.state_text.specs.Pieces.{line}

-- the exit status
abbrev pub status_of : Exit → ℕ
status_of Done = 0
status_of Usage = 1
status_of TooLarge = 2
status_of (Bad part) = 3
status_of (Stuck cut) = 4
status_of (Short core count) = 5
status_of (Undetermined first second) = 6
status_of (CheckFailed failure) = 7
status_of ReadFault = 8
status_of WriteFault = 9
status_of OutOfMemory = 10
status_of (Elf fault) = 11
status_of (NoInstr at) = 12
status_of (TooMany vectors edges) = 13
status_of (NotShown vector) = 14

-- the counts of a cut, core 0 first, each after a space
abbrev pub count_text : ℕ → List ℕ
count_text count = codes " " ++ decimal count

abbrev pub counts_text : Cut → List ℕ
counts_text cut = flat_map count_text (take cut.cores cut.counts)

-- an instruction: its core and its count
abbrev pub instr_text : Instr → List ℕ
instr_text at = decimal at.core ++ codes ":" ++ decimal at.count

-- an edge: its source and its target
abbrev pub edge_text : Edge → List ℕ
edge_text edge = instr_text edge.from ++ codes " to " ++ instr_text edge.to

-- an edge, and what is wrong with it
abbrev pub edge_fault_line : Edge → (fault : List ℕ) → List ℕ
edge_fault_line edge fault = line (codes "rtr: edge " ++ edge_text edge ++ fault)

-- why a log isn't shown to be least
abbrev pub failure_line : CheckFailure → List ℕ
failure_line (NotConflict edge) = edge_fault_line edge (codes " is no conflict")
failure_line (BadClock core entry) =
    line (codes "rtr: clock " ++ decimal entry ++ codes " of core " ++ decimal core ++ codes " is wrong")
failure_line (NotNeeded edge) = edge_fault_line edge (codes " is not needed")
failure_line (NotLeast edge) = edge_fault_line edge (codes " is not in the least log")

-- a segment by its number, and what is wrong with it
abbrev pub segment_line : (index : ℕ) → (wrong : List ℕ) → List ℕ
segment_line index wrong = line (codes "rtr: ELF segment " ++ decimal index ++ codes " " ++ wrong)

-- why an ELF file has no flat image; want of memory for it has an exit of its own, and no line here
abbrev pub elf_line : ElfFault → List ℕ
elf_line elf_faults.NotElf = line (codes "rtr: not an ELF file")
elf_line elf_faults.Header = line (codes "rtr: ELF header not accepted")
elf_line (elf_faults.Segment index) = segment_line index (codes "not accepted")
elf_line (elf_faults.Outside index) = segment_line index (codes "outside memory")
elf_line (elf_faults.Overlap index) = segment_line index (codes "overlaps")
elf_line elf_faults.Entry = line (codes "rtr: ELF entry not accepted")
elf_line elf_faults.OutOfMemory = []

-- what the report gets: nothing, or one line
abbrev pub fault_line : Exit → List ℕ
fault_line Done = []
fault_line Usage = line (codes "rtr: usage")
fault_line TooLarge = line (codes "rtr: input too large")
fault_line (Bad part) = line (codes "rtr: bad input, part " ++ decimal part)
fault_line (Stuck cut) = line (codes "rtr: stuck at" ++ counts_text cut)
fault_line (Short core count) = line (codes "rtr: core " ++ decimal core ++ codes " stops at " ++ decimal count)
fault_line (Undetermined first second) =
    line (codes "rtr: no order from " ++ instr_text first ++ codes " to " ++ instr_text second)
fault_line (CheckFailed failure) = failure_line failure
fault_line ReadFault = line (codes "rtr: read fault")
fault_line WriteFault = line (codes "rtr: write fault")
fault_line OutOfMemory = line (codes "rtr: out of memory")
fault_line (Elf fault) = elf_line fault
fault_line (NoInstr at) = line (codes "rtr: no instruction " ++ instr_text at)
fault_line (TooMany vectors edges) =
    line (codes "rtr: " ++ decimal vectors ++ codes " vectors with " ++ decimal edges ++ codes " edges are too many")
fault_line (NotShown vector) = line (codes "rtr: vector " ++ decimal vector ++ codes " is not shown needed")

-- how a command ends whose input can't be read
abbrev pub exit_of : CodecFault → Exit
exit_of (faults.Bad part) = Bad part
exit_of faults.OutOfMemory = OutOfMemory
