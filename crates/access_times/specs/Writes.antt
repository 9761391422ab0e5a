-- How the last write of a word is kept: a note, and whether it is there.
use Rattle.std.specs.Prelude.{Bool, Option, Some, None, if◌then◌else◌}
use Rattle.std.specs.Borrow.{Bor}
use Rattle.clock_core.specs.declared.clock.Clock.{Clock}
use Rattle.rtr_types.specs.declared.instr.Instr.{Instr}

-- the write with its clock, where there is one
abbrev pub write_if : Bool → Instr × Clock → Option (Instr × Clock)
write_if is_there write = if is_there then Some write else None

-- a write that is lent, as it is to be read
abbrev pub write_seen : Option (Bor (Instr × Clock)) → Option (Instr × Clock)
write_seen None = None
write_seen (Some write) = Some write.now
