use Rattle.std.proofs.Common.{◌≡◌, None}
use Rattle.image_elf.specs.Cells.{HoldFirst}
use Rattle.image_elf.specs.Faults.{first_header_fault}
use Rattle.image_elf.proofs.segments.load_segments.Given as goal

-- the headers before this one are loaded, and have no fault
abbrev pub invariant-loop-index : goal.invariant-loop-index
invariant-loop-index l = record {
  loaded : HoldFirst l.file l.index l.cells;
  fine : first_header_fault l.file l.words l.index ≡ None;
}
