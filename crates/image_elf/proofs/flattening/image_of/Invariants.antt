use Rattle.std.proofs.Common.{◌≡◌}
use Rattle.std.specs.Prelude.{map}
use Rattle.std.specs.List.{range_with_len}
use Rattle.image_elf.specs.FlatImage.{flat_byte}
use Rattle.image_elf.proofs.flattening.image_of.Given as goal

-- the bytes below the address are there
abbrev pub invariant-loop-address : goal.invariant-loop-address
invariant-loop-address l = l.image.items ≡ map (flat_byte l.file) (range_with_len 0 l.address)
