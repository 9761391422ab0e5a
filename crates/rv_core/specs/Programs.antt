-- Images whose instructions were decoded.
use Rattle.std.specs.Prelude.{◌≡◌, ℕ, ◌*◌, ◌^◌, ◌<◌, List, Option, None, slice_index_or}
use Rattle.image_mem.specs.Contents.{Contents}
use Rattle.rv_decode.specs.declared.op.Op.{Op}
use Rattle.rv_core.specs.Steps.{instruction_at}

-- the list has the instruction at each address that is a multiple of 4, by that multiple, and none past its end
pub record AreDecoded (image : Contents) (ops : List (Option Op)) : Type 0 where
  pub each : (k : ℕ) → k < 2 ^ 30 → slice_index_or ops k None ≡ instruction_at image (4 * k)
