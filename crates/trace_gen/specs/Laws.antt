-- What holds of every generated image.
use Rattle.std.specs.Prelude.{◌≡◌, ℕ, ◌*◌, IsTrue, All, length, Some, slice_get}
use Rattle.image_mem.specs.Contents.{fetched}
use Rattle.rv_decode.specs.declared.op.Op.{Op}
use Rattle.rv_decode.specs.Ranges.{Fits}
use Rattle.rv_decode.specs.Table.{decoded}
use Rattle.rv_decode.specs.Words.{encoding}
use Rattle.trace_gen.specs.declared.shape.Shape.{Shape}
use Rattle.trace_gen.specs.Programs.{program, generated, image_length, takes}

-- each instruction has a word
abbrev pub FitsLaw : Type 0
FitsLaw = (shape : Shape) (number : ℕ) → IsTrue (takes shape number) → All Fits (program shape number)

-- an image has 4 bytes for each instruction, and as many for every number
pub record Sized (shape : Shape) (number : ℕ) : Type 0 where
  pub instructions : length (generated shape number) ≡ 4 * length (program shape number)
  pub bytes : length (generated shape number) ≡ image_length shape

abbrev pub LengthLaw : Type 0
LengthLaw = (shape : Shape) (number : ℕ) → Sized shape number

-- the machine fetches the word of instruction k at address 4 k, and it means that instruction
pub record Fetches (shape : Shape) (number words k : ℕ) (op : Op) : Type 0 where
  pub word : fetched (record { bytes = generated shape number; words = words }) (4 * k) ≡ Some (encoding op)
  pub meaning : decoded (encoding op) ≡ Some op

abbrev pub FetchLaw : Type 0
FetchLaw =
    (shape : Shape) (number words k : ℕ) (op : Op) → IsTrue (takes shape number)
    → slice_get (program shape number) k ≡ Some op → Fetches shape number words k op
