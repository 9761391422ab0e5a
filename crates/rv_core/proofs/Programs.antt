-- What is decoded of an image, address by address.
use Rattle.std.proofs.Common.{◌≡◌, ◌≢◌, ℕ, ◌+◌, ◌*◌, ◌%◌, ◌<◌, List, length, arith}
use Rattle.std.specs.Prelude.{None, Option, slice_index_or}
use Rattle.std.proofs.lemmas.Bool.Decides.{nat_tests}
use Rattle.image_mem.specs.Contents.{Contents, fetched}
use Rattle.rv_decode.specs.declared.op.Op.{Op}
use Rattle.rv_core.specs.Steps.{instruction_at}

-- the instructions at the first k of these addresses
pub record IsDecodedTo (image : Contents) (ops : List (Option Op)) (k : ℕ) : Type 0 where
  pub long : length ops ≡ k
  pub each : (j : ℕ) → j < k → slice_index_or ops j None ≡ instruction_at image (4 * j)

-- no word can be fetched between two of them
unfetched : (image : Contents) (pc : ℕ) → pc % 4 ≢ 0 → fetched image pc ≡ None
unfolding fetched
unfetched image pc uneven = grind (arith, nat_tests)

-- nor past the image
past : (image : Contents) (pc : ℕ) → length image.bytes < pc + 4 → fetched image pc ≡ None
unfolding fetched
past image pc beyond = grind (arith, nat_tests)

pub none_between : (image : Contents) (pc : ℕ) → pc % 4 ≢ 0 → instruction_at image pc ≡ None
unfolding instruction_at
none_between image pc uneven = rw (unfetched image pc uneven)

pub none_past : (image : Contents) (pc : ℕ) → length image.bytes < pc + 4 → instruction_at image pc ≡ None
unfolding instruction_at
none_past image pc beyond = rw (past image pc beyond)
