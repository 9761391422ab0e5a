-- Rule: what a store replaces of its word: store_mask
-- What a store replaces of its word, whatever the word holds: which bits, and what they become.
use Rattle.std.specs.Prelude.{◌≡◌, ℕ, ◌-◌, ◌%◌, ◌^◌, Bool, true, false, Option, Some, None, bit_and, bit_or}
use Rattle.std.specs.Int.{bit_not, w32}
use Rattle.rv_decode.specs.declared.op.Op.{Op}
use Rattle.rv_decode.specs.declared.op.Op.TheVariants.{Store as Stores}
use Rattle.image_mem.specs.Contents.{Contents}
use Rattle.image_mem.specs.Lanes.{merged}
use Rattle.rv_core.specs.declared.core_state.Core.{Core}
use Rattle.rv_core.specs.declared.core_state.Need.{Need}
use Rattle.rv_core.specs.declared.core_state.Need.TheVariants.{Store}
use Rattle.rv_core.specs.Operations.{size_of}
use Rattle.rv_core.specs.States.{register, address_of}
use Rattle.rv_core.specs.Steps.{need, wrote, instruction_at}

-- the instruction stores, and is no atomic memory operation
abbrev pub is_store : Need → Bool
is_store (Store word whole) = true
is_store _ = false

-- a word in which lanes were replaced by those of this value, where all other bits are 0
abbrev pub lanes_of : Core → Op → (value : ℕ) → ℕ
lanes_of core (Stores width rs1 rs2 immediate) value =
    merged 0 value (address_of core rs1 immediate % 4) (size_of width)
lanes_of core _ value = 0

-- the value whose low bytes a store writes
abbrev pub stored_value : Core → Op → ℕ
stored_value core (Stores width rs1 rs2 immediate) = register core rs2
stored_value core _ = 0

-- the bits that the instruction at pc replaces, and what they become; an instruction that is no store replaces none
abbrev pub mask_of : Core → Option Op → ℕ × ℕ
mask_of core None = (0, 0)
mask_of core (Some op) = (lanes_of core op (2 ^ 32 - 1), lanes_of core op (stored_value core op))

unfoldable pub store_mask : Contents → Core → ℕ × ℕ
store_mask image core = mask_of core (instruction_at image core.pc)

-- a word whose bits in the mask become these
abbrev pub masked : (old mask bits : ℕ) → ℕ
masked old mask bits = bit_or (bit_and old (bit_not w32 mask)) bits

-- ---- laws

-- what a store writes is the word with these bits replaced
abbrev pub StoreMaskLaw : Type 0
StoreMaskLaw =
    (image : Contents) (core : Core) (word : ℕ) (whole : Bool) (old : ℕ)
    → need image core ≡ Store word whole
    → wrote image core old ≡ masked old (store_mask image core).0 (store_mask image core).1

-- and they lie within the mask
abbrev pub WithinMaskLaw : Type 0
WithinMaskLaw =
    (image : Contents) (core : Core)
    → bit_and (store_mask image core).1 (store_mask image core).0 ≡ (store_mask image core).1
