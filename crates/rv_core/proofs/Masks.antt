-- The mask and the bits of a core's next store give what it writes.
use Rattle.std.proofs.Common.{◌≡◌, ◌∙◌, ap, refl, sym, ℕ, ◌/◌, ◌%◌, Bool, true, false, Option, Some, None}
use Rattle.std.specs.Prelude.{bit_and}
use Rattle.image_mem.specs.Contents.{Contents}
use Rattle.rtr_types.specs.declared.access.Kind.{Kind}
use Rattle.rtr_types.specs.declared.access.Kind.TheVariants.{Store as Storing}
use Rattle.rv_decode.specs.declared.op.Op.{Op}
use Rattle.rv_decode.specs.declared.op.Op.TheVariants.{Jal, Jalr, Branch, Load as Loads, Store as Stores, Amo as Amos}
use Rattle.rv_core.specs.declared.core_state.Core.{Core}
use Rattle.rv_core.specs.declared.core_state.Need.{Need}
use Rattle.rv_core.specs.declared.core_state.Need.TheVariants.{Local, Load, Store, Amo, Done}
use Rattle.rv_core.specs.Operations.{size_of, moved}
use Rattle.rv_core.specs.States.{register, address_of, register_target, branches, word_after}
use Rattle.rv_core.specs.Steps.{need, wrote, is_done, access_of, need_of, instruction_at}
use Rattle.rv_core.proofs.LawLemmas.{wrote-op}
use Rattle.rv_core.proofs.OpLemmas.{access_goes}
use Rattle.rv_core.proofs.StepLemmas.{GoesOnBy, access_parts, branch_accesses, goes_on, jump_accesses}
use Rattle.rv_core.specs.StoreMask.{StoreMaskLaw, WithinMaskLaw, is_store, mask_of, masked, store_mask}
use Rattle.rv_core.proofs.Bytes.{and_zero, bits_within, merged_masked}

none : {A : Type 0} (need : Need) (word : ℕ) → access_of need ≡ None → access_of need ≡ Some (Storing, word)
    → A
none need word nothing h = let both = sym nothing ∙ h in cc

abbrev stores : Option (Kind × ℕ) → Bool
stores None = false
stores (Some (Storing, word)) = true
stores (Some (_, word)) = false

-- an instruction that stores writes the masked word
op_masked : (words : ℕ) (core : Core) (op : Op) (word : ℕ)
    → access_of (need_of words core op) ≡ Some (Storing, word) → (old : ℕ) →
    word_after core op old ≡ masked old (mask_of core (Some op)).0 (mask_of core (Some op)).1
unfolding need_of word_after
op_masked words core (Jal rd offset) word h = λ old. none _ word (jump_accesses (moved core.pc offset)) h
op_masked words core (Jalr rd rs1 immediate) word h =
    λ old. none _ word (jump_accesses (register_target core rs1 immediate)) h
op_masked words core (Branch cond rs1 rs2 offset) word h =
    λ old. none _ word (branch_accesses (branches core cond rs1 rs2) (moved core.pc offset)) h
op_masked words core (Loads width rd rs1 immediate) word h =
    let address = address_of core rs1 immediate in
    let placed = access_parts words address (size_of width) (Load (address / 4)) (access_goes _ Storing word h) in
    let same = sym (ap access_of placed.needs) ∙ h in
    let never : false ≡ true = ap stores same in
    λ old. cc
op_masked words core (Stores width rs1 rs2 immediate) word h =
    λ old. merged_masked old (register core rs2) (address_of core rs1 immediate % 4) (size_of width)
op_masked words core (Amos op rd rs1 rs2) word h =
    let address = register core rs1 in
    let placed = access_parts words address 4 (Amo (address / 4)) (access_goes _ Storing word h) in
    let same = sym (ap access_of placed.needs) ∙ h in
    let never : false ≡ true = ap stores same in
    λ old. cc
op_masked words core _ word h = λ old. cc

pub mask_at : (image : Contents) (core : Core) (op : Op) → instruction_at image core.pc ≡ Some op
    → store_mask image core ≡ mask_of core (Some op)
unfolding store_mask
mask_at image core op e = ap (mask_of core) e

pub mask_law : StoreMaskLaw
mask_law image core word whole old is =
    let access : access_of (need image core) ≡ Some (Storing, word) = ap access_of is in
    let on = goes_on image core (access_goes (need image core) Storing word access) in
    let goes : GoesOnBy image core on.0 = on.1 in
    wrote-op image core on.0 old goes.at_pc
    ∙ (op_masked image.words core on.0 word (sym (ap access_of goes.needs) ∙ access) old
    ∙ ap (λ (m : ℕ × ℕ). masked old m.0 m.1) (sym (mask_at image core on.0 goes.at_pc)))

-- ---- the bits lie within the mask

op_within : (core : Core) (op : Op)
    → bit_and (mask_of core (Some op)).1 (mask_of core (Some op)).0 ≡ (mask_of core (Some op)).1
op_within core (Stores width rs1 rs2 immediate) =
    bits_within (register core rs2) (address_of core rs1 immediate % 4) (size_of width)
op_within core _ = and_zero 0

by_found : (core : Core) (found : Option Op)
    → bit_and (mask_of core found).1 (mask_of core found).0 ≡ (mask_of core found).1
by_found core None = and_zero 0
by_found core (Some op) = op_within core op

pub within_mask : WithinMaskLaw
unfolding store_mask
within_mask image core = by_found core (instruction_at image core.pc)

-- ---- what a core answers that is asked for them

store_parts : (need : Need) → is_store need ≡ true → (word : ℕ) × (whole : Bool) × (need ≡ Store word whole)
store_parts Local h = cc
store_parts (Load word) h = cc
store_parts (Store word whole) h = (word, whole, refl)
store_parts (Amo word) h = cc
store_parts (Done stop) h = cc

pub store_goes : (need : Need) → is_store need ≡ true → is_done need ≡ false
store_goes need h = let (word, whole, e) = store_parts need h in ap is_done e

pub mask_writes : (image : Contents) (core : Core) (mask : ℕ × ℕ) → is_store (need image core) ≡ true
    → mask ≡ store_mask image core → (old : ℕ) → wrote image core old ≡ masked old mask.0 mask.1
mask_writes image core mask stores is old =
    let (word, whole, e) = store_parts (need image core) stores in rw is (mask_law image core word whole old e)

pub mask_within : (image : Contents) (core : Core) (mask : ℕ × ℕ) → mask ≡ store_mask image core
    → bit_and mask.1 mask.0 ≡ mask.1
mask_within image core mask is = rw is (within_mask image core)
