-- A need never stops at the total.
use Rattle.std.proofs.Common.{◌≡◌, ℕ, ◌/◌, ◌%◌, ◌*◌, Bool, true, false, Option, Some, None, nat_le, nat_eq, refl, sym}
use Rattle.std.proofs.Common.{◌∙◌, ap}
use Rattle.std.specs.Prelude.{if◌then◌else◌}
use Rattle.rv_decode.specs.declared.op.Op.{Op}
use Rattle.rv_decode.specs.declared.op.Op.TheVariants.{Jal, Jalr, Branch, Load as Loads, Store as Stores, Amo as Amos}
use Rattle.rv_decode.specs.Table.{decoded}
use Rattle.image_mem.specs.Contents.{fetched}
use Rattle.rv_core.specs.declared.core_state.Core.{Core}
use Rattle.rv_core.specs.declared.core_state.Halt.{Halt}
use Rattle.rv_core.specs.declared.core_state.Halt.TheVariants.{Running, Exited, Broke}
use Rattle.rv_core.specs.declared.core_state.Need.{Need}
use Rattle.rv_core.specs.declared.core_state.Need.TheVariants.{Local, Load, Store, Amo, Done}
use Rattle.rv_core.specs.declared.core_state.Stop.TheVariants.{Exit, Break, Limit, Fetch, Illegal, Jump, Align, Address}
use Rattle.rv_core.specs.declared.core_state.Stop.TheVariants.{Total}
use Rattle.rv_core.specs.Operations.{moved, size_of}
use Rattle.rv_core.specs.States.{register, address_of, register_target, branches}
use Rattle.rv_core.specs.Steps.{need, is_word, need_of, need_of_word, need_of_fetch, need_at_pc, need_by, need_to_jump}
use Rattle.rv_core.specs.Steps.{need_to_access}
use Rattle.rv_core.specs.Laws.{TotalLaw}

-- stops at the total
is_total : Need → Bool
is_total Local = false
is_total (Load word) = false
is_total (Store word whole) = false
is_total (Amo word) = false
is_total (Done Exit) = false
is_total (Done Break) = false
is_total (Done Limit) = false
is_total (Done Fetch) = false
is_total (Done Illegal) = false
is_total (Done Jump) = false
is_total (Done Align) = false
is_total (Done Address) = false
is_total (Done Total) = true

jump_by : (aligned : Bool) → is_total (if aligned then Local else Done Jump) ≡ false
unfolding is_total
jump_by true = refl
jump_by false = refl

jump : (target : ℕ) → is_total (need_to_jump target) ≡ false
unfolding need_to_jump
jump target = jump_by (nat_eq (target % 4) 0)

branch : (taken : Bool) (target : ℕ) → is_total (if taken then need_to_jump target else Local) ≡ false
unfolding is_total
branch true target = jump target
branch false target = refl

access_by : (even past : Bool) (access : Need) → is_total access ≡ false
    → is_total (if even then (if past then Done Address else access) else Done Align) ≡ false
unfolding is_total
access_by true true access h = refl
access_by true false access h = h
access_by false past access h = refl

access_total : (words address size : ℕ) (access : Need) → is_total access ≡ false
    → is_total (need_to_access words address size access) ≡ false
unfolding need_to_access
access_total words address size access h = access_by (nat_eq (address % size) 0) (nat_le (4 * words) address) access h

by_op : (words : ℕ) (core : Core) (op : Op) → is_total (need_of words core op) ≡ false
unfolding need_of is_total
by_op words core (Jal rd offset) = jump (moved core.pc offset)
by_op words core (Jalr rd rs1 immediate) = jump (register_target core rs1 immediate)
by_op words core (Branch cond rs1 rs2 offset) = branch (branches core cond rs1 rs2) (moved core.pc offset)
by_op words core (Loads width rd rs1 immediate) =
    access_total words (address_of core rs1 immediate) (size_of width) (Load (address_of core rs1 immediate / 4)) refl
by_op words core (Stores width rs1 rs2 immediate) =
    access_total words (address_of core rs1 immediate) (size_of width)
    (Store (address_of core rs1 immediate / 4) (is_word width)) refl
by_op words core (Amos op rd rs1 rs2) = access_total words (register core rs1) 4 (Amo (register core rs1 / 4)) refl
by_op words core _ = refl

by_word : (words : ℕ) (core : Core) (found : Option Op) → is_total (need_of_word words core found) ≡ false
unfolding is_total
by_word words core None = refl
by_word words core (Some op) = by_op words core op

by_fetch : (words : ℕ) (core : Core) (word : Option ℕ) → is_total (need_of_fetch words core word) ≡ false
unfolding is_total
by_fetch words core None = refl
by_fetch words core (Some word) = by_word words core (decoded word)

by_halt : (halt : Halt) (spent : Bool) (at_pc : Need) → is_total at_pc ≡ false →
    is_total (need_by halt spent at_pc) ≡ false
unfolding is_total
by_halt Exited spent at_pc h = refl
by_halt Broke spent at_pc h = refl
by_halt Running true at_pc h = refl
by_halt Running false at_pc h = h

pub total_law : TotalLaw
unfolding need need_at_pc is_total
total_law image core h =
    let never = by_halt core.halt (nat_le core.limit core.count) (need_at_pc image core)
    (by_fetch image.words core (fetched image core.pc)) in
    let total = sym never ∙ ap is_total h in
    cc
