-- How a core that isn't done goes on: its instruction, and what that needs.
use Rattle.std.proofs.Common.{◌≡◌, ◌<◌, ℕ, ◌*◌, ◌/◌, ◌%◌, Bool, true, false, Option, Some, None, nat_le, nat_eq, refl}
use Rattle.std.proofs.Common.{sym, ◌∙◌, ap, arith}
use Rattle.std.specs.Prelude.{option_and_then, if◌then◌else◌, ◌==◌}
use Rattle.std.proofs.lemmas.Bool.Decides.{nat_tests}
use Rattle.rv_decode.specs.declared.op.Op.{Op}
use Rattle.rv_decode.specs.Table.{decoded}
use Rattle.image_mem.specs.Contents.{Contents, fetched}
use Rattle.rv_core.specs.declared.core_state.Core.{Core}
use Rattle.rv_core.specs.declared.core_state.Halt.{Halt}
use Rattle.rv_core.specs.declared.core_state.Halt.TheVariants.{Running, Exited, Broke}
use Rattle.rv_core.specs.declared.core_state.Need.{Need}
use Rattle.rv_core.specs.declared.core_state.Need.TheVariants.{Local, Done}
use Rattle.rv_core.specs.declared.core_state.Stop.TheVariants.{Align, Address, Fetch, Illegal, Jump}
use Rattle.rv_core.specs.Steps.{need, is_done, access_of, instruction_at, need_of, need_of_word, need_of_fetch}
use Rattle.rv_core.specs.Steps.{need_at_pc, need_by, need_to_jump}
use Rattle.rv_core.specs.Steps.{need_to_access}

-- what a core goes on by: the instruction at pc, which is all that it needs and does, below the limit
pub record GoesOnBy (image : Contents) (core : Core) (op : Op) : Type 0 where
  pub room : core.count < core.limit
  pub at_pc : instruction_at image core.pc ≡ Some op
  pub needs : need image core ≡ need_of image.words core op

-- neither halted nor at the limit
by_parts : (halt : Halt) (spent : Bool) (at_pc : Need) → is_done (need_by halt spent at_pc) ≡ false
    → (spent ≡ false) × (need_by halt spent at_pc ≡ at_pc)
by_parts Exited spent at_pc h = cc
by_parts Broke spent at_pc h = cc
by_parts Running true at_pc h = cc
by_parts Running false at_pc h = (refl, refl)

-- there is an instruction
word_parts : (words : ℕ) (core : Core) (found : Option Op) → is_done (need_of_word words core found) ≡ false
    → (op : Op) × (found ≡ Some op) × (need_of_word words core found ≡ need_of words core op)
word_parts words core None h = cc
word_parts words core (Some op) h = (op, refl, refl)

fetch_parts : (words : ℕ) (core : Core) (word : Option ℕ) → is_done (need_of_fetch words core word) ≡ false
    → (op : Op) × (option_and_then decoded word ≡ Some op) × (need_of_fetch words core word ≡ need_of words core op)
fetch_parts words core None h = cc
fetch_parts words core (Some word) h = word_parts words core (decoded word) h

-- the stop of a core that finds this word at pc, or none, and no instruction
abbrev pub stop_at : Option ℕ → Need
stop_at None = Done Fetch
stop_at (Some word) = Done Illegal

-- what is needed at pc, where the instruction there is known
op_needs : (words : ℕ) (core : Core) (word : Option ℕ) (op : Op) → option_and_then decoded word ≡ Some op →
    need_of_fetch words core word
    ≡ need_of words core op
op_needs words core None op found = cc
op_needs words core (Some word) op found = ap (need_of_word words core) found

pub needs_of_op : (image : Contents) (core : Core) (op : Op) → instruction_at image core.pc ≡ Some op →
    need_at_pc image core ≡ need_of image.words core op
unfolding need_at_pc instruction_at
needs_of_op image core op found = op_needs image.words core (fetched image core.pc) op found

-- no word can be fetched, or the word is no instruction
stop_needs : (words : ℕ) (core : Core) (word : Option ℕ) → option_and_then decoded word ≡ None →
    need_of_fetch words core word ≡ stop_at word
stop_needs words core None none = refl
stop_needs words core (Some word) none = ap (need_of_word words core) none

pub stops_without_op : (image : Contents) (core : Core) → instruction_at image core.pc ≡ None →
    need_at_pc image core ≡ stop_at (fetched image core.pc)
unfolding need_at_pc instruction_at
stops_without_op image core none = stop_needs image.words core (fetched image core.pc) none

pub goes_on : (image : Contents) (core : Core) → is_done (need image core) ≡ false → (op : Op) × GoesOnBy image core op
unfolding need need_at_pc instruction_at
goes_on image core h =
    let halted = by_parts core.halt (nat_le core.limit core.count) (need_at_pc image core) h in
    let running = sym (ap is_done halted.1) ∙ h in
    let found = fetch_parts image.words core (fetched image core.pc) running in (
      found.0,
      record {
        room = let spent : nat_le core.limit core.count ≡ false = halted.0 in grind (arith, nat_tests);
        at_pc = found.1;
        needs = halted.1 ∙ found.2;
      },
    )

-- an access that may be made
access_by : (even past : Bool) (access : Need)
    → is_done (if even then (if past then Done Address else access) else Done Align) ≡ false
    → (even ≡ true) × (past ≡ false) × ((if even then (if past then Done Address else access) else Done Align) ≡ access)
access_by true true access h = cc
access_by true false access h = (refl, refl, refl)
access_by false past access h = cc

-- what an access that may be made says of its address
pub record IsPlaced (words address size : ℕ) (access : Need) : Type 0 where
  pub aligned : address % size ≡ 0
  pub within : address / 4 < words
  pub needs : need_to_access words address size access ≡ access

pub access_parts : (words address size : ℕ) (access : Need) → is_done (need_to_access words address size access) ≡ false
    → IsPlaced words address size access
unfolding need_to_access
access_parts words address size access h =
    let parts = access_by (nat_eq (address % size) 0) (nat_le (4 * words) address) access h in
    record {
      aligned = let even : nat_eq (address % size) 0 ≡ true = parts.0 in grind (arith, nat_tests);
      within = let below : nat_le (4 * words) address ≡ false = parts.1 in grind (arith, nat_tests);
      needs = parts.2;
    }

-- a jump or branch makes no access
jump_by : (aligned : Bool) → access_of (if aligned then Local else Done Jump) ≡ None
jump_by true = refl
jump_by false = refl

pub jump_accesses : (target : ℕ) → access_of (need_to_jump target) ≡ None
unfolding need_to_jump
jump_accesses target = jump_by (target % 4 == 0)

pub branch_accesses : (taken : Bool) (target : ℕ) → access_of (if taken then need_to_jump target else Local) ≡ None
branch_accesses true target = jump_accesses target
branch_accesses false target = refl
