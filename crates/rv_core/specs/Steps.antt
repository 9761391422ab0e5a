-- Rule: what an instruction needs, does and writes: need, after, wrote
-- What a core's next instruction needs, the core after it, and the word's value after it. Where several
-- stops hold, the first of their order is taken.
use Rattle.std.specs.Prelude.{ℕ, ◌+◌, ◌*◌, ◌/◌, ◌%◌, ◌==◌, nat_le, Bool, true, false, if◌then◌else◌, Option, Some, None}
use Rattle.std.specs.Prelude.{option_and_then}
use Rattle.rv_decode.specs.declared.op.Op.{Op}
use Rattle.rv_decode.specs.declared.op.Op.TheVariants.{Lui, Auipc, Jal, Jalr, Branch, Load as Loads}
use Rattle.rv_decode.specs.declared.op.Op.TheVariants.{Store as Stores, AluImm, AluReg, Amo as Amos, Fence}
use Rattle.rv_decode.specs.declared.op.Op.TheVariants.{Ecall, Ebreak}
use Rattle.rv_decode.specs.declared.op.Width.{Width}
use Rattle.rv_decode.specs.declared.op.Width.TheVariants.{Word}
use Rattle.rv_decode.specs.Table.{decoded}
use Rattle.image_mem.specs.Contents.{Contents, fetched}
use Rattle.rtr_types.specs.declared.access.Kind.{Kind}
use Rattle.rtr_types.specs.declared.access.Kind.TheVariants.{Load as Loading, Store as Storing, Amo as Exchanging}
use Rattle.rv_core.specs.declared.core_state.Core.{Core}
use Rattle.rv_core.specs.declared.core_state.Halt.{Halt}
use Rattle.rv_core.specs.declared.core_state.Halt.TheVariants.{Running, Exited, Broke}
use Rattle.rv_core.specs.declared.core_state.Need.{Need}
use Rattle.rv_core.specs.declared.core_state.Need.TheVariants.{Local, Load, Store, Amo, Done}
use Rattle.rv_core.specs.declared.core_state.Stop.{Stop}
use Rattle.rv_core.specs.declared.core_state.Stop.TheVariants.{Exit, Break, Limit, Fetch, Illegal, Jump, Align, Address}
use Rattle.rv_core.specs.declared.core_state.Stop.TheVariants.{Total}
use Rattle.rv_core.specs.Operations.{moved, size_of}
use Rattle.rv_core.specs.States.{register, address_of, register_target, branches, retired, word_after}

-- the program is done
abbrev pub is_done : Need → Bool
is_done (Done stop) = true
is_done _ = false

-- the stop of a program that is done; one that isn't stops at its total
abbrev pub stop_of : Need → Stop
stop_of (Done stop) = stop
stop_of _ = Total

-- the access that an instruction makes by what it needs, and the index of its word
abbrev pub access_of : Need → Option (Kind × ℕ)
access_of Local = None
access_of (Load word) = Some (Loading, word)
access_of (Store word whole) = Some (Storing, word)
access_of (Amo word) = Some (Exchanging, word)
access_of (Done stop) = None

-- the instruction at pc
unfoldable pub instruction_at : Contents → (pc : ℕ) → Option Op
instruction_at image pc = option_and_then decoded (fetched image pc)

-- a store that leaves nothing of what its word held
abbrev pub is_whole : Need → Bool
is_whole (Store word whole) = whole
is_whole _ = false

-- a store of this width writes the whole word
abbrev pub is_word : Width → Bool
is_word Word = true
is_word _ = false

-- a jump or taken branch to a target
unfoldable pub need_to_jump : (target : ℕ) → Need
need_to_jump target = if target % 4 == 0 then Local else Done Jump

-- an access of `size` bytes at an address of a memory of `words` words, which needs what `access` says
unfoldable pub need_to_access : (words address size : ℕ) → (access : Need) → Need
need_to_access words address size access =
    if address % size == 0 then (if nat_le (4 * words) address then Done Address else access) else Done Align

-- what a core needs whose instruction at pc is this
unfoldable pub need_of : (words : ℕ) → Core → Op → Need
need_of words core (Jal rd offset) = need_to_jump (moved core.pc offset)
need_of words core (Jalr rd rs1 immediate) = need_to_jump (register_target core rs1 immediate)
need_of words core (Branch cond rs1 rs2 offset) =
    if branches core cond rs1 rs2 then need_to_jump (moved core.pc offset) else Local
need_of words core (Loads width rd rs1 immediate) =
    let address = address_of core rs1 immediate in
    need_to_access words address (size_of width) (Load (address / 4))
need_of words core (Stores width rs1 rs2 immediate) =
    let address = address_of core rs1 immediate in
    need_to_access words address (size_of width) (Store (address / 4) (is_word width))
need_of words core (Amos op rd rs1 rs2) =
    let address = register core rs1 in
    need_to_access words address 4 (Amo (address / 4))
need_of words core (Lui rd upper) = Local
need_of words core (Auipc rd upper) = Local
need_of words core (AluImm alu rd rs1 immediate) = Local
need_of words core (AluReg alu rd rs1 rs2) = Local
need_of words core Fence = Local
need_of words core Ecall = Local
need_of words core Ebreak = Local

-- what a core needs whose word at pc is this instruction, or none
abbrev pub need_of_word : (words : ℕ) → Core → Option Op → Need
need_of_word words core None = Done Illegal
need_of_word words core (Some op) = need_of words core op

-- what a core needs that finds this word at pc, or none
abbrev pub need_of_fetch : (words : ℕ) → Core → Option ℕ → Need
need_of_fetch words core None = Done Fetch
need_of_fetch words core (Some word) = need_of_word words core (decoded word)

-- what a core needs by what is at its pc
unfoldable pub need_at_pc : Contents → Core → Need
need_at_pc image core = need_of_fetch image.words core (fetched image core.pc)

-- what a core needs, by whether ECALL or EBREAK has retired, whether it is at its limit, and what is
-- needed at pc
abbrev pub need_by : Halt → (spent : Bool) → (at_pc : Need) → Need
need_by Exited spent at_pc = Done Exit
need_by Broke spent at_pc = Done Break
need_by Running spent at_pc = if spent then Done Limit else at_pc

-- what a core's next instruction needs
unfoldable pub need : Contents → Core → Need
need image core = need_by core.halt (nat_le core.limit core.count) (need_at_pc image core)

-- the core after the instruction at pc. A core that isn't done has one; without one only the count rises,
-- so that the laws need no premise.
abbrev pub after_instruction : Core → Option Op → (old : ℕ) → Core
after_instruction core None old = record core { count = core.count + 1 }
after_instruction core (Some op) old = retired core op old

-- the core after its next instruction; `old` is the value that this finds in its word
unfoldable pub after : Contents → Core → (old : ℕ) → Core
after image core old = after_instruction core (instruction_at image core.pc) old

-- the word's value after the instruction at pc
abbrev pub word_after_instruction : Core → Option Op → (old : ℕ) → ℕ
word_after_instruction core None old = 0
word_after_instruction core (Some op) old = word_after core op old

-- the value of that word after the instruction: a load leaves it, and an instruction without a word has 0
unfoldable pub wrote : Contents → Core → (old : ℕ) → ℕ
wrote image core old = word_after_instruction core (instruction_at image core.pc) old
