-- A core's state: its registers, and what an instruction makes of them.
use Rattle.std.specs.Prelude.{ℕ, ℤ, ◌+◌, ◌%◌, ◌==◌, Bool, true, if◌then◌else◌, List, slice_index, slice_set, replicate}
use Rattle.std.specs.Prelude.{Option, Some, None}
use Rattle.rv_decode.specs.declared.op.Op.{Op}
use Rattle.rv_decode.specs.declared.op.Op.TheVariants.{Lui, Auipc, Jal, Jalr, Branch, Load, Store, AluImm}
use Rattle.rv_decode.specs.declared.op.Op.TheVariants.{AluReg, Amo, Fence, Ecall, Ebreak}
use Rattle.rv_decode.specs.declared.op.Cond.{Cond}
use Rattle.rv_core.specs.declared.core_state.Core.{Core}
use Rattle.rv_core.specs.declared.core_state.Halt.{Halt}
use Rattle.rv_core.specs.declared.core_state.Halt.TheVariants.{Running, Exited, Broke}
use Rattle.rv_core.specs.Atomics.{exchanged}
use Rattle.rv_core.specs.Operations.{bits_of, wrapped_sum, computed, upper_value, is_taken, moved, without_low_bit}
use Rattle.rv_core.specs.Operations.{size_of, loaded}
use Rattle.image_mem.specs.Lanes.{merged}

-- the core before its first instruction: pc is 0, x10 is the core's number, every other register is 0
unfoldable pub starting : (id limit : ℕ) → Core
starting id limit = record {
  id = id;
  limit = limit;
  count = 0;
  pc = 0;
  registers = slice_set (replicate 32 0) 10 id;
  halt = Running;
}

-- a register's value: x0 is 0
unfoldable pub register : Core → ℕ → ℕ
register core k = if k == 0 then 0 else slice_index core.registers k

-- the registers after a write to one: a write to x0 is dropped
unfoldable pub written : List ℕ → (k value : ℕ) → List ℕ
written registers k value = if k == 0 then registers else slice_set registers k value

-- the address of a load or store
abbrev pub address_of : Core → (base : ℕ) → ℤ → ℕ
address_of core base immediate = moved (register core base) immediate

-- where JALR goes
abbrev pub register_target : Core → (base : ℕ) → ℤ → ℕ
register_target core base immediate = without_low_bit (address_of core base immediate)

-- a branch is taken, by the values of its two registers
abbrev pub branches : Core → Cond → (left right : ℕ) → Bool
branches core cond left right = is_taken cond (register core left) (register core right)

-- where the core goes on after an instruction
unfoldable pub next_pc : Core → Op → ℕ
next_pc core (Jal rd offset) = moved core.pc offset
next_pc core (Jalr rd rs1 immediate) = register_target core rs1 immediate
next_pc core (Branch cond rs1 rs2 offset) =
    if branches core cond rs1 rs2 then moved core.pc offset else wrapped_sum core.pc 4
next_pc core _ = wrapped_sum core.pc 4

-- the register that an instruction writes, with its value; `old` is the word that a load or an atomic memory
-- operation finds
unfoldable pub result_of : Core → Op → (old : ℕ) → Option (ℕ × ℕ)
result_of core (Lui rd upper) old = Some (rd, upper_value upper)
result_of core (Auipc rd upper) old = Some (rd, wrapped_sum core.pc (upper_value upper))
result_of core (Jal rd offset) old = Some (rd, wrapped_sum core.pc 4)
result_of core (Jalr rd rs1 immediate) old = Some (rd, wrapped_sum core.pc 4)
result_of core (Load width rd rs1 immediate) old =
    Some (rd, loaded width old (address_of core rs1 immediate % 4))
result_of core (AluImm alu rd rs1 immediate) old =
    Some (rd, computed alu (register core rs1) (bits_of immediate))
result_of core (AluReg alu rd rs1 rs2) old =
    Some (rd, computed alu (register core rs1) (register core rs2))
result_of core (Branch cond rs1 rs2 offset) old = None
result_of core (Store width rs1 rs2 immediate) old = None
result_of core (Amo op rd rs1 rs2) old = Some (rd, old)
result_of core Fence old = None
result_of core Ecall old = None
result_of core Ebreak old = None

-- the registers after such a write
abbrev pub registers_after : List ℕ → Option (ℕ × ℕ) → List ℕ
registers_after registers None = registers
registers_after registers (Some write) = written registers write.0 write.1

-- whether ECALL or EBREAK has retired, after an instruction
unfoldable pub halt_after : Core → Op → Halt
halt_after core Ecall = Exited
halt_after core Ebreak = Broke
halt_after core _ = core.halt

-- the core after an instruction has retired
unfoldable pub retired : Core → Op → (old : ℕ) → Core
retired core op old = record {
  id = core.id;
  limit = core.limit;
  count = core.count + 1;
  pc = next_pc core op;
  registers = registers_after core.registers (result_of core op old);
  halt = halt_after core op;
}

-- the value after an instruction of the word that it needs: a load leaves it, a store replaces lanes, an atomic
-- memory operation combines it with rs2 as this was before. An instruction that needs none has 0.
unfoldable pub word_after : Core → Op → (old : ℕ) → ℕ
word_after core (Load width rd rs1 immediate) old = old
word_after core (Store width rs1 rs2 immediate) old =
    merged old (register core rs2) (address_of core rs1 immediate % 4) (size_of width)
word_after core (Amo op rd rs1 rs2) old = exchanged op old (register core rs2)
word_after core (Lui rd upper) old = 0
word_after core (Auipc rd upper) old = 0
word_after core (Jal rd offset) old = 0
word_after core (Jalr rd rs1 immediate) old = 0
word_after core (Branch cond rs1 rs2 offset) old = 0
word_after core (AluImm alu rd rs1 immediate) old = 0
word_after core (AluReg alu rd rs1 rs2) old = 0
word_after core Fence old = 0
word_after core Ecall old = 0
word_after core Ebreak old = 0

-- a store's address is a multiple of its size; this holds of every other instruction
abbrev pub stores_aligned : Core → Op → Bool
stores_aligned core (Store width rs1 rs2 immediate) = address_of core rs1 immediate % size_of width == 0
stores_aligned core (Lui rd upper) = true
stores_aligned core (Auipc rd upper) = true
stores_aligned core (Jal rd offset) = true
stores_aligned core (Jalr rd rs1 immediate) = true
stores_aligned core (Branch cond rs1 rs2 offset) = true
stores_aligned core (Load width rd rs1 immediate) = true
stores_aligned core (AluImm alu rd rs1 immediate) = true
stores_aligned core (AluReg alu rd rs1 rs2) = true
stores_aligned core (Amo op rd rs1 rs2) = true
stores_aligned core Fence = true
stores_aligned core Ecall = true
stores_aligned core Ebreak = true
