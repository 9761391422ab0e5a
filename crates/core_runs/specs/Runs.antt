-- Rule: a run of a core, and what its reach is told: Retires, Goes, RunsTo
-- What a run of a core is: its next instructions retire one after the other, and a reach is told of each as it retires.
use Rattle.std.specs.Prelude.{◌≡◌, ℕ, zero, suc, ◌+◌, ◌<◌, ◌⊎◌, Bool, true, false, List, Option, Some, None}
use Rattle.rtr_types.specs.declared.access.Kind.{Kind}
use Rattle.rtr_types.specs.declared.instr.Instr.{Instr}
use Rattle.image_mem.specs.Contents.{Contents}
use Rattle.rv_decode.specs.declared.op.Op.{Op}
use Rattle.rv_decode.specs.declared.op.Op.TheVariants.{Jal, Jalr, Branch, Load as Loads, Store as Stores, Amo as Amos}
use Rattle.rv_core.specs.declared.core_state.Core.{Core}
use Rattle.rv_core.specs.declared.core_state.Halt.TheVariants.{Running}
use Rattle.rv_core.specs.declared.core_state.Need.TheVariants.{Local}
use Rattle.core_runs.specs.declared.running.Head.{Head}
use Rattle.core_runs.specs.declared.running.Ran.{Ran}
use Rattle.core_runs.specs.declared.running.Ran.TheVariants as ran
use Rattle.core_runs.specs.declared.running.Carried.{Carried}
use Rattle.core_runs.specs.declared.running.Carried.TheVariants as carried
use Rattle.rv_core.specs.States.{retired, word_after}
use Rattle.rv_core.specs.Steps.{need, after, wrote, is_done, access_of, instruction_at, need_of}

-- the access that an instruction makes, if it makes one, and the index of its word
abbrev pub Use : Type 0
Use = Option (Kind × ℕ)

-- a core, what it reaches, and who watches
pub record Standing (R W : Type 0) : Type 0 where
  pub core : Core
  pub reach : R
  pub watch : W

abbrev pub standing : {R W : Type 0} → Core → R → W → Standing R W
standing core reach watch = record { core = core; reach = reach; watch = watch }

-- what a reach is told of an instruction: the reach and the watch before; the instruction, what it uses, the value that
-- its word had and the value that it leaves there; the reach and the watch after
abbrev pub Telling : (R W : Type 0) → Type 1
Telling R W = R → W → Instr → Use → (old new : ℕ) → R → W → Type 0

-- what a reach that refuses an instruction is before and after
abbrev pub Refusing : (R W : Type 0) → Type 1
Refusing R W = R → W → Instr → R → W → Type 0

-- the core's instruction that comes next
abbrev pub next_instr : Core → Instr
next_instr core = record { core = core.id; count = core.count + 1 }

-- the core's next instruction has retired, by the value `old` of its word, and the reach was told of it once
pub record Retires {R W : Type 0} (told : Telling R W) (image : Contents) (s t : Standing R W) : Type 0 where
  pub old : ℕ
  pub going : is_done (need image s.core) ≡ false
  pub core : t.core ≡ after image s.core old
  pub tells : told s.reach s.watch (next_instr s.core) (access_of (need image s.core)) old (wrote image s.core old)
      t.reach t.watch

-- so have n instructions, one after the other
abbrev pub Goes : {R W : Type 0} → Telling R W → Contents → (n : ℕ) → (s t : Standing R W) → Type 0
Goes told image zero s t = t ≡ s
Goes {R} {W} told image (suc n) s t =
    (mid : Standing R W) × Goes told image n s mid × Retires told image mid t

-- the run has come to this count
pub record IsWholeRun {R W : Type 0} (told : Telling R W) (image : Contents) (until : ℕ) (s t : Standing R W)
    : Type 0 where
  pub count : ℕ
  pub goes : Goes told image count s t
  pub all : t.core.count ≡ until

-- the program is done before that
pub record IsDoneRun {R W : Type 0} (told : Telling R W) (image : Contents) (until : ℕ) (s t : Standing R W)
    : Type 0 where
  pub count : ℕ
  pub goes : Goes told image count s t
  pub below : t.core.count < until
  pub done : is_done (need image t.core) ≡ true

-- the reach has refused the next instruction, which didn't retire
pub record IsRefusedRun {R W : Type 0} (told : Telling R W) (refused : Refusing R W) (image : Contents) (until : ℕ)
    (s t : Standing R W) : Type 0 where
  pub count : ℕ
  pub mid : Standing R W
  pub goes : Goes told image count s mid
  pub below : mid.core.count < until
  pub core : t.core ≡ mid.core
  pub refuses : refused mid.reach mid.watch (next_instr mid.core) t.reach t.watch

-- how a run ends
abbrev pub RunsTo : {R W : Type 0} → Telling R W → Refusing R W → Contents → (until : ℕ) → (s : Standing R W) → Ran →
    (t : Standing R W) → Type 0
RunsTo told refused image until s ran.Whole t = IsWholeRun told image until s t
RunsTo told refused image until s ran.Done t = IsDoneRun told image until s t
RunsTo told refused image until s ran.Refused t = IsRefusedRun told refused image until s t

-- ---- one instruction, where the one at pc is at hand

-- the core of a head and registers
abbrev pub core_of : Head → List ℕ → Core
core_of head registers = record {
  id = head.id;
  limit = head.limit;
  count = head.count;
  pc = head.pc;
  registers = registers;
  halt = head.halt;
}

abbrev pub stands : {R W : Type 0} → Head → List ℕ → R → W → Standing R W
stands head registers reach watch = standing (core_of head registers) reach watch

-- the instruction at pc of a core that hasn't halted
abbrev pub IsNextOp : Contents → Head → Option Op → Type 0
IsNextOp image head (Some op) = (head.halt ≡ Running) × (instruction_at image head.pc ≡ Some op)
IsNextOp image head None = (head.halt ≡ Running → ⊥) ⊎ (instruction_at image head.pc ≡ None)

-- the instruction has retired, by the value `old` of its word
pub record RetiresOp {R W : Type 0} (told : Telling R W) (words : ℕ) (op : Op) (s t : Standing R W) : Type 0 where
  pub old : ℕ
  pub going : is_done (need_of words s.core op) ≡ false
  pub core : t.core ≡ retired s.core op old
  pub tells : told s.reach s.watch (next_instr s.core) (access_of (need_of words s.core op)) old
      (word_after s.core op old) t.reach t.watch

-- it stops the program
pub record StopsAt {R W : Type 0} (words : ℕ) (op : Op) (s t : Standing R W) : Type 0 where
  pub done : is_done (need_of words s.core op) ≡ true
  pub same : t ≡ s

-- the reach has refused it
pub record RefusesOp {R W : Type 0} (refused : Refusing R W) (s t : Standing R W) : Type 0 where
  pub core : t.core ≡ s.core
  pub refuses : refused s.reach s.watch (next_instr s.core) t.reach t.watch

-- what one instruction comes to
abbrev pub StepsTo : {R W : Type 0} → Telling R W → Refusing R W → (words : ℕ) → Op → (s : Standing R W) → Carried →
    (t : Standing R W) → Type 0
StepsTo told refused words op s carried.Gone t = RetiresOp told words op s t
StepsTo told refused words op s carried.Done t = StopsAt words op s t
StepsTo told refused words op s carried.Refused t = RefusesOp refused s t

-- ---- an instruction without an access

-- it makes an access, if it doesn't stop the program
abbrev pub is_access : Op → Bool
is_access (Loads width rd rs1 immediate) = true
is_access (Stores width rs1 rs2 immediate) = true
is_access (Amos op rd rs1 rs2) = true
is_access _ = false

-- it neither makes an access nor may go elsewhere than to the instruction behind
abbrev pub is_plain : Op → Bool
is_plain (Loads width rd rs1 immediate) = false
is_plain (Stores width rs1 rs2 immediate) = false
is_plain (Amos op rd rs1 rs2) = false
is_plain (Jal rd offset) = false
is_plain (Jalr rd rs1 immediate) = false
is_plain (Branch cond rs1 rs2 offset) = false
is_plain _ = true

-- the head once its instruction has retired
abbrev pub gone_to : Head → (pc : ℕ) → Head
gone_to head pc =
    record { id = head.id; limit = head.limit; count = head.count + 1; pc = pc; halt = head.halt }

-- an instruction without an access has retired
pub record Hops (op : Op) (k k' : Core) : Type 0 where
  pub needs : (words : ℕ) → need_of words k op ≡ Local
  pub core : k' ≡ retired k op 0
  pub nothing : word_after k op 0 ≡ 0

-- it stops the program
pub record StopsHop (op : Op) (k k' : Core) : Type 0 where
  pub done : (words : ℕ) → is_done (need_of words k op) ≡ true
  pub same : k' ≡ k

abbrev pub HopsTo : Op → Core → Bool → Core → Type 0
HopsTo op k true k' = Hops op k k'
HopsTo op k false k' = StopsHop op k k'
