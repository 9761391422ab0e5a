-- The times that the riders of copies have, as a property of the blocks that a memory system shows.
use Rattle.std.specs.Prelude.{ℕ, ◌+◌, ◌*◌, ◌<◌, Option, List}
use Rattle.access_times.specs.Riding.{Riding, Carrying}
use Rattle.rtr_types.specs.declared.TheConstants.{BLOCK_WORDS}
use Rattle.rtr_types.specs.declared.instr.Instr.{Instr}
use Rattle.clock_core.specs.declared.clock.Clock.{Clock}
use Rattle.msi_protocol.specs.Seats.{FullBlock}
use Rattle.msi_protocol.specs.Shown.{Payload, payload_absorbed}
use Rattle.msi_memory.specs.Memories.{Memory}
use Rattle.msi_laws.specs.Links.{AllShow}
use Rattle.machine_times.specs.History.{NotedAccess, WordTimes, AbsorbsWell, Exact}

-- the parts of a rider that records times, by slot
pub record TimesParts (R : Type 0) : Type 0 where
  pub riding : Riding R
  pub write : R → ℕ → Option (Instr × Clock)
  pub read : R → ℕ → ℕ → Option (ℕ × Clock)

abbrev pub word_number : ℕ → ℕ → ℕ
word_number b slot = b * BLOCK_WORDS + slot

module _ {R : Type 0} where
  -- a copy's rider as it is for one slot's word
  abbrev pub slot_times : TimesParts R → ℕ → WordTimes (Payload R)
  slot_times parts slot =
      record {
        absorbed = payload_absorbed parts.riding;
        write = λ x. parts.write x.rider slot;
        read = λ x d. parts.read x.rider slot d;
      }

  abbrev pub AbsorbsAll : TimesParts R → Type 0
  AbsorbsAll parts = (slot : ℕ) → slot < BLOCK_WORDS → AbsorbsWell (slot_times parts slot)

module _ {R : Type 0} where
  -- the riders of the copies that count have exact times of each word of the block after these accesses, newest first
  abbrev pub HasTimes : TimesParts R → List NotedAccess → (b : ℕ) → FullBlock (Payload R) → Type 0
  HasTimes parts h b block =
      (slot : ℕ) → slot < BLOCK_WORDS → Exact (slot_times parts slot) h (word_number b slot) block

-- every block of the memory system stands for the accesses so far, newest first
abbrev pub HaveTimes : {R K : Type 0} → TimesParts R → Carrying K → List NotedAccess → Memory R K → Type 0
HaveTimes parts carrying h m = AllShow parts.riding carrying (HasTimes parts h) m
