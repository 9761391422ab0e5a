-- Rule: what retires with a message: MessagesRetire, retires_with
-- What retires as a core takes a message from home.
use Rattle.std.specs.Prelude.{◌≡◌, ℕ, Option, Some, None, List, ◌∷◌}
use Rattle.access_times.specs.Riding.{Riding, Carrying}
use Rattle.rtr_types.specs.declared.instr.Instr.{Instr}
use Rattle.rv_core.specs.declared.core_state.Core.{Core}
use Rattle.msi_cache.specs.declared.messages.FromHome.{FromHome}
use Rattle.msi_cache.specs.declared.messages.FromHome.TheVariants.{BlockData, PutAck, Inv, FwdGetS, FwdGetM}
use Rattle.msi_memory.specs.declared.port.Mail.{Mail}
use Rattle.msi_memory.specs.Memories.{port_at}
use Rattle.msi_state.specs.declared.moves.Move.TheVariants.{FromHome as MessageMove}
use Rattle.msi_state.specs.Events.{instr_of, next_instr}
use Rattle.msi_state.specs.States.{State, core_at}
use Rattle.msi_state.specs.Steps.{event}

-- after a block's data the core's next instruction retires, which waited for them; once its Put is acknowledged none
-- does, nor as its copy is taken back or shared
abbrev pub retires_with : {R : Type 0} → FromHome R → Core → Option Instr
retires_with (BlockData block words rider) core = Some (next_instr core)
retires_with (PutAck block) core = None
retires_with (Inv block) core = None
retires_with (FwdGetS block) core = None
retires_with (FwdGetM block) core = None

-- so it is for the oldest message of each core
abbrev pub MessagesRetire : {R K : Type 0} → Riding R → Carrying K → State R K → Type 0
MessagesRetire {R} {K} riding carrying s =
    (c : ℕ) (mail : Mail (FromHome R) K) (rest : List (Mail (FromHome R) K))
    → (port_at carrying s.memory.ports c).messages.items ≡ mail ∷ rest
    → instr_of (event riding carrying s (MessageMove c)) ≡ retires_with mail.item (core_at s.cores c)
