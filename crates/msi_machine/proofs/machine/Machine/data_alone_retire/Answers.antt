use Rattle.std.proofs.Common.{subst}
use Rattle.msi_machine.specs.Delivering.{MessagesRetire}
use Rattle.msi_state.specs.States.{Machinery}
use Rattle.msi_machine.proofs.DataRetirements.{messages_retire}
use Rattle.msi_machine.proofs.machine.Machine.data_alone_retire.Goals as goal

pub returns : goal.returns
returns g c =
    subst (λ (m : Machinery g.row.R.Denot g.row.K.Denot). MessagesRetire g.R.Rider.riding g.K.Carry.carrying m.state)
    c.self.view_is
    (messages_retire g.R.Rider.riding g.K.Carry.carrying c.self.inside.parts.state c.self.invariant.holds)
