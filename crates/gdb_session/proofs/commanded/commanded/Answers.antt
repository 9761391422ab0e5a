use Rattle.std.proofs.Common.{subst}
use Rattle.gdb_commands.specs.declared.commands.Command.{Command}
use Rattle.gdb_monitor.specs.Obeying.{Obeys}
use Rattle.gdb_session.proofs.commanded.commanded.Goals as goal

pub returns-clause-done : goal.returns-clause-done
returns-clause-done c = record {
  told = c.in_ok-told.told;
  obeys = subst (λ (k : Command). Obeys k c.args.marks.now c.args.place.now c.obey.new.place c.in_ok-told.told)
      c.in_ok-command.ensures c.in_ok-told.ensures.ok;
  payloads_are = c.in_ok-payloads.ensures;
}
