use Rattle.std.proofs.Common.{refl, subst}
use Rattle.rtr_types.specs.declared.cut.Cut.{Cut}
use Rattle.gdb_monitor.specs.Obeying.{AuditTells}
use Rattle.gdb_monitor.proofs.AnswerFrames.{if_ok}
use Rattle.gdb_monitor.proofs.obeying.ask.Goals as goal

pub returns : goal.returns
returns c =
    if_ok c.audit_tells.result
    (λ told tells. record {
      place = refl;
      audit = c.args.audited.now;
      run = c.requires;
      passed = c.outcome.ensures.passed;
      tells = subst (λ (cut : Cut). AuditTells c.args.command.now c.args.audited.now cut told) c.cut.ensures.cut tells;
    })
    c.audit_tells.ensures
