use Rattle.std.proofs.Common.{refl, subst}
use Rattle.std.specs.Prelude.{MatchOption, Option, Some, None}
use Rattle.rtr_types.specs.declared.cut.Cut.{Cut}
use Rattle.race_queries.specs.Queries.{IsLastWrite, NoWriteIn}
use Rattle.gdb_monitor.proofs.AnswerFrames.{if_ok}
use Rattle.gdb_monitor.proofs.lasts.go_to_last.Goals as goal

pub returns-in-Some-clause-ok : goal.returns-in-Some-clause-ok
returns-in-Some-clause-ok c =
    let a = c.args.audited.now in
    if_ok c.go_before.result
    (λ told goes. record {
      audit = a;
      run = c.requires;
      passed = c.outcome.ensures.passed;
      written = Some c.in-Some.access;
      is = subst (λ (cut : Cut). IsLastWrite a cut c.args.word c.in-Some.access) c.cut.ensures.cut c.in-Some.ensures;
      goes = goes;
    })
    c.go_before.ensures.ok

pub returns-in-None-clause-ok : goal.returns-in-None-clause-ok
returns-in-None-clause-ok c =
    let a = c.args.audited.now in
    if_ok c.line.result
    (λ told is. record {
      audit = a;
      run = c.requires;
      passed = c.outcome.ensures.passed;
      written = None;
      is = subst (λ (cut : Cut). NoWriteIn a.accesses cut c.args.word) c.cut.ensures.cut c.in-None.ensures;
      goes = record { place = refl; told_is = is };
    })
    c.line.ensures
