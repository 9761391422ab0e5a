use Rattle.std.proofs.Common.{List, subst}
use Rattle.rtr_types.specs.declared.instr.Edge.{Edge}
use Rattle.std.proofs.Common.{None}
use Rattle.min_certificate.specs.Laws.{AllConflict}
use Rattle.min_certificate.specs.Conflicting.{BothConflict}
use Rattle.min_certificate.specs.Firsts.{FailsFirst, FirstWithout}
use Rattle.min_certificate.proofs.FirstFailure.{Judges, first_no_conflict, all_conflict, first_known}
use Rattle.min_certificate.proofs.checking.failure_of.Goals as goal
use Rattle.min_certificate.proofs.checking.failure_of.Goals.{Start, In_default}

judges : (c : Start) → Judges c.args.entries.now c.args.accesses.now
judges c = record { valid = c.requires.valid; determinate = c.requires.determinate; list_is = c.requires.accesses }

-- no edge without a conflict was found
conflicts : (c : In_default) → Judges c.args.entries.now c.args.accesses.now
    → AllConflict c.args.entries.now.recording
conflicts c h = all_conflict _ _ h
    (subst (λ (l : List Edge). FirstWithout (BothConflict c.args.accesses.now) l None) c.edges.ensures.edges
    c.in_default.ensures)

pub returns-in-Some : goal.returns-in-Some
returns-in-Some c = record {
  determinate = c.requires.determinate;
  first = first_no_conflict _ _ c.in-Some.edge (judges (goal.at.returns-in-Some c).Start)
      (subst (λ (l : List Edge). FailsFirst (BothConflict c.args.accesses.now) l c.in-Some.edge) c.edges.ensures.edges
      c.in-Some.ensures);
}

pub returns-in-Some-first_bad : goal.returns-in-Some-first_bad
returns-in-Some-first_bad c = record {
  determinate = c.requires.determinate;
  conflicts = conflicts (goal.at.returns-in-Some-first_bad c).In_default
      (judges (goal.at.returns-in-Some-first_bad c).Start);
  first = c.in-Some-first_bad.ensures;
}

pub returns-in-Some-first_not_needed : goal.returns-in-Some-first_not_needed
returns-in-Some-first_not_needed c = record {
  determinate = c.requires.determinate;
  conflicts = conflicts (goal.at.returns-in-Some-first_not_needed c).In_default
      (judges (goal.at.returns-in-Some-first_not_needed c).Start);
  good = c.in_default-first_bad.ensures;
  first = first_known _ c.in-Some-first_not_needed.edge c.in-Some-first_not_needed.ensures;
}

pub returns-in-None : goal.returns-in-None
returns-in-None c = record {
  conflicts = conflicts (goal.at.returns-in-None c).In_default (judges (goal.at.returns-in-None c).Start);
  good = c.in_default-first_bad.ensures;
  needed = c.in-None.ensures;
}
