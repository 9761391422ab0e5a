use Rattle.std.proofs.Common.{◌+◌, List, take, get_or, sym, ◌∙◌, subst}
use Rattle.std.specs.Prelude.{Option, Some}
use Rattle.std.proofs.lemmas.List.{take_more}
use Rattle.rtr_types.specs.declared.instr.Instr.{Instr}
use Rattle.rtr_types.specs.declared.access.Access.{Access}
use Rattle.rtr_types.specs.declared.access.Kind.TheVariants as kinds
use Rattle.replay_audit.specs.Unordered.{IsLatest}
use Rattle.replay_audit.proofs.Scan.{latest_skip, latest_found}
use Rattle.replay_audit.proofs.unordered.latest_open.Goals as goal
use Rattle.replay_audit.proofs.unordered.latest_open.Goals.{then-is_open, else-is_open}
use Rattle.conflict_edge.proofs.ScanSteps.{stands_at}

abbrev nothing : Access
nothing = record { at = record { core = 0; count = 0 }; word = 0; kind = kinds.Load; before = 0; after = 0 }

pub is_open-requires : goal.is_open-requires
is_open-requires c = c.requires (get_or c.args.accesses.now c.loop-earlier.earlier-index nothing)
    (stands_at c.args.accesses.now c.loop-earlier.earlier-index nothing c.loop-earlier-test.true)

pub loop-earlier-preserved : goal.loop-earlier-preserved
loop-earlier-preserved c =
    let b : Access = get_or c.args.accesses.now c.loop-earlier.earlier-index nothing in
    let e = take_more c.args.accesses.now c.loop-earlier.earlier-index nothing c.loop-earlier-test.true in
    elim c.if-is_open.branch [
      | then-is_open w ↦ subst (λ (o : Option Instr). IsLatest
          (take (c.loop-earlier.earlier-index + 1) c.args.accesses.now) c.args.later.now c.args.clock.now o)
          (sym w.found-is)
          (subst (λ (l : List Access). IsLatest l c.args.later.now c.args.clock.now (Some b.at)) (sym e)
          (latest_found (take c.loop-earlier.earlier-index c.args.accesses.now) c.args.later.now b c.args.clock.now
          (sym c.is_open.ensures ∙ w.if-is_open.true)))
      | else-is_open w ↦ subst (λ (o : Option Instr). IsLatest
          (take (c.loop-earlier.earlier-index + 1) c.args.accesses.now) c.args.later.now c.args.clock.now o)
          (sym w.found-is)
          (subst (λ (l : List Access). IsLatest l c.args.later.now c.args.clock.now c.loop-earlier.found) (sym e)
          (latest_skip
          (take c.loop-earlier.earlier-index c.args.accesses.now) c.args.later.now b c.args.clock.now
          c.loop-earlier.found c.loop-earlier.invariant
          (sym c.is_open.ensures ∙ w.if-is_open.false)))
    ]
