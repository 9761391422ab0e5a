use Rattle.std.proofs.Common.{List, ◌+◌, ◌≡◌, ◌∙◌, sym, ap, subst, false, arith}
use Rattle.rv_core.specs.Steps.{is_done, need}
use Rattle.cut_index.specs.Runs.{marked}
use Rattle.cut_index.specs.declared.alone.Alone.{Alone}
use Rattle.cut_index.specs.declared.alone.Next.{Next}
use Rattle.cut_index.proofs.Running.{read_most, run_first, run_on, uses_fit}
use Rattle.cut_index.proofs.runs.Run.of.Goals as goal

pub loop-count-init : goal.loop-count-init
loop-count-init c = run_first c.args.program.now c.args.loads.now c.args.first c.in_ok-run.run'
    c.in_ok-run.ensures.pcs c.in_ok-run.ensures.uses c.in_ok-run.ensures.marks

pub go_on-next-requires-clause-more : goal.go_on-next-requires-clause-more
go_on-next-requires-clause-more c =
    subst (λ (a : Alone). is_done (need c.args.program.now a.core) ≡ false) (sym c.loop-count.invariant.here)
    (c.requires.going c.loop-count.count c.loop-count-test.true)

pub go_on-next-requires-clause-room : goal.go_on-next-requires-clause-room
go_on-next-requires-clause-room c =
    let most = read_most c.args.program.now c.args.loads.now c.args.first c.loop-count.count in
    let here = ap (λ (a : Alone). a.read) c.loop-count.invariant.here in
    let below = c.loop-count-test.true in
    let fits = c.requires.fits in
    omega arith

pub note-requires : goal.note-requires
note-requires c =
    let image = c.args.program.now in
    let core = c.loop-count.alone.core in
    uses_fit image core c.go_on-next.result.used (ap (λ (n : Next). n.used) c.go_on-next.ensures.next) c.requires.few

pub loop-count-preserved : goal.loop-count-preserved
loop-count-preserved c =
    let count = c.loop-count.count in
    run_on c.args.program.now c.args.loads.now c.args.first count c.loop-count.run c.mark.new.self c.loop-count.alone
    c.go_on-next.new.self c.go_on-next.result c.loop-count.invariant c.go_on-next.ensures.next
    c.go_on-next.ensures.on
    (c.in_ok-mark.ensures.pcs ∙ c.in_ok-note.ensures.pcs)
    (c.in_ok-mark.ensures.uses ∙ c.in_ok-note.ensures.uses)
    (c.in_ok-mark.ensures.marks
    ∙ ap (λ (l : List Alone). marked l (count + 1) c.go_on-next.new.self) c.in_ok-note.ensures.marks)
