use Rattle.std.proofs.Common.{◌≡◌, ◌∙◌, ap, ℕ, [], ◌∷◌, ◌++◌, List, replicate, arith}
use Rattle.std.proofs.lemmas.List.{replicate_more}
use Rattle.msi_memory.specs.declared.port.Port.{Port}
use Rattle.msi_memory.specs.Memories.{port_start}
use Rattle.msi_memory.proofs.memory.first_ports.Goals as goal

pub loop-core-preserved : goal.loop-core-preserved
loop-core-preserved g c =
    let first : Port g.row.R.Denot g.row.K.Denot = port_start g.R.Rider.riding g.K.Carry.carrying in
    let made : c.in_ok-new.field-0 ≡ first = c.in_ok-new.ensures in
    c.in_ok-push.ensures.items
    ∙ ap (λ (ports : List (Port g.row.R.Denot g.row.K.Denot)). ports ++ c.in_ok-new.field-0 ∷ []) c.loop-core.invariant
    ∙ ap (λ (port : Port g.row.R.Denot g.row.K.Denot). replicate c.loop-core.core first ++ port ∷ []) made
    ∙ replicate_more c.loop-core.core first

pub returns : goal.returns
returns g c =
    let all : c.loop-core.core ≡ c.args.cores = omega (arith, c.loop-core.auto.core-end, c.loop-core-test.false) in
    c.loop-core.invariant ∙ ap (λ (n : ℕ). replicate n (port_start g.R.Rider.riding g.K.Carry.carrying)) all
