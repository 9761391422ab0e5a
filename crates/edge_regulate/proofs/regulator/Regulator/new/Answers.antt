use Rattle.std.proofs.Common.{◌≡◌, ℕ, List, [], replicate, refl, ap, ◌∙◌, arith}
use Rattle.stride_vector.specs.declared.StrideVector.{StrideVector}
use Rattle.know_history.specs.Notes.{no_notes}
use Rattle.edge_regulate.specs.Seats.{no_seat}
use Rattle.edge_regulate.proofs.AwaitedAfterEach.{follows_start}
use Rattle.edge_regulate.proofs.Rooms.{begun}
use Rattle.edge_regulate.proofs.regulator.Regulator.new.Goals as goal

pub returns-clause-follows : goal.returns-clause-follows
returns-clause-follows c =
    let none = c.in_ok-pairs.ensures ∙ ap (λ (n : ℕ). replicate {A = List StrideVector} n []) c.pair_count.ensures in
    let all : c.loop-core.core ≡ c.args.cores = omega arith in
    follows_start _ c.args.cores refl c.requires none (c.loop-core.invariant ∙ ap (λ (n : ℕ). replicate n no_seat) all)
    (begun (no_notes c.args.cores) _ c.args.cores refl none)
