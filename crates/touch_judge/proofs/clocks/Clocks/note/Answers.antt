use Rattle.std.proofs.Common.{◌≡◌, [], inl, refl, sym, subst}
use Rattle.replay_core.specs.Sources.{listed, sources_in}
use Rattle.replay_core.proofs.AwaitedEdges.{listed_nothing}
use Rattle.touch_judge.proofs.clocks.Clocks.note.Goals as goal

pub returns-in-None : goal.returns-in-None
returns-in-None c =
    let none : listed (sources_in c.args.next.now.sources.now) c.args.cores ≡ [] =
    subst (λ o. listed (sources_in o) c.args.cores ≡ []) (sym c.in-None.is) (listed_nothing c.args.cores) in
    record { kept = inl (none, refl) }
