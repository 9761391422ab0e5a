use Rattle.std.proofs.Common.{◌≡◌, ◌∙◌, ◌++◌, ◌∷◌, [], List, ℕ, ap, arith, subst, sym}
use Rattle.std.specs.Prelude.{slice_index, slice_index_or}
use Rattle.std.proofs.lemmas.List.{get_or_default}
use Rattle.replay_audit.specs.Clocks.{CanNote, Kept}
use Rattle.replay_audit.proofs.ClockSteps.{own_next}
use Rattle.replay_audit.proofs.ClockNumbers.{kept_more}
use Rattle.replay_audit.proofs.log_clocks.LogClocks.keep.Goals as goal

pub invariant_of-self-2 : goal.invariant_of-self-2
invariant_of-self-2 c =
    let can : CanNote (record { clocks = c.self.inside.clocks.items }) c.args.at =
    subst (λ (k : Kept). CanNote k c.args.at) (sym c.self.view_is) c.requires.next in
    let was : c.index_mut-2.result.now ≡ slice_index_or c.self.inside.clocks.items c.args.at.core [] =
    c.index_mut-2.ensures.value
    ∙ get_or_default c.self.inside.clocks.items c.args.at.core c.index_mut-2.result.now [] can.clocks in
    let own : slice_index c.next-clock.result c.args.at.core ≡ c.args.at.count =
    c.next-clock.ensures c.args.at.core
    ∙ own_next (record { clocks = c.as_slice.result.now }) c.args.at c.args.sources.now c.args.cores in
    let some = can.some in
    kept_more c.self.inside.nothing c.self.inside.clocks.items c.self.inside.guesses.items
    c.next-clock.new.guesses c.args.at c.next-clock.result c.push.new.self c.self.invariant can.clocks
    (c.in_ok-push.ensures.ok ∙ ap (λ (l : List (List ℕ)). l ++ c.next-clock.result ∷ []) was) can.last (omega arith)
