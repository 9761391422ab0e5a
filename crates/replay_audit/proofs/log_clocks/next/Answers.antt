use Rattle.std.proofs.Common.{◌≡◌, ℕ, List, ap, max, rules, sym, ◌∙◌, slice_index}
use native.Mathlib.Decide.{ℕ_discrete}
use Rattle.clock_core.specs.Order.{previous}
use Rattle.clock_core.specs.Reach.{with_own}
use Rattle.clock_core.proofs.Reach.{own_other, own_same}
use Rattle.replay_core.specs.Play.{instr}
use Rattle.replay_audit.specs.Clocks.{Kept, number_of, number_to, numbered}
use Rattle.replay_audit.proofs.ClockNumbers.{last_numbered}
use Rattle.replay_audit.proofs.MergedSources.{merged_none, merged_over_some}
use Rattle.replay_audit.proofs.log_clocks.next.Goals as goal
use Rattle.replay_audit.proofs.log_clocks.next.Goals.{then-source-ne0, else-source-ne0}

-- the last clock is that of the instruction before
pub loop-of-init : goal.loop-of-init
loop-of-init c =
    let k : Kept = record { clocks = c.args.clocks.now } in
    let y = previous c.args.at in
    let found : ℕ → ℕ = λ j. slice_index (numbered k y.core (number_of k y.core y.count)) j in
    record {
      merged = λ i.
          let all : slice_index c.last_in.result.now i ≡ found i =
          ap (λ (l : List ℕ). slice_index l i)
          (c.last_in.ensures ∙ last_numbered k c.args.at.core (number_of k y.core y.count) c.requires.next.last) in
          elim (ℕ_discrete i c.args.at.core) [
            | yes e ↦ ap (λ (j : ℕ). slice_index c.set.new.self j) e ∙ c.set.ensures.at ∙ sym (own_same y found i e)
            | no ne ↦ c.set.ensures.others i ne ∙ all ∙ sym (own_other y found i ne)
          ];
      places = search rules;
    }

pub loop-of-preserved : goal.loop-of-preserved
loop-of-preserved c = record {
  merged = λ i.
      let k : Kept = record { clocks = c.args.clocks.now } in
      let of = c.loop-of.of in
      elim c.if-source-ne0.branch [
        | then-source-ne0 w ↦ ap (λ (l : List ℕ). slice_index l i) w.clock-is
            ∙ merged_over_some k _ c.args.sources.now of c.loop-of.clock w.merge.new.clock c.get-source.result i
            c.get-source.ensures w.if-source-ne0.true c.loop-of.invariant.merged
            (λ j. w.merge.ensures j
            ∙ ap (λ (l : List ℕ). max (slice_index c.loop-of.clock j)
            (with_own (instr of c.get-source.result) (λ m. slice_index l m) j))
            (w.numbered_in.ensures
            ∙ ap (numbered k of) (w.number_from-number.ensures
            ∙ ap (λ (l : List (List ℕ)). number_to l of c.get-source.result) w.list_in.ensures)))
        | else-source-ne0 w ↦ ap (λ (l : List ℕ). slice_index l i) w.clock-is
            ∙ merged_none k (previous c.args.at) c.args.sources.now of c.loop-of.clock
            c.get-source.result i c.get-source.ensures w.if-source-ne0.false c.loop-of.invariant.merged
      ];
  places = c.if-source-ne0.array_long;
}
