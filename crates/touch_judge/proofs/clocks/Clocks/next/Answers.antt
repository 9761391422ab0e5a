use Rattle.std.proofs.Common.{◌≡◌, ◌-◌, ℕ, List, ap, length, sym, ◌∙◌, slice_index}
use native.Mathlib.Decide.{ℕ_discrete}
use Rattle.clock_core.specs.Order.{previous}
use Rattle.clock_core.proofs.Reach.{own_other, own_same}
use Rattle.replay_audit.specs.Clocks.{clock_at, clocks_of, number_of, numbered}
use Rattle.replay_audit.proofs.MergedSources.{merged_none, merged_some}
use Rattle.touch_judge.proofs.clocks.Clocks.next.Goals as goal
use Rattle.touch_judge.proofs.clocks.Clocks.next.Goals.{then-source-ne0, else-source-ne0}

-- the last clock is that of the instruction before
pub loop-of-init : goal.loop-of-init
loop-of-init c = λ i.
    let k = c.args.self.now in
    let y = previous c.args.at in
    let found : ℕ → ℕ = λ j. slice_index (numbered k y.core (number_of k y.core y.count)) j in
    let all : slice_index c.last-clock.result i ≡ found i =
    ap (λ (l : List ℕ). slice_index l i) c.last-clock.ensures
    ∙ ap (λ (n : ℕ). slice_index (numbered k y.core n) i) (sym c.requires.next.last) in
    elim (ℕ_discrete i c.args.at.core) [
      | yes e ↦ ap (λ (j : ℕ). slice_index c.set.new.self j) e ∙ c.set.ensures.at ∙ sym (own_same y found i e)
      | no ne ↦ c.set.ensures.others i ne ∙ all ∙ sym (own_other y found i ne)
    ]

pub loop-of-preserved : goal.loop-of-preserved
loop-of-preserved c = λ i. elim c.if-source-ne0.branch [
  | then-source-ne0 w ↦ ap (λ (l : List ℕ). slice_index l i) w.clock-is
      ∙ merged_some c.args.self.now (previous c.args.at) c.args.sources.now c.loop-of.of c.loop-of.clock
      w.of.result w.join.new.self
      c.get-source.result i c.get-source.ensures w.if-source-ne0.true c.loop-of.invariant
      w.of.ensures
      w.join.ensures.places
  | else-source-ne0 w ↦ ap (λ (l : List ℕ). slice_index l i) w.clock-is
      ∙ merged_none c.args.self.now (previous c.args.at) c.args.sources.now c.loop-of.of c.loop-of.clock
      c.get-source.result i c.get-source.ensures w.if-source-ne0.false c.loop-of.invariant
]
