use Rattle.std.proofs.Common.{◌≡◌, ◌⊎◌, inl, inr, refl, sym, subst, ℕ, List, IfOk}
use Rattle.turn_lists.specs.declared.actor.Turn.{Turn}
use Rattle.turn_policies.specs.declared.named.Numbered.{Numbered}
use Rattle.turn_policies.specs.declared.named.Numbered.TheVariants.{Ranked, Walk}
use Rattle.turn_policies.specs.PickedTurns.{turns_of_picks}
use Rattle.hunt_cli.specs.Finds.{IsMadeSmall, turns_break}
use Rattle.hunt_cli.specs.Kinds.{Setting, kind_with, setting_on}
use Rattle.hunt_cli.specs.OwnTurns.{picks_made, turns_numbered}
use Rattle.hunt_cli.proofs.smalls.SmallOf.from_number.Goals as goal

-- the turns of a policy that picks are those that its picks make
picks-turns : (s : Setting) (number : Numbered)
    → ((n : ℕ) × (number ≡ Walk n)) ⊎ ((depth : ℕ) × (n : ℕ) × (number ≡ Ranked depth n))
    → turns_of_picks (picks_made s number) ≡ turns_numbered s number
picks-turns s number is =
    elim is [
      | inl it ↦ subst (λ (k : Numbered). turns_of_picks (picks_made s k) ≡ turns_numbered s k) (sym it.1) refl
      | inr it ↦ subst (λ (k : Numbered). turns_of_picks (picks_made s k) ≡ turns_numbered s k) (sym it.2) refl
    ]

-- walks and ranks, which have one arm
pub returns-in-Walk : goal.returns-in-Walk
returns-in-Walk g c =
    let a = c.args.self in
    let s : Setting = setting_on (kind_with g.M.HuntedMachine.seen_at g.M.HuntedMachine.changes_at
    g.M.HuntedMachine.outcome g.M.HuntedMachine.most_steps g.M.HuntedMachine.buffers) a.setup.params a.bytes.now in
    subst (λ (turns : List Turn). IfOk c.from_picks.result
    (λ found. IsMadeSmall (turns_break s a.demand.now a.first.now) turns found))
    (picks-turns s c.args.number c.in-Walk.is) c.from_picks.ensures
