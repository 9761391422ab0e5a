use Rattle.std.proofs.Common.{◌≡◌, ◌∙◌, ◌<◌, ◌-◌, sym, subst, ap, ℕ, List, get_or, length, arith, true, false}
use Rattle.std.specs.Prelude.{map}
use Rattle.std.proofs.lemmas.List.{length-append, length-map}
use Rattle.rtr_types.specs.CoreSets.{has}
use Rattle.move_marks.specs.Members.{members}
use Rattle.move_marks.proofs.Picks.{found_here, found_last, found_past}
use Rattle.turn_lists.specs.declared.actor.Actor.{Actor}
use Rattle.turn_lists.specs.declared.actor.Actor.TheVariants.{Buffer, Core}
use Rattle.turn_policies.proofs.SetMembers.{member_has}
use Rattle.turn_policies.proofs.actor_set.ActorSet.nth.Goals as goal

pub returns-then-number-cores-clause-value : goal.returns-then-number-cores-clause-value
returns-then-number-cores-clause-value c = λ d.
    let within = c.if-number-cores.true in
    let many = c.count-cores.ensures.value in
    found_here {X = Actor} Core (members c.args.self.cores) (map Buffer (members c.args.self.buffers)) c.args.number
    c.nth.result d (omega (arith, within, many)) c.nth.ensures.value

pub returns-then-number-cores-clause-listed : goal.returns-then-number-cores-clause-listed
returns-then-number-cores-clause-listed c =
    let within = c.if-number-cores.true in
    let many = c.count-cores.ensures.value in
    ap (has c.args.self.cores) (c.nth.ensures.value 0)
    ∙ member_has c.args.self.cores c.args.number 0 (omega (arith, within, many))

pub returns-else-number-cores-clause-value : goal.returns-else-number-cores-clause-value
returns-else-number-cores-clause-value c = λ d.
    let past = c.if-number-cores.false in
    let many = c.count-cores.ensures.value in
    let all = length-append (map Core (members c.args.self.cores)) (map Buffer (members c.args.self.buffers)) in
    let one = length-map (members c.args.self.cores) Core in
    let other = length-map (members c.args.self.buffers) Buffer in
    found_past {X = Actor} Core (members c.args.self.cores) (map Buffer (members c.args.self.buffers)) c.args.number
    c.count-cores.result (Buffer c.nth-else-number-cores.result) d many past
    (found_last {X = Actor} Buffer (members c.args.self.buffers) (c.args.number - c.count-cores.result)
    c.nth-else-number-cores.result d (let asked = c.requires in omega (arith, past, many, all, one, other, asked))
    c.nth-else-number-cores.ensures.value)

pub returns-else-number-cores-clause-listed : goal.returns-else-number-cores-clause-listed
returns-else-number-cores-clause-listed c =
    let past = c.if-number-cores.false in
    let many = c.count-cores.ensures.value in
    let all = length-append (map Core (members c.args.self.cores)) (map Buffer (members c.args.self.buffers)) in
    let one = length-map (members c.args.self.cores) Core in
    let other = length-map (members c.args.self.buffers) Buffer in
    let asked = c.requires in
    ap (has c.args.self.buffers) (c.nth-else-number-cores.ensures.value 0)
    ∙ member_has c.args.self.buffers (c.args.number - c.count-cores.result) 0
    (omega (arith, past, many, all, one, other, asked))
