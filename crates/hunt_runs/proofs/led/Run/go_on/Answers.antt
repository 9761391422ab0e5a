use Rattle.std.proofs.Common.{◌≡◌, ◌∙◌, ◌<◌, ◌∷◌, ◌++◌, [], ap, sym, subst, ℕ, List, length, false}
use Rattle.rv_core.specs.States.{starting}
use Rattle.rv_core.specs.declared.core_state.Core.{Core}
use Rattle.std.specs.Prelude.{slice_index_or}
use Rattle.schedule_pick.specs.Choices.{Choices, choices_of}
use Rattle.hunt_runs.specs.Courses.{EachEnabled, Gone, StandsAfter, course_of, gone_from}
use Rattle.hunt_runs.specs.Jumping.{spot_of}
use Rattle.hunt_runs.specs.Seen.{Seen}
use Rattle.hunt_runs.specs.Ways.{gone_in}
use Rattle.hunt_runs.proofs.RunCourses.{by_seed, each_more, first_choice, goes_on, noticed_is, stands_more, step_is}
use Rattle.hunt_runs.proofs.led.Run.go_on.Goals as goal

-- after the choice that was noted
pub returns-clause-stands : goal.returns-clause-stands
returns-clause-stands g c = λ image params stands.
    let choices = c.args.self.now.choices in
    subst (λ (l : List ℕ). StandsAfter g.M.HuntedMachine.stands image params c.take.new.self l)
    (sym c.in_ok-push.ensures.ok)
    (stands_more g.M.HuntedMachine.stands image params c.take.new.self choices c.decide-next.result.number
    (λ rest is. c.in_ok-changed.ensures.stands image params
    (record { bytes = choices ++ rest.bytes; words = rest.words })
    (length choices) rest is (stands rest)))

pub returns-clause-enabled : goal.returns-clause-enabled
returns-clause-enabled g c = λ image params stands each.
    let choices = c.args.self.now.choices in
    let course = course_of g.M.HuntedMachine.seen_at g.M.HuntedMachine.changes_at image params in
    let now = g.M.HuntedMachine.seen c.args.self.now.machine in
    let is_now : now ≡ course.seen choices =
    by_seed g.M.HuntedMachine.stands image params c.args.self.now.machine choices
    (λ schedule t. now ≡ g.M.HuntedMachine.seen_at image params schedule t)
    (λ schedule t rest at. c.is_seen.ensures.seen image params schedule t rest at) stands 0 in
    subst (λ (l : List ℕ). EachEnabled course l) (sym c.in_ok-push.ensures.ok)
    (each_more course choices c.decide-next.result.number each
    (subst (λ (s : Seen). c.decide-next.result.number < s.steps) is_now
    (c.decide-next.ensures.step.within c.in_ok-changed.ensures.some)))

pub returns-clause-leads : goal.returns-clause-leads
returns-clause-leads g c = λ image params stands most.
    let M = g.M.HuntedMachine in
    let choices = c.args.self.now.choices in
    let course = course_of M.seen_at M.changes_at image params in
    let policy = g.P.Policy.policy in
    let next = c.decide-next.result in
    let taken : List ℕ = choices ++ next.number ∷ [] in
    let now = M.seen c.args.self.now.machine in
    let after = M.seen c.take.new.self in
    let is_now : now ≡ course.seen choices =
    by_seed M.stands image params c.args.self.now.machine choices
    (λ schedule t. now ≡ M.seen_at image params schedule t)
    (λ schedule t rest at. c.is_seen.ensures.seen image params schedule t rest at) stands 0 in
    let stands_on : StandsAfter M.stands image params c.take.new.self taken =
    stands_more M.stands image params c.take.new.self choices next.number
    (λ rest is. c.in_ok-changed.ensures.stands image params
    (record { bytes = choices ++ rest.bytes; words = rest.words })
    (length choices) rest is (stands rest)) in
    let is_after : after ≡ course.seen taken =
    by_seed M.stands image params c.take.new.self taken (λ schedule t. after ≡ M.seen_at image params schedule t)
    (λ schedule t rest at. c.is_seen-2.ensures.seen image params schedule t rest at) stands_on 0 in
    let one : Choices = record { bytes = next.number ∷ []; words = (choices_of [] 0).words } in
    let is_changed : c.in_ok-changed.changed ≡ course.changes choices next.number =
    c.in_ok-changed.ensures.changes image params (choices_of taken 0) (length choices) one
    (first_choice next.number (choices_of [] 0)) (stands one) in
    let core : List Core → Core = λ cores. slice_index_or cores next.core (starting 0 0) in
    let is_f =
    c.note.ensures
    ∙ noticed_is c.decide-next.new.self next.core c.in_ok-changed.changed now after c.spot_of-before.result
    c.core-after.result.now c.stores-held.result c.stores.result
    (c.spot_of-before.ensures ∙ ap (λ (cores : List Core). spot_of (core cores)) (sym c.is_seen.ensures.cores))
    (c.core-after.ensures ∙ ap core (sym c.is_seen-2.ensures.cores)) c.stores-held.ensures c.stores.ensures in
    let going : (course.seen choices).ended ≡ false =
    ap (λ (s : Seen). s.ended) (sym is_now) ∙ c.is_seen.ensures.ended ∙ c.requires.going in
    let made : Gone g.row.P.Denot = record { choices = taken; directed = c.note.new.self } in
    goes_on course policy most (gone_in c.args.self.now) going
    ∙ ap (gone_from course policy most)
    (step_is course policy choices c.args.self.now.director c.decide-next.new.self c.note.new.self next now after
    c.in_ok-changed.changed is_now c.decide-next.ensures.decided is_changed is_after is_f
    ∙ ap (λ (l : List ℕ). record made { choices = l }) (sym c.in_ok-push.ensures.ok))
