-- The exchange either took, and the seat has gone on by one instruction, or another write came first, and the seat is
-- as it was.
use Rattle.std.proofs.Common.{◌≡◌, ap, ◌∙◌, false}
use Rattle.std.specs.Prelude.{Ok, Err}
use Rattle.rv_core.specs.declared.core_state.Core.{Core}
use Rattle.rv_core.specs.Steps.{need, is_whole}
use Rattle.replay_core.specs.Plans.{plan_of, recorded_image}
use Rattle.replay_threads.specs.Turns.{Continues, HasRaced}
use Rattle.replay_threads.proofs.SeatSteps.{Retires, held_due, held_retires, held_fails, is_held}
use Rattle.replay_threads.proofs.turns.exchange.Goals as goal
use Rattle.replay_threads.proofs.turns.exchange.Given.{Over}
use Rattle.replay_threads.proofs.turns.exchange.Goals.{After-hold_word, In-Ok, In-Err}

pub store_word-requires-clause-ready : goal.store_word-requires-clause-ready
store_word-requires-clause-ready g c =
    let e = c.hold_word.ensures in
    held_due (plan_of g.J.Job.which g.J.Job.recording) _ c.hold_word.result c.args.seat.now c.hold_word.new.seat
    e.told.step e.core c.requires.due

-- the access leaves what depends on the word before
part : (g : Over) (c : After-hold_word g) →
    is_whole (need (recorded_image g.J.Job.recording) c.hold_word.new.seat.core) ≡ false
part g c = ap (λ (k : Core). is_whole (need (recorded_image g.J.Job.recording) k)) c.hold_word.ensures.core
    ∙ c.requires.part

-- the instruction retired
retires : (g : Over) (c : In-Ok g) →
    is_whole (need (recorded_image g.J.Job.recording) c.hold_word.new.seat.core) ≡ false →
    Retires c.args.seat.now c.store_word.new.seat
retires g c whole =
    let p = plan_of g.J.Job.which g.J.Job.recording in
    let e = c.hold_word.ensures in
    held_retires p _ c.hold_word.result c.hold_word.result c.args.seat.now c.hold_word.new.seat c.store_word.new.seat
    e.table e.core e.told.step c.in-Ok.ensures.table
    (c.in-Ok.ensures.change whole c.hold_word.result
    (is_held p _ c.hold_word.result c.args.seat.now c.hold_word.new.seat e.told.step))

pub returns-in-Ok-clause-goes_on : goal.returns-in-Ok-clause-goes_on
returns-in-Ok-clause-goes_on g c =
    let at = goal.at.returns-in-Ok-clause-goes_on g c in
    (retires g at.In-Ok (part g at.After-hold_word)).goes_on

pub returns-in-Ok-clause-more : goal.returns-in-Ok-clause-more
returns-in-Ok-clause-more g c =
    let at = goal.at.returns-in-Ok-clause-more g c in
    (retires g at.In-Ok (part g at.After-hold_word)).more

ok_err : {A B : Type 0} (a : A) (b : B) → Err b ≡ Ok a → ⊥
ok_err a b e = cc

-- or the word isn't the held one any more
fails : (g : Over) (c : In-Err g) →
    is_whole (need (recorded_image g.J.Job.recording) c.hold_word.new.seat.core) ≡ false →
    Continues c.args.seat.now c.store_word.new.seat
    × HasRaced g.J.Job.which g.J.Job.recording c.args.seat.now c.store_word.new.seat
fails g c whole =
    let p = plan_of g.J.Job.which g.J.Job.recording in
    let e = c.hold_word.ensures in
    held_fails g.J.Job.which g.J.Job.recording p _ c.hold_word.result c.hold_word.result _ c.args.seat.now
    c.hold_word.new.seat c.store_word.new.seat e.table e.core e.told.step c.in-Err.ensures.table
    (c.in-Err.ensures.change whole c.hold_word.result
    (is_held p _ c.hold_word.result c.args.seat.now c.hold_word.new.seat e.told.step))
    (λ d. ok_err _ _ (c.in-Err.ensures.sure d))

pub returns-in-Err-clause-goes_on : goal.returns-in-Err-clause-goes_on
returns-in-Err-clause-goes_on g c =
    let at = goal.at.returns-in-Err-clause-goes_on g c in
    (fails g at.In-Err (part g at.After-hold_word)).0

pub returns-in-Err-clause-ends : goal.returns-in-Err-clause-ends
returns-in-Err-clause-ends g c =
    let at = goal.at.returns-in-Err-clause-ends g c in
    (fails g at.In-Err (part g at.After-hold_word)).1
