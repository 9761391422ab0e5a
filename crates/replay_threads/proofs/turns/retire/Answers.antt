use Rattle.std.proofs.Common.{ap, sym, ◌∙◌}
use Rattle.rv_core.specs.declared.core_state.Need.{Need}
use Rattle.rv_core.specs.Steps.{is_done}
use Rattle.replay_core.specs.Plans.{plan_of, recorded_image}
use Rattle.replay_table.specs.Rule.{seen_of}
use Rattle.replay_threads.proofs.SeatSteps.{Retires, local_retires, load_retires, short_ends}
use Rattle.replay_threads.proofs.turns.retire.Given.{Over}
use Rattle.replay_threads.proofs.turns.retire.Goals as goal
use Rattle.replay_threads.proofs.turns.retire.Goals.{After-load_on, After-local}

pub returns-in-Done-clause-ends : goal.returns-in-Done-clause-ends
returns-in-Done-clause-ends g c =
    let e = c.publish.ensures in
    short_ends g.J.Job.which g.J.Job.recording c.args.seat.now c.publish.new.seat c.requires.valid e.published
    e.reached c.core-core.ensures.inside
    c.requires.due
    (ap (λ (n : Need). is_done n) (sym c.need-need.ensures ∙ c.in-Done.is))

local_goes : (g : Over) (c : After-local g) → Retires c.args.seat.now c.local.new.seat
local_goes g c =
    let e = c.local.ensures in
    local_retires (recorded_image g.J.Job.recording) c.args.seat.now c.local.new.seat e.table e.core e.view

pub returns-in-Local-clause-goes_on : goal.returns-in-Local-clause-goes_on
returns-in-Local-clause-goes_on g c = (local_goes g c).goes_on

pub returns-in-Local-clause-more : goal.returns-in-Local-clause-more
returns-in-Local-clause-more g c = (local_goes g c).more

load_goes : (g : Over) (c : After-load_on g) → Retires c.args.seat.now c.load_on.new.seat
load_goes g c =
    let e = c.load_on.ensures in
    load_retires (plan_of g.J.Job.which g.J.Job.recording) (seen_of c.args.seat.now.view)
    (recorded_image g.J.Job.recording) c.args.until _ c.load_on.result c.args.seat.now c.load_on.new.seat e.table
    e.ahead e.told.step

pub returns-in-Load-clause-goes_on : goal.returns-in-Load-clause-goes_on
returns-in-Load-clause-goes_on g c = (load_goes g c).goes_on

pub returns-in-Load-clause-more : goal.returns-in-Load-clause-more
returns-in-Load-clause-more g c = (load_goes g c).more
