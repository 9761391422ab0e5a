use Rattle.std.proofs.Common.{◌≡◌, false, sym, ◌∙◌, ap}
use Rattle.rv_core.specs.Steps.{is_done, need_of}
use Rattle.rv_core.proofs.StepLemmas.{goes_on}
use Rattle.rv_core.proofs.OpLemmas.{store_aligned}
use Rattle.rv_core.proofs.LawLemmas.{room_law, after-op, wrote-op}
use Rattle.rv_core.proofs.core_state.Core.finish_op.Goals as goal

pub unreachable-requires : goal.unreachable-requires
unreachable-requires c =
    let (op, goes) = goes_on c.args._image.now c.args.self.now c.requires.more in
    let found = goes.at_pc in
    cc

pub execute-requires-clause-room : goal.execute-requires-clause-room
execute-requires-clause-room c = room_law c.args._image.now c.args.self.now c.requires.more

pub execute-requires-clause-aligned : goal.execute-requires-clause-aligned
execute-requires-clause-aligned c =
    let (op, goes) = goes_on c.args._image.now c.args.self.now c.requires.more in
    let same = sym c.in-Some.is ∙ c.requires.at_pc ∙ goes.at_pc in
    let this : op ≡ c.in-Some.op = cc in
    let needs : is_done (need_of c.args._image.now.words c.args.self.now op) ≡ false =
    sym (ap is_done goes.needs) ∙ c.requires.more in
    rw (← this) (store_aligned c.args._image.now.words c.args.self.now op needs)

pub returns-clause-core : goal.returns-clause-core
returns-clause-core c =
    let found = sym c.requires.at_pc ∙ c.in-Some.is in
    c.execute.ensures.core ∙ sym (after-op c.args._image.now c.args.self.now c.in-Some.op c.args.old found)

pub returns-clause-value : goal.returns-clause-value
returns-clause-value c =
    let found = sym c.requires.at_pc ∙ c.in-Some.is in
    c.execute.ensures.value ∙ sym (wrote-op c.args._image.now c.args.self.now c.in-Some.op c.args.old found)
