use Rattle.std.proofs.Common.{◌≡◌, false, sym, ◌∙◌, ap}
use Rattle.rv_core.specs.Steps.{is_done, need_of}
use Rattle.rv_core.proofs.StepLemmas.{goes_on}
use Rattle.rv_core.proofs.OpLemmas.{store_aligned}
use Rattle.rv_core.proofs.Masks.{mask_at, mask_within, mask_writes, store_goes}
use Rattle.rv_core.proofs.core_state.Core.store_mask_by_op.Goals as goal

pub unreachable-requires : goal.unreachable-requires
unreachable-requires c =
    let (op, goes) = goes_on c.args._image.now c.args.self.now (store_goes _ c.requires.store) in
    let found = goes.at_pc in
    cc

pub mask_of-requires : goal.mask_of-requires
mask_of-requires c =
    let more = store_goes _ c.requires.store in
    let (op, goes) = goes_on c.args._image.now c.args.self.now more in
    let same = sym c.in-Some.is ∙ c.requires.at_pc ∙ goes.at_pc in
    let this : op ≡ c.in-Some.op = cc in
    let needs : is_done (need_of c.args._image.now.words c.args.self.now op) ≡ false =
    sym (ap is_done goes.needs) ∙ more in
    rw (← this) (store_aligned c.args._image.now.words c.args.self.now op needs)

pub returns-clause-mask : goal.returns-clause-mask
returns-clause-mask c =
    c.mask_of.ensures
    ∙ sym (mask_at c.args._image.now c.args.self.now c.in-Some.op (sym c.requires.at_pc ∙ c.in-Some.is))

pub returns-clause-writes : goal.returns-clause-writes
returns-clause-writes c =
    mask_writes c.args._image.now c.args.self.now c.mask_of.result c.requires.store
    (c.mask_of.ensures
    ∙ sym (mask_at c.args._image.now c.args.self.now c.in-Some.op (sym c.requires.at_pc ∙ c.in-Some.is)))

pub returns-clause-within : goal.returns-clause-within
returns-clause-within c =
    mask_within c.args._image.now c.args.self.now c.mask_of.result
    (c.mask_of.ensures
    ∙ sym (mask_at c.args._image.now c.args.self.now c.in-Some.op (sym c.requires.at_pc ∙ c.in-Some.is)))
