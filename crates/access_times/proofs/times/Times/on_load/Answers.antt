use Rattle.std.proofs.Common.{arith, ◌≡◌, ◌<◌, ◌∙◌, ap, length}
use Rattle.std.proofs.lemmas.Grind.{common_steps}
use Rattle.std.proofs.lemmas.List.{get_or_default}
use Rattle.rtr_types.specs.declared.TheConstants.{BLOCK_WORDS}
use Rattle.access_times.specs.declared.times.SlotTimes.{SlotTimes}
use Rattle.access_times.specs.Times.{missing_slot, slot_loaded}
use Rattle.access_times.proofs.FilledTimes.{load_set}
use Rattle.access_times.proofs.times.Times.on_load.Goals as goal

pub returns : goal.returns
returns c =
    let long : length c.args.self.now.slots ≡ BLOCK_WORDS = grind (arith, common_steps) in
    let within : c.args.slot < length c.args.self.now.slots = (let slot = c.requires.slot in omega arith) in
    load_set c.args.self.now c.args.slot c.args.at c.args.clock _ long c.requires.slot
    (c.on_load.ensures
    ∙ ap (λ (x : SlotTimes). slot_loaded x c.args.at c.args.clock)
    (get_or_default c.args.self.now.slots c.args.slot _ missing_slot within))
