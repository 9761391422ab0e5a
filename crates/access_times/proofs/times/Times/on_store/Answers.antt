use Rattle.std.proofs.Common.{arith, ◌≡◌, length}
use Rattle.std.proofs.lemmas.Grind.{common_steps}
use Rattle.rtr_types.specs.declared.TheConstants.{BLOCK_WORDS}
use Rattle.access_times.proofs.FilledTimes.{store_set}
use Rattle.access_times.proofs.times.Times.on_store.Goals as goal

pub returns : goal.returns
returns c =
    let long : length c.args.self.now.slots ≡ BLOCK_WORDS = grind (arith, common_steps) in
    store_set c.args.self.now c.args.slot c.args.at c.args.clock _ long c.requires c.on_store.ensures
