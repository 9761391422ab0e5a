use Rattle.std.proofs.Common.{◌∙◌}
use Rattle.online_reduce.proofs.TouchedState.{adds_access}
use Rattle.online_reduce.proofs.reducer.Reducer.retire.Goals as goal

pub returns-clause-adds : goal.returns-clause-adds
returns-clause-adds c =
    adds_access c.args.self.now.state c.retire_into.new.self.state c.args.access.now c.args.times.now
    c.to_list.result.items c.retire_into.ensures.state (c.to_list.ensures.items ∙ c.retire_into.ensures.edges)
    c.requires.next
