use Rattle.std.proofs.Common.{◌∙◌, sym, subst, ℕ, ◌<◌}
use Rattle.msi_memory.specs.Acts.{TakeResponse}
use Rattle.move_marks.proofs.TurnMarks.{few_after, home_can, long_after, response_followed}
use Rattle.move_marks.proofs.taking.take_response.Goals as goal

pub take_response-turn-requires : goal.take_response-turn-requires
take_response-turn-requires g c = home_can c.requires.holds (TakeResponse c.args.core) c.requires.can

pub mark_turn-requires-clause-ports : goal.mark_turn-requires-clause-ports
mark_turn-requires-clause-ports g c =
    few_after c.requires.holds (TakeResponse c.args.core) c.take_response-turn.ensures.memory

pub has_response-requires : goal.has_response-requires
has_response-requires g c =
    subst (λ (n : ℕ). c.args.core < n) (sym (long_after g.R.Rider.riding g.K.Carry.carrying c.args.memory.now.memory
    c.take_response-turn.new.self.memory (TakeResponse c.args.core) c.take_response-turn.ensures.memory))
    (home_can c.requires.holds (TakeResponse c.args.core) c.requires.can).here

pub returns : goal.returns
returns g c =
    response_followed c.args.core c.requires.holds c.requires.marked c.requires.cores c.take_response-turn.ensures
    c.requires.can (c.set.ensures.this ∙ c.has_response.ensures) c.set.ensures.others c.mark_turn.ensures
