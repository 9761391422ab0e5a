use Rattle.std.proofs.Common.{string_bytes}
use Rattle.hunt_words.proofs.GivenLemmas.{given_last}
use Rattle.hunt_words.proofs.given.named.Goals as goal

pub returns-in-None-clause-none : goal.returns-in-None-clause-none
returns-in-None-clause-none c =
    given_last string_bytes c.args.verb c.args.word.now c.args.rest.now c.in-None.ensures.cases c.requires
