use Rattle.std.proofs.Common.{◌∙◌, string_bytes, sym}
use Rattle.hunt_words.specs.Seen.{all_seen}
use Rattle.hunt_words.proofs.GivenLemmas.{given_none}
use Rattle.hunt_words.proofs.given.given_in.Goals as goal

pub returns : goal.returns
returns c =
    sym (given_none string_bytes c.args.verb c.loop-word.left.now (all_seen c.loop-word.given.items)
    c.in_default.ensures.cases) ∙ c.loop-word.invariant
