use Rattle.std.proofs.Common.{map, string_bytes, sym}
use Rattle.hunt_words.specs.Seen.{seen}
use Rattle.hunt_words.proofs.GivenLemmas.{given_alone}
use Rattle.hunt_words.proofs.given.first_given.Goals as goal

pub returns-in-Some-clause-some : goal.returns-in-Some-clause-some
returns-in-Some-clause-some c =
    given_alone c.args.verb c.args.word.now (map string_bytes c.args.rest.now) (seen c.in-Some.one)
    (sym c.in-Some.ensures)
