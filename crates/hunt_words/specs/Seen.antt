-- Options as the code holds them, with texts borrowed from the words.
use Rattle.std.specs.Prelude.{List, map}
use Rattle.hunt_words.specs.declared.given.Given.{Given as Held}
use Rattle.hunt_words.specs.Given.{Given}

abbrev pub seen : Held → Given
seen one = record { name = one.name.now; text = one.text.now }

abbrev pub all_seen : List Held → List Given
all_seen given = map seen given
