-- A run that is shown, as the code holds it: its parts are borrowed.
use Rattle.std.specs.Prelude.{List, Option}
use Rattle.std.specs.Option.{option_map}
use Rattle.std.specs.Borrow.{Bor}
use Rattle.turn_lists.specs.declared.actor.Turn.{Turn}
use Rattle.hunt_texts.specs.declared.shown.Shown.{Shown as Held}
use Rattle.hunt_texts.specs.Shown.{Shown}

abbrev pub turns_seen : Option (Bor (List Turn)) → Option (List Turn)
turns_seen turns = option_map (λ ts. ts.now) turns

abbrev pub shown_seen : Held → Shown
shown_seen s = record {
  turns = turns_seen s.turns;
  places = s.places.now;
  values = s.values.now;
  tso = s.tso;
  run = s.run.now;
}
