use Rattle.std.proofs.Common.{◌≤◌, ◌-◌, length, map, take, string_bytes}
use Rattle.hunt_words.specs.Seen.{all_seen}
use Rattle.hunt_words.specs.Stops.{IsCut}
use Rattle.hunt_words.proofs.stops.stop_in.Given as goal

-- the words so far are these options, of which a hunt may still come
abbrev pub invariant-loop-read : goal.invariant-loop-read
invariant-loop-read l = record {
  within : l.read ≤ length l.words;
  cut : IsCut l.verb (take l.read (map string_bytes l.words)) (all_seen l.given.items);
}

abbrev pub decreases-loop-read : goal.decreases-loop-read
decreases-loop-read l = length l.words - l.read
