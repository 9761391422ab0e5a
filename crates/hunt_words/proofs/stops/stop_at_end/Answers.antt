use Rattle.std.proofs.Common.{map, string_bytes}
use Rattle.hunt_words.specs.Seen.{all_seen}
use Rattle.hunt_words.proofs.FaultPlaces.{end-means}
use Rattle.hunt_words.proofs.FaultReads.{end-so, hunt-none, hunt-some}
use Rattle.hunt_words.proofs.stops.stop_at_end.Goals as goal

pub returns-then-is_some-clause-none : goal.returns-then-is_some-clause-none
returns-then-is_some-clause-none c =
    end-means c.args.verb (map string_bytes c.args.words.now) (all_seen c.args.given.now) c.requires
    (hunt-some _ _ _ c.in_ok-hunt_of.ensures.value c.is_some.ensures c.if-is_some.true)

pub returns-clause-some : goal.returns-clause-some
returns-clause-some c =
    end-so string_bytes c.args.words.now c.args.verb (all_seen c.args.given.now) c.in_ok-missing.field-0 c.requires
    (hunt-none _ _ _ c.in_ok-hunt_of.ensures.value c.is_some.ensures c.if-is_some.false) c.in_ok-missing.ensures
