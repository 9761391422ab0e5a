use Rattle.std.proofs.Common.{string_bytes, sym}
use Rattle.tool_words.proofs.ReadingLemmas.{map-rest}
use Rattle.hunt_words.specs.Seen.{all_seen}
use Rattle.hunt_words.proofs.NextOptions.{clash-at, next-at, no-value-at, untaken-at}
use Rattle.hunt_words.proofs.stops.next_option.Goals as goal

pub returns-in-Err-clause-err : goal.returns-in-Err-clause-err
returns-in-Err-clause-err c =
    untaken-at c.args.verb (all_seen c.args.given.now) _ _ _ _ _ _ _
    (map-rest string_bytes c.args.words.now c.index-words-0.result c.requires c.index-words-0.is)
    c.as_str.ensures.value c.split.ensures.name c.split.ensures.value c.in-Err.ensures.err

pub returns-in-Some-clause-err : goal.returns-in-Some-clause-err
returns-in-Some-clause-err c =
    clash-at c.args.verb (all_seen c.args.given.now) _ _ _ _ _ _ _ _
    (map-rest string_bytes c.args.words.now c.index-words-0.result c.requires c.index-words-0.is)
    c.as_str.ensures.value c.split.ensures.name c.in-Ok.ensures.ok c.in-Some.ensures.some

pub returns-in-None-clause-err : goal.returns-in-None-clause-err
returns-in-None-clause-err c =
    no-value-at c.args.verb (all_seen c.args.given.now) _ _ _ _ _ _ _
    (map-rest string_bytes c.args.words.now c.index-words-0.result c.requires c.index-words-0.is)
    c.as_str.ensures.value c.split.ensures.name c.split.ensures.value c.in-Ok.ensures.ok c.in_default.ensures.none.0
    c.in_default.ensures.none.1 (sym c.in-None.ensures)

pub returns-in-Some-value_of-clause-ok : goal.returns-in-Some-value_of-clause-ok
returns-in-Some-value_of-clause-ok c =
    next-at c.args.verb (all_seen c.args.given.now) _ _ _ _ _ _ _ _ _
    (map-rest string_bytes c.args.words.now c.index-words-0.result c.requires c.index-words-0.is)
    c.as_str.ensures.value c.split.ensures.name c.split.ensures.value c.in-Ok.ensures.ok c.in_default.ensures.none.0
    c.in_default.ensures.none.1 (sym c.in-Some-value_of.ensures)
