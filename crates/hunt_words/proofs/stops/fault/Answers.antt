use Rattle.std.proofs.Common.{string_bytes}
use Rattle.hunt_words.proofs.FaultReads.{no-verb-read, none-read, stop-read}
use Rattle.hunt_words.proofs.stops.fault.Goals as goal

pub returns-in-None-clause-first : goal.returns-in-None-clause-first
returns-in-None-clause-first c = (none-read string_bytes c.args.words.now c.in-None.ensures.cases).0

pub returns-in-None-clause-why : goal.returns-in-None-clause-why
returns-in-None-clause-why c = (none-read string_bytes c.args.words.now c.in-None.ensures.cases).1

pub returns-in-None-named-clause-first : goal.returns-in-None-named-clause-first
returns-in-None-named-clause-first c =
    (no-verb-read string_bytes c.args.words.now _ _ _ c.in-Some.ensures.cases.0 c.as_str.ensures.value
    c.in-None-named.ensures).0

pub returns-in-None-named-clause-why : goal.returns-in-None-named-clause-why
returns-in-None-named-clause-why c =
    (no-verb-read string_bytes c.args.words.now _ _ _ c.in-Some.ensures.cases.0 c.as_str.ensures.value
    c.in-None-named.ensures).1

pub returns-in-Some-2-clause-first : goal.returns-in-Some-2-clause-first
returns-in-Some-2-clause-first c =
    (stop-read string_bytes c.args.words.now _ _ _ _ _ _ c.in-Some.ensures.cases.0 c.as_str.ensures.value
    c.in-Some-named.ensures (rw (c.in-Some-2.is) at c.in_ok-stop.ensures.some)).0

pub returns-in-Some-2-clause-why : goal.returns-in-Some-2-clause-why
returns-in-Some-2-clause-why c =
    (stop-read string_bytes c.args.words.now _ _ _ _ _ _ c.in-Some.ensures.cases.0 c.as_str.ensures.value
    c.in-Some-named.ensures (rw (c.in-Some-2.is) at c.in_ok-stop.ensures.some)).1
