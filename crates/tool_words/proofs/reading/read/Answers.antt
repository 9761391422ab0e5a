use Rattle.std.proofs.Common.{string_bytes}
use Rattle.tool_words.proofs.FaultLemmas.{no-verb-read, none-read, stop-read}
use Rattle.tool_words.proofs.reading.read.Goals as goal

pub returns-in-None-clause-err : goal.returns-in-None-clause-err
returns-in-None-clause-err c = none-read string_bytes c.args.words.now c.in-None.ensures.cases

pub returns-in-None-named-clause-err : goal.returns-in-None-named-clause-err
returns-in-None-named-clause-err c =
    no-verb-read string_bytes c.args.words.now _ _ _ c.in-Some.ensures.cases.0 c.as_str.ensures.value
    c.in-None-named.ensures

pub returns-in-Err-clause-err : goal.returns-in-Err-clause-err
returns-in-Err-clause-err c =
    stop-read string_bytes c.args.words.now _ _ _ _ _ _ c.in-Some.ensures.cases.0 c.as_str.ensures.value
    c.in-Some-named.ensures c.in-Err.ensures.err
