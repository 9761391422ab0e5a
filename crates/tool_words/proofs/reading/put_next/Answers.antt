use Rattle.std.proofs.Common.{string_bytes}
use Rattle.tool_words.proofs.ReadingLemmas.{map-rest}
use Rattle.tool_words.proofs.FirstWords.{at-name, at-value, offered, setting-err, setting-ok}
use Rattle.tool_words.proofs.reading.put_next.Goals as goal

pub returns-in-Err-clause-err : goal.returns-in-Err-clause-err
returns-in-Err-clause-err c =
    at-name _ _ _ _ _ _ _ _ (map-rest string_bytes c.args.words.now c.index-words-0.result c.requires
    c.index-words-0.is) c.as_str.ensures.value c.split.ensures.name c.in-Err.ensures

pub returns-in-Err-value_of-clause-err : goal.returns-in-Err-value_of-clause-err
returns-in-Err-value_of-clause-err c =
    at-value _ _ _ _ _ _ _ _ _ _ _ (map-rest string_bytes c.args.words.now c.index-words-0.result c.requires
    c.index-words-0.is) c.as_str.ensures.value c.split.ensures.name c.in-Ok.ensures c.split.ensures.value
    c.in-Err-value_of.ensures.err

pub overflow_sub-result : goal.overflow_sub-result
overflow_sub-result c =
    let o = offered _ _ _ _ _ _ _ _ _ _ _ (map-rest string_bytes c.args.words.now c.index-words-0.result c.requires
    c.index-words-0.is) c.as_str.ensures.value c.split.ensures.name c.in-Ok.ensures c.split.ensures.value
    c.in-Ok-value_of.ensures.ok in
    o.offers.some

pub returns-in-Ok-with-clause-ok : goal.returns-in-Ok-with-clause-ok
returns-in-Ok-with-clause-ok c =
    let o = offered _ _ _ _ _ _ _ _ _ _ _ (map-rest string_bytes c.args.words.now c.index-words-0.result c.requires
    c.index-words-0.is) c.as_str.ensures.value c.split.ensures.name c.in-Ok.ensures c.split.ensures.value
    c.in-Ok-value_of.ensures.ok in
    setting-ok _ _ _ _ _ _ _ o.unset o.offers c.in-Ok-with.ensures.ok.0 c.in-Ok-with.ensures.ok.1

pub returns-in-Err-with-clause-err : goal.returns-in-Err-with-clause-err
returns-in-Err-with-clause-err c =
    let o = offered _ _ _ _ _ _ _ _ _ _ _ (map-rest string_bytes c.args.words.now c.index-words-0.result c.requires
    c.index-words-0.is) c.as_str.ensures.value c.split.ensures.name c.in-Ok.ensures c.split.ensures.value
    c.in-Ok-value_of.ensures.ok in
    setting-err _ _ _ _ _ _ _ o.unset o.offers c.in-Err-with.ensures.err
