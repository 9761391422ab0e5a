use Rattle.std.proofs.Common.{refl}
use Rattle.tool_words.proofs.FaultLemmas.{up-to-end}
use Rattle.tool_words.proofs.reading.put_at.Goals as goal

pub returns-in-Err-clause-err : goal.returns-in-Err-clause-err
returns-in-Err-clause-err c =
    (c.in-Err.stop.place, refl, rw (up-to-end c.args.words.now c.args.next) at c.in-Err.ensures.err)
