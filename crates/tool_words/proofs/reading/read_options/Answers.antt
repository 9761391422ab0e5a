use Rattle.std.proofs.Common.{string_bytes, sym}
use Rattle.tool_words.proofs.FaultLemmas.{lacks-so}
use Rattle.tool_words.proofs.reading.read_options.Goals as goal

pub returns-in-Some-clause-err : goal.returns-in-Some-clause-err
returns-in-Some-clause-err c =
    lacks-so string_bytes c.args.words.now _ _ _ c.in_ok-settings.ensures.ok.0 c.in_ok-settings.ensures.ok.1
    (sym c.in-Some.ensures)
