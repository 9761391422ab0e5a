use Rattle.gdb_commands.proofs.WordLemmas.{word_last, word_more}
use Rattle.gdb_commands.proofs.words.words_of.Goals as goal

pub loop-front-preserved : goal.loop-front-preserved
loop-front-preserved c =
    word_more c.loop-front.words c.put_word.new.words c.args.text.now c.loop-front.rest.now c.in-Some.front.now
    c.in-Some.more.now c.loop-front.invariant c.in-Some.ensures.parts c.in_ok-put_word.ensures

pub returns : goal.returns
returns c =
    word_last c.loop-front.words c.put_word-2.new.words c.args.text.now c.loop-front.rest.now c.loop-front.invariant
    c.in_default.ensures.parts c.in_ok-put_word-2.ensures
