use Rattle.std.proofs.Common.{◌∙◌, ◌%◌, arith}
use Rattle.hunt_runs.proofs.EndViews.{word_is}
use Rattle.hunt_runs.proofs.ended.AtEndEndView.final_word.Goals as goal

pub returns : goal.returns
returns g c =
    let S = g.M.SteppedMachine in
    let machine = c.args.self.now.machine.now in
    c.final_words-words.ensures (c.args.word % 4) (omega arith)
    ∙ word_is (S.words machine) (S.image machine).words c.args.word c.requires
