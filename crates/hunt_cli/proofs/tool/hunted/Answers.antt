use Rattle.std.proofs.Common.{sym, subst, string_bytes}
use Rattle.hunt_words.specs.declared.hunt.Setup.{Setup}
use Rattle.hunt_cli.specs.declared.exits.HuntExit.{HuntExit}
use Rattle.hunt_cli.specs.Answers.{HuntAnswers, IsRefused, Moved, TellsFaults}
use Rattle.hunt_cli.specs.Inputs.{setup_in}
use Rattle.hunt_cli.specs.Kinds.{setting_of}
use Rattle.hunt_cli.proofs.HuntEnds.{given-answers, given-faults, keeps-same, refused-answers, refused-faults}
use Rattle.hunt_cli.proofs.HuntsWhole.{gives-whole}
use Rattle.hunt_cli.proofs.tool.hunted.Given as given
use Rattle.hunt_cli.proofs.tool.hunted.Goals as goal

-- what moved where nothing was found, and where what was found was given
abbrev refused : (g : given.Over) → goal.After-ends_as g → Moved
refused g c = record {
  left = g.I.Source.left c.args.input.now;
  left' = g.I.Source.left c.taken.new.input;
  got = g.O.Sink.got c.args.output.now;
  got' = g.O.Sink.got c.args.output.now;
  told = g.E.Sink.got c.args.report.now;
  told' = g.E.Sink.got c.ends_as.new.report;
  faults = g.E.Sink.faults c.args.report.now;
  faults' = g.E.Sink.faults c.ends_as.new.report;
}

abbrev given-so : (g : given.Over) → goal.After-drop-answer g → Moved
given-so g c = record {
  left = g.I.Source.left c.args.input.now;
  left' = g.I.Source.left c.taken.new.input;
  got = g.O.Sink.got c.args.output.now;
  got' = g.O.Sink.got c.give.new.output;
  told = g.E.Sink.got c.args.report.now;
  told' = g.E.Sink.got c.give.new.report;
  faults = g.E.Sink.faults c.args.report.now;
  faults' = g.E.Sink.faults c.give.new.report;
}

pub returns-in-Err-clause-answered : goal.returns-in-Err-clause-answered
returns-in-Err-clause-answered g c =
    let m = refused g c in
    subst (λ (e : HuntExit). HuntAnswers c.args.hunt.now e m) (sym c.ends_as.ensures.exit)
    (refused-answers c.args.hunt.now c.in-Err.exit m
    (subst (λ (s : Setup). IsRefused s c.in-Err.exit m.left m.left') c.setup_in.ensures c.in-Err.ensures.refused)
    (keeps-same (g.O.Sink.got c.args.output.now), c.ends_as.ensures.told))

pub returns-in-Ok-answer-clause-answered : goal.returns-in-Ok-answer-clause-answered
returns-in-Ok-answer-clause-answered g c =
    let m = given-so g c in
    let read = rw c.setup_in.ensures at c.in-Ok.ensures.found in
    given-answers c.args.hunt.now c.in-Ok-answer.answer.exit c.give.result c.in-Ok-answer.answer.out.items
    (string_bytes c.in-Ok-answer.answer.report) m
    (record {
      input = read.0;
      bytes = c.in-Ok.bytes.items;
      read = read.1;
      loads = read.2;
      finds = c.in-Ok-answer.ensures;
    }) c.give.ensures.given

pub returns-in-Err-clause-faults : goal.returns-in-Err-clause-faults
returns-in-Err-clause-faults g c =
    let read = g.I.Source.faults c.args.input.now in
    let read' = g.I.Source.faults c.taken.new.input in
    let written = g.O.Sink.faults c.args.output.now in
    subst (λ (e : HuntExit). TellsFaults e read read' written written) (sym c.ends_as.ensures.exit)
    (refused-faults c.setup_in.result c.in-Err.exit (g.I.Source.left c.args.input.now)
    (g.I.Source.left c.taken.new.input) read read' written c.in-Err.ensures.refused c.in-Err.ensures.fault
    c.in-Err.ensures.other)

pub returns-in-Ok-answer-clause-faults : goal.returns-in-Ok-answer-clause-faults
returns-in-Ok-answer-clause-faults g c =
    let hunt = c.args.hunt.now in
    given-faults (setting_of (setup_in hunt) c.in-Ok.bytes.items) hunt c.in-Ok.bytes.items
    c.in-Ok-answer.answer.out.items (string_bytes c.in-Ok-answer.answer.report) c.in-Ok-answer.answer.exit c.give.result
    (g.I.Source.faults c.args.input.now) (g.I.Source.faults c.taken.new.input) (g.O.Sink.faults c.args.output.now)
    (g.O.Sink.faults c.give.new.output) c.in-Ok-answer.ensures c.in-Ok.ensures.no_fault c.give.ensures.faults

pub returns-in-Err-clause-complete : goal.returns-in-Err-clause-complete
returns-in-Err-clause-complete g c = λ given bytes.
    let m = refused g c in
    gives-whole c.args.hunt.now m given bytes (g.I.Source.faults c.args.input.now) (g.I.Source.faults c.taken.new.input)
    (g.O.Sink.faults c.args.output.now) (g.O.Sink.faults c.args.output.now) c.ends_as.result
    (returns-in-Err-clause-answered g c) (returns-in-Err-clause-faults g c)

pub returns-in-Ok-answer-clause-complete : goal.returns-in-Ok-answer-clause-complete
returns-in-Ok-answer-clause-complete g c = λ given bytes.
    let m = given-so g c in
    gives-whole c.args.hunt.now m given bytes (g.I.Source.faults c.args.input.now) (g.I.Source.faults c.taken.new.input)
    (g.O.Sink.faults c.args.output.now) (g.O.Sink.faults c.give.new.output) c.give.result
    (returns-in-Ok-answer-clause-answered g c) (returns-in-Ok-answer-clause-faults g c)
