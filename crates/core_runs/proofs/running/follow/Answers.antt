-- Instruction by instruction, until the count, the end of the program, or one that is refused.
use Rattle.std.proofs.Common.{◌∙◌, ap, arith, refl, sym}
use Rattle.image_mem.specs.Contents.{Contents}
use Rattle.core_runs.specs.Runs.{stands}
use Rattle.core_runs.proofs.RunSteps.{follow_count, follow_done, follow_more, follow_whole, op_is, op_stops}
use Rattle.core_runs.proofs.running.follow.Goals as goal

pub loop-head-init : goal.loop-head-init
loop-head-init g c = record {
  count = 0;
  goes = refl;
  words = c.requires.words;
  accepts_on = c.requires.accepts;
  limit = c.requires.limit;
  within = c.requires.up;
}

pub returns-in_default : goal.returns-in_default
returns-in_default g c = record {
  count = c.loop-head.invariant.count;
  goes = c.loop-head.invariant.goes;
  below = c.loop-head-test.true;
  done = op_stops c.args.program.now c.loop-head.head c.loop-head.registers c.next_op.result c.in_default.is
      c.next_op.ensures;
}

pub step-requires-clause-room : goal.step-requires-clause-room
step-requires-clause-room g c =
    let below = c.loop-head-test.true in
    let most = c.loop-head.invariant.limit in
    omega arith

pub step-requires-clause-words : goal.step-requires-clause-words
step-requires-clause-words g c = (c.words-words.ensures.value ∙ ap (λ (i : Contents). i.words) c.image.ensures)
    ∙ sym c.loop-head.invariant.words

pub step-requires-clause-accepts : goal.step-requires-clause-accepts
step-requires-clause-accepts g c =
    let below = c.loop-head-test.true in
    c.loop-head.invariant.accepts_on _ (omega arith) (omega arith)

pub loop-head-smaller : goal.loop-head-smaller
loop-head-smaller g c =
    let below = c.loop-head-test.true in
    let more = follow_count c.in-Gone.ensures in
    omega arith

pub loop-head-preserved : goal.loop-head-preserved
loop-head-preserved g c =
    let found = op_is c.args.program.now c.loop-head.head c.next_op.result c.in-Some.op c.in-Some.is
    c.next_op.ensures in
    follow_more c.loop-head.invariant g.met.R.Reach.keeps_words g.met.R.Reach.keeps_accepting c.loop-head-test.true
    c.in-Some.op found.0 found.1 (c.words-words.ensures.value
    ∙ ap (λ (i : Contents). i.words) c.image.ensures) c.in-Gone.ensures

pub returns-in-Done : goal.returns-in-Done
returns-in-Done g c =
    let found = op_is c.args.program.now c.loop-head.head c.next_op.result c.in-Some.op c.in-Some.is
    c.next_op.ensures in
    follow_done c.loop-head.invariant c.loop-head-test.true c.in-Some.op found.1 (c.words-words.ensures.value
    ∙ ap (λ (i : Contents). i.words) c.image.ensures) c.in-Done.ensures

pub returns-in-Refused : goal.returns-in-Refused
returns-in-Refused g c = record {
  count = c.loop-head.invariant.count;
  mid = stands c.loop-head.head c.loop-head.registers c.loop-head.reach c.loop-head.watch;
  goes = c.loop-head.invariant.goes;
  below = c.loop-head-test.true;
  core = c.in-Refused.ensures.core;
  refuses = c.in-Refused.ensures.refuses;
}

pub returns : goal.returns
returns g c = follow_whole c.loop-head.invariant c.loop-head-test.false
