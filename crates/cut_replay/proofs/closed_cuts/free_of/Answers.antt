use Rattle.std.proofs.Common.{◌≤◌, ◌-◌, ◌/◌, arith}
use Rattle.cut_replay.proofs.Cuts.{between_end, between_free, between_need}
use Rattle.cut_replay.proofs.closed_cuts.free_of.Goals as goal

pub loop-free-preserved-then-covers : goal.loop-free-preserved-then-covers
loop-free-preserved-then-covers c =
    let a = c.args.audited.now in
    let l = c.loop-free.invariant in
    let lt = c.loop-free-test.true in
    let m = c.loop-free.least - (c.loop-free.least - c.loop-free.free) / 2 in
    let some : 1 ≤ m = omega arith in
    let need = (c.clock.ensures c.args.at c.requires.at.some).0 (c.covers.ensures.0 c.if-covers.true) in
    let within = l.within in
    record {
      between = between_need a.which a.recording c.args.at c.args.core c.loop-free.free c.loop-free.least m l.between
          some (omega arith) (m - 1)
          (omega arith) need;
      within = omega arith;
    }

pub loop-free-preserved : goal.loop-free-preserved
loop-free-preserved c =
    let a = c.args.audited.now in
    let l = c.loop-free.invariant in
    let lt = c.loop-free-test.true in
    let m = c.loop-free.least - (c.loop-free.least - c.loop-free.free) / 2 in
    let some : 1 ≤ m = omega arith in
    let within = l.within in
    record {
      between = between_free a.which a.recording c.args.at c.args.core c.loop-free.free c.loop-free.least m l.between
          some (omega arith)
          (λ need. let covered = c.covers.ensures.1 ((c.clock.ensures c.args.at c.requires.at.some).1 need) in let not =
          c.if-covers.false in cc);
      within = l.within;
    }

pub returns : goal.returns
returns c =
    let a = c.args.audited.now in
    let end = c.loop-free-test.false in
    between_end a.which a.recording c.args.at c.args.core c.loop-free.free c.loop-free.least
    c.loop-free.invariant.between (omega arith)
