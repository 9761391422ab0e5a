use Rattle.std.proofs.Common.{◌≡◌, ◌∙◌, ◌+◌, Bool, List, ℕ, length, sym, ap, subst, arith}
use Rattle.rtr_types.specs.declared.pairs.Which.{Which}
use Rattle.race_log.specs.declared.recording.Recording.{Recording}
use Rattle.race_log.specs.Validity.{Valid}
use Rattle.replay_audit.specs.Determinate.{IsDeterminate}
use Rattle.gdb_moves.specs.declared.direction.Direction.TheVariants.{Back}
use Rattle.gdb_moves.specs.Leaps.{LeapsOrStays}
use Rattle.gdb_moves.specs.Stopping.{stopping_of}
use Rattle.gdb_moves.proofs.LeapEnds.{leapt_last, leapt_more}
use Rattle.gdb_moves.proofs.hearing.Hearing.leap_back.Goals as goal
use Rattle.gdb_moves.proofs.hearing.Hearing.leap_back.Goals.{then-least-eq0, else-least-eq0}

pub loop-least-init : goal.loop-least-init
loop-least-init c =
    let a = c.args.self.now.audited.now in
    let place = c.args.place.now in
    let valid : Valid place.recording =
    subst (λ (r : Recording). Valid r) c.requires.run.recording c.recording.ensures.valid in
    let determinate : IsDeterminate place.which place.recording =
    subst (λ (w : Which). IsDeterminate w place.recording) c.requires.run.which
    (subst (λ (r : Recording). IsDeterminate a.which r) c.requires.run.recording
    c.outcome.ensures.passed.determinate) in
    let all = ap (λ (l : List ℕ). length l) c.timeline-known.ensures in
    record {
      leapt = leapt_last (stopping_of c.args.self.now) c.args.cores place (length c.timeline-known.result.now) valid
          determinate c.cut.ensures.stands all;
      order = omega arith;
      within = omega arith;
    }

pub loop-least-preserved-then-branch : goal.loop-least-preserved-then-branch
loop-least-preserved-then-branch c =
    let h = c.loop-least.invariant in
    let less = c.loop-least-test.true in
    let within = h.within in
    record {
      leapt = leapt_more Back (stopping_of c.args.self.now) c.args.cores _ _ _ _ _ h.leapt
          (subst (λ (b : Bool). LeapsOrStays b Back (stopping_of c.args.self.now) c.args.cores c.loop-least.place
          c.if-least-eq0.number c.takes_turns.new.place) c.if-branch.true c.in_ok-takes_turns.ensures.leapt);
      order = elim c.if-least-eq0.branch [
        | then-least-eq0 w ↦ let none = w.if-least-eq0.true in omega arith
        | else-least-eq0 w ↦ let is = w.number-is in omega arith
      ];
      within = elim c.if-least-eq0.branch [
        | then-least-eq0 w ↦ let is = w.number-is in let least = w.min-number.ensures in omega arith
        | else-least-eq0 w ↦ let is = w.number-is in omega arith
      ];
    }
