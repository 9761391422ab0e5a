use Rattle.std.proofs.Common.{◌≡◌, ◌∙◌, ◌+◌, Bool, sym, ap, subst, arith}
use Rattle.gdb_moves.specs.declared.direction.Direction.TheVariants.{Forward}
use Rattle.gdb_moves.specs.Leaps.{LeapsOrStays}
use Rattle.gdb_moves.specs.Stopping.{stopping_of}
use Rattle.gdb_moves.proofs.LeapEnds.{leapt_more}
use Rattle.gdb_moves.proofs.hearing.Hearing.leap.Goals as goal
use Rattle.gdb_moves.proofs.hearing.Hearing.leap.Goals.{then-most-places, else-most-places}

pub loop-known-preserved-then-branch : goal.loop-known-preserved-then-branch
loop-known-preserved-then-branch c =
    let h = c.loop-known.invariant in
    record {
      leapt = leapt_more Forward (stopping_of c.args.self.now) c.args.cores _ _ _ _ _ h.leapt
          (subst (λ (b : Bool). LeapsOrStays b Forward (stopping_of c.args.self.now) c.args.cores c.loop-known.place
          c.if-most-places.number c.takes_turns.new.place) c.if-branch.true c.in_ok-takes_turns.ensures.leapt);
      order = elim c.if-most-places.branch [
        | then-most-places w ↦ let is = w.number-is in let most = w.next_asked-number.ensures.most in omega arith
        | else-most-places w ↦ let is = w.number-is in let less = c.loop-known-test.true in omega arith
      ];
      within = h.within;
    }
