-- Core by core: the sources so far are those of the lower cores' edges into the instruction, and those cores' edges
-- have gone on.
use Rattle.std.proofs.Common.{◌≡◌, ◌+◌, ℕ, List, sym, subst, refl, arith}
use Rattle.race_log.specs.Sources.{log_edges}
use Rattle.replay_core.specs.declared.coming.Coming.{Coming}
use Rattle.replay_core.proofs.AwaitedEdges.{PassedTo, pass_own, pass_more, pass_known, pass_start, passed_coming}
use Rattle.replay_core.proofs.AwaitedEdges.{passed_sources}
use Rattle.replay_core.proofs.coming.Coming.pass.Goals as goal
use Rattle.replay_core.proofs.coming.Coming.pass.Goals.{then-of-at, else-of-at}

pub loop-of-init : goal.loop-of-init
loop-of-init c = pass_start (log_edges c.args.log.which c.args.log.recording.now) c.args.at c.zero-found.result
    c.args.self.now _ c.zero-found.ensures refl refl

pub pass_core-requires-clause-coming : goal.pass_core-requires-clause-coming
pass_core-requires-clause-coming c =
    pass_known c.args.log.which c.args.log.recording.now c.requires.valid c.args.at c.loop-of.of c.loop-of.found
    c.args.self.now c.loop-of.self c.loop-of.invariant c.requires.coming
    (omega (arith, c.loop-of-test.true)) c.if-of-at.true

pub loop-of-preserved : goal.loop-of-preserved
loop-of-preserved c =
    let which = c.args.log.which in
    let r = c.args.log.recording.now in
    let valid = c.requires.valid in
    let old = c.args.self.now in
    let moved = λ (s t : List ℕ) (k m : Coming) (s_is : s ≡ t)
    (k_is : k ≡ m) (h : PassedTo (log_edges which r) c.args.at (c.loop-of.of + 1) t old m).
    subst (λ (x : List ℕ). PassedTo (log_edges which r) c.args.at (c.loop-of.of + 1) x old k) (sym s_is)
    (subst (λ (x : Coming). PassedTo (log_edges which r) c.args.at (c.loop-of.of + 1) t old x) (sym k_is) h) in
    elim c.if-of-at.branch [
      | then-of-at w ↦
          let e = w.pass_core.ensures in
          moved _ w.pass_core.new.found _ w.pass_core.new.self w.found-is w.self-is
          (pass_more which r valid c.args.at c.loop-of.of c.loop-of.found old c.loop-of.self c.loop-of.invariant
          w.pass_core.new.found w.pass_core.new.self e.source e.next e.source_is e.next_is e.taken e.put)
      | else-of-at w ↦ moved _ c.loop-of.found _ c.loop-of.self w.found-is w.self-is
          (pass_own which r valid c.args.at c.loop-of.of c.loop-of.found old c.loop-of.self c.loop-of.invariant
          w.if-of-at.false)
    ]

pub returns-clause-sources : goal.returns-clause-sources
returns-clause-sources c =
    passed_sources c.args.log.which c.args.log.recording.now c.requires.valid c.args.at c.loop-of.of c.loop-of.found
    c.args.self.now c.loop-of.self
    c.loop-of.invariant (let f = c.loop-of-test.false in omega arith)

pub returns-clause-coming : goal.returns-clause-coming
returns-clause-coming c =
    passed_coming c.args.log.which c.args.log.recording.now c.requires.valid c.args.at c.loop-of.of c.loop-of.found
    c.args.self.now c.loop-of.self
    c.loop-of.invariant (let f = c.loop-of-test.false in omega arith)
