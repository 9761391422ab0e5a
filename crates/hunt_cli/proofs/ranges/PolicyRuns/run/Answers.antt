use Rattle.std.proofs.Common.{ap}
use Rattle.image_mem.specs.Contents.{Contents}
use Rattle.hunt_cli.specs.Kinds.{Kind, image_in, kind_with}
use Rattle.hunt_cli.proofs.RunsSame.{same-picks, same-run}
use Rattle.hunt_cli.proofs.ranges.PolicyRuns.run.Goals as goal

pub numbered-requires-clause-set_up : goal.numbered-requires-clause-set_up
numbered-requires-clause-set_up g c =
    record { fits = c.args.self.now.fits; words = ap (λ (i : Contents). i.words) c.requires }

pub numbered-requires-clause-counts : goal.numbered-requires-clause-counts
numbered-requires-clause-counts g c =
    let kind : Kind = kind_with g.M.HuntedMachine.seen_at g.M.HuntedMachine.changes_at g.M.HuntedMachine.outcome
    g.M.HuntedMachine.most_steps g.M.HuntedMachine.buffers in
    same-picks kind c.args.self.now.params (g.M.SteppedMachine.image c.args.bench)
    (image_in c.args.self.now.params c.args.self.now.bytes.now)
    c.args.self.now.counted.now c.requires c.args.self.now.counts

pub returns : goal.returns
returns g c =
    let kind : Kind = kind_with g.M.HuntedMachine.seen_at g.M.HuntedMachine.changes_at g.M.HuntedMachine.outcome
    g.M.HuntedMachine.most_steps g.M.HuntedMachine.buffers in
    same-run kind c.args.self.now.params (g.M.SteppedMachine.image c.args.bench)
    (image_in c.args.self.now.params c.args.self.now.bytes.now)
    c.numbered-numbered_by.result _ c.in_ok-run.run' c.requires c.numbered-numbered_by.ensures c.in_ok-run.ensures
