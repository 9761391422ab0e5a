use Rattle.std.proofs.Common.{ℕ, List, length, sym, subst}
use Rattle.replay_table.specs.Seats.{Sitting}
use Rattle.replay_threads.specs.Groups.{Grouped, AllAt, AllDone, AreAt, AreGrouped, AreKept}
use Rattle.replay_threads.proofs.DealtWorkers.{all_groups, kept_grouped, written}
use Rattle.replay_threads.proofs.joint.worked.Goals as goal
use Rattle.replay_threads.proofs.joint.worked.Given.{Over}
use Rattle.replay_threads.proofs.joint.worked.Goals.{After-rounds}

pub rounds-requires-after_bounds : goal.rounds-requires-after_bounds
rounds-requires-after_bounds g c = λ κs within.
    let t = c.args.table.now in
    all_groups (λ (l : List Sitting). AllAt t l) c.as_mut_slice.result.now
    (subst (λ (l : List Grouped). AreAt t l) (sym c.as_mut_slice.ensures.value) c.requires.at)

-- what the rounds keep of the groups
kept : (g : Over) (c : After-rounds g) → AreKept c.args.table.now c.args.groups.items c.rounds.new.groups
kept g c = subst (λ (l : List Grouped). AreKept c.args.table.now l c.rounds.new.groups) c.as_mut_slice.ensures.value
    c.rounds.ensures.kept

pub seats_of-requires-clause-grouped : goal.seats_of-requires-clause-grouped
seats_of-requires-clause-grouped g c =
    let t = c.args.table.now in
    let old : List Grouped = c.args.groups.items in
    let new : List Grouped = c.rounds.new.groups in
    let k = kept g (goal.at.seats_of-requires-clause-grouped g c).After-rounds in
    let w = written c.args.groups.len new old k.all c.args.groups.ok.0 in
    let grouped : AreGrouped (length old) c.args.cores new = kept_grouped t (length old) c.args.cores old new
    c.requires.grouped k in
    subst (λ (l : List Grouped). AreGrouped (length l) c.args.cores l) (sym w)
    (subst (λ (n : ℕ). AreGrouped n c.args.cores new) (sym grouped.all) grouped)

pub seats_of-requires-clause-done : goal.seats_of-requires-clause-done
seats_of-requires-clause-done g c =
    let k = kept g (goal.at.seats_of-requires-clause-done g c).After-rounds in
    subst (λ (l : List Grouped). AllDone g.J.Job.recording l)
    (sym (written c.args.groups.len c.rounds.new.groups c.args.groups.items k.all c.args.groups.ok.0))
    (c.in_ok-rounds.ensures.ended c.if-not-branch.false)

pub returns-clause-seats : goal.returns-clause-seats
returns-clause-seats g c =
    let t = c.args.table.now in
    let k = kept g (goal.at.returns-clause-seats g c).After-rounds in
    let w = written c.args.groups.len c.rounds.new.groups c.args.groups.items k.all c.args.groups.ok.0 in
    c.in_ok-seats.ensures t (subst (λ (l : List Grouped). AreAt t l) (sym w) k.at)
