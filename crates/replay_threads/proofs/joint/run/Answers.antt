use Rattle.std.proofs.Common.{◌≡◌, ℕ, List, length, get_or, ap, sym, subst, ◌∙◌}
use Rattle.std.proofs.lemmas.Option.{slice_get-get_or}
use Rattle.rv_core.specs.declared.core_state.Core.{Core}
use Rattle.rv_core.proofs.LawLemmas.{start_law}
use Rattle.race_log.specs.declared.recording.Recording.{Recording}
use Rattle.replay_threads.specs.Groups.{Grouped, AreGrouped}
use Rattle.replay_threads.proofs.joint.run.Goals as goal

pub groups_of-requires-clause-order : goal.groups_of-requires-clause-order
groups_of-requires-clause-order g c = λ k x e.
    ap (λ (q : Core). q.id) (c.in_ok-table.ensures.fresh k x e).core ∙ (start_law k g.J.Job.recording.params.limit).0

pub worked-requires-clause-grouped : goal.worked-requires-clause-grouped
worked-requires-clause-grouped g c = λ κs within.
    let groups : List Grouped = c.in_ok-groups.groups.items in
    let total = length g.J.Job.recording.totals in
    let grouped : AreGrouped c.min-count.result total groups = c.in_ok-groups.ensures.grouped in
    let cores : total ≡ c.args.recording.now.params.cores = c.requires.valid.each_core
    ∙ sym (ap (λ (r : Recording). r.params.cores) c.requires.recording) in
    subst (λ (n : ℕ). AreGrouped (length groups) n groups) cores
    (subst (λ (n : ℕ). AreGrouped n total groups) (sym grouped.all) grouped)

pub worked-requires-clause-at : goal.worked-requires-clause-at
worked-requires-clause-at g c = λ κs within.
    let seats = c.in_ok-table.seats.items in
    c.in_ok-groups.ensures.at c.in_ok-table.table
    (λ k d lt. c.in_ok-table.ensures.tables k (get_or seats k d) (slice_get-get_or seats k d lt))
