use Rattle.std.proofs.Common.{◌≡◌, ◌<◌, ◌∙◌, List, ℕ, ap, subst, sym, take, arith}
use Rattle.std.specs.Prelude.{slice_index, slice_index_or}
use Rattle.race_log.specs.declared.recording.Recording.{Recording}
use Rattle.replay_core.specs.Orders.{counts, nought}
use Rattle.replay_audit.specs.Audits.{Findings}
use Rattle.cut_moves.specs.Rounds.{rounds_of}
use Rattle.cut_moves.specs.Ways.{between}
use Rattle.cut_moves.proofs.Rounds.{rounds_whole}
use Rattle.debug_place.specs.Places.{Placed}
use Rattle.debug_place.proofs.PlaceMoves.{among_between}
use Rattle.debug_place.proofs.place.Place.among.Goals as goal

-- the core's total, which is how often it stands in the timeline
total_is : (c : goal.After-shared_slice_known-1) → slice_index_or c.as_slice.result.now c.args.core 0
    ≡ counts nought c.self.inside.timeline c.args.core
total_is c =
    let a = c.self.inside.audited.now in
    let i = c.self.invariant in
    let core = c.args.core in
    let inside = subst (λ (p : Placed). core < p.recording.params.cores) (sym c.self.view_is) c.requires in
    ap (λ (l : List ℕ). slice_index_or l core 0)
    (c.as_slice.ensures ∙ ap (λ (r : Recording). r.totals)
    (c.recording.ensures.recording ∙ ap (λ (f : Findings). f.recording) (c.audited-audited.ensures.audited ∙ i.index_is)))
    ∙ sym ((rounds_whole a.which a.recording i.valid i.determinate).each core
    (let each = i.valid.each_core in omega arith))
    ∙ sym (ap (λ (l : List ℕ). counts nought l core) i.timeline_is)

pub count_before-requires-clause-most : goal.count_before-requires-clause-most
count_before-requires-clause-most c = let all = total_is c in omega arith

pub returns : goal.returns
returns c =
    let a = c.self.inside.audited.now in
    let core = c.args.core in
    let number = c.args.number in
    let total = slice_index_or c.as_slice.result.now core 0 in
    c.count_before.ensures
    ∙ among_between c.self.inside.timeline number core total
    (sym (total_is c.before))
    ∙ ap (λ (l : List ℕ). counts nought (take number l) core) c.self.invariant.timeline_is
    ∙ ap (λ (p : Placed). counts nought (take number (rounds_of p.which p.recording)) core) c.self.view_is
