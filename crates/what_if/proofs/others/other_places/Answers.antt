use Rattle.std.proofs.Common.{ℕ, List, ◌++◌, refl, ap, ◌∙◌}
use Rattle.cut_moves.proofs.Hulls.{whole_closed}
use Rattle.what_if.specs.Others.{less}
use Rattle.what_if.proofs.OtherPlaces.{all_places}
use Rattle.what_if.proofs.others.other_places.Goals as goal

pub way-requires-2-clause-closed : goal.way-requires-2-clause-closed
way-requires-2-clause-closed c =
    let a = c.args.audited.now in
    whole_closed a.which a.recording c.whole.result
    c.recording.ensures.valid c.whole.ensures

pub returns : goal.returns
returns c =
    let a = c.args.audited.now in
    all_places a.which a.recording c.recording.ensures.valid
    c.args.cut.now _ c.whole.result c.args.first c.args.cut.now.cores refl c.whole.ensures
    c.in_ok-timeline.timeline c.in_ok-places.places c.in_ok-behind.behind c.push.new.self c.put_less.new.places
    c.in_ok-timeline.ensures.rounds c.in_ok-places.ensures.way c.in_ok-behind.ensures.way c.in_ok-push.ensures.ok
    (c.in_ok-put_less.ensures ∙ ap (λ (l : List ℕ). c.push.new.self ++ less c.args.first l) c.as_slice.ensures)
