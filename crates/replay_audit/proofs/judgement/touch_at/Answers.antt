use Rattle.std.proofs.Common.{get_or, Some, ap}
use Rattle.std.proofs.lemmas.List.{get_or_default}
use Rattle.rtr_types.specs.declared.access.Kind.TheVariants.{Load}
use Rattle.replay_audit.specs.declared.touch.Touch.{Touch}
use Rattle.replay_audit.proofs.LowJudgement.{none_there, one_at, place_after, place_same}
use Rattle.replay_audit.proofs.judgement.touch_at.Goals as goal

abbrev no_touch : Touch
no_touch = record { at = record { core = 0; count = 0 }; word = 0; kind = Load }

pub returns-then-is_at-clause-found : goal.returns-then-is_at-clause-found
returns-then-is_at-clause-found c =
    let list = c.args.list.now in
    let k = c.args.place.now in
    let at = c.is_at.ensures.at c.if-is_at.true in
    ((k, at.within, get_or_default list k (get_or list k no_touch) no_touch at.within), at.is no_touch)

pub returns-then-is_at-clause-only : goal.returns-then-is_at-clause-only
returns-then-is_at-clause-only c t has e =
    let at = c.is_at.ensures.at c.if-is_at.true in
    ap (λ (x : Touch). Some x)
    (one_at c.args.list.now c.args.place.now c.args.count no_touch t c.requires.rising at.within (at.is no_touch) has e)

pub returns-then-is_at-clause-place : goal.returns-then-is_at-clause-place
returns-then-is_at-clause-place c =
    place_after c.args.list.now c.args.count c.args.place.now c.requires.rising c.requires.place
    (c.is_at.ensures.at c.if-is_at.true)

pub returns-clause-only : goal.returns-clause-only
returns-clause-only c t has e =
    absurd (none_there c.args.list.now c.args.count c.args.place.now no_touch t c.requires.rising c.requires.place
    (c.is_at.ensures.other c.if-is_at.false no_touch) has e)

pub returns-clause-place : goal.returns-clause-place
returns-clause-place c =
    place_same c.args.list.now c.args.count c.args.place.now c.requires.place (c.is_at.ensures.other c.if-is_at.false)
