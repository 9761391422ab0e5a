use Rattle.std.proofs.Common.{◌≡◌, List, Some, sym, ap, subst}
use Rattle.std.specs.Prelude.{Option}
use Rattle.std.specs.List.{Contains}
use Rattle.rtr_types.specs.declared.access.Access.{Access}
use Rattle.replay_audit.specs.declared.touch.Touch.{Touch}
use Rattle.replay_audit.specs.Touches.{as_access}
use Rattle.replay_audit.proofs.LowJudgement.{own_list}
use Rattle.replay_audit.proofs.judgement.access_at.Goals as goal

pub returns-in-Some-clause-only : goal.returns-in-Some-clause-only
returns-in-Some-clause-only c t h e =
    let own = own_list c.args.touched.now c.index-touched-at.result c.as_slice.result.now c.args.at.core c.requires.core
    c.index-touched-at.is c.as_slice.ensures in
    let u = c.in-Some.ensures.only t (subst (λ (l : List Touch). Contains l t) (sym own) h) e in
    let same : c.in-Some.touch ≡ t = cc in
    ap (λ (x : Touch). let o : Option Access = Some (as_access x) in o) same

pub returns-in-None-clause-only : goal.returns-in-None-clause-only
returns-in-None-clause-only c t h e =
    let own = own_list c.args.touched.now c.index-touched-at.result c.as_slice.result.now c.args.at.core c.requires.core
    c.index-touched-at.is c.as_slice.ensures in
    let u = c.in-None.ensures.only t (subst (λ (l : List Touch). Contains l t) (sym own) h) e in
    absurd (cc)
