use Rattle.std.proofs.Common.{◌∙◌, List, None, ap, sym, subst}
use Rattle.rtr_types.specs.declared.access.Access.{Access}
use Rattle.min_certificate.specs.Conflicting.{IsAccessAt, IsPlaceOf, place_in}
use Rattle.min_certificate.proofs.AccessPlaces.{access_got, access_none, placed_in}
use Rattle.min_certificate.proofs.core_accesses.CoreAccesses.find.Goals as goal

pub returns-then-place-eq0 : goal.returns-then-place-eq0
returns-then-place-eq0 c =
    let list = c.self.inside.accesses.now in
    let there : IsPlaceOf list c.args.at c.place_in-place.result =
    subst (λ k. IsPlaceOf list c.args.at k)
    (sym (c.place_in-place.ensures ∙ ap (λ l. place_in l c.args.at.core c.args.at.count) c.deref.ensures.value))
    (placed_in list c.self.inside.places.items c.args.at c.self.invariant) in
    subst (λ (l : List Access). IsAccessAt l c.args.at None) c.self.view_is
    (access_none list c.args.at c.place_in-place.result there c.if-place-eq0.true)

pub returns : goal.returns
returns c =
    let list = c.self.inside.accesses.now in
    let there : IsPlaceOf list c.args.at c.place_in-place.result =
    subst (λ k. IsPlaceOf list c.args.at k)
    (sym (c.place_in-place.ensures ∙ ap (λ l. place_in l c.args.at.core c.args.at.count) c.deref.ensures.value))
    (placed_in list c.self.inside.places.items c.args.at c.self.invariant) in
    subst (λ (l : List Access). IsAccessAt l c.args.at c.access_at.result) c.self.view_is
    (access_got list c.args.at c.place_in-place.result c.access_at.result there c.if-place-eq0.false
    c.access_at.ensures)
