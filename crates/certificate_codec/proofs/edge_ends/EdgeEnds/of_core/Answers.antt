use Rattle.std.proofs.Common.{◌≡◌, ◌∙◌, ◌<◌, ap, sym, subst, List, ℕ, length, get_or}
use Rattle.race_log.specs.declared.recording.Recording.{Recording}
use Rattle.certificate_codec.specs.Ends.{HasEnds}
use Rattle.certificate_codec.proofs.EdgeEndLists.{ends_of_one, length-ends_in}
use Rattle.certificate_codec.proofs.edge_ends.EdgeEnds.of_core.Goals as goal

pub bounds-as_slice-core : goal.bounds-as_slice-core
bounds-as_slice-core c =
    let r = c.args.self.now in
    let h : HasEnds r c.self.inside.edges c.self.inside.ends =
    subst (λ (q : Recording). HasEnds q c.self.inside.edges c.self.inside.ends) c.self.view_is c.self.invariant in
    let len : length c.as_slice.result.now ≡ r.params.cores =
    ap (λ (l : List (List ℕ)). length l) (c.as_slice.ensures ∙ h.ends_is) ∙ length-ends_in r in
    subst (λ (n : ℕ). c.args.core < n) (sym len) c.requires

pub returns : goal.returns
returns c =
    let r = c.args.self.now in
    let h : HasEnds r c.self.inside.edges c.self.inside.ends =
    subst (λ (q : Recording). HasEnds q c.self.inside.edges c.self.inside.ends) c.self.view_is c.self.invariant in
    c.as_slice-2.ensures ∙ c.index-as_slice-core.is
    ∙ ap (λ (l : List (List ℕ)). get_or l c.args.core c.index-as_slice-core.result) (c.as_slice.ensures ∙ h.ends_is)
    ∙ ends_of_one r c.args.core c.index-as_slice-core.result c.requires
