use Rattle.std.proofs.Common.{◌∙◌, ℕ, ap, arith, length}
use Rattle.std.proofs.lemmas.List.{get_or_default}
use Rattle.roomy_lists.specs.Lists.{items_at, items_in}
use Rattle.know_history.specs.declared.history.Newest.{Newest}
use Rattle.know_history.specs.Changes.{no_newest}
use Rattle.know_history.specs.Notes.{Notes, change_count}
use Rattle.know_history.proofs.HistoryNotes.{changes_are, changes_few, core_within, list_there}
use Rattle.know_history.proofs.history.History.changes.Goals as goal

pub list-changes-requires : goal.list-changes-requires
list-changes-requires c =
    list_there _ c.self.inside.changes _ c.args.core c.args.of c.list_place.result c.self.invariant
    (ap (λ v. v.notes) c.self.view_is) c.requires.core c.requires.place c.list_place.ensures

pub index-requires : goal.index-requires
index-requires c =
    let within = core_within _ _ _ c.args.core (ap (λ v. v.notes) c.self.view_is) c.requires.core in
    omega arith

pub prove-unreachable-requires : goal.prove-unreachable-requires
prove-unreachable-requires c =
    let newest = c.self.inside.newest.items in
    let within = core_within newest (items_in c.self.inside.changes) c.args.self.now.notes c.args.core
    (ap (λ v. v.notes) c.self.view_is) c.requires.core in
    let few = changes_few newest (items_in c.self.inside.changes) c.args.core c.args.of c.self.invariant within
    c.requires.place in
    let long = ap length (c.list-changes.ensures
    ∙ ap (λ (p : ℕ). items_at c.self.inside.changes p) c.list_place.ensures) in
    let count = ap (λ (n : Newest). n.count) (c.index.ensures ∙ get_or_default newest c.args.core c.index.result.now
    no_newest within) in
    let more = c.if-prove.true in
    omega arith

pub returns : goal.returns
returns c =
    let is = ap (λ v. v.notes) c.self.view_is in
    let within = core_within c.self.inside.newest.items (items_in c.self.inside.changes) c.args.self.now.notes
    c.args.core is c.requires.core in
    ap length (c.list-changes.ensures ∙ ap (λ (p : ℕ). items_at c.self.inside.changes p) c.list_place.ensures)
    ∙ changes_are c.self.inside.newest.items (items_in c.self.inside.changes) c.args.core c.args.of c.self.invariant
    within c.requires.place
    ∙ ap (λ (h : Notes). change_count h c.args.core c.args.of) is
