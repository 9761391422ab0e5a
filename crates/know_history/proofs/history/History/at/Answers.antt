use Rattle.std.proofs.Common.{◌≡◌, ◌≤◌, ◌∙◌, ℕ, List, ap, sym, subst, arith}
use Rattle.std.specs.List.Sorted.{IsNonDecreasingBy}
use Rattle.roomy_lists.specs.Lists.{items_at, items_in}
use Rattle.know_history.specs.declared.changes.Change.{Change}
use Rattle.know_history.specs.Changes.{changes_at, known_by, newest_at}
use Rattle.know_history.specs.Notes.{Notes, known_at, noted_count}
use Rattle.know_history.proofs.OneList.{sorted}
use Rattle.know_history.proofs.HistoryNotes.{core_within, count_is, known_is, list_there}
use Rattle.know_history.proofs.history.History.at.Goals as goal

-- the list that was looked into
list_is : (c : goal.After-list) → c.list.result.now ≡ changes_at (items_in c.self.inside.changes) c.args.core c.args.of
list_is c = c.list.ensures ∙ ap (λ (p : ℕ). items_at c.self.inside.changes p) c.list_place.ensures

pub list-requires : goal.list-requires
list-requires c =
    list_there _ c.self.inside.changes _ c.args.core c.args.of c.list_place.result c.self.invariant
    (ap (λ v. v.notes) c.self.view_is) c.requires.core c.requires.place c.list_place.ensures

pub known_by-requires : goal.known_by-requires
known_by-requires c =
    let within = core_within _ _ _ c.args.core (ap (λ v. v.notes) c.self.view_is) c.requires.core in
    subst (λ (cs : List Change). IsNonDecreasingBy (λ (d : Change). d.count) cs) (sym (list_is c))
    (sorted 0 (newest_at c.self.inside.newest.items c.args.core).count (changes_at (items_in c.self.inside.changes)
    c.args.core c.args.of)
    (c.self.invariant.changes c.args.core c.args.of within c.requires.place).rising)

pub returns : goal.returns
returns c =
    let newest = c.self.inside.newest.items in
    let lists = items_in c.self.inside.changes in
    let is = ap (λ v. v.notes) c.self.view_is in
    let within = core_within newest lists c.args.self.now.notes c.args.core is c.requires.core in
    let count : c.args.count ≤ (newest_at newest c.args.core).count =
    (let a = count_is newest lists c.args.core within in let b = ap (λ (h : Notes). noted_count h c.args.core) is in
    let d = c.requires.noted in omega arith) in
    c.known_by.ensures
    ∙ ap (λ (cs : List Change). known_by 0 cs c.args.count) (c.list.ensures
    ∙ ap (λ (p : ℕ). items_at c.self.inside.changes p) c.list_place.ensures)
    ∙ sym (known_is newest lists c.args.core c.args.count c.args.of c.self.invariant within count c.requires.place)
    ∙ ap (λ (h : Notes). known_at h c.args.core c.args.count c.args.of) is
