use Rattle.std.proofs.Common.{ap, refl, arith}
use Rattle.roomy_lists.specs.Lists.{items_in}
use Rattle.know_history.proofs.Places.{length-items}
use Rattle.know_history.proofs.HistoryNotes.{core_within, holds_more, is_noted_as, one_more}
use Rattle.know_history.proofs.history.History.note.Goals as goal

pub index_mut-newest-requires : goal.index_mut-newest-requires
index_mut-newest-requires c =
    let within = core_within c.self.inside.newest.items (items_in c.self.inside.changes) c.args.self.now.notes
    c.args.at.core
    (ap (λ v. v.notes) c.self.view_is) c.requires.core in
    omega arith

pub put_down-requires-clause-lists : goal.put_down-requires-clause-lists
put_down-requires-clause-lists c =
    let within = core_within c.self.inside.newest.items (items_in c.self.inside.changes) c.args.self.now.notes
    c.args.at.core
    (ap (λ v. v.notes) c.self.view_is) c.requires.core in
    let places = c.self.invariant.places in
    let long = length-items c.self.inside.changes in
    omega arith

pub invariant_of-self : goal.invariant_of-self
invariant_of-self c =
    let newest = c.self.inside.newest.items in
    let lists = items_in c.self.inside.changes in
    let new = items_in c.put_down.new.changes in
    holds_more c.args.at c.args.known.now newest lists _ new
    (one_more c.args.at c.args.known.now newest lists new c.args.self.now.notes c.index_mut-newest.result.now
    c.args.known.now.counts c.put_down.new.newest
    (ap (λ v. v.notes) c.self.view_is) c.self.invariant c.requires.core c.requires.next
    c.put_down.ensures.places refl c.index_mut-newest.ensures.value c.put_down.ensures.changed)

pub returns : goal.returns
returns c =
    let newest = c.self.inside.newest.items in
    let lists = items_in c.self.inside.changes in
    let new = items_in c.put_down.new.changes in
    is_noted_as c.args.at c.args.known.now newest lists _ new c.args.self.now.notes (ap (λ v. v.notes) c.self.view_is)
    (one_more c.args.at c.args.known.now newest lists new c.args.self.now.notes c.index_mut-newest.result.now
    c.args.known.now.counts c.put_down.new.newest
    (ap (λ v. v.notes) c.self.view_is) c.self.invariant c.requires.core c.requires.next
    c.put_down.ensures.places refl c.index_mut-newest.ensures.value c.put_down.ensures.changed)
