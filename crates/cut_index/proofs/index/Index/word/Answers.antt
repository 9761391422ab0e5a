use Rattle.std.proofs.Common.{List, [], ◌≡◌, ◌∙◌, ◌<◌, sym, subst, arith}
use Rattle.std.proofs.lemmas.List.{get_or_default}
use Rattle.cut_replay.specs.ClosedCuts.{IsClosed}
use Rattle.replay_audit.specs.Audits.{Findings}
use Rattle.cut_index.specs.declared.writes.Write.{Write}
use Rattle.cut_index.specs.Indexes.{IsWordAt}
use Rattle.cut_index.specs.Writes.{HoldsFirst, writes_in}
use Rattle.cut_index.proofs.Indexed.{word_told}
use Rattle.cut_index.proofs.WritesHeld.{holds_first}
use Rattle.cut_index.proofs.index.Index.word.Goals as goal
use Rattle.cut_index.proofs.index.Index.word.Goals.{After-as_slice}

closed : (c : goal.After-as_slice) → IsClosed c.self.inside.audited.now.which c.self.inside.audited.now.recording
    c.args.cut.now
closed c = subst (λ (f : Findings). IsClosed f.which f.recording c.args.cut.now) (sym c.self.view_is) c.requires.closed

within : (c : goal.After-as_slice) → c.args.word < c.self.inside.audited.now.recording.params.words
within c = subst (λ (f : Findings). c.args.word < f.recording.params.words) (sym c.self.view_is) c.requires.word

its_writes : (c : goal.After-as_slice) → c.as_slice.result.now
    ≡ writes_in c.args.word c.self.inside.audited.now.accesses
its_writes c =
    let lists = c.self.inside.writes.items in
    let all = c.self.invariant.writes_are.all in
    let lt = within c in
    c.as_slice.ensures ∙ c.index.ensures ∙ get_or_default lists c.args.word c.index.result.now [] (omega arith)
    ∙ c.self.invariant.writes_are.each c.args.word lt

pub left_behind-requires : goal.left_behind-requires
left_behind-requires c =
    subst (λ (l : List Write). HoldsFirst c.args.cut.now l) (sym (its_writes c))
    (holds_first c.self.inside.audited.now c.self.invariant.audited c.args.cut.now (closed c) c.args.word)

pub returns : goal.returns
returns c =
    let here = (goal.at.returns c).After-as_slice in
    subst (λ (f : Findings). IsWordAt f c.args.cut.now c.args.word c.left_behind.result) c.self.view_is
    (word_told c.self.inside.audited.now c.self.invariant.audited c.args.cut.now (closed here) c.args.word (within here)
    c.image.result.now c.word-held.result c.left_behind.result c.as_slice.result.now
    (c.image.ensures ∙ c.self.invariant.image_is) c.word-held.ensures.value (its_writes here) c.left_behind.ensures)
