use Rattle.std.proofs.Common.{rules, sym, ap, ◌≡◌, ◌∙◌, ◌<◌, [], drop, length, get_or}
use Rattle.std.proofs.Math.ListN.{drop_of_length-le}
use Rattle.std.proofs.lemmas.List.{get_or_read}
use Rattle.rand_pcg.specs.Pcg.{pcg32}
use Rattle.schedule_pick.specs.Choices.{Choices, choice_at, choices_after}
use Rattle.schedule_pick.proofs.ChoiceLemmas.{first-byte, after-byte, first-word, after-word}
use Rattle.schedule_pick.proofs.schedule.Schedule.next.Goals as goal

pub returns-then-self-len-clause-choice : goal.returns-then-self-len-clause-choice
returns-then-self-len-clause-choice c =
    let s = c.self.inside in
    let some : s.next < length s.bytes.items = search rules in
    let read : c.index-choice.result.now ≡ get_or s.bytes.items s.next 0 =
    get_or_read s.bytes.items s.next _ some c.index-choice.ensures 0 in
    c.into.ensures ∙ read ∙ sym (first-byte s.bytes.items s.next s.words some) ∙ ap (λ v. choice_at v 0) c.self.view_is

pub returns-then-self-len-clause-rest : goal.returns-then-self-len-clause-rest
returns-then-self-len-clause-rest c =
    let s = c.self.inside in
    let some : s.next < length s.bytes.items = search rules in
    after-byte s.bytes.items s.next s.words some ∙ ap choices_after c.self.view_is

pub returns-else-self-len-clause-choice : goal.returns-else-self-len-clause-choice
returns-else-self-len-clause-choice c =
    let s = c.self.inside in
    let none : drop s.next s.bytes.items ≡ [] = drop_of_length-le s.bytes.items {i = s.next} (search rules) in
    let word : c.next_word.result ≡ (pcg32 s.words).0 = ap (λ r. r.0) c.next_word.ensures in
    word ∙ sym (first-word (drop s.next s.bytes.items) s.words none) ∙ ap (λ v. choice_at v 0) c.self.view_is

pub returns-else-self-len-clause-rest : goal.returns-else-self-len-clause-rest
returns-else-self-len-clause-rest c =
    let s = c.self.inside in
    let none : drop s.next s.bytes.items ≡ [] = drop_of_length-le s.bytes.items {i = s.next} (search rules) in
    let words : c.next_word.new.self ≡ (pcg32 s.words).1 = ap (λ r. r.1) c.next_word.ensures in
    let left : Choices = record { bytes = drop s.next s.bytes.items; words = c.next_word.new.self } in
    ap (λ w. record left { words = w }) words ∙ after-word (drop s.next s.bytes.items) s.words none
    ∙ ap choices_after c.self.view_is
