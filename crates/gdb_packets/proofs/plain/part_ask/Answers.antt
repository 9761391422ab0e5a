-- The two documents that there are have their rows, and any other part is told by its form.
use Rattle.std.proofs.Common.{◌≡◌, Bool, List, ℕ, Option, None, sym, ap, ◌∙◌, cond}
use Rattle.std.specs.Prelude.{codes, is_some, unwrap_or}
use Rattle.std.specs.Option.{option_map, option_or}
use Rattle.gdb_packets.specs.declared.asks.Plain.{Plain}
use Rattle.gdb_packets.specs.declared.asks.Plain.TheVariants as plain
use Rattle.gdb_packets.specs.Asks.{made, other_span, part_ask, span_of}
use Rattle.gdb_packets.specs.Texts.{behind}
use Rattle.gdb_packets.proofs.AskLemmas.{read_by}
use Rattle.gdb_packets.proofs.plain.part_ask.Goals as goal
use Rattle.gdb_packets.proofs.plain.part_ask.Goals.{After-or-known}

abbrev known_part : List ℕ → Option Plain
known_part text =
    option_or
    (option_map (λ span. made plain.TargetPart (span_of span)) (behind text (codes "features:read:target.xml:")))
    (option_map (λ span. made plain.ThreadsPart (span_of span)) (behind text (codes "threads:read::")))

known_is : (c : After-or-known) → c.or-known.result ≡ known_part c.args.text.now
known_is c =
    let target = c.ask.ensures span_of plain.TargetPart (read_by span_of) (λ span asked gives. gives) in
    let threads = c.ask-2.ensures span_of plain.ThreadsPart (read_by span_of) (λ span asked gives. gives) in
    c.or-known.ensures
    ∙ ap (λ (o : Option Plain). option_or o c.ask-2.result) target
    ∙ ap (option_or (option_map (λ span. made plain.TargetPart (span_of span))
    (behind c.args.text.now (codes "features:read:target.xml:")))) threads

part_is : (text : List ℕ) (known : Option Plain) → known_part text ≡ known →
    part_ask text ≡ unwrap_or known (cond (is_some (other_span text)) plain.OtherPart plain.Malformed)
part_is text known is =
    ap (λ (o : Option Plain). unwrap_or o (cond (is_some (other_span text)) plain.OtherPart plain.Malformed)) is

pub returns-in-Some : goal.returns-in-Some
returns-in-Some c =
    sym (part_is c.args.text.now _ (sym (known_is (goal.at.returns-in-Some c).After-or-known) ∙ c.in-Some.is))

by_form : (text : List ℕ) (b : Bool) → is_some (other_span text) ≡ b → known_part text ≡ None →
    cond b plain.OtherPart plain.Malformed ≡ part_ask text
by_form text b is none =
    sym (part_is text _ none ∙ ap (λ (b : Bool). cond b plain.OtherPart plain.Malformed) is)

pub returns-in-None : goal.returns-in-None
returns-in-None c =
    by_form c.args.text.now _ (sym c.is_part.ensures ∙ c.if-is_part.true)
    (sym (known_is (goal.at.returns-in-None c).After-or-known) ∙ c.in-None.is)

pub returns-in-None-2 : goal.returns-in-None-2
returns-in-None-2 c =
    by_form c.args.text.now _ (sym c.is_part.ensures ∙ c.if-is_part.false)
    (sym (known_is (goal.at.returns-in-None-2 c).After-or-known) ∙ c.in-None.is)
