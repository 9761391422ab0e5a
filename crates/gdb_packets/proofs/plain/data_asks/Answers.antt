-- Each head has its row, with an argument of its own.
use Rattle.std.proofs.Common.{◌≡◌, ℕ, List, Option, None, Some, ap, ◌∙◌, Bor}
use Rattle.std.specs.Prelude.{MatchOption}
use Rattle.std.specs.Option.{option_map, IsSomeAnd}
use Rattle.gdb_packets.specs.declared.asks.Plain.{Plain}
use Rattle.gdb_packets.specs.declared.asks.Plain.TheVariants as plain
use Rattle.gdb_packets.specs.Asks.{part_ask, span_of}
use Rattle.gdb_packets.specs.Numbers.{number_of}
use Rattle.gdb_packets.proofs.AskLemmas.{or_on, read_by}
use Rattle.gdb_packets.proofs.plain.data_asks.Goals as goal

mapped : (f : List ℕ → Plain) (Gives : Bor (List ℕ) → Plain → Type 0) →
    ((x : Bor (List ℕ)) (r : Plain) → Gives x r → r ≡ f x.now) →
    (from : Option (Bor (List ℕ))) (to : Option Plain) → MatchOption from (to ≡ None) (λ x. IsSomeAnd to (Gives x)) →
    to ≡ option_map f (option_map (λ x. x.now) from)
mapped f Gives is None to e = e
mapped f Gives is (Some x) (Some r) e = ap (λ (p : Plain). Some p) (is x r e)
mapped f Gives is (Some x) None e = absurd e

pub returns : goal.returns
returns c =
    let register = c.ask.ensures number_of plain.Register (read_by number_of) (λ number asked gives. gives) in
    let memory = c.ask-2.ensures span_of plain.Memory (read_by span_of) (λ span asked gives. gives) in
    let part = mapped part_ask _ (λ x r gives. gives) c.behind.result c.map.result c.map.ensures.cases in
    c.or-2.ensures
    ∙ or_on _ _ _ _ _ _ _ c.or.ensures register memory (part ∙ ap (option_map part_ask) c.behind.ensures)
