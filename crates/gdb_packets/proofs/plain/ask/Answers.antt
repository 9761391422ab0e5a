-- The argument is what the reader reads behind the bytes, and what is asked is what the maker makes of it.
use Rattle.std.proofs.Common.{◌≡◌, List, ℕ, Option, None, Some, refl, ap, ◌∙◌}
use Rattle.std.specs.Prelude.{MatchOption}
use Rattle.std.specs.Option.{option_map}
use Rattle.std.proofs.lemmas.Fn.{gave_at}
use Rattle.gdb_packets.specs.declared.asks.Plain.{Plain}
use Rattle.gdb_packets.specs.declared.asks.Plain.TheVariants as plain
use Rattle.gdb_packets.specs.Asks.{made}
use Rattle.gdb_packets.proofs.plain.ask.Goals as goal

made_by : {A : Type 0} (Made : A → Type 0) (makes : A → Plain) (asked : Plain) →
    ((x : A) → Made x → asked ≡ makes x) → (argument : Option A) →
    MatchOption argument (asked ≡ plain.Malformed) Made → asked ≡ made makes argument
made_by Made makes asked is None malformed = malformed
made_by Made makes asked is (Some x) gives = is x gives

asked_of : {A : Type 0} (reads : List ℕ → Option A) (makes : A → Plain) (text : List ℕ) (behind : Option (List ℕ))
    (asked : Plain) → Some text ≡ behind → asked ≡ made makes (reads text) →
    Some asked ≡ option_map (λ rest. made makes (reads rest)) behind
asked_of reads makes text behind asked there is =
    ap (λ (p : Plain). Some p) is ∙ ap (option_map (λ (rest : List ℕ). made makes (reads rest))) there

pub returns : goal.returns
returns g c reads makes is_read is_made =
    let text = c.in_ok-text.text.now in
    let read_is = is_read text c.read.result (gave_at g.R.FnOnce c.read.ensures refl) in
    asked_of reads makes text _ c.map_or.result c.in_ok-text.ensures
    (made_by _ makes c.map_or.result (λ x gives. is_made x c.map_or.result gives) c.read.result c.map_or.ensures
    ∙ ap (made makes) read_is)
