-- Asks that are looked for one after the other, by what stands behind their first bytes.
use Rattle.std.proofs.Common.{◌≡◌, ℕ, List, Bor, Option, None, Some, refl, ap, ◌∙◌}
use Rattle.std.specs.Option.{option_or}
use Rattle.gdb_packets.specs.declared.asks.Plain.{Plain}

-- a reader reads as its contract says
pub read_by : {A : Type 0} (reads : List ℕ → Option A) (text : List ℕ) (argument : Option A) →
    (p : Bor (List ℕ)) × (argument ≡ reads p.now) × (p.now ≡ text) → argument ≡ reads text
read_by reads text argument gives = gives.1 ∙ ap reads gives.2

-- one of two, or else what more says
pub or_on : (front a b more a_is b_is more_is : Option Plain) → front ≡ option_or a b → a ≡ a_is → b ≡ b_is →
    more ≡ more_is → option_or front more ≡ option_or a_is (option_or b_is more_is)
or_on front a b more a_is b_is more_is both first second last =
    ap (option_or front) last
    ∙ ap (λ (o : Option Plain). option_or o more_is)
    (both ∙ ap (λ (o : Option Plain). option_or o b) first ∙ ap (option_or a_is) second)
    ∙ by a_is
  where
    by : (a : Option Plain) → option_or (option_or a b_is) more_is ≡ option_or a (option_or b_is more_is)
    by None = refl
    by (Some x) = refl
