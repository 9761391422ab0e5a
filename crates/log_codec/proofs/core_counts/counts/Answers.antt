use Rattle.std.proofs.Common.{◌≡◌, ◌∙◌, [], List, Ok, ap, drop, length, ℕ}
use Rattle.log_codec.proofs.core_counts.counts.Goals as goal

pub returns : goal.returns
returns c =
    let none : c.from_vec-found.result ≡ [] = c.from_vec-found.ensures ∙ c.in_ok-with_capacity.ensures.items in
    c.in_ok-rest.ensures.read
    ∙ ap (λ (xs : List ℕ). Ok (drop (length xs) c.counts_into.new.found, c.in_ok-rest.rest.now)) none
