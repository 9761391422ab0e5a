use Rattle.std.proofs.Common.{◌≡◌, ◌<◌, ◌∷◌, ◌+◌, ◌∙◌, ap, arith, rules, drop, get_or, length}
use Rattle.std.proofs.lemmas.List.{drop_more}
use Rattle.gdb_transcripts.proofs.player.Player.hears.Goals as goal

pub returns-then-eq : goal.returns-then-eq
returns-then-eq c _ =
    let told = c.self.inside.told in
    let heard = c.self.inside.heard in
    let next = c.index-told-self.result in
    let within : heard < length told = grind arith in
    let same : c.as_slice.result.now ≡ c.args.payload.now = search rules in
    let first : get_or told heard next ≡ c.args.payload.now = grind arith in
    let left : drop heard told ≡ c.args.payload.now ∷ drop (heard + 1) told =
    drop_more told heard next within ∙ ap (λ it. it ∷ drop (heard + 1) told) first in
    grind arith
