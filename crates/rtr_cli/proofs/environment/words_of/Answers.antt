use Rattle.std.proofs.Common.{◌≡◌, Global, String, length, refl}
use Rattle.std.specs.Iterator.Adapters.{skip_source}
use Rattle.std.specs.Vec.Iter.{into_iter_items, into_iter_len, into_iter_steps}
use Rattle.std.proofs.lemmas.Iterator.{YieldsList, items_from_collect}
use Rattle.std.proofs.lemmas.Iterator.Adapters.{YieldsList-from_skip, YieldsList-from_vec}
use Rattle.rtr_cli.proofs.environment.words_of.Goals as goal

pub returns-in-Ok-collect-clause-words : goal.returns-in-Ok-collect-clause-words
returns-in-Ok-collect-clause-words c =
    let all = c.in-Ok.all in
    let len : into_iter_len all ≡ length (into_iter_items all) = all.rest.ok.0 in
    let source : YieldsList (into_iter_steps {X = String Global} {Z = Global}) (λ y. y) all (into_iter_items all) =
    YieldsList-from_vec (into_iter_items all) refl len in
    let skipped : YieldsList (into_iter_steps {X = String Global} {Z = Global}) (λ y. y) (skip_source c.skip.result)
    (into_iter_items all) = rw c.skip.ensures.source source in
    let done = items_from_collect c.collect.result c.collect.ensures.ran
    (YieldsList-from_skip {ys = into_iter_items all} 1 skipped c.skip.ensures.count) in
    rw c.in-Ok.is (rw c.in-Ok-collect.is at done)
