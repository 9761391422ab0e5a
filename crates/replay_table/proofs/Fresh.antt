-- A table whose cores have executed nothing: the order that stands is empty, so the memory is the opening one, and no
-- core has published anything.
use Rattle.std.proofs.Common.{◌≡◌, ℕ, ◌+◌, ◌<◌, List, [], ◌∷◌, length, sym, refl, ap, ◌∙◌, arith}
use Rattle.std.proofs.lemmas.List.FromFn.{length-map-range_with_len}
use Rattle.std.specs.Prelude.{slice_index}
use native.Mathlib.Decide.{dec_lt}
use Rattle.image_mem.specs.Contents.{opening_word}
use Rattle.replay_core.specs.Plans.{Plan}
use Rattle.replay_core.specs.Play.{played}
use Rattle.replay_core.specs.Orders.{bump, counts, nought, IsReplayOrder}
use Rattle.replay_core.proofs.Counts.{bump_here, counts_more}
use Rattle.replay_table.specs.Laws.{OpeningLaw, FreshLaw}
use Rattle.replay_table.proofs.FirstView.{first_rule}
use Rattle.replay_table.proofs.Words.{beyond}

pub opening_law : OpeningLaw
opening_law p words recorded opens = first_rule p words [] recorded opens

-- an order that has no place of any core is empty
empty-order : (p : Plan) (order : List ℕ) → IsReplayOrder p order
    → ((c : ℕ) → c < length p.totals → counts nought order c ≡ 0) → order ≡ []
empty-order p [] ordered none = refl
empty-order p (c ∷ rest) ordered none =
    let here = bump_here nought c in
    let more = counts_more (bump nought c) rest c in
    let zero : counts (bump nought c) rest c ≡ 0 = none c ordered.0.inside in
    absurd (omega arith)

pub fresh_law : FreshLaw
fresh_law p s h idle =
    let st = h.order.1 in
    let all = length-map-range_with_len (opening_word p.image) 0 p.image.words in
    let none : h.order.0 ≡ [] = empty-order p h.order.0 st.ordered
    (λ c lt. let o = h.one c lt in
    ap (λ (i : ℕ). counts nought h.order.0 i) (sym o.4) ∙ (st.cores o.0 o.1 o.2 o.3).count ∙ idle o.0 o.1 o.2 o.3) in
    record {
      wide = let w = h.wide in omega arith;
      fits = h.fits;
      memory_is = λ w lt. st.memory w (omega arith) ∙ ap (λ (l : List ℕ). slice_index (played p l).words w) none;
      done = λ i. ap (λ (n : ℕ). slice_index s.words (n + i)) all ∙ elim (dec_lt i (length p.totals)) [
        | yes lt ↦
            let o = h.one i lt in
            let d = h.done o.0 o.1 o.2 o.3 in
            let e : slice_index s.words (p.image.words + i) ≡ o.2.published
            = ap (λ (c : ℕ). slice_index s.words (p.image.words + c)) (sym o.4) ∙ d.0 in
            let most = d.1 in
            let zero = idle o.0 o.1 o.2 o.3 in
            omega arith
        | no n ↦ let w = h.wide in beyond s.words (p.image.words + i) (omega arith)
      ];
    }
