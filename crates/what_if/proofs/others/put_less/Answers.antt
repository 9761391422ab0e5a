use Rattle.std.proofs.Common.{◌≡◌, ◌+◌, ◌++◌, sym, ap, ◌∙◌, true≢false, drop}
use Rattle.std.specs.Prelude.{List, ℕ}
use Rattle.what_if.specs.Others.{less}
use Rattle.what_if.proofs.Tries.{less_end, less_kept, less_taken, rest_kept}
use Rattle.what_if.proofs.others.put_less.Goals.{then-not-taken+then-place-core, else-not-taken+in_ok-push}
use Rattle.what_if.proofs.others.put_less.Goals.{else-not-taken-via-then-not-taken+else-place-core}
use Rattle.what_if.proofs.others.put_less.Goals.{else-not-taken-via-else-not-taken}
use Rattle.what_if.proofs.others.put_less.Goals as goal

pub loop-place-preserved : goal.loop-place-preserved
loop-place-preserved c =
    let core = c.args.core in
    let old = c.args.places.now in
    let behind = c.args.behind.now in
    let i = c.loop-place.place-index in
    let here = c.loop-place.places in
    let past = c.loop-place.invariant in
    let inside = c.loop-place-test.true in
    elim c.if-not-taken.branch [
      | then-not-taken+then-place-core w ↦ record {
        before = λ still. absurd (true≢false (sym w.taken-is ∙ still));
        after = λ _.
            ap (λ (l : List ℕ). l ++ drop (i + 1) behind) w.places-is
            ∙ less_taken core old here behind i inside w.if-place-core.true (past.before w.if-not-taken.true);
      }
      | else-not-taken+in_ok-push w ↦ record {
        before = λ still.
            ap (λ (l : List ℕ). l ++ less core (drop (i + 1) behind)) w.places-is
            ∙ elim w.else-not-taken.branch [
              | else-not-taken-via-then-not-taken+else-place-core v ↦
                  less_kept core old here w.push.new.self behind i inside v.if-place-core.false w.in_ok-push.ensures.ok
                  (past.before (sym w.taken-is ∙ still))
              | else-not-taken-via-else-not-taken v ↦
                  absurd (true≢false (sym v.if-not-taken.false ∙ sym w.taken-is ∙ still))
            ];
        after = λ is.
            ap (λ (l : List ℕ). l ++ drop (i + 1) behind) w.places-is
            ∙ rest_kept old here w.push.new.self behind (old ++ less core behind) i inside w.in_ok-push.ensures.ok
            (past.after (sym w.taken-is ∙ is));
      }
    ]

pub returns : goal.returns
returns c =
    less_end c.args.core c.args.places.now c.loop-place.places c.args.behind.now c.loop-place.place-index
    c.loop-place.taken c.loop-place-test.false c.loop-place.invariant.before c.loop-place.invariant.after
