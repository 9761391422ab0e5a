use Rattle.std.proofs.Common.{◌≡◌, ◌<◌, ◌+◌, ◌++◌, ◌∙◌, List, ℕ, [], length, get_or, refl, sym, subst, arith}
use Rattle.std.proofs.lemmas.List.{get_or_default}
use Rattle.rtr_types.specs.Turns.{count_up}
use Rattle.log_codec.specs.Turns.{alike}
use Rattle.log_codec.proofs.InTurn.{puts_on, puts_done}
use Rattle.race_log.proofs.InTurn.{stand-places}
use Rattle.tso_codec.specs.Spelling.{values_text, all_values_text}
use Rattle.tso_codec.specs.Validity.{AreValuesOf}
use Rattle.tso_codec.proofs.writing.put_all_values.Goals as goal

pub loop-core-init : goal.loop-core-init
loop-core-init c = refl

pub put_values-requires : goal.put_values-requires
put_values-requires c =
    let core = c.loop-core.core in
    let same = c.as_slice.ensures ∙ c.index-values-core.is
    ∙ get_or_default c.args.values.now core c.index-values-core.result [] c.loop-core-test.true in
    let none : 0 + core ≡ core = omega arith in
    subst (λ (vs : List (ℕ × ℕ)). AreValuesOf c.args.totals.now core vs) (sym same)
    (subst (λ (k : ℕ). AreValuesOf c.args.totals.now k (get_or c.args.values.now core [])) none
    (stand-places (AreValuesOf c.args.totals.now) 0 c.args.values.now c.requires.values core [] c.loop-core-test.true))

pub loop-core-preserved : goal.loop-core-preserved
loop-core-preserved c =
    let core = c.loop-core.core in
    let item = c.index-values-core.result in
    let is : c.put_values.new.out.items ≡ c.loop-core.out.items ++ values_text (get_or c.args.values.now core item) =
    rw (← c.index-values-core.is, ← c.as_slice.ensures) c.in_ok-put_values.ensures in
    puts_on (alike values_text) count_up c.loop-core.out.items c.put_values.new.out.items
    (c.args.out.now.items ++ all_values_text c.args.values.now) core c.args.values.now core item c.loop-core-test.true
    is c.loop-core.invariant

pub returns : goal.returns
returns c = puts_done (alike values_text) count_up c.loop-core.out.items
    (c.args.out.now.items ++ all_values_text c.args.values.now) c.loop-core.core c.args.values.now c.loop-core.core
    c.loop-core-test.false c.loop-core.invariant
