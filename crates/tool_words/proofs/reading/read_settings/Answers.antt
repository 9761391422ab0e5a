use Rattle.std.proofs.Common.{string_bytes, refl, arith, sym, ap, ◌∙◌, subst, Some}
use Rattle.std.proofs.lemmas.Result.{err_from_is_err_and}
use Rattle.tool_words.specs.Faults.{IsOpen}
use Rattle.tool_words.specs.Options.{no_settings}
use Rattle.tool_words.specs.Settings.{Settings}
use Rattle.tool_words.proofs.FaultLemmas.{more-set, none-open, stops-so}
use Rattle.tool_words.proofs.ReadingLemmas.{settled_by-none}
use Rattle.tool_words.proofs.reading.read_settings.Goals as goal

pub loop-next-init : goal.loop-next-init
loop-next-init c = record {
  within = omega arith;
  set = settled_by-none c.args.verb no_settings _ refl ∙ ap (λ (s : Settings). Some s) (sym c.none-settings.ensures);
  may_go_on = let P : Settings → Type 0 = λ s. IsOpen s in subst P (sym c.none-settings.ensures) none-open;
}

pub returns-in_err-more-clause-err : goal.returns-in_err-more-clause-err
returns-in_err-more-clause-err c =
    let at = c.in_err-more.ensures.err in
    let p = err_from_is_err_and c.from_residual.result c.from_residual.ensures.1 in
    rw (p.1, p.2)
    (stops-so string_bytes c.args.words.now _ _ _ _ _ _ c.loop-next.invariant.within c.loop-next.invariant.set
    c.loop-next.invariant.may_go_on at.1 at.2)

pub loop-next-preserved : goal.loop-next-preserved
loop-next-preserved c =
    let at = c.in_ok-more.ensures.ok in
    let more = more-set string_bytes c.args.words.now _ _ _ _ _ _ c.loop-next.invariant.within
    c.loop-next.invariant.set at.1 at.2 in
    record { within = more.0; set = more.1; may_go_on = more.2 }
