use Rattle.std.proofs.Common.{◌≡◌, Global, map, string_bytes, sym, ap, ◌∙◌}
use Rattle.rtr_cli.specs.Joints.{command_of}
use Rattle.rtr_cli.proofs.JointLemmas.{answers_asked, closed_asked, complete_asked, fits_some, never_usage}
use Rattle.rtr_cli.proofs.JointLemmas.{taken_asked, usage_asked}
use Rattle.rtr_cli.proofs.tool.run_tool.Goals as goal

-- what words mean fits
pub by-requires : goal.by-requires
by-requires g c = fits_some c.in-Ok.meant (map (string_bytes {Z = Global}) c.args.words.now) c.in-Ok.ensures.value
    c.what_words_mean_fits.ensures

pub returns-in-Some-clause-usage : goal.returns-in-Some-clause-usage
returns-in-Some-clause-usage g c =
    usage_asked c.in-Ok.meant _ c.in-Some.asked c.perform_joint-ended.result.exit _ _ _ _ c.in-Ok.ensures.value
    (sym c.by.ensures.asked ∙ c.in-Some.is) c.perform_joint-ended.ensures.answered

pub returns-in-Some-clause-untouched : goal.returns-in-Some-clause-untouched
returns-in-Some-clause-untouched g c = λ e.
    absurd (never_usage (command_of c.in-Some.asked) c.perform_joint-ended.result.exit _ _ _ _
    c.perform_joint-ended.ensures.answered e)

pub returns-in-Some-clause-answered : goal.returns-in-Some-clause-answered
returns-in-Some-clause-answered g c =
    answers_asked c.in-Ok.meant _ c.in-Some.asked c.perform_joint-ended.result.exit _ _ _ _ c.in-Ok.ensures.value
    (sym c.by.ensures.asked ∙ c.in-Some.is) c.perform_joint-ended.ensures.answered

pub returns-in-Some-clause-untaken : goal.returns-in-Some-clause-untaken
returns-in-Some-clause-untaken g c = λ command is none.
    absurd (taken_asked c.in-Ok.meant _ c.in-Some.asked command c.in-Ok.ensures.value
    (sym c.by.ensures.asked ∙ c.in-Some.is) is none)

pub returns-in-Some-clause-complete : goal.returns-in-Some-clause-complete
returns-in-Some-clause-complete g c =
    complete_asked c.in-Ok.meant _ c.in-Some.asked c.perform_joint-ended.result.exit _ _ _ _ _ c.in-Ok.ensures.value
    (sym c.by.ensures.asked ∙ c.in-Some.is) c.perform_joint-ended.ensures.complete

pub returns-in-Some-clause-closed : goal.returns-in-Some-clause-closed
returns-in-Some-clause-closed g c =
    closed_asked c.in-Ok.meant _ c.in-Some.asked c.perform_joint-ended.result.exit c.perform_joint-ended.result.joint
    _ _ _ _ c.in-Ok.ensures.value
    (sym c.by.ensures.asked ∙ c.in-Some.is) c.perform_joint-ended.ensures.closed
