use Rattle.std.proofs.Common.{◌∙◌}
use Rattle.tso_core.proofs.Heads.{granted_standing}
use Rattle.tso_core.proofs.parts.Parts.grant.Goals as goal

pub returns-in-Head-clause-renewed : goal.returns-in-Head-clause-renewed
returns-in-Head-clause-renewed g c =
    c.requires.stands ∙ granted_standing g.R.Rider.riding g.K.Carry.carrying c.args.self.now.state
    c.order_granted.new.self.state c.args.c
    c.order_granted.ensures.done.state c.requires.there.core
