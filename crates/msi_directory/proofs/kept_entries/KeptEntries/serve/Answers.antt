use Rattle.msi_cache.specs.Messages.{request_seen}
use Rattle.msi_directory.specs.Deeds.{request_deed}
use Rattle.msi_directory.proofs.KeptEntries.{changed_counted, done_at}
use Rattle.msi_directory.proofs.kept_entries.KeptEntries.serve.Goals as goal

pub invariant_of-self : goal.invariant_of-self
invariant_of-self g c =
    changed_counted c.self.inside.stages c.self.inside.copies.items c.args.place _ _ c.self.invariant

pub returns : goal.returns
returns g c =
    done_at (request_deed g.R.Rider.riding c.args.from (request_seen c.args.request)) c.self.inside.stages
    c.self.inside.copies.items _
    c.self.view_is c.args.place _ _ c.index_mut-stage.ensures.value (rw (← c.self.view_is) at c.requires.copy)
    c.index_mut.ensures.value _ _ _ _ c.serve-answer.ensures.entry c.serve-answer.ensures.answer
    c.is_free-free.ensures
