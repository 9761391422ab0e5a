use Rattle.std.proofs.Common.{ℕ, Bool, true, false, Some, refl}
use Rattle.std.specs.Prelude.{if◌then◌else◌}
use Rattle.access_times.specs.Riding.{Riding}
use Rattle.msi_cache.specs.declared.messages.FromHome.{FromHome}
use Rattle.msi_cache.specs.declared.messages.Request.{Request}
use Rattle.msi_directory.specs.Deeds.{IsDoneTo, request_deed}
use Rattle.msi_directory.specs.Kept.{entry_of}
use Rattle.msi_directory.specs.declared.entry.Stage.TheVariants.{Data, Owned}
use Rattle.msi_directory.specs.declared.home_copies.HomeCopy.{HomeCopy}
use Rattle.rtr_types.specs.CoreSets.{no_cores}
use Rattle.msi_directory.proofs.home_copies.HomeCopy.get.Goals as goal

-- the owner is asked for its copy, whatever the core wants it for
owner_asked : {R : Type 0} (riding : Riding R) (from block owner : ℕ) (copy : HomeCopy R) (hand : R) (share : Bool) →
    IsDoneTo (request_deed riding from (if share then Request.GetS block else Request.GetM block))
    (entry_of (Owned owner) copy) (entry_of (Data owner from share) copy) hand (record {
      invalidate = no_cores;
      send = Some (owner, if share then FromHome.FwdGetS block else FromHome.FwdGetM block);
    })
owner_asked riding from block owner copy hand true = record { entry = refl; answer = refl }
owner_asked riding from block owner copy hand false = record { entry = refl; answer = refl }

pub returns-in-Owned : goal.returns-in-Owned
returns-in-Owned g c =
    rw (c.in-Owned.is, c.ask_owner.ensures.stage, c.ask_owner.ensures.answer)
    (owner_asked g.R.Rider.riding c.args.about.from c.args.about.block c.in-Owned.owner c.args.self.now c.args.hand.now
    c.args.share)
