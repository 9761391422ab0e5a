-- The phase in which each move leaves each core.
use Rattle.std.specs.Prelude.{ℕ, ◌==◌, Bool, true, false, if◌then◌else◌}
use Rattle.rtr_types.specs.CoreSets.{has, without_core, is_none}
use Rattle.msi_cache.specs.Table.{Ask}
use Rattle.msi_directory.specs.declared.entry.Stage.{Stage}
use Rattle.msi_directory.specs.declared.entry.Stage.TheVariants.{Shared, Owned, Acks}
use Rattle.msi_protocol.specs.Block.{Wish, ToLoad, ToStore, ToEvict}
use Rattle.msi_protocol.specs.Phases.{Role, Acker, Giver, OfShared, OfModified, FromModified, FromShared, FromInvalid}
use Rattle.msi_protocol.specs.Phases.{Phase, Idle, AsksS, AsksM, PutsLate, PutDone, Holds}
use Rattle.msi_protocol.specs.Phases.{Fills, Upgrades, Puts, Owns, FillsM, UpgradeFills, PutsM, HoldsTold, FillsTold}
use Rattle.msi_protocol.specs.Phases.{UpgradesTold, PutsTold, Acked, AckedAsksS, AckedAsksM, AckedPuts, AwaitsAcks}
use Rattle.msi_protocol.specs.Phases.{UpgradeAwaitsAcks, OwnsTold, FillsMTold, UpgradeFillsTold, PutsMTold, GaveHolds}
use Rattle.msi_protocol.specs.Phases.{GaveUpgrades, GavePuts, GaveAll, GaveAllAsksS, GaveAllAsksM, GaveAllPuts}
use Rattle.msi_protocol.specs.Phases.{AwaitsData}

-- the phase of core c after its request was taken
abbrev pub after_own : Stage → ℕ → Phase → Phase
after_own (Owned owner) c AsksS = AwaitsData true
after_own (Owned owner) c AsksM = AwaitsData false
after_own (Shared by) c AsksM = if is_none (without_core by c) then FillsM else AwaitsAcks
after_own (Shared by) c Upgrades = if is_none (without_core by c) then UpgradeFills else UpgradeAwaitsAcks
after_own stage c AsksS = Fills
after_own stage c AsksM = FillsM
after_own stage c (PutsLate p) = PutDone FromInvalid
after_own stage c (Puts p) = PutDone FromShared
after_own stage c PutsM = PutDone FromModified
after_own stage c p = p

-- Inv is sent
abbrev pub invalidated : Phase → Phase
invalidated Holds = HoldsTold
invalidated Fills = FillsTold
invalidated Upgrades = UpgradesTold
invalidated (Puts p) = PutsTold p
invalidated p = p

-- FwdGetS or FwdGetM is sent
abbrev pub forwarded : Bool → Phase → Phase
forwarded s Owns = OwnsTold s
forwarded s FillsM = FillsMTold s
forwarded s UpgradeFills = UpgradeFillsTold s
forwarded s PutsM = PutsMTold s
forwarded s p = p

-- the phase of another core d after a request of core c was taken
abbrev pub after_other : Stage → ℕ → Ask → ℕ → Phase → Phase
after_other (Owned owner) c Ask.GetS d p = if d == owner then forwarded true p else p
after_other (Owned owner) c Ask.GetM d p = if d == owner then forwarded false p else p
after_other (Shared by) c Ask.GetM d p =
    if is_none (without_core by c) then p else if has (without_core by c) d then invalidated p else p
after_other stage c a d p = p

-- the phase of a core after its response was taken
abbrev pub answered : Phase → Phase
answered GaveHolds = Holds
answered GaveUpgrades = Upgrades
answered (GavePuts p) = Puts p
answered GaveAll = Idle
answered GaveAllAsksS = AsksS
answered GaveAllAsksM = AsksM
answered GaveAllPuts = PutsLate OfModified
answered Acked = Idle
answered AckedAsksS = AsksS
answered AckedAsksM = AsksM
answered (AckedPuts p) = PutsLate p
answered p = p

-- BlockData is sent to the one that waits for it
abbrev pub served : Phase → Phase
served AwaitsAcks = FillsM
served UpgradeAwaitsAcks = UpgradeFills
served (AwaitsData true) = Fills
served (AwaitsData false) = FillsM
served p = p

-- the phase of another core after a response of core c was taken
abbrev pub after_others_response : Stage → ℕ → Phase → Phase
after_others_response (Acks awaited requester) c p = if is_none (without_core awaited c) then served p else p
after_others_response stage c p = served p

-- the phase of a core after it took its oldest message
abbrev pub received : Phase → Phase
received Fills = Holds
received FillsM = Owns
received UpgradeFills = Owns
received (PutDone e) = Idle
received HoldsTold = Acked
received FillsTold = HoldsTold
received UpgradesTold = AckedAsksM
received (PutsTold p) = AckedPuts p
received (OwnsTold true) = GaveHolds
received (OwnsTold false) = GaveAll
received (FillsMTold s) = OwnsTold s
received (UpgradeFillsTold s) = OwnsTold s
received (PutsMTold true) = GavePuts OfModified
received (PutsMTold false) = GaveAllPuts
received p = p

-- the phase of a core after it asked for what it wants
abbrev pub wished : Wish → Phase → Phase
wished ToLoad Idle = AsksS
wished ToStore Idle = AsksM
wished ToStore Holds = Upgrades
wished ToEvict Holds = Puts OfShared
wished ToEvict Owns = PutsM
wished ToStore HoldsTold = UpgradesTold
wished ToEvict HoldsTold = PutsTold OfShared
wished ToLoad Acked = AckedAsksS
wished ToStore Acked = AckedAsksM
wished ToEvict (OwnsTold s) = PutsMTold s
wished ToStore GaveHolds = GaveUpgrades
wished ToEvict GaveHolds = GavePuts OfShared
wished ToLoad GaveAll = GaveAllAsksS
wished ToStore GaveAll = GaveAllAsksM
wished w p = p

-- a response or a forwarded message of the core is due before the block is free again
abbrev pub owes : Role → Bool
owes Acker = true
owes (Giver s) = true
owes _ = false
