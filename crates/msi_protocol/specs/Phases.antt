-- Where a core can be with a block, and what the home takes it for. A block is well where each core's
-- view is the picture of a phase in which the core is what the home takes it for.
use Rattle.std.specs.Prelude.{◌≡◌, ◌≢◌, ℕ, ◌<◌, ◌==◌, Bool, true, false, IsTrue, List, [], ◌∷◌, if◌then◌else◌}
use Rattle.rtr_types.specs.declared.TheConstants.{CORES_MAX}
use Rattle.rtr_types.specs.CoreSets.{has, is_below, is_none}
use Rattle.msi_cache.specs.declared.line.State.{State}
use Rattle.msi_cache.specs.declared.line.State.TheVariants.{I, S, M, IsD, ImD, SmD, MiA, SiA, IiA}
use Rattle.msi_cache.specs.Table.{Signal, Ask, Reply}
use Rattle.msi_directory.specs.declared.entry.Stage.{Stage}
use Rattle.msi_directory.specs.declared.entry.Stage.TheVariants.{Unshared, Shared, Owned, Acks, Data}
use Rattle.msi_protocol.specs.Block.{View, view, Block}

-- what the home takes a core for: it has no copy; it shares; it owns; it is to acknowledge that it gave
-- up its copy; it waits for these acknowledgements; it owned and is to give its data, after which it
-- shares or not; it waits for these data, to share or to own
pub data Role : Type 0 where
  Out : Role
  Sharer : Role
  Owner : Role
  Acker : Role
  AckWaiter : Role
  Giver : (share : Bool) → Role
  GiveWaiter : (share : Bool) → Role

-- what a block's stage at home says of core d
abbrev pub role : Stage → ℕ → Role
role Unshared d = Out
role (Shared by) d = if has by d then Sharer else Out
role (Owned owner) d = if d == owner then Owner else Out
role (Acks awaited requester) d = if has awaited d then Acker else if d == requester then AckWaiter else Out
role (Data giver requester share) d =
    if d == giver then Giver share else if d == requester then GiveWaiter share else Out

-- a put of either kind
pub data Put : Type 0 where
  OfShared : Put
  OfModified : Put

abbrev pub put : Put → Ask
put OfShared = Ask.PutS
put OfModified = Ask.PutM

-- the lines that may wait for the end of a put
pub data Evicting : Type 0 where
  FromModified : Evicting
  FromShared : Evicting
  FromInvalid : Evicting

abbrev pub evicting : Evicting → State
evicting FromModified = MiA
evicting FromShared = SiA
evicting FromInvalid = IiA

-- what the home sends an owner for a core that is to share, or to own
abbrev pub forward : Bool → Signal
forward true = Signal.FwdGetS
forward false = Signal.FwdGetM

-- a line that waits for data, to share or to own
abbrev pub filling : Bool → State
filling true = IsD
filling false = ImD

-- where a core can be with the block
pub data Phase : Type 0 where
  -- the home takes it for out
  Idle AsksS AsksM : Phase
  PutsLate : (p : Put) → Phase
  PutDone : (e : Evicting) → Phase
  -- for a sharer
  Holds Fills Upgrades : Phase
  Puts : (p : Put) → Phase
  -- for the owner
  Owns FillsM UpgradeFills PutsM : Phase
  -- for one that is to acknowledge
  HoldsTold FillsTold UpgradesTold : Phase
  PutsTold : (p : Put) → Phase
  Acked AckedAsksS AckedAsksM : Phase
  AckedPuts : (p : Put) → Phase
  -- for the one that waits for these
  AwaitsAcks UpgradeAwaitsAcks : Phase
  -- for the owner that is to give
  OwnsTold FillsMTold UpgradeFillsTold PutsMTold : (share : Bool) → Phase
  GaveHolds GaveUpgrades : Phase
  GavePuts : (p : Put) → Phase
  GaveAll GaveAllAsksS GaveAllAsksM GaveAllPuts : Phase
  -- for the one that waits for it
  AwaitsData : (share : Bool) → Phase

-- what the home takes a core for, the core's line, and what is under way from and to it
pub record Situation : Type 0 where
  pub role : Role
  pub view : View

abbrev pub situation : Role → State → List Ask → List Reply → List Signal → Situation
situation r s q p m = record { role = r; view = view s q p m }

-- each phase, whole
abbrev pub situation_in : Phase → Situation
situation_in Idle = situation Out I [] [] []
situation_in AsksS = situation Out IsD (Ask.GetS ∷ []) [] []
situation_in AsksM = situation Out ImD (Ask.GetM ∷ []) [] []
situation_in (PutsLate p) = situation Out IiA (put p ∷ []) [] []
situation_in (PutDone e) = situation Out (evicting e) [] [] (Signal.PutAck ∷ [])
situation_in Holds = situation Sharer S [] [] []
situation_in Fills = situation Sharer IsD [] [] (Signal.BlockData ∷ [])
situation_in Upgrades = situation Sharer SmD (Ask.GetM ∷ []) [] []
situation_in (Puts p) = situation Sharer SiA (put p ∷ []) [] []
situation_in Owns = situation Owner M [] [] []
situation_in FillsM = situation Owner ImD [] [] (Signal.BlockData ∷ [])
situation_in UpgradeFills = situation Owner SmD [] [] (Signal.BlockData ∷ [])
situation_in PutsM = situation Owner MiA (Ask.PutM ∷ []) [] []
situation_in HoldsTold = situation Acker S [] [] (Signal.Inv ∷ [])
situation_in FillsTold = situation Acker IsD [] [] (Signal.BlockData ∷ Signal.Inv ∷ [])
situation_in UpgradesTold = situation Acker SmD (Ask.GetM ∷ []) [] (Signal.Inv ∷ [])
situation_in (PutsTold p) = situation Acker SiA (put p ∷ []) [] (Signal.Inv ∷ [])
situation_in Acked = situation Acker I [] (Reply.InvAck ∷ []) []
situation_in AckedAsksS = situation Acker IsD (Ask.GetS ∷ []) (Reply.InvAck ∷ []) []
situation_in AckedAsksM = situation Acker ImD (Ask.GetM ∷ []) (Reply.InvAck ∷ []) []
situation_in (AckedPuts p) = situation Acker IiA (put p ∷ []) (Reply.InvAck ∷ []) []
situation_in AwaitsAcks = situation AckWaiter ImD [] [] []
situation_in UpgradeAwaitsAcks = situation AckWaiter SmD [] [] []
situation_in (OwnsTold s) = situation (Giver s) M [] [] (forward s ∷ [])
situation_in (FillsMTold s) = situation (Giver s) ImD [] [] (Signal.BlockData ∷ forward s ∷ [])
situation_in (UpgradeFillsTold s) = situation (Giver s) SmD [] [] (Signal.BlockData ∷ forward s ∷ [])
situation_in (PutsMTold s) = situation (Giver s) MiA (Ask.PutM ∷ []) [] (forward s ∷ [])
situation_in GaveHolds = situation (Giver true) S [] (Reply.OwnerData ∷ []) []
situation_in GaveUpgrades = situation (Giver true) SmD (Ask.GetM ∷ []) (Reply.OwnerData ∷ []) []
situation_in (GavePuts p) = situation (Giver true) SiA (put p ∷ []) (Reply.OwnerData ∷ []) []
situation_in GaveAll = situation (Giver false) I [] (Reply.OwnerData ∷ []) []
situation_in GaveAllAsksS = situation (Giver false) IsD (Ask.GetS ∷ []) (Reply.OwnerData ∷ []) []
situation_in GaveAllAsksM = situation (Giver false) ImD (Ask.GetM ∷ []) (Reply.OwnerData ∷ []) []
situation_in GaveAllPuts = situation (Giver false) IiA (Ask.PutM ∷ []) (Reply.OwnerData ∷ []) []
situation_in (AwaitsData s) = situation (GiveWaiter s) (filling s) [] [] []

-- the core's line and what is under way
abbrev pub picture : Phase → View
picture p = (situation_in p).view

-- what the home takes the core for
abbrev pub role_in : Phase → Role
role_in p = (situation_in p).role

-- core d is where the home takes it to be
pub record Stands (stage : Stage) (d : ℕ) (v : View) : Type 0 where
  pub phase : Phase
  pub role_is : role_in phase ≡ role stage d
  pub view_is : picture phase ≡ v

-- the cores that a stage names exist, a set that it keeps isn't empty, and nobody waits for himself
abbrev pub StageFits : Stage → Type 0
StageFits Unshared = Unit {0}
StageFits (Shared by) = (is_none by ≡ false) × IsTrue (is_below by)
StageFits (Owned owner) = owner < CORES_MAX
StageFits (Acks awaited requester) =
    (has awaited requester ≡ false) × (requester < CORES_MAX) × (is_none awaited ≡ false) × IsTrue (is_below awaited)
StageFits (Data giver requester share) = (giver ≢ requester) × (requester < CORES_MAX) × (giver < CORES_MAX)

-- the invariant of a block
pub record BlockHolds (b : Block) : Type 0 where
  pub fits : StageFits b.stage
  pub stands : (d : ℕ) → d < CORES_MAX → Stands b.stage d (b.views d)
