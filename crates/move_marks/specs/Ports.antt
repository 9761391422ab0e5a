-- Which marks at the ports fit: those of what the home can take there, and the cores' caches from home.
use Rattle.std.specs.Prelude.{◌≡◌, ◌≢◌, ◌≤◌, ℕ, Bool, false, List, length}
use Rattle.access_times.specs.Riding.{Riding, Carrying}
use Rattle.rtr_types.specs.CoreSets.{has}
use Rattle.msi_memory.specs.Acts.{Act, TakeMessage, TakeRequest, TakeResponse, after_act, can}
use Rattle.msi_memory.specs.Memories.{Memory, System}
use Rattle.msi_memory.specs.Rests.{OthersRoomy}
use Rattle.move_marks.specs.declared.marks.MoveKind.TheVariants.{Own, Request, Response, FromHome}
use Rattle.move_marks.specs.declared.marks.MoveMarks.{MoveMarks}
use Rattle.move_marks.specs.Kinds.{set_of}

module _ {R K : Type 0} where
  -- exactly the acts that can be made at the ports are marked
  pub record PortsMarked (riding : Riding R) (carrying : Carrying K) (m : Memory R K) (marks : MoveMarks) : Type 0 where
    pub requests : (d : ℕ) → has (set_of Request marks) d ≡ can riding carrying m (TakeRequest d)
    pub responses : (d : ℕ) → has (set_of Response marks) d ≡ can riding carrying m (TakeResponse d)
    pub messages : (d : ℕ) → has (set_of FromHome marks) d ≡ can riding carrying m (TakeMessage d)

  -- the act was made, and the marks at the ports went with it
  pub record MarksFollowed (riding : Riding R) (carrying : Carrying K) (old new : System R K) (act : Act R)
      (were are : MoveMarks) : Type 0 where
    pub memory : new.memory ≡ after_act riding carrying old.memory act
    pub rooms : new.rooms ≡ old.rooms
    pub marked : PortsMarked riding carrying new.memory are
    pub own : (c : ℕ) → has (set_of Own are) c ≡ has (set_of Own were) c

  -- so they are but perhaps for one core's oldest request, about whose block the home wasn't asked yet
  pub record PortsMarkedBut (riding : Riding R) (carrying : Carrying K) (m : Memory R K) (marks : MoveMarks) (late : ℕ)
      : Type 0 where
    pub requests : (d : ℕ) → d ≢ late → has (set_of Request marks) d ≡ can riding carrying m (TakeRequest d)
    pub responses : (d : ℕ) → has (set_of Response marks) d ≡ can riding carrying m (TakeResponse d)
    pub messages : (d : ℕ) → has (set_of FromHome marks) d ≡ can riding carrying m (TakeMessage d)

  -- what is noted of so many ports fits: their marks and the one late core, for whose oldest request neither is noted
  -- whether it can be taken nor is there room for sure; where no core has that number, none is marked
  pub record PortsNoted (riding : Riding R) (carrying : Carrying K) (m : Memory R K) (rooms : List Bool) (cores : ℕ)
      (marks : MoveMarks) (late : ℕ) : Type 0 where
    pub long : cores ≡ length m.ports
    pub marked : PortsMarkedBut riding carrying m marks late
    pub past : length m.ports ≤ late → has (set_of Request marks) late ≡ false
    pub roomy : OthersRoomy m.ports late rooms
