-- What was accessed so far, newest first, with the clock noted for each, and what a rider has of one word.
use Rattle.std.specs.Prelude.{◌≡◌, ℕ, ◌<◌, ◌≤◌, ◌==◌, true, ◌&&◌, Option, Some, None, List, [], ◌∷◌}
use Rattle.std.specs.Prelude.{if◌then◌else◌}
use Rattle.rtr_types.specs.Accesses.{is_write}
use Rattle.rtr_types.specs.declared.TheConstants.{CORES_MAX}
use Rattle.rtr_types.specs.declared.instr.Instr.{Instr}
use Rattle.rtr_types.specs.declared.access.Access.{Access}
use Rattle.rtr_types.specs.declared.access.Kind.{Kind}
use Rattle.clock_core.specs.declared.clock.Clock.{Clock}
use Rattle.access_times.specs.Times.{newer_read}
use Rattle.msi_protocol.specs.Seats.{FullBlock, PhasesFit, HoldersHave, Found, allows}

-- an access with the clock that was noted for it
pub record NotedAccess : Type 0 where
  pub access : Access
  pub clock : Clock

abbrev pub core_of : NotedAccess → ℕ
core_of n = n.access.at.core

-- the last write of the word after the access, from what it was
abbrev pub write_after : NotedAccess → ℕ → Option (Instr × Clock) → Option (Instr × Clock)
write_after n word old = if (n.access.word == word) && is_write n.access.kind then Some (n.access.at, n.clock) else old

-- a core's last read of the word since its last write, after the access, from what it was
abbrev pub read_after : NotedAccess → ℕ → ℕ → Option (ℕ × Clock) → Option (ℕ × Clock)
read_after n word d old =
    if n.access.word == word
    then (if is_write n.access.kind then None
    else if n.access.at.core == d then Some (n.access.at.count, n.clock) else old)
    else old

abbrev pub last_noted_write : List NotedAccess → ℕ → Option (Instr × Clock)
last_noted_write [] word = None
last_noted_write (n ∷ h) word = write_after n word (last_noted_write h word)

abbrev pub last_noted_read : List NotedAccess → ℕ → ℕ → Option (ℕ × Clock)
last_noted_read [] word d = None
last_noted_read (n ∷ h) word d = read_after n word d (last_noted_read h word d)

-- the count of a read, and 0 for none
abbrev pub rank : Option (ℕ × Clock) → ℕ
rank None = 0
rank (Some r) = r.0

-- a rider as it is for one word: what absorbs, and its parts
pub record WordTimes (X : Type 0) : Type 0 where
  pub absorbed : X → X → X
  pub write : X → Option (Instr × Clock)
  pub read : X → ℕ → Option (ℕ × Clock)

-- one that absorbs another since the same write has each core's newer read
pub record AbsorbsWell {X : Type 0} (t : WordTimes X) : Type 0 where
  pub write : (x y : X) → t.write x ≡ t.write y → t.write (t.absorbed x y) ≡ t.write x
  pub read : (x y : X) (d : ℕ) → d < CORES_MAX → t.write x ≡ t.write y
      → t.read (t.absorbed x y) d ≡ newer_read (t.read x d) (t.read y d)

-- the rider y is x with the access noted, as far as this word goes
pub record HasNoted {X : Type 0} (t : WordTimes X) (n : NotedAccess) (word : ℕ) (x y : X) : Type 0 where
  pub write : t.write y ≡ write_after n word (t.write x)
  pub read : (d : ℕ) → d < CORES_MAX → t.read y d ≡ read_after n word d (t.read x d)

-- the read isn't later than the last, and is the last if it's as late
pub record FitsLast (read last : Option (ℕ × Clock)) : Type 0 where
  pub below : rank read ≤ rank last
  pub same : rank last ≤ rank read → read ≡ last

-- what each holder has of the word: the last write, and no read that isn't of the past
pub record IsPast {X : Type 0} (t : WordTimes X) (h : List NotedAccess) (word : ℕ) (x : X) : Type 0 where
  pub write : t.write x ≡ last_noted_write h word
  pub reads : (d : ℕ) → d < CORES_MAX → FitsLast (t.read x d) (last_noted_read h word d)

abbrev pub read_rank : {X : Type 0} → WordTimes X → ℕ → X → ℕ
read_rank t d x = rank (t.read x d)

-- the block's riders are right for the word after these accesses
pub record Exact {X : Type 0} (t : WordTimes X) (h : List NotedAccess) (word : ℕ) (b : FullBlock X) : Type 0 where
  pub stands : PhasesFit b
  pub holders : HoldersHave (IsPast t h word) b
  pub found : (d : ℕ) → d < CORES_MAX → Found (read_rank t d) (rank (last_noted_read h word d)) d b

-- the rider is exact for an access of the word: it has the last write and, for one that writes, each core's last read
pub record IsExactFor {X : Type 0} (t : WordTimes X) (h : List NotedAccess) (word : ℕ) (kind : Kind)
    (x : X) : Type 0 where
  pub write : t.write x ≡ last_noted_write h word
  pub reads : is_write kind ≡ true → (d : ℕ) → d < CORES_MAX → t.read x d ≡ last_noted_read h word d

-- the access is by core c in a phase that allows it, and is after all of c's before
pub record MayAccess {X : Type 0} (h : List NotedAccess) (word : ℕ) (b : FullBlock X) (n : NotedAccess) : Type 0 where
  pub core : core_of n < CORES_MAX
  pub allowed : allows n.access.kind (b.seats (core_of n)).phase ≡ true
  pub later : rank (last_noted_read h word (core_of n)) < n.access.at.count
