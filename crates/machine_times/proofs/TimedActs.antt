-- What acts of the memory system make of the times that ride on it: an act that is no access keeps what riders say of
-- the accesses so far, and an access that comes next appends itself.
use Rattle.std.proofs.Common.{◌≡◌, refl, sym, subst, ℕ, ◌<◌, ◌%◌, ◌/◌, Bool, true, false, not, List, ◌∷◌}
use Rattle.std.specs.List.{list_all}
use Rattle.access_times.specs.Riding.{Carrying}
use Rattle.rtr_types.specs.declared.TheConstants.{BLOCK_WORDS}
use Rattle.msi_cache.specs.Lines.{line_for}
use Rattle.msi_memory.specs.declared.port.Port.{Port}
use Rattle.msi_memory.specs.Acts.{Act, Touch, can, can_all, after_act, after_acts}
use Rattle.msi_memory.specs.Memories.{Memory, port_at, rider_at}
use Rattle.msi_protocol.specs.Shown.{Payload}
use Rattle.msi_laws.specs.Holds.{MemoryHolds}
use Rattle.msi_laws.specs.Links.{TouchGives, payload_at, words_left}
use Rattle.msi_laws.proofs.ActsInTurn.{acts_keep}
use Rattle.msi_laws.proofs.LinksKept.{is_touch, links_kept, links_touched}
use Rattle.msi_laws.proofs.PortsKept.{can_of, there_of}
use Rattle.machine_times.specs.History.{NotedAccess, core_of as noted_core, rank, last_noted_read}
use Rattle.machine_times.specs.Retirements.{RiderNotes}
use Rattle.machine_times.specs.StandsFor.{TimesParts, AbsorbsAll, HasTimes, HaveTimes}
use Rattle.machine_times.proofs.Times.{times_kept, times_touched}

module _ {R K : Type 0} where
  -- an act that is no access keeps them
  pub other_times : (parts : TimesParts R) (carrying : Carrying K) → AbsorbsAll parts →
      (h : List NotedAccess) (m : Memory R K) (act : Act R) →
      can parts.riding carrying m act ≡ true → is_touch act ≡ false → MemoryHolds parts.riding carrying m →
      HaveTimes parts carrying h m →
      HaveTimes parts carrying h (after_act parts.riding carrying m act)
  other_times parts carrying well h m act e other holds f =
      links_kept parts.riding carrying (HasTimes parts h) (times_kept parts well h) m act e other holds f

  -- nor do such acts
  pub others_times : (parts : TimesParts R) (carrying : Carrying K) → AbsorbsAll parts →
      (h : List NotedAccess) (m : Memory R K) (todo : List (Act R)) →
      can_all parts.riding carrying m todo ≡ true → list_all (λ act. not (is_touch act)) todo ≡ true →
      MemoryHolds parts.riding carrying m →
      HaveTimes parts carrying h m → HaveTimes parts carrying h (after_acts parts.riding carrying m todo)
  others_times parts carrying well h m todo can_them others holds f =
      acts_keep parts.riding carrying (λ (x : Memory R K). HaveTimes parts carrying h x)
      (λ (act : Act R). not (is_touch act))
      (λ x act can_it other held times. other_times parts carrying well h x act can_it (is_not (is_touch act) other)
      held times) m todo can_them others holds f
    where
      is_not : (t : Bool) → not t ≡ true → t ≡ false
      is_not true e = absurd (cc)
      is_not false e = refl

  -- an access that comes next appends itself
  pub touch_times : (parts : TimesParts R) (carrying : Carrying K) → AbsorbsAll parts →
      (h : List NotedAccess) (m : Memory R K) (c : ℕ) (n : NotedAccess)
      (rider : R) → noted_core n ≡ c → ((w : ℕ) → rank (last_noted_read h w c) < n.access.at.count) →
      RiderNotes parts n (rider_at parts.riding (port_at carrying m.ports c) n.access.word) rider →
      can parts.riding carrying m (Touch c (n.access.word / BLOCK_WORDS)
      (n.access.word % BLOCK_WORDS) n.access.kind n.access.after rider) ≡ true →
      MemoryHolds parts.riding carrying m → HaveTimes parts carrying h m → HaveTimes parts carrying (n ∷ h)
      (after_act parts.riding carrying m (Touch c (n.access.word / BLOCK_WORDS)
      (n.access.word % BLOCK_WORDS) n.access.kind n.access.after rider))
  touch_times parts carrying well h m c n rider core_is later notes e holds f =
      links_touched parts.riding carrying (HasTimes parts h) (HasTimes parts (n ∷ h))
      (times_kept parts well (n ∷ h)) m c block
      (n.access.word % BLOCK_WORDS) n.access.kind n.access.after rider
      (there_of parts.riding carrying m touching e) (can_of parts.riding carrying m touching e) holds gives f
    where
      block : ℕ
      block = n.access.word / BLOCK_WORDS

      touching : Act R
      touching = Touch c block (n.access.word % BLOCK_WORDS) n.access.kind n.access.after rider

      p : Port R K
      p = port_at carrying m.ports c

      old : Payload R
      old = payload_at parts.riding p block

      new : Payload R
      new = record {
        words = words_left n.access.kind (line_for parts.riding.fresh p.cache block).words (n.access.word % BLOCK_WORDS)
            n.access.after;
        rider = rider;
      }

      gives : TouchGives (HasTimes parts h) (HasTimes parts (n ∷ h)) c block n.access.kind old new
      gives = subst (λ (x : ℕ). TouchGives (HasTimes parts h) (HasTimes parts (n ∷ h)) x block n.access.kind old new)
          core_is
          (times_touched parts h n old new
          (λ w. subst (λ (x : ℕ). rank (last_noted_read h w x) < n.access.at.count) (sym core_is) (later w)) notes)
