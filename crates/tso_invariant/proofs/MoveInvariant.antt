-- Each enabled move keeps the invariant. What a core does leaves other ports' waits as they are (`may_change`), so it
-- is enough that its own core is well afterwards: that is said once for each kind of move by `Turned`.
use Rattle.std.proofs.Common.{◌≡◌, ◌∙◌, refl, sym, ap, subst, ℕ, ◌<◌, ◌==◌, Bool, true, false, not, nat_lt, ◌&&◌, List}
use Rattle.std.proofs.Common.{[], ◌∷◌, length, arith}
use Rattle.std.specs.Prelude.{slice_set}
use Rattle.std.proofs.lemmas.Bool.{and_parts, ltb-true}
use Rattle.std.proofs.lemmas.Bool.Decides.{nat_tests}
use Rattle.std.proofs.lemmas.List.{length-set, get_or-set_same, get_or-set_other}
use Rattle.access_times.specs.Riding.{Riding, Carrying}
use Rattle.msi_memory.specs.Acts.{Act, TakeRequest, TakeResponse, TakeMessage, can, can_all, port_of}
use Rattle.msi_memory.specs.Memories.{port_at}
use Rattle.msi_laws.specs.Holds.{MemoryHolds}
use Rattle.msi_laws.proofs.PortsKept.{there_of}
use Rattle.msi_laws.proofs.ActsInTurn.{acts_hold, home_after_acts, ports_after_acts}
use Rattle.tso_state.specs.declared.moves.Move.{Move}
use Rattle.tso_state.specs.declared.moves.Move.TheVariants.{Core as CoreMove, Order as OrderMove}
use Rattle.tso_state.specs.declared.moves.Move.TheVariants.{Request as RequestMove, Response as ResponseMove}
use Rattle.tso_state.specs.declared.moves.Move.TheVariants.{FromHome as MessageMove}
use Rattle.tso_state.specs.Moves.{core_of}
use Rattle.tso_state.specs.States.{State, BufferedCore, buffered_start, core_at}
use Rattle.tso_state.specs.Steps.{acts, can_execute, can_order, cores_after, core_left, enabled, step}
use Rattle.tso_invariant.specs.Holds.{BufferedHolds, TsoHolds}
use Rattle.msi_laws.proofs.PortWaits.{may_change}
use Rattle.tso_invariant.proofs.ToldAtPorts.{Turned, port_kept, well_kept}
use Rattle.tso_invariant.proofs.CoreMoves.{core_turn, order_turn, message_turn}

set_elsewhere : (cores : List BufferedCore) (c d : ℕ) (t : BufferedCore) → (d == c) ≡ false →
    core_at (slice_set cores c t) d ≡ core_at cores d
set_elsewhere cores c d t other = get_or-set_other cores c d t (buffered_start 0 0)
    (λ (same : d ≡ c). absurd (grind (arith, nat_tests)))

module _ {R K : Type 0} where
  -- ---- an enabled move

  pub core_can : (riding : Riding R) (carrying : Carrying K) (s : State R K) (c : ℕ) →
      enabled riding carrying s (CoreMove c) ≡ true →
      (c < length s.cores) × (can_execute s.image riding (core_at s.cores c) (port_at carrying s.memory.ports c) ≡ true)
  core_can riding carrying s c e =
      let parts = and_parts (nat_lt c (length s.cores))
      (can_execute s.image riding (core_at s.cores c) (port_at carrying s.memory.ports c)) e in
      (ltb-true c (length s.cores) parts.0, parts.1)

  pub order_can : (riding : Riding R) (carrying : Carrying K) (s : State R K) (c : ℕ) →
      enabled riding carrying s (OrderMove c) ≡ true →
      (c < length s.cores) × (can_order (core_at s.cores c).queue riding (port_at carrying s.memory.ports c) ≡ true)
  order_can riding carrying s c e =
      let parts = and_parts (nat_lt c (length s.cores))
      (can_order (core_at s.cores c).queue riding (port_at carrying s.memory.ports c)) e in
      (ltb-true c (length s.cores) parts.0, parts.1)

  -- an act that can be done is at the port of one of the machine's cores
  core_acting : (riding : Riding R) (carrying : Carrying K) (s : State R K) (act : Act R) →
      can riding carrying s.memory act ≡ true → TsoHolds riding carrying s → port_of act < length s.cores
  core_acting riding carrying s act e h =
      subst (λ (n : ℕ). port_of act < n) h.ports_there (there_of riding carrying s.memory act e)

  -- so its core is one of them
  pub enabled_core : (riding : Riding R) (carrying : Carrying K) (s : State R K) (m : Move) →
      enabled riding carrying s m ≡ true →
      TsoHolds riding carrying s → core_of m < length s.cores
  enabled_core riding carrying s (CoreMove c) e h = (core_can riding carrying s c e).0
  enabled_core riding carrying s (OrderMove c) e h = (order_can riding carrying s c e).0
  enabled_core riding carrying s (RequestMove c) e h = core_acting riding carrying s (TakeRequest c) e h
  enabled_core riding carrying s (ResponseMove c) e h = core_acting riding carrying s (TakeResponse c) e h
  enabled_core riding carrying s (MessageMove c) e h = core_acting riding carrying s (TakeMessage c) e h

  -- and has a port
  pub core_port : (riding : Riding R) (carrying : Carrying K) (s : State R K) (c : ℕ) → TsoHolds riding carrying s →
      c < length s.cores →
      c < length s.memory.ports
  core_port riding carrying s c h within = subst (λ (n : ℕ). c < n) (sym h.ports_there) within

  -- ---- what it does

  -- the home's turn leaves the core as it is
  home_turn : (riding : Riding R) (carrying : Carrying K) (s : State R K) (c : ℕ) (act : Act R) →
      TsoHolds riding carrying s → c < length s.cores →
      can riding carrying s.memory act ≡ true → ((d : ℕ) → may_change act d ≡ false) →
      Turned s.image riding carrying s.memory c (act ∷ []) (core_at s.cores c)
  home_turn riding carrying s c act h within can_it changes =
      record {
        can = rw can_it refl;
        apart = λ d other. ap (λ (b : Bool). not b && true) (changes d);
        holds = well_kept s.image riding carrying s.memory act c (core_at s.cores c) h.memory can_it (changes c)
            (core_port riding carrying s c h within)
            (h.cores c within);
      }

  -- what the move does at its core can be done, and leaves the core well
  pub move_turn : (riding : Riding R) (carrying : Carrying K) (rider : R) (s : State R K) (m : Move) →
      enabled riding carrying s m ≡ true →
      TsoHolds riding carrying s →
      Turned s.image riding carrying s.memory (core_of m) (acts riding carrying rider s m)
      (core_left riding carrying s m)
  move_turn riding carrying rider s (CoreMove c) e h =
      let w = core_can riding carrying s c e in
      core_turn s.image riding carrying rider s.memory c (core_at s.cores c) h.memory
      (core_port riding carrying s c h w.0) h.blocks_there (h.cores c w.0) w.1
  move_turn riding carrying rider s (OrderMove c) e h =
      let w = order_can riding carrying s c e in
      order_turn s.image riding carrying rider s.memory c (core_at s.cores c) h.memory
      (core_port riding carrying s c h w.0) h.blocks_there (h.cores c w.0) w.1
  move_turn riding carrying rider s (RequestMove c) e h =
      home_turn riding carrying s c (TakeRequest c) h (enabled_core riding carrying s (RequestMove c) e h) e (λ d. refl)
  move_turn riding carrying rider s (ResponseMove c) e h =
      home_turn riding carrying s c (TakeResponse c) h
      (enabled_core riding carrying s (ResponseMove c) e h) e (λ d. refl)
  move_turn riding carrying rider s (MessageMove c) e h =
      let within = enabled_core riding carrying s (MessageMove c) e h in
      message_turn s.image riding carrying rider s.memory c (core_at s.cores c) h.memory
      (core_port riding carrying s c h within) e (h.cores c within)

  pub acts_can : (riding : Riding R) (carrying : Carrying K) (s : State R K) (m : Move) (rider : R) →
      enabled riding carrying s m ≡ true →
      TsoHolds riding carrying s → can_all riding carrying s.memory (acts riding carrying rider s m) ≡ true
  acts_can riding carrying s m rider e h = (move_turn riding carrying rider s m e h).can

  -- ---- the state after it

  pub memory_after : (riding : Riding R) (carrying : Carrying K) (s : State R K) (m : Move) (rider : R) →
      enabled riding carrying s m ≡ true →
      TsoHolds riding carrying s → MemoryHolds riding carrying (step riding carrying rider s m).memory
  memory_after riding carrying s m rider e h =
      acts_hold riding carrying s.memory (acts riding carrying rider s m)
      (acts_can riding carrying s m rider e h) h.memory

  pub step_cores : (riding : Riding R) (carrying : Carrying K) (rider : R) (s : State R K) (m : Move) →
      length (step riding carrying rider s m).cores ≡ length s.cores
  step_cores riding carrying rider s (CoreMove c) = length-set s.cores c _
  step_cores riding carrying rider s (OrderMove c) = length-set s.cores c _
  step_cores riding carrying rider s (RequestMove c) = refl
  step_cores riding carrying rider s (ResponseMove c) = refl
  step_cores riding carrying rider s (MessageMove c) = length-set s.cores c _

  -- the core whose move it is
  pub core_there : (riding : Riding R) (carrying : Carrying K) (s : State R K) (m : Move) → core_of m < length s.cores →
      core_at (cores_after riding carrying s m) (core_of m) ≡ core_left riding carrying s m
  core_there riding carrying s (CoreMove c) within =
      get_or-set_same s.cores c (core_left riding carrying s (CoreMove c)) (buffered_start 0 0) within
  core_there riding carrying s (OrderMove c) within =
      get_or-set_same s.cores c (core_left riding carrying s (OrderMove c)) (buffered_start 0 0) within
  core_there riding carrying s (RequestMove c) within = refl
  core_there riding carrying s (ResponseMove c) within = refl
  core_there riding carrying s (MessageMove c) within =
      get_or-set_same s.cores c (core_left riding carrying s (MessageMove c)) (buffered_start 0 0) within

  -- every other one stays
  pub core_elsewhere : (riding : Riding R) (carrying : Carrying K) (s : State R K) (m : Move) (d : ℕ) →
      (d == core_of m) ≡ false →
      core_at (cores_after riding carrying s m) d ≡ core_at s.cores d
  core_elsewhere riding carrying s (CoreMove c) d other =
      set_elsewhere s.cores c d (core_left riding carrying s (CoreMove c)) other
  core_elsewhere riding carrying s (OrderMove c) d other =
      set_elsewhere s.cores c d (core_left riding carrying s (OrderMove c)) other
  core_elsewhere riding carrying s (RequestMove c) d other = refl
  core_elsewhere riding carrying s (ResponseMove c) d other = refl
  core_elsewhere riding carrying s (MessageMove c) d other =
      set_elsewhere s.cores c d (core_left riding carrying s (MessageMove c)) other

  cores_kept : (riding : Riding R) (carrying : Carrying K) (s : State R K) (m : Move) (rider : R) →
      enabled riding carrying s m ≡ true →
      TsoHolds riding carrying s → (d : ℕ) → d < length s.cores →
      BufferedHolds s.image riding d (core_at (cores_after riding carrying s m) d)
      (port_at carrying (step riding carrying rider s m).memory.ports d)
  cores_kept riding carrying s m rider e h d within = by_core (d == core_of m) refl
    where
      turn : Turned s.image riding carrying s.memory (core_of m) (acts riding carrying rider s m)
          (core_left riding carrying s m)
      turn = move_turn riding carrying rider s m e h

      by_core : (t : Bool) → (d == core_of m) ≡ t →
          BufferedHolds s.image riding d (core_at (cores_after riding carrying s m) d)
          (port_at carrying (step riding carrying rider s m).memory.ports d)
      by_core true f =
          let same : core_of m ≡ d = grind (arith, nat_tests) in
          subst (λ (x : ℕ). BufferedHolds s.image riding x (core_at (cores_after riding carrying s m) x)
          (port_at carrying (step riding carrying rider s m).memory.ports x)) same
          (subst (λ (t : BufferedCore). BufferedHolds s.image riding (core_of m) t
          (port_at carrying (step riding carrying rider s m).memory.ports (core_of m)))
          (sym (core_there riding carrying s m (enabled_core riding carrying s m e h))) turn.holds)
      by_core false f =
          subst (λ (t : BufferedCore). BufferedHolds s.image riding d t
          (port_at carrying (step riding carrying rider s m).memory.ports d))
          (sym (core_elsewhere riding carrying s m d f))
          (port_kept s.image riding carrying s.memory (acts riding carrying rider s m) d (core_at s.cores d) h.memory
          turn.can (turn.apart d f)
          (core_port riding carrying s d h within) (h.cores d within))

  -- an enabled move keeps the invariant, whatever rider the clerk leaves
  pub holds_kept : (riding : Riding R) (carrying : Carrying K) (s : State R K) (m : Move) (rider : R) →
      enabled riding carrying s m ≡ true →
      TsoHolds riding carrying s → TsoHolds riding carrying (step riding carrying rider s m)
  holds_kept riding carrying s m rider e h =
      record {
        memory = memory_after riding carrying s m rider e h;
        ports_there = ports_after_acts riding carrying s.memory (acts riding carrying rider s m)
            ∙ (h.ports_there ∙ sym (step_cores riding carrying rider s m));
        blocks_there = home_after_acts riding carrying s.memory (acts riding carrying rider s m) ∙ h.blocks_there;
        cores = λ d within. cores_kept riding carrying s m rider e h d
            (subst (λ (n : ℕ). d < n) (step_cores riding carrying rider s m) within);
      }
