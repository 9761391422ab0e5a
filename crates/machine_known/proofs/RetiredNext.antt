-- What retires in a move is the next instruction of the core whose event it is.
use Rattle.std.proofs.Common.{◌≡◌, ◌≢◌, ◌∙◌, ap, refl, sym, subst, ℕ, suc, ◌+◌, ◌<◌, ◌==◌, ◌⊎◌, inl, inr, true, false}
use Rattle.std.proofs.Common.{IsTrue, Option, Some, None}
use Rattle.std.proofs.Common.{length, arith}
use Rattle.std.proofs.lemmas.Bool.{cases_eq}
use Rattle.std.proofs.lemmas.Bool.Decides.{nat_tests}
use Rattle.access_times.specs.Riding.{Riding, Carrying}
use Rattle.rtr_types.specs.declared.instr.Instr.{Instr}
use Rattle.rv_core.specs.declared.core_state.Core.{Core}
use Rattle.know_history.specs.Happenings.{Actor, AtCore, Happening}
use Rattle.know_history.specs.Knowing.{IsOrderly, carry_left, carry_retired, carry_taken, is_of, retired_in}
use Rattle.know_history.proofs.LastSteps.{none_some}
use Rattle.msi_memory.specs.Memories.{port_at}
use Rattle.msi_state.specs.declared.moves.Move.{Move}
use Rattle.msi_state.specs.declared.moves.Move.TheVariants.{Core as CoreMove, Request as RequestMove}
use Rattle.msi_state.specs.declared.moves.Move.TheVariants.{Response as ResponseMove, FromHome as MessageMove}
use Rattle.msi_state.specs.Events.{instr_of, next_instr}
use Rattle.msi_state.specs.Moves.{core_of}
use Rattle.msi_state.specs.States.{State, core_at}
use Rattle.msi_state.specs.Steps.{carry_told, enabled, event, retiring, step}
use Rattle.machine_plain.specs.Plain.{plain}
use Rattle.machine_plain.proofs.ForgetfulSteps as forgetting
use Rattle.machine_known.specs.Events.{actor_of, carries_of, happening_of, own_carry, taken_from}
use Rattle.machine_known.specs.Known.{CountsRetired, PortsThere}
use Rattle.machine_invariant.proofs.StepFrame.{core_elsewhere, core_there, step_cores, step_ports}
use Rattle.machine_known.proofs.CarryActs.{CoreCounts, event_counts, retired_next, taken_carry}
use Rattle.machine_known.proofs.CarryMoves.{at_port}

-- a state before and after a move at core c
pub record StateCounts {R K : Type 0} (o : Option Instr) (c : ℕ) (s t : State R K) : Type 0 where
  pub long : length t.cores ≡ length s.cores
  pub here : CoreCounts o (core_at s.cores c) (core_at t.cores c)
  pub there : (d : ℕ) → d ≢ c → core_at t.cores d ≡ core_at s.cores d

module _ {R K : Type 0} where
  -- the move's core is there
  pub at_core : (riding : Riding R) (carrying : Carrying K) (s : State R K) (m : Move) →
      IsTrue (enabled riding carrying s m) → PortsThere s →
      core_of m < length s.cores
  at_core riding carrying s m e ports = subst (λ (n : ℕ). core_of m < n) ports (at_port riding carrying s m e ports)

  pub state_counts : (riding : Riding R) (carrying : Carrying K) (s : State R K) (m : Move) (rider : R) →
      core_of m < length s.cores →
      StateCounts (instr_of (event riding carrying s m)) (core_of m) s (step riding carrying rider s m)
  state_counts riding carrying s m rider lc =
      record {
        long = step_cores riding carrying rider s m;
        here = subst (λ (core : Core). CoreCounts (instr_of (event riding carrying s m)) (core_at s.cores (core_of m))
            core)
            (sym (core_there s.image (core_of m) (event riding carrying s m) s.cores lc))
            (event_counts riding carrying s m);
        there = λ d apart. core_elsewhere s.image (core_of m) (event riding carrying s m) s.cores d
            (other d (core_of m) apart);
      }
    where
      other : (d c : ℕ) → d ≢ c → (d == c) ≡ false
      other d c apart = grind (arith, nat_tests)

  -- each core has a port after a move too
  pub ports_stay : (riding : Riding R) (carrying : Carrying K) (rider : R) (s : State R K) (m : Move) → PortsThere s →
      PortsThere (step riding carrying rider s m)
  ports_stay riding carrying rider s m ports =
      step_ports riding carrying rider s m ∙ (ports ∙ sym (step_cores riding carrying rider s m))

  own_event : (riding : Riding R) (carrying : Carrying K) (s : State R K) (m : Move) (x : Instr) →
      instr_of (event riding carrying s m) ≡ Some x →
      actor_of m ≡ AtCore (core_of m)
  own_event riding carrying s (CoreMove c) x is = refl
  own_event riding carrying s (RequestMove c) x is = none_some None x refl is
  own_event riding carrying s (ResponseMove c) x is = none_some None x refl is
  own_event riding carrying s (MessageMove c) x is = refl

  pub orderly_step : (riding : Riding R) (carrying : Carrying K) (event_at : ℕ → Happening) (t : ℕ) (s : State R K)
      (m : Move) →
      IsTrue (enabled riding carrying s m) → event_at t ≡ happening_of (plain s) m → CountsRetired event_at t s →
      IsOrderly event_at t
  orderly_step riding carrying event_at t s m e is h x retires =
      record {
        core = (let few = h.few in let lt = lc in let f : x.core ≡ core_of m = core in omega arith);
        own = ap (λ (p : Happening). p.actor) is
            ∙ (ap (λ (a : Actor). Some a) (own_event riding carrying s m x told)
            ∙ ap (λ (c : ℕ). Some (AtCore c)) (sym core));
        count = ap (λ (i : Instr). i.count) (sym next)
            ∙ (ap (λ (n : ℕ). n + 1) (h.counts (core_of m) lc)
            ∙ ap (λ (c : ℕ). retired_in event_at t c + 1) (sym core));
      }
    where
      lc : core_of m < length s.cores
      lc = at_core riding carrying s m e h.ports

      told : instr_of (event riding carrying s m) ≡ Some x
      told = ap instr_of (forgetting.plain_event riding carrying s m) ∙ (sym (ap (λ (p : Happening). p.retires) is)
          ∙ retires)

      next : next_instr (core_at s.cores (core_of m)) ≡ x
      next = retired_next riding carrying s m x told

      core : x.core ≡ core_of m
      core = ap (λ (i : Instr). i.core) (sym next) ∙ h.numbers (core_of m) lc

  pub counts_step : (riding : Riding R) (carrying : Carrying K) (event_at : ℕ → Happening) (t : ℕ) (state : State R K)
      (move : Move) (rider : R) →
      IsTrue (enabled riding carrying state move) → event_at t ≡ happening_of (plain state) move →
      CountsRetired event_at t state →
      CountsRetired event_at (suc t) (step riding carrying rider state move)
  counts_step riding carrying event_at t state move rider can is stands =
      record {
        ports = ports_stay riding carrying rider state move stands.ports;
        few = rw moved.long stands.few;
        numbers = λ d ld. number d (rw moved.long at ld) (cases_eq d c);
        counts = λ d ld. count d (rw moved.long at ld) (cases_eq d c);
      }
    where
      c : ℕ
      c = core_of move

      lc : core_of move < length state.cores
      lc = at_core riding carrying state move can stands.ports

      o : Option Instr
      o = instr_of (event riding carrying state move)

      core : Core
      core = core_at state.cores (core_of move)

      after : State R K
      after = step riding carrying rider state move

      moved : StateCounts (instr_of (event riding carrying state move)) (core_of move) state
          (step riding carrying rider state move)
      moved = state_counts riding carrying state move rider lc

      retires : (event_at t).retires ≡ o
      retires = ap (λ (p : Happening). p.retires) is
          ∙ sym (ap instr_of (forgetting.plain_event riding carrying state move))

      number : (d : ℕ) → d < length state.cores → (d ≡ c) ⊎ (d ≢ c) → (core_at after.cores d).id ≡ d
      number d ld (inl f) = ap (λ (x : ℕ). (core_at after.cores x).id) f
          ∙ (moved.here.number ∙ (stands.numbers c lc ∙ sym f))
      number d ld (inr apart) = ap (λ (k : Core). k.id) (moved.there d apart) ∙ stands.numbers d ld

      counted : (d k : ℕ) (p : Option Instr) → (event_at t).retires ≡ p → is_of d p ≡ true →
          k ≡ retired_in event_at t d + 1 → k ≡ retired_in event_at (suc t) d
      counted d k p f test g = let same : is_of d (event_at t).retires ≡ true = ap (is_of d) f ∙ test in rw same g

      uncounted : (d k : ℕ) (p : Option Instr) → (event_at t).retires ≡ p → is_of d p ≡ false →
          k ≡ retired_in event_at t d → k ≡ retired_in event_at (suc t) d
      uncounted d k p f test g = let same : is_of d (event_at t).retires ≡ false = ap (is_of d) f ∙ test in rw same g

      same_core : (i j : ℕ) → i ≡ j → (i == j) ≡ true
      same_core i j f = grind (arith, nat_tests)

      other_core : (i j k : ℕ) → i ≡ j → k ≢ j → (i == k) ≡ false
      other_core i j k f apart = grind (arith, nat_tests)

      here : ((o ≡ None) × ((core_at after.cores c).count ≡ core.count))
          ⊎ ((o ≡ Some (next_instr core)) × ((core_at after.cores c).count ≡ core.count + 1)) →
          (core_at after.cores c).count ≡ retired_in event_at (suc t) c
      here (inl f) = uncounted c (core_at after.cores c).count None (retires ∙ f.0) refl (f.1 ∙ stands.counts c lc)
      here (inr f) = counted c (core_at after.cores c).count (Some (next_instr core)) (retires
          ∙ f.0) (same_core core.id c (stands.numbers c lc))
          (f.1 ∙ ap (λ (k : ℕ). k + 1) (stands.counts c lc))

      there : (d : ℕ) → d < length state.cores → d ≢ c → ((o ≡ None) × ((core_at after.cores c).count ≡ core.count))
          ⊎ ((o ≡ Some (next_instr core)) × ((core_at after.cores c).count ≡ core.count + 1)) →
          (core_at after.cores d).count ≡ retired_in event_at (suc t) d
      there d ld apart (inl f) =
          uncounted d (core_at after.cores d).count None (retires
          ∙ f.0) refl (ap (λ (k : Core). k.count) (moved.there d apart) ∙ stands.counts d ld)
      there d ld apart (inr f) =
          uncounted d (core_at after.cores d).count (Some (next_instr core)) (retires
          ∙ f.0) (other_core core.id c d (stands.numbers c lc) apart)
          (ap (λ (k : Core). k.count) (moved.there d apart) ∙ stands.counts d ld)

      count : (d : ℕ) → d < length state.cores → (d ≡ c) ⊎ (d ≢ c) → (core_at after.cores d).count ≡ retired_in event_at
          (suc t) d
      count d ld (inl f) = ap (λ (x : ℕ). (core_at after.cores x).count) f
          ∙ (here moved.here.count ∙ ap (retired_in event_at (suc t)) (sym f))
      count d ld (inr apart) = there d ld apart moved.here.count

  -- the carry of the port at which an instruction retires is its actor's, joined with that of the message that was
  -- taken
  retiring_carry : (riding : Riding R) (carrying : Carrying K) (s : State R K) (m : Move) (y : Instr) →
      instr_of (event riding carrying s m) ≡ Some y →
      (retiring riding carrying s m).carry ≡ carry_taken carrying (taken_from m) (carries_of carrying s).sent
      (own_carry carrying s (actor_of m))
  retiring_carry riding carrying s (CoreMove c) y is = refl
  retiring_carry riding carrying s (RequestMove c) y is = none_some None y refl is
  retiring_carry riding carrying s (ResponseMove c) y is = none_some None y refl is
  retiring_carry riding carrying s (MessageMove c) y is =
      taken_carry riding carrying (port_at carrying s.memory.ports c) (port_at carrying s.memory.ports c).messages.items

  -- the carry that is told is the one that its core then has
  pub carry_follows : (riding : Riding R) (carrying : Carrying K) (s : State R K) (m : Move) (y : Instr) →
      IsTrue (enabled riding carrying s m) →
      instr_of (event riding carrying s m) ≡ Some y → carry_told riding carrying s m
      ≡ carry_left carrying (happening_of (plain s) m) (carries_of carrying s) (actor_of m)
  carry_follows riding carrying s m y e is =
      ap (λ (k : K). carrying.retired k (next_instr (core_at s.cores (core_of m)))) (retiring_carry riding carrying s m
      y is)
      ∙ (ap (λ (x : Instr). carrying.retired (carry_taken carrying (taken_from m) (carries_of carrying s).sent
      (own_carry carrying s (actor_of m))) x)
      (retired_next riding carrying s m y is) ∙ ap (λ (o : Option Instr).
      carry_retired carrying o (carry_taken carrying (taken_from m) (carries_of carrying s).sent
      (own_carry carrying s (actor_of m))))
      (sym (sym (ap instr_of (forgetting.plain_event riding carrying s m)) ∙ is)))
