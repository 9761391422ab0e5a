-- Instructions without data that are told one after the other: what is told so far, what is still to be told, and what
-- both make of the memory system.
use Rattle.std.proofs.Common.{◌⊎◌, inl, inr, ◌≡◌, ◌∙◌, refl, sym, subst, ap, ℕ, suc, ◌+◌, ◌-◌, ◌<◌, ◌≤◌, List, []}
use Rattle.std.proofs.Common.{◌∷◌, ◌++◌, arith, get_or, length}
use Rattle.std.proofs.lemmas.List.{get_or_read}
use Rattle.std.proofs.lemmas.List.FromFn.{map-range_with_len_more}
use Rattle.std.proofs.lemmas.Bool.{cases_lt}
use Rattle.access_times.specs.Riding.{Riding, Carrying}
use Rattle.rtr_types.specs.declared.access.Access.{Access}
use Rattle.rtr_types.specs.declared.instr.Instr.{Instr}
use Rattle.msi_memory.specs.Acts.{Act, after_acts, retire}
use Rattle.msi_memory.specs.Memories.{Memory, port_at}
use Rattle.msi_laws.proofs.PortWaits.{after_append}
use Rattle.tso_clerk.specs.Telling.{AcceptsAll, TellsAll}
use Rattle.tso_state.specs.Events.{Told, Alone, Ordered, Logged, clerk_event, count_before, instr_told}
use Rattle.tso_state.specs.Steps.{acts_told}
use Rattle.msi_state.specs.Steps.{acts_of}
use Rattle.tso_state.specs.States.{BufferedCore, State, buffered_start, core_at}
use Rattle.tso_core.specs.Machineries.{Machinery}
use Rattle.tso_core.specs.Workings.{HasTold, locals_of}

abbrev pub instr : (core count : ℕ) → Instr
instr core count = record { core = core; count = count }

-- one more at the end
pub locals_more : (core count last : ℕ) → count ≤ last →
    locals_of core count (last + 1 - count) ≡ locals_of core count (last - count) ++ Alone (instr core (last + 1)) ∷ []
locals_more core count last within =
    let more : last + 1 - count ≡ (last - count) + 1 = omega arith in
    let next : count + 1 + (last - count) ≡ last + 1 = omega arith in
    ap (λ (n : ℕ). locals_of core count n) more
    ∙ map-range_with_len_more (λ (n : ℕ). Alone (instr core n)) (count + 1) (last - count) (last + 1) next

-- the first of those that are left
pub locals_first : (core last until : ℕ) → last < until →
    locals_of core last (until - last) ≡ Alone (instr core (last + 1)) ∷ locals_of core (last + 1) (until - (last + 1))
locals_first core last until within =
    let one : until - last ≡ suc (until - (last + 1)) = omega arith in ap (λ (n : ℕ). locals_of core last n) one

-- where as many were told as are to be
told_many : (count last until : ℕ) → until ≤ last → (count ≤ until → last ≤ until) →
    (until ≤ count → last ≡ count) → last - count ≡ until - count
told_many count last until past within few = by (cases_lt count until)
  where
    by : (count < until) ⊎ (until ≤ count) → last - count ≡ until - count
    by (inl more) = let end = within (omega arith) in omega arith
    by (inr none) = let end = few none in omega arith

-- so it is at the end of a loop that ends at the count before the oldest pending access
pub all_told : {R K : Type 0} (seen now : Machinery R K) (c count last until : ℕ) (station : BufferedCore) →
    seen ≡ now → c < length now.state.cores → station ≡ get_or seen.state.cores c station →
    until ≡ count_before station.core station.queue → until ≤ last → (count ≤ until → last ≤ until) →
    (until ≤ count → last ≡ count) →
    let t = core_at now.state.cores c in last - count ≡ count_before t.core t.queue - count
all_told {R} {K} seen now c count last until station view here read is past within few =
    let there : c < length seen.state.cores =
    subst (λ (m : Machinery R K). c < length m.state.cores) (sym view) here in
    let same : station ≡ core_at now.state.cores c =
    get_or_read seen.state.cores c station there read (buffered_start 0 0)
    ∙ ap (λ (m : Machinery R K). core_at m.state.cores c) view in
    told_many count last until past within few
    ∙ ap (λ (n : ℕ). n - count) (is ∙ ap (λ (x : BufferedCore). count_before x.core x.queue) same)

-- ---- what they do to the memory system

acts_append : {R : Type 0} (c : ℕ) (rider : R) (xs : List Told) (at : Instr) →
    acts_told c rider (xs ++ Alone at ∷ []) ≡ acts_told c rider xs ++ acts_told c rider (Alone at ∷ [])
acts_append c rider [] at = refl
acts_append c rider (Alone k ∷ xs) at = ap (λ acts. acts_of c rider (clerk_event (Alone k)) ++ acts)
    (acts_append c rider xs at)
acts_append c rider (Ordered a ∷ xs) at = ap (λ acts. acts_of c rider (clerk_event (Ordered a)) ++ acts)
    (acts_append c rider xs at)
acts_append c rider (Logged k word value ∷ xs) at =
    ap (λ acts. acts_of c rider (clerk_event (Logged k word value)) ++ acts) (acts_append c rider xs at)

module _ {R K : Type 0} where
  pub memory_push : (riding : Riding R) (carrying : Carrying K) (m : Memory R K) (c : ℕ) (rider : R) (xs : List Told)
      (at : Instr) →
      after_acts riding carrying m (acts_told c rider (xs ++ Alone at ∷ []))
      ≡ retire carrying (after_acts riding carrying m (acts_told c rider xs)) c at
  memory_push riding carrying m c rider xs at =
      ap (λ (acts : List (Act R)). after_acts riding carrying m acts) (acts_append c rider xs at)
      ∙ after_append riding carrying m (acts_told c rider xs) (acts_told c rider (Alone at ∷ []))

-- ---- what the clerk's calls do to it

-- a carry once these were told
abbrev pub carried : {K : Type 0} → Carrying K → K → List Told → K
carried carrying carry [] = carry
carried carrying carry (e ∷ later) = carried carrying (carrying.retired carry (instr_told e)) later

pub carried_push : {K : Type 0} (carrying : Carrying K) (carry : K) (xs : List Told) (at : Instr) →
    carried carrying carry (xs ++ Alone at ∷ []) ≡ carrying.retired (carried carrying carry xs) at
carried_push carrying carry [] at = refl
carried_push carrying carry (e ∷ xs) at = carried_push carrying (carrying.retired carry (instr_told e)) xs at

module _ {R K C : Type 0} (local : C → Instr → K → C → Type 0) (touch : C → R → Access → K → C → R → Type 0)
    (logged : C → Instr → ℕ → ℕ → K → C → Type 0) where
  pub tells_push : (carrying : Carrying K) (xs : List Told) (at : Instr) (carry : K) (before between after : C)
      (found left : R) →
      TellsAll local touch logged carrying xs carry before found between left →
      local between at (carrying.retired (carried carrying carry xs) at) after →
      TellsAll local touch logged carrying (xs ++ Alone at ∷ []) carry before found after left
  tells_push carrying [] at carry before between after found left told now =
      (after, subst (λ (c : C). local c at (carrying.retired carry at) after) told now, refl)
  tells_push carrying (e ∷ xs) at carry before between after found left told now = (
    told.0,
    told.1,
    tells_push carrying xs at (carrying.retired carry (instr_told e)) told.0 between after found left
        told.2 now,
  )

-- ---- the instructions of a core behind a count, of which those up to a later one were told: what they made of the
-- state
-- and of the clerk, and that the clerk accepts those that are left
pub record Behind {R K C : Type 0} (accepts alone : C → Instr → Type 0) (local : C → Instr → K → C → Type 0)
    (touch : C → R → Access → K → C → R → Type 0) (logged : C → Instr → ℕ → ℕ → K → C → Type 0) (riding : Riding R)
    (carrying : Carrying K)
    (old now : State R K) (c core count last until : ℕ) (before after : C) : Type 0 where
  pub started : count ≤ last
  pub state : (rider : R) → HasTold riding carrying old now c rider (locals_of core count (last - count))
  pub carry : (port_at carrying now.memory.ports c).carry
      ≡ carried carrying (port_at carrying old.memory.ports c).carry (locals_of core count (last - count))
  pub accepted : (found : R) × AcceptsAll accepts alone local touch logged carrying (locals_of core last (until - last))
      (port_at carrying now.memory.ports c).carry after found
  pub told : (found left : R) → TellsAll local touch logged carrying (locals_of core count (last - count))
      (port_at carrying old.memory.ports c).carry before found after left

module _ {R K C : Type 0} (accepts alone : C → Instr → Type 0) (local : C → Instr → K → C → Type 0) (touch : C → R →
    Access → K → C → R → Type 0)
    (logged : C → Instr → ℕ → ℕ → K → C → Type 0) (riding : Riding R) (carrying : Carrying K) (old now : State R K)
    (c core count last until : ℕ)
    (before after : C) (behind : Behind accepts alone local touch logged riding carrying old now c core count last until
    before after)
    (within : last < until) (at : Instr) (at_is : at ≡ instr core (last + 1)) where
  abbrev pub carry_now : K
  carry_now = (port_at carrying now.memory.ports c).carry

  -- the next is accepted, and those behind it once it was told
  left : AcceptsAll accepts alone local touch logged carrying (Alone (instr core (last + 1)) ∷ locals_of core (last + 1)
      (until - (last + 1)))
      carry_now after behind.accepted.0
  left = subst (λ (list : List Told). AcceptsAll accepts alone local touch logged carrying list carry_now after
      behind.accepted.0)
      (locals_first core last until within) behind.accepted.1

  pub accepts_next : alone after at
  accepts_next = subst (λ (i : Instr). alone after i) (sym at_is) left.0

  pub one_told : (memory : Memory R K) (carry : K) (next : C) → memory ≡ retire carrying now.memory c at →
      (port_at carrying memory.ports c).carry ≡ carrying.retired carry_now at →
      carry ≡ (port_at carrying memory.ports c).carry →
      local after at carry next →
      Behind accepts alone local touch logged riding carrying old (record now { memory = memory }) c core count
      (last + 1) until before next
  one_told memory carry next is retired same now_told =
      record {
        started = omega (arith, behind.started);
        state = λ rider.
            (λ i. record (behind.state rider i) { memory = is i })
            ∙ (λ i. record old { memory = retire carrying (behind.state rider i).memory c at })
            ∙ ap (λ (m : Memory R K). record old { memory = m })
            (sym (memory_push riding carrying old.memory c rider sofar at)
            ∙ ap (λ (list : List Told). after_acts riding carrying old.memory
            (acts_told c rider list)) longer);
        carry = retired ∙ ap (λ (k : K). carrying.retired k at) behind.carry
            ∙ sym (carried_push carrying carry_old sofar at) ∙ ap (carried carrying carry_old) longer;
        accepted = (
          behind.accepted.0,
          subst (λ (k : K). AcceptsAll accepts alone local touch logged carrying
              (locals_of core (last + 1) (until - (last + 1))) k next behind.accepted.0) (sym now_is)
              (left.1 next riding.fresh (subst (λ (k : K). local after (instr core (last + 1)) k next) (same ∙ now_is)
              (subst (λ (i : Instr). local after i carry next) at_is now_told))),
        );
        told = λ found left_there. subst (λ (list : List Told). TellsAll local touch logged carrying list carry_old
            before found next left_there) longer
            (tells_push local touch logged carrying sofar at carry_old before after next found left_there
            (behind.told found left_there)
            (subst (λ (k : K). local after at k next) (same ∙ retired
            ∙ ap (λ (k : K). carrying.retired k at) behind.carry) now_told));
      }
    where
      sofar : List Told
      sofar = locals_of core count (last - count)

      carry_old : K
      carry_old = (port_at carrying old.memory.ports c).carry

      longer : sofar ++ Alone at ∷ [] ≡ locals_of core count (last + 1 - count)
      longer = ap (λ (i : Instr). sofar ++ Alone i ∷ []) at_is ∙ sym (locals_more core count last behind.started)

      now_is : (port_at carrying memory.ports c).carry ≡ carrying.retired carry_now (instr core (last + 1))
      now_is = retired ∙ ap (carrying.retired carry_now) at_is
