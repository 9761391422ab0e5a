-- The counts of a machine's cores are those of the retirements that it stands for.
use Rattle.std.proofs.Common.{◌≡◌, ◌≢◌, ◌∙◌, ap, refl, sym, subst, ℕ, ◌+◌, ◌<◌, ◌≤◌, ◌==◌, Bool, true, false, List, []}
use Rattle.std.proofs.Common.{◌∷◌, length, Option, Some, None}
use Rattle.std.proofs.Common.{arith, inl, inr, ◌⊎◌}
use Rattle.std.proofs.lemmas.Bool.Decides.{nat_tests}
use Rattle.access_times.specs.Riding.{Riding, Carrying}
use Rattle.rtr_types.specs.declared.TheConstants.{CORES_MAX}
use Rattle.clock_core.specs.declared.clock.Clock.{Clock}
use Rattle.image_mem.specs.Contents.{Contents}
use Rattle.rtr_types.specs.declared.access.Access.{Access}
use Rattle.rtr_types.specs.declared.instr.Instr.{Instr}
use Rattle.rv_core.specs.declared.core_state.Core.{Core}
use Rattle.rv_core.proofs.LawLemmas.{count_law}
use Rattle.msi_memory.specs.declared.port.Port.{Port}
use Rattle.msi_memory.specs.Memories.{port_at}
use Rattle.msi_state.specs.declared.moves.Move.{Move}
use Rattle.msi_state.specs.declared.moves.Move.TheVariants.{Core as CoreMove, Request as RequestMove}
use Rattle.msi_state.specs.declared.moves.Move.TheVariants.{Response as ResponseMove, FromHome as MessageMove}
use Rattle.msi_state.specs.Moves.{core_of as move_core}
use Rattle.msi_state.specs.Events.{Event, Nothing, Retires, Accesses, event_working, instr_of, next_instr, port_taken}
use Rattle.msi_state.specs.States.{State, core_at}
use Rattle.msi_state.specs.Steps.{cores_after, event}
use Rattle.machine_invariant.proofs.CoreEvents.{receiving_cases, working_cases}
use Rattle.machine_invariant.proofs.StepFrame.{core_after, core_elsewhere, core_there, length-cores_after}
use Rattle.machine_times.specs.History.{NotedAccess, core_of, rank, last_noted_read, read_after}
use Rattle.machine_times.specs.Retirements.{Retirement, noted_accesses, noted_by, retired_by, AreInOrder, IsAccessOf}
use Rattle.machine_times.specs.Retirements.{after_event, noted_after}

-- ---- the last reads are no later than what retired

rank_after : (n : NotedAccess) (w d : ℕ) (last : Option (ℕ × Clock)) → (rank (read_after n w d last) ≤ rank last)
    ⊎ ((d ≡ core_of n) × (rank (read_after n w d last) ≡ n.access.at.count))
rank_after n w d last = grind (arith, nat_tests)

pub retired_more : (r : Retirement) (h : List Retirement) (c : ℕ) → retired_by h c ≤ retired_by (r ∷ h) c
retired_more r h c = grind (arith, nat_tests)

retired_own : (r : Retirement) (h : List Retirement) (c : ℕ) → c ≡ r.at.core → retired_by (r ∷ h) c ≡ retired_by h c + 1
retired_own r h c e = grind (arith, nat_tests)

retired_other : (r : Retirement) (h : List Retirement) (c : ℕ) → r.at.core ≢ c → retired_by (r ∷ h) c ≡ retired_by h c
retired_other r h c n = grind (arith, nat_tests)

rank_next : (r : Retirement) (h : List Retirement) (w c : ℕ) (o : Option Access) →
    r.at.count ≡ retired_by h r.at.core + 1 → IsAccessOf o r.at →
    rank (last_noted_read (noted_accesses h) w c) ≤ retired_by h c →
    rank (last_noted_read (noted_by o r.clock (noted_accesses h)) w c) ≤ retired_by (r ∷ h) c
rank_next r h w c None count is before = let more = retired_more r h c in omega arith
rank_next r h w c (Some a) count is before =
    elim (rank_after (record { access = a; clock = r.clock }) w c (last_noted_read (noted_accesses h) w c)) [
      | inl le ↦ let more = retired_more r h c in omega arith
      | inr q ↦
          let core : c ≡ r.at.core = q.0 ∙ ap (λ (i : Instr). i.core) is in
          let own = retired_own r h c core in
          let at : a.at.count ≡ retired_by h c + 1 = ap (λ (i : Instr). i.count) is ∙ count
          ∙ ap (λ (x : ℕ). retired_by h x + 1) (sym core) in
          let k = q.1 in
          omega arith
    ]

pub rank_retired : (h : List Retirement) (w c : ℕ) → AreInOrder h →
    rank (last_noted_read (noted_accesses h) w c) ≤ retired_by h c
rank_retired [] w c order = omega arith
rank_retired (r ∷ h) w c order = rank_next r h w c r.access order.0.count order.0.access (rank_retired h w c order.1)

-- ---- a core's next instruction

-- what the event retires is the core's next instruction
abbrev pub IsNext : Core → Event → Type 0
IsNext core e = (at : Instr) → instr_of e ≡ Some at → at ≡ next_instr core

module _ {R K : Type 0} where
  working_next : (image : Contents) (riding : Riding R) (core : Core) (p : Port R K) →
      IsNext core (event_working image riding core p)
  working_next image riding core p =
      working_cases image riding core p (λ needed e. IsNext core e) (λ done none at is. absurd (cc)) (λ more none at is.
      some (next_instr core) at is)
      (λ kind word needed refused at is. absurd (cc)) (λ kind word needed allowed at is. some (next_instr core) at is)
    where
      some : (x y : Instr) → ◌≡◌ {A = Option Instr} (Some x) (Some y) → y ≡ x
      some x y is = cc

  pub event_next : (riding : Riding R) (carrying : Carrying K) (s : State R K) (m : Move) →
      IsNext (core_at s.cores (move_core m)) (event riding carrying s m)
  event_next riding carrying s (CoreMove c) = working_next s.image riding (core_at s.cores c)
      (port_at carrying s.memory.ports c)
  event_next riding carrying s (RequestMove c) = λ at is. absurd (cc)
  event_next riding carrying s (ResponseMove c) = λ at is. absurd (cc)
  event_next riding carrying s (MessageMove c) =
      receiving_cases s.image riding carrying (core_at s.cores c) (port_at carrying s.memory.ports c)
      (λ e. IsNext (core_at s.cores c) e)
      (λ quiet at is. absurd (cc)) (λ comes. working_next s.image riding (core_at s.cores c) (port_taken riding carrying
      (port_at carrying s.memory.ports c)))

-- ---- the counts and the order after an event of core c

pub noted_event : (e : Event) (clock : Clock) (h : List Retirement) →
    noted_after e clock (noted_accesses h) ≡ noted_accesses (after_event e clock h)
noted_event Nothing clock h = refl
noted_event (Retires at) clock h = refl
noted_event (Accesses a) clock h = refl

counted_mine : (image : Contents) (core : Core) (h : List Retirement) (e : Event) (clock : Clock) →
    core.count ≡ retired_by h core.id → IsNext core e →
    (core_after image e core).count ≡ retired_by (after_event e clock h) core.id
counted_mine image core h Nothing clock old next = old
counted_mine image core h (Retires at) clock old next =
    count_law image core 0 ∙ (ap (λ (x : ℕ). x + 1) old
    ∙ sym (retired_own (record { at = at; access = None; clock = clock }) h core.id
    (sym (ap (λ (i : Instr). i.core) (next at refl)))))
counted_mine image core h (Accesses a) clock old next =
    count_law image core a.before ∙ (ap (λ (x : ℕ). x + 1) old
    ∙ sym (retired_own (record { at = a.at; access = Some a; clock = clock }) h core.id
    (sym (ap (λ (i : Instr). i.core) (next a.at refl)))))

counted_other : (core : Core) (h : List Retirement) (e : Event) (clock : Clock) (d : ℕ) → core.id ≢ d → IsNext core e →
    retired_by h d ≡ retired_by (after_event e clock h) d
counted_other core h Nothing clock d other next = refl
counted_other core h (Retires at) clock d other next =
    sym (retired_other (record { at = at; access = None; clock = clock }) h d
    (λ (q : at.core ≡ d). other (sym (ap (λ (i : Instr). i.core) (next at refl)) ∙ q)))
counted_other core h (Accesses a) clock d other next =
    sym (retired_other (record { at = a.at; access = Some a; clock = clock }) h d
    (λ (q : a.at.core ≡ d). other (sym (ap (λ (i : Instr). i.core) (next a.at refl)) ∙ q)))

-- each core's count is that of its retirements
abbrev pub AreCounted : List Core → List Retirement → Type 0
AreCounted cores h = (c : ℕ) → c < length cores → (core_at cores c).count ≡ retired_by h c

pub counted_after : (image : Contents) (cores : List Core) (c : ℕ) (h : List Retirement) (e : Event) (clock : Clock) →
    c < length cores →
    (core_at cores c).id ≡ c → IsNext (core_at cores c) e → AreCounted cores h →
    AreCounted (cores_after image c e cores) (after_event e clock h)
counted_after image cores c h e clock lc id next old d ld = by (d == c) refl
  where
    core : Core
    core = core_at cores c

    by : (t : Bool) → (d == c) ≡ t → (core_at (cores_after image c e cores) d).count ≡ retired_by
        (after_event e clock h) d
    by true is =
        let same : d ≡ c = grind (arith, nat_tests) in
        ap (λ (x : ℕ). (core_at (cores_after image c e cores) x).count) same
        ∙ (ap (λ (x : Core). x.count) (core_there image c e cores lc)
        ∙ (counted_mine image core h e clock (old c lc ∙ ap (λ (x : ℕ). retired_by h x) (sym id)) next
        ∙ ap (λ (x : ℕ). retired_by (after_event e clock h) x) (id ∙ sym same)))
    by false is =
        ap (λ (x : Core). x.count) (core_elsewhere image c e cores d is)
        ∙ (old d (subst (λ (n : ℕ). d < n) (length-cores_after image c e cores) ld)
        ∙ counted_other core h e clock d (λ (q : core.id ≡ d). let same : d ≡ c = sym q ∙ id in
        absurd (grind (arith, nat_tests))) next)

pub order_after : (core : Core) (h : List Retirement) (e : Event) (clock : Clock) → core.id < CORES_MAX →
    core.count ≡ retired_by h core.id →
    IsNext core e → AreInOrder h → AreInOrder (after_event e clock h)
order_after core h e clock below old next order = by e next
  where
    comes : (at : Instr) → at ≡ next_instr core → (at.core < CORES_MAX) × (at.count ≡ retired_by h at.core + 1)
    comes at is =
        subst (λ (i : Instr). (i.core < CORES_MAX) × (i.count ≡ retired_by h i.core + 1)) (sym is) (
          below,
          ap (λ (x : ℕ). x + 1) old,
        )

    by : (e : Event) → IsNext core e → AreInOrder (after_event e clock h)
    by Nothing next = order
    by (Retires at) next = let k = comes at (next at refl) in (record { core = k.0; count = k.1; access = tt }, order)
    by (Accesses a) next = let k = comes a.at (next a.at refl) in
        (record { core = k.0; count = k.1; access = refl }, order)
