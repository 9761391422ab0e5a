-- What is noted at the start: nothing is pending or under way, and each core whose program isn't done is marked.
use Rattle.std.proofs.Common.{◌≡◌, ◌≢◌, ◌∙◌, ◌⊎◌, inl, inr, refl, sym, subst, ap, ℕ, ◌<◌, ◌≤◌, Bool, true}
use Rattle.std.proofs.Common.{false, List, [], length, get_or}
use Rattle.std.proofs.Common.{replicate, nat_lt, zero-add, ◌&&◌, ◌||◌, ◌/◌, ◌*◌, ◌^◌}
use Rattle.std.specs.Prelude.{map, not}
use Rattle.std.specs.List.{range_with_len}
use Rattle.std.proofs.lemmas.List.{get_or-map, get_or_past, length-map}
use Rattle.std.proofs.lemmas.List.FromFn.{get_or-map-range_with_len, length-map-range_with_len}
use Rattle.std.proofs.lemmas.Bool.{cases_lt}
use Rattle.access_times.specs.Riding.{Riding, Carrying}
use Rattle.image_mem.specs.Contents.{Contents}
use Rattle.rtr_types.specs.declared.TheConstants.{BLOCK_WORDS, CORES_MAX}
use Rattle.rtr_types.specs.declared.access.Kind.TheVariants.{Load as Loading}
use Rattle.rv_core.specs.declared.core_state.Need.{Need}
use Rattle.rv_core.specs.declared.core_state.Need.TheVariants.{Local, Load, Store, Amo, Done}
use Rattle.rv_core.specs.Steps.{is_done, need}
use Rattle.msi_cache.specs.Lines.{waits}
use Rattle.msi_memory.specs.declared.port.Port.{Port}
use Rattle.msi_memory.specs.Acts.{allows}
use Rattle.msi_memory.specs.Memories.{port_at, port_start}
use Rattle.rtr_types.specs.CoreSets.{has}
use Rattle.machine_data.specs.Coherent.{opening_memory}
use Rattle.machine_data.proofs.OpeningWords.{start_coherent}
use Rattle.move_marks.specs.declared.marks.MoveKind.{MoveKind}
use Rattle.move_marks.specs.declared.marks.MoveKind.TheVariants.{Own}
use Rattle.move_marks.specs.Kinds.{set_of}
use Rattle.move_marks.specs.Ports.{PortsNoted}
use Rattle.move_marks.proofs.Idle.{idle_noted, port_idle}
use Rattle.tso_state.specs.declared.moves.Move.TheVariants.{Core as CoreMove, Order as OrderMove}
use Rattle.tso_state.specs.States.{BufferedCore, State, buffered_start, core_at, state_start}
use Rattle.tso_state.specs.Steps.{can_execute, can_order, case_holds, enabled, is_fence}
use Rattle.tso_data.specs.Orders.{Coherent}
use Rattle.tso_invariant.specs.Holds.{TsoHolds}
use Rattle.tso_invariant.proofs.StartInvariant.{holds_start}
use Rattle.tso_core.specs.declared.marks.Marks.{Marks}
use Rattle.tso_core.specs.declared.standing.Standing.{Standing}
use Rattle.tso_core.specs.Machineries.{Machinery}
use Rattle.tso_core.specs.Standings.{NotesFit, may_begin, standing_with}
use Rattle.move_marks.proofs.AnswerMarks.{below_is, past_is}
use Rattle.tso_core.proofs.Standings.{standings_long}

or_true : (a w : Bool) → w ≡ false → (a || not w) ≡ true
or_true true w is = refl
or_true false w is = ap not is

-- a core whose program isn't done
abbrev runs : Standing → Bool
runs s = not (is_done s.need)

module _ {R K : Type 0} where
  -- with no pending access, at a port that doesn't wait, a core can execute or ask until its program is done
  first_case : (needed : Need) (fence : Bool) (riding : Riding R) (p : Port R K) → waits p.cache ≡ false →
      case_holds needed fence riding [] p ≡ not (is_done needed)
  first_case Local fence riding p still = or_last (not fence)
    where
      or_last : (b : Bool) → (b || true) ≡ true
      or_last true = refl
      or_last false = refl
  first_case (Store word whole) fence riding p still = refl
  first_case (Load word) fence riding p still = or_true (allows riding p (word / BLOCK_WORDS) Loading) (waits p.cache)
      still
  first_case (Amo word) fence riding p still = ap not still
  first_case (Done stop) fence riding p still = refl

  -- ---- the cores at the start
  module _ (riding : Riding R) (carrying : Carrying K) (image : Contents) (cores limit : ℕ) where
    first : State R K
    first = state_start riding carrying image cores limit

    cores_first : List BufferedCore
    cores_first = map (λ (id : ℕ). buffered_start id limit) (range_with_len 0 cores)

    long : length cores_first ≡ cores
    unfolding cores_first
    long = length-map-range_with_len (λ (id : ℕ). buffered_start id limit) 0 cores

    core_first : (d : ℕ) → d < cores → core_at cores_first d ≡ buffered_start d limit
    unfolding cores_first
    core_first d within = get_or-map-range_with_len (λ (id : ℕ). buffered_start id limit) 0 cores d d
        (buffered_start 0 0) within (zero-add d)

    -- a core may begin where it can move
    begins : (d : ℕ) → may_begin (map (λ (t : BufferedCore). standing_with image t.core) cores_first) d
        ≡ enabled riding carrying first (CoreMove d)
    unfolding cores_first first
    begins d = by (cases_lt d cores)
      where
        kept : BufferedCore → Standing
        kept = λ (t : BufferedCore). standing_with image t.core

        p : Port R K
        p = port_at carrying (replicate cores (port_start riding carrying)) d

        still : waits p.cache ≡ false
        still = port_idle riding carrying (λ (q : Port R K). waits q.cache) false cores d refl refl

        can_first : (t : BufferedCore) → t ≡ buffered_start d limit → not (is_done (need image t.core)) ≡ can_execute
            image riding t p
        can_first t is =
            ap (λ (u : BufferedCore). not (is_done (need image u.core))) is
            ∙ sym (first_case (need image (buffered_start d limit).core) (is_fence image (buffered_start d limit).core)
            riding p still)
            ∙ ap (λ (u : BufferedCore). can_execute image riding u p) (sym is)

        by : (d < cores) ⊎ (cores ≤ d) → get_or (map runs (map kept cores_first)) d
            false ≡ (nat_lt d (length cores_first) && can_execute image riding
            (core_at cores_first d) p)
        by (inl within) =
            let inside : d < length cores_first = subst (λ (n : ℕ). d < n) (sym long) within in
            let idle_core = standing_with image (buffered_start 0 0).core in
            get_or-map runs (map kept cores_first) d idle_core false (subst (λ (n : ℕ). d < n)
            (sym (length-map cores_first kept)) inside)
            ∙ ap runs (get_or-map kept cores_first d (buffered_start 0 0) idle_core inside)
            ∙ can_first (core_at cores_first d) (core_first d within)
            ∙ ap (λ (b : Bool). b && can_execute image riding (core_at cores_first d) p)
            (sym (below_is d (length cores_first) inside))
        by (inr past) =
            let outside : length cores_first ≤ d = subst (λ (n : ℕ). n ≤ d) (sym long) past in
            get_or_past (map runs (map kept cores_first)) d false
            (subst (λ (n : ℕ). n ≤ d) (sym (length-map (map kept cores_first) runs ∙ length-map cores_first kept))
            outside)
            ∙ ap (λ (b : Bool). b && can_execute image riding (core_at cores_first d) p)
            (sym (past_is d (length cores_first) outside))

    -- nothing is pending
    nothing_orders : (d : ℕ) → enabled riding carrying first (OrderMove d) ≡ false
    unfolding cores_first first
    nothing_orders d = by (cases_lt d cores)
      where
        p : Port R K
        p = port_at carrying (replicate cores (port_start riding carrying)) d

        by : (d < cores) ⊎ (cores ≤ d) → (nat_lt d (length cores_first) && can_order (core_at cores_first d).queue
            riding p) ≡ false
        by (inl within) =
            ap (λ (t : BufferedCore). nat_lt d (length cores_first) && can_order t.queue riding p) (core_first d within)
            ∙ and_none (nat_lt d (length cores_first))
          where
            and_none : (b : Bool) → (b && false) ≡ false
            and_none true = refl
            and_none false = refl
        by (inr past) =
            ap (λ (b : Bool). b && can_order (core_at cores_first d).queue riding p)
            (past_is d (length cores_first) (subst (λ (n : ℕ). n ≤ d) (sym long) past))

  pub notes_begin : (riding : Riding R) (carrying : Carrying K) (image : Contents) (cores limit : ℕ) (m : Machinery R K)
      (standings : List Standing)
      (marks : Marks) → m.state ≡ state_start riding carrying image cores limit → TsoHolds riding carrying m.state →
      standings ≡ map (λ (t : BufferedCore). standing_with image t.core) m.state.cores →
      marks.cores ≡ length standings →
      ((c : ℕ) → has (set_of Own marks.moves) c ≡ may_begin standings c) → ((c : ℕ) → has marks.orders c ≡ false) →
      ((k : MoveKind) → k ≢ Own → (c : ℕ) → has (set_of k marks.moves) c ≡ false) →
      NotesFit riding carrying m standings marks 0
  unfolding cores_first first
  notes_begin riding carrying image cores limit m standings marks is holds made count own orders none =
      record {
        holds = holds;
        stands = fit;
        cores = record {
          cores = count ∙ standings_long m.state standings fit;
          own = λ c. own c
              ∙ ap (λ (xs : List Standing). may_begin xs c) (made
              ∙ ap (λ (s : State R K). map (λ (t : BufferedCore). standing_with image t.core) s.cores) is)
              ∙ begins riding carrying image cores limit c
              ∙ ap (λ (s : State R K). enabled riding carrying s (CoreMove c)) (sym is);
          orders = λ c. orders c ∙ sym (ap (λ (s : State R K). enabled riding carrying s (OrderMove c)) is
              ∙ nothing_orders riding carrying image cores limit c);
        };
        ports = subst (λ (s : State R K). PortsNoted riding carrying s.memory m.rooms marks.cores marks.moves 0)
            (sym is)
            (idle_noted riding carrying image cores m.rooms marks.cores marks.moves 0
            (count ∙ standings_long m.state standings fit ∙ sym holds.ports_there
            ∙ ap (λ (s : State R K). length s.memory.ports) is) none);
      }
    where
      fit : standings ≡ map (λ (t : BufferedCore). standing_with m.state.image t.core) m.state.cores
      fit = made ∙ ap (λ (s : State R K). map (λ (t : BufferedCore). standing_with s.image t.core) m.state.cores)
          (sym is)

  -- ---- the machine that is made so
  module _ (riding : Riding R) (carrying : Carrying K) (image : Contents) (cores limit : ℕ) (m : Machinery R K)
      (is : m.state ≡ state_start riding carrying image cores limit) where
    pub begun_coherent : length image.bytes ≤ 4 * image.words →
        Coherent riding carrying m.state (opening_memory image)
    begun_coherent fits =
        subst (λ (s : State R K). Coherent riding carrying s (opening_memory image)) (sym is)
        (start_coherent riding carrying image cores limit fits)

    module _ (few : cores ≤ CORES_MAX) (small : limit < 2 ^ 32) where
      pub begun_holds : TsoHolds riding carrying m.state
      begun_holds =
          subst (λ (s : State R K). TsoHolds riding carrying s) (sym is) (holds_start riding carrying image cores limit
          few small)

      -- from what each call gave
      pub notes_first : {seen : Machinery R K} → seen ≡ m → {listed : List BufferedCore} → listed ≡ seen.state.cores →
          {standings : List Standing} →
          standings ≡ map (λ (t : BufferedCore). standing_with seen.state.image t.core) listed →
          {read : List Standing} → read ≡ standings → (marks : Marks) → marks.cores ≡ length read →
          ((c : ℕ) → has (set_of Own marks.moves) c ≡ may_begin read c) → ((c : ℕ) → has marks.orders c ≡ false) →
          ((k : MoveKind) → k ≢ Own → (c : ℕ) → has (set_of k marks.moves) c ≡ false) →
          NotesFit riding carrying m standings marks 0
      notes_first {seen} view {listed} lists {standings} made {read} reads marks count own orders none =
          notes_begin riding carrying image cores limit m standings marks is begun_holds
          (made
          ∙ ap (map (λ (t : BufferedCore). standing_with seen.state.image t.core)) lists
          ∙ (λ i. map (λ (t : BufferedCore). standing_with (view i).state.image t.core) (view i).state.cores)
          ∙ ap (λ (s : State R K). map (λ (t : BufferedCore). standing_with s.image t.core) m.state.cores) is)
          (count ∙ ap (λ (xs : List Standing). length xs) reads)
          (λ c. own c ∙ ap (λ (xs : List Standing). may_begin xs c) reads) orders none
