-- A retirement and an edge keep what is awaited of each pair.
use Rattle.std.proofs.Common.{◌≡◌, ◌≢◌, ℕ, ◌+◌, ◌-◌, ◌<◌, ◌≤◌, ◌⊎◌, inl, inr, true, false, List, [], length, get_or}
use Rattle.std.proofs.Common.{◌∷◌, ◌++◌, map, replicate, sym, ap, subst, ◌∙◌, arith}
use Rattle.std.specs.Prelude.{All, nat_eq, nat_le, slice_index_or, slice_set}
use Rattle.std.proofs.lemmas.Bool.{cases_eq, cases_lt, cond-false}
use Rattle.std.proofs.lemmas.Bool.Decides.{nat_tests}
use Rattle.std.proofs.lemmas.List.Elements.{All-nil}
use Rattle.std.proofs.lemmas.List.{get_or-replicate, get_or-set_same, get_or-set_other, get_or_default, get_or_past}
use Rattle.rtr_types.specs.declared.TheConstants.{CORES_MAX}
use Rattle.rtr_types.specs.declared.instr.Edge.{Edge}
use Rattle.rtr_types.specs.declared.instr.Instr.{Instr}
use Rattle.rtr_types.specs.Pairs.{IsPair, pair_count, pair_place, source_at, target_at}
use Rattle.rtr_types.specs.PairEdges.{counts, with_edge}
use Rattle.rtr_types.proofs.PairPlaces.{pairs-placed}
use Rattle.stride_vector.specs.declared.StrideVector.{StrideVector}
use Rattle.roomy_lists.specs.Lists.{Listed, items_in}
use Rattle.know_history.specs.declared.known.Known.{Known}
use Rattle.know_history.specs.Knowledge.{count_in}
use Rattle.know_history.specs.Notes.{Notes, known_at, no_notes, noted_count}
use Rattle.know_history.proofs.Histories.{none_noted}
use Rattle.edge_regulate.specs.declared.seat.Awaited.{Awaited}
use Rattle.edge_regulate.specs.declared.seat.Seat.{Seat}
use Rattle.edge_regulate.specs.Awaiting.{IsAwaited, awaited_with, looked, never, newest, none_awaited, up_to, watched}
use Rattle.edge_regulate.specs.Greedy.{Knows, opened, takes, taking, told}
use Rattle.edge_regulate.specs.Regulated.{IsGrowing, IsRegulation, Regulation, end_target, knows_by}
use Rattle.edge_regulate.specs.Seats.{CanFollow, Following, Follows, IsAhead, IsLeast, IsNotedNext}
use Rattle.edge_regulate.specs.Seats.{awaited_at, no_seat, seat_at}
use Rattle.edge_regulate.proofs.AwaitedPositions.{KnowsMore, awaited_late, awaited_opened}
use Rattle.edge_regulate.proofs.AwaitedPositions.{awaited_same, awaited_watched}
use Rattle.edge_regulate.proofs.AwaitedPositions.{awaited_quiet, awaited_taken, takes_same}
use Rattle.edge_regulate.proofs.NewestVector.{newest_push, newest_rises, newest_set, told_new, told_on}
use Rattle.edge_regulate.proofs.Regulations.{later_law, noted_law, tell}
use Rattle.edge_regulate.proofs.Rooms.{AreGrowing}

-- what is held by a regulator's parts
abbrev pub held_by : (cores : ℕ) (pairs : List (Listed StrideVector)) (seats : List Seat) → Following
held_by cores pairs seats = record {
  regulation = record { cores = cores; vectors = items_in pairs; ready = map (λ l. l.ready) pairs };
  seats = seats;
}

-- the vectors of one pair may go on
growing_at : (lists : List (List StrideVector)) (place : ℕ) → AreGrowing lists →
    All IsGrowing (slice_index_or lists place [])
growing_at lists place growing = by (cases_lt place (length lists))
  where
    by : (place < length lists) ⊎ (length lists ≤ place) → All IsGrowing (slice_index_or lists place [])
    by (inr past) = subst (λ (vs : List StrideVector). All IsGrowing vs) (sym (get_or_past lists place [] past))
        (All-nil IsGrowing)
    by (inl lt) = growing place [] lt

-- ---- the start

pub follows_start : (f : Following) (cores : ℕ) → f.regulation.cores ≡ cores → cores ≤ CORES_MAX →
    f.regulation.vectors ≡ replicate (pair_count cores) [] → f.seats ≡ replicate cores no_seat →
    IsRegulation (no_notes cores) (replicate (pair_count cores) []) f.regulation →
    Follows (no_notes cores) (replicate (pair_count cores) []) f
follows_start f cores few most none seats kept = record {
  regulation = kept;
  ahead = λ core lt. subst (λ (s : Seat). IsAhead f.regulation.cores (noted_count (no_notes cores) core) s)
      (sym (empty core (omega arith)))
      (record {
        next = (let nothing = none_noted cores core in omega arith);
        lower = λ source within.
            let is : (awaited_at no_seat source).target ≡ never =
            ap (λ (w : Awaited). w.target) (idle source (omega arith)) in
            omega arith;
      });
  own = λ core lt.
      ap (λ (s : Seat). (awaited_at s core).target) (empty core (omega arith))
      ∙ ap (λ (w : Awaited). w.target) (idle core (omega arith));
  awaited = λ source target pair.
      let knows = knows_by (known_at (no_notes cores)) source target in
      let placed = pairs-placed f.regulation.cores source target pair in
      let place = pair_place f.regulation.cores source target in
      let s = pair.source in
      let t = pair.target in
      let vs : slice_index_or f.regulation.vectors place [] ≡ [] =
      ap (λ (ls : List (List StrideVector)). get_or ls place []) none
      ∙ get_or-replicate (pair_count cores) place [] [] (subst (λ (n : ℕ). place < pair_count n) few placed.0) in
      let w : awaited_at (seat_at f target) source ≡ none_awaited =
      ap (λ (x : Seat). awaited_at x source) (empty target (omega arith)) ∙ idle source (omega arith) in
      subst (λ (us : List StrideVector). IsAwaited knows (noted_count (no_notes cores) target) (newest us)
      (awaited_at (seat_at f target) source))
      (sym vs)
      (subst (λ (x : Awaited). IsAwaited knows (noted_count (no_notes cores) target) (opened (0, 0)) x) (sym w)
      (awaited_opened knows (noted_count (no_notes cores) target) (0, 0)));
}
  where
    empty : (core : ℕ) → core < cores → seat_at f core ≡ no_seat
    empty core lt = ap (λ (ss : List Seat). get_or ss core no_seat) seats
        ∙ get_or-replicate cores core no_seat no_seat lt

    idle : (source : ℕ) → source < CORES_MAX → awaited_at no_seat source ≡ none_awaited
    idle source lt = get_or-replicate CORES_MAX source none_awaited none_awaited lt

-- ---- a retirement

-- of what is noted of the other cores nothing changes
others_know : (old new : Notes) (at : Instr) (known : Known) (source target : ℕ) → IsNotedNext old at known new →
    source ≢ target → (a b : ℕ) → b ≤ noted_count old target →
    knows_by (known_at new) source target a b ≡ knows_by (known_at old) source target a b
others_know old new at known source target next apart a b le =
    ap (λ (n : ℕ). nat_le a n) (next.noted.kept target b source apart le)

-- and at the core so much is known as its carry counts
core_knows : (old new : Notes) (at : Instr) (known : Known) (source : ℕ) → IsNotedNext old at known new →
    source < CORES_MAX → source ≢ at.core →
    KnowsMore (knows_by (known_at old) source at.core) (knows_by (known_at new) source at.core)
    (noted_count old at.core)
    (count_in known source)
core_knows old new at known source next few apart = record {
  same = others_know old new at known source at.core next apart;
  here = λ a. ap (λ (n : ℕ). nat_le a (known_at new at.core n source)) (sym next.next)
      ∙ ap (λ (n : ℕ). nat_le a n) (next.exact source few apart);
}

module _ (old new : Notes) (at : Instr) (known : Known) (edges : List (List (ℕ × ℕ))) (f : Following)
    (next : IsNotedNext old at known new) (few : f.regulation.cores ≤ CORES_MAX) (small : at.count < never)
    (growing : AreGrowing f.regulation.vectors) (kept : Follows old edges f) where
  abbrev vectors_of : (source target : ℕ) → List StrideVector
  vectors_of source target = slice_index_or f.regulation.vectors (pair_place f.regulation.cores source target) []

  abbrev noted : ℕ
  noted = noted_count old at.core

  noted_more : noted + 1 ≡ noted_count new at.core
  noted_more = sym next.next ∙ sym next.noted.count

  regulation_kept : IsRegulation new edges f.regulation
  regulation_kept = later_law old new edges f.regulation (noted_law old new at known next.next next.noted)
      kept.regulation

  -- what is awaited at another core
  other_core : (source target : ℕ) → IsPair f.regulation.cores source target → target ≢ at.core →
      IsAwaited (knows_by (known_at new) source target) (noted_count new target) (newest (vectors_of source target))
      (awaited_at (seat_at f target) source)
  other_core source target pair apart =
      subst (λ (n : ℕ). IsAwaited (knows_by (known_at new) source target) n (newest (vectors_of source target))
      (awaited_at (seat_at f target) source)) (sym (next.noted.others target apart))
      (awaited_same (knows_by (known_at old) source target) (knows_by (known_at new) source target)
      (noted_count old target)
      (newest (vectors_of source target)) (awaited_at (seat_at f target) source)
      (others_know old new at known source target next pair.differ) (kept.awaited source target pair))

  other_ahead : (core : ℕ) → core < f.regulation.cores → core ≢ at.core →
      IsAhead f.regulation.cores (noted_count new core) (seat_at f core)
  other_ahead core lt apart =
      subst (λ (n : ℕ). IsAhead f.regulation.cores n (seat_at f core)) (sym (next.noted.others core apart))
      (kept.ahead core lt)

  pub follows_quiet : (seat_at f at.core).next ≢ at.count → Follows new edges f
  follows_quiet quiet = record {
    regulation = regulation_kept;
    ahead = λ core lt. ahead_by core lt (cases_eq core at.core);
    own = kept.own;
    awaited = λ source target pair. by source target pair (cases_eq target at.core);
  }
    where
      ahead_by : (core : ℕ) → core < f.regulation.cores → (core ≡ at.core) ⊎ (core ≢ at.core) →
          IsAhead f.regulation.cores (noted_count new core) (seat_at f core)
      ahead_by core lt (inr apart) = other_ahead core lt apart
      ahead_by core lt (inl same) =
          let a = kept.ahead core lt in
          subst (λ (c : ℕ). IsAhead f.regulation.cores (noted_count new c) (seat_at f core)) (sym same)
          (record {
            next = (let lt = subst (λ (c : ℕ). noted_count old c < (seat_at f c).next) same a.next in
                let more = noted_more in
                let is = next.next in
                let s : (seat_at f core).next ≡ (seat_at f at.core).next = ap (λ (c : ℕ). (seat_at f c).next) same in
                grind arith);
            lower = a.lower;
          })

      by : (source target : ℕ) → IsPair f.regulation.cores source target → (target ≡ at.core) ⊎ (target ≢ at.core) →
          IsAwaited (knows_by (known_at new) source target) (noted_count new target) (newest (vectors_of source target))
          (awaited_at (seat_at f target) source)
      by source target pair (inr apart) = other_core source target pair apart
      by source target pair (inl same) =
          let w = awaited_at (seat_at f at.core) source in
          let s = pair.source in
          let t = pair.target in
          let differ : source ≢ at.core = (λ is. pair.differ (is ∙ sym same)) in
          let here : IsPair f.regulation.cores source at.core = record {
            source = s;
            target = omega arith;
            differ =
                differ;
          } in
          let a = kept.ahead at.core here.target in
          let lt = a.next in
          let least = a.lower source s in
          let is = next.next in
          let late : w.target ≢ noted + 1 = grind arith in
          subst (λ (c : ℕ). IsAwaited (knows_by (known_at new) source c) (noted_count new c)
          (newest (vectors_of source c))
          (awaited_at (seat_at f c) source)) (sym same)
          (subst (λ (n : ℕ). IsAwaited (knows_by (known_at new) source at.core) n (newest (vectors_of source at.core))
          w) noted_more
          (awaited_quiet (knows_by (known_at old) source at.core) (knows_by (known_at new) source at.core) noted
          (count_in known source)
          (newest (vectors_of source at.core)) w (core_knows old new at known source next (omega arith) differ) late
          (kept.awaited source at.core here)))

  pub follows_looked : (seat : Seat) → at.core < f.regulation.cores → at.core < length f.seats →
      ((source : ℕ) → source < f.regulation.cores →
      awaited_at seat source ≡ watched at.count (count_in known source) (awaited_at (seat_at f at.core) source)) →
      IsLeast f.regulation.cores seat →
      Follows new edges (record { regulation = f.regulation; seats = slice_set f.seats at.core seat })
  follows_looked seat core_within within each least = record {
    regulation = regulation_kept;
    ahead = λ core lt. ahead_by core lt (cases_eq core at.core);
    own = λ core lt. own_by core lt (cases_eq core at.core);
    awaited = λ source target pair. by source target pair (cases_eq target at.core);
  }
    where
      g : Following
      g = record { regulation = f.regulation; seats = slice_set f.seats at.core seat }

      here : seat_at g at.core ≡ seat
      here = get_or-set_same f.seats at.core seat no_seat within

      there : (core : ℕ) → core ≢ at.core → seat_at g core ≡ seat_at f core
      there core apart = get_or-set_other f.seats at.core core seat no_seat apart

      same_core : (core : ℕ) → core ≡ at.core → seat_at g core ≡ seat
      same_core core same = ap (λ (c : ℕ). seat_at g c) same ∙ here

      mine : (source : ℕ) → IsPair f.regulation.cores source at.core →
          IsAwaited (knows_by (known_at new) source at.core) (noted_count new at.core)
          (newest (vectors_of source at.core))
          (awaited_at seat source)
      mine source pair =
          let w = awaited_at (seat_at f at.core) source in
          let s = pair.source in
          let is = next.next in
          subst (λ (x : Awaited). IsAwaited (knows_by (known_at new) source at.core) (noted_count new at.core)
          (newest (vectors_of source at.core)) x)
          (sym (each source s ∙ ap (λ (n : ℕ). watched n (count_in known source) w) next.next))
          (subst (λ (n : ℕ). IsAwaited (knows_by (known_at new) source at.core) n (newest (vectors_of source at.core))
          (watched (noted + 1) (count_in known source) w)) noted_more
          (awaited_watched (knows_by (known_at old) source at.core) (knows_by (known_at new) source at.core) noted
          (count_in known source)
          (newest (vectors_of source at.core)) w
          (newest_rises (vectors_of source at.core) (growing_at f.regulation.vectors
          (pair_place f.regulation.cores source at.core) growing))
          (core_knows old new at known source next (omega arith) pair.differ) (omega arith)
          (kept.awaited source at.core pair)))

      -- of the core itself nothing is awaited
      never_own : (awaited_at seat at.core).target ≡ never
      never_own =
          let w = awaited_at (seat_at f at.core) at.core in
          let is : w.target ≡ never = kept.own at.core core_within in
          let no : nat_eq w.target at.count ≡ false = grind (arith, nat_tests) in
          ap (λ (x : Awaited). x.target) (each at.core core_within
          ∙ cond-false (nat_eq w.target at.count) (looked (count_in known at.core) w) w no) ∙ is

      late : (source : ℕ) → source < f.regulation.cores → (source ≡ at.core) ⊎ (source ≢ at.core) →
          at.count < (awaited_at seat source).target
      late source lt (inl same) =
          let is : (awaited_at seat source).target ≡ never = ap (λ (c : ℕ). (awaited_at seat c).target) same
          ∙ never_own in
          omega arith
      late source lt (inr apart) =
          let is = next.noted.count in
          let after = awaited_late (knows_by (known_at new) source at.core) (noted_count new at.core)
          (newest (vectors_of source at.core))
          (awaited_at seat source) (omega arith) (mine source (record {
            source = lt;
            target = core_within;
            differ =
                apart;
          })) in
          omega arith

      ahead_by : (core : ℕ) → core < f.regulation.cores → (core ≡ at.core) ⊎ (core ≢ at.core) →
          IsAhead f.regulation.cores (noted_count new core) (seat_at g core)
      ahead_by core lt (inr apart) =
          subst (λ (s : Seat). IsAhead f.regulation.cores (noted_count new core) s) (sym (there core apart))
          (other_ahead core lt apart)
      ahead_by core lt (inl same) =
          subst (λ (c : ℕ). IsAhead f.regulation.cores (noted_count new c) (seat_at g core)) (sym same)
          (subst (λ (s : Seat). IsAhead f.regulation.cores (noted_count new at.core) s) (sym (same_core core same))
          (record {
            next = (let is = next.noted.count in
                let up = least.greatest (at.count + 1) (omega arith) (λ source within. let after =
                late source within (cases_eq source at.core) in
                omega arith) in
                omega arith);
            lower = least.lower;
          }))

      own_by : (core : ℕ) → core < f.regulation.cores → (core ≡ at.core) ⊎ (core ≢ at.core) →
          (awaited_at (seat_at g core) core).target ≡ never
      own_by core lt (inr apart) = ap (λ (s : Seat). (awaited_at s core).target) (there core apart) ∙ kept.own core lt
      own_by core lt (inl same) =
          ap (λ (s : Seat). (awaited_at s core).target) (same_core core same)
          ∙ ap (λ (c : ℕ). (awaited_at seat c).target) same ∙ never_own

      by : (source target : ℕ) → IsPair f.regulation.cores source target → (target ≡ at.core) ⊎ (target ≢ at.core) →
          IsAwaited (knows_by (known_at new) source target) (noted_count new target) (newest (vectors_of source target))
          (awaited_at (seat_at g target) source)
      by source target pair (inr apart) =
          subst (λ (s : Seat). IsAwaited (knows_by (known_at new) source target) (noted_count new target)
          (newest (vectors_of source target))
          (awaited_at s source)) (sym (there target apart)) (other_core source target pair apart)
      by source target pair (inl same) =
          subst (λ (s : Seat). IsAwaited (knows_by (known_at new) source target) (noted_count new target)
          (newest (vectors_of source target))
          (awaited_at s source)) (sym (same_core target same))
          (subst (λ (c : ℕ). IsAwaited (knows_by (known_at new) source c) (noted_count new c)
          (newest (vectors_of source c))
          (awaited_at seat source)) (sym same)
          (mine source (record {
            source = pair.source;
            target = core_within;
            differ =
                λ is. pair.differ (is ∙ sym same);
          })))

-- ---- an edge

-- a seat once something else is awaited of one source
pub record IsPut (seat new : Seat) (source : ℕ) (w : Awaited) : Type 0 where
  pub at : awaited_at new source ≡ w
  pub others : (other : ℕ) → other ≢ source → awaited_at new other ≡ awaited_at seat other
  pub before : new.next ≤ seat.next
  pub lower : new.next ≤ w.target
  pub greatest : (bound : ℕ) → bound ≤ seat.next → bound ≤ w.target → bound ≤ new.next

module _ (notes : Notes) (edges : List (List (ℕ × ℕ))) (f : Following) (s : Regulation) (e : Edge) (seat : Seat)
    (pair : IsPair f.regulation.cores e.from.core e.to.core) (within : e.to.core < length f.seats)
    (small : e.to.count < never) (here : e.to.count ≡ noted_count notes e.to.core) (kept : Follows notes edges f)
    (few : s.cores ≡ f.regulation.cores) where
  abbrev pub target : ℕ
  target = e.to.core

  abbrev pub after : Following
  after = record { regulation = s; seats = slice_set f.seats e.to.core seat }

  here_seat : (core : ℕ) → core ≡ e.to.core → seat_at after core ≡ seat
  here_seat core same = ap (λ (c : ℕ). seat_at after c) same ∙ get_or-set_same f.seats e.to.core seat no_seat within

  there_seat : (core : ℕ) → core ≢ e.to.core → seat_at after core ≡ seat_at f core
  there_seat core apart = get_or-set_other f.seats e.to.core core seat no_seat apart

  pub follows_edge : (w : Awaited) (made : List StrideVector) → IsPut (seat_at f e.to.core) seat e.from.core w →
      IsRegulation notes (with_edge f.regulation.cores edges e) s →
      s.vectors ≡ slice_set f.regulation.vectors (pair_place f.regulation.cores e.from.core e.to.core) made →
      length f.regulation.vectors ≡ pair_count f.regulation.cores →
      IsAwaited (knows_by (known_at notes) e.from.core e.to.core) (noted_count notes e.to.core) (newest made) w →
      Follows notes (with_edge f.regulation.cores edges e) after
  follows_edge w made put regulation vectors long awaited = record {
    regulation = regulation;
    ahead = λ core lt. subst (λ (n : ℕ). IsAhead n (noted_count notes core) (seat_at after core)) (sym few)
        (ahead_by core (omega arith) (cases_eq core e.to.core));
    own = λ core lt. own_by core (omega arith) (cases_eq core e.to.core);
    awaited = λ a b p.
        subst (λ (n : ℕ). IsAwaited (knows_by (known_at notes) a b) (noted_count notes b)
        (newest (slice_index_or s.vectors (pair_place n a b) []))
        (awaited_at (seat_at after b) a)) (sym few)
        (by a b (subst (λ (n : ℕ). IsPair n a b) few p) (cases_eq a e.from.core) (cases_eq b e.to.core));
  }
    where
      cores : ℕ
      cores = f.regulation.cores

      place : ℕ
      place = pair_place f.regulation.cores e.from.core e.to.core

      ahead_by : (core : ℕ) → core < f.regulation.cores → (core ≡ e.to.core) ⊎ (core ≢ e.to.core) →
          IsAhead f.regulation.cores (noted_count notes core) (seat_at after core)
      ahead_by core lt (inr apart) =
          subst (λ (x : Seat). IsAhead f.regulation.cores (noted_count notes core) x) (sym (there_seat core apart))
          (kept.ahead core lt)
      ahead_by core lt (inl same) =
          let a = kept.ahead e.to.core pair.target in
          let late = awaited_late (knows_by (known_at notes) e.from.core e.to.core) (noted_count notes e.to.core)
          (newest made) w
          (omega arith) awaited in
          subst (λ (c : ℕ). IsAhead f.regulation.cores (noted_count notes c) (seat_at after core)) (sym same)
          (subst (λ (x : Seat). IsAhead f.regulation.cores (noted_count notes e.to.core) x) (sym (here_seat core same))
          (record {
            next = (let ahead = a.next in let up = put.greatest (noted_count notes e.to.core + 1) (omega arith)
                (omega arith) in omega arith);
            lower = λ source within_it. lower_by source within_it (cases_eq source e.from.core);
          }))
        where
          lower_by : (source : ℕ) → source < f.regulation.cores → (source ≡ e.from.core) ⊎ (source ≢ e.from.core) →
              seat.next ≤ (awaited_at seat source).target
          lower_by source lt (inl is) =
              let at : (awaited_at seat source).target ≡ w.target =
              ap (λ (c : ℕ). (awaited_at seat c).target) is ∙ ap (λ (x : Awaited). x.target) put.at in
              let le = put.lower in
              omega arith
          lower_by source lt (inr other) =
              let at : (awaited_at seat source).target ≡ (awaited_at (seat_at f e.to.core) source).target =
              ap (λ (x : Awaited). x.target) (put.others source other) in
              let le = put.before in
              let low = (kept.ahead e.to.core pair.target).lower source lt in
              omega arith

      own_by : (core : ℕ) → core < f.regulation.cores → (core ≡ e.to.core) ⊎ (core ≢ e.to.core) →
          (awaited_at (seat_at after core) core).target ≡ never
      own_by core lt (inr apart) = ap (λ (x : Seat). (awaited_at x core).target) (there_seat core apart)
          ∙ kept.own core lt
      own_by core lt (inl same) =
          ap (λ (x : Seat). (awaited_at x core).target) (here_seat core same)
          ∙ ap (λ (c : ℕ). (awaited_at seat c).target) same
          ∙ ap (λ (x : Awaited). x.target) (put.others e.to.core (λ is. pair.differ (sym is)))
          ∙ kept.own e.to.core pair.target

      -- another pair's vectors stay
      vectors_stay : (a b : ℕ) → IsPair f.regulation.cores a b → (a ≢ e.from.core) ⊎ (b ≢ e.to.core) →
          slice_index_or s.vectors (pair_place f.regulation.cores a b) []
          ≡ slice_index_or f.regulation.vectors (pair_place f.regulation.cores a b) []
      vectors_stay a b p apart =
          ap (λ (ls : List (List StrideVector)). get_or ls (pair_place cores a b) []) vectors
          ∙ get_or-set_other f.regulation.vectors place (pair_place cores a b) made [] (differ apart)
        where
          one : (source_at cores (pair_place cores a b) ≡ a) × (target_at cores (pair_place cores a b) ≡ b)
          one = let placed = pairs-placed cores a b p in (placed.1, placed.2)

          two : (source_at cores place ≡ e.from.core) × (target_at cores place ≡ e.to.core)
          two = let placed = pairs-placed cores e.from.core e.to.core pair in (placed.1, placed.2)

          differ : (a ≢ e.from.core) ⊎ (b ≢ e.to.core) → pair_place cores a b ≢ place
          differ (inl other) same = other (sym one.0 ∙ ap (λ (n : ℕ). source_at cores n) same ∙ two.0)
          differ (inr other) same = other (sym one.1 ∙ ap (λ (n : ℕ). target_at cores n) same ∙ two.1)

      stays : (a b : ℕ) (x : Awaited) → IsPair f.regulation.cores a b → (a ≢ e.from.core) ⊎ (b ≢ e.to.core) →
          x ≡ awaited_at (seat_at f b) a →
          IsAwaited (knows_by (known_at notes) a b) (noted_count notes b)
          (newest (slice_index_or s.vectors (pair_place f.regulation.cores a b) [])) x
      stays a b x p apart is =
          subst (λ (y : Awaited). IsAwaited (knows_by (known_at notes) a b) (noted_count notes b)
          (newest (slice_index_or s.vectors (pair_place f.regulation.cores a b) [])) y) (sym is)
          (subst (λ (vs : List StrideVector). IsAwaited (knows_by (known_at notes) a b) (noted_count notes b)
          (newest vs)
          (awaited_at (seat_at f b) a)) (sym (vectors_stay a b p apart)) (kept.awaited a b p))

      by : (a b : ℕ) → IsPair f.regulation.cores a b → (a ≡ e.from.core) ⊎ (a ≢ e.from.core) →
          (b ≡ e.to.core) ⊎ (b ≢ e.to.core) →
          IsAwaited (knows_by (known_at notes) a b) (noted_count notes b)
          (newest (slice_index_or s.vectors (pair_place f.regulation.cores a b) [])) (awaited_at (seat_at after b) a)
      by a b p source (inr apart) =
          stays a b (awaited_at (seat_at after b) a) p (inr apart) (ap (λ (x : Seat). awaited_at x a)
          (there_seat b apart))
      by a b p (inr apart) (inl same) =
          stays a b (awaited_at (seat_at after b) a) p (inl apart)
          (ap (λ (x : Seat). awaited_at x a) (here_seat b same) ∙ put.others a apart
          ∙ ap (λ (c : ℕ). awaited_at (seat_at f c) a) (sym same))
      by a b p (inl is) (inl same) =
          let placed = pairs-placed cores e.from.core e.to.core pair in
          let vs : slice_index_or s.vectors place [] ≡ made =
          ap (λ (ls : List (List StrideVector)). get_or ls place []) vectors
          ∙ get_or-set_same f.regulation.vectors place made [] (omega (arith, placed.0, long)) in
          let x : awaited_at (seat_at after b) a ≡ w =
          ap (λ (y : Seat). awaited_at y a) (here_seat b same) ∙ ap (λ (c : ℕ). awaited_at seat c) is ∙ put.at in
          subst (λ (y : Awaited). IsAwaited (knows_by (known_at notes) a b) (noted_count notes b)
          (newest (slice_index_or s.vectors (pair_place f.regulation.cores a b) [])) y) (sym x)
          (subst (λ (c : ℕ). IsAwaited (knows_by (known_at notes) c b) (noted_count notes b)
          (newest (slice_index_or s.vectors (pair_place f.regulation.cores c b) [])) w) (sym is)
          (subst (λ (c : ℕ). IsAwaited (knows_by (known_at notes) e.from.core c) (noted_count notes c)
          (newest (slice_index_or s.vectors (pair_place f.regulation.cores e.from.core c) [])) w) (sym same)
          (subst (λ (us : List StrideVector). IsAwaited (knows_by (known_at notes) e.from.core e.to.core)
          (noted_count notes e.to.core) (newest us) w)
          (sym vs) awaited)))

-- ---- the same from what the code gives

-- the seat that was taken out of the list
pub seat_was : (f : Following) (core : ℕ) (seat : Seat) → core < length f.seats → seat ≡ get_or f.seats core seat →
    seat ≡ seat_at f core
seat_was f core seat within is = is ∙ get_or_default f.seats core seat no_seat within

-- the edge's target has a seat
pub seated : (f now : Following) (e : Edge) (len : ℕ) → f ≡ now → CanFollow now.regulation e → len ≡ length f.seats →
    len ≡ f.regulation.cores → e.to.core < length f.seats
seated f now e len is can long few =
    let target = can.pair.target in
    let same = ap (λ (x : Following). x.regulation.cores) is in
    omega arith

-- the newest vector takes the edge
pub step_on : (vs : List StrideVector) (w after : Awaited) (e : ℕ × ℕ) (v : StrideVector) → All IsGrowing vs →
    end_target vs < e.1 → 0 < length vs → takes (up_to w.reached) (newest vs) e ≡ true → v ≡ taking (newest vs) e →
    after ≡ awaited_with w (newest vs) e → (knows : Knows) (noted : ℕ) → noted ≡ e.1 →
    IsAwaited knows noted (newest vs) w →
    (told knows vs e ≡ slice_set vs (length vs - 1) v) × IsAwaited knows noted (newest (slice_set vs (length vs - 1) v))
    after
step_on vs w after e v growing later some t vector awaited knows noted here h =
    let rises = newest_rises vs growing in
    let taken : takes knows (newest vs) e ≡ true = sym (takes_same knows noted (newest vs) w e rises here h) ∙ t in (
      told_on knows vs e some taken ∙ ap (λ (u : StrideVector). slice_set vs (length vs - 1) u) (sym vector),
      subst (λ (u : StrideVector). IsAwaited knows noted u after) (sym (newest_set vs v some ∙ vector))
          (subst (λ (x : Awaited). IsAwaited knows noted (taking (newest vs) e) x) (sym awaited)
          (awaited_taken knows noted (newest vs) w e rises later here taken h)),
    )

-- it doesn't, or there is none
pub step_new : (vs : List StrideVector) (w : Awaited) (e : ℕ × ℕ) (v : StrideVector) → All IsGrowing vs →
    (length vs ≡ 0) ⊎ (takes (up_to w.reached) (newest vs) e ≡ false) → v ≡ opened e → (knows : Knows) (noted : ℕ) →
    noted ≡ e.1 → IsAwaited knows noted (newest vs) w →
    (told knows vs e ≡ vs ++ v ∷ []) × IsAwaited knows noted (newest (vs ++ v ∷ [])) none_awaited
step_new vs w e v growing refused vector knows noted here h = (
  told_new knows vs e (by refused) ∙ ap (λ (u : StrideVector). vs ++ u ∷ []) (sym vector),
  subst (λ (u : StrideVector). IsAwaited knows noted u none_awaited) (sym (newest_push vs v ∙ vector))
      (awaited_opened knows noted e),
)
  where
    by : (length vs ≡ 0) ⊎ (takes (up_to w.reached) (newest vs) e ≡ false) →
        (length vs ≡ 0) ⊎ (takes knows (newest vs) e ≡ false)
    by (inl none) = inl none
    by (inr f) = inr (sym (takes_same knows noted (newest vs) w e (newest_rises vs growing) here h) ∙ f)

-- what the regulator holds before and after the edge, of whose pair this is the list
pub record Holds (f : Following) (s : Regulation) (e : Edge) (place : ℕ) (list made : List StrideVector) : Type 0 where
  pub cores : s.cores ≡ f.regulation.cores
  pub long : length f.regulation.vectors ≡ pair_count f.regulation.cores
  pub place_is : place ≡ pair_place f.regulation.cores e.from.core e.to.core
  pub list_is : list ≡ slice_index_or f.regulation.vectors place []
  pub made_is : s.vectors ≡ slice_set f.regulation.vectors place made

pub edge_follows : (now f : Following) (s : Regulation) (e : Edge) (before seat : Seat) (place : ℕ)
    (list made : List StrideVector)
    (w after : Awaited) → f ≡ now → CanFollow now.regulation e → e.to.core < length f.seats → e.to.count < never →
    Holds f s e place list made → before ≡ seat_at f e.to.core → w ≡ awaited_at before e.from.core →
    IsPut before seat e.from.core after →
    ((knows : Knows) (noted : ℕ) → noted ≡ e.to.count → IsAwaited knows noted (newest list) w →
    (told knows list (counts e) ≡ made) × IsAwaited knows noted (newest made) after) →
    (notes : Notes) (edges : List (List (ℕ × ℕ))) → e.to.count ≡ noted_count notes e.to.core → Follows notes edges now →
    Follows notes (with_edge now.regulation.cores edges e) (record {
      regulation = s;
      seats =
          slice_set f.seats e.to.core seat;
    })
edge_follows now f s e before seat place list made w after is can within small holds before_is w_is put step notes edges
    here kept =
    subst (λ (x : Following).
    Follows notes (with_edge x.regulation.cores edges e) (record {
      regulation = s;
      seats =
          slice_set f.seats e.to.core seat;
    })) is
    (follows_edge notes edges f s e seat pair within small here whole holds.cores after made
    (subst (λ (x : Seat). IsPut x seat e.from.core after) before_is put)
    (tell notes edges f.regulation s e whole.regulation pair (omega (arith, here)) holds.cores
    (vectors ∙ ap (λ (vs : List StrideVector). slice_set f.regulation.vectors (pair_place cores e.from.core e.to.core)
    vs)
    (sym (ap (λ (vs : List StrideVector). told knows vs (counts e)) (sym there) ∙ made_by.0))))
    vectors holds.long made_by.1)
  where
    cores : ℕ
    cores = f.regulation.cores

    knows : Knows
    knows = knows_by (known_at notes) e.from.core e.to.core

    pair : IsPair f.regulation.cores e.from.core e.to.core
    pair = subst (λ (x : Following). IsPair x.regulation.cores e.from.core e.to.core) (sym is) can.pair

    whole : Follows notes edges f
    whole = subst (λ (x : Following). Follows notes edges x) (sym is) kept

    there : list ≡ slice_index_or f.regulation.vectors (pair_place f.regulation.cores e.from.core e.to.core) []
    there = holds.list_is ∙ ap (λ (p : ℕ). slice_index_or f.regulation.vectors p []) holds.place_is

    vectors : s.vectors ≡ slice_set f.regulation.vectors (pair_place f.regulation.cores e.from.core e.to.core) made
    vectors = holds.made_is ∙ ap (λ (p : ℕ). slice_set f.regulation.vectors p made) holds.place_is

    awaited : awaited_at (seat_at f e.to.core) e.from.core ≡ w
    awaited = sym (w_is ∙ ap (λ (x : Seat). awaited_at x e.from.core) before_is)

    made_by : (told (knows_by (known_at notes) e.from.core e.to.core) list (counts e) ≡ made)
        × IsAwaited (knows_by (known_at notes) e.from.core e.to.core) (noted_count notes e.to.core) (newest made) after
    made_by = step knows (noted_count notes e.to.core) (sym here)
        (subst (λ (vs : List StrideVector). IsAwaited knows (noted_count notes e.to.core) (newest vs) w) (sym there)
        (subst (λ (x : Awaited). IsAwaited knows (noted_count notes e.to.core)
        (newest (slice_index_or f.regulation.vectors (pair_place f.regulation.cores e.from.core e.to.core) []))
        x) awaited
        (whole.awaited e.from.core e.to.core pair)))

-- where the pair's vectors end before
pub edge_before : (now f : Following) (e : Edge) (place : ℕ) (list : List StrideVector) → f ≡ now →
    CanFollow now.regulation e → place ≡ pair_place f.regulation.cores e.from.core e.to.core →
    list ≡ slice_index_or f.regulation.vectors place [] → end_target list < e.to.count
edge_before now f e place list is can place_is list_is =
    subst (λ (vs : List StrideVector). end_target vs < e.to.count)
    (sym (list_is ∙ ap (λ (p : ℕ). slice_index_or f.regulation.vectors p []) place_is))
    (subst (λ (x : Following). end_target (slice_index_or x.regulation.vectors
    (pair_place x.regulation.cores e.from.core e.to.core) [])
    < e.to.count) (sym is) can.later)

-- and after
pub edge_ends : (now f : Following) (s : Regulation) (e : Edge) (place : ℕ) (list made : List StrideVector) → f ≡ now →
    CanFollow now.regulation e → Holds f s e place list made → end_target made ≤ e.to.count →
    end_target (slice_index_or s.vectors (pair_place now.regulation.cores e.from.core e.to.core) []) ≤ e.to.count
edge_ends now f s e place list made is can holds ends =
    subst (λ (x : Following). end_target (slice_index_or s.vectors (pair_place x.regulation.cores e.from.core e.to.core)
    []) ≤ e.to.count) is
    (subst (λ (vs : List StrideVector). end_target vs ≤ e.to.count) (sym at) ends)
  where
    pair : IsPair f.regulation.cores e.from.core e.to.core
    pair = subst (λ (x : Following). IsPair x.regulation.cores e.from.core e.to.core) (sym is) can.pair

    here : ℕ
    here = pair_place f.regulation.cores e.from.core e.to.core

    at : slice_index_or s.vectors (pair_place f.regulation.cores e.from.core e.to.core) [] ≡ made
    at = ap (λ (ls : List (List StrideVector)). get_or ls here [])
        (holds.made_is ∙ ap (λ (p : ℕ). slice_set f.regulation.vectors p made) holds.place_is)
        ∙ get_or-set_same f.regulation.vectors here made []
        (omega (arith, holds.long, (pairs-placed f.regulation.cores e.from.core e.to.core pair).0))
