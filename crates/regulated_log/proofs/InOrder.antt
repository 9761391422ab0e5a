-- The order of retirement meets the regulated log.
use Rattle.std.proofs.Common.{◌≡◌, ◌≢◌, ℕ, ◌+◌, ◌≤◌, ◌⊎◌, true, List, [], ◌∷◌, ◌++◌, refl, sym, ap, subst, ◌∙◌}
use Rattle.std.proofs.Common.{inl, inr, arith}
use Rattle.std.specs.Prelude.{slice_index, slice_index_or, nat_le}
use Rattle.std.specs.List.{AllByRecursion, Contains, flat_map}
use Rattle.std.proofs.lemmas.List.{get_or_default}
use Rattle.std.proofs.lemmas.Bool.{leb-true, cases_eq}
use Rattle.rtr_types.specs.Pairs.{IsPair, pair_place}
use Rattle.rtr_types.proofs.PairPlaces.{pairs-placed}
use Rattle.rtr_types.specs.declared.instr.Instr.{Instr}
use Rattle.rtr_types.specs.declared.pairs.Which.TheVariants.{Reduced, Regulated}
use Rattle.stride_vector.specs.declared.StrideVector.{StrideVector}
use Rattle.stride_vector.specs.Vectors.{edges_of}
use Rattle.race_log.specs.declared.recording.Recording.{Recording}
use Rattle.race_log.specs.Sources.{HasEdge, log_edges}
use Rattle.race_log.specs.Validity.{Valid, bound_at}
use Rattle.race_log.proofs.SourceLaws.{edges-are-paired, edges-within}
use Rattle.race_log.proofs.PairRises.{no_vector, position_at}
use Rattle.replay_core.specs.Plans.{plan_of}
use Rattle.replay_core.specs.Orders.{bump, counts, nought, Sourced}
use Rattle.replay_core.proofs.Counts.{bump_same, counts_on, counts_more, one_place, place_of}
use Rattle.replay_core.proofs.Lists.{places_law}
use Rattle.replay_core.proofs.Ready.{source_within, within_sourced}
use Rattle.edge_regulate.specs.Regulated.{Knowledge, knows_by}
use Rattle.regulated_log.specs.Logs.{with_regulated, IsPast}
use Rattle.regulated_log.specs.Laws.{OrderLaw, WithinLaw, ForwardLaw, RegulatedLaw, KnownRetired, PastLaw}
use Rattle.regulated_log.proofs.OnePair.{EachPosition, greedy_positions}
use Rattle.regulated_log.proofs.AllPairs.{all_contains, contains_all, between, edge_between_is, implies_law, valid_law}

-- ---- what is known retires before

-- what holds of each position of a vector holds of each edge
positions_all : (P : ℕ × ℕ → Type 0) (vectors : List StrideVector) (a b : ℕ) → AllByRecursion (EachPosition P) vectors →
    Contains (flat_map edges_of vectors) (a, b) → P (a, b)
positions_all P vectors a b each has =
    let p = position_at vectors a b has in
    let v = slice_index_or vectors p.k no_vector in
    let at = all_contains (EachPosition P) vectors v each (
      p.k,
      p.within,
      get_or_default vectors p.k v no_vector
          p.within,
    ) in
    subst P p.is (at p.m p.below)

-- at a place of the order, each regulated source of the core's next instruction has retired
source_retired : (known : Knowledge) (order : List ℕ) (r : Recording) (front : List ℕ) (core : ℕ) (rest : List ℕ)
    (from : Instr) → Valid r →
    IsPast r.params.cores order known → order ≡ front ++ core ∷ rest →
    Sourced (log_edges Reduced r) (counts nought front) core (counts nought front core + 1) →
    HasEdge Regulated (with_regulated known r) from (record { core = core; count = counts nought front core + 1 }) →
    from.count ≤ counts nought front from.core
source_retired known order r front core rest from valid past split sourced has =
    let n = counts nought front core + 1 in
    let p = edge_between_is known r from (record { core = core; count = n }) has in
    let place = pair_place r.params.cores from.core core in
    let edges = slice_index_or r.reduced place [] in
    let stand = valid.reduced place (pairs-placed r.params.cores from.core core p.0).0 in
    let before : ℕ × ℕ → Type 0 = λ (e : ℕ × ℕ). e.1 ≡ n → e.0 ≤ counts nought front from.core in
    let by_known = λ (a b : ℕ) (knows : nat_le a (known core b from.core) ≡ true) (is : b ≡ n).
    (let le = leb-true a (known core b from.core) knows in
    let same = ap (λ (m : ℕ). known core m from.core) is in
    let retired = past.each front core rest from.core split p.0 in
    let all : a ≤ counts nought front from.core = omega arith in all) in
    let by_edge = contains_all before edges
    (λ e here is. source_within (log_edges Reduced r) (counts nought front) core n sourced (record {
      core =
          from.core;
      count = e.0;
    })
    ((edges-are-paired Reduced r (record { core = from.core; count = e.0 }) (record { core = core; count = n })).1
    (p.0, subst (λ (b : ℕ). Contains edges (e.0, b)) is here))) in
    positions_all before (between known r from.core core) from.count n
    (greedy_positions before (bound_at r.totals place) (knows_by known from.core core) edges by_known stand by_edge) p.1
    refl

pub order_law : OrderLaw
order_law known order r valid past ordered = (places_law (plan_of Regulated (with_regulated known r)) order).1
    (λ front core rest split.
    let ready = (places_law (plan_of Reduced r) order).0 ordered front core rest split in
    record {
      inside = ready.inside;
      below = ready.below;
      sourced = within_sourced (log_edges Regulated (with_regulated known r)) (counts nought front) core
          (counts nought front core + 1)
          (λ from has. source_retired known order r front core rest from valid past split ready.sourced has);
    })

-- ---- whole orders

pub within_law : WithinLaw
within_law known order r valid past whole = record {
  each = λ core count of core_in of_in other some most.
      let each = valid.each_core in
      let all = whole.each core core_in in
      let p = place_of order nought core count (omega arith) (omega arith) in
      let pair : IsPair r.params.cores of core = record {
        source = omega arith;
        target = omega arith;
        differ =
            other;
      } in
      let retired = past.each p.front core p.rest of p.split pair in
      let same = ap (λ (n : ℕ). known core n of) p.before in
      let more = counts_more (counts nought p.front) (core ∷ p.rest) of in
      let on : counts nought order of ≡ counts (counts nought p.front) (core ∷ p.rest) of =
      ap (λ (l : List ℕ). counts nought l of) p.split
      ∙ ap (λ (f : ℕ → ℕ). f of) (counts_on nought p.front (core ∷ p.rest)) in
      let total = whole.each of of_in in
      let le : known core count of ≤ slice_index r.totals of = omega arith in
      le;
}

pub forward_law : ForwardLaw
forward_law known order r x y valid past ordered whole has =
    let good = valid_law known r valid (within_law known order r valid past whole) in
    let lies = edges-within Regulated (with_regulated known r) x y good has in
    let each = valid.each_core in
    let target = lies.pair.target in
    let some = lies.some_target in
    let most = lies.target_most in
    let all = whole.each y.core (omega arith) in
    let p = place_of order nought y.core y.count (omega arith) (omega arith) in
    let ready = (places_law (plan_of Reduced r) order).0 ordered p.front y.core p.rest p.split in
    let there = subst (λ (n : ℕ). HasEdge Regulated (with_regulated known r) x (record { core = y.core; count = n }))
    (sym p.before) has in
    record {
      front = p.front;
      rest = p.rest;
      place = p.split;
      target = p.before;
      source = source_retired known order r p.front y.core p.rest x valid past p.split ready.sourced there;
    }

pub regulated_law : RegulatedLaw
regulated_law known order r valid past ordered whole = record {
  forward = λ x y has. forward_law known order r x y valid past ordered whole has;
  implies = implies_law known r valid;
  ordered = order_law known order r valid past ordered;
  whole = record { each = whole.each };
  valid = valid_law known r valid (within_law known order r valid past whole);
}

-- ---- what is past

pub past_law : PastLaw
past_law pairs order known = (forth, back)
  where
    forth : KnownRetired pairs order known → IsPast pairs order known
    forth retired = record {
      each = λ front core rest of split other.
          at front core rest of split other (cases_eq (known core (counts nought front core + 1) of) 0);
    }
      where
        at : (front : List ℕ) (core : ℕ) (rest : List ℕ) (of : ℕ) → order ≡ front ++ core ∷ rest →
            IsPair pairs of core →
            (known core (counts nought front core + 1) of ≡ 0) ⊎ (known core (counts nought front core + 1) of ≢ 0) →
            known core (counts nought front core + 1) of ≤ counts nought front of
        at front core rest of split other (inl none) = omega arith
        at front core rest of split other (inr some) =
            let on : counts nought order core ≡ counts (counts nought front) (core ∷ rest) core =
            ap (λ (l : List ℕ). counts nought l core) split
            ∙ ap (λ (f : ℕ → ℕ). f core) (counts_on nought front (core ∷ rest)) in
            let one = bump_same (counts nought front) core core refl in
            let up = counts_more (bump (counts nought front) core) rest core in
            let b = retired core (counts nought front core + 1) of (known core (counts nought front core + 1) of) other
            (omega arith) (omega arith)
            (omega arith) (omega arith) in
            let target = b.target in
            let same = one_place order nought core b.front b.rest front rest b.place split (omega arith) in
            subst (λ (l : List ℕ). known core (counts nought front core + 1) of ≤ counts nought l of) same b.source

    back : IsPast pairs order known → KnownRetired pairs order known
    back past core count of a other some le first most =
        let p = place_of order nought core count (omega arith) most in
        let retired = past.each p.front core p.rest of p.split other in
        let same = ap (λ (n : ℕ). known core n of) p.before in
        record { front = p.front; rest = p.rest; place = p.split; target = p.before; source = omega arith }
