-- The fourth part: pair by pair in version 1, target by target in version 2.
use Rattle.std.proofs.Common.{◌≡◌, ◌≢◌, ℕ, ◌+◌, ◌-◌, ◌*◌, ◌^◌, ◌<◌, ◌≤◌, inl, inr, true, false, ◌&&◌, ◌==◌, nat_lt}
use Rattle.std.proofs.Common.{nat_le, List, [], ◌∷◌, ◌++◌}
use Rattle.std.proofs.Common.{length, map, get_or, Result, Ok, refl, sym, ap, subst, ◌∙◌, append_assoc, arith}
use Rattle.std.specs.Prelude.{All, slice_index}
use Rattle.std.specs.List.{AllByRecursion, range_with_len}
use Rattle.std.proofs.lemmas.Bool.{cases_eq, cases_lt, and_parts}
use Rattle.std.proofs.lemmas.Bool.Decides.{nat_tests}
use Rattle.std.proofs.lemmas.List.{get_or_default}
use Rattle.std.proofs.lemmas.List.FromFn.{length-map-range_with_len, get_or-map-range_with_len, fill_by_all}
use Rattle.rtr_types.specs.Pairs.{IsPair, pair_count, pair_place, source_at, target_at}
use Rattle.rtr_types.proofs.PairPlaces.{pairs-placed, places-paired}
use Rattle.log_codec.specs.declared.codec_fault.TheConstants.{REDUCED}
use Rattle.log_codec.specs.declared.incoming.Incoming.{Incoming}
use Rattle.log_codec.specs.declared.version.Version.{Version}
use Rattle.log_codec.specs.declared.version.Version.TheVariants.{One, Two}
use Rattle.log_codec.specs.Faults.{◌>>=◌}
use Rattle.log_codec.specs.Incoming.{IncomingRises, IncomingStands, pairs_of, edges_out_of, incoming_edges, follows}
use Rattle.log_codec.specs.Incoming.{from_source, incoming, incoming_stands}
use Rattle.log_codec.specs.Incoming.{is_pair, last_source, last_target, remember, target_count, Follows}
use Rattle.log_codec.specs.Laws.{IsBytes}
use Rattle.rtr_types.specs.Turns.{StandInTurn, follow, count_up}
use Rattle.log_codec.specs.Turns.{alike, read_in_turn, spelled_in_turn}
use Rattle.rtr_types.specs.PairEdges.{AreEdges, EdgeRises, EdgeStands}
use Rattle.race_log.specs.Validity.{bound_at}
use Rattle.log_codec.specs.Spelling.{number, edges_text, incoming_text, into_text, pairs_text, targets_text}
use Rattle.log_codec.specs.Spelling.{reduced_text}
use Rattle.log_codec.specs.Reading.{number_at, edges_at, incoming_at, into_at, pairs_at, reduced_at, standing_into}
use Rattle.log_codec.specs.Reading.{targets_at}
use Rattle.log_codec.proofs.CountedLists.{counted_again, counted_takes, pair_by_pair_again}
use Rattle.log_codec.proofs.FieldLaws.{number_takes, number_again}
use Rattle.log_codec.proofs.InTurn.{turns_take, turns_again}
use Rattle.race_log.proofs.InTurn.{stand-map, stand-places, places-stand}
use Rattle.log_codec.proofs.Logs.{edges_take, edges_again}
use Rattle.race_log.proofs.Logs.{few_edges}
use Rattle.log_codec.proofs.Merges.{Merges, Rises, all-map, merge-is, merged-merges, length-merged}
use Rattle.log_codec.proofs.EdgeOrder.{InOrder, ReachesAll, last_counts, rises-turn, turn-order}
use Rattle.log_codec.proofs.EdgeOrder.{each, from-all, all-from}
use Rattle.log_codec.proofs.EdgeOrder.{from-none, bounded, rises-of}
use Rattle.log_codec.proofs.EdgeOrder.{length-joined}
use Rattle.log_codec.proofs.ReadingSteps.{bind_ok, guard_ok, ok_is, Takes, Takes-then}
use Rattle.race_log.proofs.Parts.{AllEdges, AllStand, all-placed, placed-all}
use Rattle.race_log.proofs.Parts.{total-small}

-- ---- pair by pair

pairs_take : (totals bytes : List ℕ) (reduced : List (List (ℕ × ℕ))) (rest : List ℕ) → IsBytes bytes →
    pairs_at totals bytes ≡ Ok (reduced, rest) →
    Takes bytes (pairs_text reduced) rest × (length reduced ≡ pair_count (length totals)) × AllStand totals reduced
pairs_take totals bytes reduced rest are e =
    turns_take (λ place. edges_at (bound_at totals place)) count_up (alike edges_text)
    (λ place es. AreEdges (bound_at totals place) es)
    (λ place. edges_take (bound_at totals place)) (pair_count (length totals)) 0 bytes reduced rest are e

pairs_again : (limit : ℕ) (totals : List ℕ) (reduced : List (List (ℕ × ℕ))) (rest : List ℕ) → limit < 2 ^ 32 →
    All (λ t. t ≤ limit) totals →
    length reduced ≡ pair_count (length totals) → AllStand totals reduced →
    pairs_at totals (pairs_text reduced ++ rest) ≡ Ok (reduced, rest)
pairs_again = pair_by_pair_again edges_at edges_text AreEdges edges_again

-- ---- an edge into a core

follows-true : (before : List Incoming) (e : Incoming) → follows before e ≡ true → Follows before e
follows-true [] e t = grind (arith, nat_tests)
follows-true (d ∷ before) e t = elim (cases_lt d.counts.1 e.counts.1) [
  | inl lt ↦ inl lt
  | inr le ↦
      let same : d.counts.1 ≡ e.counts.1 = grind (arith, nat_tests) in
      let low : d.source < e.source = grind (arith, nat_tests) in
      inr (same, low)
]

true-follows : (before : List Incoming) (e : Incoming) → Follows before e → follows before e ≡ true
true-follows [] e f = grind (arith, nat_tests)
true-follows (d ∷ before) e (inl lt) = grind (arith, nat_tests)
true-follows (d ∷ before) e (inr same) = let is = same.0 in let low = same.1 in grind (arith, nat_tests)

pub stands-true : (totals : List ℕ) (target : ℕ) (before : List Incoming) (e : Incoming) →
    incoming_stands totals target before e ≡ true →
    IncomingStands totals target before e
stands-true totals target before e t =
    let p = and_parts (is_pair (length totals) e.source target)
    ((follows before e && nat_lt (last_source e.source before) e.counts.0)
    && (nat_le e.counts.0 (slice_index totals e.source) && nat_le e.counts.1 (slice_index totals target))) t in
    let q = and_parts (follows before e && nat_lt (last_source e.source before) e.counts.0)
    (nat_le e.counts.0 (slice_index totals e.source)
    && nat_le e.counts.1 (slice_index totals target)) p.1 in
    let r = and_parts (follows before e) (nat_lt (last_source e.source before) e.counts.0) q.0 in
    let s = and_parts (nat_le e.counts.0 (slice_index totals e.source)) (nat_le e.counts.1 (slice_index totals target))
    q.1 in
    let p0 = p.0 in let r1 = r.1 in let s0 = s.0 in let s1 = s.1 in
    record {
      pair = record {
        source = grind (arith, nat_tests);
        target = grind (arith, nat_tests);
        differ =
            λ same. grind (arith, nat_tests);
      };
      rises = record { follows = follows-true before e r.0; source = grind (arith, nat_tests) };
      source_most = grind (arith, nat_tests);
      target_most = grind (arith, nat_tests);
    }

pub true-stands : (totals : List ℕ) (target : ℕ) (before : List Incoming) (e : Incoming) →
    IncomingStands totals target before e →
    incoming_stands totals target before e ≡ true
true-stands totals target before e h =
    let p0 = h.pair.source in let p1 = h.pair.target in let p2 = h.pair.differ in let r1 = h.rises.source in let s0 =
    h.source_most in let s1 = h.target_most in
    let a : is_pair (length totals) e.source target ≡ true = grind (arith, nat_tests) in
    let b = true-follows before e h.rises.follows in
    let c : nat_lt (last_source e.source before) e.counts.0 ≡ true = grind (arith, nat_tests) in
    let d : nat_le e.counts.0 (slice_index totals e.source) ≡ true = grind (arith, nat_tests) in
    let f : nat_le e.counts.1 (slice_index totals target) ≡ true = grind (arith, nat_tests) in
    rw (a, b, c, d, f) refl

abbrev after_source : List ℕ → ℕ → List Incoming → ℕ → ℕ → ℕ × List ℕ → Result (Incoming × List ℕ) ℕ
after_source totals target before b source a =
    standing_into totals target before
    (record { source = source; counts = (last_source source before + a.0, last_target before + b) }) a.1

abbrev after_target : List ℕ → ℕ → List Incoming → ℕ → ℕ × List ℕ → Result (Incoming × List ℕ) ℕ
after_target totals target before b source = number_at REDUCED source.1 >>= after_source totals target before b source.0

incoming_takes : (totals : List ℕ) (target : ℕ) (before : List Incoming) (bytes : List ℕ) (e : Incoming)
    (rest : List ℕ) → IsBytes bytes →
    incoming_at totals target before bytes ≡ Ok (e, rest) → Takes bytes (incoming_text before e) rest ×
    IncomingStands totals target before e
unfolding incoming_at
incoming_takes totals target before bytes e rest are h =
    let b = bind_ok (number_at REDUCED bytes) (λ b. number_at REDUCED b.1 >>= after_target totals target before b.0)
    (e, rest) h in
    let i = bind_ok (number_at REDUCED b.0.1) (after_target totals target before b.0.0) (e, rest) b.2 in
    let a = bind_ok (number_at REDUCED i.0.1) (after_source totals target before b.0.0 i.0.0) (e, rest) i.2 in
    let made : Incoming = record {
      source = i.0.0;
      counts =
          (last_source i.0.0 before + a.0.0, last_target before + b.0.0);
    } in
    let g = guard_ok (incoming_stands totals target before made) REDUCED (made, a.0.1) (e, rest) a.2 in
    let tb = number_takes REDUCED bytes b.0.0 b.0.1 are b.1 in
    let ti = number_takes REDUCED b.0.1 i.0.0 i.0.1 tb.0.rest_fits i.1 in
    let ta = number_takes REDUCED i.0.1 a.0.0 a.0.1 ti.0.rest_fits a.1 in
    let t1 = Takes-then b.0.1 (number i.0.0) i.0.1 (number a.0.0) a.0.1 ti.0 ta.0 in
    let t2 = Takes-then bytes (number b.0.0) b.0.1 (number i.0.0 ++ number a.0.0) a.0.1 tb.0 t1 in
    let b_is : b.0.0 ≡ last_target before + b.0.0 - last_target before = omega arith in
    let a_is : a.0.0 ≡ last_source i.0.0 before + a.0.0 - last_source i.0.0 before = omega arith in
    let named : Takes bytes (incoming_text before made) a.0.1 =
    rises b.0.0 a.0.0 (last_target before + b.0.0 - last_target before)
    (last_source i.0.0 before + a.0.0 - last_source i.0.0 before) i.0.0 a.0.1 b_is a_is t2 in
    subst (λ (y : Incoming × List ℕ). Takes bytes (incoming_text before y.0) y.1 ×
    IncomingStands totals target before y.0) g.1
    (named, stands-true totals target before made g.0)
  where
    rises : (b a c d i : ℕ) (after : List ℕ) → b ≡ c → a ≡ d → Takes bytes (number b ++ (number i ++ number a)) after →
        Takes bytes (number c ++ (number i ++ number d)) after
    rises b a c d i after one two t =
        subst (λ (n : ℕ). Takes bytes (number c ++ (number i ++ number n)) after) two
        (subst (λ (n : ℕ). Takes bytes (number n ++ (number i ++ number a)) after) one t)

incoming_again : (totals : List ℕ) (target : ℕ) (before : List Incoming) (e : Incoming) (rest : List ℕ) →
    length totals < 2 ^ 32 →
    ((j : ℕ) → slice_index totals j < 2 ^ 32) → IncomingStands totals target before e →
    incoming_at totals target before (incoming_text before e ++ rest) ≡ Ok (e, rest)
unfolding incoming_at
incoming_again totals target before e rest few small h =
    let regrouped : incoming_text before e ++ rest ≡ number (e.counts.1 - last_target before)
    ++ (number e.source ++ (number (e.counts.0 - last_source e.source before) ++ rest)) = simp append_assoc in
    let p0 = h.pair.source in
    let s0 = h.source_most in
    let s1 = h.target_most in
    let here = small e.source in
    let there = small target in
    let b = number_again REDUCED (e.counts.1 - last_target before)
    (number e.source ++ (number (e.counts.0 - last_source e.source before) ++ rest))
    (omega arith) in
    let i = number_again REDUCED e.source (number (e.counts.0 - last_source e.source before) ++ rest) (omega arith) in
    let a = number_again REDUCED (e.counts.0 - last_source e.source before) rest (omega arith) in
    let up = h.rises.source in
    let a_is : last_source e.source before + (e.counts.0 - last_source e.source before) ≡ e.counts.0 = omega arith in
    let b_is : last_target before + (e.counts.1 - last_target before) ≡ e.counts.1 = reached before h.rises.follows in
    ap (incoming_at totals target before) regrouped
    ∙ rw (b, i, a, a_is, b_is, true-stands totals target before e h) refl
  where
    reached : (before : List Incoming) → Follows before e →
        last_target before + (e.counts.1 - last_target before) ≡ e.counts.1
    reached [] f = omega arith
    reached (d ∷ before) (inl lt) = omega arith
    reached (d ∷ before) (inr same) = let is = same.0 in omega arith

-- ---- the edges into a core

into_takes : (totals : List ℕ) (target : ℕ) (bytes : List ℕ) (edges : List Incoming) (rest : List ℕ) → IsBytes bytes →
    into_at totals target bytes
    ≡ Ok (edges, rest) →
    Takes bytes (into_text edges) rest × StandInTurn (IncomingStands totals target) remember [] edges
unfolding into_at
into_takes totals target =
    counted_takes (incoming_at totals target) remember incoming_text (IncomingStands totals target)
    (incoming_takes totals target) REDUCED []

into_again : (totals : List ℕ) (target : ℕ) (edges : List Incoming) (rest : List ℕ) → length totals < 2 ^ 32 →
    ((j : ℕ) → slice_index totals j < 2 ^ 32) →
    length edges < 2 ^ 32 → StandInTurn (IncomingStands totals target) remember [] edges →
    into_at totals target (into_text edges ++ rest) ≡ Ok (edges, rest)
unfolding into_at
into_again totals target edges rest few small fits h =
    counted_again (incoming_at totals target) remember incoming_text (IncomingStands totals target)
    (λ s x r stands. incoming_again totals target s x r few small stands) REDUCED [] edges rest fits h

-- ---- the lists of the pairs, and the edges into each core

-- the edges from a core into another are the pair's
pub list-of : (cores : ℕ) (reduced : List (List (ℕ × ℕ))) (target i : ℕ) → i ≢ target →
    edges_out_of cores reduced target i
    ≡ get_or reduced (pair_place cores i target) []
list-of cores reduced target i not = let t : (i == target) ≡ false = grind (arith, nat_tests) in rw t refl

pub list-own : (cores : ℕ) (reduced : List (List (ℕ × ℕ))) (target i : ℕ) → i ≡ target →
    edges_out_of cores reduced target i ≡ []
list-own cores reduced target i is = let t : (i == target) ≡ true = grind (arith, nat_tests) in rw t refl

-- each pair's edges rise
abbrev pub AllRise : ℕ → List (List (ℕ × ℕ)) → Type 0
AllRise cores reduced = (place : ℕ) → place < pair_count cores →
    StandInTurn EdgeRises follow (0, 0) (get_or reduced place [])

pub lists-rise : (cores : ℕ) (reduced : List (List (ℕ × ℕ))) (target : ℕ) → target < cores → AllRise cores reduced →
    (i : ℕ) → i < cores →
    StandInTurn EdgeRises follow (0, 0) (edges_out_of cores reduced target i)
lists-rise cores reduced target inside rise i lt = elim (cases_eq i target) [
  | inl is ↦ subst (StandInTurn EdgeRises follow (0, 0)) (sym (list-own cores reduced target i is)) tt
  | inr not ↦
      let place = pairs-placed cores i target (record { source = lt; target = inside; differ = not }) in
      subst (StandInTurn EdgeRises follow (0, 0)) (sym (list-of cores reduced target i not))
      (rise (pair_place cores i target) place.0)
]

pub into-merges : (cores : ℕ) (reduced : List (List (ℕ × ℕ))) (target : ℕ) → target < cores → AllRise cores reduced →
    Merges cores (edges_out_of cores reduced target) (incoming_edges cores reduced target)
into-merges cores reduced target inside rise =
    merged-merges cores (edges_out_of cores reduced target)
    (λ i lt. rises-of (0, 0) (edges_out_of cores reduced target i) (lists-rise cores reduced target inside rise i lt))

-- those from another core are the pair's
pub into-pair : (cores : ℕ) (reduced : List (List (ℕ × ℕ))) (source target : ℕ) → IsPair cores source target →
    AllRise cores reduced →
    from_source source (incoming_edges cores reduced target) ≡ get_or reduced (pair_place cores source target) []
into-pair cores reduced source target pair rise =
    (into-merges cores reduced target pair.target rise).own source pair.source
    ∙ list-of cores reduced target source pair.differ

-- the list of a pair, as it is looked up
pub list-is : (cores : ℕ) (reduced : List (List (ℕ × ℕ))) (target source place : ℕ) (list : List (ℕ × ℕ)) →
    source ≢ target →
    place ≡ pair_place cores source target → place < length reduced → list ≡ get_or reduced place list →
    list ≡ edges_out_of cores reduced target source
list-is cores reduced target source place list not at inside is =
    is ∙ get_or_default reduced place list [] inside ∙ ap (λ (k : ℕ). get_or reduced k []) at
    ∙ sym (list-of cores reduced target source not)

-- edges in order whose lists rise, rise in turn
pub merges-turn : (cores : ℕ) (lists : ℕ → List (ℕ × ℕ)) (edges : List Incoming) → Merges cores lists edges →
    ((i : ℕ) → i < cores → StandInTurn EdgeRises follow (0, 0) (lists i)) → StandInTurn IncomingRises remember [] edges
unfolding ReachesAll last_counts
merges-turn cores lists edges m rise = rises-turn [] edges tt m.sorted (λ i. elim (cases_lt i cores) [
  | inl lt ↦ subst (StandInTurn EdgeRises follow (0, 0)) (sym (m.own i lt)) (rise i lt)
  | inr le ↦ subst (StandInTurn EdgeRises follow (0, 0)) (sym (m.none i le)) tt
])

pub into-rises : (cores : ℕ) (reduced : List (List (ℕ × ℕ))) (target : ℕ) → target < cores → AllRise cores reduced →
    StandInTurn IncomingRises remember [] (incoming_edges cores reduced target)
into-rises cores reduced target inside rise =
    merges-turn cores (edges_out_of cores reduced target) (incoming_edges cores reduced target)
    (into-merges cores reduced target inside rise)
    (lists-rise cores reduced target inside rise)

-- what is asked of an edge beside its place in order
record Inside (totals : List ℕ) (target : ℕ) (e : Incoming) : Type 0 where
  pair : IsPair (length totals) e.source target
  source_most : e.counts.0 ≤ slice_index totals e.source
  target_most : e.counts.1 ≤ slice_index totals target

inside-stand : (totals : List ℕ) (target : ℕ) (before edges : List Incoming) →
    StandInTurn IncomingRises remember before edges →
    AllByRecursion (Inside totals target) edges → StandInTurn (IncomingStands totals target) remember before edges
inside-stand totals target before [] rise all = tt
inside-stand totals target before (e ∷ edges) rise all = (
  record { pair = all.0.pair; rises = rise.0; source_most = all.0.source_most; target_most = all.0.target_most },
  inside-stand totals target (e ∷ before) edges rise.1 all.1,
)

-- the pair at a place has the bounds of its two cores
bound-is : (totals : List ℕ) (i target : ℕ) → IsPair (length totals) i target →
    ◌≡◌ {A = ℕ × ℕ} (bound_at totals (pair_place (length totals) i target))
    (slice_index totals i, slice_index totals target)
bound-is totals i target pair =
    let p = pairs-placed (length totals) i target pair in
    both (ap (λ (k : ℕ). slice_index totals k) p.1) (ap (λ (k : ℕ). slice_index totals k) p.2)
  where
    both : {a b c d : ℕ} → a ≡ b → c ≡ d → ◌≡◌ {A = ℕ × ℕ} (a, c) (b, d)
    both p q = cc

pub edges-rise : (totals : List ℕ) (reduced : List (List (ℕ × ℕ))) → AllEdges totals reduced →
    AllRise (length totals) reduced
edges-rise totals reduced are place below =
    stand-map (EdgeStands (bound_at totals place)) EdgeRises follow (λ s x h. h.rises) (0, 0) (get_or reduced place [])
    (are place below)

pub into-stands : (totals : List ℕ) (reduced : List (List (ℕ × ℕ))) (target : ℕ) → target < length totals →
    AllEdges totals reduced →
    StandInTurn (IncomingStands totals target) remember [] (incoming_edges (length totals) reduced target)
into-stands totals reduced target inside are =
    let rise = edges-rise totals reduced are in
    let m = into-merges (length totals) reduced target inside rise in
    inside-stand totals target [] (incoming_edges (length totals) reduced target)
    (into-rises (length totals) reduced target inside rise)
    (all-from (Inside totals target) (incoming_edges (length totals) reduced target)
    (λ i. elim (cases_lt i (length totals)) [
      | inl lt ↦ subst (AllByRecursion (λ c. Inside totals target (incoming i c))) (sym (m.own i lt)) (own i lt)
      | inr le ↦ subst (AllByRecursion (λ c. Inside totals target (incoming i c))) (sym (m.none i le)) tt
    ]))
  where
    own : (i : ℕ) → i < length totals →
        AllByRecursion (λ c. Inside totals target (incoming i c)) (edges_out_of (length totals) reduced target i)
    own i lt = elim (cases_eq i target) [
      | inl is ↦ subst (AllByRecursion (λ c. Inside totals target (incoming i c)))
          (sym (list-own (length totals) reduced target i is)) tt
      | inr not ↦
          let pair : IsPair (length totals) i target = record { source = lt; target = inside; differ = not } in
          let place = pair_place (length totals) i target in
          let below = (pairs-placed (length totals) i target pair).0 in
          let stand = subst (λ (most : ℕ × ℕ). AreEdges most (get_or reduced place [])) (bound-is totals i target pair)
          (are place below) in
          subst (AllByRecursion (λ c. Inside totals target (incoming i c)))
          (sym (list-of (length totals) reduced target i not))
          (each (EdgeStands (slice_index totals i, slice_index totals target))
          (λ c. Inside totals target (incoming i c)) follow
          (λ s c h. record { pair = pair; source_most = h.source_most; target_most = h.target_most }) (0, 0)
          (get_or reduced place []) stand)
    ]

-- ---- back to the pairs

-- the list of a pair, from the edges into its target
pair-from : (cores : ℕ) (into : List (List Incoming)) (i target : ℕ) → IsPair cores i target →
    get_or (pairs_of cores into) (pair_place cores i target) []
    ≡ from_source i (get_or into target [])
pair-from cores into i target pair =
    let p = pairs-placed cores i target pair in
    get_or-map-range_with_len (λ place. from_source (source_at cores place) (get_or into (target_at cores place) [])) 0
    (pair_count cores)
    (pair_place cores i target) (pair_place cores i target) [] p.0 (omega arith)
    ∙ ap (λ (k : ℕ). from_source k (get_or into (target_at cores (pair_place cores i target)) [])) p.1
    ∙ ap (λ (k : ℕ). from_source i (get_or into k [])) p.2

-- edges that stand in turn are those of the pairs that they make
into-again : (totals : List ℕ) (into : List (List Incoming)) (target : ℕ) → target < length totals →
    StandInTurn (IncomingStands totals target) remember [] (get_or into target []) →
    get_or into target [] ≡ incoming_edges (length totals) (pairs_of (length totals) into) target
into-again totals into target inside stand =
    let edges = get_or into target [] in
    let order = turn-order edges
    (stand-map (IncomingStands totals target) IncomingRises remember (λ s x h. h.rises) [] edges stand) in
    let all = each (IncomingStands totals target) (λ e. IsPair (length totals) e.source target) remember
    (λ s e h. h.pair) [] edges stand in
    merge-is (length totals) (edges_out_of (length totals) (pairs_of (length totals) into) target) edges
    (λ i lt. rise edges i lt order refl all)
    (record { sorted = order.sorted; own = λ i lt. own edges i lt refl all; none = λ i le. past edges i le all })
  where
    past : (edges : List Incoming) (i : ℕ) → length totals ≤ i →
        AllByRecursion (λ e. IsPair (length totals) e.source target) edges → from_source i edges ≡ []
    past edges i le all =
        from-none i edges (all-map (λ e. IsPair (length totals) e.source target) (λ e. e.source ≢ i)
        (λ e h. let lt = h.source in λ is. omega arith) edges all)

    own : (edges : List Incoming) (i : ℕ) → i < length totals → edges ≡ get_or into target [] →
        AllByRecursion (λ e. IsPair (length totals) e.source target) edges →
        from_source i edges ≡ edges_out_of (length totals) (pairs_of (length totals) into) target i
    own edges i lt is all = elim (cases_eq i target) [
      | inl same ↦ from-none i edges
          (all-map (λ e. IsPair (length totals) e.source target) (λ e. e.source ≢ i)
          (λ e h. λ e_is. h.differ (e_is ∙ same)) edges all)
          ∙ sym (list-own (length totals) (pairs_of (length totals) into) target i same)
      | inr not ↦
          ap (λ (l : List Incoming). from_source i l) is
          ∙ sym (list-of (length totals) (pairs_of (length totals) into) target i not
          ∙ pair-from (length totals) into i target (record { source = lt; target = inside; differ = not }))
    ]

    rise : (edges : List Incoming) (i : ℕ) → i < length totals → InOrder [] edges → edges ≡ get_or into target [] →
        AllByRecursion (λ e. IsPair (length totals) e.source target) edges →
        Rises (edges_out_of (length totals) (pairs_of (length totals) into) target i)
    rise edges i lt order is all =
        subst Rises (own edges i lt is all) (rises-of (last_counts i []) (from_source i edges) (order.rises i))

-- a core into which an edge can lead
pub target-inside : (cores target : ℕ) → target < target_count cores → target < cores
target-inside cores target lt = elim (cases_lt 1 cores) [
  | inl more ↦ let t : nat_lt 1 cores ≡ true = grind (arith, nat_tests) in rw t at lt
  | inr one ↦ let t : nat_lt 1 cores ≡ false = grind (arith, nat_tests) in let none : target < 0 = rw t at lt in
      absurd (omega arith)
]

inside-target : (cores source target : ℕ) → IsPair cores source target → target < target_count cores
inside-target cores source target pair =
    let a = pair.source in
    let b = pair.target in
    let more : 1 < cores = elim (cases_lt 1 cores) [ inl lt ↦ lt | inr le ↦ absurd (pair.differ (omega arith)) ] in
    let t : nat_lt 1 cores ≡ true = grind (arith, nat_tests) in
    rw t b

-- all edges into all cores
abbrev pub all_into : ℕ → List (List (ℕ × ℕ)) → List (List Incoming)
all_into cores reduced = map (incoming_edges cores reduced) (range_with_len 0 (target_count cores))

pub into-at : (cores : ℕ) (reduced : List (List (ℕ × ℕ))) (target : ℕ) → target < target_count cores →
    get_or (all_into cores reduced) target []
    ≡ incoming_edges cores reduced target
into-at cores reduced target lt =
    get_or-map-range_with_len (incoming_edges cores reduced) 0 (target_count cores) target target [] lt (omega arith)

pairs-again : (cores : ℕ) (reduced : List (List (ℕ × ℕ))) → length reduced ≡ pair_count cores → AllRise cores reduced →
    pairs_of cores (all_into cores reduced)
    ≡ reduced
pairs-again cores reduced long rise =
    sym (fill_by_all (λ place. from_source (source_at cores place)
    (get_or (all_into cores reduced) (target_at cores place) [])) reduced
    (pair_count cores) [] long (λ place below. at place below))
  where
    at : (place : ℕ) → place < pair_count cores →
        get_or reduced place [] ≡ from_source (source_at cores place)
        (get_or (all_into cores reduced) (target_at cores place) [])
    at place below =
        let p = places-paired cores place below in
        let i = source_at cores place in
        let t = target_at cores place in
        let inside = p.0.target in
        let m = into-merges cores reduced t inside rise in
        let there : from_source i (get_or (all_into cores reduced) t [])
        ≡ from_source i (incoming_edges cores reduced t) =
        ap (λ (l : List Incoming). from_source i l) (into-at cores reduced t (inside-target cores i t p.0)) in
        sym (there ∙ m.own i p.0.source ∙ list-of cores reduced t i p.0.differ
        ∙ ap (λ (k : ℕ). get_or reduced k []) p.1)

-- ---- target by target

-- the lists of the pairs that edges into each core make
made-edges : (totals : List ℕ) (into : List (List Incoming)) →
    ((target : ℕ) → target < target_count (length totals) →
    StandInTurn (IncomingStands totals target) remember [] (get_or into target [])) →
    AllEdges totals (pairs_of (length totals) into)
unfolding last_counts
made-edges totals into stand place below =
    let p = places-paired (length totals) place below in
    let i = source_at (length totals) place in
    let t = target_at (length totals) place in
    let edges = get_or into t [] in
    let h = stand t (inside-target (length totals) i t p.0) in
    let order = turn-order edges
    (stand-map (IncomingStands totals t) IncomingRises remember (λ s x g. g.rises) [] edges h) in
    let all = each (IncomingStands totals t)
    (λ e. (e.counts.0 ≤ slice_index totals e.source) × (e.counts.1 ≤ slice_index totals t)) remember
    (λ s e g. (g.source_most, g.target_most)) [] edges h in
    let bounds = from-all (λ e. (e.counts.0 ≤ slice_index totals e.source) × (e.counts.1 ≤ slice_index totals t))
    (λ (c : ℕ × ℕ). (c.0 ≤ (bound_at totals place).0) × (c.1 ≤ (bound_at totals place).1)) i
    (λ e is g. (subst (λ (k : ℕ). e.counts.0 ≤ slice_index totals k) is g.0, g.1)) edges all in
    let there : get_or (pairs_of (length totals) into) place [] ≡ from_source i edges =
    get_or-map-range_with_len
    (λ place. from_source (source_at (length totals) place) (get_or into (target_at (length totals) place) [])) 0
    (pair_count (length totals)) place place [] below (omega arith) in
    subst (AreEdges (bound_at totals place)) (sym there)
    (bounded (bound_at totals place) (0, 0) (from_source i edges) (order.rises i) bounds)

targets_take : (totals bytes : List ℕ) (reduced : List (List (ℕ × ℕ))) (rest : List ℕ) → IsBytes bytes →
    targets_at totals bytes ≡ Ok (reduced, rest) →
    Takes bytes (targets_text (length totals) reduced) rest × (length reduced ≡ pair_count (length totals)) ×
    AllEdges totals reduced
unfolding targets_at
targets_take totals bytes reduced rest are e =
    let cores = length totals in
    let r = bind_ok (read_in_turn (into_at totals) count_up (target_count cores) 0 bytes)
    (λ into. Ok (pairs_of cores into.0, into.1)) (reduced, rest) e in
    let into = r.0.0 in
    let t = turns_take (into_at totals) count_up (alike into_text)
    (λ target. StandInTurn (IncomingStands totals target) remember [])
    (λ s b x r. into_takes totals s b x r) (target_count cores) 0 bytes into r.0.1 are r.1 in
    let stand : (target : ℕ) → target < target_count cores →
    StandInTurn (IncomingStands totals target) remember [] (get_or into target []) = λ target lt.
    subst (λ (k : ℕ). StandInTurn (IncomingStands totals k) remember [] (get_or into target [])) (zero-plus target)
    (stand-places (λ target. StandInTurn (IncomingStands totals target) remember []) 0 into t.2 target []
    (subst (λ (n : ℕ). target < n) (sym t.1) lt)) in
    let same : into ≡ all_into cores (pairs_of cores into) =
    fill_by_all (incoming_edges cores (pairs_of cores into)) into (target_count cores) [] t.1
    (λ target lt. into-again totals into target (target-inside cores target lt) (stand target lt)) in
    let text : Takes bytes (targets_text cores (pairs_of cores into)) r.0.1 =
    subst (λ (l : List (List Incoming)). Takes bytes (spelled_in_turn (alike into_text) count_up 0 l) r.0.1) same t.0 in
    subst (λ (y : List (List (ℕ × ℕ)) × List ℕ). Takes bytes (targets_text cores y.0) y.1 ×
    (length y.0 ≡ pair_count cores) × AllEdges totals y.0)
    (ok_is (pairs_of cores into, r.0.1) (reduced, rest) r.2) (
      text,
      length-map-range_with_len (λ place. from_source (source_at cores place) (get_or into (target_at cores place) []))
          0 (pair_count cores),
      made-edges totals into stand,
    )
  where
    zero-plus : (k : ℕ) → 0 + k ≡ k
    zero-plus k = omega arith

-- how many edges lead into a core
pub few-into : (limit : ℕ) (totals : List ℕ) (reduced : List (List (ℕ × ℕ))) (target : ℕ) → target < length totals →
    All (λ t. t ≤ limit) totals →
    AllEdges totals reduced → length (incoming_edges (length totals) reduced target) ≤ length totals * limit
few-into limit totals reduced target inside most are =
    let sum = length-merged (length totals) (edges_out_of (length totals) reduced target) in
    let all = length-joined (edges_out_of (length totals) reduced target) limit 0 (length totals)
    (λ i lt. one i (omega arith)) in
    omega arith
  where
    one : (i : ℕ) → i < length totals → length (edges_out_of (length totals) reduced target i) ≤ limit
    one i lt = elim (cases_eq i target) [
      | inl is ↦ rw (list-own (length totals) reduced target i is) (omega arith)
      | inr not ↦
          let p = pairs-placed (length totals) i target (record { source = lt; target = inside; differ = not }) in
          let place = pair_place (length totals) i target in
          let few = few_edges (bound_at totals place) (get_or reduced place []) (are place p.0) in
          let small = total-small limit totals (source_at (length totals) place) most in
          rw (list-of (length totals) reduced target i not) (omega arith)
    ]

targets_again : (limit : ℕ) (totals : List ℕ) (reduced : List (List (ℕ × ℕ))) (rest : List ℕ) → limit < 2 ^ 32 →
    length totals * limit < 2 ^ 32 →
    length totals < 2 ^ 32 → All (λ t. t ≤ limit) totals → length reduced ≡ pair_count (length totals) →
    AllEdges totals reduced →
    targets_at totals (targets_text (length totals) reduced ++ rest) ≡ Ok (reduced, rest)
unfolding targets_at
targets_again limit totals reduced rest small together few most long are =
    let cores = length totals in
    let counts : (j : ℕ) → slice_index totals j < 2 ^ 32 = λ j. let t = total-small limit totals j most in
    omega arith in
    let stand : StandInTurn (λ target. Into totals target) count_up 0 (all_into cores reduced) =
    places-stand (λ target. Into totals target) 0 (all_into cores reduced) []
    (λ target lt. into-one target
    (subst (λ (n : ℕ). target < n) (length-map-range_with_len (incoming_edges cores reduced) 0 (target_count cores))
    lt)) in
    let again = turns_again (into_at totals) count_up (alike into_text) (λ target. Into totals target)
    (λ s x r h. into_again totals s x r few counts h.0 h.1) 0
    (all_into cores reduced) rest stand in
    let read : read_in_turn (into_at totals) count_up (target_count cores) 0 (targets_text cores reduced ++ rest)
    ≡ Ok (all_into cores reduced, rest) =
    subst (λ (n : ℕ). read_in_turn (into_at totals) count_up n 0 (targets_text cores reduced ++ rest)
    ≡ Ok (all_into cores reduced, rest))
    (length-map-range_with_len (incoming_edges cores reduced) 0 (target_count cores)) again in
    let pairs : pairs_of cores (all_into cores reduced) ≡ reduced =
    pairs-again cores reduced long (edges-rise totals reduced are) in
    rw read (ap (λ (l : List (List (ℕ × ℕ))). Ok (l, rest)) pairs)
  where
    -- edges into a core that can be spelled
    Into : List ℕ → ℕ → List Incoming → Type 0
    Into totals target edges = (length edges < 2 ^ 32) × StandInTurn (IncomingStands totals target) remember [] edges

    into-one : (target : ℕ) → target < target_count (length totals) →
        Into totals (0 + target) (get_or (all_into (length totals) reduced) target [])
    into-one target lt =
        let inside = target-inside (length totals) target lt in
        let count = few-into limit totals reduced target inside most are in
        let is = into-at (length totals) reduced target lt in
        let same : target ≡ 0 + target = omega arith in
        subst (λ (l : List Incoming). Into totals (0 + target) l) (sym is) (
          omega arith,
          subst (λ (k : ℕ). StandInTurn (IncomingStands totals k) remember []
              (incoming_edges (length totals) reduced target)) same
              (into-stands totals reduced target inside are),
        )

-- ---- the fourth part

pub reduced_takes : (v : Version) (totals bytes : List ℕ) (reduced : List (List (ℕ × ℕ))) (rest : List ℕ) →
    IsBytes bytes → reduced_at v totals bytes
    ≡ Ok (reduced, rest) →
    Takes bytes (reduced_text v (length totals) reduced) rest × (length reduced ≡ pair_count (length totals)) ×
    AllEdges totals reduced
reduced_takes One totals bytes reduced rest are e = let t = pairs_take totals bytes reduced rest are e in
    (t.0, t.1, all-placed totals reduced t.1 t.2)
reduced_takes Two totals bytes reduced rest are e = targets_take totals bytes reduced rest are e

pub reduced_again : (v : Version) (limit : ℕ) (totals : List ℕ) (reduced : List (List (ℕ × ℕ))) (rest : List ℕ) →
    limit < 2 ^ 32 →
    length totals * limit < 2 ^ 32 → length totals < 2 ^ 32 → All (λ t. t ≤ limit) totals →
    length reduced ≡ pair_count (length totals) →
    AllEdges totals reduced →
    reduced_at v totals (reduced_text v (length totals) reduced ++ rest) ≡ Ok (reduced, rest)
reduced_again One limit totals reduced rest small together few most long are =
    pairs_again limit totals reduced rest small most long (placed-all totals reduced long are)
reduced_again Two limit totals reduced rest small together few most long are =
    targets_again limit totals reduced rest small together few most long are
