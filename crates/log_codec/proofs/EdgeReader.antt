-- A loop that reads the edges into a core, and puts each into the list of its pair.
use Rattle.std.proofs.Common.{◌≡◌, ◌≢◌, ℕ, ◌+◌, ◌-◌, ◌<◌, ◌≤◌, inl, inr, Bool, true, false, cond, ◌==◌, List, [], ◌∷◌}
use Rattle.std.proofs.Common.{◌++◌, length, reverse, get_or}
use Rattle.std.proofs.Common.{set, replicate, Option, None, Some, Result, Ok, Err, refl, sym, ap, subst, ◌∙◌}
use Rattle.std.proofs.Common.{append_assoc, arith}
use Rattle.std.proofs.lemmas.Bool.{cases_eq, cases_order}
use Rattle.std.proofs.lemmas.Bool.Decides.{nat_tests}
use Rattle.std.proofs.lemmas.List.{append-nil, get_or_append_left, get_or_default, get_or_past, get_or_push}
use Rattle.std.proofs.lemmas.List.{get_or-replicate, get_or-set_other}
use Rattle.std.proofs.lemmas.List.{get_or-set_same, length-append, length-replicate, length-set, reverse-append}
use Rattle.std.proofs.lemmas.List.FromFn.{fill_by_all, get_or-map-range_with_len, length-map-range_with_len}
use Rattle.rtr_types.specs.declared.TheConstants.{CORES_MAX}
use Rattle.rtr_types.specs.Pairs.{IsPair, pair_count, pair_place, source_at, target_at}
use Rattle.rtr_types.proofs.PairPlaces.{pairs-placed, places-paired}
use Rattle.log_codec.specs.declared.codec_fault.CodecFault.{CodecFault}
use Rattle.log_codec.specs.declared.codec_fault.CodecFault.TheVariants as faults
use Rattle.log_codec.specs.declared.incoming.Incoming.{Incoming}
use Rattle.log_codec.specs.Faults.{◌>>=◌, Fails}
use Rattle.log_codec.specs.Incoming.{Keeps, pairs_of, from_source, remember, target_count, with_into}
use Rattle.log_codec.specs.Reading.{incoming_at, into_at, put_into_lists, targets_at}
use Rattle.rtr_types.specs.Turns.{count_up}
use Rattle.rtr_types.proofs.Ranges.{zero_at}
use Rattle.log_codec.specs.Turns.{read_in_turn}
use Rattle.log_codec.proofs.InTurn.{with_front, begins, goes_on, ends, is_done}
use Rattle.log_codec.proofs.Merges.{from-append, from_same, from_other}
use Rattle.log_codec.proofs.NextEdges.{keeps-more, keeps-none}
use Rattle.log_codec.proofs.ReadingSteps.{bind_ok, ok_is}

-- ---- the lists of the pairs

-- what is put at the end of a pair's list
abbrev put_at : (cores target : ℕ) → List Incoming → ℕ → List (ℕ × ℕ)
put_at cores target edges place = cond (target_at cores place == target) (from_source (source_at cores place) edges) []

with-at : (cores : ℕ) (lists : List (List (ℕ × ℕ))) (target : ℕ) (edges : List Incoming) (place : ℕ) →
    place < pair_count cores →
    get_or (with_into cores lists target edges) place [] ≡ get_or lists place [] ++ put_at cores target edges place
with-at cores lists target edges place below =
    get_or-map-range_with_len (λ place. get_or lists place [] ++ put_at cores target edges place) 0 (pair_count cores)
    place place [] below (omega arith)

length-with : (cores : ℕ) (lists : List (List (ℕ × ℕ))) (target : ℕ) (edges : List Incoming) →
    length (with_into cores lists target edges) ≡ pair_count cores
length-with cores lists target edges =
    length-map-range_with_len (λ place. get_or lists place [] ++ put_at cores target edges place) 0 (pair_count cores)

put-none : (cores target place : ℕ) → put_at cores target [] place ≡ []
put-none cores target place = by (target_at cores place == target)
  where
    by : (t : Bool) → cond t (from_source (source_at cores place) []) [] ≡ []
    by true = refl
    by false = refl

with-none : (cores : ℕ) (lists : List (List (ℕ × ℕ))) (target : ℕ) → length lists ≡ pair_count cores →
    lists ≡ with_into cores lists target []
with-none cores lists target long =
    fill_by_all (λ place. get_or lists place [] ++ put_at cores target [] place) lists (pair_count cores) [] long
    (λ place below. sym (ap (λ (l : List (ℕ × ℕ)). get_or lists place [] ++ l) (put-none cores target place)
    ∙ append-nil (get_or lists place [])))

-- one more edge is put at the end of its pair's list
put-own : (cores target : ℕ) (edges : List Incoming) (e : Incoming) → IsPair cores e.source target →
    put_at cores target (edges ++ e ∷ []) (pair_place cores e.source target)
    ≡ put_at cores target edges (pair_place cores e.source target) ++ e.counts ∷ []
put-own cores target edges e pair =
    let p = pairs-placed cores e.source target pair in
    let place = pair_place cores e.source target in
    let target_is = p.2 in
    let t : (target_at cores place == target) ≡ true = grind (arith, nat_tests) in
    let more : from_source (source_at cores place) (edges ++ e ∷ [])
    ≡ from_source (source_at cores place) edges ++ e.counts ∷ [] =
    from-append (source_at cores place) edges (e ∷ [])
    ∙ ap (λ (l : List (ℕ × ℕ)). from_source (source_at cores place) edges ++ l)
    (from_same (source_at cores place) e [] (sym p.1)) in
    rw t more

put-other : (cores target : ℕ) (edges : List Incoming) (e : Incoming) (place : ℕ) → place < pair_count cores →
    place ≢ pair_place cores e.source target →
    put_at cores target (edges ++ e ∷ []) place ≡ put_at cores target edges place
put-other cores target edges e place below not = elim (cases_eq (target_at cores place) target) [
  | inl is ↦
      let t : (target_at cores place == target) ≡ true = grind (arith, nat_tests) in
      let back = (places-paired cores place below).1 in
      let differ : e.source ≢ source_at cores place =
      λ same. not (sym (back_is (source_at cores place) e.source (target_at cores place) target (sym same) is ∙ back))
      in
      rw t (from-append (source_at cores place) edges (e ∷ [])
      ∙ ap (λ (l : List (ℕ × ℕ)). from_source (source_at cores place) edges ++ l)
      (from_other (source_at cores place) e [] differ)
      ∙ append-nil (from_source (source_at cores place) edges))
  | inr other ↦ let t : (target_at cores place == target) ≡ false = grind (arith, nat_tests) in rw t refl
]
  where
    back_is : (i k a b : ℕ) → i ≡ k → a ≡ b → pair_place cores k b ≡ pair_place cores i a
    back_is i k a b p q = ap (λ (n : ℕ). pair_place cores n b) (sym p) ∙ ap (λ (n : ℕ). pair_place cores i n) (sym q)

pub with-more : (cores : ℕ) (lists : List (List (ℕ × ℕ))) (target : ℕ) (edges : List Incoming) (e : Incoming) →
    IsPair cores e.source target
    → set (with_into cores lists target edges) (pair_place cores e.source target)
    (get_or (with_into cores lists target edges) (pair_place cores e.source target) [] ++ e.counts ∷ [])
    ≡ with_into cores lists target (edges ++ e ∷ [])
with-more cores lists target edges e pair =
    let old = with_into cores lists target edges in
    let at = pair_place cores e.source target in
    let list = get_or old at [] ++ e.counts ∷ [] in
    fill_by_all (λ place. get_or lists place [] ++ put_at cores target (edges ++ e ∷ []) place) (set old at list)
    (pair_count cores) [] (length-set old at list
    ∙ length-with cores lists target edges) (λ place below. each place below)
  where
    each : (place : ℕ) → place < pair_count cores →
        get_or (set (with_into cores lists target edges) (pair_place cores e.source target)
        (get_or (with_into cores lists target edges) (pair_place cores e.source target) [] ++ e.counts ∷ [])) place []
        ≡ get_or lists place []
        ++ put_at cores target (edges ++ e ∷ []) place
    each place below = elim (cases_eq place (pair_place cores e.source target)) [
      | inl is ↦
          let at = pair_place cores e.source target in
          let inside = (pairs-placed cores e.source target pair).0 in
          let long = length-with cores lists target edges in
          let here : get_or (set (with_into cores lists target edges) at
          (get_or (with_into cores lists target edges) at [] ++ e.counts ∷ [])) at []
          ≡ get_or lists at [] ++ put_at cores target (edges ++ e ∷ []) at =
          get_or-set_same (with_into cores lists target edges) at
          (get_or (with_into cores lists target edges) at [] ++ e.counts ∷ []) [] (omega arith)
          ∙ ap (λ (l : List (ℕ × ℕ)). l ++ e.counts ∷ []) (with-at cores lists target edges at inside)
          ∙ append_assoc (get_or lists at []) (put_at cores target edges at) (e.counts ∷ [])
          ∙ ap (λ (l : List (ℕ × ℕ)). get_or lists at [] ++ l) (sym (put-own cores target edges e pair)) in
          subst (λ (k : ℕ). get_or (set (with_into cores lists target edges) at
          (get_or (with_into cores lists target edges) at [] ++ e.counts ∷ [])) k []
          ≡ get_or lists k [] ++ put_at cores target (edges ++ e ∷ []) k) (sym is) here
      | inr not ↦
          let at = pair_place cores e.source target in
          get_or-set_other (with_into cores lists target edges) at place
          (get_or (with_into cores lists target edges) at [] ++ e.counts ∷ []) [] not
          ∙ with-at cores lists target edges place below
          ∙ ap (λ (l : List (ℕ × ℕ)). get_or lists place [] ++ l) (sym (put-other cores target edges e place below not))
    ]

-- the lists after one more edge, as the code makes them
pub lists-more : (cores : ℕ) (old lists : List (List (ℕ × ℕ))) (target : ℕ) (edges : List Incoming) (e : Incoming)
    (place : ℕ) (was new : List (ℕ × ℕ)) →
    IsPair cores e.source target → lists ≡ with_into cores old target edges
    → place ≡ pair_place cores e.source target → was ≡ get_or lists place was → new ≡ was ++ e.counts ∷ [] →
    set lists place new ≡ with_into cores old target (edges ++ e ∷ [])
lists-more cores old lists target edges e place was new pair made at is pushed =
    let all = with_into cores old target edges in
    let inside = (pairs-placed cores e.source target pair).0 in
    let long = length-with cores old target edges in
    let there : was ≡ get_or all (pair_place cores e.source target) [] =
    is ∙ ap (λ (l : List (List (ℕ × ℕ))). get_or l place was) made ∙ ap (λ (k : ℕ). get_or all k was) at
    ∙ get_or_default all (pair_place cores e.source target) was [] (omega arith) in
    ap (λ (l : List (List (ℕ × ℕ))). set l place new) made ∙ ap (λ (k : ℕ). set all k new) at
    ∙ ap (λ (l : List (ℕ × ℕ)). set all (pair_place cores e.source target) l)
    (pushed ∙ ap (λ (l : List (ℕ × ℕ)). l ++ e.counts ∷ []) there)
    ∙ with-more cores old target edges e pair

-- ---- the loop

-- the edges read so far, what is kept of them, and what is still read
pub record Reads (totals : List ℕ) (target count counter : ℕ) (old lists : List (List (ℕ × ℕ))) (last : Option Incoming)
    (counts bytes rest : List ℕ) : Type 0 where
  pub edges : List Incoming
  pub keeps : Keeps last counts (reverse edges)
  pub made : lists ≡ with_into (length totals) old target edges
  pub read : with_front edges (read_in_turn (incoming_at totals target) remember (count - counter) (reverse edges) rest)
      ≡ read_in_turn (incoming_at totals target) remember count [] bytes

pub reads-start : (totals : List ℕ) (target count : ℕ) (old : List (List (ℕ × ℕ))) (bytes : List ℕ) →
    length old ≡ pair_count (length totals) →
    Reads totals target count 0 old old None (replicate CORES_MAX 0) bytes bytes
reads-start totals target count old bytes long = record {
  edges = [];
  keeps = keeps-none (replicate CORES_MAX 0) (length-replicate {A = ℕ} CORES_MAX 0) (λ k lt. zero_at CORES_MAX k);
  made = with-none (length totals) old target long;
  read = begins (incoming_at totals target) remember count [] bytes;
}

pub reads-more : (totals : List ℕ) (target count counter : ℕ) (old lists : List (List (ℕ × ℕ))) (last : Option Incoming)
    (counts bytes rest : List ℕ)
    (e : Incoming) (after : List ℕ) (place : ℕ) (was new : List (ℕ × ℕ))
    → length totals ≤ CORES_MAX → counter < count → IsPair (length totals) e.source target →
    (r : Reads totals target count counter old lists last counts bytes rest)
    → ((before : List Incoming) → Keeps last counts before → incoming_at totals target before rest ≡ Ok (e, after)) →
    place ≡ pair_place (length totals) e.source target → was ≡ get_or lists place was → new ≡ was ++ e.counts ∷ []
    → Reads totals target count (counter + 1) old (set lists place new) (Some e) (set counts e.source e.counts.0) bytes
    after
reads-more totals target count counter old lists last counts bytes rest e after place was new few lt pair r one at is
    pushed =
    let source = pair.source in
    let turned : e ∷ reverse r.edges ≡ reverse (r.edges ++ e ∷ []) = sym (reverse-append r.edges (e ∷ [])) in
    let kept = keeps-more last counts (reverse r.edges) e (set counts e.source e.counts.0) (omega arith) r.keeps refl
    (length-set counts e.source e.counts.0
    ∙ r.keeps.places) in
    let read = goes_on (incoming_at totals target) remember r.edges count counter (reverse r.edges) rest e after
    (read_in_turn (incoming_at totals target) remember count [] bytes) lt (one (reverse r.edges) r.keeps) r.read in
    record {
      edges = r.edges ++ e ∷ [];
      keeps = subst (Keeps (Some e) (set counts e.source e.counts.0)) turned kept;
      made = lists-more (length totals) old lists target r.edges e place was new pair r.made at is pushed;
      read = subst (λ (before : List Incoming).
          with_front (r.edges ++ e ∷ [])
          (read_in_turn (incoming_at totals target) remember (count - (counter + 1)) before after)
          ≡ read_in_turn (incoming_at totals target) remember count [] bytes) turned read;
    }

put-fails : (e : CodecFault) (cores : ℕ) (lists : List (List (ℕ × ℕ))) (target : ℕ)
    (read : Result (List Incoming × List ℕ) ℕ) → Fails e read →
    Fails e (put_into_lists cores lists target read)
put-fails faults.OutOfMemory cores lists target read h = tt
put-fails (faults.Bad part) cores lists target read h = ap (put_into_lists cores lists target) h

pub reads-fails : (totals : List ℕ) (target count counter : ℕ) (old lists : List (List (ℕ × ℕ)))
    (last : Option Incoming) (counts bytes rest : List ℕ)
    (e : CodecFault) → counter < count → (r : Reads totals target count counter old lists last counts bytes rest)
    → ((before : List Incoming) → Keeps last counts before → Fails e (incoming_at totals target before rest)) →
    Fails e (put_into_lists (length totals) old target
    (read_in_turn (incoming_at totals target) remember count [] bytes))
reads-fails totals target count counter old lists last counts bytes rest e lt r one =
    put-fails e (length totals) old target (read_in_turn (incoming_at totals target) remember count [] bytes)
    (ends (incoming_at totals target) remember e r.edges count counter (reverse r.edges) rest
    (read_in_turn (incoming_at totals target) remember count [] bytes) lt (one (reverse r.edges) r.keeps) r.read)

pub reads-done : (totals : List ℕ) (target count counter : ℕ) (old lists : List (List (ℕ × ℕ))) (last : Option Incoming)
    (counts bytes rest : List ℕ) →
    count ≤ counter → Reads totals target count counter old lists last counts bytes rest
    → put_into_lists (length totals) old target (read_in_turn (incoming_at totals target) remember count [] bytes)
    ≡ Ok (lists, rest)
reads-done totals target count counter old lists last counts bytes rest le r =
    let all = is_done (incoming_at totals target) remember r.edges count counter (reverse r.edges) rest
    (read_in_turn (incoming_at totals target) remember count [] bytes) le r.read in
    ap (put_into_lists (length totals) old target) all ∙ ap (λ (l : List (List (ℕ × ℕ))). Ok (l, rest)) (sym r.made)

-- ---- the loop over the targets

-- the edges into one more target are put into the lists of their pairs
pub pair-more : (cores : ℕ) (into : List (List Incoming)) (edges : List Incoming) →
    with_into cores (pairs_of cores into) (length into) edges
    ≡ pairs_of cores (into ++ edges ∷ [])
pair-more cores into edges =
    fill_by_all (λ place. from_source (source_at cores place) (get_or (into ++ edges ∷ []) (target_at cores place) []))
    (with_into cores (pairs_of cores into) (length into) edges) (pair_count cores) []
    (length-with cores (pairs_of cores into) (length into) edges)
    (λ place below. each place below)
  where
    old : ℕ → List (ℕ × ℕ)
    old place = from_source (source_at cores place) (get_or into (target_at cores place) [])

    at : (place : ℕ) → old place ++ put_at cores (length into) edges place
        ≡ from_source (source_at cores place) (get_or (into ++ edges ∷ []) (target_at cores place) [])
    at place = elim (cases_order (target_at cores place) (length into)) [
      | inl is ↦
          let i = source_at cores place in
          let t : (target_at cores place == length into) ≡ true = grind (arith, nat_tests) in
          let none : get_or into (target_at cores place) [] ≡ [] =
          get_or_past into (target_at cores place) [] (omega arith) in
          let here : get_or (into ++ edges ∷ []) (target_at cores place) [] ≡ edges =
          get_or_push into edges [] (target_at cores place) (sym is) in
          rw (t, none, here) refl
      | inr (inl before) ↦
          let t : (target_at cores place == length into) ≡ false = grind (arith, nat_tests) in
          let same : get_or (into ++ edges ∷ []) (target_at cores place) [] ≡ get_or into (target_at cores place) [] =
          get_or_append_left into (edges ∷ []) [] (target_at cores place) before in
          rw (t, same) (append-nil (old place))
      | inr (inr after) ↦
          let t : (target_at cores place == length into) ≡ false = grind (arith, nat_tests) in
          let long : length (into ++ edges ∷ []) ≡ length into + 1 = length-append into (edges ∷ []) in
          let none : get_or into (target_at cores place) [] ≡ [] =
          get_or_past into (target_at cores place) [] (omega arith) in
          let past : get_or (into ++ edges ∷ []) (target_at cores place) [] ≡ [] =
          get_or_past (into ++ edges ∷ []) (target_at cores place) [] (omega arith) in
          rw (t, none, past) refl
    ]

    each : (place : ℕ) → place < pair_count cores →
        get_or (with_into cores (pairs_of cores into) (length into) edges) place []
        ≡ from_source (source_at cores place) (get_or (into ++ edges ∷ []) (target_at cores place) [])
    each place below =
        let was : get_or (pairs_of cores into) place [] ≡ old place =
        get_or-map-range_with_len old 0 (pair_count cores) place place [] below (omega arith) in
        with-at cores (pairs_of cores into) (length into) edges place below
        ∙ ap (λ (l : List (ℕ × ℕ)). l ++ put_at cores (length into) edges place) was
        ∙ at place

-- the edges into the targets so far, and what is still read
pub record Fills (totals : List ℕ) (target : ℕ) (lists : List (List (ℕ × ℕ))) (bytes rest : List ℕ) : Type 0 where
  pub into : List (List Incoming)
  pub many : length into ≡ target
  pub made : lists ≡ pairs_of (length totals) into
  pub read : with_front into
      (read_in_turn (into_at totals) count_up (target_count (length totals) - target) target rest)
      ≡ read_in_turn (into_at totals) count_up (target_count (length totals)) 0 bytes

pub fills-long : (totals : List ℕ) (target : ℕ) (lists : List (List (ℕ × ℕ))) (bytes rest : List ℕ) →
    Fills totals target lists bytes rest →
    length lists ≡ pair_count (length totals)
fills-long totals target lists bytes rest f =
    let cores = length totals in
    ap (λ (l : List (List (ℕ × ℕ))). length l) f.made
    ∙ length-map-range_with_len
    (λ place. from_source (source_at cores place) (get_or f.into (target_at cores place) [])) 0 (pair_count cores)

pub fills-start : (totals : List ℕ) (lists : List (List (ℕ × ℕ))) (bytes : List ℕ) →
    lists ≡ replicate (pair_count (length totals)) [] →
    Fills totals 0 lists bytes bytes
fills-start totals lists bytes is =
    let cores = length totals in
    record {
      into = [];
      many = refl;
      made = is ∙ fill_by_all (λ place. from_source (source_at cores place) (get_or [] (target_at cores place) []))
          (replicate (pair_count cores) [])
          (pair_count cores) [] (length-replicate {A = List (ℕ × ℕ)} (pair_count cores) [])
          (λ place below. get_or-replicate {A = List (ℕ × ℕ)} (pair_count cores) place [] [] below);
      read = begins (into_at totals) count_up (target_count cores) 0 bytes;
    }

pub fills-more : (totals : List ℕ) (target : ℕ) (lists : List (List (ℕ × ℕ))) (bytes rest : List ℕ)
    (new : List (List (ℕ × ℕ))) (after : List ℕ) →
    target < target_count (length totals) → Fills totals target lists bytes rest
    → put_into_lists (length totals) lists target (into_at totals target rest) ≡ Ok (new, after) →
    Fills totals (target + 1) new bytes after
fills-more totals target lists bytes rest new after lt f is =
    let cores = length totals in
    let b = bind_ok (into_at totals target rest) (λ into. Ok (with_into cores lists target into.0, into.1)) (new, after)
    is in
    let edges = b.0.0 in
    let p = ok_is (with_into cores lists target edges, b.0.1) (new, after) b.2 in
    let lists_are : with_into cores lists target edges ≡ new = ap (λ (q : List (List (ℕ × ℕ)) × List ℕ). q.0) p in
    let rest_is : b.0.1 ≡ after = ap (λ (q : List (List (ℕ × ℕ)) × List ℕ). q.1) p in
    let read_is : into_at totals target rest ≡ Ok (edges, after) = b.1 ∙ ap (λ (r : List ℕ). Ok (edges, r)) rest_is in
    record {
      into = f.into ++ edges ∷ [];
      many = let long = length-append f.into (edges ∷ []) in let many = f.many in omega arith;
      made =
          sym lists_are ∙ ap (λ (l : List (List (ℕ × ℕ))). with_into cores l target edges) f.made
          ∙ ap (λ (t : ℕ). with_into cores (pairs_of cores f.into) t edges) (sym f.many)
          ∙ pair-more cores f.into edges;
      read = goes_on (into_at totals) count_up f.into (target_count cores) target target rest edges after
          (read_in_turn (into_at totals) count_up (target_count cores) 0 bytes) lt read_is f.read;
    }

-- the fault of a reading, whatever lists it would have been put into
put-fault : (e : CodecFault) (cores : ℕ) (lists : List (List (ℕ × ℕ))) (target : ℕ)
    (read : Result (List Incoming × List ℕ) ℕ) →
    Fails e (put_into_lists cores lists target read) → Fails e read
put-fault faults.OutOfMemory cores lists target read h = tt
put-fault (faults.Bad part) cores lists target (Ok x) h = absurd cc
put-fault (faults.Bad part) cores lists target (Err p) h = let same : p ≡ part = cc in ap (λ (n : ℕ). Err n) same

targets-fail : (e : CodecFault) (totals bytes : List ℕ) →
    Fails e (read_in_turn (into_at totals) count_up (target_count (length totals)) 0 bytes) →
    Fails e (targets_at totals bytes)
unfolding targets_at
targets-fail faults.OutOfMemory totals bytes h = tt
targets-fail (faults.Bad part) totals bytes h =
    ap (λ (r : Result (List (List Incoming) × List ℕ) ℕ). r >>= λ into. Ok (pairs_of (length totals) into.0, into.1)) h

pub fills-fails : (totals : List ℕ) (target : ℕ) (lists : List (List (ℕ × ℕ))) (bytes rest : List ℕ) (e : CodecFault) →
    target < target_count (length totals) →
    Fills totals target lists bytes rest
    → Fails e (put_into_lists (length totals) lists target (into_at totals target rest)) →
    Fails e (targets_at totals bytes)
fills-fails totals target lists bytes rest e lt f is =
    targets-fail e totals bytes
    (ends (into_at totals) count_up e f.into (target_count (length totals)) target target rest
    (read_in_turn (into_at totals) count_up (target_count (length totals)) 0 bytes) lt
    (put-fault e (length totals) lists target (into_at totals target rest) is) f.read)

pub fills-done : (totals : List ℕ) (target : ℕ) (lists : List (List (ℕ × ℕ))) (bytes rest : List ℕ) →
    target_count (length totals) ≤ target →
    Fills totals target lists bytes rest → targets_at totals bytes ≡ Ok (lists, rest)
unfolding targets_at
fills-done totals target lists bytes rest le f =
    let all = is_done (into_at totals) count_up f.into (target_count (length totals)) target target rest
    (read_in_turn (into_at totals) count_up (target_count (length totals)) 0 bytes) le f.read in
    ap (λ (r : Result (List (List Incoming) × List ℕ) ℕ). r >>= λ into. Ok (pairs_of (length totals) into.0, into.1))
    all
    ∙ ap (λ (l : List (List (ℕ × ℕ))). Ok (l, rest)) (sym f.made)
