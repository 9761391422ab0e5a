-- The accesses that are kept of the ends of edges.
use Rattle.std.proofs.Common.{◌≡◌, ℕ, ◌+◌, ◌<◌, ◌≤◌, Bool, true, false, cond, List, [], ◌∷◌, length, map, take}
use Rattle.std.proofs.Common.{drop, get_or, refl, sym, ap, ◌∙◌, add-one, is_some, true≢false}
use Rattle.std.proofs.Math.Seq.{drop-cons}
use Rattle.std.proofs.lemmas.List.{drop_all}
use Rattle.std.proofs.lemmas.List.Elements.{All-head, All-more, All-nil, All-tail}
use Rattle.std.specs.List.{All}
use Rattle.std.specs.Prelude.{Option, Some, None, unwrap_or, if◌then◌else◌}
use Rattle.indexmap.specs.IndexMap.{IndexMap}
use Rattle.rtr_types.specs.Accesses.{is_same}
use Rattle.rtr_types.specs.declared.access.Access.{Access}
use Rattle.rtr_types.specs.declared.instr.Edge.{Edge}
use Rattle.rtr_types.specs.declared.instr.Instr.{Instr}
use Rattle.clock_core.proofs.Paths.{same_instr}
use Rattle.race_queries.specs.Conflicts.{access_at}
use Rattle.race_queries.specs.Ends.{HasAccess, HasAccesses, HasPlaces, ends_by, ends_of, kept_of}

-- ---- places

module _ {S : Type 0} (old new : IndexMap (ℕ × ℕ) (Option Access) S) where
  -- an edge more
  pub places_more : (edges : List Edge) (i : ℕ) (d : Edge) → i < length edges → HasPlaces old (take i edges) →
      ((at : Instr) → kept_of old at ≡ Some None → kept_of new at ≡ Some None) →
      kept_of new (get_or edges i d).from ≡ Some None → kept_of new (get_or edges i d).to ≡ Some None →
      HasPlaces new (take (i + 1) edges)
  places_more edges i d inside so_far others from to = record {
    from = All-more (λ (e : Edge). kept_of new e.from ≡ Some None) edges i d inside
        (λ k o lt. others _ (so_far.from k o lt)) from;
    to = All-more (λ (e : Edge). kept_of new e.to ≡ Some None) edges i d inside
        (λ k o lt. others _ (so_far.to k o lt)) to;
  }

pub no_places : {S : Type 0} (kept : IndexMap (ℕ × ℕ) (Option Access) S) → HasPlaces kept []
no_places kept = record {
  from = All-nil (λ (e : Edge). kept_of kept e.from ≡ Some None);
  to = All-nil (λ (e : Edge). kept_of kept e.to ≡ Some None);
}

-- ---- one access

-- the place of an instruction has the access, if it is the instruction's
pub access_put : (access : Access) (same : Bool) (old new : Option (Option Access)) (found : Option Access) →
    new ≡ cond same (Some (Some access)) old → old ≡ Some found →
    new ≡ Some (if same then Some access else found)
access_put access true old new found is was = is
access_put access false old new found is was = is ∙ was

-- a place without an access stays one, where another is made
pub none_put : (same : Bool) (old new : Option (Option Access)) → new ≡ cond same (Some None) old →
    old ≡ Some None → new ≡ Some None
none_put true old new is was = is
none_put false old new is was = is ∙ was

-- an instruction without a place has none
pub access_left : {S : Type 0} (kept : IndexMap (ℕ × ℕ) (Option Access) S) (access : Access) →
    false ≡ is_some (kept_of kept access.at) → HasAccess kept kept access
access_left kept access none = record { each = λ at found was. by at found was (is_same access.at at) refl }
  where
    by : (at : Instr) (found : Option Access) → kept_of kept at ≡ Some found → (same : Bool) →
        is_same access.at at ≡ same → kept_of kept at ≡ Some (if is_same access.at at then Some access else found)
    by at found was true so =
        absurd (true≢false (sym (none
        ∙ ap (λ (x : Instr). is_some (kept_of kept x)) (same_instr access.at at so) ∙ ap is_some was)))
    by at found was false so = was ∙ ap (λ (b : Bool). Some (if b then Some access else found)) (sym so)

-- ---- accesses

module _ {S : Type 0} (first old new : IndexMap (ℕ × ℕ) (Option Access) S) (accesses : List Access) where
  -- an access more, before those so far
  pub accesses_more : (k : ℕ) (d : Access) → k < length accesses → HasAccesses first old (drop (k + 1) accesses) →
      HasAccess old new (get_or accesses k d) → HasAccesses first new (drop k accesses)
  unfolding access_at
  accesses_more k d inside so_far put = record {
    each = λ at none.
        put.each at (access_at at (drop (k + 1) accesses)) (so_far.each at none)
        ∙ ap (λ (l : List Access). Some (access_at at l))
        (sym (drop-cons accesses k d inside ∙ ap (λ (n : ℕ). get_or accesses k d ∷ drop n accesses) (sym (add-one k))));
  }

pub no_accesses : {S : Type 0} (kept : IndexMap (ℕ × ℕ) (Option Access) S) (accesses : List Access) (k : ℕ) →
    length accesses ≤ k → HasAccesses kept kept (drop k accesses)
unfolding access_at
no_accesses kept accesses k past = record {
  each = λ at none. none ∙ ap (λ (l : List Access). Some (access_at at l)) (sym (drop_all k accesses past));
}

-- ---- all of them

module _ {S : Type 0} (places kept : IndexMap (ℕ × ℕ) (Option Access) S) (accesses : List Access)
    (has : HasAccesses places kept accesses) where
  ends_are : (e : Edge) → kept_of places e.from ≡ Some None → kept_of places e.to ≡ Some None →
      ends_by kept e ≡ ends_of accesses e
  ends_are e from to =
      let a = ap (λ (o : Option (Option Access)). unwrap_or o None) (has.each e.from from) in
      let b = ap (λ (o : Option (Option Access)). unwrap_or o None) (has.each e.to to) in
      λ i. record { edge = e; from = a i; to = b i }

  all_from : (edges : List Edge) → All (λ (e : Edge). kept_of places e.from ≡ Some None) edges →
      All (λ (e : Edge). kept_of places e.to ≡ Some None) edges →
      map (ends_by kept) edges ≡ map (ends_of accesses) edges
  all_from [] from to = refl
  all_from (e ∷ edges) from to =
      let here = ends_are e (All-head (λ (x : Edge). kept_of places x.from ≡ Some None) e edges from)
      (All-head (λ (x : Edge). kept_of places x.to ≡ Some None) e edges to) in
      let later = all_from edges (All-tail (λ (x : Edge). kept_of places x.from ≡ Some None) e edges from)
      (All-tail (λ (x : Edge). kept_of places x.to ≡ Some None) e edges to) in
      λ i. here i ∷ later i

  pub all_ends : (edges : List Edge) → HasPlaces places edges →
      map (ends_by kept) edges ≡ map (ends_of accesses) edges
  all_ends edges placed = all_from edges placed.from placed.to
