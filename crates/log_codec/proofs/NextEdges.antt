-- The next edge in order is the first of those that the cores have next, and what is left is merged_edges the same way.
use Rattle.std.proofs.Common.{◌≡◌, ◌≢◌, ℕ, zero, suc, ◌+◌, ◌*◌, ◌%◌, ◌<◌, ◌≤◌, inl, inr, true, false, List, []}
use Rattle.std.proofs.Common.{◌==◌, ◌∷◌, ◌++◌, length, map}
use Rattle.std.proofs.Common.{drop, set, Option, Some, None, refl, sym, ap, subst, ◌∙◌, arith}
use Rattle.std.specs.Prelude.{slice_get, slice_index}
use Rattle.std.specs.List.{AllByRecursion, flat_map, range_with_len}
use Rattle.std.proofs.lemmas.Bool.{cases_eq, cases_lt}
use Rattle.std.proofs.lemmas.Bool.Decides.{nat_tests}
use Rattle.std.proofs.lemmas.List.{drop-drop, length-append, length-map, length-set, get_or-set_same, get_or-set_other}
use Rattle.rtr_types.specs.declared.TheConstants.{CORES_MAX}
use Rattle.log_codec.specs.declared.incoming.Incoming.{Incoming}
use Rattle.log_codec.specs.declared.fronts.TheConstants.{PAST}
use Rattle.log_codec.specs.Incoming.{Follows, IsFirst, Keeps, edges_out_of, from_source}
use Rattle.log_codec.specs.Incoming.{incoming, is_earlier}
use Rattle.log_codec.specs.Incoming.{last_target, left, merged_edges, newest, target_of}
use Rattle.log_codec.specs.Fronts.{AreFronts, IsFront, IsLeast}
use Rattle.log_codec.proofs.Merges.{Merges, Reaches, Rises, Sorted, all-map, else-reaches, from_same, from_other}
use Rattle.log_codec.proofs.Merges.{merge-is, merged-merges}
use Rattle.log_codec.proofs.EdgeOrder.{all-from}

-- ---- the first of the next ones

-- the key of a list that has an edge left
front-some : (source : ℕ) (next : Option (ℕ × ℕ)) (counts : ℕ × ℕ) (key : ℕ) → IsFront source next key →
    next ≡ Some counts → (key ≡ counts.1 * CORES_MAX + source) × (key < PAST)
front-some source next counts key h is = subst (λ (o : Option (ℕ × ℕ)). IsFront source o key) is h

-- a list without a key has no edge left
front-none : (source : ℕ) (next : Option (ℕ × ℕ)) (key : ℕ) → IsFront source next key → PAST ≤ key → next ≡ None
front-none source None key h past = refl
front-none source (Some counts) key h past = let less = h.1 in absurd (omega arith)

pub none-left : (cores : ℕ) (lists : ℕ → List (ℕ × ℕ)) (keys : List ℕ) → cores ≤ CORES_MAX →
    AreFronts cores lists keys → ((source : ℕ) → source < CORES_MAX → PAST ≤ slice_index keys source) →
    (source : ℕ) → source < cores → slice_get (lists source) 0 ≡ None
none-left cores lists keys few f none source lt =
    front-none source (slice_get (lists source) 0) (slice_index keys source) (f.each source lt)
    (none source (omega arith))

-- a key ends with its core
pub front-own : (source : ℕ) (next : Option (ℕ × ℕ)) (key : ℕ) → source < CORES_MAX → IsFront source next key →
    (key ≤ PAST) × (key < PAST → key % CORES_MAX ≡ source)
front-own source None key lt h = (omega arith, λ less. absurd (omega arith))
front-own source (Some counts) key lt h = let is = h.0 in let less = h.1 in (omega arith, λ less. omega arith)

-- a core that has a key is one of these
pub least-inside : (cores : ℕ) (lists : ℕ → List (ℕ × ℕ)) (keys : List ℕ) (source : ℕ) → AreFronts cores lists keys →
    IsLeast keys source → source < cores
least-inside cores lists keys source f l = elim (cases_lt source cores) [
  | inl less ↦ less
  | inr le ↦ let past = f.past source le l.inside in let some = l.some in absurd (omega arith)
]

never-earlier : (d e : Incoming) → Reaches e d → is_earlier d e ≡ false
never-earlier d e r = let rc = r.count in let core = r.core in elim (cases_eq d.counts.1 e.counts.1) [
  | inl same ↦ let low = core (sym same) in grind (arith, nat_tests)
  | inr not ↦ grind (arith, nat_tests)
]

-- the next edge of the core whose key is the least
pub first-is : (cores : ℕ) (lists : ℕ → List (ℕ × ℕ)) (keys : List ℕ) (source : ℕ) (counts : ℕ × ℕ) →
    cores ≤ CORES_MAX → AreFronts cores lists keys → IsLeast keys source → slice_get (lists source) 0 ≡ Some counts →
    IsFirst cores lists (incoming source counts)
first-is cores lists keys source counts few f l own = let inside = least-inside cores lists keys source f l in record {
  inside = inside;
  own = own;
  first = λ other others lt is.
      let mine = front-some source (slice_get (lists source) 0) counts (slice_index keys source)
      (f.each source inside) own in
      let theirs = front-some other (slice_get (lists other) 0) others (slice_index keys other) (f.each other lt) is in
      let le = l.least other (omega arith) in
      never-earlier (incoming other others) (incoming source counts) (record {
        count = omega (arith, mine.0, theirs.0, le, inside, few, lt);
        core = λ same. omega (arith, mine.0, theirs.0, le, same, inside, few, lt);
      });
}

-- ---- the merge of what is left

first-of : (counts : List (ℕ × ℕ)) (c : ℕ × ℕ) → slice_get counts 0 ≡ Some c → counts ≡ c ∷ drop 1 counts
first-of [] c is = absurd cc
first-of (d ∷ counts) c is = let same : d ≡ c = cc in ap (λ (x : ℕ × ℕ). x ∷ counts) same

none-of : (counts : List (ℕ × ℕ)) → slice_get counts 0 ≡ None → counts ≡ []
none-of [] is = refl
none-of (d ∷ counts) is = absurd cc

pub rises-drop : (n : ℕ) (counts : List (ℕ × ℕ)) → Rises counts → Rises (drop n counts)
unfolding Rises
rises-drop zero counts h = h
rises-drop (suc n) [] h = tt
rises-drop (suc n) (c ∷ counts) h = rises-drop n counts h.1

-- the first edge, and then the merge of the lists without it
pub merge-step : (cores : ℕ) (lists rest : ℕ → List (ℕ × ℕ)) (e : Incoming) → ((i : ℕ) → i < cores → Rises (lists i)) →
    IsFirst cores lists e
    → ((i : ℕ) → i < cores → i ≢ e.source → rest i ≡ lists i) → rest e.source ≡ drop 1 (lists e.source) →
    merged_edges cores lists ≡ e ∷ merged_edges cores rest
unfolding Sorted Rises
merge-step cores lists rest e rise f others own =
    sym (merge-is cores lists (e ∷ merged_edges cores rest) rise
    (record { sorted = (reached, m.sorted); own = λ i lt. owned i lt; none = λ i le. past i le }))
  where
    rises : (i : ℕ) → i < cores → Rises (rest i)
    rises i lt = elim (cases_eq i e.source) [
      | inl is ↦ subst (λ (k : ℕ). Rises (rest k)) (sym is)
          (subst Rises (sym own) (rises-drop 1 (lists e.source) (rise e.source f.inside)))
      | inr not ↦ subst Rises (sym (others i lt not)) (rise i lt)
    ]

    m : Merges cores rest (merged_edges cores rest)
    m = merged-merges cores rest rises

    -- all of a core's edges, if the edge isn't after its next one
    all-reached : (i : ℕ) (counts : List (ℕ × ℕ)) → Rises counts →
        ((c : ℕ × ℕ) → slice_get counts 0 ≡ Some c → Reaches e (incoming i c)) →
        AllByRecursion (λ c. Reaches e (incoming i c)) counts
    all-reached i [] h one = tt
    all-reached i (c ∷ counts) h one =
        let r = one c refl in
        let rc = r.count in (
          r,
          all-map (λ (d : ℕ × ℕ). c.1 < d.1) (λ d. Reaches e (incoming i d))
              (λ d up. record { count = omega arith; core = λ same. absurd (omega arith) }) counts h.0,
        )

    own-reached : (counts : List (ℕ × ℕ)) → Rises (e.counts ∷ counts) →
        AllByRecursion (λ c. Reaches e (incoming e.source c)) counts
    own-reached counts h =
        all-map (λ (d : ℕ × ℕ). e.counts.1 < d.1) (λ d. Reaches e (incoming e.source d))
        (λ d up. record { count = omega arith; core = λ same. absurd (omega arith) }) counts h.0

    from-each : (i : ℕ) → i < cores → AllByRecursion (λ c. Reaches e (incoming i c)) (rest i)
    from-each i lt = elim (cases_eq i e.source) [
      | inl is ↦
          let all = own-reached (drop 1 (lists e.source))
          (subst Rises (first-of (lists e.source) e.counts f.own) (rise e.source f.inside)) in
          subst (λ (k : ℕ). AllByRecursion (λ c. Reaches e (incoming k c)) (rest k)) (sym is)
          (subst (AllByRecursion (λ c. Reaches e (incoming e.source c))) (sym own) all)
      | inr not ↦
          let all = all-reached i (lists i) (rise i lt) (λ c is. else-reaches (incoming i c) e (f.first i c lt is)) in
          subst (AllByRecursion (λ c. Reaches e (incoming i c))) (sym (others i lt not)) all
    ]

    reached : AllByRecursion (Reaches e) (merged_edges cores rest)
    reached = all-from (Reaches e) (merged_edges cores rest) (λ i. elim (cases_lt i cores) [
      | inl lt ↦ subst (AllByRecursion (λ c. Reaches e (incoming i c))) (sym (m.own i lt)) (from-each i lt)
      | inr le ↦ subst (AllByRecursion (λ c. Reaches e (incoming i c))) (sym (m.none i le)) tt
    ])

    owned : (i : ℕ) → i < cores → from_source i (e ∷ merged_edges cores rest) ≡ lists i
    owned i lt = elim (cases_eq e.source i) [
      | inl is ↦
          from_same i e (merged_edges cores rest) is
          ∙ ap (λ (l : List (ℕ × ℕ)). e.counts ∷ l) (m.own i lt ∙ subst (λ (k : ℕ). rest k ≡ drop 1 (lists k)) is own)
          ∙ sym (first-of (lists i) e.counts (subst (λ (k : ℕ). slice_get (lists k) 0 ≡ Some e.counts) is f.own))
      | inr not ↦ from_other i e (merged_edges cores rest) not ∙ m.own i lt ∙ others i lt (λ same. not (sym same))
    ]

    past : (i : ℕ) → cores ≤ i → from_source i (e ∷ merged_edges cores rest) ≡ []
    past i le = let lt = f.inside in from_other i e (merged_edges cores rest) (λ is. omega arith) ∙ m.none i le

-- no edge is left
pub merge-none : (cores : ℕ) (lists : ℕ → List (ℕ × ℕ)) →
    ((source : ℕ) → source < cores → slice_get (lists source) 0 ≡ None) → merged_edges cores lists ≡ []
unfolding Sorted Rises
merge-none cores lists none =
    sym (merge-is cores lists [] (λ i lt. subst Rises (sym (none-of (lists i) (none i lt))) tt)
    (record { sorted = tt; own = λ i lt. sym (none-of (lists i) (none i lt)); none = λ i le. refl }))

-- ---- the places of the next edges

-- the edge at a place is the next of those from there on
pub next-at : (counts : List (ℕ × ℕ)) (n : ℕ) → slice_get (drop n counts) 0 ≡ slice_get counts n
next-at [] zero = refl
next-at [] (suc n) = refl
next-at (c ∷ counts) zero = refl
next-at (c ∷ counts) (suc n) = next-at counts n

pub left-own : (cores : ℕ) (reduced : List (List (ℕ × ℕ))) (target : ℕ) (next : List ℕ) (i : ℕ) → i < length next →
    left cores reduced target (set next i (slice_index next i + 1)) i ≡ drop 1 (left cores reduced target next i)
left-own cores reduced target next i lt =
    ap (λ (n : ℕ). drop n (edges_out_of cores reduced target i)) (get_or-set_same next i (slice_index next i + 1) 0 lt)
    ∙ sym (drop-drop 1 (slice_index next i) (edges_out_of cores reduced target i))

pub left-other : (cores : ℕ) (reduced : List (List (ℕ × ℕ))) (target : ℕ) (next : List ℕ) (i n k : ℕ) → k ≢ i →
    left cores reduced target (set next i n) k
    ≡ left cores reduced target next k
left-other cores reduced target next i n k not =
    ap (λ (m : ℕ). drop m (edges_out_of cores reduced target k)) (get_or-set_other next i k n 0 not)

-- ---- the fronts

-- the front at a place of a list is that of what is left from there on
pub front-left : (source : ℕ) (counts : List (ℕ × ℕ)) (n front : ℕ) → IsFront source (slice_get counts n) front →
    IsFront source (slice_get (drop n counts) 0) front
front-left source counts n front h = subst (λ (o : Option (ℕ × ℕ)). IsFront source o front) (sym (next-at counts n)) h

-- the fronts where a core's next edge is at another place
pub fronts-step : (cores : ℕ) (reduced : List (List (ℕ × ℕ))) (target : ℕ) (next fronts : List ℕ) (i n front : ℕ) →
    cores ≤ CORES_MAX → i < cores →
    AreFronts cores (left cores reduced target next) fronts →
    IsFront i (slice_get (edges_out_of cores reduced target i) (slice_index (set next i n) i)) front
    → AreFronts cores (left cores reduced target (set next i n)) (set fronts i front)
fronts-step cores reduced target next fronts i n front few inside h is = record {
  places = length-set fronts i front ∙ h.places;
  each = λ source lt. elim (cases_eq source i) [
    | inl same ↦
        let own : slice_index (set fronts i front) i ≡ front =
        get_or-set_same fronts i front 0 (let places = h.places in omega arith) in
        subst (λ (k : ℕ). IsFront k (slice_get (left cores reduced target (set next i n) k) 0)
        (slice_index (set fronts i front) k)) (sym same)
        (subst (IsFront i (slice_get (left cores reduced target (set next i n) i) 0)) (sym own)
        (front-left i (edges_out_of cores reduced target i) (slice_index (set next i n) i) front is))
    | inr not ↦
        subst (IsFront source (slice_get (left cores reduced target (set next i n) source) 0))
        (sym (get_or-set_other fronts i source front 0 not))
        (subst (λ (l : List (ℕ × ℕ)). IsFront source (slice_get l 0) (slice_index fronts source))
        (sym (left-other cores reduced target next i n source not))
        (h.each source lt))
  ];
  past = λ source le lt. get_or-set_other fronts i source front 0 (λ same. absurd (omega arith)) ∙ h.past source le lt;
}

-- ---- what is kept

pub keeps-none : (counts : List ℕ) → length counts ≡ CORES_MAX → ((k : ℕ) → k < CORES_MAX → slice_index counts k ≡ 0) →
    Keeps None counts []
keeps-none counts long zeros = record { newest_is = refl; count_is = zeros; places = long }

pub keeps-more : (last : Option Incoming) (counts : List ℕ) (before : List Incoming) (e : Incoming) (kept : List ℕ) →
    e.source < CORES_MAX →
    Keeps last counts before → kept ≡ set counts e.source e.counts.0 → length kept ≡ CORES_MAX →
    Keeps (Some e) kept (e ∷ before)
keeps-more last counts before e kept inside h is long = record {
  newest_is = refl;
  count_is = λ k lt. elim (cases_eq e.source k) [
    | inl same ↦
        let t : (e.source == k) ≡ true = grind (arith, nat_tests) in
        let there : slice_index (set counts e.source e.counts.0) k ≡ e.counts.0 =
        subst (λ (j : ℕ). slice_index (set counts e.source e.counts.0) j ≡ e.counts.0) same
        (get_or-set_same counts e.source e.counts.0 0 (let p = h.places in omega arith)) in
        ap (λ (l : List ℕ). slice_index l k) is ∙ there ∙ rw t refl
    | inr not ↦
        let t : (e.source == k) ≡ false = grind (arith, nat_tests) in
        ap (λ (l : List ℕ). slice_index l k) is
        ∙ get_or-set_other counts e.source k e.counts.0 0 (λ same. not (sym same)) ∙ h.count_is k lt ∙ rw t refl
  ];
  places = long;
}

pub target-is : (last : Option Incoming) (before : List Incoming) → last ≡ newest before →
    target_of last ≡ last_target before
target-is last [] is = ap target_of is
target-is last (d ∷ before) is = ap target_of is

pub target-reached : (before : List Incoming) (e : Incoming) → Follows before e → last_target before ≤ e.counts.1
target-reached [] e f = omega arith
target-reached (d ∷ before) e (inl lt) = omega arith
target-reached (d ∷ before) e (inr same) = let is = same.0 in omega arith

-- ---- how many

-- the edges of so many cores, one core after the other
abbrev pub joined_from : (ℕ → List (ℕ × ℕ)) → (s n : ℕ) → List Incoming
joined_from lists s n = flat_map (λ k. map (incoming k) (lists k)) (range_with_len s n)

pub length-more : (lists : ℕ → List (ℕ × ℕ)) (s n k : ℕ) → s + n ≡ k →
    length (joined_from lists s (n + 1)) ≡ length (joined_from lists s n) + length (lists k)
length-more lists s zero k is =
    let one = length-append (map (incoming s) (lists s)) [] in
    let two : length (map (incoming s) (lists s)) ≡ length (lists s) = length-map (lists s) (incoming s) in
    let same : length (lists s) ≡ length (lists k) = ap (λ (i : ℕ). length (lists i)) (omega arith) in
    omega arith
length-more lists s (suc n) k is =
    let one = length-append (map (incoming s) (lists s)) (joined_from lists (s + 1) (n + 1)) in
    let two = length-append (map (incoming s) (lists s)) (joined_from lists (s + 1) n) in
    let rest = length-more lists (s + 1) n k (omega arith) in
    let same : length (joined_from lists s (suc n + 1))
    ≡ length (map (incoming s) (lists s) ++ joined_from lists (s + 1) (n + 1)) =
    ap (λ (m : ℕ). length (joined_from lists s m)) (suc-more n) in
    omega arith
  where
    suc-more : (m : ℕ) → suc m + 1 ≡ suc (m + 1)
    suc-more m = omega arith

pub length-within : (lists : ℕ → List (ℕ × ℕ)) (s n m : ℕ) →
    length (joined_from lists s n) ≤ length (joined_from lists s (n + m))
length-within lists s n zero =
    let same : length (joined_from lists s (n + 0)) ≡ length (joined_from lists s n) =
    ap (λ (k : ℕ). length (joined_from lists s k)) (omega arith) in
    omega arith
length-within lists s n (suc m) =
    let more = length-more lists s (n + m) (s + (n + m)) (omega arith) in
    let same : length (joined_from lists s (n + suc m)) ≡ length (joined_from lists s (n + m + 1)) =
    ap (λ (k : ℕ). length (joined_from lists s k)) (omega arith) in
    let rest = length-within lists s n m in
    omega arith
