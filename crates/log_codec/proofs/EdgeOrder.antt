-- Edges into a core rise in turn exactly where they are in order and those of each core rise.
use Rattle.std.proofs.Common.{◌≡◌, ◌≢◌, ℕ, zero, suc, ◌+◌, ◌*◌, ◌<◌, ◌≤◌, inl, inr, true, false, cond, ◌==◌, List, []}
use Rattle.std.proofs.Common.{◌∷◌, length, map, refl, sym}
use Rattle.std.proofs.Common.{subst, ◌∙◌, arith}
use Rattle.std.specs.List.{AllByRecursion, flat_map, range_with_len}
use Rattle.std.proofs.lemmas.Bool.{cases_eq, cases_lt}
use Rattle.std.proofs.lemmas.Bool.Decides.{nat_tests}
use Rattle.std.proofs.lemmas.List.{length-append, length-map}
use Rattle.log_codec.specs.declared.incoming.Incoming.{Incoming}
use Rattle.log_codec.specs.Incoming.{Follows, IncomingRises, incoming, last_source, remember, from_source}
use Rattle.rtr_types.specs.Turns.{StandInTurn, follow}
use Rattle.rtr_types.specs.PairEdges.{EdgeRises, EdgeStands}
use Rattle.log_codec.proofs.Merges.{from_same, from_other, Reaches, reaches-then, Sorted, Rises}

-- ---- the last edge from a core

unfoldable pub last_counts : ℕ → List Incoming → ℕ × ℕ
last_counts i [] = (0, 0)
last_counts i (d ∷ before) = cond (d.source == i) d.counts (last_counts i before)

last-same : (i : ℕ) (d : Incoming) (before : List Incoming) → d.source ≡ i → last_counts i (d ∷ before) ≡ d.counts
unfolding last_counts
last-same i d before is = let t : (d.source == i) ≡ true = grind (arith, nat_tests) in rw t refl

last-other : (i : ℕ) (d : Incoming) (before : List Incoming) → d.source ≢ i →
    last_counts i (d ∷ before) ≡ last_counts i before
unfolding last_counts
last-other i d before not = let t : (d.source == i) ≡ false = grind (arith, nat_tests) in rw t refl

pub source-is : (i : ℕ) (before : List Incoming) → last_source i before ≡ (last_counts i before).0
unfolding last_counts
source-is i [] = refl
source-is i (d ∷ before) = elim (cases_eq d.source i) [
  | inl is ↦ let t : (d.source == i) ≡ true = grind (arith, nat_tests) in rw t refl
  | inr not ↦ let t : (d.source == i) ≡ false = grind (arith, nat_tests) in rw t (source-is i before)
]

-- ---- in order, then in turn

-- the newest edge isn't after any of these
unfoldable pub ReachesAll : List Incoming → List Incoming → Type 0
ReachesAll [] edges = Unit {0}
ReachesAll (d ∷ before) edges = AllByRecursion (Reaches d) edges

follows-by : (before : List Incoming) (e : Incoming) (edges : List Incoming) → ReachesAll before (e ∷ edges) →
    (last_counts e.source before).1 < e.counts.1 →
    Follows before e
unfolding ReachesAll last_counts
follows-by [] e edges reach up = omega arith
follows-by (d ∷ before) e edges reach up = elim (cases_lt d.counts.1 e.counts.1) [
  | inl lt ↦ inl lt
  | inr le ↦ elim (cases_eq d.source e.source) [
    | inl is ↦ let own : d.counts.1 < e.counts.1 =
        subst (λ (c : ℕ × ℕ). c.1 < e.counts.1) (last-same e.source d before is) up in absurd (omega arith)
    | inr not ↦
        let r = reach.0 in
        let rc = r.count in
        let same : d.counts.1 ≡ e.counts.1 = omega arith in
        let low = r.core same in
        inr (same, omega arith)
  ]
]

pub rises-turn : (before edges : List Incoming) → ReachesAll before edges → Sorted edges →
    ((i : ℕ) → StandInTurn EdgeRises follow (last_counts i before) (from_source i edges)) →
    StandInTurn IncomingRises remember before edges
unfolding ReachesAll Sorted
rises-turn before [] reach sorted rise = tt
rises-turn before (e ∷ edges) reach sorted rise = (
  record {
    follows = follows-by before e edges reach own.0.target;
    source =
        rw (source-is e.source before) own.0.source;
  },
  rises-turn (e ∷ before) edges sorted.0 sorted.1 rest,
)
  where
    own : StandInTurn EdgeRises follow (last_counts e.source before) (e.counts ∷ from_source e.source edges)
    own = subst (StandInTurn EdgeRises follow (last_counts e.source before)) (from_same e.source e edges refl)
        (rise e.source)

    rest : (i : ℕ) → StandInTurn EdgeRises follow (last_counts i (e ∷ before)) (from_source i edges)
    rest i = elim (cases_eq e.source i) [
      | inl is ↦
          let there = subst (StandInTurn EdgeRises follow (last_counts i before)) (from_same i e edges is) (rise i) in
          subst (λ (c : ℕ × ℕ). StandInTurn EdgeRises follow c (from_source i edges)) (sym (last-same i e before is))
          there.1
      | inr not ↦
          subst (λ (c : ℕ × ℕ). StandInTurn EdgeRises follow c (from_source i edges)) (sym (last-other i e before not))
          (subst (StandInTurn EdgeRises follow (last_counts i before)) (from_other i e edges not) (rise i))
    ]

-- ---- in turn, then in order

-- the newest edge isn't before the last one of any core
unfoldable Tops : List Incoming → Type 0
Tops [] = Unit {0}
Tops (d ∷ before) = (1 ≤ d.counts.1) × ((i : ℕ) → Reaches (incoming i (last_counts i (d ∷ before))) d)

follows-reaches : (d : Incoming) (before : List Incoming) (e : Incoming) → Follows (d ∷ before) e → Reaches d e
follows-reaches d before e (inl lt) = record { count = omega arith; core = λ same. absurd (omega arith) }
follows-reaches d before e (inr same) = let is = same.0 in let lt = same.1 in
    record { count = omega arith; core = λ _. omega arith }

tops-some : (before : List Incoming) (e : Incoming) → Tops before → Follows before e → 1 ≤ e.counts.1
unfolding Tops
tops-some [] e t f = f
tops-some (d ∷ before) e t f = let r = (follows-reaches d before e f).count in let one = t.0 in omega arith

-- and so with one more
tops-then : (before : List Incoming) (e : Incoming) → Tops before → Follows before e → Tops (e ∷ before)
unfolding Tops last_counts
tops-then before e t f = (
  tops-some before e t f,
  λ i. elim (cases_eq e.source i) [
    | inl is ↦ subst (λ (c : ℕ × ℕ). Reaches (incoming i c) e) (sym (last-same i e before is))
        (record { count = omega arith; core = λ _. omega arith })
    | inr not ↦ subst (λ (c : ℕ × ℕ). Reaches (incoming i c) e) (sym (last-other i e before not)) (older before i t f)
  ],
)
  where
    older : (before : List Incoming) (i : ℕ) → Tops before → Follows before e →
        Reaches (incoming i (last_counts i before)) e
    older [] i t f = let none : (incoming i (last_counts i [])).counts.1 ≡ 0 = refl in
        record { count = omega arith; core = λ same. absurd (omega arith) }
    older (d ∷ before) i t f =
        reaches-then (incoming i (last_counts i (d ∷ before))) d e (t.1 i) (follows-reaches d before e f)

-- an edge is above the last one of its core
above : (before : List Incoming) (e : Incoming) → Tops before → Follows before e →
    (last_counts e.source before).1 < e.counts.1
unfolding Tops last_counts
above [] e t f = omega arith
above (d ∷ before) e t (inl lt) = let r = (t.1 e.source).count in omega arith
above (d ∷ before) e t (inr same) =
    let r = t.1 e.source in
    let rc = r.count in
    let is = same.0 in
    let lt = same.1 in
    elim (cases_lt (last_counts e.source (d ∷ before)).1 e.counts.1) [
      | inl below ↦ below
      | inr le ↦ let low = r.core (omega arith) in absurd (omega arith)
    ]

-- what stands in turn
pub record InOrder (before edges : List Incoming) : Type 0 where
  pub reaches : ReachesAll before edges
  pub sorted : Sorted edges
  pub rises : (i : ℕ) → StandInTurn EdgeRises follow (last_counts i before) (from_source i edges)

reaches-all : (before : List Incoming) (e : Incoming) (edges : List Incoming) → Follows before e →
    AllByRecursion (Reaches e) edges →
    ReachesAll before (e ∷ edges)
unfolding ReachesAll
reaches-all [] e edges f all = tt
reaches-all (d ∷ before) e edges f all = (follows-reaches d before e f, further edges all)
  where
    further : (edges : List Incoming) → AllByRecursion (Reaches e) edges → AllByRecursion (Reaches d) edges
    further [] h = tt
    further (x ∷ edges) h = (reaches-then d e x (follows-reaches d before e f) h.0, further edges h.1)

turn-rises : (before edges : List Incoming) → Tops before → StandInTurn IncomingRises remember before edges →
    InOrder before edges
unfolding ReachesAll Sorted
turn-rises [] [] t h = record { reaches = tt; sorted = tt; rises = λ i. tt }
turn-rises (d ∷ before) [] t h = record { reaches = tt; sorted = tt; rises = λ i. tt }
turn-rises before (e ∷ edges) t h =
    let rest = turn-rises (e ∷ before) edges (tops-then before e t h.0.follows) h.1 in
    record {
      reaches = reaches-all before e edges h.0.follows rest.reaches;
      sorted = (rest.reaches, rest.sorted);
      rises = λ i. rises i rest;
    }
  where
    rises : (i : ℕ) → InOrder (e ∷ before) edges →
        StandInTurn EdgeRises follow (last_counts i before) (from_source i (e ∷ edges))
    rises i rest = elim (cases_eq e.source i) [
      | inl is ↦
          let first : EdgeRises (last_counts e.source before) e.counts =
          record {
            source = subst (λ (n : ℕ). n < e.counts.0) (source-is e.source before) h.0.source;
            target =
                above before e t h.0.follows;
          } in
          let here : EdgeRises (last_counts i before) e.counts =
          subst (λ (k : ℕ). EdgeRises (last_counts k before) e.counts) is first in
          let there = subst (λ (c : ℕ × ℕ). StandInTurn EdgeRises follow c (from_source i edges))
          (last-same i e before is) (rest.rises i) in
          subst (StandInTurn EdgeRises follow (last_counts i before)) (sym (from_same i e edges is)) (here, there)
      | inr not ↦
          subst (StandInTurn EdgeRises follow (last_counts i before)) (sym (from_other i e edges not))
          (subst (λ (c : ℕ × ℕ). StandInTurn EdgeRises follow c (from_source i edges)) (last-other i e before not)
          (rest.rises i))
    ]

pub turn-order : (edges : List Incoming) → StandInTurn IncomingRises remember [] edges → InOrder [] edges
unfolding Tops
turn-order edges h = turn-rises [] edges tt h

-- ---- facts of each edge

pub each : {S X : Type 0} (P : S → X → Type 0) (Q : X → Type 0) (next : S → X → S) → ((s : S) (x : X) → P s x → Q x) →
    (s : S) (xs : List X) →
    StandInTurn P next s xs → AllByRecursion Q xs
each P Q next one s [] h = tt
each P Q next one s (x ∷ xs) h = (one s x h.0, each P Q next one (next s x) xs h.1)

pub from-all : (P : Incoming → Type 0) (Q : ℕ × ℕ → Type 0) (i : ℕ) →
    ((e : Incoming) → e.source ≡ i → P e → Q e.counts) → (edges : List Incoming) →
    AllByRecursion P edges → AllByRecursion Q (from_source i edges)
from-all P Q i one [] h = tt
from-all P Q i one (e ∷ edges) h = elim (cases_eq e.source i) [
  | inl is ↦ subst (AllByRecursion Q) (sym (from_same i e edges is)) (one e is h.0, from-all P Q i one edges h.1)
  | inr not ↦ subst (AllByRecursion Q) (sym (from_other i e edges not)) (from-all P Q i one edges h.1)
]

pub all-from : (P : Incoming → Type 0) (edges : List Incoming) →
    ((i : ℕ) → AllByRecursion (λ c. P (incoming i c)) (from_source i edges)) →
    AllByRecursion P edges
all-from P [] h = tt
all-from P (e ∷ edges) h =
    let own = subst (AllByRecursion (λ c. P (incoming e.source c))) (from_same e.source e edges refl) (h e.source) in (
      own.0,
      all-from P edges (λ i. elim (cases_eq e.source i) [
        | inl is ↦ let all = subst (AllByRecursion (λ c. P (incoming i c))) (from_same i e edges is) (h i) in all.1
        | inr not ↦ subst (AllByRecursion (λ c. P (incoming i c))) (from_other i e edges not) (h i)
      ]),
    )

pub from-none : (i : ℕ) (edges : List Incoming) → AllByRecursion (λ e. e.source ≢ i) edges → from_source i edges ≡ []
from-none i [] h = refl
from-none i (e ∷ edges) h = from_other i e edges h.0 ∙ from-none i edges h.1

-- counts that rise, and are at most these
pub bounded : (most last : ℕ × ℕ) (edges : List (ℕ × ℕ)) → StandInTurn EdgeRises follow last edges →
    AllByRecursion (λ (c : ℕ × ℕ). (c.0 ≤ most.0) × (c.1 ≤ most.1)) edges →
    StandInTurn (EdgeStands most) follow last edges
bounded most last [] rise all = tt
bounded most last (e ∷ edges) rise all =
    (record { rises = rise.0; source_most = all.0.0; target_most = all.0.1 }, bounded most e edges rise.1 all.1)

-- ---- rising lists

rise-above : (last : ℕ × ℕ) (edges : List (ℕ × ℕ)) → StandInTurn EdgeRises follow last edges → (n : ℕ) → n ≤ last.1 →
    AllByRecursion (λ (d : ℕ × ℕ). n < d.1) edges
rise-above last [] h n le = tt
rise-above last (e ∷ edges) h n le = let up = h.0.target in (omega arith, rise-above e edges h.1 n (omega arith))

pub rises-of : (last : ℕ × ℕ) (edges : List (ℕ × ℕ)) → StandInTurn EdgeRises follow last edges → Rises edges
unfolding Rises
rises-of last [] h = tt
rises-of last (e ∷ edges) h = (rise-above e edges h.1 e.1 (omega arith), rises-of e edges h.1)

-- ---- how many

pub length-joined : (lists : ℕ → List (ℕ × ℕ)) (most s n : ℕ) → ((i : ℕ) → i < s + n → length (lists i) ≤ most) →
    length (flat_map (λ k. map (incoming k) (lists k)) (range_with_len s n)) ≤ n * most
length-joined lists most s zero h = omega arith
length-joined lists most s (suc n) h =
    let one = length-append (map (incoming s) (lists s))
    (flat_map (λ k. map (incoming k) (lists k)) (range_with_len (s + 1) n)) in
    let two : length (map (incoming s) (lists s)) ≡ length (lists s) = length-map (lists s) (incoming s) in
    let own = h s (omega arith) in
    let rest = length-joined lists most (s + 1) n (λ i lt. h i (omega arith)) in
    omega arith
