-- Entries and logged sources, looked up.
use Rattle.std.proofs.Common.{◌≡◌, ◌≢◌, ◌↔◌, ℕ, zero, suc, ◌-◌, ◌<◌, ◌≤◌, List, [], get_or, refl, sym, ap, ◌∙◌, subst}
use Rattle.std.proofs.Common.{arith, Some, None}
use Rattle.std.proofs.Common.{IsTrue, true}
use Rattle.std.specs.Prelude.{slice_index, IfSome, Option}
use Rattle.rtr_types.specs.declared.instr.Instr.{Instr}
use Rattle.rtr_types.specs.declared.pairs.Which.TheVariants.{Reduced}
use Rattle.rtr_types.proofs.Instrs.{instr_eq}
use Rattle.clock_core.specs.Order.{Among}
use Rattle.clock_core.proofs.EdgeLists.{among_contains, contains_among}
use Rattle.race_log.specs.declared.recording.Recording.{Recording}
use Rattle.race_log.specs.Sources.{HasEdge}
use Rattle.race_log.specs.Validity.{Valid}
use Rattle.race_log.proofs.SourceLaws.{edges-within, one-source}
use Rattle.clock_entries.specs.Ends.{instr, Clocks, entry_at, last_entry}
use Rattle.certificate_codec.specs.declared.certificate.Certificate.{Certificate}
use Rattle.certificate_codec.specs.Ends.{reduced_edges, IsWithin}
use Rattle.min_certificate.specs.Places.{entry_in, IsBelow, AreSourcesBelow, AreAllBelow, IsUnknownThere}
use Rattle.min_certificate.specs.Places.{IsSourceOn, on_core}
use Rattle.replay_core.proofs.Sources.{edge_within}

pub entry_none : (clocks : Clocks) (c k : ℕ) → k ≡ 0 → [] ≡ entry_at clocks c k
entry_none clocks c k e = ap (λ (j : ℕ). entry_at clocks c j) (sym e)

pub entry_some : (clocks : Clocks) (c k : ℕ) → k ≢ 0 → entry_at clocks c k ≡ get_or (get_or clocks c []) (k - 1) []
entry_some clocks c zero ne = absurd (ne refl)
entry_some clocks c (suc k) ne = ap (λ (j : ℕ). get_or (get_or clocks c []) j []) (omega arith)

-- ---- logged sources

source_within : (r : Recording) (of n : ℕ) (at : Instr) → Valid r → HasEdge Reduced r (instr of n) at →
    IsWithin r (instr of n)
source_within r of n at valid has = let w = edges-within Reduced r (instr of n) at valid has in
    record { core = w.pair.source; count = w.source_most }

pub has_among : (r : Recording) (x y : Instr) → HasEdge Reduced r x y → Among (reduced_edges r) x y
has_among r x y has = contains_among (reduced_edges r) x y has

-- the one edge from a core, or none
pub only_source : (r : Recording) (of : ℕ) (at : Instr) (found : Option ℕ) →
    ((a : ℕ) → HasEdge Reduced r (instr of a) at → found ≡ Some a) → (z : Instr) →
    Among (reduced_edges r) z at → z.core ≡ of → found ≡ Some z.count
only_source r of at found only z a c =
    only z.count (subst (λ (i : ℕ). HasEdge Reduced r (instr i z.count) at) c (among_contains (reduced_edges r) z at a))

some_source : (of n : ℕ) (z : Instr) → ◌≡◌ {A = Option ℕ} (Some n) (Some z.count) → z.core ≡ of →
    ◌≡◌ {A = Option Instr} (Some (instr of n)) (Some z)
some_source of n z e c = let m : n ≡ z.count = cc in ap (λ (x : Instr). Some x) (instr_eq (instr of n) z (sym c) m)

-- so of a source that was found in the recording at hand, which is the certificate's
there_among : (q m : Recording) (d : Certificate) (of n : ℕ) (at : Instr) → q ≡ m → Valid m → m ≡ d.recording →
    HasEdge Reduced q (instr of n) at →
    Among (reduced_edges d.recording) (instr of n) at × (of ≡ of) × IsWithin d.recording (instr of n)
there_among q m d of n at same valid is has = (
  subst (λ (p : Recording). Among (reduced_edges p) (instr of n) at) (same ∙ is) (has_among q (instr of n) at has),
  refl,
  subst (λ (p : Recording). IsWithin p (instr of n)) (same ∙ is)
      (source_within q of n at (subst Valid (sym same) valid) has),
)

there_only : (q : Recording) (d : Certificate) (of : ℕ) (at : Instr) (found : Option ℕ) → q ≡ d.recording →
    ((a : ℕ) → HasEdge Reduced q (instr of a) at → found ≡ Some a) → (z : Instr) →
    Among (reduced_edges d.recording) z at → z.core ≡ of → found ≡ Some z.count
there_only q d of at found is only z a core = only_source q of at found only z
    (subst (λ (p : Recording). Among (reduced_edges p) z at) (sym is) a) core

-- what was found, or not, there
pub source_on : (q m : Recording) (d : Certificate) (of : ℕ) (at : Instr) (count : Option ℕ) (result : Option Instr) →
    q ≡ m → Valid m → m ≡ d.recording → IfSome count (λ n. HasEdge Reduced q (instr of n) at) →
    ((a : ℕ) → HasEdge Reduced q (instr of a) at → count ≡ Some a) → result ≡ on_core of count →
    IsSourceOn d of at result
source_on q m d of at count result same valid is found only result_is =
    subst (IsSourceOn d of at) (sym result_is) (by count found only)
  where
    by : (n : Option ℕ) → IfSome n (λ a. HasEdge Reduced q (instr of a) at) →
        ((a : ℕ) → HasEdge Reduced q (instr of a) at → n ≡ Some a) → IsSourceOn d of at (on_core of n)
    by None found only = record {
      some = tt;
      only = λ z a core. let none = there_only q d of at None (same ∙ is) only z a core in absurd (cc);
    }
    by (Some n) found only = record {
      some = there_among q m d of n at same valid is found;
      only = λ z a core. some_source of n z (there_only q d of at (Some n) (same ∙ is) only z a core) core;
    }

-- a test of the sources on each other core, which has come to the last core, is true of all sources
pub all_sources : {r : Recording} {cores n : ℕ} (y : Instr) (P : Instr → Type 0) → Valid r → cores ≡ r.params.cores →
    cores ≤ n → ((i : ℕ) → i < n → i ≢ y.core → (z : Instr) → Among (reduced_edges r) z y → z.core ≡ i → P z) →
    IsTrue true ↔ ((z : Instr) → Among (reduced_edges r) z y → P z)
all_sources {r} {cores} {n} y P valid all most each = ((λ _. of_all), λ _. refl)
  where
    of_all : (z : Instr) → Among (reduced_edges r) z y → P z
    of_all z a =
        let w = edge_within Reduced r z y valid a in
        each z.core (let lt = w.pair.source in omega arith) w.pair.differ z a refl

-- ---- entries of sources

-- two entries that were found
pub is_below_in : (c : Certificate) (x y : Instr) (there here : List ℕ) →
    there ≡ last_entry (reduced_edges c.recording) c.clocks x →
    here ≡ last_entry (reduced_edges c.recording) c.clocks y → IsBelow there here → (i : ℕ) →
    entry_in c x i ≤ entry_in c y i
is_below_in c x y there here p q below i =
    subst (λ (l : List ℕ). entry_in c x i ≤ slice_index l i) q
    (subst (λ (l : List ℕ). slice_index l i ≤ slice_index here i) p (below i))

-- no entry of a source is above that of its target
pub sources_below : (c : Certificate) (y : Instr) (here : List ℕ) →
    here ≡ last_entry (reduced_edges c.recording) c.clocks y → AreAllBelow c →
    AreSourcesBelow c y here
sources_below c y here q all z a i = subst (λ (l : List ℕ). entry_in c z i ≤ slice_index l i) (sym q) (all z y a i)

-- a logged source of y on the core of x is x
pub own_only : (r : Recording) (x y z : Instr) → Valid r → Among (reduced_edges r) x y → Among (reduced_edges r) z y →
    z.core ≡ x.core → z ≡ x
own_only r x y z valid a b same =
    one-source Reduced r z x y valid (among_contains (reduced_edges r) z y b) (among_contains (reduced_edges r) x y a)
    same

-- so no other one knows it
pub own_known : (c : Certificate) (x y : Instr) (of : ℕ) → Valid c.recording → Among (reduced_edges c.recording) x y →
    of ≡ x.core → IsUnknownThere c x y of
own_known c x y of valid a same z b core ne = absurd (ne (own_only c.recording x y z valid a b (core ∙ same)))
