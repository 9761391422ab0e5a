-- What a flat state shows at its end is what the state has that it stands at.
use Rattle.std.proofs.Common.{◌≡◌, ◌≢◌, ◌∙◌, refl, sym, ap, subst, ℕ, zero, suc, ◌<◌, ◌==◌, Bool, true, false, List, []}
use Rattle.std.proofs.Common.{◌∷◌}
use Rattle.std.proofs.Common.{length, map, arith, get_or}
use Rattle.std.specs.Prelude.{if◌then◌else◌}
use Rattle.std.specs.List.{list_all}
use Rattle.std.proofs.lemmas.Bool.Decides.{nat_tests}
use Rattle.std.proofs.lemmas.List.{ext_get_or, length-map}
use Rattle.std.proofs.lemmas.List.Folds.{list_all-map}
use Rattle.access_times.specs.Riding.{none_riding, none_carrying}
use Rattle.image_mem.specs.Contents.{Contents}
use Rattle.rv_core.specs.States.{starting}
use Rattle.rv_core.specs.Steps.{is_done, need}
use Rattle.rv_core.specs.declared.core_state.Core.{Core}
use Rattle.msi_state.specs.FinalMemory.{final_words}
use Rattle.msi_state.specs.States.{PlainState, all_done, core_at}
use Rattle.msi_laws.specs.Moving.{links_empty}
use Rattle.machine_data.proofs.Final.{final_current}
use Rattle.machine_data.specs.Coherent.{opening_memory}
use Rattle.flat_state.specs.declared.block.HomeBlock.{HomeBlock}
use Rattle.flat_state.specs.declared.flat.Flat.{Flat}
use Rattle.flat_state.specs.declared.node.Node.{Node}
use Rattle.flat_state.specs.Shows.{Stands, home_at, node_at}
use Rattle.flat_laws.specs.Ends.{words_kept}

-- what is read of each node is read of its core
each_core : {X : Type 0} (f : Flat) (s : PlainState) (memory : ℕ → List ℕ) (g : Node → X) (h : Core → X) (d : X) →
    ((c : ℕ) → c < length s.cores → g (node_at f.nodes.items c) ≡ h (core_at s.cores c)) → Stands f s memory →
    map g f.nodes.items ≡ map h s.cores
each_core f s memory g h d same stands =
    ext_get_or d (map g f.nodes.items) (map h s.cores) long
    (λ c lies. let inside = subst (λ (n : ℕ). c < n) (length-map f.nodes.items g ∙ stands.shows.long) lies in
    at f.nodes.items c (subst (λ (n : ℕ). c < n) (length-map f.nodes.items g) lies)
    ∙ (same c inside ∙ sym (at_core s.cores c inside)))
  where
    long : length (map g f.nodes.items) ≡ length (map h s.cores)
    long = length-map f.nodes.items g ∙ (stands.shows.long ∙ sym (length-map s.cores h))

    at : (nodes : List Node) (c : ℕ) → c < length nodes → get_or (map g nodes) c d ≡ g (node_at nodes c)
    at [] c lies = absurd (omega (arith, lies))
    at (x ∷ xs) zero lies = refl
    at (x ∷ xs) (suc c) lies = at xs c (omega (arith, lies))

    at_core : (cores : List Core) (c : ℕ) → c < length cores → get_or (map h cores) c d ≡ h (core_at cores c)
    at_core [] c lies = absurd (omega (arith, lies))
    at_core (x ∷ xs) zero lies = refl
    at_core (x ∷ xs) (suc c) lies = at_core xs c (omega (arith, lies))

pub cores_shown : (f : Flat) (s : PlainState) (memory : ℕ → List ℕ) → Stands f s memory →
    map (λ (n : Node). n.core) f.nodes.items ≡ s.cores
cores_shown f s memory stands =
    each_core f s memory (λ (n : Node). n.core) (λ (k : Core). k) (starting 0 0)
    (λ c lies. (stands.shows.nodes c lies).core_is) stands ∙ map_same s.cores
  where
    map_same : (xs : List Core) → map (λ (k : Core). k) xs ≡ xs
    map_same [] = refl
    map_same (x ∷ xs) = ap (λ (l : List Core). x ∷ l) (map_same xs)

pub done_shown : (f : Flat) (s : PlainState) (memory : ℕ → List ℕ) → Stands f s memory →
    list_all (λ (n : Node). is_done n.need) f.nodes.items ≡ all_done s
done_shown f s memory stands =
    sym (list_all-map (λ (t : Bool). t) (λ (n : Node). is_done n.need) f.nodes.items)
    ∙ (ap (λ (l : List Bool). list_all (λ (t : Bool). t) l)
    (each_core f s memory (λ (n : Node). is_done n.need) (λ (k : Core). is_done (need s.image k)) false
    (λ c lies. ap is_done (stands.shows.nodes c lies).need) stands)
    ∙ list_all-map (λ (t : Bool). t) (λ (k : Core). is_done (need s.image k)) s.cores)

-- the words that are kept are the memory's
words_are : (image : Contents) (home : List HomeBlock) (memory : ℕ → List ℕ) (block : ℕ) →
    ((i : ℕ) → i < length home → (home_at home i).words ≡ memory (home_at home i).block) →
    (((i : ℕ) → i < length home → (home_at home i).block ≢ block) → memory block ≡ opening_memory image block) →
    words_kept home image block ≡ memory block
words_are image [] memory block here others = sym (others (λ i (within : i < 0). absurd (omega (arith, within))))
words_are image (b ∷ later) memory block here others =
    by (λ h o. words_are image later memory block h o) (b.block == block) refl
  where
    by : (((i : ℕ) → i < length later → (home_at later i).words ≡ memory (home_at later i).block) →
        (((i : ℕ) → i < length later → (home_at later i).block ≢ block) → memory block ≡ opening_memory image block) →
        words_kept later image block ≡ memory block) → (t : Bool) → (b.block == block) ≡ t →
        (if t then b.words else words_kept later image block) ≡ memory block
    by rest true is = here 0 (omega arith) ∙ ap memory (same is)
      where
        same : (b.block == block) ≡ true → b.block ≡ block
        same eq = grind (arith, nat_tests)
    by rest false is = rest (λ i within. here (suc i) (omega (arith, within)))
        (λ none. others (λ i within. first_or_later none i within))
      where
        apart : (b.block == block) ≡ false → b.block ≢ block
        apart eq = λ (at : b.block ≡ block). absurd (grind (arith, nat_tests))

        first_or_later : ((i : ℕ) → i < length later → (home_at later i).block ≢ block) → (i : ℕ) →
            i < length (b ∷ later) → (home_at (b ∷ later) i).block ≢ block
        first_or_later none zero within = apart is
        first_or_later none (suc i) within = none i (omega (arith, within))

-- at the end they are the state's
pub words_shown : (f : Flat) (s : PlainState) (memory : ℕ → List ℕ) (block : ℕ) → Stands f s memory →
    links_empty s.memory ≡ true →
    words_kept f.home.items f.program block ≡ final_words none_riding none_carrying s block
words_shown f s memory block stands empty =
    ap (λ (i : Contents). words_kept f.home.items i block) stands.shows.image
    ∙ (words_are s.image f.home.items memory block stands.words.here (stands.words.others block)
    ∙ sym (final_current none_riding none_carrying s memory stands.holds empty stands.coherent block))
