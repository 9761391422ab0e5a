-- What the loops over the candidates have after each turn.
use Rattle.std.proofs.Common.{◌≡◌, ℕ, ◌+◌, ◌<◌, List, [], ◌∷◌, ◌++◌, length, take, get_or, sym, ◌∙◌, ap, arith, true}
use Rattle.std.proofs.Common.{false, Bool, cond}
use Rattle.std.specs.Prelude.{map}
use Rattle.std.specs.List.{filter, fold}
use Rattle.std.proofs.lemmas.List.{append-nil, map-append, take_all}
use Rattle.std.proofs.lemmas.List.Elements.{filter_more}
use Rattle.std.proofs.lemmas.List.Sums.{fold_more}
use Rattle.rtr_types.specs.declared.instr.Instr.{Instr}
use Rattle.rtr_types.specs.declared.instr.Edge.{Edge}
use Rattle.clock_core.specs.declared.clock.Clock.{Clock}
use Rattle.online_reduce.specs.declared.source.Source.{Source}
use Rattle.online_reduce.specs.Rule.{edge_to, edges_into, is_kept, merged_with}

-- the edges from some of the candidates
abbrev pub chosen : Instr → List Source → List Source → List Edge
chosen at found some = map (edge_to at) (filter (λ (s : Source). is_kept found s.at) some)

chosen_more : (at : Instr) (found : List Source) (i : ℕ) (s : Source) → i < length found → s ≡ get_or found i s →
    chosen at found (take (i + 1) found) ≡ chosen at found (take i found)
    ++ map (edge_to at) (cond (is_kept found s.at) (s ∷ []) [])
chosen_more at found i s lt is =
    ap (map (edge_to at)) (filter_more (λ (r : Source). is_kept found r.at) found i s lt)
    ∙ map-append (edge_to at) (filter (λ (r : Source). is_kept found r.at) (take i found))
    (cond (is_kept found (get_or found i s).at) (get_or found i s ∷ []) [])
    ∙ ap (λ (r : Source). chosen at found (take i found) ++ map (edge_to at) (cond (is_kept found r.at) (r ∷ []) []))
    (sym is)

pub chosen_push : (at : Instr) (found : List Source) (i : ℕ) (s : Source) (edges next : List Edge) (kept : Bool)
    → i < length found →
    s ≡ get_or found i s →
    kept ≡ is_kept found s.at → kept ≡ true → next ≡ edges ++ edge_to at s ∷ [] → edges ≡ chosen at found
    (take i found) →
    next ≡ chosen at found (take (i + 1) found)
chosen_push at found i s edges next kept lt is test passes more was =
    more ∙ ap (λ (es : List Edge). es ++ edge_to at s ∷ []) was
    ∙ sym (chosen_more at found i s lt is
    ∙ ap (λ (b : Bool). chosen at found (take i found) ++ map (edge_to at) (cond b (s ∷ []) [])) (sym test ∙ passes))

pub chosen_skip : (at : Instr) (found : List Source) (i : ℕ) (s : Source) (edges : List Edge) (kept : Bool)
    → i < length found →
    s ≡ get_or found i s →
    kept ≡ is_kept found s.at → kept ≡ false → edges ≡ chosen at found (take i found) → edges ≡ chosen at found
    (take (i + 1) found)
chosen_skip at found i s edges kept lt is test fails was =
    was ∙ sym (chosen_more at found i s lt is
    ∙ ap (λ (b : Bool). chosen at found (take i found) ++ map (edge_to at) (cond b (s ∷ []) [])) (sym test ∙ fails)
    ∙ append_nothing (chosen at found (take i found)))
  where
    append_nothing : (es : List Edge) → es ++ [] ≡ es
    append_nothing es = append-nil es

pub chosen_all : (at : Instr) (found : List Source) (i : ℕ) (edges : List Edge) → length found ≡ i →
    edges ≡ chosen at found (take i found) → edges ≡ edges_into at found
unfolding edges_into
chosen_all at found i edges e was = was ∙ ap (chosen at found) (take_all i found (omega arith))

pub merged_more : (before clock next : Clock) (found : List Source) (i : ℕ) (s : Source) → i < length found
    → s ≡ get_or found i s →
    next ≡ merged_with clock s →
    clock ≡ fold merged_with before (take i found) → next ≡ fold merged_with before (take (i + 1) found)
merged_more before clock next found i s lt is more was =
    more ∙ ap (λ (c : Clock). merged_with c s) was ∙ ap (merged_with (fold merged_with before (take i found))) is
    ∙ sym (fold_more merged_with before found i s lt)

pub merged_all : (before clock : Clock) (found : List Source) (i : ℕ) → length found ≡ i → clock ≡ fold merged_with
    before (take i found) →
    clock ≡ fold merged_with before found
merged_all before clock found i e was = was ∙ ap (fold merged_with before) (take_all i found (omega arith))
