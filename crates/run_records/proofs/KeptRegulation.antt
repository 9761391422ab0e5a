-- A retirement keeps the regulation.
use Rattle.std.proofs.Common.{◌≡◌, ◌∙◌, refl, sym, ap, subst, ℕ, ◌<◌, ◌≤◌, List, [], ◌∷◌, length, Some, arith}
use Rattle.std.specs.Prelude.{All, slice_index_or}
use Rattle.std.specs.List.{AllByRecursion}
use Rattle.std.proofs.lemmas.List.Elements.{All-nil, All-same, All-weaker}
use Rattle.access_times.specs.Times.{times_riding}
use Rattle.access_times.specs.declared.times.Times.{Times}
use Rattle.image_mem.specs.Contents.{Contents}
use Rattle.rtr_types.specs.Pairs.{pair_count, source_at, target_at}
use Rattle.rtr_types.proofs.PairPlaces.{places-paired}
use Rattle.rtr_types.specs.declared.access.Access.{Access}
use Rattle.rtr_types.specs.declared.instr.Edge.{Edge}
use Rattle.rtr_types.specs.declared.instr.Instr.{Instr}
use Rattle.rtr_types.specs.declared.params.Params.{Params}
use Rattle.schedule_pick.specs.Choices.{Choices, choice_at}
use Rattle.clock_core.proofs.EdgeLists.{place_among}
use Rattle.know_history.specs.Knowledge.{known_carrying}
use Rattle.know_history.specs.Notes.{Notes, noted_count}
use Rattle.know_history.specs.Rows.{with_note}
use Rattle.know_history.specs.declared.known.Known.{Known}
use Rattle.rtr_types.specs.PairEdges.{with_edges, AreEdgesAfter}
use Rattle.edge_regulate.specs.Regulated.{AreReady, ArePairsApart, IsNextEdge, Regulation}
use Rattle.edge_regulate.specs.Seats.{CanFollow, Follows, IsNotedNext}
use Rattle.machine_known.specs.RunHistory.{with_event as noted_event}
use Rattle.online_reduce.proofs.TouchedState.{covering_after}
use Rattle.online_reduce.specs.Exact.{AreExactFor, IsReduction}
use Rattle.online_reduce.specs.Reduced.{IsNext, Reduced, count_of, edges_of}
use Rattle.msi_state.specs.Events.{Event, Nothing, Retires, Accesses, instr_of}
use Rattle.msi_state.specs.Runs.{accesses}
use Rattle.msi_state.specs.States.{State}
use Rattle.msi_state.specs.Steps.{carry_told, event, rider_found}
use Rattle.msi_state.specs.declared.moves.Move.{Move}
use Rattle.regulated_log.proofs.NewEdges.{new_edges_law}
use Rattle.run_records.proofs.KnownAtRetirement.{noted_next}
use Rattle.run_records.proofs.RecordedPlaces.{Told, Turned, counts_noted, turned_exact}
use Rattle.run_records.specs.Clerks.{CanTell, IsTold, Noted}
use Rattle.run_records.specs.Standing.{NotesAt, Regulates}

-- the reduction's lists are those that the regulator was told, with the edges that it can be told, whose targets are
-- the
-- last that are noted
pub record Untold (told : List (List (ℕ × ℕ))) (notes : Notes) (d : Noted) : Type 0 where
  pub cores : d.regulation.regulation.cores ≡ d.reduction.state.cores
  pub follows : Follows notes told d.regulation
  pub next : All (λ (e : Edge). CanFollow d.regulation.regulation e) d.untold
  pub noted : All (λ (e : Edge). e.to.count ≡ noted_count notes e.to.core) d.untold
  pub apart : ArePairsApart d.regulation.regulation.cores d.untold
  pub lists : d.reduction.state.lists ≡ with_edges d.regulation.regulation.cores told d.untold

-- ---- no edge more

no_more : (cores : ℕ) (told : List (List (ℕ × ℕ))) (edges : List Edge) → edges ≡ [] → told ≡ with_edges cores told edges
unfolding with_edges
no_more cores told edges none = ap (with_edges cores told) (sym none)

-- where no edge is new
none_untold : (told : List (List (ℕ × ℕ))) (notes : Notes) (d : Noted) → d.untold ≡ [] →
    d.regulation.regulation.cores ≡ d.reduction.state.cores → d.reduction.state.lists ≡ told →
    Follows notes told d.regulation → Untold told notes d
none_untold told notes d none cores lists kept = record {
  cores = cores;
  follows = kept;
  next = All-same (λ (e : Edge). CanFollow d.regulation.regulation e) d.untold [] none
      (All-nil (λ (e : Edge). CanFollow d.regulation.regulation e));
  noted = All-same (λ (e : Edge). e.to.count ≡ noted_count notes e.to.core) d.untold [] none
      (All-nil (λ (e : Edge). e.to.count ≡ noted_count notes e.to.core));
  apart = λ i j e before lt same. absurd (let long : length d.untold ≡ 0 = ap length none in omega arith);
  lists = lists ∙ no_more d.regulation.regulation.cores told d.untold none;
}

-- ---- one step

-- what is known of the clerk before
record Before (list : List Access) (edges : List Edge) (notes : Notes) (e : Event) (carry : Known) (c : Noted) : Type 0
  where
    regulates : Regulates notes c
    noted : (at : Instr) → instr_of e ≡ Some at → IsNext c.reduction.state at →
        IsNotedNext notes at carry (with_note notes at carry)
    reduction : IsReduction list c.reduction.state edges

told_untold : (e : Event) (carry : Known) (list : List Access) (edges : List Edge) (notes : Notes) (c d : Noted)
    (first_times next_times : Times) →
    ((a : Access) → e ≡ Accesses a → AreExactFor list a first_times) → Told e carry c first_times d next_times →
    Before list edges notes e carry c →
    Untold c.reduction.state.lists (noted_event notes e carry) d
told_untold Nothing carry list edges notes c d first_times next_times exact is holds =
    subst (λ (x : Noted). Untold c.reduction.state.lists notes x) (sym is)
    (none_untold c.reduction.state.lists notes c holds.regulates.all_told holds.regulates.cores refl
    holds.regulates.follows)
told_untold (Retires at) carry list edges notes c d first_times next_times exact is holds =
    none_untold c.reduction.state.lists (with_note notes at carry) d is.untold
    (ap (λ (s : Regulation). s.cores) is.regulation.regulation ∙ holds.regulates.cores
    ∙ ap (λ (s : Reduced). s.cores) (sym is.reduction))
    (ap (λ (s : Reduced). s.lists) is.reduction)
    (is.regulation.follows notes (with_note notes at carry) c.reduction.state.lists (holds.noted at refl is.next)
    holds.regulates.follows)
told_untold (Accesses a) carry list edges notes c d first_times next_times exact is holds =
    let later : Notes = with_note notes a.at carry in
    let next : IsNotedNext notes a.at carry later = holds.noted a.at refl is.next in
    let kept : Follows later c.reduction.state.lists d.regulation =
    is.regulation.follows notes later c.reduction.state.lists next holds.regulates.follows in
    let cores : d.regulation.regulation.cores ≡ c.reduction.state.cores =
    ap (λ (s : Regulation). s.cores) is.regulation.regulation ∙ holds.regulates.cores in
    let can = new_edges_law later list c.reduction.state edges a first_times d.regulation.regulation is.next
    (exact a refl)
    holds.reduction cores kept.regulation
    (let noted = next.noted.count in omega arith) in
    let targets : All (λ (e : Edge). e.to.count ≡ noted_count later e.to.core)
    (edges_of c.reduction.state a first_times) =
    new_targets list c.reduction.state edges a first_times later is.next
    (exact a refl) holds.reduction next.noted.count in
    record {
      cores = cores ∙ ap (λ (s : Reduced). s.cores) (sym is.reduction);
      follows = kept;
      next = All-same (λ (e : Edge). CanFollow d.regulation.regulation e) d.untold
          (edges_of c.reduction.state a first_times)
          is.untold
          (All-weaker (λ (e : Edge). IsNextEdge later d.regulation.regulation e)
          (λ (e : Edge). CanFollow d.regulation.regulation e)
          (λ e it. record { pair = it.pair; some = it.some; later = it.later })
          (edges_of c.reduction.state a first_times)
          can.next);
      noted = All-same (λ (e : Edge). e.to.count ≡ noted_count later e.to.core) d.untold
          (edges_of c.reduction.state a first_times) is.untold targets;
      apart = subst (λ (es : List Edge). ArePairsApart d.regulation.regulation.cores es) (sym is.untold) can.apart;
      lists = ap (λ (s : Reduced). s.lists) is.reduction ∙ can.lists
          ∙ ap (with_edges d.regulation.regulation.cores c.reduction.state.lists) (sym is.untold);
    }
  where
    -- the new edges' target is the instruction
    new_targets : (list : List Access) (s : Reduced) (edges : List Edge) (a : Access) (t : Times) (later : Notes) →
        IsNext s a.at →
        AreExactFor list a t → IsReduction list s edges → noted_count later a.at.core ≡ a.at.count →
        All (λ (e : Edge). e.to.count ≡ noted_count later e.to.core) (edges_of s a t)
    new_targets list s edges a t later next times reduction noted k d lt =
        let e = slice_index_or (edges_of s a t) k d in
        let covering = covering_after s a t (edges_of s a t) refl next list reduction.exact times in
        let at = ((covering.covering e.from e.to).0 (place_among (edges_of s a t) k d lt)).0 in
        subst (λ (v : Instr). v.count ≡ noted_count later v.core) (sym at) (sym noted)

pub turned_untold : (image : Contents) (params : Params) (schedule : Choices) (t : ℕ) (s s' : State Times Known)
    (m : Move) (c d : Noted) (q : Times)
    (notes : Notes) (rest rest' : Choices) → Turned s s' m c.reduction.state d.reduction.state rest rest' →
    Told (event times_riding known_carrying s m) (carry_told times_riding known_carrying s m) c
    (rider_found times_riding known_carrying s m) d q →
    NotesAt image params schedule t s c.reduction.state notes rest → Regulates notes c →
    Untold c.reduction.state.lists
    (noted_event notes (event times_riding known_carrying s m) (carry_told times_riding known_carrying s m)) d
turned_untold image params schedule t s s' m c d q notes rest rest' turned told h regulates =
    told_untold (event times_riding known_carrying s m) (carry_told times_riding known_carrying s m)
    (accesses image params (choice_at schedule) t) h.edges notes c d (rider_found times_riding known_carrying s m) q
    (turned_exact (accesses image params (choice_at schedule) t) s s' m c.reduction.state d.reduction.state rest rest'
    h.list h.edges turned h.machine h.reduces)
    told
    (record {
      regulates = regulates;
      noted = λ at is next. noted_next image params schedule t s s' m c.reduction.state d.reduction.state notes rest
          rest' turned h at next is;
      reduction = h.reduces.reduction;
    })

-- the room stays
told_ready : (e : Event) (carry : Known) (c d : Noted) (r q : Times) → Told e carry c r d q →
    AreReady c.regulation.regulation →
    AreReady d.regulation.regulation
told_ready Nothing carry c d r q is ready = subst (λ (x : Noted). AreReady x.regulation.regulation) (sym is) ready
told_ready (Retires at) carry c d r q is ready = subst AreReady (sym is.regulation.regulation) ready
told_ready (Accesses a) carry c d r q is ready = subst AreReady (sym is.regulation.regulation) ready

pub can_tell : (e : Event) (carry : Known) (told : List (List (ℕ × ℕ))) (notes : Notes) (c d : Noted) (r q : Times) →
    Told e carry c r d q →
    AreReady c.regulation.regulation → Untold told notes d → CanTell d
can_tell e carry told notes c d r q is ready untold = record {
  ready = told_ready e carry c d r q is ready;
  next = untold.next;
  apart = untold.apart;
}

-- once they are told
pub told_regulates : (told : List (List (ℕ × ℕ))) (notes : Notes) (d e : Noted) → Untold told notes d → IsTold d e →
    Regulates notes e
told_regulates told notes d e untold is = record {
  cores = is.cores ∙ untold.cores ∙ ap (λ (r : Reduced). r.cores) (sym is.reduction);
  all_told = is.untold;
  follows = subst (λ (lists : List (List (ℕ × ℕ))). Follows notes lists e.regulation)
      (sym (ap (λ (r : Reduced). r.lists) is.reduction ∙ untold.lists)) (is.follows notes told untold.noted
      untold.follows);
}

-- ---- the edges that were told, by what is noted

rise_within : (most last : ℕ × ℕ) (edges : List (ℕ × ℕ)) (bound : ℕ) → most.1 ≤ bound → AreEdgesAfter most last edges →
    AllByRecursion (λ (e : ℕ × ℕ). e.1 ≤ bound) edges
rise_within most last [] bound le rise = tt
rise_within most last (e ∷ edges) bound le rise = (
  let here = rise.0.target_most in
      omega arith,
  rise_within most e edges bound le rise.1,
)

-- each pair's edges end within what is noted of the target
pub edges_noted : (image : Contents) (params : Params) (schedule : Choices) (t : ℕ) (s : State Times Known)
    (r : Reduced) (notes : Notes)
    (rest : Choices) → NotesAt image params schedule t s r notes rest → (place : ℕ) → place < pair_count r.cores →
    AllByRecursion (λ (e : ℕ × ℕ). e.1 ≤ noted_count notes (target_at r.cores place)) (slice_index_or r.lists place [])
edges_noted image params schedule t s r notes rest h place below =
    let cores = r.cores in
    let pair = (places-paired r.cores place below).0 in
    let counted = counts_noted image params schedule t s r notes rest h (target_at cores place) pair.target in
    rise_within (count_of r (source_at cores place), count_of r (target_at cores place)) (0, 0)
    (slice_index_or r.lists place []) (noted_count notes (target_at cores place)) (omega arith)
    (h.reduces.reduction.rising place below)

-- the same where room was made
pub regulates_same : (notes : Notes) (c d : Noted) → d.reduction.state ≡ c.reduction.state → d.untold ≡ c.untold →
    d.regulation.regulation.cores ≡ c.regulation.regulation.cores →
    ((notes : Notes) (edges : List (List (ℕ × ℕ))) → Follows notes edges c.regulation →
    Follows notes edges d.regulation) →
    Regulates notes c → Regulates notes d
regulates_same notes c d reduction untold cores keeps h = record {
  cores = cores ∙ h.cores ∙ ap (λ (r : Reduced). r.cores) (sym reduction);
  all_told = untold ∙ h.all_told;
  follows = subst (λ (lists : List (List (ℕ × ℕ))). Follows notes lists d.regulation) (ap (λ (r : Reduced). r.lists)
      (sym reduction))
      (keeps notes c.reduction.state.lists h.follows);
}
