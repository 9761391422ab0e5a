-- The pcs of a run are noted place by place: before a place its core is at a closed cut of which the replay has the
-- state, so its pc there is that of its next instruction.
use Rattle.std.proofs.Common.{◌≡◌, ◌≢◌, ◌⊎◌, inl, inr, ℕ, ◌+◌, ◌-◌, ◌<◌, ◌≤◌, List, [], ◌∷◌, ◌++◌, length, replicate}
use Rattle.std.proofs.Common.{drop, sym, ap, subst, ◌∙◌, arith, get_or-set_same, get_or-set_other, length-append}
use Rattle.std.specs.Prelude.{slice_index, slice_index_or}
use Rattle.std.proofs.lemmas.Bool.{cases_lt}
use Rattle.std.proofs.lemmas.List.{get_or_append_left, get_or_past, get_or-replicate, length-map, length-replicate}
use Rattle.std.proofs.lemmas.List.{length-set}
use Rattle.std.proofs.Math.Seq.{get_or-append_seam}
use native.Mathlib.Decide.{ℕ_discrete}
use Rattle.rtr_types.specs.declared.access.Access.{Access}
use Rattle.rtr_types.specs.declared.cut.Cut.{Cut}
use Rattle.rtr_types.specs.declared.pairs.Which.{Which}
use Rattle.rv_core.specs.declared.outcome.Outcome.{Outcome}
use Rattle.std.specs.Prelude.{Option}
use Rattle.roomy_lists.specs.Lists.{Listed, items_in, with_item}
use Rattle.race_log.specs.declared.recording.Recording.{Recording}
use Rattle.race_log.specs.Validity.{Valid}
use Rattle.replay_core.specs.Answers.{Retires, UnderWay, cut_of}
use Rattle.replay_core.specs.Orders.{IsReplayOrder, IsWhole, Ordered, bump, counts, counts_in, nought}
use Rattle.replay_core.specs.Plans.{plan_of}
use Rattle.replay_core.specs.Play.{core_at, instr, start}
use Rattle.replay_core.proofs.Counts.{bump_else, bump_here}
use Rattle.replay_core.proofs.Places.{place_known, play_law, start_known}
use Rattle.replay_audit.specs.Determinate.{Decides}
use Rattle.cut_replay.specs.ClosedCuts.{count_in}
use Rattle.cut_replay.specs.Dues.{IsOnTheWay}
use Rattle.cut_replay.proofs.Ways.{way_start}
use Rattle.cut_moves.proofs.Fronts.{count_is, order_cut}
use Rattle.debug_place.proofs.OwnCuts.{at_own, known, own_count, own_cut}
use Rattle.debug_place.proofs.WalkedWay.{next_first, placed, walk_on}
use Rattle.race_answers.specs.Pcs.{AreNoted, ArePcs, IsNoting, IsPcOf, pc_in}

-- ---- one more

module _ (which : Which) (r : Recording) (f : ℕ → ℕ) (pcs : List (List ℕ)) (noted : AreNoted which r f pcs)
    (core pc : ℕ) (inside : core < r.params.cores) (is : IsPcOf which r (instr core (f core + 1)) pc) where
  old : List ℕ
  old = slice_index_or pcs core []

  abbrev new : List (List ℕ)
  new = with_item pcs core pc

  own_list : slice_index_or (with_item pcs core pc) core [] ≡ slice_index_or pcs core [] ++ pc ∷ []
  own_list =
      let all = noted.all in
      get_or-set_same pcs core (slice_index_or pcs core [] ++ pc ∷ []) [] (omega arith)

  other_list : (c : ℕ) → c ≢ core → slice_index_or (with_item pcs core pc) c [] ≡ slice_index_or pcs c []
  other_list c ne = get_or-set_other pcs core c (slice_index_or pcs core [] ++ pc ∷ []) [] ne

  long_more : (c : ℕ) → c < r.params.cores → length (slice_index_or (with_item pcs core pc) c []) ≡ bump f core c
  long_more c lt = elim (ℕ_discrete c core) [
    | yes e ↦
        subst (λ (i : ℕ). length (slice_index_or (with_item pcs core pc) i []) ≡ bump f core i) (sym e)
        (ap (λ (l : List ℕ). length l) own_list
        ∙ (let long = noted.long core inside in
        let more = length-append (slice_index_or pcs core []) (pc ∷ []) in
        let here = bump_here f core in omega arith))
    | no ne ↦ ap (λ (l : List ℕ). length l) (other_list c ne) ∙ noted.long c lt ∙ sym (bump_else f core c ne)
  ]

  own_pcs : (k : ℕ) → k < f core + 1 →
      IsPcOf which r (instr core (k + 1)) (slice_index (slice_index_or (with_item pcs core pc) core []) k)
  own_pcs k below =
      subst (λ (l : List ℕ). IsPcOf which r (instr core (k + 1)) (slice_index l k)) (sym own_list)
      (by (cases_lt k (f core)))
    where
      by : (k < f core) ⊎ (f core ≤ k) →
          IsPcOf which r (instr core (k + 1)) (slice_index (slice_index_or pcs core [] ++ pc ∷ []) k)
      by (inl lt) =
          subst (λ (n : ℕ). IsPcOf which r (instr core (k + 1)) n)
          (sym (get_or_append_left (slice_index_or pcs core []) (pc ∷ []) 0 k
          (let long = noted.long core inside in omega arith)))
          (noted.noted core k inside lt)
      by (inr past) =
          let long = noted.long core inside in
          let here : f core ≡ k = omega arith in
          let last : length (slice_index_or pcs core []) ≡ k = long ∙ here in
          subst (λ (n : ℕ). IsPcOf which r (instr core (n + 1)) (slice_index (slice_index_or pcs core [] ++ pc ∷ []) n))
          here
          (subst (λ (n : ℕ). IsPcOf which r (instr core (f core + 1)) n)
          (sym (ap (λ (i : ℕ). slice_index (slice_index_or pcs core [] ++ pc ∷ []) i) (sym long)
          ∙ get_or-append_seam (slice_index_or pcs core []) pc [] 0)) is)

  all_pcs : (c k : ℕ) → c < r.params.cores → k < bump f core c →
      IsPcOf which r (instr c (k + 1)) (slice_index (slice_index_or (with_item pcs core pc) c []) k)
  all_pcs c k lt below = elim (ℕ_discrete c core) [
    | yes e ↦
        subst
        (λ (i : ℕ). IsPcOf which r (instr i (k + 1)) (slice_index (slice_index_or (with_item pcs core pc) i []) k))
        (sym e)
        (own_pcs k
        (let here = bump_here f core in
        let same : bump f core c ≡ bump f core core = ap (λ (i : ℕ). bump f core i) e in omega arith))
    | no ne ↦
        subst (λ (l : List ℕ). IsPcOf which r (instr c (k + 1)) (slice_index l k)) (sym (other_list c ne))
        (noted.noted c k lt (let else = bump_else f core c ne in omega arith))
  ]

  pub noted_more : AreNoted which r (bump f core) (with_item pcs core pc)
  noted_more = record {
    all = length-set pcs core (slice_index_or pcs core [] ++ pc ∷ []) ∙ noted.all;
    long = long_more;
    noted = all_pcs;
  }

-- ---- the beginning

module _ (which : Which) (r : Recording) (u : UnderWay) (places : List ℕ) (valid : Valid r)
    (plan_is : u.plan ≡ plan_of which r) (state_is : u.state ≡ start (plan_of which r))
    (ordered : IsReplayOrder (plan_of which r) places) (whole : IsWhole (plan_of which r) places) where
  abbrev end : Cut
  end = cut_of (plan_of which r) (counts nought places)

  none : counts_in u.state ≡ nought
  none = ap (λ (s : Outcome). counts_in s) state_is ∙ (start_known (plan_of which r)).counts

  end_count : (core : ℕ) → counts nought places core ≡ count_in (cut_of (plan_of which r) (counts nought places)) core
  end_count core = elim (cases_lt core r.params.cores) [
    | inl below ↦ sym (count_is which r valid (counts nought places) core below)
    | inr past ↦
        let rest = (order_cut which r places valid ordered).is_cut.rest core past in
        let most = (play_law (plan_of which r) places ordered).within core in
        let outside : slice_index r.totals core ≡ 0 =
        get_or_past r.totals core 0 (let all = valid.each_core in omega arith) in
        omega arith
  ]

  pub begins_noting : (pcs : List (List ℕ)) → pcs ≡ replicate r.params.cores [] → IsNoting which r u places pcs
  begins_noting pcs pcs_are = record {
    to = cut_of (plan_of which r) (counts nought places);
    walking = record {
      way = way_start which r (cut_of (plan_of which r) (counts nought places)) u
          (order_cut which r places valid ordered) plan_is state_is valid;
      ordered = subst (λ (g : ℕ → ℕ). Ordered (plan_of which r) g places) (sym none) ordered;
      leads = λ core. ap (λ (g : ℕ → ℕ). counts g places core) none ∙ end_count core;
    };
    ends = λ core lt. sym (end_count core) ∙ whole.each core (let all = valid.each_core in omega arith);
    so_far = record {
      all = ap (λ (l : List (List ℕ)). length l) pcs_are ∙ length-replicate r.params.cores [];
      long = λ core lt.
          ap (λ (l : List (List ℕ)). length (slice_index_or l core [])) pcs_are
          ∙ ap (λ (l : List ℕ). length l) (get_or-replicate r.params.cores core [] [] lt)
          ∙ sym (ap (λ (g : ℕ → ℕ). g core) none);
      noted = λ core k lt below. let nothing = ap (λ (g : ℕ → ℕ). g core) none in absurd (omega arith);
    };
  }

-- ---- a place

-- where a core of a replay is on the way
pub pc_here : {which : Which} {r : Recording} {to : Cut} {u : UnderWay} → IsOnTheWay which r to u → (whole : List ℕ) →
    Decides (plan_of which r) whole → (core pc : ℕ) → pc ≡ (core_at u.state core).pc →
    IsPcOf which r (instr core (counts_in u.state core + 1)) pc
pc_here {which} {r} {to} {u} way whole decides core pc is = record {
  cut = own_cut which r u;
  closed = (at_own way whole decides).closed;
  before = ap (λ (n : ℕ). n + 1) (own_count way core);
  state = u.state;
  state_is = (at_own way whole decides).state;
  pc_is = is;
}

module _ {which : Which} {r : Recording} {u : UnderWay} {core : ℕ} {rest : List ℕ} {pcs : List (List ℕ)}
    (noting : IsNoting which r u (core ∷ rest) pcs) (whole : List ℕ) (decides : Decides (plan_of which r) whole)
    (v : UnderWay) (same_plan : v.plan ≡ u.plan) (same_state : v.state ≡ u.state) (w : UnderWay)
    (kept : w.plan ≡ v.plan) (access : Option Access) (retires : Retires v.plan v.state core access w.state) where
  one_more : counts_in w.state ≡ bump (counts_in u.state) core
  one_more =
      ap (λ (s : Outcome). counts_in s)
      (placed core rest noting.walking whole decides v same_plan same_state w kept access retires)
      ∙ (place_known (plan_of which r) (counts_in u.state) u.state core (known noting.walking.way)
      noting.walking.ordered.0).counts

  pub notes_on : (pc : ℕ) → pc ≡ (core_at v.state core).pc → (new : List (List ℕ)) → new ≡ with_item pcs core pc →
      IsNoting which r w rest new
  notes_on pc is new new_is = record {
    to = noting.to;
    walking = walk_on core rest noting.walking whole decides v same_plan same_state w kept access retires;
    ends = noting.ends;
    so_far = subst (λ (g : ℕ → ℕ). AreNoted which r g new) (sym one_more)
        (subst (λ (l : List (List ℕ)). AreNoted which r (bump (counts_in u.state) core) l) (sym new_is)
        (noted_more which r (counts_in u.state) pcs noting.so_far core pc
        (let there = noting.walking.ordered.0.inside in let all = noting.walking.way.valid.each_core in omega arith)
        (pc_here noting.walking.way whole decides core pc
        (is ∙ ap (λ (s : Outcome). (core_at s core).pc) same_state))));
  }

-- the places from the next one on
pub next_noted : {which : Which} {r : Recording} {u : UnderWay} {pcs : List (List ℕ)} (places : List ℕ) (i : ℕ) →
    i < length places → IsNoting which r u (drop i places) pcs →
    IsNoting which r u (slice_index places i ∷ drop (i + 1) places) pcs
next_noted places i within noting = record {
  to = noting.to;
  walking = next_first places i within noting.walking;
  ends = noting.ends;
  so_far = noting.so_far;
}

-- its core has a list
pub inside_lists : {which : Which} {r : Recording} {u : UnderWay} {core : ℕ} {rest : List ℕ} {pcs : List (List ℕ)} →
    IsNoting which r u (core ∷ rest) pcs → (all : List (Listed ℕ)) → items_in all ≡ pcs → core < length all
inside_lists noting all same =
    let there = noting.walking.ordered.0.inside in
    let each = noting.walking.way.valid.each_core in
    let lists = noting.so_far.all in
    let long = length-map all (λ (l : Listed ℕ). l.items) in
    let alike = ap (λ (l : List (List ℕ)). length l) same in
    omega arith

-- ---- the end

pub all_noted : {which : Which} {r : Recording} {u : UnderWay} {pcs : List (List ℕ)} → IsNoting which r u [] pcs →
    ArePcs which r pcs
all_noted {which} {r} {u} {pcs} noting = record {
  each = λ at there.
      let inside : at.core < r.params.cores =
      let core = there.core in let all = noting.walking.way.valid.each_core in omega arith in
      let whole : counts_in u.state at.core ≡ slice_index r.totals at.core =
      noting.walking.leads at.core ∙ noting.ends at.core inside in
      let count : at.count - 1 + 1 ≡ at.count = let some = there.some in omega arith in
      subst (λ (n : ℕ). IsPcOf which r (instr at.core n) (pc_in pcs at)) count
      (noting.so_far.noted at.core (at.count - 1) inside
      (let some = there.some in let most = there.most in omega arith));
}
