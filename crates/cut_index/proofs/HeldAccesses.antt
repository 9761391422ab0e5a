-- A closed cut is reached by the low order without what the cut lacks, whose accesses are those of the low order that
-- the cut holds. So they say what each word holds at the cut.
use Rattle.std.proofs.Common.{inl, inr, ◌≡◌, ◌⊎◌, ℕ, ◌+◌, ◌<◌, ◌≤◌, Bool, true, false, List, [], ◌∷◌, ◌++◌, length}
use Rattle.std.proofs.Common.{refl, sym, ap, ◌∙◌, subst, append_assoc, arith}
use Rattle.std.specs.Prelude.{nat_le, nat_lt, slice_index, Some, None, ◌&&◌}
use Rattle.std.proofs.lemmas.Bool.{cases_lt}
use Rattle.std.proofs.lemmas.Bool.Decides.{nat_tests}
use Rattle.std.proofs.lemmas.List.Elements.{filter-append}
use Rattle.std.proofs.lemmas.List.FromFn.{get_or-map-range_with_len}
use native.Mathlib.Decide.{ℕ_discrete}
use Rattle.rtr_types.specs.declared.access.Access.{Access}
use Rattle.rtr_types.specs.declared.cut.Cut.{Cut}
use Rattle.rtr_types.specs.declared.instr.Instr.{Instr}
use Rattle.rtr_types.specs.declared.pairs.Which.{Which}
use Rattle.image_mem.specs.Contents.{opening_word}
use Rattle.conflict_edge.specs.Conflicts.{StandsIn}
use Rattle.conflict_edge.proofs.AccessPlaces.{stands_left, stands_right}
use Rattle.rv_core.specs.declared.core_state.Core.{Core}
use Rattle.rv_core.specs.declared.outcome.Outcome.{Outcome}
use Rattle.rv_core.specs.Steps.{need}
use Rattle.race_log.specs.declared.recording.Recording.{Recording}
use Rattle.race_log.specs.Validity.{Valid}
use Rattle.replay_core.specs.Orders.{bump, counts, nought, IsReplayOrder}
use Rattle.replay_core.specs.Plans.{Plan, plan_of, recorded_image}
use Rattle.replay_core.specs.Play.{Use, accesses_by, accesses_from, accesses_of, core_at, instr, need_at, new_at}
use Rattle.replay_core.specs.Play.{old_at}
use Rattle.replay_core.specs.Play.{place, played, start, touched, use_of}
use Rattle.replay_core.proofs.Counts.{bump_else, bump_same, counts_on}
use Rattle.replay_core.proofs.Lists.{accesses_on, ordered_on, play_on}
use Rattle.replay_core.proofs.Places.{play_law, start_known}
use Rattle.replay_audit.specs.Determinate.{IsDeterminate, low_accesses, low_order_of}
use Rattle.replay_audit.proofs.OrdersAgree.{one_access_law}
use Rattle.replay_audit.proofs.Rise.{touched_is}
use Rattle.cut_replay.specs.ClosedCuts.{count_in, IsClosed}
use Rattle.cut_replay.specs.CutStates.{IsStateAt, Reaches}
use Rattle.cut_moves.specs.Ways.{way_from, way_of, with_place, Within}
use Rattle.cut_moves.proofs.Along.{off_high, on_is, way_counts, way_ordered}
use Rattle.race_queries.specs.Queries.{is_held}
use Rattle.cut_index.specs.AloneLaws.{alone_at}
use Rattle.cut_index.specs.Left.{left_by}
use Rattle.cut_index.specs.Words.{WordAtLaw, held_in}
use Rattle.cut_index.specs.declared.alone.Alone.{Alone}
use Rattle.cut_index.proofs.CoresAlone.{stands}
use Rattle.cut_index.proofs.WordsLeft.{left_by_play}

-- ---- an instruction's access, as a list

-- two by one use are one where they have the same values
one_list : (used : Use) (at : Instr) (old new other last : ℕ) →
    ((a b : Access) → StandsIn (accesses_by used at old new) a → StandsIn (accesses_by used at other last) b →
    a.at ≡ b.at → a ≡ b) → accesses_by used at old new ≡ accesses_by used at other last
one_list None at old new other last h = refl
one_list (Some used) at old new other last h =
    let a : Access = record { at = at; word = used.1; kind = used.0; before = old; after = new } in
    let b : Access = record { at = at; word = used.1; kind = used.0; before = other; after = last } in
    ap (λ (x : Access). x ∷ []) (h a b (inl refl) (inl refl) refl)

-- the cut holds it or not
held_one : (cut : Cut) (used : Use) (at : Instr) (old new : ℕ) → is_held cut at ≡ true →
    held_in cut (accesses_by used at old new) ≡ accesses_by used at old new
held_one cut None at old new t = refl
held_one cut (Some used) at old new t = rw t refl

held_none : (cut : Cut) (used : Use) (at : Instr) (old new : ℕ) → is_held cut at ≡ false →
    held_in cut (accesses_by used at old new) ≡ []
held_none cut None at old new t = refl
held_none cut (Some used) at old new t = rw t refl

module _ (which : Which) (r : Recording) (valid : Valid r) (determinate : IsDeterminate which r) where
  abbrev p : Plan
  p = plan_of which r

  -- what an instruction does doesn't depend on the order, if the core has come as far
  module _ (one other : List ℕ) (c : ℕ) (first : IsReplayOrder (plan_of which r) (one ++ c ∷ []))
      (second : IsReplayOrder (plan_of which r) (other ++ c ∷ []))
      (count : counts nought one c ≡ counts nought other c) where
    abbrev s : Outcome
    s = played (plan_of which r) one

    abbrev t : Outcome
    t = played (plan_of which r) other

    inside : c < length r.totals
    inside = ((ordered_on p nought one (c ∷ [])).0 first).1.0.inside

    same_core : core_at (played (plan_of which r) one) c ≡ core_at (played (plan_of which r) other) c
    same_core = ap (λ (a : Alone). a.core)
        ((stands which r c valid determinate inside one ((ordered_on p nought one (c ∷ [])).0 first).0).alone
        ∙ ap (λ (n : ℕ). alone_at which r c n) count
        ∙ sym (stands which r c valid determinate inside other ((ordered_on p nought other (c ∷ [])).0 second).0).alone)

    abbrev used : Use
    used = use_of (need_at (plan_of which r) (played (plan_of which r) other) c)

    abbrev at : Instr
    at = instr c ((core_at (played (plan_of which r) other) c).count + 1)

    first_is : touched (plan_of which r) s c ≡ accesses_by used at (old_at (plan_of which r) s c) (new_at
        (plan_of which r) s c)
    first_is = touched_is p s c ∙ ap (λ (k : Core).
        accesses_by (use_of (need (recorded_image r) k)) (instr c (k.count + 1)) (old_at p s c)
        (new_at p s c)) same_core

    -- it stands among the order's accesses
    stands_last : (order : List ℕ) (a : Access) → StandsIn (touched (plan_of which r) (played
        (plan_of which r) order) c) a →
        StandsIn (accesses_of (plan_of which r) (order ++ c ∷ [])) a
    stands_last order a here =
        subst (λ (l : List Access). StandsIn l a) (sym (accesses_on p (start p) order (c ∷ [])))
        (stands_right (accesses_of p order) (touched p (played p order) c ++ []) a
        (stands_left (touched p (played p order) c) [] a here))

    pub same_touch : touched (plan_of which r) (played (plan_of which r) one) c
        ≡ touched (plan_of which r) (played (plan_of which r) other) c
    same_touch = first_is
        ∙ one_list used at (old_at p s c) (new_at p s c) (old_at p t c) (new_at p t c)
        (λ a b here there. one_access_law which r (low_order_of which r) (one ++ c ∷ []) (other ++ c ∷ []) a b
        (record { valid = valid; decides = determinate; ordered = first; others = second })
        (stands_last one a (subst (λ (l : List Access). StandsIn l a) (sym first_is) here))
        (stands_last other b (subst (λ (l : List Access). StandsIn l b) (sym (touched_is p t c)) there)))
        ∙ sym (touched_is p t c)

  -- ---- along the low order, and along what the cut has of it

  module _ (cut : Cut) where
    -- the cut's count of a core holds its next instruction, or not
    held_next : (c n : ℕ) → n < count_in cut c → is_held cut (instr c (n + 1)) ≡ true
    held_next c n lt = grind (arith, nat_tests)

    past_next : (c n : ℕ) → count_in cut c ≤ n → is_held cut (instr c (n + 1)) ≡ false
    past_next c n le = grind (arith, nat_tests)

    touched_held : (s : Outcome) (c n : ℕ) → (core_at s c).count ≡ n → n < count_in cut c →
        held_in cut (touched (plan_of which r) s c) ≡ touched (plan_of which r) s c
    touched_held s c n count lt =
        ap (λ (l : List Access). held_in cut l) (touched_is p s c)
        ∙ held_one cut (use_of (need_at p s c)) (instr c ((core_at s c).count + 1)) (old_at p s c) (new_at p s c)
        (ap (λ (m : ℕ). is_held cut (instr c (m + 1))) count ∙ held_next c n lt)
        ∙ sym (touched_is p s c)

    touched_past : (s : Outcome) (c n : ℕ) → (core_at s c).count ≡ n → count_in cut c ≤ n →
        held_in cut (touched (plan_of which r) s c) ≡ []
    touched_past s c n count le =
        ap (λ (l : List Access). held_in cut l) (touched_is p s c)
        ∙ held_none cut (use_of (need_at p s c)) (instr c ((core_at s c).count + 1)) (old_at p s c) (new_at p s c)
        (ap (λ (m : ℕ). is_held cut (instr c (m + 1))) count ∙ past_next c n le)

    -- the way has come as far as the order, but for what the cut lacks
    record IsAlong (front way : List ℕ) (at : ℕ → ℕ) (s t : Outcome) (cs : List ℕ) : Type 0 where
      at_is : at ≡ counts nought front
      s_is : s ≡ played (plan_of which r) front
      t_is : t ≡ played (plan_of which r) way
      ordered : IsReplayOrder (plan_of which r) (front ++ cs)
      leads : IsReplayOrder (plan_of which r) (way ++ way_from nought (count_in cut) at cs)
      same : (i : ℕ) → at i ≤ count_in cut i → counts nought way i ≡ at i

    front_on : (front cs : List ℕ) (c : ℕ) → IsReplayOrder (plan_of which r) (front ++ c ∷ cs) →
        IsReplayOrder (plan_of which r) ((front ++ c ∷ []) ++ cs)
    front_on front cs c o = subst (λ (l : List ℕ). IsReplayOrder p l) (sym (append_assoc front (c ∷ []) cs)) o

    state_on : (order : List ℕ) (c : ℕ) (s : Outcome) → s ≡ played (plan_of which r) order →
        place (plan_of which r) s c ≡ played (plan_of which r) (order ++ c ∷ [])
    state_on order c s is = ap (λ (u : Outcome). place p u c) is ∙ sym (play_on p (start p) order (c ∷ []))

    module _ (front way : List ℕ) (at : ℕ → ℕ) (s t : Outcome) (c : ℕ) (cs : List ℕ)
        (h : IsAlong front way at s t (c ∷ cs)) where
      at_on : bump at c ≡ counts nought (front ++ c ∷ [])
      at_on = ap (λ (g : ℕ → ℕ). bump g c) h.at_is ∙ sym (counts_on nought front (c ∷ []))

      one_front : IsReplayOrder (plan_of which r) (front ++ c ∷ [])
      one_front = ((ordered_on p nought (front ++ c ∷ []) cs).0 (front_on front cs c h.ordered)).0

      count_there : (core_at s c).count ≡ at c
      count_there = ap (λ (u : Outcome). (core_at u c).count) h.s_is
          ∙ ap (λ (g : ℕ → ℕ). g c)
          ((play_law p front ((ordered_on p nought front (c ∷ cs)).0 h.ordered).0).counts ∙ sym h.at_is)

      abbrev later : List ℕ
      later = way_from nought (count_in cut) (bump at c) cs

      -- the cut holds the instruction
      module _ (lt : at c < count_in cut c) where
        test : (nat_le (nought c) (at c) && nat_lt (at c) (count_in cut c)) ≡ true
        test = on_is (nought c) (count_in cut c) (at c) (omega arith) lt

        leads_on : IsReplayOrder (plan_of which r) (way ++ c ∷ later)
        leads_on = subst (λ (b : Bool). IsReplayOrder p (way ++ with_place b c later)) test h.leads

        one_way : IsReplayOrder (plan_of which r) (way ++ c ∷ [])
        one_way = ((ordered_on p nought (way ++ c ∷ []) later).0 (front_on way later c leads_on)).0

        same_on : (i : ℕ) → bump at c i ≤ count_in cut i → counts nought (way ++ c ∷ []) i ≡ bump at c i
        same_on i le = elim (ℕ_discrete i c) [
          | yes e ↦
              let on : counts nought (way ++ c ∷ []) i ≡ bump (counts nought way) c i =
              ap (λ (g : ℕ → ℕ). g i) (counts_on nought way (c ∷ [])) in
              let x = bump_same (counts nought way) c i e in
              let y = bump_same at c i e in
              let z = h.same i (omega arith) in
              omega arith
          | no ne ↦
              let on : counts nought (way ++ c ∷ []) i ≡ bump (counts nought way) c i =
              ap (λ (g : ℕ → ℕ). g i) (counts_on nought way (c ∷ [])) in
              let x = bump_else (counts nought way) c i ne in
              let y = bump_else at c i ne in
              let z = h.same i (omega arith) in
              omega arith
        ]

        along_held : IsAlong (front ++ c ∷ []) (way ++ c ∷ []) (bump at c) (place (plan_of which r) s c)
            (place (plan_of which r) t c) cs
        along_held = record {
          at_is = at_on;
          s_is = state_on front c s h.s_is;
          t_is = state_on way c t h.t_is;
          ordered = front_on front cs c h.ordered;
          leads = front_on way later c leads_on;
          same = same_on;
        }

        touch_held : touched (plan_of which r) t c ≡ held_in cut (touched (plan_of which r) s c)
        touch_held = ap (λ (u : Outcome). touched p u c) h.t_is
            ∙ same_touch way front c one_way one_front
            (h.same c (omega arith) ∙ ap (λ (g : ℕ → ℕ). g c) h.at_is)
            ∙ ap (λ (u : Outcome). touched p u c) (sym h.s_is)
            ∙ sym (touched_held s c (at c) count_there lt)

        held_more : accesses_from (plan_of which r) (place (plan_of which r) t c) later
            ≡ held_in cut (accesses_from (plan_of which r) (place (plan_of which r) s c) cs) →
            accesses_from (plan_of which r) t (way_from nought (count_in cut) at (c ∷ cs))
            ≡ held_in cut (accesses_from (plan_of which r) s (c ∷ cs))
        held_more rest =
            ap (λ (b : Bool). accesses_from p t (with_place b c later)) test
            ∙ ap (λ (l : List Access). l ++ accesses_from p (place p t c) later) touch_held
            ∙ ap (λ (l : List Access). held_in cut (touched p s c) ++ l) rest
            ∙ sym (filter-append (λ (a : Access). is_held cut a.at) (touched p s c) (accesses_from p (place p s c) cs))

      -- or lacks it
      module _ (le : count_in cut c ≤ at c) where
        test_past : (nat_le (nought c) (at c) && nat_lt (at c) (count_in cut c)) ≡ false
        test_past = off_high (nought c) (count_in cut c) (at c) le

        same_past : (i : ℕ) → bump at c i ≤ count_in cut i → counts nought way i ≡ bump at c i
        same_past i most = elim (ℕ_discrete i c) [
          | yes e ↦
              let y = bump_same at c i e in
              let there : count_in cut i ≤ at i = subst (λ (k : ℕ). count_in cut k ≤ at k) (sym e) le in
              absurd (omega arith)
          | no ne ↦ let y = bump_else at c i ne in let z = h.same i (omega arith) in omega arith
        ]

        along_past : IsAlong (front ++ c ∷ []) way (bump at c) (place (plan_of which r) s c) t cs
        along_past = record {
          at_is = at_on;
          s_is = state_on front c s h.s_is;
          t_is = h.t_is;
          ordered = front_on front cs c h.ordered;
          leads = subst (λ (b : Bool). IsReplayOrder p (way ++ with_place b c later)) test_past h.leads;
          same = same_past;
        }

        held_as_was : accesses_from (plan_of which r) t later
            ≡ held_in cut (accesses_from (plan_of which r) (place (plan_of which r) s c) cs) →
            accesses_from (plan_of which r) t (way_from nought (count_in cut) at (c ∷ cs))
            ≡ held_in cut (accesses_from (plan_of which r) s (c ∷ cs))
        held_as_was rest =
            ap (λ (b : Bool). accesses_from p t (with_place b c later)) test_past
            ∙ rest
            ∙ ap (λ (l : List Access). l ++ held_in cut (accesses_from p (place p s c) cs))
            (sym (touched_past s c (at c) count_there le))
            ∙ sym (filter-append (λ (a : Access). is_held cut a.at) (touched p s c) (accesses_from p (place p s c) cs))

    held_along : (front way : List ℕ) (f : ℕ → ℕ) (s t : Outcome) (cs : List ℕ) → IsAlong front way f s t cs →
        accesses_from (plan_of which r) t (way_from nought (count_in cut) f cs)
        ≡ held_in cut (accesses_from (plan_of which r) s cs)
    held_along front way f s t [] h = refl
    held_along front way f s t (c ∷ cs) h = elim (cases_lt (f c) (count_in cut c)) [
      | inl lt ↦ held_more front way f s t c cs h lt
          (held_along (front ++ c ∷ []) (way ++ c ∷ []) (bump f c) (place p s c) (place p t c) cs
          (along_held front way f s t c cs h lt))
      | inr le ↦ held_as_was front way f s t c cs h le
          (held_along (front ++ c ∷ []) way (bump f c) (place p s c) t cs (along_past front way f s t c cs h le))
    ]

    -- ---- what a closed cut has of the low order

    module _ (closed : IsClosed which r cut) where
      abbrev low : List ℕ
      low = low_order_of which r

      abbrev way : List ℕ
      way = way_of nought (count_in cut) (low_order_of which r)

      nothing_within : Within nought (count_in cut)
      nothing_within i = omega arith

      in_low : Within (count_in cut) (counts nought (low_order_of which r))
      in_low i = elim (cases_lt i r.params.cores) [
        | inl lt ↦
            let e = determinate.whole.each i (let a = valid.each_core in omega arith) in
            let m = closed.is_cut.most i lt in
            omega arith
        | inr le ↦ let z = closed.is_cut.rest i le in omega arith
      ]

      pub way_reaches : Reaches which r cut (way_of nought (count_in cut) (low_order_of which r))
      way_reaches = record {
        ordered = way_ordered p nought (count_in cut) low determinate.ordered
            (λ e has le. closed.sources e.from e.to has le) nothing_within;
        counts_are = way_counts nought (count_in cut) low nothing_within in_low;
      }

      way_accesses : accesses_of (plan_of which r) (way_of nought (count_in cut) (low_order_of which r))
          ≡ held_in cut (low_accesses which r)
      way_accesses = held_along [] [] nought (start p) (start p) low (record {
        at_is = refl;
        s_is = refl;
        t_is = refl;
        ordered = determinate.ordered;
        leads = way_reaches.ordered;
        same = λ i le. refl;
      })

      pub word_left : (outcome : Outcome) → IsStateAt which r cut outcome → (word : ℕ) → word < r.params.words →
          slice_index outcome.words word
          ≡ left_by word (opening_word (recorded_image r) word) (held_in cut (low_accesses which r))
      word_left outcome at word inside =
          let opening = get_or-map-range_with_len (opening_word (recorded_image r)) 0 r.params.words word word 0 inside
          (omega arith) in
          ap (λ (s : Outcome). slice_index s.words word) (at.every_order way way_reaches).outcome_is
          ∙ left_by_play p (start p) way word (let all = (start_known p).all_words in omega arith)
          ∙ ap (λ (v : ℕ). left_by word v (accesses_of p way)) opening
          ∙ ap (λ (l : List Access). left_by word (opening_word (recorded_image r) word) l) way_accesses

pub word_at_law : WordAtLaw
word_at_law which r cut outcome word valid determinate closed at inside =
    word_left which r valid determinate cut closed outcome at word inside
