-- The way by windows: outside all windows no place is on the way, and what they have of the whole timeline is the way.
use Rattle.std.proofs.Common.{inl, inr, ◌≡◌, ◌⊎◌, ℕ, zero, suc, ◌+◌, ◌<◌, ◌≤◌, Bool, true, false, List, [], ◌∷◌, ◌++◌}
use Rattle.std.proofs.Common.{length, take, drop, ◌-◌, refl, sym, ap, ◌∙◌, subst, arith, ◌&&◌, append-nil, append_assoc}
use Rattle.std.proofs.lemmas.Bool.{cases_lt}
use Rattle.std.proofs.lemmas.List.{drop_all, drop_more}
use Rattle.std.specs.Prelude.{min, nat_le, nat_lt, slice_index}
use Rattle.rtr_types.specs.declared.TheConstants.{CORES_MAX}
use Rattle.replay_core.specs.Orders.{bump, counts, nought}
use Rattle.cut_moves.specs.Seats.{AreWindows, is_within, window_at}
use Rattle.cut_moves.specs.Ways.{way_from, way_of, with_place}
use Rattle.cut_moves.specs.declared.seats.Window.{Window}
use Rattle.cut_moves.proofs.Along.{off_high, off_low}
use Rattle.cut_moves.proofs.SeatCounts.{among_next}

-- the places whose numbers, from the first on, their core's window has
abbrev pub seen_from : List Window → (first : ℕ) → List ℕ → List ℕ
seen_from windows first [] = []
seen_from windows first (c ∷ cs) =
    with_place (is_within (window_at windows c) first) c (seen_from windows (first + 1) cs)

-- no window has the place with this number
abbrev pub IsOut : List Window → List ℕ → (number : ℕ) → Type 0
IsOut windows timeline number = is_within (window_at windows (slice_index timeline number)) number ≡ false

module _ (timeline : List ℕ) (low high : ℕ → ℕ) (windows : List Window) (h : AreWindows timeline low high windows)
  where
    pub seen_way : (k n : ℕ) → n + k ≡ length timeline → seen_from windows n (drop n timeline)
        ≡ way_from low high (counts nought (take n timeline)) (drop n timeline)
    seen_way zero n e =
        let d = drop_all n timeline (omega arith) in
        ap (λ (l : List ℕ). seen_from windows n l) d
        ∙ sym (ap (λ (l : List ℕ). way_from low high (counts nought (take n timeline)) l) d)
    seen_way (suc k) n e =
        let lt : n < length timeline = omega arith in
        let c = slice_index timeline n in
        let rest = drop (n + 1) timeline in
        let d = drop_more timeline n 0 lt in
        let at = counts nought (take n timeline) in
        let test = h.each c n (h.few n lt) lt refl in
        ap (λ (l : List ℕ). seen_from windows n l) d
        ∙ ap (λ (b : Bool). with_place b c (seen_from windows (n + 1) rest)) test
        ∙ ap (λ (l : List ℕ). with_place (nat_le (low c) (at c) && nat_lt (at c) (high c)) c l)
        (seen_way k (n + 1) (omega arith)
        ∙ ap (λ (f : ℕ → ℕ). way_from low high f rest) (among_next timeline n lt))
        ∙ sym (ap (λ (l : List ℕ). way_from low high at l) d)

    -- the first places are passed over, where no window has one of them
    passed : (n : ℕ) → ((m : ℕ) → m < n → m < length timeline → IsOut windows timeline m) →
        seen_from windows 0 timeline ≡ seen_from windows n (drop n timeline)
    passed zero out = refl
    passed (suc n) out =
        passed n (λ m lt inside. out m (omega arith) inside) ∙ step (cases_lt n (length timeline))
      where
        more : suc n ≡ n + 1
        more = omega arith

        step : (n < length timeline) ⊎ (length timeline ≤ n) →
            seen_from windows n (drop n timeline) ≡ seen_from windows (suc n) (drop (suc n) timeline)
        step (inl lt) =
            ap (λ (l : List ℕ). seen_from windows n l) (drop_more timeline n 0 lt)
            ∙ ap (λ (b : Bool). with_place b (slice_index timeline n) (seen_from windows (n + 1) (drop (n + 1) timeline)))
            (out n (omega arith) lt)
            ∙ ap (λ (m : ℕ). seen_from windows m (drop m timeline)) (sym more)
        step (inr le) =
            ap (λ (l : List ℕ). seen_from windows n l) (drop_all n timeline le)
            ∙ sym (ap (λ (l : List ℕ). seen_from windows (suc n) l) (drop_all (suc n) timeline (omega arith)))

    -- nothing is left, where no window has a place from here on
    left_out : (k n : ℕ) → n + k ≡ length timeline →
        ((m : ℕ) → n ≤ m → m < length timeline → IsOut windows timeline m) →
        seen_from windows n (drop n timeline) ≡ []
    left_out zero n e out = ap (λ (l : List ℕ). seen_from windows n l) (drop_all n timeline (omega arith))
    left_out (suc k) n e out =
        let lt : n < length timeline = omega arith in
        ap (λ (l : List ℕ). seen_from windows n l) (drop_more timeline n 0 lt)
        ∙ ap (λ (b : Bool). with_place b (slice_index timeline n) (seen_from windows (n + 1) (drop (n + 1) timeline)))
        (out n (omega arith) lt)
        ∙ left_out k (n + 1) (omega arith) (λ m le inside. out m (omega arith) inside)

    module _ (start end : ℕ)
        (starts : (core : ℕ) → core < length windows → start ≤ (window_at windows core).from)
        (ends : (core : ℕ) → core < length windows → (window_at windows core).past ≤ end) where
      pub out_below : (m : ℕ) → m < start → m < length timeline → IsOut windows timeline m
      out_below m lt inside =
          let c = slice_index timeline m in
          let few = h.few m inside in
          let w = h.wide in
          let s = starts c (omega arith) in
          off_low (window_at windows c).from (window_at windows c).past m (omega arith)

      pub out_above : (m : ℕ) → end ≤ m → m < length timeline → IsOut windows timeline m
      out_above m le inside =
          let c = slice_index timeline m in
          let few = h.few m inside in
          let w = h.wide in
          let s = ends c (omega arith) in
          off_high (window_at windows c).from (window_at windows c).past m (omega arith)

      -- before the first place that is looked at
      pub seeing_start : (first : ℕ) → first ≤ start →
          [] ++ seen_from windows first (drop first timeline) ≡ way_of low high timeline
      seeing_start first le =
          sym (passed first (λ m lt inside. out_below m (omega arith) inside))
          ∙ seen_way (length timeline) 0 (omega arith)

      -- behind the last
      pub seeing_end : (n : ℕ) (list : List ℕ) → end ≤ n ⊎ length timeline ≤ n →
          list ++ seen_from windows n (drop n timeline) ≡ way_of low high timeline → list ≡ way_of low high timeline
      seeing_end n list past made =
          sym (append-nil list) ∙ ap (λ (l : List ℕ). list ++ l) (sym (none past (cases_lt n (length timeline)))) ∙ made
        where
          none : end ≤ n ⊎ length timeline ≤ n → (n < length timeline) ⊎ (length timeline ≤ n) →
              seen_from windows n (drop n timeline) ≡ []
          none x (inr le) = ap (λ (l : List ℕ). seen_from windows n l) (drop_all n timeline le)
          none (inr le) (inl lt) = ap (λ (l : List ℕ). seen_from windows n l) (drop_all n timeline le)
          none (inl le) (inl lt) = left_out (length timeline - n) n (omega arith)
              (λ m from inside. out_above m (omega arith) inside)

    -- one place more
    pub seeing_on : (n : ℕ) (list : List ℕ) → n < length timeline →
        is_within (window_at windows (slice_index timeline n)) n ≡ true →
        list ++ seen_from windows n (drop n timeline) ≡ way_of low high timeline →
        (list ++ slice_index timeline n ∷ []) ++ seen_from windows (n + 1) (drop (n + 1) timeline)
        ≡ way_of low high timeline
    seeing_on n list lt is made =
        append_assoc list (slice_index timeline n ∷ []) (seen_from windows (n + 1) (drop (n + 1) timeline))
        ∙ ap (λ (l : List ℕ). list ++ l) (sym (ap (λ (l : List ℕ). seen_from windows n l) (drop_more timeline n 0 lt)
        ∙ ap (λ (b : Bool). with_place b (slice_index timeline n) (seen_from windows (n + 1) (drop (n + 1) timeline)))
        is)) ∙ made

    pub seeing_by : (n : ℕ) (list : List ℕ) → n < length timeline →
        is_within (window_at windows (slice_index timeline n)) n ≡ false →
        list ++ seen_from windows n (drop n timeline) ≡ way_of low high timeline →
        list ++ seen_from windows (n + 1) (drop (n + 1) timeline) ≡ way_of low high timeline
    seeing_by n list lt is made =
        ap (λ (l : List ℕ). list ++ l) (sym (ap (λ (l : List ℕ). seen_from windows n l) (drop_more timeline n 0 lt)
        ∙ ap (λ (b : Bool). with_place b (slice_index timeline n) (seen_from windows (n + 1) (drop (n + 1) timeline)))
        is)) ∙ made

-- past the lesser of two numbers is past the one or past the other
pub past_one : (a b n : ℕ) → min a b ≤ n → (a ≤ n) ⊎ (b ≤ n)
past_one a b n le = by (cases_lt n a)
  where
    by : (n < a) ⊎ (a ≤ n) → (a ≤ n) ⊎ (b ≤ n)
    by (inl lt) = inr (omega arith)
    by (inr past) = inl past
