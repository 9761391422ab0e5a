-- The way by the numbers of its places: as far as a place of the timeline it has those of the places before that are on
-- it, and its counts are the timeline's, but no lower than the one cut's and no higher than the other's.
use Rattle.std.proofs.Common.{inl, inr, ◌≡◌, ◌⊎◌, ℕ, zero, suc, ◌+◌, ◌<◌, ◌≤◌, Bool, true, false, List, [], ◌∷◌, ◌++◌}
use Rattle.std.proofs.Common.{length, take, drop, refl, sym, ap, ◌∙◌, subst, arith, ◌&&◌, append-nil}
use Rattle.std.proofs.lemmas.Bool.{cases_lt, false≢true, leb-true, ltb-true}
use Rattle.std.proofs.lemmas.List.{drop_more, length-append, take-append-drop, take-take, take_all, take_more}
use Rattle.std.proofs.Math.Seq.{get_or-append_seam, take-append_seam}
use Rattle.std.specs.Prelude.{nat_le, nat_lt, slice_index}
use Rattle.replay_core.specs.Orders.{bump, counts, nought, Ordered, IsReplayOrder}
use Rattle.replay_core.specs.Plans.{Plan}
use Rattle.replay_core.proofs.Lists.{ordered_on}
use Rattle.cut_moves.specs.Ways.{between, is_on_way, way_before, way_from, way_of, with_place, ClosedUnder, Within}
use Rattle.cut_moves.proofs.Along.{IsBetween, begins, counts_from, way_ordered}

pub both : (a b : Bool) → (a && b) ≡ true → (a ≡ true) × (b ≡ true)
both true b is = (refl, is)
both false b is = absurd (false≢true is)

-- ---- two parts of a timeline

place_join : (b : Bool) (c : ℕ) (front rest : List ℕ) → with_place b c (front ++ rest) ≡ with_place b c front ++ rest
place_join true c front rest = refl
place_join false c front rest = refl

way_join : (low high at : ℕ → ℕ) (front rest : List ℕ) →
    way_from low high at (front ++ rest) ≡ way_from low high at front ++ way_from low high (counts at front) rest
way_join low high at [] rest = refl
way_join low high at (c ∷ cs) rest =
    ap (λ (l : List ℕ). with_place (nat_le (low c) (at c) && nat_lt (at c) (high c)) c l)
    (way_join low high (bump at c) cs rest)
    ∙ place_join (nat_le (low c) (at c) && nat_lt (at c) (high c)) c (way_from low high (bump at c) cs)
    (way_from low high (counts (bump at c) cs) rest)

-- ---- numbers of places

module _ (low high : ℕ → ℕ) (timeline : List ℕ) where
  pub way_whole : way_before low high timeline (length timeline) ≡ way_of low high timeline
  way_whole = ap (λ (l : List ℕ). way_of low high l) (take_all (length timeline) timeline (omega arith))

  -- the way as far as a place, and one place more
  way_more : (n : ℕ) → n < length timeline →
      way_before low high timeline (n + 1)
      ≡ way_before low high timeline n ++ with_place (is_on_way low high timeline n) (slice_index timeline n) []
  way_more n lt =
      ap (λ (l : List ℕ). way_of low high l) (take_more timeline n 0 lt)
      ∙ way_join low high nought (take n timeline) (slice_index timeline n ∷ [])

  -- the way as far as a place that is on it, the place, and the rest
  abbrev pub rest_behind : (n : ℕ) → List ℕ
  rest_behind n = way_from low high (bump (counts nought (take n timeline)) (slice_index timeline n))
      (drop (n + 1) timeline)

  pub way_split : (n : ℕ) → n < length timeline → is_on_way low high timeline n ≡ true →
      way_of low high timeline ≡ way_before low high timeline n ++ slice_index timeline n ∷ rest_behind n
  way_split n lt on =
      let c = slice_index timeline n in
      let at = counts nought (take n timeline) in
      ap (λ (l : List ℕ). way_of low high l) (sym (take-append-drop n timeline))
      ∙ way_join low high nought (take n timeline) (drop n timeline)
      ∙ ap (λ (l : List ℕ). way_before low high timeline n ++ way_from low high at l) (drop_more timeline n 0 lt)
      ∙ ap (λ (b : Bool). way_before low high timeline n ++ with_place b c (rest_behind n)) on

  module _ (n : ℕ) (lt : n < length timeline) (on : is_on_way low high timeline n ≡ true) where
    abbrev front : List ℕ
    front = way_before low high timeline n

    pub front_taken : take (length (way_before low high timeline n)) (way_of low high timeline)
        ≡ way_before low high timeline n
    front_taken = ap (λ (l : List ℕ). take (length front) l) (way_split n lt on)
        ∙ take-append_seam front (slice_index timeline n ∷ rest_behind n)

    pub place_there : slice_index (way_of low high timeline) (length (way_before low high timeline n))
        ≡ slice_index timeline n
    place_there = ap (λ (l : List ℕ). slice_index l (length front)) (way_split n lt on)
        ∙ get_or-append_seam front (slice_index timeline n) (rest_behind n) 0

    pub place_inside : length (way_before low high timeline n) < length (way_of low high timeline)
    place_inside =
        let all = ap (λ (l : List ℕ). length l) (way_split n lt on) in
        let parts = length-append front (slice_index timeline n ∷ rest_behind n) in
        omega arith

  -- farther on the way has no fewer places
  pub way_grows : (m n : ℕ) → m ≤ n →
      length (way_before low high timeline m) ≤ length (way_before low high timeline n)
  way_grows m n le =
      let rest = drop m (take n timeline) in
      let more = way_from low high (counts nought (take m timeline)) rest in
      let split : way_before low high timeline n ≡ way_before low high timeline m ++ more =
      ap (λ (l : List ℕ). way_of low high l) (sym (take-append-drop m (take n timeline))
      ∙ ap (λ (l : List ℕ). l ++ rest) (take-take m n timeline le))
      ∙ way_join low high nought (take m timeline) rest in
      let all = ap (λ (l : List ℕ). length l) split in
      let parts = length-append (way_before low high timeline m) more in
      omega arith

  -- and more, where a place on the way lies between
  pub way_gains : (m n : ℕ) → m < n → m < length timeline → is_on_way low high timeline m ≡ true →
      length (way_before low high timeline m) < length (way_before low high timeline n)
  way_gains m n lt inside on =
      let c = slice_index timeline m in
      let one : length (way_before low high timeline (m + 1))
      ≡ length (way_before low high timeline m ++ with_place (is_on_way low high timeline m) c []) =
      ap (λ (l : List ℕ). length l) (way_more m inside) in
      let placed : length (way_before low high timeline m ++ with_place (is_on_way low high timeline m) c [])
      ≡ length (way_before low high timeline m ++ c ∷ []) =
      ap (λ (b : Bool). length (way_before low high timeline m ++ with_place b c [])) on in
      let parts = length-append (way_before low high timeline m) (c ∷ []) in
      let grows = way_grows (m + 1) n (omega arith) in
      omega arith

  -- the place of the way with a number, among the first places of the timeline
  pub record IsPlace (past i : ℕ) : Type 0 where
    pub number : ℕ
    pub below : number < past
    pub on_way : is_on_way low high timeline number ≡ true
    pub before : length (way_before low high timeline number) ≡ i

  pub place_of : (n : ℕ) → n ≤ length timeline → (i : ℕ) → i < length (way_before low high timeline n) → IsPlace n i
  place_of zero le i lt = absurd (omega arith)
  place_of (suc n) le i lt =
      by (λ below. place_of n (omega arith) i below) (is_on_way low high timeline n) refl
    where
      more : suc n ≡ n + 1
      more = omega arith

      c : ℕ
      c = slice_index timeline n

      farther : IsPlace n i → IsPlace (suc n) i
      farther p = record {
        number = p.number;
        below = let b = p.below in omega arith;
        on_way = p.on_way;
        before = p.before;
      }

      grown : (b : Bool) → is_on_way low high timeline n ≡ b →
          i < length (way_before low high timeline n ++ with_place b c [])
      grown b is =
          subst (λ (k : ℕ). i < k) (ap (λ (m : ℕ). length (way_before low high timeline m)) more
          ∙ ap (λ (l : List ℕ). length l) (way_more n (omega arith))
          ∙ ap (λ (x : Bool). length (way_before low high timeline n ++ with_place x c [])) is) lt

      last : is_on_way low high timeline n ≡ true → (i < length (way_before low high timeline n) → IsPlace n i) →
          (i < length (way_before low high timeline n)) ⊎ (length (way_before low high timeline n) ≤ i) →
          IsPlace (suc n) i
      last is earlier (inl below) = farther (earlier below)
      last is earlier (inr past) =
          let parts = length-append (way_before low high timeline n) (c ∷ []) in
          let whole = grown true is in
          record { number = n; below = omega arith; on_way = is; before = omega arith }

      by : (i < length (way_before low high timeline n) → IsPlace n i) → (b : Bool) →
          is_on_way low high timeline n ≡ b → IsPlace (suc n) i
      by earlier false is =
          farther (earlier
          (subst (λ (l : List ℕ). i < length l) (append-nil (way_before low high timeline n)) (grown false is)))
      by earlier true is = last is earlier (cases_lt i (length (way_before low high timeline n)))

  -- ---- its counts

  between_is : (low high at now : ℕ) → IsBetween low high at now → low ≤ high → now ≡ between low high at
  between_is low high at now b w = by (cases_lt at low) (cases_lt at high)
    where
      by : (at < low) ⊎ (low ≤ at) → (at < high) ⊎ (high ≤ at) → now ≡ between low high at
      by (inl lt) x = b.below (omega arith) ∙ omega arith
      by (inr ge) (inl lt) = b.inside ge (omega arith) ∙ omega arith
      by (inr ge) (inr past) = b.above past ∙ omega arith

  pub counts_before : Within low high → (n core : ℕ) → counts low (way_before low high timeline n) core
      ≡ between (low core) (high core) (counts nought (take n timeline) core)
  counts_before w n core =
      between_is (low core) (high core) (counts nought (take n timeline) core)
      (counts low (way_before low high timeline n) core)
      (counts_from low high nought low (take n timeline) w (begins low high w) core) (w core)

  -- a place on the way comes next there
  pub count_on : Within low high → (n : ℕ) → is_on_way low high timeline n ≡ true →
      counts low (way_before low high timeline n) (slice_index timeline n)
      ≡ counts nought (take n timeline) (slice_index timeline n)
  count_on w n on =
      let c = slice_index timeline n in
      let at = counts nought (take n timeline) c in
      let tests = both (nat_le (low c) at) (nat_lt at (high c)) on in
      let least = leb-true (low c) at tests.0 in
      let most = ltb-true at (high c) tests.1 in
      let le = w c in
      counts_before w n c ∙ omega arith

  -- ---- its cores are ready

  pub before_ordered : (p : Plan) → IsReplayOrder p timeline → ClosedUnder p.edges high → Within low high → (n : ℕ) →
      Ordered p low (way_before low high timeline n)
  before_ordered p ordered closed w n =
      way_ordered p low high (take n timeline)
      ((ordered_on p nought (take n timeline) (drop n timeline)).0
      (subst (λ (l : List ℕ). Ordered p nought l) (sym (take-append-drop n timeline)) ordered)).0
      closed w
