-- The writes of a word: they are noted one after the other, and a closed cut holds the first ones of them, since each
-- leads to those behind it.
use Rattle.std.proofs.Common.{inl, inr, ◌≡◌, ◌⊎◌, ◌≢◌, ℕ, zero, suc, ◌+◌, ◌-◌, ◌<◌, ◌≤◌, Bool, true, false, cond, List}
use Rattle.std.proofs.Common.{[]}
use Rattle.std.proofs.Common.{◌∷◌, ◌++◌, length, take, drop, replicate, refl, sym, ap, ◌∙◌, arith, IsTrue}
use Rattle.std.proofs.Common.{length-set, length-drop, get_or-set_same, get_or-set_other, take-append-drop}
use Rattle.std.specs.Prelude.{filter, map, nat_eq, slice_index_or, slice_set, ◌&&◌}
use Rattle.std.proofs.lemmas.Bool.{and_parts}
use Rattle.std.proofs.lemmas.Bool.Decides.{nat_tests}
use Rattle.std.proofs.lemmas.List.{length-replicate, map-append, take_more}
use Rattle.std.proofs.lemmas.List.Elements.{filter_more}
use native.Mathlib.Decide.{ℕ_discrete}
use Rattle.rtr_types.specs.Accesses.{is_write}
use Rattle.rtr_types.specs.declared.access.Access.{Access}
use Rattle.rtr_types.specs.declared.cut.Cut.{Cut}
use Rattle.rtr_types.proofs.Truths.{is_true}
use Rattle.conflict_edge.specs.Conflicts.{StandsIn}
use Rattle.race_log.specs.Sources.{log_edges}
use Rattle.replay_audit.specs.Audits.{Findings}
use Rattle.replay_audit.proofs.Logs.{leads_back}
use Rattle.cut_replay.specs.ClosedCuts.{count_in, IsClosed}
use Rattle.cut_replay.proofs.Cuts.{closed_counts}
use Rattle.race_queries.specs.Queries.{IsAudited, is_held}
use Rattle.race_queries.proofs.Writes.{across_leads}
use Rattle.cut_index.specs.declared.writes.Write.{Write}
use Rattle.cut_index.specs.Left.{left_by, writes}
use Rattle.cut_index.specs.Words.{held_in}
use Rattle.cut_index.specs.Writes.{AreWrites, HoldsFirst, left_behind, write_by, writes_in}

-- ---- noting

no_list : (n word : ℕ) → slice_index_or (replicate {A = List Write} n []) word [] ≡ []
no_list zero word = refl
no_list (suc n) zero = refl
no_list (suc n) (suc word) = no_list n word

pub writes_start : (words : ℕ) (accesses : List Access) (lists : List (List Write)) → lists ≡ replicate words [] →
    AreWrites words (take 0 accesses) lists
writes_start words accesses lists is = record {
  all = ap (λ (l : List (List Write)). length l) is ∙ length-replicate {A = List Write} words [];
  each = λ word lt. ap (λ (l : List (List Write)). slice_index_or l word []) is ∙ no_list words word;
}

module _ (accesses : List Access) (n : ℕ) (d : Access) (inside : n < length accesses) where
  abbrev access : Access
  access = slice_index_or accesses n d

  next_in : (word : ℕ) → writes_in word (take (n + 1) accesses)
      ≡ writes_in word (take n accesses) ++ map write_by (cond (writes word access) (access ∷ []) [])
  next_in word = ap (λ (l : List Access). map write_by l) (filter_more (writes word) accesses n d inside)
      ∙ map-append write_by (filter (writes word) (take n accesses)) (cond (writes word access) (access ∷ []) [])

  next_is : (word : ℕ) (b : Bool) → writes word access ≡ b → writes_in word (take (n + 1) accesses)
      ≡ writes_in word (take n accesses) ++ map write_by (cond b (access ∷ []) [])
  next_is word b t = next_in word
      ∙ ap (λ (u : Bool). writes_in word (take n accesses) ++ map write_by (cond u (access ∷ []) [])) t

  append_none : (l : List Write) → l ++ [] ≡ l
  append_none [] = refl
  append_none (x ∷ xs) = ap (λ (l : List Write). x ∷ l) (append_none xs)

  module _ (words : ℕ) (lists : List (List Write)) (h : AreWrites words (take n accesses) lists) where
    -- an access that doesn't write
    pub writes_same : is_write access.kind ≡ false → AreWrites words (take (n + 1) accesses) lists
    writes_same not = record {
      all = h.all;
      each = λ word lt. h.each word lt ∙ sym (append_none (writes_in word (take n accesses)))
          ∙ sym (next_is word false (rw not (none (nat_eq access.word word))));
    }
      where
        none : (b : Bool) → (b && false) ≡ false
        none true = refl
        none false = refl

    -- one that does
    pub writes_more : is_write access.kind ≡ true → access.word < words → (old : List Write) →
        old ≡ slice_index_or lists access.word [] →
        AreWrites words (take (n + 1) accesses) (slice_set lists access.word (old ++ write_by access ∷ []))
    writes_more does within old old_is = record {
      all = length-set lists access.word (old ++ write_by access ∷ []) ∙ h.all;
      each = λ word lt. elim (ℕ_discrete word access.word) [
        | yes e ↦
            let t : writes word access ≡ true =
            let u : nat_eq access.word word ≡ true = grind (arith, nat_tests) in rw (u, does) refl in
            ap (λ (w : ℕ). slice_index_or (slice_set lists access.word (old ++ write_by access ∷ [])) w []) e
            ∙ get_or-set_same lists access.word (old ++ write_by access ∷ []) [] (let a = h.all in omega arith)
            ∙ ap (λ (l : List Write). l ++ write_by access ∷ [])
            (old_is ∙ ap (λ (w : ℕ). slice_index_or lists w []) (sym e) ∙ h.each word lt)
            ∙ sym (next_is word true t)
        | no ne ↦
            let t : writes word access ≡ false =
            let u : nat_eq access.word word ≡ false = grind (arith, nat_tests) in rw u refl in
            get_or-set_other lists access.word word (old ++ write_by access ∷ []) [] ne
            ∙ h.each word lt ∙ sym (append_none (writes_in word (take n accesses)))
            ∙ sym (next_is word false t)
      ];
    }

-- ---- what they leave

pub left_of_writes : (cut : Cut) (word held : ℕ) (list : List Access) →
    left_by word held (held_in cut list) ≡ left_behind cut held (writes_in word list)
left_of_writes cut word held [] = refl
left_of_writes cut word held (a ∷ rest) =
    by (λ v. left_of_writes cut word v rest) (is_held cut a.at) (writes word a) refl refl
  where
    by : ((v : ℕ) → left_by word v (held_in cut rest) ≡ left_behind cut v (writes_in word rest)) → (h w : Bool) →
        is_held cut a.at ≡ h → writes word a ≡ w →
        left_by word held (cond h (a ∷ held_in cut rest) (held_in cut rest))
        ≡ left_behind cut held (map write_by (cond w (a ∷ filter (writes word) rest) (filter (writes word) rest)))
    by on true true t u =
        ap (λ (b : Bool). left_by word (cond b a.after held) (held_in cut rest)) u ∙ on a.after
        ∙ ap (λ (b : Bool). left_behind cut (cond b a.after held) (writes_in word rest)) (sym t)
    by on true false t u =
        ap (λ (b : Bool). left_by word (cond b a.after held) (held_in cut rest)) u ∙ on held
    by on false true t u =
        on held ∙ ap (λ (b : Bool). left_behind cut (cond b a.after held) (writes_in word rest)) (sym t)
    by on false false t u = on held

left_on : (cut : Cut) (held : ℕ) (xs ys : List Write) →
    left_behind cut held (xs ++ ys) ≡ left_behind cut (left_behind cut held xs) ys
left_on cut held [] ys = refl
left_on cut held (x ∷ xs) ys = left_on cut (cond (is_held cut x.at) x.left held) xs ys

-- ---- halving

-- the first ones so far are held, and from the other place on none is
pub record IsHalved (cut : Cut) (list : List Write) (some past : ℕ) : Type 0 where
  pub inside : past ≤ length list
  pub order : some ≤ past
  pub held : (k : ℕ) (d : Write) → k < some → is_held cut (slice_index_or list k d).at ≡ true
  pub none : (k : ℕ) (d : Write) → past ≤ k → k < length list → is_held cut (slice_index_or list k d).at ≡ false

pub halved_start : (cut : Cut) (list : List Write) → IsHalved cut list 0 (length list)
halved_start cut list = record {
  inside = omega arith;
  order = omega arith;
  held = λ k d lt. absurd (omega arith);
  none = λ k d le lt. absurd (omega arith);
}

module _ (cut : Cut) (list : List Write) (some past middle : ℕ) (h : IsHalved cut list some past)
    (first : HoldsFirst cut list) (above : some ≤ middle) (below : middle < past) where
  pub halved_up : ((d : Write) → is_held cut (slice_index_or list middle d).at ≡ true) →
      IsHalved cut list (middle + 1) past
  halved_up here = record {
    inside = h.inside;
    order = omega arith;
    held = λ k d lt. first k middle d (omega arith) (let i = h.inside in omega arith) (here d);
    none = h.none;
  }

  pub halved_down : ((d : Write) → is_held cut (slice_index_or list middle d).at ≡ false) →
      IsHalved cut list some middle
  halved_down here = record {
    inside = let i = h.inside in omega arith;
    order = above;
    held = h.held;
    none = λ k d le lt. by k d le lt (is_held cut (slice_index_or list k d).at) refl;
  }
    where
      by : (k : ℕ) (d : Write) → middle ≤ k → k < length list → (b : Bool) →
          is_held cut (slice_index_or list k d).at ≡ b → is_held cut (slice_index_or list k d).at ≡ false
      by k d le lt false t = t
      by k d le lt true t =
          let there = first middle k d le lt t in
          let not = here d in
          absurd (cc)

-- none of them is held
left_none : (cut : Cut) (held : ℕ) (list : List Write) (d : Write) →
    ((k : ℕ) → k < length list → is_held cut (slice_index_or list k d).at ≡ false) → left_behind cut held list ≡ held
left_none cut held [] d none = refl
left_none cut held (x ∷ xs) d none =
    let here : is_held cut x.at ≡ false = none 0 (omega arith) in
    rw here (left_none cut held xs d (λ k lt. none (suc k) (omega arith)))

get_or_drop : (list : List Write) (n k : ℕ) (d : Write) →
    slice_index_or (drop n list) k d ≡ slice_index_or list (n + k) d
get_or_drop [] zero k d = refl
get_or_drop [] (suc n) k d = refl
get_or_drop (x ∷ xs) zero k d = ap (λ (i : ℕ). slice_index_or (x ∷ xs) i d) (omega arith)
get_or_drop (x ∷ xs) (suc n) k d =
    get_or_drop xs n k d ∙ ap (λ (i : ℕ). slice_index_or (x ∷ xs) i d) (next n k)
  where
    next : (n k : ℕ) → suc (n + k) ≡ suc n + k
    next n k = omega arith

left_front : (cut : Cut) (held : ℕ) (list : List Write) (n : ℕ) (d : Write) → n ≤ length list →
    ((k : ℕ) → n ≤ k → k < length list → is_held cut (slice_index_or list k d).at ≡ false) →
    left_behind cut held list ≡ left_behind cut held (take n list)
left_front cut held list n d le none =
    ap (λ (l : List Write). left_behind cut held l) (sym (take-append-drop n list))
    ∙ left_on cut held (take n list) (drop n list)
    ∙ left_none cut (left_behind cut held (take n list)) (drop n list) d
    (λ k lt. ap (λ (w : Write). is_held cut w.at) (get_or_drop list n k d)
    ∙ none (n + k) (omega arith) (let len = length-drop n list in omega arith))

pub left_halved : (cut : Cut) (held : ℕ) (list : List Write) (some : ℕ) (d : Write) → IsHalved cut list some some →
    0 < some → (slice_index_or list (some - 1) d).left ≡ left_behind cut held list
left_halved cut held list some d h more =
    let i = h.inside in
    let one : take (some - 1 + 1) list ≡ take (some - 1) list ++ slice_index_or list (some - 1) d ∷ [] =
    take_more list (some - 1) d (omega arith) in
    let back : some ≡ some - 1 + 1 = omega arith in
    let here = h.held (some - 1) d (omega arith) in
    sym (left_front cut held list some d h.inside (λ k le lt. h.none k d le lt)
    ∙ ap (λ (l : List Write). left_behind cut held l) (ap (λ (n : ℕ). take n list) back ∙ one)
    ∙ left_on cut held (take (some - 1) list) (slice_index_or list (some - 1) d ∷ [])
    ∙ ap (λ (b : Bool). cond b (slice_index_or list (some - 1) d).left (left_behind cut held (take
    (some - 1) list))) here)

pub left_nothing : (cut : Cut) (held : ℕ) (list : List Write) (d : Write) → IsHalved cut list 0 0 →
    held ≡ left_behind cut held list
left_nothing cut held list d h = sym (left_none cut held list d (λ k lt. h.none k d (omega arith) lt))

-- ---- a closed cut holds the first writes of a word

-- what the cut holds of these accesses: with a write of the word each one before
abbrev HoldsBefore : Cut → (word : ℕ) → List Access → Type 0
HoldsBefore cut word list = (xs ys : List Access) (x y : Access) → list ≡ xs ++ ys → StandsIn xs x → StandsIn ys y →
    writes word x ≡ true → writes word y ≡ true → is_held cut y.at ≡ true → is_held cut x.at ≡ true

-- a write is of an access
record IsOf (word : ℕ) (list : List Access) (write : Write) : Type 0 where
  access : Access
  stands : StandsIn list access
  does : writes word access ≡ true
  is : write ≡ write_by access

later : (word : ℕ) (a : Access) (rest : List Access) (w : Write) → IsOf word rest w → IsOf word (a ∷ rest) w
later word a rest w o = record { access = o.access; stands = inr o.stands; does = o.does; is = o.is }

write_of : (word : ℕ) (list : List Access) (k : ℕ) (d : Write) → k < length (writes_in word list) →
    IsOf word list (slice_index_or (writes_in word list) k d)
write_of word [] k d lt = absurd (omega arith)
write_of word (a ∷ rest) k d lt = by (λ i below. write_of word rest i d below) (writes word a) refl k lt
  where
    by : ((i : ℕ) → i < length (writes_in word rest) → IsOf word rest (slice_index_or (writes_in word rest) i d)) →
        (b : Bool) → writes word a ≡ b → (k : ℕ) →
        k < length (map write_by (cond b (a ∷ filter (writes word) rest) (filter (writes word) rest))) →
        IsOf word (a ∷ rest)
        (slice_index_or (map write_by (cond b (a ∷ filter (writes word) rest) (filter (writes word) rest))) k d)
    by on true t zero lt = record { access = a; stands = inl refl; does = t; is = refl }
    by on true t (suc k) lt = later word a rest (slice_index_or (writes_in word rest) k d) (on k (omega arith))
    by on false t k lt = later word a rest (slice_index_or (writes_in word rest) k d) (on k lt)

holds_from : (cut : Cut) (word : ℕ) (list : List Access) → HoldsBefore cut word list →
    HoldsFirst cut (writes_in word list)
holds_from cut word [] before j k d le lt t = absurd (omega arith)
holds_from cut word (a ∷ rest) before j k d le lt t =
    by (holds_from cut word rest
    (λ xs ys x y split here there. before (a ∷ xs) ys x y (ap (λ (l : List Access). a ∷ l) split) (inr here) there))
    (writes word a) refl j k le lt t
  where
    by : HoldsFirst cut (writes_in word rest) → (b : Bool) → writes word a ≡ b → (j k : ℕ) → j ≤ k →
        k < length (map write_by (cond b (a ∷ filter (writes word) rest) (filter (writes word) rest))) →
        is_held cut
        (slice_index_or (map write_by (cond b (a ∷ filter (writes word) rest) (filter (writes word) rest))) k d).at
        ≡ true →
        is_held cut
        (slice_index_or (map write_by (cond b (a ∷ filter (writes word) rest) (filter (writes word) rest))) j d).at
        ≡ true
    by on false u j k le lt t = on j k d le lt t
    by on true u zero zero le lt t = t
    by on true u zero (suc k) le lt t =
        let o = write_of word rest k d (omega arith) in
        before (a ∷ []) rest a o.access refl (inl refl) o.stands u o.does
        (ap (λ (w : Write). is_held cut w.at) (sym o.is) ∙ t)
    by on true u (suc j) zero le lt t = absurd (omega arith)
    by on true u (suc j) (suc k) le lt t = on j k d (omega arith) (omega arith) t

module _ (a : Findings) (h : IsAudited a) (cut : Cut) (closed : IsClosed a.which a.recording cut) (word : ℕ) where
  writes_it : (x : Access) → writes word x ≡ true → (x.word ≡ word) × IsTrue (is_write x.kind)
  writes_it x t =
      let p = and_parts (nat_eq x.word word) (is_write x.kind) t in
      let e : nat_eq x.word word ≡ true = p.0 in
      (grind (arith, nat_tests), is_true (is_write x.kind) p.1)

  before : HoldsBefore cut word a.accesses
  before xs ys x y split here there x_writes y_writes held =
      let x_is = writes_it x x_writes in
      let y_is = writes_it y y_writes in
      let leads = across_leads a h xs ys x y split here there (x_is.0 ∙ sym y_is.0) (inl x_is.1) in
      let le : y.at.count ≤ count_in cut y.at.core = grind (arith, nat_tests) in
      let back = leads_back (log_edges a.which a.recording) (count_in cut) x.at y.at
      (closed_counts a.which a.recording cut closed) (inr leads) le in
      grind (arith, nat_tests)

  pub holds_first : HoldsFirst cut (writes_in word a.accesses)
  holds_first = holds_from cut word a.accesses before
