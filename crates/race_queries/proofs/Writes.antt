-- Writes and loads of one word. The log orders each two accesses that conflict as they stand in the list, and program
-- order those of one core; so of two accesses to a word, one of which writes, the one that stands first leads to the
-- other.
use Rattle.std.proofs.Common.{inl, inr, ◌≡◌, ◌≢◌, ◌⊎◌, ℕ, ◌+◌, ◌<◌, ◌≤◌, Bool, true, false, not, ◌&&◌}
use Rattle.std.proofs.Common.{IsTrue}
use Rattle.std.proofs.Common.{List, [], ◌∷◌, ◌++◌, take, drop, length, append-nil, append_assoc, take-append-drop, refl}
use Rattle.std.proofs.Common.{sym, ap, ◌∙◌, subst}
use Rattle.std.proofs.Common.{arith}
use Rattle.std.specs.Prelude.{filter, cond, nat_eq, slice_index_or}
use Rattle.std.proofs.lemmas.Bool.{and_parts, cases_eq}
use Rattle.std.proofs.lemmas.Bool.Decides.{nat_tests}
use Rattle.std.proofs.lemmas.List.{drop_all, drop_more}
use Rattle.rtr_types.specs.Accesses.{is_write}
use Rattle.rtr_types.specs.declared.access.Access.{Access}
use Rattle.rtr_types.specs.declared.cut.Cut.{Cut}
use Rattle.rtr_types.specs.declared.instr.Instr.{Instr}
use Rattle.rtr_types.proofs.Truths.{is_true}
use Rattle.clock_core.specs.Order.{Among}
use Rattle.clock_core.proofs.Paths.{joined, one}
use Rattle.conflict_edge.specs.Conflicts.{ConflictPair, CountsRise, StandsIn}
use Rattle.conflict_edge.specs.Least.{Suffices}
use Rattle.conflict_edge.proofs.AccessPlaces.{one_access, stands_which, stands_right}
use Rattle.clock_entries.specs.Laws.{IsAcyclic}
use Rattle.race_log.specs.Sources.{log_edges}
use Rattle.replay_audit.specs.Audits.{Findings}
use Rattle.replay_audit.specs.Determinate.{low_order_of}
use Rattle.replay_audit.proofs.Logs.{acyclic_law}
use Rattle.replay_audit.proofs.Pairs.{pairs_across}
use Rattle.replay_audit.proofs.Rise.{accesses_rise}
use Rattle.race_queries.specs.Places.{IsLastPlace}
use Rattle.race_queries.specs.Queries.{AreReadsSince, is_held, is_load_of, is_write_of, IsAudited, IsLastWrite}
use Rattle.race_queries.specs.Queries.{IsReadSince}
use Rattle.race_queries.specs.Queries.{IsWriteIn, Leads, NoWriteIn, OneLastWriteLaw}

-- ---- lists

rise_across : (xs ys : List Access) (a b : Access) → CountsRise (xs ++ ys) → StandsIn xs a → StandsIn ys b →
    a.at.core ≡ b.at.core → a.at.count < b.at.count
rise_across [] ys a b rise there here same = absurd there
rise_across (x ∷ xs) ys a b rise (inl e) here same =
    subst (λ (z : Access). z.at.count < b.at.count) e
    (rise.1 b (stands_right xs ys b here) (ap (λ (z : Access). z.at.core) e ∙ same))
rise_across (x ∷ xs) ys a b rise (inr there) here same = rise_across xs ys a b rise.2 there here same

-- what a filter leaves
pub filtered : (f : Access → Bool) (list : List Access) (a : Access) → StandsIn (filter f list) a →
    StandsIn list a × (f a ≡ true)
filtered f [] a there = absurd there
filtered f (x ∷ xs) a there = by (f x) refl there (λ here. filtered f xs a here)
  where
    both : f x ≡ true → (x ≡ a) ⊎ StandsIn (filter f xs) a →
        (StandsIn (filter f xs) a → StandsIn xs a × (f a ≡ true)) → StandsIn (x ∷ xs) a × (f a ≡ true)
    both t (inl e) on = (inl e, ap f (sym e) ∙ t)
    both t (inr here) on = let h = on here in (inr h.0, h.1)

    by : (b : Bool) → f x ≡ b → StandsIn (cond b (x ∷ filter f xs) (filter f xs)) a →
        (StandsIn (filter f xs) a → StandsIn xs a × (f a ≡ true)) → StandsIn (x ∷ xs) a × (f a ≡ true)
    by true t s on = both t s on
    by false t s on = let h = on s in (inr h.0, h.1)

pub unfiltered : (f : Access → Bool) (list : List Access) (a : Access) → StandsIn list a → f a ≡ true →
    StandsIn (filter f list) a
unfiltered f [] a there t = absurd there
unfiltered f (x ∷ xs) a (inl e) t = let u : f x ≡ true = ap f e ∙ t in rw u (inl e)
unfiltered f (x ∷ xs) a (inr there) t = by (f x) (unfiltered f xs a there t)
  where
    by : (b : Bool) → StandsIn (filter f xs) a → StandsIn (cond b (x ∷ filter f xs) (filter f xs)) a
    by true h = inr h
    by false h = h

filter_rises : (f : Access → Bool) (list : List Access) → CountsRise list → CountsRise (filter f list)
filter_rises f [] rise = rise
filter_rises f (x ∷ xs) rise = by (f x) (filter_rises f xs rise.2)
  where
    by : (b : Bool) → CountsRise (filter f xs) → CountsRise (cond b (x ∷ filter f xs) (filter f xs))
    by true h = (rise.0, λ b there same. rise.1 b (filtered f xs b there).0 same, h)
    by false h = h

right_rises : (xs ys : List Access) → CountsRise (xs ++ ys) → CountsRise ys
right_rises [] ys rise = rise
right_rises (x ∷ xs) ys rise = right_rises xs ys rise.2

-- one more of a filter, or not
pub filter_on : (f : Access → Bool) (list so_far all : List Access) (k : ℕ) (d : Access) → k < length list →
    so_far ++ filter f (drop k list) ≡ all → f (slice_index_or list k d) ≡ true →
    (so_far ++ slice_index_or list k d ∷ []) ++ filter f (drop (k + 1) list) ≡ all
filter_on f list so_far all k d lt is t =
    let x = slice_index_or list k d in
    append_assoc so_far (x ∷ []) (filter f (drop (k + 1) list))
    ∙ ap (λ (b : Bool). so_far ++ cond b (x ∷ filter f (drop (k + 1) list)) (filter f (drop (k + 1) list))) (sym t)
    ∙ ap (λ (l : List Access). so_far ++ filter f l) (sym (drop_more list k d lt)) ∙ is

pub filter_by : (f : Access → Bool) (list so_far all : List Access) (k : ℕ) (d : Access) → k < length list →
    so_far ++ filter f (drop k list) ≡ all → f (slice_index_or list k d) ≡ false →
    so_far ++ filter f (drop (k + 1) list) ≡ all
filter_by f list so_far all k d lt is t =
    let x = slice_index_or list k d in
    ap (λ (b : Bool). so_far ++ cond b (x ∷ filter f (drop (k + 1) list)) (filter f (drop (k + 1) list))) (sym t)
    ∙ ap (λ (l : List Access). so_far ++ filter f l) (sym (drop_more list k d lt)) ∙ is

pub filter_end : (f : Access → Bool) (list so_far all : List Access) (k : ℕ) → length list ≤ k →
    so_far ++ filter f (drop k list) ≡ all → so_far ≡ all
filter_end f list so_far all k past is =
    sym (append-nil so_far) ∙ ap (λ (l : List Access). so_far ++ filter f l) (sym (drop_all k list past)) ∙ is

-- ---- from the end of the list

pub none_end : (list : List Access) (cut : Cut) (word : ℕ) → NoWriteIn (drop (length list) list) cut word
none_end list cut word = subst (λ (l : List Access). NoWriteIn l cut word)
    (sym (drop_all (length list) list (omega arith)))
    (λ a in_. absurd in_.stands)

pub none_on : (list : List Access) (cut : Cut) (word k : ℕ) (d : Access) → k < length list →
    NoWriteIn (drop (k + 1) list) cut word → is_write_of cut word (slice_index_or list k d) ≡ false →
    NoWriteIn (drop k list) cut word
none_on list cut word k d lt none not =
    subst (λ (l : List Access). NoWriteIn l cut word) (sym (drop_more list k d lt)) (λ a in_. by a in_.stands in_.is)
  where
    by : (a : Access) → (slice_index_or list k d ≡ a) ⊎ StandsIn (drop (k + 1) list) a → is_write_of cut word a ≡ true →
        ⊥
    by a (inl e) t = let u : is_write_of cut word (slice_index_or list k d) ≡ true =
        ap (λ (x : Access). is_write_of cut word x) e ∙ t in cc
    by a (inr there) t = none a (record { stands = there; is = t })

-- ---- the tests

write_of : (cut : Cut) (word : ℕ) (a : Access) → is_write_of cut word a ≡ true →
    (a.word ≡ word) × IsTrue (is_write a.kind)
write_of cut word a t =
    let p = and_parts (nat_eq a.word word) (is_write a.kind && is_held cut a.at) t in
    let q = and_parts (is_write a.kind) (is_held cut a.at) p.1 in
    let e : nat_eq a.word word ≡ true = p.0 in
    (grind (arith, nat_tests), is_true (is_write a.kind) q.0)

load_of : (cut : Cut) (word : ℕ) (a : Access) → is_load_of cut word a ≡ true →
    (a.word ≡ word) × (is_write a.kind ≡ false)
load_of cut word a t =
    let p = and_parts (nat_eq a.word word) (not (is_write a.kind) && is_held cut a.at) t in
    let q = and_parts (not (is_write a.kind)) (is_held cut a.at) p.1 in
    let e : nat_eq a.word word ≡ true = p.0 in
    (grind (arith, nat_tests), isnt (is_write a.kind) q.0)
  where
    isnt : (b : Bool) → not b ≡ true → b ≡ false
    isnt true t = sym t
    isnt false t = refl

-- ---- a recording that passed

module _ (a : Findings) (h : IsAudited a) where
  rise : CountsRise a.accesses
  rise = subst (λ (l : List Access). CountsRise l) (sym h.passed.accesses_is)
      (accesses_rise a.which a.recording (low_order_of a.which a.recording) h.passed.determinate.ordered)

  suffices : Suffices a.accesses (Among (log_edges a.which a.recording))
  suffices = subst (λ (l : List Access). Suffices l (Among (log_edges a.which a.recording))) (sym h.passed.accesses_is)
      h.passed.determinate.suffices

  pub acyclic : IsAcyclic (log_edges a.which a.recording)
  acyclic = acyclic_law a.which a.recording (low_order_of a.which a.recording) h.valid h.passed.determinate.ordered
      h.passed.determinate.whole

  never_both_ways : (x y : Instr) → Leads a x y → Leads a y x → ⊥
  never_both_ways x y p q = acyclic x (joined (Among (log_edges a.which a.recording)) x y x p q)

  -- of two accesses to a word, one of which writes, the one that stands first leads to the other
  pub across_leads : (xs ys : List Access) (x y : Access) → a.accesses ≡ xs ++ ys → StandsIn xs x → StandsIn ys y →
      x.word ≡ y.word → IsTrue (is_write x.kind) ⊎ IsTrue (is_write y.kind) → Leads a x.at y.at
  across_leads xs ys x y split there here word writes = by (cases_eq x.at.core y.at.core)
    where
      by : (x.at.core ≡ y.at.core) ⊎ (x.at.core ≢ y.at.core) → Leads a x.at y.at
      by (inl same) = one (Among (log_edges a.which a.recording)) x.at y.at
          (inl (same, rise_across xs ys x y (subst (λ (l : List Access). CountsRise l) split rise) there here same))
      by (inr differ) = suffices x.at y.at
          (subst (λ (l : List Access). ConflictPair l x.at y.at) (sym split)
          (pairs_across xs ys x y there here (differ, word, writes)))

  -- ---- the last write

  module _ (cut : Cut) (word : ℕ) where
    module _ (place : ℕ) (d : Access) (is : IsLastPlace a.accesses cut word place) where
      abbrev w : Access
      w = slice_index_or a.accesses place d

      abbrev front : List Access
      front = take place a.accesses

      abbrev later : List Access
      later = drop (place + 1) a.accesses

      split : a.accesses ≡ front ++ (w ∷ later)
      split = sym (take-append-drop place a.accesses)
          ∙ ap (λ (l : List Access). take place a.accesses ++ l) (drop_more a.accesses place d is.within)

      w_stands : StandsIn a.accesses w
      w_stands = subst (λ (l : List Access). StandsIn l w) (sym split) (stands_right front (w ∷ later) w (inl refl))

      w_is : (w.word ≡ word) × IsTrue (is_write w.kind)
      w_is = write_of cut word w (is.write d)

      pub last_is : IsLastWrite a cut word (slice_index_or a.accesses place d)
      last_is = record {
        write = record { stands = w_stands; is = is.write d };
        last = λ v in_. by v in_ (stands_which front (w ∷ later) v
            (subst (λ (l : List Access). StandsIn l v) split in_.stands));
      }
        where
          by : (v : Access) → IsWriteIn a.accesses cut word v → StandsIn front v ⊎ StandsIn (w ∷ later) v →
              (v.at ≡ w.at) ⊎ Leads a v.at w.at
          by v in_ (inl before) =
              let x = write_of cut word v in_.is in
              inr (across_leads front (w ∷ later) v w split before (inl refl) (x.0 ∙ sym w_is.0) (inl x.1))
          by v in_ (inr (inl e)) = inl (ap (λ (z : Access). z.at) (sym e))
          by v in_ (inr (inr behind)) = absurd (is.none v (record { stands = behind; is = in_.is }))

    -- ---- the loads since

    -- no write of the word in the cut stands from the place on, and just before it stands one, if it isn't the first
    pub record IsSince (from : ℕ) : Type 0 where
      pub none : NoWriteIn (drop from a.accesses) cut word
      pub last : (from ≡ 0) ⊎ ((place : ℕ) × (from ≡ place + 1) × IsLastPlace a.accesses cut word place)

    pub since_none : NoWriteIn a.accesses cut word → IsSince 0
    since_none none = record { none = none; last = inl refl }

    pub since_last : (place : ℕ) → IsLastPlace a.accesses cut word place → IsSince (place + 1)
    since_last place is = record { none = is.none; last = inr (place, refl, is) }

    module _ (from : ℕ) (since : IsSince from) where
      cut-at : a.accesses ≡ take from a.accesses ++ drop from a.accesses
      cut-at = sym (take-append-drop from a.accesses)

      pub is_since : (x : Access) → StandsIn (drop from a.accesses) x → is_load_of cut word x ≡ true →
          IsReadSince a cut word x
      is_since x here is = record {
        stands = subst (λ (l : List Access). StandsIn l x) (sym cut-at)
            (stands_right (take from a.accesses) (drop from a.accesses) x here);
        is = is;
        since = λ v in_. by v in_ (stands_which (take from a.accesses) (drop from a.accesses) v
            (subst (λ (l : List Access). StandsIn l v) cut-at in_.stands));
      }
        where
          by : (v : Access) → IsWriteIn a.accesses cut word v →
              StandsIn (take from a.accesses) v ⊎ StandsIn (drop from a.accesses) v → Leads a v.at x.at
          by v in_ (inl before) =
              let k = write_of cut word v in_.is in
              let l = load_of cut word x is in
              across_leads (take from a.accesses) (drop from a.accesses) v x cut-at before here (k.0 ∙ sym l.0)
              (inl k.1)
          by v in_ (inr behind) = absurd (since.none v (record { stands = behind; is = in_.is }))

      pub since_is : (x : Access) → IsReadSince a cut word x → StandsIn (drop from a.accesses) x
      since_is x read = by since.last (stands_which (take from a.accesses) (drop from a.accesses) x
          (subst (λ (l : List Access). StandsIn l x) cut-at read.stands))
        where
          l : (x.word ≡ word) × (is_write x.kind ≡ false)
          l = load_of cut word x read.is

          -- a load before the last write leads to it
          early : (place : ℕ) → IsLastPlace a.accesses cut word place → StandsIn (take place a.accesses) x → ⊥
          early place is before =
              let w : Access = slice_index_or a.accesses place x in
              let last = last_is place x is in
              let k = write_of cut word w (is.write x) in
              never_both_ways x.at w.at
              (across_leads (take place a.accesses) (w ∷ drop (place + 1) a.accesses) x w (split place x is) before
              (inl refl) (l.0 ∙ sym k.0) (inr k.1))
              (read.since w last.write)

          -- and the last write is no load
          same : (place : ℕ) → IsLastPlace a.accesses cut word place → slice_index_or a.accesses place x ≡ x → ⊥
          same place is e =
              let k = write_of cut word (slice_index_or a.accesses place x) (is.write x) in
              let t : IsTrue (is_write x.kind) = subst (λ (z : Access). IsTrue (is_write z.kind)) e k.1 in
              let n = l.1 in
              cc

          by : (from ≡ 0) ⊎ ((place : ℕ) × (from ≡ place + 1) × IsLastPlace a.accesses cut word place) →
              StandsIn (take from a.accesses) x ⊎ StandsIn (drop from a.accesses) x → StandsIn (drop from a.accesses) x
          by o (inr here) = here
          by (inl e) (inl before) = absurd (subst (λ (n : ℕ). StandsIn (take n a.accesses) x) e before)
          by (inr (place, e, is)) (inl before) =
              absurd (where_ (stands_which (take place a.accesses)
              (slice_index_or a.accesses place x ∷ drop (place + 1) a.accesses) x
              (subst (λ (l : List Access). StandsIn l x) (split place x is) read.stands)))
            where
              where_ : StandsIn (take place a.accesses) x ⊎ StandsIn
                  (slice_index_or a.accesses place x ∷ drop (place + 1) a.accesses) x → ⊥
              where_ (inl first) = early place is first
              where_ (inr (inl e)) = same place is e
              where_ (inr (inr behind)) = twice (subst (λ (n : ℕ). StandsIn (take n a.accesses) x) e before) behind
                where
                  -- its count would be below itself
                  twice : StandsIn (take (place + 1) a.accesses) x → StandsIn (drop (place + 1) a.accesses) x → ⊥
                  twice first second =
                      let lt = rise_across (take (place + 1) a.accesses) (drop (place + 1) a.accesses) x x
                      (subst (λ (l : List Access). CountsRise l) (sym (take-append-drop (place + 1) a.accesses)) rise)
                      first second refl in
                      omega arith

      pub reads_since_is : (list : List Access) → list ≡ filter (is_load_of cut word) (drop from a.accesses) →
          AreReadsSince a cut word list
      reads_since_is list is = record {
        each = λ x. (
          λ there. let f = filtered (is_load_of cut word) (drop from a.accesses) x
              (subst (λ (l : List Access). StandsIn l x) is there) in
              is_since x f.0 f.1,
          λ read. subst (λ (l : List Access). StandsIn l x) (sym is)
              (unfiltered (is_load_of cut word) (drop from a.accesses) x (since_is x read) read.is),
        );
        rise = subst (λ (l : List Access). CountsRise l) (sym is)
            (filter_rises (is_load_of cut word) (drop from a.accesses)
            (right_rises (take from a.accesses) (drop from a.accesses)
            (subst (λ (l : List Access). CountsRise l) cut-at rise)));
      }

-- ---- there is one last write

pub one_last_write : OneLastWriteLaw
one_last_write a cut word access other h first second =
    by (first.last other second.write) (second.last access first.write)
  where
    same : access.at ≡ other.at → access ≡ other
    same e = one_access a.accesses access other (rise a h) first.write.stands second.write.stands e

    by : (other.at ≡ access.at) ⊎ Leads a other.at access.at → (access.at ≡ other.at) ⊎ Leads a access.at other.at →
        access ≡ other
    by (inl e) o = same (sym e)
    by (inr p) (inl e) = same e
    by (inr p) (inr q) = absurd (never_both_ways a h other.at access.at p q)
