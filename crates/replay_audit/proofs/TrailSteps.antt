-- A trail goes on by one instruction.
use Rattle.std.proofs.Common.{inl, inr, ◌≡◌, ◌≢◌, ◌⊎◌, ℕ, ◌<◌, ◌≤◌, true, false, Bool, not, ◌&&◌, List, [], ◌∷◌}
use Rattle.std.proofs.Common.{◌++◌, replicate, reverse, refl, sym, ap}
use Rattle.std.proofs.Common.{◌∙◌, subst, arith}
use Rattle.std.specs.Prelude.{slice_index, nat_le, IsTrue, Option, Some, None}
use Rattle.std.proofs.lemmas.Bool.Decides.{nat_tests}
use Rattle.std.proofs.lemmas.Bool.{not-true, and_parts}
use Rattle.rtr_types.specs.declared.TheConstants.{CORES_MAX}
use Rattle.rtr_types.specs.declared.instr.Instr.{Instr}
use Rattle.rtr_types.specs.declared.instr.Edge.{Edge}
use Rattle.rtr_types.specs.declared.access.Access.{Access}
use Rattle.clock_core.specs.Order.{Before, IsOrLeads, Among}
use Rattle.clock_core.specs.Reach.{IsClock}
use Rattle.clock_core.proofs.Reach.{clock_same}
use Rattle.conflict_edge.specs.Clocks.{Candidate}
use Rattle.conflict_edge.specs.Conflicts.{Conflicts, ConflictPair, CountsRise, StandsIn, do_conflict}
use Rattle.conflict_edge.specs.Least.{Suffices}
use Rattle.conflict_edge.proofs.Candidates.{candidates_law}
use Rattle.conflict_edge.proofs.History.{do_conflict-true, do_conflict-yes}
use Rattle.conflict_edge.proofs.Online.{candidate_source}
use Rattle.conflict_edge.proofs.NewestFirst.{stands_back, reverse-next}
use Rattle.conflict_edge.proofs.AccessPlaces.{positive}
use Rattle.replay_core.specs.Orders.{nought}
use Rattle.clock_entries.specs.Laws.{IsAcyclic}
use Rattle.replay_audit.specs.declared.unordered.Unordered.{Unordered}
use Rattle.replay_audit.specs.Clocks.{Kept, clock_at, Clocked}
use Rattle.replay_audit.specs.Marks.{AreMarksCovered, AreMarked, Marked}
use Rattle.replay_audit.specs.Unordered.{IsLatestBefore, IsUnordered, is_open, AreCovered, IsLatestAt}
use Rattle.replay_audit.specs.Trails.{Trailed, FoundNext, Watches, IsFinding}
use Rattle.replay_audit.specs.Trails.{IsTrailOf}
use Rattle.replay_audit.proofs.Pairs.{Apart, both_left, both_right, across, pairs_which}
use Rattle.replay_audit.proofs.ClockSteps.{clocked_start}
use Rattle.replay_audit.proofs.Scan.{split_more}
use Rattle.replay_audit.proofs.MarkLaws.{AreCandidatesCovered, covered_marks, marked_next, marked_start}

-- ---- what a clock says of an earlier access

and_false : (a b : Bool) → a && not b ≡ false → a ≡ true → b ≡ true
and_false true true e t = refl
and_false true false e t = absurd (cc)
and_false false b e t = absurd (cc)

open_conflict : (b a : Access) (k : List ℕ) → is_open b a k ≡ true → Conflicts b a ×
    (slice_index k b.at.core < b.at.count)
open_conflict b a k t =
    let p = and_parts (do_conflict b a) (not (nat_le b.at.count (slice_index k b.at.core))) t in
    let q : nat_le b.at.count (slice_index k b.at.core) ≡ false =
    not-true (nat_le b.at.count (slice_index k b.at.core)) p.1 in
    (do_conflict-true b a p.0, grind (arith, nat_tests))

closed_covers : (b a : Access) (k : List ℕ) → is_open b a k ≡ false → Conflicts b a →
    b.at.count ≤ slice_index k b.at.core
closed_covers b a k t c =
    let q : nat_le b.at.count (slice_index k b.at.core) ≡ true =
    and_false (do_conflict b a) (nat_le b.at.count (slice_index k b.at.core)) t
    (do_conflict-yes b a c) in
    grind (arith, nat_tests)

-- the clock is a's
abbrev pub IsClockOf : List Edge → Access → List ℕ → Type 0
IsClockOf edges a k = IsClock (Among edges) a.at (λ i. slice_index k i)

-- the clock covers another core's instruction exactly where this is before it
covered : (edges : List Edge) (y z : Instr) (clock : ℕ → ℕ) → IsClock (Among edges) y clock → 1 ≤ z.count →
    z.core ≢ y.core →
    (z.count ≤ clock z.core → Before (Among edges) z y) × (Before (Among edges) z y → z.count ≤ clock z.core)
covered edges y z clock k pos ne = (λ le. by ((k z pos).0 le), λ p. (k z pos).1 (inr p))
  where
    by : IsOrLeads (Among edges) z y → Before (Among edges) z y
    by (inl e) = absurd (ne (ap (λ (x : Instr). x.core) e))
    by (inr p) = p

covered_before : (edges : List Edge) (b a : Access) (k : List ℕ) → IsClockOf edges a k → 1 ≤ b.at.count →
    is_open b a k ≡ false → Conflicts b a →
    Before (Among edges) b.at a.at
covered_before edges b a k h pos t c =
    (covered edges a.at b.at (λ i. slice_index k i) h pos c.0).0 (closed_covers b a k t c)

open_loose : (edges : List Edge) (b a : Access) (k : List ℕ) → IsClockOf edges a k → 1 ≤ b.at.count →
    is_open b a k ≡ true → Before (Among edges) b.at a.at → ⊥
open_loose edges b a k h pos t p =
    let o = open_conflict b a k t in
    let le = (covered edges a.at b.at (λ i. slice_index k i) h pos o.0.0).1 p in
    let lt = o.1 in omega arith

stands_mid : (xs : List Access) (e : Access) (ys : List Access) (b : Access) → (e ≡ b) ⊎ StandsIn ys b →
    StandsIn (xs ++ e ∷ ys) b
stands_mid [] e ys b (inl q) = inl q
stands_mid [] e ys b (inr s) = inr s
stands_mid (x ∷ xs) e ys b s = inr (stands_mid xs e ys b s)

single_apart : (a : Access) (x y : Instr) → ConflictPair (a ∷ []) x y → ⊥
single_apart a x y (inl p) = p.2
single_apart a x y (inr p) = p

-- with no open access the log orders the conflicts of one access more
covered_suffice : (edges : List Edge) (list : List Access) (a : Access) (k : List ℕ) → IsClockOf edges a k →
    CountsRise list → Suffices list (Among edges) →
    AreCovered list a k → Suffices (list ++ a ∷ []) (Among edges)
covered_suffice edges list a k h rise suf all x y p = by (pairs_which list (a ∷ []) x y p)
  where
    last : (b d : Access) → StandsIn list b → StandsIn (a ∷ []) d → b.at ≡ x → d.at ≡ y → Conflicts b d →
        Before (Among edges) x y
    last b d s (inl e) bx dy c =
        let go : Before (Among edges) b.at a.at = covered_before edges b a k h (positive list b rise s) (all b s)
        (subst (λ (z : Access). Conflicts b z) (sym e) c) in
        subst (λ (z : Instr). Before (Among edges) z y) bx
        (subst (λ (z : Instr). Before (Among edges) b.at z) (ap (λ (z : Access). z.at) e ∙ dy) go)
    last b d s (inr e) bx dy c = absurd e

    by : Apart list (a ∷ []) x y → Before (Among edges) x y
    by (both_left q) = suf x y q
    by (both_right q) = absurd (single_apart a x y q)
    by (across b d s t bx dy c) = last b d s t bx dy c

latest_before : (edges : List Edge) (list : List Access) (a : Access) (k : List ℕ) (x : Instr) → IsClockOf edges a k →
    CountsRise list →
    IsLatestAt list a k x → IsLatestBefore edges list a x
latest_before edges list a k x h rise l = record {
  older = l.older;
  earlier = l.earlier;
  newer = l.newer;
  split = l.split;
  at = l.at;
  conflict = (open_conflict l.earlier a k l.is_left).0;
  unordered = open_loose edges l.earlier a k h (pos l.earlier (inl refl)) l.is_left;
  latest = λ b s c. covered_before edges b a k h (pos b (inr s)) (l.latest b s) c;
}
  where
    pos : (b : Access) → (l.earlier ≡ b) ⊎ StandsIn l.newer b → 1 ≤ b.at.count
    pos b s = positive list b rise
        (subst (λ (z : List Access). StandsIn z b) (sym l.split) (stands_mid l.older l.earlier l.newer b s))

finding_more : (edges : List Edge) (list : List Access) (a : Access) (x y : Instr) → IsUnordered edges list x y →
    IsUnordered edges (list ++ a ∷ []) x y
finding_more edges list a x y h = record {
  front = h.front;
  later = h.later;
  at = h.at;
  ordered = h.ordered;
  partner = h.partner;
  rest = h.rest ++ a ∷ [];
  split = split_more list h.front h.rest h.later a h.split;
}

-- what the marks are enough for
checked_suffice : (edges : List Edge) (list : List Access) (a : Access) (k : List ℕ) → IsClockOf edges a k →
    CountsRise (list ++ a ∷ []) → CountsRise list →
    Suffices list (Among edges) → AreCandidatesCovered (reverse list) a k → Suffices (list ++ a ∷ []) (Among edges)
checked_suffice edges list a k h now rise suf ch = candidates_law list a edges now suf ordered
  where
    ordered : (z : Instr) → Candidate (reverse list) a z → Before (Among edges) z a.at
    ordered z c =
        let src = candidate_source (reverse list) a z c in
        let pos : 1 ≤ z.count = subst (λ (x : Instr). 1 ≤ x.count) src.2
        (positive list src.0 rise (stands_back list src.0 src.1)) in
        let ne : z.core ≢ a.at.core = λ e. src.3.0 (ap (λ (x : Instr). x.core) src.2 ∙ e) in
        (covered edges a.at z (λ i. slice_index k i) h pos ne).0 (ch z c)

-- what is known of the accesses before
pub record Earlier (edges : List Edge) (list : List Access) (marks : Marked) : Type 0 where
  pub rise : CountsRise list
  pub marked : AreMarked edges (reverse list) marks

none_next : (edges : List Edge) (marks : Marked) (list : List Access) (a : Access) (k : List ℕ) →
    IsClockOf edges a k → CountsRise (list ++ a ∷ []) →
    Earlier edges list marks → Suffices list (Among edges) →
    AreMarksCovered marks a k ⊎ AreCovered list a k → Suffices (list ++ a ∷ []) (Among edges)
none_next edges marks list a k h now was f (inr all) = covered_suffice edges list a k h was.rise f all
none_next edges marks list a k h now was f (inl s) = checked_suffice edges list a k h now was.rise f
    (covered_marks edges (reverse list) marks a k h was.marked s)

pub finding_next : (edges : List Edge) (marks : Marked) (list : List Access) (a : Access) (k : List ℕ)
    (listed : Bool) (o p : Option Unordered) → IsClockOf edges a k →
    CountsRise (list ++ a ∷ []) → Earlier edges list marks → IsFinding listed edges list o →
    FoundNext listed o marks list a k p → IsFinding listed edges (list ++ a ∷ []) p
finding_next edges marks list a k listed (Some o) p h now was f n =
    subst (λ (z : Option Unordered). IsFinding listed edges (list ++ a ∷ []) z) (sym n)
    (λ t. finding_more edges list a o.first o.second (f t))
finding_next edges marks list a k listed None None h now was f (inl s) =
    none_next edges marks list a k h now was f (inl s)
finding_next edges marks list a k listed None None h now was f (inr all) =
    none_next edges marks list a k h now was f (inr all.1)
finding_next edges marks list a k listed None (Some o) h now was f n = λ t. let found = n t in record {
  front = list;
  later = a;
  rest = [];
  split = refl;
  at = sym found.1;
  ordered = f;
  partner = latest_before edges list a k o.first h was.rise found.0;
}

-- what is found goes by the list only where the accesses are listed
found_of : (listed : Bool) (o : Option Unordered) (marks : Marked) (kept list : List Access) (a : Access) (k : List ℕ)
    (p : Option Unordered) → (IsTrue listed → kept ≡ list) → FoundNext listed o marks kept a k p →
    FoundNext listed o marks list a k p
found_of listed (Some o) marks kept list a k p is n = n
found_of listed None marks kept list a k None is (inl s) = inl s
found_of listed None marks kept list a k None is (inr all) =
    inr (all.0, subst (λ (l : List Access). AreCovered l a k) (is all.0) all.1)
found_of listed None marks kept list a k (Some o) is n =
    λ t. (subst (λ (l : List Access). IsLatestAt l a k o.first) (is t) (n t).0, (n t).1)

-- ---- a trail

-- no access yet, with the clocks of instructions that were noted
pub trail_along : (edges : List Edge) (cores : ℕ) (f : ℕ → ℕ) (t : Trailed) → Clocked edges cores f t.kept →
    (IsTrue t.listed → t.accesses ≡ []) → t.found ≡ None → IsTrailOf edges cores f [] t
trail_along edges cores f t clocked accesses found = record {
  clocked = clocked;
  accesses_is = accesses;
  marked = λ acyclic. marked_start edges t.marks;
  finding = λ acyclic. subst (λ (o : Option Unordered). IsFinding t.listed edges [] o) (sym found) (λ x y p. absurd p);
}

pub trail_start : (edges : List Edge) (cores : ℕ) (t : Trailed) → t.kept.clocks ≡ replicate cores [] →
    (IsTrue t.listed → t.accesses ≡ []) → t.found ≡ None → IsTrailOf edges cores nought [] t
trail_start edges cores t clocks = trail_along edges cores nought t (clocked_start edges cores t.kept clocks)

-- an access of an instruction that was noted before
pub trail_watched : (edges : List Edge) (cores : ℕ) (f : ℕ → ℕ) (list : List Access) (s t : Trailed) (a : Access) →
    IsTrailOf edges cores f list s → Watches s a t → a.at.core < cores → a.at.core < CORES_MAX → 1 ≤ a.at.count →
    a.at.count ≤ f a.at.core → CountsRise list → CountsRise (list ++ a ∷ []) →
    IsTrailOf edges cores f (list ++ a ∷ []) t
trail_watched edges cores f list s t a trail w inside few pos le rise now = record {
  clocked = subst (λ (k : Kept). Clocked edges cores f k) (sym w.kept) trail.clocked;
  accesses_is = λ listed. let was : IsTrue s.listed = subst IsTrue w.listed listed in
      w.accesses was ∙ ap (λ (l : List Access). l ++ a ∷ []) (trail.accesses_is was);
  marked = λ acyclic. subst (λ (l : List Access). AreMarked edges l t.marks) (sym (reverse-next list a))
      (marked_next edges (reverse list) s.marks t.marks a w.clock few pos (clock_of acyclic) w.marks
      (trail.marked acyclic));
  finding = λ acyclic. subst (λ (b : Bool). IsFinding b edges (list ++ a ∷ []) t.found) (sym w.listed)
      (finding_next edges s.marks list a w.clock s.listed s.found t.found (clock_of acyclic) now
      (record { rise = rise; marked = trail.marked acyclic }) (trail.finding acyclic)
      (found_of s.listed s.found s.marks s.accesses list a w.clock t.found trail.accesses_is w.found));
}
  where
    clock_of : IsAcyclic edges → IsClockOf edges a w.clock
    clock_of acyclic =
        clock_same (Among edges) a.at (clock_at s.kept a.at) (λ i. slice_index w.clock i) (λ i. sym (w.clock_is i))
        (trail.clocked.exact acyclic a.at.core a.at.count inside pos le)
