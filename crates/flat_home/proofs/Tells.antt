-- What each node is, once one node was set, and once some were told of a message.
use Rattle.std.proofs.Common.{◌≡◌, ◌≢◌, ◌∙◌, ◌⊎◌, inl, inr, refl, sym, ap, subst, ℕ, ◌+◌, ◌<◌, ◌≤◌, ◌==◌, Bool, true}
use Rattle.std.proofs.Common.{false}
use Rattle.std.proofs.Common.{List}
use Rattle.std.proofs.Common.{length, arith}
use Rattle.std.specs.Prelude.{◌&&◌, if◌then◌else◌, nat_lt, slice_set}
use Rattle.std.proofs.lemmas.Bool.{cases_eq, cases_lt, lt-ltb}
use Rattle.std.proofs.lemmas.Bool.Decides.{nat_tests}
use Rattle.std.proofs.lemmas.List.{get_or-set_other, get_or-set_same, get_or_past}
use Rattle.rtr_types.specs.CoreSets.{has}
use Rattle.rtr_types.specs.declared.core_set.CoreSet.{CoreSet}
use Rattle.flat_state.specs.declared.message_ring.Message.{Message}
use Rattle.flat_state.specs.declared.message_ring.Told.TheVariants.{Inv}
use Rattle.flat_state.specs.declared.node.Node.{Node}
use Rattle.flat_state.specs.Shows.{no_node, node_at}
use Rattle.flat_home.specs.Tellings.{with_message}

-- a node by its place, once one was set
pub node_set : (nodes : List Node) (c : ℕ) (n : Node) (d : ℕ) → c < length nodes →
    node_at (slice_set nodes c n) d ≡ (if d == c then n else node_at nodes d)
node_set nodes c n d within =
    grind (arith, nat_tests, get_or-set_same nodes c n no_node within, get_or-set_other nodes c d n no_node)

-- the nodes, once each of the first n cores that is in the set was told
pub record ToldBelow (set : CoreSet) (place : ℕ) (old new : List Node) (n : ℕ) : Type 0 where
  pub long : length new ≡ length old
  pub nodes : (d : ℕ) → d < length old →
      node_at new d ≡ with_message (nat_lt d n && has set d) place Inv (node_at old d)

below : (d n : ℕ) → d < n → nat_lt d n ≡ true
below d n lies = lt-ltb d n lies

pub told_start : (set : CoreSet) (place : ℕ) (old : List Node) → ToldBelow set place old old 0
told_start set place old =
    record {
      long = refl;
      nodes = λ d lies. ap (λ (t : Bool). with_message (t && has set d) place Inv (node_at old d)) (sym (none d));
    }
  where
    none : (d : ℕ) → nat_lt d 0 ≡ false
    none d = grind (arith, nat_tests)

pub told_end : (set : CoreSet) (place : ℕ) (old new : List Node) (n : ℕ) → n ≡ length old →
    ToldBelow set place old new n → (d : ℕ) → d < length old →
    node_at new d ≡ with_message (has set d) place Inv (node_at old d)
told_end set place old new n all told d lies =
    told.nodes d lies ∙ ap (λ (t : Bool). with_message (t && has set d) place Inv (node_at old d))
    (below d n (subst (λ (k : ℕ). d < k) (sym all) lies))

more_below : (d n : ℕ) → d ≢ n → nat_lt d (n + 1) ≡ nat_lt d n
more_below d n apart = grind (arith, nat_tests)

pub told_skip : (set : CoreSet) (place : ℕ) (old new : List Node) (n : ℕ) → has set n ≡ false →
    ToldBelow set place old new n → ToldBelow set place old new (n + 1)
told_skip set place old new n out told =
    record {
      long = told.long;
      nodes = λ d lies. told.nodes d lies
          ∙ ap (λ (t : Bool). with_message t place Inv (node_at old d)) (same d (cases_eq d n));
    }
  where
    same : (d : ℕ) → (d ≡ n) ⊎ (d ≢ n) → (nat_lt d n && has set d) ≡ (nat_lt d (n + 1) && has set d)
    same d (inl at) = let none : has set d ≡ false = ap (has set) at ∙ out in
        ap (λ (t : Bool). nat_lt d n && t) none
        ∙ (and_no (nat_lt d n) ∙ sym (ap (λ (t : Bool). nat_lt d (n + 1) && t) none ∙ and_no (nat_lt d (n + 1))))
      where
        and_no : (t : Bool) → (t && false) ≡ false
        and_no true = refl
        and_no false = refl
    same d (inr apart) = ap (λ (t : Bool). t && has set d) (sym (more_below d n apart))

pub told_next : (set : CoreSet) (place : ℕ) (old new later : List Node) (n : ℕ) → has set n ≡ true →
    ToldBelow set place old new n → length later ≡ length new →
    ((d : ℕ) → d < length new → node_at later d ≡ with_message (d == n) place Inv (node_at new d)) →
    ToldBelow set place old later (n + 1)
told_next set place old new later n here told long nodes =
    record {
      long = long ∙ told.long;
      nodes = λ d lies. nodes d (subst (λ (k : ℕ). d < k) (sym told.long) lies)
          ∙ (ap (λ (x : Node). with_message (d == n) place Inv x) (told.nodes d lies) ∙ at d (cases_eq d n));
    }
  where
    at : (d : ℕ) → (d ≡ n) ⊎ (d ≢ n) →
        with_message (d == n) place Inv (with_message (nat_lt d n && has set d) place Inv (node_at old d))
        ≡ with_message (nat_lt d (n + 1) && has set d) place Inv (node_at old d)
    at d (inl same) =
        let first : (d == n) ≡ true = grind (arith, nat_tests) in
        let not_before : nat_lt d n ≡ false = grind (arith, nat_tests) in
        let now : nat_lt d (n + 1) ≡ true = grind (arith, nat_tests) in
        let it : has set d ≡ true = ap (has set) same ∙ here in
        rw (first, not_before, now, it) refl
    at d (inr apart) =
        let first : (d == n) ≡ false = grind (arith, nat_tests) in
        rw (first, more_below d n apart) refl

pub told_step : (set : CoreSet) (place : ℕ) (old new later : List Node) (n : ℕ) → ToldBelow set place old new n →
    length later ≡ length new →
    ((d : ℕ) → d < length new → node_at later d ≡ with_message (has set n && (d == n)) place Inv (node_at new d)) →
    ToldBelow set place old later (n + 1)
told_step set place old new later n told long nodes = by (has set n) refl
  where
    by : (t : Bool) → has set n ≡ t → ToldBelow set place old later (n + 1)
    by true here = told_next set place old new later n here told long
        (λ d lies. nodes d lies ∙ ap (λ (t : Bool). with_message (t && (d == n)) place Inv (node_at new d)) here)
    by false out = told_skip set place old later n out (record {
      long = long ∙ told.long;
      nodes = λ d lies. nodes d (subst (λ (k : ℕ). d < k) (sym told.long) lies)
          ∙ (ap (λ (t : Bool). with_message (t && (d == n)) place Inv (node_at new d)) out ∙ told.nodes d lies);
    })

-- one that is still to be told has the room that it had
pub told_room : (set : CoreSet) (place : ℕ) (old new : List Node) (n : ℕ) → ToldBelow set place old new n →
    (n < length old → length (node_at old n).messages < 16) → length (node_at new n).messages < 16
told_room set place old new n told room = by (cases_lt n (length old))
  where
    by : (n < length old) ⊎ (length old ≤ n) → length (node_at new n).messages < 16
    by (inl within) =
        let not_before : nat_lt n n ≡ false = grind (arith, nat_tests) in
        let same : node_at new n ≡ node_at old n = told.nodes n within
        ∙ ap (λ (t : Bool). with_message (t && has set n) place Inv (node_at old n)) not_before in
        subst (λ (x : Node). length x.messages < 16) (sym same) (room within)
    by (inr past) =
        let long = told.long in
        let none : node_at new n ≡ no_node = get_or_past new n no_node (omega (arith, past, long)) in
        subst (λ (x : Node). length x.messages < 16) (sym none) (omega arith)

-- a node with the messages that it had has the room that it had
pub left_room : (nodes : List Node) (c : ℕ) (left : Node) (d : ℕ) → c < length nodes →
    left.messages ≡ (node_at nodes c).messages → length (node_at nodes d).messages < 16 →
    length (node_at (slice_set nodes c left) d).messages < 16
left_room nodes c left d within same room =
    subst (λ (x : Node). length x.messages < 16) (sym (node_set nodes c left d within)) (by (d == c) is_core)
  where
    is_core : (d == c) ≡ true → d ≡ c
    is_core e = grind (arith, nat_tests)

    by : (t : Bool) → (t ≡ true → d ≡ c) → length (if t then left else node_at nodes d).messages < 16
    by true at = subst (λ (l : List Message). length l < 16) (sym same)
        (subst (λ (k : ℕ). length (node_at nodes k).messages < 16) (at refl) room)
    by false at = room
