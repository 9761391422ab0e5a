-- The marks of a machine in which nothing is under way: each core whose program isn't done is marked.
use Rattle.std.proofs.Common.{◌≡◌, ◌≢◌, ◌∙◌, ◌⊎◌, inl, inr, refl, sym, ap, subst, ℕ, zero, suc, ◌+◌, ◌<◌, ◌≤◌}
use Rattle.std.proofs.Common.{Bool, true, false, List, [], length, map, arith, None}
use Rattle.std.specs.Prelude.{◌&&◌, nat_lt, not, replicate}
use Rattle.std.specs.List.{list_any, range_with_len}
use Rattle.std.proofs.lemmas.Bool.{cases_eq, cases_lt}
use Rattle.std.proofs.lemmas.Bool.Decides.{nat_tests}
use Rattle.std.proofs.lemmas.List.{get_or_past}
use Rattle.std.proofs.lemmas.List.FromFn.{length-map-range_with_len, get_or-map-range_with_len}
use Rattle.image_mem.specs.Contents.{Contents}
use Rattle.link_order.specs.Queue.{is_nil}
use Rattle.rtr_types.specs.CoreSets.{has}
use Rattle.rtr_types.specs.declared.TheConstants.{LINES}
use Rattle.rv_core.specs.Steps.{is_done}
use Rattle.msi_cache.specs.Table.{is_transient}
use Rattle.move_marks.specs.Kinds.{set_of}
use Rattle.move_marks.specs.declared.marks.MoveKind.{MoveKind}
use Rattle.move_marks.specs.declared.marks.MoveKind.TheVariants.{Own, Request, Response, FromHome}
use Rattle.move_marks.specs.declared.marks.MoveMarks.{MoveMarks}
use Rattle.flat_state.specs.declared.block.HomeBlock.{HomeBlock}
use Rattle.flat_state.specs.declared.flat.Flat.{Flat}
use Rattle.flat_state.specs.declared.node.KeptLine.{KeptLine}
use Rattle.flat_state.specs.declared.node.Node.{Node}
use Rattle.flat_state.specs.Shows.{no_line, no_node, node_at}
use Rattle.flat_start.specs.Starts.{node_start}
use Rattle.flat_laws.specs.Marks.{node_waits, request_mark}
use Rattle.flat_marks.specs.Kept.{IsMarked}
use Rattle.flat_machine.specs.Machines.{PlacesKept, place_in}

-- the first n of them are marked
pub record FirstMarks (nodes : List Node) (marks : MoveMarks) (n : ℕ) : Type 0 where
  pub own : (c : ℕ) → has (set_of Own marks) c ≡ (nat_lt c n && not (is_done (node_at nodes c).need))
  pub others : (k : MoveKind) (c : ℕ) → k ≢ Own → has (set_of k marks) c ≡ false

pub none_first : (nodes : List Node) (marks : MoveMarks) →
    ((k : MoveKind) (c : ℕ) → has (set_of k marks) c ≡ false) → FirstMarks nodes marks 0
none_first nodes marks none =
    record {
      own = λ c. none Own c ∙ ap (λ (t : Bool). t && not (is_done (node_at nodes c).need)) (sym (below_none c));
      others = λ k c other. none k c;
    }
  where
    below_none : (c : ℕ) → nat_lt c 0 ≡ false
    below_none c = grind (arith, nat_tests)

pub one_more : (nodes : List Node) (marks marks' : MoveMarks) (n : ℕ) →
    has (set_of Own marks') n ≡ not (is_done (node_at nodes n).need) →
    ((k : MoveKind) (c : ℕ) → (k ≡ Own → c ≢ n) → has (set_of k marks') c ≡ has (set_of k marks) c) →
    FirstMarks nodes marks n → FirstMarks nodes marks' (n + 1)
one_more nodes marks marks' n this others first =
    record {
      own = λ c. by c (cases_eq c n);
      others = λ k c other. others k c (λ e. absurd (other e)) ∙ first.others k c other;
    }
  where
    last : (c : ℕ) → c ≡ n → nat_lt c (n + 1) ≡ true
    last c same = grind (arith, nat_tests)

    as_before : (c : ℕ) → c ≢ n → nat_lt c (n + 1) ≡ nat_lt c n
    as_before c apart = grind (arith, nat_tests)

    by : (c : ℕ) → (c ≡ n) ⊎ (c ≢ n) → has (set_of Own marks') c
        ≡ (nat_lt c (n + 1) && not (is_done (node_at nodes c).need))
    by c (inl same) =
        ap (λ (k : ℕ). has (set_of Own marks') k) same
        ∙ (this ∙ (ap (λ (k : ℕ). not (is_done (node_at nodes k).need)) (sym same)
        ∙ ap (λ (t : Bool). t && not (is_done (node_at nodes c).need)) (sym (last c same))))
    by c (inr apart) =
        others Own c (λ e. apart) ∙ (first.own c
        ∙ ap (λ (t : Bool). t && not (is_done (node_at nodes c).need)) (sym (as_before c apart)))

pub first_own : (nodes : List Node) (marks : MoveMarks) (n : ℕ) → n ≡ length nodes → FirstMarks nodes marks n →
    (c : ℕ) → has (set_of Own marks) c ≡ (nat_lt c (length nodes) && not (is_done (node_at nodes c).need))
first_own nodes marks n all first c =
    first.own c ∙ ap (λ (k : ℕ). nat_lt c k && not (is_done (node_at nodes c).need)) all

-- ---- at the start nothing waits, and nothing is on its way

none_waits : (n : ℕ) → list_any (λ (l : KeptLine). is_transient l.state) (replicate n no_line) ≡ false
none_waits zero = refl
none_waits (suc n) = none_waits n

module _ (image : Contents) (cores limit : ℕ) (f : Flat)
    (nodes : f.nodes.items ≡ map (λ (id : ℕ). node_start image id limit) (range_with_len 0 cores))
    (empty : f.home.items ≡ []) (marks : MoveMarks)
    (own : (c : ℕ) → has (set_of Own marks) c
    ≡ (nat_lt c (length f.nodes.items) && not (is_done (node_at f.nodes.items c).need)))
    (others : (k : MoveKind) (c : ℕ) → k ≢ Own → has (set_of k marks) c ≡ false) where
  long : length f.nodes.items ≡ cores
  long = ap length nodes ∙ length-map-range_with_len (λ (id : ℕ). node_start image id limit) 0 cores

  -- what each node that is there begins with, and what is read where none is
  at_start : {X : Type 0} (g : Node → X) (x : X) → ((id : ℕ) → g (node_start image id limit) ≡ x) → g no_node ≡ x →
      (c : ℕ) → g (node_at f.nodes.items c) ≡ x
  at_start {X} g x begins none c = by (cases_lt c cores)
    where
      by : (c < cores) ⊎ (cores ≤ c) → g (node_at f.nodes.items c) ≡ x
      by (inl within) =
          ap (λ (l : List Node). g (node_at l c)) nodes
          ∙ (ap g (get_or-map-range_with_len (λ (id : ℕ). node_start image id limit) 0 cores c c no_node within (omega arith))
          ∙ begins c)
      by (inr past) =
          ap g (get_or_past f.nodes.items c no_node (subst (λ (n : ℕ). n ≤ c) (sym long) past)) ∙ none

  still : (c : ℕ) → node_waits (node_at f.nodes.items c) ≡ false
  still = at_start node_waits false (λ id. none_waits LINES) refl

  asks_none : (c : ℕ) → (node_at f.nodes.items c).asks ≡ false
  asks_none = at_start (λ (n : Node). n.asks) false (λ id. refl) refl

  and_true : (t : Bool) → t ≡ (t && true)
  and_true true = refl
  and_true false = refl

  pub marked_start : IsMarked f marks
  marked_start =
      record {
        own = λ c. own c ∙ ap (λ (t : Bool). nat_lt c (length f.nodes.items) && t)
            (and_true (not (is_done (node_at f.nodes.items c).need))
            ∙ ap (λ (t : Bool). not (is_done (node_at f.nodes.items c).need) && not t) (sym (still c)));
        requests = λ c. others Request c (λ (e : Request ≡ Own). absurd (cc))
            ∙ sym (at_start (request_mark f.home.items) false (λ id. refl) refl c);
        responses = λ c. others Response c (λ (e : Response ≡ Own). absurd (cc))
            ∙ sym (at_start (λ (n : Node). not (is_nil n.replies)) false (λ id. refl) refl c);
        messages = λ c. others FromHome c (λ (e : FromHome ≡ Own). absurd (cc))
            ∙ sym (at_start (λ (n : Node). not (is_nil n.messages)) false (λ id. refl) refl c);
        askers = λ i c lies. absurd (let none = ap length empty in omega (arith, lies, none));
      }

-- no place is noted
pub places_start : (home : List HomeBlock) (n : ℕ) → home ≡ [] → PlacesKept home (replicate n 0)
places_start home n empty =
    record {
      here = λ i lies. absurd (let none = ap length empty in omega (arith, lies, none));
      there = λ b i is. absurd (let e = sym (nothing n b) ∙ is in cc);
      block = λ b i is. absurd (let e = sym (nothing n b) ∙ is in cc);
    }
  where
    nothing : (n b : ℕ) → place_in (replicate n 0) b ≡ None
    nothing zero b = refl
    nothing (suc n) zero = refl
    nothing (suc n) (suc b) = nothing n b
