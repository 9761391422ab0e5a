-- What a mark looks at: where it is set there is a core, whose move can be made.
use Rattle.std.proofs.Common.{◌≡◌, ◌≢◌, ◌∙◌, ◌⊎◌, inl, inr, refl, sym, ap, ℕ, ◌<◌, ◌≤◌, ◌==◌, Bool, true, false, List, length, arith}
use Rattle.std.specs.Prelude.{◌&&◌, not, nat_lt}
use Rattle.std.proofs.lemmas.Bool.{and_parts, cases_eq, cases_lt, ltb-true, not-true}
use Rattle.std.proofs.lemmas.List.{get_or_past}
use Rattle.access_times.specs.Riding.{none_riding, none_carrying}
use Rattle.link_order.specs.Queue.{is_nil}
use Rattle.rtr_types.proofs.Members.{has-no_cores, has-with_other, has-with_same}
use Rattle.rtr_types.specs.CoreSets.{has, no_cores, with_core}
use Rattle.rtr_types.specs.declared.core_set.CoreSet.{CoreSet}
use Rattle.rtr_types.specs.declared.TheConstants.{CORES_MAX}
use Rattle.rv_core.specs.Steps.{is_done}
use Rattle.msi_directory.specs.Table.{is_free}
use Rattle.move_marks.specs.Kinds.{set_of}
use Rattle.move_marks.specs.declared.marks.MoveKind.TheVariants.{Own, Request, Response, FromHome}
use Rattle.move_marks.specs.declared.marks.MoveMarks.{MoveMarks}
use Rattle.move_marks.proofs.AnswerMarks.{below_is, eq_is, ne_is}
use Rattle.msi_state.specs.States.{PlainState}
use Rattle.msi_state.specs.Steps.{enabled}
use Rattle.msi_state.specs.declared.moves.Move.TheVariants.{Core as CoreMove}
use Rattle.flat_state.specs.declared.block.Held.{Held}
use Rattle.flat_state.specs.declared.block.Held.TheVariants.{Unshared, Shared, Owned, Acks, ToShare, ToOwn}
use Rattle.flat_state.specs.declared.block.HomeBlock.{HomeBlock}
use Rattle.flat_state.specs.declared.flat.Flat.{Flat}
use Rattle.flat_state.specs.declared.node.Node.{Node}
use Rattle.flat_state.specs.Shows.{Stands, held_as, home_at, no_node, node_at}
use Rattle.flat_laws.specs.Marks.{node_waits, own_mark, request_mark}
use Rattle.flat_laws.proofs.MarkedMoves.{own_marked}
use Rattle.flat_marks.specs.Kept.{IsMarked, is_free_held}

pub and_true : (t : Bool) → (t && true) ≡ t
and_true true = refl
and_true false = refl

pub and_false : (t : Bool) → (t && false) ≡ false
and_false true = refl
and_false false = refl

-- a block can be asked for by how it is held
pub free_is : (h : Held) (b : HomeBlock) → is_free (held_as h b) ≡ is_free_held h
free_is Unshared b = refl
free_is Shared b = refl
free_is Owned b = refl
free_is Acks b = refl
free_is ToShare b = refl
free_is ToOwn b = refl

pub request_is : (home : List HomeBlock) (n : Node) →
    request_mark home n ≡ (n.asks && is_free_held (home_at home n.place).held)
request_is home n =
    ap (λ (t : Bool). n.asks && t) (free_is (home_at home n.place).held (home_at home n.place))

-- what no core has, where it is there, there is a core
pub there_by : (g : Node → Bool) (nodes : List Node) (c : ℕ) → g no_node ≡ false → g (node_at nodes c) ≡ true →
    c < length nodes
there_by g nodes c none some = by (cases_lt c (length nodes))
  where
    by : (c < length nodes) ⊎ (length nodes ≤ c) → c < length nodes
    by (inl within) = within
    by (inr past) =
        let e : false ≡ true = sym none ∙ (ap g (sym (get_or_past nodes c no_node past)) ∙ some) in
        absurd (cc)

-- a set of one core, of the first so many
pub only_core : (set : CoreSet) (to cores : ℕ) → set ≡ with_core no_cores to → to < cores → cores ≤ CORES_MAX →
    (k : ℕ) → has set k ≡ ((k == to) && nat_lt k cores)
only_core set to cores is there few k = ap (λ (s : CoreSet). has s k) is ∙ by (cases_eq k to)
  where
    below : to < CORES_MAX
    below = omega (arith, there, few)

    by : (k ≡ to) ⊎ (k ≢ to) → has (with_core no_cores to) k ≡ ((k == to) && nat_lt k cores)
    by (inl same) =
        ap (has (with_core no_cores to)) same
        ∙ (has-with_same no_cores to below ∙ sym (ap (λ (t : Bool). t && nat_lt k cores) (eq_is k to same)
        ∙ (ap (λ (c : ℕ). nat_lt c cores) same ∙ below_is to cores there)))
    by (inr apart) =
        has-with_other no_cores to k below apart
        ∙ (has-no_cores k ∙ sym (ap (λ (t : Bool). t && nat_lt k cores) (ne_is k to apart)))

pub core_few : (f : Flat) (s : PlainState) (memory : ℕ → List ℕ) (c : ℕ) → Stands f s memory →
    c < length f.nodes.items → c < CORES_MAX
core_few f s memory c stands within =
    let few : length s.memory.ports ≤ 16 = stands.holds.memory.cores in
    let long : length f.nodes.items ≡ length s.memory.ports = stands.shows.long ∙ sym stands.holds.ports_there in
    omega (arith, few, long, within)

pub cores_few : (f : Flat) (s : PlainState) (memory : ℕ → List ℕ) → Stands f s memory →
    length f.nodes.items ≤ CORES_MAX
cores_few f s memory stands =
    let few : length s.memory.ports ≤ 16 = stands.holds.memory.cores in
    let long : length f.nodes.items ≡ length s.memory.ports = stands.shows.long ∙ sym stands.holds.ports_there in
    omega (arith, few, long)

module _ (f : Flat) (marks : MoveMarks) (c : ℕ) (kept : IsMarked f marks)
    (can : has (set_of Own marks) c ≡ true) where
  both : (nat_lt c (length f.nodes.items) && own_mark (node_at f.nodes.items c)) ≡ true
  both = sym (kept.own c) ∙ can

  pub own_there : c < length f.nodes.items
  own_there = ltb-true c (length f.nodes.items)
      (and_parts (nat_lt c (length f.nodes.items)) (own_mark (node_at f.nodes.items c)) both).0

  own_can : own_mark (node_at f.nodes.items c) ≡ true
  own_can = (and_parts (nat_lt c (length f.nodes.items)) (own_mark (node_at f.nodes.items c)) both).1

  -- no line of its waits
  pub own_still : node_waits (node_at f.nodes.items c) ≡ false
  own_still = not-true (node_waits (node_at f.nodes.items c))
      (and_parts (not (is_done (node_at f.nodes.items c).need)) (not (node_waits (node_at f.nodes.items c))) own_can).1

  pub own_goes : is_done (node_at f.nodes.items c).need ≡ false
  own_goes = not-true (is_done (node_at f.nodes.items c).need)
      (and_parts (not (is_done (node_at f.nodes.items c).need)) (not (node_waits (node_at f.nodes.items c))) own_can).0

  pub own_on : (s : PlainState) (memory : ℕ → List ℕ) → Stands f s memory →
      enabled none_riding none_carrying s (CoreMove c) ≡ true
  own_on s memory stands = own_marked f s memory c stands own_there ∙ own_can

pub response_some : (f : Flat) (marks : MoveMarks) (c : ℕ) → IsMarked f marks →
    has (set_of Response marks) c ≡ true → is_nil (node_at f.nodes.items c).replies ≡ false
response_some f marks c kept can = not-true (is_nil (node_at f.nodes.items c).replies) (sym (kept.responses c) ∙ can)

pub response_there : (f : Flat) (marks : MoveMarks) (c : ℕ) → IsMarked f marks →
    has (set_of Response marks) c ≡ true → c < length f.nodes.items
response_there f marks c kept can =
    there_by (λ (n : Node). not (is_nil n.replies)) f.nodes.items c refl (sym (kept.responses c) ∙ can)

pub message_there : (f : Flat) (marks : MoveMarks) (c : ℕ) → IsMarked f marks →
    has (set_of FromHome marks) c ≡ true → c < length f.nodes.items
message_there f marks c kept can =
    there_by (λ (n : Node). not (is_nil n.messages)) f.nodes.items c refl (sym (kept.messages c) ∙ can)

module _ (f : Flat) (marks : MoveMarks) (c : ℕ) (kept : IsMarked f marks)
    (can : has (set_of Request marks) c ≡ true) where
  abbrev place : ℕ
  place = (node_at f.nodes.items c).place

  parts : ((node_at f.nodes.items c).asks ≡ true)
      × (is_free (held_as (home_at f.home.items place).held (home_at f.home.items place)) ≡ true)
  parts = and_parts (node_at f.nodes.items c).asks
      (is_free (held_as (home_at f.home.items place).held (home_at f.home.items place))) (sym (kept.requests c) ∙ can)

  pub request_asks : (node_at f.nodes.items c).asks ≡ true
  request_asks = parts.0

  pub request_free : is_free (held_as (home_at f.home.items (node_at f.nodes.items c).place).held
      (home_at f.home.items (node_at f.nodes.items c).place)) ≡ true
  request_free = parts.1

  pub request_there : c < length f.nodes.items
  request_there = there_by (λ (n : Node). n.asks) f.nodes.items c refl request_asks
