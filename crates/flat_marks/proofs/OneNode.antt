-- One node changed alone, and its marks with it: then exactly the moves are marked that can be made.
use Rattle.std.proofs.Common.{◌≡◌, ◌≢◌, ◌∙◌, refl, sym, ap, subst, ℕ, ◌<◌, ◌==◌, Bool, List, length}
use Rattle.std.specs.Prelude.{◌&&◌, not, nat_lt, slice_set}
use Rattle.std.proofs.lemmas.Bool.{lt-ltb}
use Rattle.std.proofs.lemmas.List.{length-map, length-set, get_or-set_other, get_or-set_same}
use Rattle.link_order.specs.Queue.{is_nil}
use Rattle.rtr_types.specs.CoreSets.{has}
use Rattle.move_marks.specs.Kinds.{set_of}
use Rattle.move_marks.specs.declared.marks.MoveKind.{MoveKind}
use Rattle.move_marks.specs.declared.marks.MoveKind.TheVariants.{Own, Request, Response, FromHome}
use Rattle.move_marks.specs.declared.marks.MoveMarks.{MoveMarks}
use Rattle.move_marks.proofs.TurnMarks.{each}
use Rattle.flat_state.specs.declared.block.HomeBlock.{HomeBlock}
use Rattle.flat_state.specs.declared.flat.Flat.{Flat}
use Rattle.flat_state.specs.declared.node.Node.{Node}
use Rattle.flat_state.specs.Shows.{blocks_of, home_at, no_node, node_at}
use Rattle.flat_cores.specs.Needs.{but_words}
use Rattle.flat_laws.specs.Marks.{own_mark, request_mark}
use Rattle.flat_marks.specs.Kept.{IsMarked, is_free_held}
use Rattle.flat_marks.proofs.NodeMarks.{request_is}

-- as many entries, where each block has its entry at the same place
pub same_homes : (home home' : List HomeBlock) → blocks_of home' ≡ blocks_of home → length home' ≡ length home
same_homes home home' blocks =
    sym (length-map home' (λ (b : HomeBlock). b.block))
    ∙ (ap length blocks ∙ length-map home (λ (b : HomeBlock). b.block))

pub same_words : (home : List HomeBlock) (i : ℕ) → but_words (home_at home i) ≡ but_words (home_at home i)
same_words home i = refl

module _ (f f' : Flat) (c : ℕ) (n' : Node) (within : c < length f.nodes.items)
    (nodes : f'.nodes.items ≡ slice_set f.nodes.items c n') where
  pub here : node_at f'.nodes.items c ≡ n'
  here = ap (λ (l : List Node). node_at l c) nodes ∙ get_or-set_same f.nodes.items c n' no_node within

  pub elsewhere : (d : ℕ) → d ≢ c → node_at f'.nodes.items d ≡ node_at f.nodes.items d
  elsewhere d apart = ap (λ (l : List Node). node_at l d) nodes
      ∙ get_or-set_other f.nodes.items c d n' no_node apart

  pub long : length f'.nodes.items ≡ length f.nodes.items
  long = ap length nodes ∙ length-set f.nodes.items c n'

  pub still_there : c < length f'.nodes.items
  still_there = subst (λ (k : ℕ). c < k) (sym long) within

  module _ (marks marks' : MoveMarks) (home : (i : ℕ) → but_words (home_at f'.home.items i)
      ≡ but_words (home_at f.home.items i)) (blocks : blocks_of f'.home.items ≡ blocks_of f.home.items)
      (kept : IsMarked f marks) where
    request_same : (n : Node) → request_mark f'.home.items n ≡ request_mark f.home.items n
    request_same n =
        request_is f'.home.items n
        ∙ (ap (λ (b : HomeBlock). n.asks && is_free_held b.held) (home n.place) ∙ sym (request_is f.home.items n))

    pub one_marked : has (set_of Own marks') c ≡ own_mark n' →
        has (set_of Request marks') c ≡ request_mark f.home.items n' →
        has (set_of Response marks') c ≡ not (is_nil n'.replies) →
        has (set_of FromHome marks') c ≡ not (is_nil n'.messages) →
        ((k : MoveKind) (d : ℕ) → d ≢ c → has (set_of k marks') d ≡ has (set_of k marks) d) →
        n'.asks ≡ (node_at f.nodes.items c).asks → n'.place ≡ (node_at f.nodes.items c).place → IsMarked f' marks'
    one_marked own request response message others asks place =
        record {
          own = each (λ d. has (set_of Own marks') d)
              (λ d. nat_lt d (length f'.nodes.items) && own_mark (node_at f'.nodes.items d)) c
              (own ∙ (ap own_mark (sym here) ∙ ap (λ (t : Bool). t && own_mark (node_at f'.nodes.items c))
              (sym (lt-ltb c (length f'.nodes.items) still_there))))
              (λ d apart. others Own d apart ∙ (kept.own d
              ∙ (ap (λ (k : ℕ). nat_lt d k && own_mark (node_at f.nodes.items d)) (sym long)
              ∙ ap (λ (n : Node). nat_lt d (length f'.nodes.items) && own_mark n) (sym (elsewhere d apart)))));
          requests = each (λ d. has (set_of Request marks') d)
              (λ d. request_mark f'.home.items (node_at f'.nodes.items d)) c
              (request ∙ (sym (request_same n') ∙ ap (request_mark f'.home.items) (sym here)))
              (λ d apart. others Request d apart ∙ (kept.requests d
              ∙ (sym (request_same (node_at f.nodes.items d))
              ∙ ap (request_mark f'.home.items) (sym (elsewhere d apart)))));
          responses = each (λ d. has (set_of Response marks') d)
              (λ d. not (is_nil (node_at f'.nodes.items d).replies)) c
              (response ∙ ap (λ (n : Node). not (is_nil n.replies)) (sym here))
              (λ d apart. others Response d apart ∙ (kept.responses d
              ∙ ap (λ (n : Node). not (is_nil n.replies)) (sym (elsewhere d apart))));
          messages = each (λ d. has (set_of FromHome marks') d)
              (λ d. not (is_nil (node_at f'.nodes.items d).messages)) c
              (message ∙ ap (λ (n : Node). not (is_nil n.messages)) (sym here))
              (λ d apart. others FromHome d apart ∙ (kept.messages d
              ∙ ap (λ (n : Node). not (is_nil n.messages)) (sym (elsewhere d apart))));
          askers = λ i d lies. ap (λ (b : HomeBlock). has b.askers d) (home i)
              ∙ (kept.askers i d (subst (λ (k : ℕ). i < k) (same_homes f.home.items f'.home.items blocks) lies)
              ∙ sym (asking i d));
        }
      where
        asking : (i d : ℕ) → ((node_at f'.nodes.items d).asks && ((node_at f'.nodes.items d).place == i))
            ≡ ((node_at f.nodes.items d).asks && ((node_at f.nodes.items d).place == i))
        asking i = each (λ d. (node_at f'.nodes.items d).asks && ((node_at f'.nodes.items d).place == i))
            (λ d. (node_at f.nodes.items d).asks && ((node_at f.nodes.items d).place == i)) c
            (ap (λ (n : Node). n.asks && (n.place == i)) here
            ∙ (ap (λ (t : Bool). t && (n'.place == i)) asks
            ∙ ap (λ (p : ℕ). (node_at f.nodes.items c).asks && (p == i)) place))
            (λ d apart. ap (λ (n : Node). n.asks && (n.place == i)) (elsewhere d apart))
