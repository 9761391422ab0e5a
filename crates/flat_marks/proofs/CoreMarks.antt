-- The marks after a core retired an instruction, or took a message.
use Rattle.std.proofs.Common.{◌≡◌, ◌≢◌, ◌∙◌, refl, sym, ap, ℕ, ◌<◌, ◌%◌, Bool, true, false, List, [], ◌∷◌, length}
use Rattle.std.proofs.Common.{Some}
use Rattle.std.specs.Prelude.{◌&&◌, not, slice_set}
use Rattle.link_order.specs.Queue.{is_nil}
use Rattle.rtr_types.proofs.Lists.{some_same}
use Rattle.rtr_types.specs.CoreSets.{has}
use Rattle.rtr_types.specs.declared.TheConstants.{LINES}
use Rattle.rv_core.specs.Steps.{is_done}
use Rattle.rv_core.specs.declared.core_state.Need.{Need}
use Rattle.move_marks.specs.Kinds.{set_of}
use Rattle.move_marks.specs.declared.marks.MoveKind.{MoveKind}
use Rattle.move_marks.specs.declared.marks.MoveKind.TheVariants.{Own, Request, Response, FromHome}
use Rattle.move_marks.specs.declared.marks.MoveMarks.{MoveMarks}
use Rattle.move_marks.proofs.AnswerMarks.{below_is}
use Rattle.msi_state.specs.States.{PlainState}
use Rattle.flat_state.specs.declared.block.HomeBlock.{HomeBlock}
use Rattle.flat_state.specs.declared.flat.Flat.{Flat}
use Rattle.flat_state.specs.declared.message_ring.Message.{Message}
use Rattle.flat_state.specs.declared.message_ring.Told.{Told}
use Rattle.flat_state.specs.declared.message_ring.Told.TheVariants.{Data, Ack, Inv, FwdS, FwdM}
use Rattle.flat_state.specs.declared.node.Node.{Node}
use Rattle.flat_state.specs.Shows.{Stands, blocks_of, home_at, node_at}
use Rattle.flat_cores.specs.Needs.{but_words, node_retired_at}
use Rattle.flat_messages.specs.Heard.{hearing, is_data, node_filled, node_heard, node_hearing, told_next}
use Rattle.flat_laws.specs.Marks.{node_waits, own_mark, request_mark}
use Rattle.flat_marks.specs.Kept.{IsMarked}
use Rattle.flat_marks.proofs.OneNode.{here, one_marked}
use Rattle.flat_marks.proofs.NodeMarks.{and_true, own_still}
use Rattle.flat_marks.proofs.Waiting.{ends, waits_ended, waits_on}

-- a core that doesn't wait moves if its program isn't done
still_mark : (n : Node) → node_waits n ≡ false → own_mark n ≡ not (is_done n.need)
still_mark n still = ap (λ (t : Bool). not (is_done n.need) && not t) still ∙ and_true (not (is_done n.need))

-- ---- a retirement

pub retired_marked : (f f' : Flat) (marks marks' : MoveMarks) (c before : ℕ) (within : c < length f.nodes.items) →
    IsMarked f marks → has (set_of Own marks) c ≡ true →
    f'.nodes.items ≡ slice_set f.nodes.items c (node_retired_at f c before) →
    ((i : ℕ) → but_words (home_at f'.home.items i) ≡ but_words (home_at f.home.items i)) →
    blocks_of f'.home.items ≡ blocks_of f.home.items →
    has (set_of Own marks') c ≡ not (is_done (node_at f'.nodes.items c).need) →
    ((k : MoveKind) (d : ℕ) → (k ≡ Own → d ≢ c) → has (set_of k marks') d ≡ has (set_of k marks) d) →
    IsMarked f' marks'
retired_marked f f' marks marks' c before within kept can nodes home blocks own others =
    one_marked f f' c (node_retired_at f c before) within nodes marks marks' home blocks kept
    (own ∙ (ap (λ (n : Node). not (is_done n.need)) (here f f' c (node_retired_at f c before) within nodes)
    ∙ sym (still_mark (node_retired_at f c before) (own_still f marks c kept can))))
    (others Request c (λ (e : Request ≡ Own). absurd (cc)) ∙ kept.requests c)
    (others Response c (λ (e : Response ≡ Own). absurd (cc)) ∙ kept.responses c)
    (others FromHome c (λ (e : FromHome ≡ Own). absurd (cc)) ∙ kept.messages c)
    (λ k d apart. others k d (λ e. apart)) refl refl

-- ---- a message

-- without data, and if it isn't an acknowledgement, it ends nothing
pub word_ends : (told : Told) → is_data told ≡ false → told ≢ Ack → ends told ≡ false
word_ends Data word other = absurd (cc)
word_ends Ack word other = absurd (other refl)
word_ends Inv word other = refl
word_ends FwdS word other = refl
word_ends FwdM word other = refl

-- the oldest message, which tells this
record Oldest (home : List HomeBlock) (n : Node) (messages : List Message) (told : Told) : Type 0 where
  m : Message
  later : List Message
  are : messages ≡ m ∷ later
  tells : m.told ≡ told
  heard_is : hearing home n messages ≡ node_heard n ((home_at home m.place).block % LINES) m later

oldest_told : (home : List HomeBlock) (n : Node) (messages : List Message) (told : Told) →
    told_next messages ≡ Some told → Oldest home n messages told
oldest_told home n [] told next = absurd (cc)
oldest_told home n (m ∷ later) told next =
    record { m = m; later = later; are = refl; tells = some_same _ _ next; heard_is = refl }

module _ (f : Flat) (s : PlainState) (memory : ℕ → List ℕ) (c : ℕ) (told : Told) (within : c < length f.nodes.items)
    (next : told_next (node_at f.nodes.items c).messages ≡ Some told) (stands : Stands f s memory) where
  abbrev n : Node
  n = node_at f.nodes.items c

  first : Oldest f.home.items n n.messages told
  first = oldest_told f.home.items n n.messages told next

  -- what stays of a node that took a message
  asks_same : (node_hearing f c).asks ≡ n.asks
  asks_same = ap (λ (x : Node). x.asks) first.heard_is

  place_same : (node_hearing f c).place ≡ n.place
  place_same = ap (λ (x : Node). x.place) first.heard_is

  need_same : (node_hearing f c).need ≡ n.need
  need_same = ap (λ (x : Node). x.need) first.heard_is

  requests_same : request_mark f.home.items (node_hearing f c) ≡ request_mark f.home.items n
  requests_same = ap (request_mark f.home.items) first.heard_is

  still_now : ends told ≡ true → node_waits (node_hearing f c) ≡ false
  still_now e = ap node_waits first.heard_is
      ∙ waits_ended f s memory c first.m first.later within first.are stands (ap ends first.tells ∙ e)

  waits_now : ends told ≡ false → node_waits (node_hearing f c) ≡ node_waits n
  waits_now e = ap node_waits first.heard_is
      ∙ waits_on f s memory c first.m first.later within first.are stands (ap ends first.tells ∙ e)

  module _ (f' : Flat) (marks marks' : MoveMarks) (kept : IsMarked f marks)
      (blocks : blocks_of f'.home.items ≡ blocks_of f.home.items)
      (home : (i : ℕ) → but_words (home_at f'.home.items i) ≡ but_words (home_at f.home.items i))
      (response : has (set_of Response marks') c ≡ not (is_nil (node_at f'.nodes.items c).replies))
      (message : has (set_of FromHome marks') c ≡ not (is_nil (node_at f'.nodes.items c).messages))
      (request : has (set_of Request marks') c ≡ has (set_of Request marks) c)
      (others : (k : MoveKind) (d : ℕ) → d ≢ c → has (set_of k marks') d ≡ has (set_of k marks) d) where
    -- it waits as before
    pub word_marked : f'.nodes.items ≡ slice_set f.nodes.items c (node_hearing f c) → ends told ≡ false →
        has (set_of Own marks') c ≡ has (set_of Own marks) c → IsMarked f' marks'
    word_marked nodes e own =
        let now = here f f' c (node_hearing f c) within nodes in
        one_marked f f' c (node_hearing f c) within nodes marks marks' home blocks kept
        (own ∙ (kept.own c ∙ (ap (λ (t : Bool). t && own_mark n) (below_is c (length f.nodes.items) within)
        ∙ (ap (λ (t : Bool). not (is_done n.need) && not t) (sym (waits_now e))
        ∙ ap (λ (x : Need). not (is_done x) && not (node_waits (node_hearing f c))) (sym need_same)))))
        (request ∙ (kept.requests c ∙ sym requests_same))
        (response ∙ ap (λ (x : Node). not (is_nil x.replies)) now)
        (message ∙ ap (λ (x : Node). not (is_nil x.messages)) now) others asks_same place_same

    -- it waits no more
    pub ack_marked : f'.nodes.items ≡ slice_set f.nodes.items c (node_hearing f c) → ends told ≡ true →
        has (set_of Own marks') c ≡ not (is_done (node_at f'.nodes.items c).need) → IsMarked f' marks'
    ack_marked nodes e own =
        let now = here f f' c (node_hearing f c) within nodes in
        one_marked f f' c (node_hearing f c) within nodes marks marks' home blocks kept
        (own ∙ (ap (λ (x : Node). not (is_done x.need)) now ∙ sym (still_mark (node_hearing f c) (still_now e))))
        (request ∙ (kept.requests c ∙ sym requests_same))
        (response ∙ ap (λ (x : Node). not (is_nil x.replies)) now)
        (message ∙ ap (λ (x : Node). not (is_nil x.messages)) now) others asks_same place_same

    -- and its instruction retired
    pub data_marked : (before : ℕ) → f'.nodes.items ≡ slice_set f.nodes.items c (node_filled f c before) →
        ends told ≡ true → has (set_of Own marks') c ≡ not (is_done (node_at f'.nodes.items c).need) →
        IsMarked f' marks'
    data_marked before nodes e own =
        let now = here f f' c (node_filled f c before) within nodes in
        one_marked f f' c (node_filled f c before) within nodes marks marks' home blocks kept
        (own ∙ (ap (λ (x : Node). not (is_done x.need)) now ∙ sym (still_mark (node_filled f c before) (still_now e))))
        (request ∙ (kept.requests c ∙ sym requests_same))
        (response ∙ ap (λ (x : Node). not (is_nil x.replies)) now)
        (message ∙ ap (λ (x : Node). not (is_nil x.messages)) now) others asks_same place_same
