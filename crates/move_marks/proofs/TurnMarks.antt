-- The marks at the ports follow the home's turns: where exactly the acts were marked that could be made, so it is after
-- the turn at a core, once its own response, or its own request, is marked anew.
use Rattle.std.proofs.Common.{◌≡◌, ◌≢◌, ◌∙◌, ◌⊎◌, inl, inr, sym, subst, ap, ℕ, ◌<◌, ◌≤◌, Bool, true, false}
use Rattle.std.proofs.Common.{[], ◌∷◌, IsTrue, length, nat_lt}
use Rattle.std.proofs.lemmas.Bool.{cases_eq}
use Rattle.access_times.specs.Riding.{Riding, Carrying}
use Rattle.rtr_types.specs.CoreSets.{has}
use Rattle.rtr_types.specs.declared.TheConstants.{CORES_MAX}
use Rattle.msi_memory.specs.declared.turn.Turn.{Turn}
use Rattle.msi_memory.specs.Acts.{Act, TakeRequest, TakeResponse, after_act, can, port_of}
use Rattle.msi_memory.specs.Memories.{Memory, System, port_at}
use Rattle.msi_memory.specs.Rests.{requests_at}
use Rattle.msi_memory.specs.Turns.{HomeActed, HomeCanAct}
use Rattle.msi_laws.specs.Holds.{MemoryHolds}
use Rattle.msi_laws.proofs.ActsInTurn.{ports_after_acts}
use Rattle.msi_laws.proofs.Ready.{memory_ready}
use Rattle.msi_laws.proofs.Spaces.{port_links_hold}
use Rattle.move_marks.specs.declared.marks.MoveKind.{MoveKind}
use Rattle.move_marks.specs.declared.marks.MoveKind.TheVariants.{Own, Request, Response, FromHome}
use Rattle.move_marks.specs.declared.marks.MoveMarks.{MoveMarks}
use Rattle.move_marks.specs.Kinds.{set_of}
use Rattle.move_marks.specs.Ports.{MarksFollowed, PortsMarked}
use Rattle.move_marks.specs.Turns.{IsAfterTurn}
use Rattle.move_marks.proofs.AnswerMarks.{left_is, lt_of, right_of}
use Rattle.move_marks.proofs.NextMoves.{TurnFits, none_left, request_fits, request_leaves_none, response_fits}
use Rattle.move_marks.proofs.NextMoves.{response_requests, same_responses}

-- what holds at one core and at the others holds at each
pub each : (f g : ℕ → Bool) (c : ℕ) → f c ≡ g c → ((d : ℕ) → d ≢ c → f d ≡ g d) → (d : ℕ) → f d ≡ g d
each f g c this others d = by d (cases_eq d c)
  where
    by : (d : ℕ) → (d ≡ c) ⊎ (d ≡ c → ⊥) → f d ≡ g d
    by d (inl same) = subst (λ (k : ℕ). f k ≡ g k) (sym same) this
    by d (inr other) = others d other

-- but for those of this kind at core c, the marks are kept
abbrev KeptBut : MoveKind → ℕ → MoveMarks → MoveMarks → Type 0
KeptBut kind c old new =
    (k : MoveKind) (d : ℕ) → (k ≡ kind → d ≢ c) → has (set_of k new) d ≡ has (set_of k old) d

module _ {R K : Type 0} where
  -- a core has at most one request under way, for which its link has room
  pub one_request : (riding : Riding R) (carrying : Carrying K) (m : Memory R K) (c : ℕ) →
      MemoryHolds riding carrying m → c < length m.ports → length (port_at carrying m.ports c).requests.items ≤ 1
  one_request riding carrying m c holds here =
      subst (λ (k : ℕ). length (port_at carrying m.ports c).requests.items ≤ k)
      (holds.ports c here).requests_room (port_links_hold riding carrying m c holds here).requests

  -- an act changes no number of ports
  pub long_after : (riding : Riding R) (carrying : Carrying K) (m n : Memory R K) (act : Act R) →
      n ≡ after_act riding carrying m act → length n.ports ≡ length m.ports
  long_after riding carrying m n act is =
      ap (λ (x : Memory R K). length x.ports) is ∙ ports_after_acts riding carrying m (act ∷ [])

  pub few_after : {riding : Riding R} {carrying : Carrying K} {m n : Memory R K} → MemoryHolds riding carrying m →
      (act : Act R) → n ≡ after_act riding carrying m act → length n.ports ≤ CORES_MAX
  few_after {riding} {carrying} {m} {n} holds act is =
      subst (λ (k : ℕ). k ≤ CORES_MAX) (sym (long_after riding carrying m n act is)) holds.cores

  -- what an act of the home's rests on is there
  pub home_can : {riding : Riding R} {carrying : Carrying K} {m : Memory R K} → MemoryHolds riding carrying m →
      (act : Act R) → IsTrue (can riding carrying m act) → HomeCanAct riding carrying m act
  home_can {riding} {carrying} {m} holds act can_be =
      let ready = memory_ready riding carrying m holds in
      record {
        few = holds.cores;
        here = lt_of (port_of act) (length m.ports) (left_is (nat_lt (port_of act) (length m.ports)) _ can_be);
        names = ready.names;
        row = ready.rows act can_be;
        room = ready.rooms act can_be;
      }

  -- the home's turn at core c, before which exactly the acts were marked that could be made; the core's own message was
  -- marked anew before the turn was
  module _ {riding : Riding R} {carrying : Carrying K} {s t : System R K} (c : ℕ) {cores : ℕ} {turn : Turn}
      {old mid new : MoveMarks} (holds : MemoryHolds riding carrying s.memory)
      (all : PortsMarked riding carrying s.memory old) (long : cores ≡ length s.memory.ports) where
    -- the cores' own moves are marked as before
    followed : {act : Act R} {was : Bool} → HomeActed riding carrying s t act turn →
        ((d : ℕ) → has (set_of Own mid) d ≡ has (set_of Own old) d) →
        IsAfterTurn riding t.memory cores turn was mid new → PortsMarked riding carrying t.memory new →
        MarksFollowed riding carrying s t act old new
    followed acted own after marked =
        record { memory = acted.memory; rooms = acted.rooms; marked = marked; own = λ d. after.own d ∙ own d }

    -- it took the oldest request, and none of them is marked then
    pub request_followed : HomeActed riding carrying s t (TakeRequest c) turn →
        can riding carrying s.memory (TakeRequest c) ≡ true → has (set_of Request mid) c ≡ false →
        KeptBut Request c old mid → IsAfterTurn riding t.memory cores turn true mid new →
        MarksFollowed riding carrying s t (TakeRequest c) old new
    request_followed acted can_be gone kept after =
        followed acted (λ d. kept Own d (λ (e : Own ≡ Request). cc)) after (record {
          requests = each (λ d. has (set_of Request new) d) (λ d. can riding carrying t.memory (TakeRequest d)) c
              (unmarked ∙ sym (none_left riding carrying t.memory c none))
              (λ d other. fits.requests cores mid new after d (fits.others d other)
              (kept Request d (λ same. other) ∙ all.requests d));
          responses = λ d. after.responses d
              ∙ kept Response d (λ (e : Response ≡ Request). cc)
              ∙ each (λ d. has (set_of Response old) d) (λ d. can riding carrying t.memory (TakeResponse d)) c
              (all.responses c
              ∙ sym (ap (λ (x : Memory R K). can riding carrying x (TakeResponse c)) acted.memory
              ∙ same_responses riding carrying s.memory c))
              (λ d other. all.responses d ∙ fits.responses d other) d;
          messages = λ d. fits.messages cores mid new long after d
              (kept FromHome d (λ (e : FromHome ≡ Request). cc) ∙ all.messages d);
        })
      where
        here : c < length s.memory.ports
        here = lt_of c (length s.memory.ports) (left_is (nat_lt c (length s.memory.ports)) _ can_be)

        none : requests_at t.memory.ports c ≡ []
        none = ap (λ (x : Memory R K). requests_at x.ports c) acted.memory
            ∙ request_leaves_none riding carrying s.memory c here (one_request riding carrying s.memory c holds here)

        unmarked : has (set_of Request new) c ≡ false
        unmarked = rw (after.requests c, none) gone

        fits : TurnFits riding carrying s.memory t.memory c turn true
        fits = subst (λ (x : Memory R K). TurnFits riding carrying s.memory x c turn true) (sym acted.memory)
            (request_fits riding carrying s.memory c turn (right_of (nat_lt c (length s.memory.ports)) _ can_be)
            ((memory_ready riding carrying s.memory holds).rows (TakeRequest c) can_be) acted.turn)

    -- it took the oldest response, and the other responses were marked anew
    pub response_followed : HomeActed riding carrying s t (TakeResponse c) turn →
        can riding carrying s.memory (TakeResponse c) ≡ true →
        has (set_of Response mid) c ≡ can riding carrying t.memory (TakeResponse c) → KeptBut Response c old mid →
        IsAfterTurn riding t.memory cores turn false mid new →
        MarksFollowed riding carrying s t (TakeResponse c) old new
    response_followed acted can_be anew kept after =
        followed acted (λ d. kept Own d (λ (e : Own ≡ Response). cc)) after (record {
          requests = λ d. fits.requests cores mid new after d
              (ap (λ (x : Memory R K). requests_at x.ports d) acted.memory
              ∙ response_requests riding carrying s.memory c d)
              (kept Request d (λ (e : Request ≡ Response). cc) ∙ all.requests d);
          responses = λ d. after.responses d
              ∙ each (λ d. has (set_of Response mid) d) (λ d. can riding carrying t.memory (TakeResponse d)) c anew
              (λ d other. kept Response d (λ same. other) ∙ all.responses d ∙ fits.responses d other) d;
          messages = λ d. fits.messages cores mid new long after d
              (kept FromHome d (λ (e : FromHome ≡ Response). cc) ∙ all.messages d);
        })
      where
        fits : TurnFits riding carrying s.memory t.memory c turn false
        fits = subst (λ (x : Memory R K). TurnFits riding carrying s.memory x c turn false) (sym acted.memory)
            (response_fits riding carrying s.memory c turn
            ((memory_ready riding carrying s.memory holds).rows (TakeResponse c) can_be) acted.turn)
