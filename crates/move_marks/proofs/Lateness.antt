-- The late core's oldest request: once it is marked where the home can take it, nothing is left open.
use Rattle.std.proofs.Common.{◌≡◌, ◌≢◌, ◌∙◌, ap, sym, subst, ℕ, ◌<◌, ◌≤◌, Bool, true, List, length}
use Rattle.access_times.specs.Riding.{Riding, Carrying}
use Rattle.rtr_types.specs.CoreSets.{has}
use Rattle.msi_cache.specs.declared.messages.Request.{Request}
use Rattle.msi_memory.specs.declared.port.Mail.{Mail}
use Rattle.msi_memory.specs.declared.port.Port.{Port}
use Rattle.msi_memory.specs.Acts.{TakeRequest, can, head_free}
use Rattle.msi_memory.specs.Memories.{Memory}
use Rattle.msi_memory.specs.Rests.{OthersRoomy, are_heads_roomy, requests_at}
use Rattle.msi_memory.proofs.Roomy.{none_made, past_ports}
use Rattle.move_marks.specs.declared.marks.MoveKind.{MoveKind}
use Rattle.move_marks.specs.declared.marks.MoveKind.TheVariants.{Request as RequestKind}
use Rattle.move_marks.specs.declared.marks.MoveKind.TheVariants.{Response as ResponseKind, FromHome as MessageKind}
use Rattle.move_marks.specs.declared.marks.MoveMarks.{MoveMarks}
use Rattle.move_marks.specs.Kinds.{set_of}
use Rattle.move_marks.specs.Ports.{PortsMarked, PortsMarkedBut, PortsNoted}
use Rattle.move_marks.proofs.Acts.{can_here, can_past, requests_within}
use Rattle.move_marks.proofs.TurnMarks.{each}

module _ {R K : Type 0} where
  -- the late request is marked as it can be taken
  pub late_marked : (riding : Riding R) (carrying : Carrying K) (m : Memory R K) (marks : MoveMarks) (late : ℕ) →
      PortsMarkedBut riding carrying m marks late →
      has (set_of RequestKind marks) late ≡ can riding carrying m (TakeRequest late) →
      PortsMarked riding carrying m marks
  late_marked riding carrying m marks late but this =
      record {
        requests = each (λ d. has (set_of RequestKind marks) d) (λ d. can riding carrying m (TakeRequest d)) late this
            but.requests;
        responses = but.responses;
        messages = but.messages;
      }

  -- it is marked anew
  pub late_found : (riding : Riding R) (carrying : Carrying K) (m : Memory R K) (old new : MoveMarks) (late : ℕ) →
      PortsMarkedBut riding carrying m old late →
      has (set_of RequestKind new) late ≡ can riding carrying m (TakeRequest late) →
      ((k : MoveKind) (d : ℕ) → (k ≡ RequestKind → d ≢ late) → has (set_of k new) d ≡ has (set_of k old) d) →
      PortsMarked riding carrying m new
  late_found riding carrying m old new late but this kept =
      late_marked riding carrying m new late
      (record {
        requests = λ d other. kept RequestKind d (λ same. other) ∙ but.requests d other;
        responses = λ d. kept ResponseKind d (λ (e : ResponseKind ≡ RequestKind). cc) ∙ but.responses d;
        messages = λ d. kept MessageKind d (λ (e : MessageKind ≡ RequestKind). cc) ∙ but.messages d;
      })
      this

  -- a core that isn't there has no request
  pub none_late : (riding : Riding R) (carrying : Carrying K) (m : Memory R K) (rooms : List Bool) (cores : ℕ)
      (marks : MoveMarks) (late : ℕ) → PortsNoted riding carrying m rooms cores marks late → cores ≤ late →
      PortsMarked riding carrying m marks
  none_late riding carrying m rooms cores marks late noted out =
      let past : length m.ports ≤ late = subst (λ (n : ℕ). n ≤ late) noted.long out in
      late_marked riding carrying m marks late noted.marked
      (noted.past past ∙ sym (can_past riding carrying m (TakeRequest late) past))

  -- then no core is late, whichever is named
  pub all_but : (riding : Riding R) (carrying : Carrying K) (m : Memory R K) (marks : MoveMarks) (late : ℕ) →
      PortsMarked riding carrying m marks → PortsMarkedBut riding carrying m marks late
  all_but riding carrying m marks late all =
      record { requests = λ d other. all.requests d; responses = all.responses; messages = all.messages }

  pub all_noted : (riding : Riding R) (carrying : Carrying K) (m : Memory R K) (rooms : List Bool) (cores : ℕ)
      (marks : MoveMarks) (late : ℕ) → PortsMarked riding carrying m marks → cores ≡ length m.ports →
      OthersRoomy m.ports late rooms → PortsNoted riding carrying m rooms cores marks late
  all_noted riding carrying m rooms cores marks late all long roomy =
      record {
        long = long;
        marked = all_but riding carrying m marks late all;
        past = λ out. all.requests late ∙ can_past riding carrying m (TakeRequest late) out;
        roomy = roomy;
      }

  -- the home can take the core's oldest request exactly where that one's block is free
  pub head_can : (riding : Riding R) (carrying : Carrying K) (m : Memory R K) (c : ℕ) → c < length m.ports →
      head_free (requests_at m.ports c) riding m.home ≡ can riding carrying m (TakeRequest c)
  head_can riding carrying m c within =
      ap (λ (xs : List (Mail (Request R) K)). head_free xs riding m.home) (requests_within carrying m.ports c within)
      ∙ sym (can_here riding carrying m (TakeRequest c) within)

  -- each head's block has room where each but that of a core that isn't there has
  pub all_past : (ports : List (Port R K)) (core : ℕ) (rooms : List Bool) → OthersRoomy ports core rooms →
      length ports ≤ core →
      are_heads_roomy ports rooms ≡ true
  all_past ports core rooms others past = (none_made ports core rooms others (past_ports ports core past)).all
