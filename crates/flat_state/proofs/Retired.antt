-- An instruction that retires at a port is seen of no line and no link: its node is the one with the core renewed.
use Rattle.std.proofs.Common.{◌≡◌, ◌∙◌, refl, sym, ap, subst, ℕ, ◌/◌, ◌%◌, Bool, true, false, List, map}
use Rattle.std.specs.Prelude.{if◌then◌else◌}
use Rattle.std.proofs.Math.Seq.{map-set_same}
use Rattle.access_times.specs.Riding.{Riding, Carrying}
use Rattle.image_mem.specs.Contents.{Contents}
use Rattle.rtr_types.specs.Accesses.{is_write}
use Rattle.rtr_types.specs.declared.TheConstants.{BLOCK_WORDS, LINES}
use Rattle.rtr_types.specs.declared.access.Kind.{Kind}
use Rattle.rv_core.specs.Steps.{after, need}
use Rattle.rv_core.specs.declared.core_state.Core.{Core}
use Rattle.link_order.specs.Queue.{Queue}
use Rattle.msi_cache.specs.Lines.{empty_line, lines_put, lines_riding}
use Rattle.msi_cache.specs.declared.line.Line.{Line}
use Rattle.msi_cache.specs.declared.messages.FromHome.{FromHome}
use Rattle.msi_cache.specs.declared.messages.Request.{Request}
use Rattle.msi_cache.specs.declared.messages.Response.{Response}
use Rattle.msi_memory.specs.Acts.{lines_touched}
use Rattle.msi_memory.specs.declared.port.Mail.{Mail}
use Rattle.msi_memory.specs.declared.port.Port.{Port}
use Rattle.msi_state.specs.Events.{Accesses, Event, Nothing, Retires}
use Rattle.machine_invariant.proofs.StepFrame.{port_told}
use Rattle.flat_state.specs.declared.node.Node.{Node}
use Rattle.flat_state.specs.Shows.{NodeShows, node_after, seen_line, seen_message, seen_reply, seen_request}

module _ {R : Type 0} where
  -- an access changes no line's state or block
  put_unseen : (fresh : R) (lines : List (Line R)) (block slot value : ℕ) →
      map seen_line (lines_put fresh lines block slot value) ≡ map seen_line lines
  put_unseen fresh lines block slot value = map-set_same seen_line lines (block % LINES) _ (empty_line fresh) refl

  riding_unseen : (fresh : R) (lines : List (Line R)) (block : ℕ) (rider : R) →
      map seen_line (lines_riding fresh lines block rider) ≡ map seen_line lines
  riding_unseen fresh lines block rider = map-set_same seen_line lines (block % LINES) _ (empty_line fresh) refl

  touch_unseen : (fresh : R) (lines : List (Line R)) (block slot : ℕ) (kind : Kind) (value : ℕ) →
      map seen_line (lines_touched fresh lines block slot kind value) ≡ map seen_line lines
  touch_unseen fresh lines block slot kind value = by (is_write kind)
    where
      by : (t : Bool) → map seen_line (if t then lines_put fresh lines block slot value else lines)
          ≡ map seen_line lines
      by true = put_unseen fresh lines block slot value
      by false = refl

module _ {R K : Type 0} (riding : Riding R) (carrying : Carrying K) (rider : R) where
  told_lines : (e : Event) (p : Port R K) →
      map seen_line (port_told riding carrying rider e p).cache ≡ map seen_line p.cache
  told_lines Nothing p = refl
  told_lines (Retires at) p = refl
  told_lines (Accesses a) p =
      let block = a.word / BLOCK_WORDS in
      let lines = lines_touched riding.fresh p.cache block (a.word % BLOCK_WORDS) a.kind a.after in
      riding_unseen riding.fresh lines block rider
      ∙ touch_unseen riding.fresh p.cache block (a.word % BLOCK_WORDS) a.kind a.after

  told_requests : (e : Event) (p : Port R K) → (port_told riding carrying rider e p).requests ≡ p.requests
  told_requests Nothing p = refl
  told_requests (Retires at) p = refl
  told_requests (Accesses a) p = refl

  told_responses : (e : Event) (p : Port R K) → (port_told riding carrying rider e p).responses ≡ p.responses
  told_responses Nothing p = refl
  told_responses (Retires at) p = refl
  told_responses (Accesses a) p = refl

  told_messages : (e : Event) (p : Port R K) → (port_told riding carrying rider e p).messages ≡ p.messages
  told_messages Nothing p = refl
  told_messages (Retires at) p = refl
  told_messages (Accesses a) p = refl

  -- the node with the core renewed shows the port once the instruction was told there
  pub node_retired : (image : Contents) (blocks : List ℕ) (n n' : Node) (core : Core) (before : ℕ) (e : Event)
      (p : Port R K) → n' ≡ node_after image n core before → NodeShows image blocks n core p →
      NodeShows image blocks n' (after image core before) (port_told riding carrying rider e p)
  node_retired image blocks n n' core before e p is shows =
      subst (λ (x : Node). NodeShows image blocks x (after image core before) (port_told riding carrying rider e p))
      (sym is) (record {
        core_is = refl;
        need = refl;
        op = refl;
        lines = shows.lines ∙ sym (told_lines e p);
        requests = shows.requests
            ∙ ap (λ (q : Queue (Mail (Request R) K)). map seen_request q.items) (sym (told_requests e p));
        replies = shows.replies
            ∙ ap (λ (q : Queue (Mail (Response R) K)). map seen_reply q.items) (sym (told_responses e p));
        messages = shows.messages
            ∙ ap (λ (q : Queue (Mail (FromHome R) K)). map seen_message q.items) (sym (told_messages e p));
        placed = shows.placed;
        asked = shows.asked;
        replied = shows.replied;
        told = shows.told;
      })
