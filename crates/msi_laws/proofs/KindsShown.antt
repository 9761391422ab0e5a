-- The kinds of what a block shows: the block as the protocol has it.
use Rattle.std.proofs.Common.{◌≡◌, ◌∙◌, ap, refl, sym, subst, ℕ, ◌==◌, Bool, true, false, List, [], ◌∷◌, map}
use Rattle.std.specs.Prelude.{if◌then◌else◌}
use Rattle.access_times.specs.Riding.{Riding, Carrying}
use Rattle.msi_cache.specs.declared.line.Line.{Line}
use Rattle.msi_cache.specs.declared.line.State.TheVariants.{I}
use Rattle.msi_cache.specs.Table.{Signal, Ask, Reply}
use Rattle.msi_cache.specs.Lines.{line_for}
use Rattle.msi_cache.specs.Messages.{signal, ask_of, reply_of, block_of, request_block, response_block}
use Rattle.msi_directory.specs.declared.entry.Entry.{Entry}
use Rattle.msi_directory.specs.declared.entry.Stage.{Stage}
use Rattle.msi_directory.specs.Blocks.{entry_at}
use Rattle.msi_protocol.specs.Block.{View}
use Rattle.msi_protocol.specs.Phases.{picture, Stands, StageFits, BlockHolds}
use Rattle.msi_memory.specs.declared.port.Mail.{Mail}
use Rattle.msi_laws.specs.Sights.{line_state, asks_of, replies_of, signals_of, cons_if}
use Rattle.msi_laws.specs.Links.{of_block, line_here, line_if}
use Rattle.msi_protocol.specs.Seats.{Seat, FullBlock}
use Rattle.msi_protocol.specs.Shown.{Payload, Sight, shown, ask_with, reply_with, signal_with}
use Rattle.msi_memory.specs.declared.port.Port.{Port}
use Rattle.msi_memory.specs.Memories.{Memory, port_at}
use Rattle.msi_laws.specs.Holds.{Anything, MemoryHolds, port_view, block_in}
use Rattle.msi_laws.specs.Links.{AllShow, port_sight}

-- a map that another undoes, item by item
undone : {A B : Type 0} (f : B → A) (g : A → B) → ((a : A) → f (g a) ≡ a) → (q : List A) → map f (map g q) ≡ q
undone f g each [] = refl
undone f g each (a ∷ q) = rw (each a, undone f g each q) refl

module _ {R : Type 0} where
  -- the kinds of what is seen
  abbrev pub kinds : Sight R → View
  kinds v = record {
    line = v.line.state;
    requests = map ask_of v.requests;
    responses = map reply_of v.responses;
    messages = map signal v.messages;
  }

  asked_kind : (b : ℕ) (x : Payload R) (a : Ask) → ask_of (ask_with b x a) ≡ a
  asked_kind b x Ask.GetS = refl
  asked_kind b x Ask.GetM = refl
  asked_kind b x Ask.PutS = refl
  asked_kind b x Ask.PutM = refl

  replied_kind : (b : ℕ) (x : Payload R) (a : Reply) → reply_of (reply_with b x a) ≡ a
  replied_kind b x Reply.InvAck = refl
  replied_kind b x Reply.OwnerData = refl

  sent_kind : (b : ℕ) (x : Payload R) (a : Signal) → signal (signal_with b x a) ≡ a
  sent_kind b x Signal.FwdGetS = refl
  sent_kind b x Signal.FwdGetM = refl
  sent_kind b x Signal.Inv = refl
  sent_kind b x Signal.PutAck = refl
  sent_kind b x Signal.BlockData = refl

  pub shown_kinds : (b : ℕ) (s : Seat (Payload R)) → picture s.phase ≡ kinds (shown b s)
  shown_kinds b s = rw (
    undone ask_of (ask_with b s.put) (asked_kind b s.put) (picture s.phase).requests,
    undone reply_of (reply_with b s.reply) (replied_kind b s.reply) (picture s.phase).responses,
    undone signal (signal_with b s.sent) (sent_kind b s.sent) (picture s.phase).messages,
  )

module _ {T G K : Type 0} where
  -- the kinds of those of the messages that are about the block
  kinds_of_block : (block : T → ℕ) (kind : T → G) (b : ℕ) (of_kind : List (Mail T K) → List G) → of_kind [] ≡ [] →
      ((mail : Mail T K) (rest : List (Mail T K)) →
      of_kind (mail ∷ rest) ≡ cons_if (block mail.item == b) (kind mail.item) (of_kind rest)) → (q : List
      (Mail T K)) → map kind (of_block block b q)
      ≡ of_kind q
  kinds_of_block block kind b of_kind none more [] = sym none
  kinds_of_block block kind b of_kind none more (mail ∷ rest) =
      by_test (block mail.item == b) (kinds_of_block block kind b of_kind none more rest)
      ∙ sym (more mail rest)
    where
      by_test : (t : Bool) → map kind (of_block block b rest) ≡ of_kind rest →
          map kind (cons_if t mail.item (of_block block b rest)) ≡ cons_if t
          (kind mail.item) (of_kind rest)
      by_test true e = ap (λ (r : List G). kind mail.item ∷ r) e
      by_test false e = e

module _ {R : Type 0} where
  line_kind : (b : ℕ) (l : Line R) → (line_here b l).state ≡ line_state b l
  line_kind b l = by_test (l.block == b)
    where
      by_test : (t : Bool) → (line_if t b l).state ≡ (if t then l.state else I)
      by_test true = refl
      by_test false = refl

module _ {R K : Type 0} where
  pub sight_kinds : (riding : Riding R) (b : ℕ) (p : Port R K) → kinds (port_sight riding b p) ≡ port_view riding b p
  sight_kinds riding b p =
      rw (
        line_kind b (line_for riding.fresh p.cache b),
        kinds_of_block request_block ask_of b (asks_of b) refl (λ mail rest. refl) p.requests.items,
        kinds_of_block response_block reply_of b (replies_of b) refl (λ mail rest. refl) p.responses.items,
        kinds_of_block block_of signal b (signals_of b) refl (λ mail rest. refl) p.messages.items,
      )

  -- so the protocol holds of each block that shows
  pub shows_hold : (riding : Riding R) (carrying : Carrying K) (Q : ℕ → FullBlock (Payload R) →
      Type 0) (m : Memory R K) → AllShow riding carrying Q m →
      (b : ℕ) → BlockHolds (block_in riding carrying m b)
  shows_hold riding carrying Q m f b =
      let s = f.blocks b in
      let stage_is : s.block.stage ≡ (entry_at riding.fresh m.home b).stage =
      ap (λ (e : Entry R). e.stage) s.entry_is in
      record {
        fits = subst StageFits stage_is s.fits.fits;
        stands = λ d ld. subst (λ (stage : Stage). Stands stage d (port_view riding b (port_at carrying m.ports d)))
            stage_is
            (record {
              phase = (s.block.seats d).phase;
              role_is = s.fits.roles d ld;
              view_is = shown_kinds b (s.block.seats d) ∙ (ap kinds (s.shows d ld)
                  ∙ sight_kinds riding b (port_at carrying m.ports d));
            });
      }

  pub blocks_hold : (riding : Riding R) (carrying : Carrying K) (m : Memory R K) → MemoryHolds riding carrying m →
      (b : ℕ) →
      BlockHolds (block_in riding carrying m b)
  blocks_hold riding carrying m h b = shows_hold riding carrying Anything m h.shows b
