-- The times that riders have are a property of blocks that each move keeps; an access appends itself to what they are
-- after, and finds exact times.
use Rattle.std.proofs.Common.{◌≡◌, ◌∙◌, ap, sym, subst, ℕ, ◌<◌, ◌==◌, ◌%◌, ◌/◌, Bool, true, List, [], ◌∷◌, arith}
use Rattle.std.proofs.lemmas.Bool.Decides.{nat_tests}
use Rattle.access_times.specs.Riding.{Carrying}
use Rattle.rtr_types.specs.declared.TheConstants.{BLOCK_WORDS, CORES_MAX}
use Rattle.rtr_types.specs.declared.access.Kind.{Kind}
use Rattle.msi_cache.specs.declared.line.Line.{Line}
use Rattle.msi_cache.specs.Lines.{line_for, is_allowed}
use Rattle.msi_directory.specs.Blocks.{entry_at}
use Rattle.msi_protocol.specs.Seats.{Seat, allows as phase_allows}
use Rattle.msi_protocol.specs.Showing.{KeptBy, Shows}
use Rattle.msi_protocol.specs.Shown.{Payload, Sight, line_with, payload_absorbed}
use Rattle.msi_protocol.proofs.TablesAndSeats.{shown_allows}
use Rattle.msi_protocol.proofs.TablesAndSeats.{copy_in}
use Rattle.msi_memory.specs.Acts.{allows}
use Rattle.msi_memory.specs.Memories.{Memory, port_at, rider_at}
use Rattle.msi_laws.specs.Links.{TouchGives, line_if, payload_at, port_sight}
use Rattle.machine_times.specs.History.{NotedAccess, core_of, rank, last_noted_read, read_after, write_after, Exact}
use Rattle.machine_times.specs.History.{IsExactFor}
use Rattle.machine_times.specs.Retirements.{RiderNotes}
use Rattle.machine_times.specs.StandsFor.{TimesParts, AbsorbsAll, HasTimes, HaveTimes, slot_times, word_number}
use Rattle.machine_times.proofs.Exact.{exact_kept, exact_access, exact_elsewhere, exact_for}

module _ {R : Type 0} where
  pub times_kept : (parts : TimesParts R) → AbsorbsAll parts → (h : List NotedAccess) (b : ℕ) →
      KeptBy (payload_absorbed parts.riding) (HasTimes parts h b)
  times_kept parts well h b =
      record {
        request = λ c a rest bl lc free asks st e slot ls. (kept slot ls).request c a rest bl lc free asks st
            (e slot ls);
        response = λ c a rest bl lc asks st e slot ls. (kept slot ls).response c a rest bl lc asks st (e slot ls);
        message = λ c m rest bl lc asks st e slot ls. (kept slot ls).message c m rest bl lc asks st (e slot ls);
        wish = λ c w bl st e slot ls. (kept slot ls).wish c w bl st (e slot ls);
        reline = λ bl lines same st e slot ls. (kept slot ls).reline bl lines same st (e slot ls);
        rehome = λ bl home same st e slot ls. (kept slot ls).rehome bl home same st (e slot ls);
      }
    where
      kept : (slot : ℕ) → slot < BLOCK_WORDS → KeptBy (payload_absorbed parts.riding) (Exact (slot_times parts slot) h
          (word_number b slot))
      kept slot ls = exact_kept (slot_times parts slot) (well slot ls) h (word_number b slot)

  -- the access is its core's next one, and the rider is the old one with it noted
  pub times_touched : (parts : TimesParts R) (h : List NotedAccess) (n : NotedAccess) (old new : Payload R) →
      ((w : ℕ) → rank (last_noted_read h w (core_of n)) < n.access.at.count) → RiderNotes parts n old.rider new.rider →
      TouchGives (HasTimes parts h) (HasTimes parts (n ∷ h)) (core_of n) (n.access.word / BLOCK_WORDS) n.access.kind old
      new
  times_touched parts h n old new later notes =
      record {
        here = λ bl lc st is may e slot ls.
            exact_access (slot_times parts slot) h (word_number (n.access.word / BLOCK_WORDS) slot) n new bl
            (record { core = lc; allowed = may; later = later (word_number (n.access.word / BLOCK_WORDS) slot) })
            (record {
              write = notes.write slot ls
                  ∙ ap (λ (x : Payload R). write_after n (word_number (n.access.word / BLOCK_WORDS) slot)
                  (parts.write x.rider slot)) (sym is);
              read = λ d ld. notes.read slot d ls ld
                  ∙ ap (λ (x : Payload R). read_after n (word_number (n.access.word / BLOCK_WORDS) slot) d
                  (parts.read x.rider slot d)) (sym is);
            }) (e slot ls);
        elsewhere = λ b bl other e slot ls. exact_elsewhere (slot_times parts slot) n h (word_number b slot) bl
            (λ (same : n.access.word ≡ word_number b slot). other (omega arith)) (e slot ls);
      }

module _ {R K : Type 0} where
  -- where a port allows an access, the rider there is exact for it
  pub port_finds : (parts : TimesParts R) (carrying : Carrying K) (h : List NotedAccess) (m : Memory R K) (c word : ℕ)
      (kind : Kind) → c < CORES_MAX →
      allows parts.riding (port_at carrying m.ports c) (word / BLOCK_WORDS) kind ≡ true → HaveTimes parts carrying h m →
      IsExactFor (slot_times parts (word % BLOCK_WORDS)) h word kind
      (record { words = []; rider = rider_at parts.riding (port_at carrying m.ports c) word })
  port_finds parts carrying h m c word kind lc allowed f =
      record {
        write = ap (λ (x : Payload R). parts.write x.rider (word % BLOCK_WORDS)) (sym payload) ∙ found.write;
        reads = λ writes d ld. ap (λ (x : Payload R). parts.read x.rider (word % BLOCK_WORDS) d) (sym payload)
            ∙ found.reads writes d ld;
      }
    where
      block : ℕ
      block = word / BLOCK_WORDS

      l : Line R
      l = line_for parts.riding.fresh (port_at carrying m.ports c).cache block

      shown : Shows (HasTimes parts h block) block (entry_at parts.riding.fresh m.home block)
          (λ d. port_sight parts.riding block (port_at carrying m.ports d))
      shown = f.blocks block

      s : Seat (Payload R)
      s = shown.block.seats c

      at : (l.block == block) ≡ true
      at = grind (arith, nat_tests)

      line : line_with block s ≡ l
      line = ap (λ (v : Sight R). v.line) (shown.shows c lc) ∙ ap (λ (t : Bool). line_if t block l) at

      payload : s.line ≡ payload_at parts.riding (port_at carrying m.ports c) block
      payload = ap copy_in line

      may : phase_allows kind s.phase ≡ true
      may = sym (shown_allows block kind s) ∙ (ap (λ (x : Line R). is_allowed x block kind) line ∙ allowed)

      word_is : word_number block (word % BLOCK_WORDS) ≡ word
      word_is = omega arith

      found : IsExactFor (slot_times parts (word % BLOCK_WORDS)) h word kind s.line
      found = subst (λ (w : ℕ). IsExactFor (slot_times parts (word % BLOCK_WORDS)) h w kind s.line) word_is
          (exact_for (slot_times parts (word % BLOCK_WORDS)) h (word_number block (word % BLOCK_WORDS)) c kind
          shown.block lc may
          (shown.has (word % BLOCK_WORDS) (omega arith)))
