-- What the acts keep of what the blocks show: that they show, and the words of the copies.
use Rattle.std.proofs.Common.{◌≡◌, ◌≢◌, ◌∙◌, ap, refl, sym, subst, ℕ, ◌<◌, ◌≤◌, ◌==◌, ◌&&◌, Bool, false, true, List}
use Rattle.std.proofs.Common.{length, arith, IsTrue}
use Rattle.std.specs.Prelude.{if◌then◌else◌, slice_set}
use Rattle.std.proofs.lemmas.Bool.Decides.{nat_tests}
use Rattle.access_times.specs.Riding.{Riding, Carrying}
use Rattle.rtr_types.specs.declared.TheConstants.{CORES_MAX}
use Rattle.rtr_types.specs.declared.access.Kind.{Kind}
use Rattle.rtr_types.specs.Accesses.{is_write}
use Rattle.msi_cache.specs.declared.line.Line.{Line}
use Rattle.msi_cache.specs.Lines.{line_for}
use Rattle.msi_protocol.specs.Seats.{FullBlock, HoldersHave, PhasesFit, accessing, reads_in, writes_in}
use Rattle.msi_protocol.specs.Seats.{allows as phase_allows}
use Rattle.msi_protocol.specs.Shown.{Payload, payload_absorbed}
use Rattle.msi_protocol.proofs.PhaseMoves.{allows_read, reads_line, has_load, has_store}
use Rattle.msi_protocol.proofs.CopiesKept.{holders_kept}
use Rattle.msi_memory.specs.Memories.{Memory, port_at}
use Rattle.msi_memory.specs.Acts.{Act, Want, Touch, Retire, TakeRequest, TakeResponse, TakeMessage, can, after_act}
use Rattle.msi_laws.specs.Holds.{MemoryHolds}
use Rattle.msi_laws.proofs.PortsKept.{there_of, can_of}
use Rattle.msi_protocol.specs.Showing.{KeptBy}
use Rattle.msi_laws.specs.Links.{AllShow, TouchGives, payload_at, words_left}
use Rattle.msi_laws.specs.Holds.{Anything}
use Rattle.msi_laws.specs.Words.{HasWords, memory_by, WordsLaw, FindsLaw}
use Rattle.msi_laws.proofs.Leads.{touch_finds}
use Rattle.msi_laws.proofs.LinksKept.{links_kept, links_touched}

-- ---- none

module _ {R : Type 0} where
  pub anything_kept : (riding : Riding R) (b : ℕ) → KeptBy (payload_absorbed riding) (Anything b)
  anything_kept riding b = record {
    request = λ c a rest bl lc free asks st h. tt;
    response = λ c a rest bl lc asks st h. tt;
    message =
        λ c m rest bl lc asks st h. tt;
    wish = λ c w bl st h. tt;
    reline = λ bl lines same st h. tt;
    rehome = λ bl home same st h. tt;
  }

  pub anything_touched : (c block : ℕ) (kind : Kind) (old new : Payload R) →
      TouchGives {R = R} Anything Anything c block kind old new
  anything_touched c block kind old new = record { here = λ bl lc st is may h. tt; elsewhere = λ b bl other h. tt }

-- ---- words

-- another block's words stay
memory_elsewhere : (block slot : ℕ) (kind : Kind) (value : ℕ) (memory : ℕ → List ℕ) (b : ℕ) → b ≢ block →
    memory b ≡ memory_by block slot kind value memory b
memory_elsewhere block slot kind value memory b other = grind (arith, nat_tests)

memory_written : (block slot : ℕ) (kind : Kind) (value : ℕ) (memory : ℕ → List ℕ) →
    words_left kind (memory block) slot value
    ≡ memory_by block slot kind value memory block
memory_written block slot kind value memory = grind (arith, nat_tests)

module _ {R : Type 0} where
  pub has_words_kept : (riding : Riding R) (memory : ℕ → List ℕ) (b : ℕ) →
      KeptBy (payload_absorbed riding) (HasWords memory b)
  has_words_kept riding memory b = holders_kept (λ (x : Payload R). x.words ≡ memory b) (payload_absorbed riding)
      (λ x y p q. p)

  has_words : (memory other : ℕ → List ℕ) (b : ℕ) (bl : FullBlock (Payload R)) → memory b ≡ other b →
      HasWords memory b bl → HasWords other b bl
  has_words memory other b bl e h = subst (λ (w : List ℕ). HoldersHave (λ (x : Payload R). x.words ≡ w) bl) e h

  -- an access finds the memory's words, and leaves what the memory then has
  pub words_touched : (memory : ℕ → List ℕ) (c block slot : ℕ) (kind : Kind) (value : ℕ) (l : Line R) (rider : R) →
      TouchGives (HasWords memory) (HasWords (memory_by block slot kind value memory)) c block kind (record {
        words =
            l.words;
        rider = l.rider;
      })
      (record { words = words_left kind l.words slot value; rider = rider })
  words_touched memory c block slot kind value l rider =
      record {
        here = λ bl lc st is may h. by_write (is_write kind) refl bl lc st is may h;
        elsewhere = λ b bl other h. has_words memory (memory_by block slot kind value memory) b bl
            (memory_elsewhere block slot kind value memory b other) h;
      }
    where
      new : Payload R
      new = record { words = words_left kind l.words slot value; rider = rider }

      found : (bl : FullBlock (Payload R)) → c < CORES_MAX → (bl.seats c).line ≡ record {
        words = l.words;
        rider =
            l.rider;
      } →
          phase_allows kind (bl.seats c).phase ≡ true → HasWords memory block bl → l.words ≡ memory block
      found bl lc is may h = ap (λ (x : Payload R). x.words) (sym is) ∙ (h.seats c lc).line
          (reads_line (bl.seats c).phase (allows_read kind (bl.seats c).phase may))

      left : l.words ≡ memory block → new.words ≡ memory_by block slot kind value memory block
      left e = ap (λ (w : List ℕ). words_left kind w slot value) e ∙ memory_written block slot kind value memory

      by_write : (t : Bool) → is_write kind ≡ t → (bl : FullBlock (Payload R)) → c < CORES_MAX → PhasesFit bl →
          (bl.seats c).line ≡ record { words = l.words; rider = l.rider } →
          phase_allows kind (bl.seats c).phase ≡ true → HasWords memory block bl →
          HasWords (memory_by block slot kind value memory) block (accessing c new bl)
      by_write true e bl lc st is may h =
          has_store (λ (x : Payload R). x.words ≡ memory_by block slot kind value memory block) c new bl lc
          (ap (λ (u : Bool). if u then writes_in (bl.seats c).phase else reads_in (bl.seats c).phase) (sym e)
          ∙ may) (left (found bl lc is may h)) st
      by_write false e bl lc st is may h =
          has_load (λ (x : Payload R). x.words ≡ memory block) (λ (x : Payload R). x.words ≡ memory_by block slot kind
          value memory block) c new bl
          (allows_read kind (bl.seats c).phase may)
          (λ x p. p ∙ ap (λ (u : Bool). if u && (block == block) then slice_set (memory block) slot value else memory
          block) (sym e))
          (left (found bl lc is may h)) h

-- ---- the words of the memory system

module _ {R K : Type 0} where
  pub words_kept : (riding : Riding R) (carrying : Carrying K) → WordsLaw riding carrying
  words_kept riding carrying m (Want c block kind) memory h e f =
      links_kept riding carrying (HasWords memory) (has_words_kept riding memory) m
      (Want c block kind) e refl h f
  words_kept riding carrying m (Touch c block slot kind value rider) memory h e f =
      links_touched riding carrying (HasWords memory) (HasWords (memory_by block slot kind value memory))
      (has_words_kept riding (memory_by block slot kind value memory)) m c block slot kind value rider
      (there_of riding carrying m (Touch c block slot kind value rider) e)
      (can_of riding carrying m (Touch c block slot kind value rider) e) h
      (words_touched memory c block slot kind value (line_for riding.fresh (port_at carrying m.ports c).cache block)
      rider) f
  words_kept riding carrying m (Retire c at) memory h e f =
      links_kept riding carrying (HasWords memory) (has_words_kept riding memory) m
      (Retire c at) e refl h f
  words_kept riding carrying m (TakeRequest c) memory h e f =
      links_kept riding carrying (HasWords memory) (has_words_kept riding memory) m
      (TakeRequest c) e refl h f
  words_kept riding carrying m (TakeResponse c) memory h e f =
      links_kept riding carrying (HasWords memory) (has_words_kept riding memory) m
      (TakeResponse c) e refl h f
  words_kept riding carrying m (TakeMessage c) memory h e f =
      links_kept riding carrying (HasWords memory) (has_words_kept riding memory) m
      (TakeMessage c) e refl h f

  pub finds_words : (riding : Riding R) (carrying : Carrying K) → FindsLaw riding carrying
  finds_words riding carrying m c block kind memory h lc allowed f =
      let few : length m.ports ≤ CORES_MAX = h.cores in
      let found = touch_finds riding carrying (HasWords memory) m c block kind (omega arith) allowed f in
      let p = (found.block.seats c).phase in
      ap (λ (x : Payload R). x.words) (sym found.line)
      ∙ (found.has.seats c found.core).line (reads_line p (allows_read kind p found.may))

  pub shows_kept : (riding : Riding R) (carrying : Carrying K) (m : Memory R K) (act : Act R) →
      MemoryHolds riding carrying m →
      IsTrue (can riding carrying m act) → AllShow riding carrying Anything m →
      AllShow riding carrying Anything (after_act riding carrying m act)
  shows_kept riding carrying m (Want c block kind) h e f = links_kept riding carrying Anything (anything_kept riding) m
      (Want c block kind) e refl h f
  shows_kept riding carrying m (Touch c block slot kind value rider) h e f =
      links_touched riding carrying Anything Anything (anything_kept riding) m c block slot kind value rider
      (there_of riding carrying m (Touch c block slot kind value rider) e)
      (can_of riding carrying m (Touch c block slot kind value rider) e) h
      (anything_touched c block kind (payload_at riding (port_at carrying m.ports c) block) (record {
        words = words_left kind (line_for riding.fresh (port_at carrying m.ports c).cache block).words slot value;
        rider = rider;
      })) f
  shows_kept riding carrying m (Retire c at) h e f = links_kept riding carrying Anything (anything_kept riding) m
      (Retire c at) e refl h f
  shows_kept riding carrying m (TakeRequest c) h e f = links_kept riding carrying Anything (anything_kept riding) m
      (TakeRequest c) e refl h f
  shows_kept riding carrying m (TakeResponse c) h e f = links_kept riding carrying Anything (anything_kept riding) m
      (TakeResponse c) e refl h f
  shows_kept riding carrying m (TakeMessage c) h e f = links_kept riding carrying Anything (anything_kept riding) m
      (TakeMessage c) e refl h f
