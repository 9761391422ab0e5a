-- Sessions that break off: of what was to pass a front has passed.
use Rattle.std.proofs.Common.{◌≡◌, ◌∙◌, refl, sym, ap, subst, append_assoc, ℕ, false, List, [], ◌∷◌, ◌++◌, inl, inr}
use Rattle.std.proofs.Common.{OnErr, Result, Ok, Err, Option, take, drop}
use Rattle.std.proofs.lemmas.List.{append-nil, take-append-drop}
use Rattle.rtr_io.specs.Moved.{GivesPart}
use Rattle.gdb_packets.specs.Frames.{Event, Packet, tells}
use Rattle.gdb_packets.specs.Lines.{Wire, payload_in}
use Rattle.gdb_packets.specs.Readers.{event_of}
use Rattle.gdb_packets.specs.declared.line.Line.{Line}
use Rattle.gdb_packets.specs.declared.reader.Told as outcome
use Rattle.gdb_server.specs.declared.partner.Answer.{Answer}
use Rattle.gdb_server.specs.declared.partner.Next.{Next}
use Rattle.gdb_server.specs.Hearing.{FollowsInPart, Hears, HearsInPart}
use Rattle.gdb_server.specs.Passing.{saying_passed}
use Rattle.gdb_server.specs.Sessions.{GreetsInPart, LeadsTo, TalkedInPart, Turn}
use Rattle.gdb_server.specs.Wires.{behind_answer, behind_byte, frames, heard_at, is_last}
use Rattle.gdb_server.specs.Words.{Heard, IsFront, StreamsPassed, Word, saying}
use Rattle.gdb_server.proofs.SessionLemmas.{Sits, Waits, saying-append}

pub on_err : {T E : Type 0} (answer : Result T E) (P : Type 0) → P → OnErr answer P
on_err (Ok x) P h = tt
on_err (Err e) P h = h

none_in_front : (whole : List Word) → IsFront [] whole
none_in_front whole = (whole, refl)

all_in_front : (whole : List Word) → IsFront whole whole
all_in_front whole = ([], sym (append-nil whole))

front_behind : (first part whole : List Word) → IsFront part whole → IsFront (first ++ part) (first ++ whole)
front_behind first part whole (rest, is) =
    (rest, ap (λ (l : List Word). first ++ l) is ∙ sym (append_assoc first part rest))

module _ {C : Type 0} (passed : C → List Word → C → Type 0) where
  -- ---- one byte

  -- it couldn't be heard
  pub unheard : (wire : Wire) (old new : C) → passed old [] new → HearsInPart passed wire old new
  unheard wire old new nothing =
      record { byte = 0; part = []; front = none_in_front (heard_at wire 0); passed_is = nothing }

  -- it was heard, and what has to be said at once couldn't be made
  pub unmade : (wire : Wire) (byte : ℕ) (old new : C) → passed old (Heard byte ∷ []) new
      → HearsInPart passed wire old new
  unmade wire byte old new heard =
      record {
        byte = byte;
        part = Heard byte ∷ [];
        front = front_behind (Heard byte ∷ []) [] _ (none_in_front _);
        passed_is = heard;
      }

  module _ (goes_on : (a b c : C) (first more : List Word) → passed a first b → passed b more c
      → passed a (first ++ more) c) where
    -- or couldn't be said
    pub unsaid : (wire : Wire) (byte : ℕ) (old mid new : C) (said : List ℕ) (part : List Word)
        → heard_at wire byte ≡ Heard byte ∷ saying said → IsFront part (saying said)
        → passed old (Heard byte ∷ []) mid → passed mid part new → HearsInPart passed wire old new
    unsaid wire byte old mid new said part is front heard then =
        record {
          byte = byte;
          part = Heard byte ∷ part;
          front = subst (λ (l : List Word). IsFront (Heard byte ∷ part) l) (sym is)
              (front_behind (Heard byte ∷ []) part (saying said) front);
          passed_is = goes_on old mid new (Heard byte ∷ []) part heard then;
        }

    -- ---- before the first packet

    pub greets_in_part : (wire : Wire) (line : Line) (old mid new : C) (count : ℕ)
        (w : Waits passed goes_on wire line old mid count) → HearsInPart passed w.behind mid new
        → GreetsInPart wire (λ words. passed old words new)
    greets_in_part wire line old mid new count w hears =
        record {
          heard = w.heard;
          words = w.words;
          behind = w.behind;
          is_said = w.is_said;
          byte = hears.byte;
          part = hears.part;
          front = hears.front;
          passed_is = goes_on old mid new w.words hears.part w.passed_is hears.passed_is;
        }

    -- ---- in a session

    module _ {P : Type 0} (answers : P → List ℕ → P → Answer → Type 0) (interrupts : P → P → Type 0) (wire : Wire)
        (partner : P) (payload : List ℕ) (now : P) (line : Line) (next : Next) (old mid : C) (count : ℕ)
        (s : Sits answers interrupts passed goes_on wire partner payload now line next old mid count)
        (on : is_last next ≡ false) where
      -- in a byte
      pub talked_to_byte : (new : C) → HearsInPart passed s.to.wire mid new
          → TalkedInPart answers interrupts wire partner payload (λ words. passed old words new)
      talked_to_byte new hears =
          let t = s.talking in
          inr (inr (record {
            heard = s.heard;
            partner' = now;
            to = s.to;
            part = hears.part;
            talking = record {
              first = t.first;
              from = t.from;
              answered = t.answered;
              words = t.words;
              talks = t.talks;
              partner_is = t.partner_is;
              passed_is = goes_on old mid new (saying t.first ++ t.words) hears.part t.passed_is hears.passed_is;
            };
            in_turn = record {
              listens = s.over_is ∙ on;
              byte = hears.byte;
              whole = heard_at s.to.wire hears.byte;
              is_whole = inl refl;
              front = hears.front;
            };
          }))

      -- behind a byte
      pub talked_to_event : (told : outcome.Told) (line' : Line) (been new : C)
          (hears : Hears passed s.to.wire told line' mid been)
          → FollowsInPart answers interrupts passed (behind_byte s.to.wire hears.byte) now
          (event_of told (payload_in line')) been new
          → TalkedInPart answers interrupts wire partner payload (λ words. passed old words new)
      talked_to_event told line' been new hears (inl nothing) =
          let at : List Word = heard_at s.to.wire hears.byte in
          talked_to_byte new (record {
            byte = hears.byte;
            part = at;
            front = all_in_front at;
            passed_is = subst (λ (l : List Word). passed mid l new) (append-nil at)
                (goes_on mid been new at [] hears.passed_is nothing);
          })
      talked_to_event told line' been new hears (inr (part, leads, then)) =
          let t = s.talking in
          let at : List Word = heard_at s.to.wire hears.byte in
          let wire' : Wire = behind_byte s.to.wire hears.byte in
          let of_event : LeadsTo answers interrupts wire' now (tells s.to.wire.at hears.byte) leads.said leads.new =
          subst (λ (e : Event). LeadsTo answers interrupts wire' now e leads.said leads.new) hears.told_is
          leads.leads in
          let turn : Turn answers interrupts s.to hears.byte (at ++ saying leads.said) leads.new =
          record {
            listens = s.over_is ∙ on;
            more = leads.said;
            words_are = refl;
            leads = subst (λ (p : P).
                LeadsTo answers interrupts wire' p (tells s.to.wire.at hears.byte) leads.said leads.new)
                (sym t.partner_is) of_event;
          } in
          inr (inr (record {
            heard = s.heard;
            partner' = now;
            to = s.to;
            part = at ++ part;
            talking = record {
              first = t.first;
              from = t.from;
              answered = t.answered;
              words = t.words;
              talks = t.talks;
              partner_is = t.partner_is;
              passed_is = goes_on old mid new (saying t.first ++ t.words) (at ++ part) t.passed_is
                  (goes_on mid been new at part hears.passed_is then);
            };
            in_turn = record {
              listens = s.over_is ∙ on;
              byte = hears.byte;
              whole = at ++ saying leads.said;
              is_whole = inr (leads.new, turn);
              front = front_behind at part (saying leads.said) leads.front;
            };
          }))

module _ {P C : Type 0} (answers : P → List ℕ → P → Answer → Type 0) (interrupts : P → P → Type 0)
    (passed : C → List Word → C → Type 0) (wire : Wire) (partner : P) (payload : List ℕ) (old new : C) where
  -- a front of the frames was said
  pub answers_in_part : (now : P) (answer : Answer) (part : List Word) → answers partner payload now answer
      → IsFront part (saying (frames answer.payloads)) → passed old part new
      → FollowsInPart answers interrupts passed wire partner (Packet payload) old new
  answers_in_part now answer part answered front given = inr (
    part,
    record {
      said = frames answer.payloads;
      new = record { wire = behind_answer wire answer; partner = now; over = is_last answer.next };
      leads = (answer, answered, refl, refl, refl);
      front = front;
    },
    given,
  )

  -- in the answer of the first packet
  pub talked_to_answer : FollowsInPart answers interrupts passed wire partner (Packet payload) old new
      → TalkedInPart answers interrupts wire partner payload (λ words. passed old words new)
  talked_to_answer (inl nothing) = inl nothing
  talked_to_answer (inr in_part) = inr (inl in_part)

-- ---- over two streams

pub said_in_part : {E : Type 0} (result : Result Unit E) (left got got' : Option (List ℕ)) (bytes : List ℕ)
    → OnErr result (GivesPart bytes got got')
    → OnErr result ((part : List Word) × IsFront part (saying bytes) × StreamsPassed left left got got' part)
said_in_part (Ok done) left got got' bytes given = tt
said_in_part (Err fault) left got got' bytes (n, below, given) = (
  saying (take n bytes),
  (
    saying (drop n bytes),
    ap saying (sym (take-append-drop n bytes)) ∙ saying-append (take n bytes) (drop n bytes),
  ),
  saying_passed left got got' (take n bytes) given,
)
