-- Sessions that go on by a byte at their end. `Waits` is what a loop keeps before the first packet, and `Sits` what
-- one keeps in a session; both say where the line stands behind the bytes so far, and how many there were.
use Rattle.std.proofs.Common.{◌≡◌, ◌∙◌, refl, sym, ap, subst, append_assoc, ℕ, ◌+◌, ◌<◌, ◌≤◌, ◌&&◌, not, true, false}
use Rattle.std.proofs.Common.{Bool, List, []}
use Rattle.std.proofs.Common.{◌∷◌, ◌++◌, length, get_or, take, inl, inr}
use Rattle.std.proofs.Common.{IfOk, OnOk, Result, Ok, Err, Option}
use Rattle.std.specs.Io.KnownBytes.{Appends}
use Rattle.gdb_server.specs.Passing.{saying_passed}
use Rattle.rtr_io.specs.Faults.{IsUnlessFault}
use Rattle.std.proofs.lemmas.List.{append-nil, length-append, take_more}
use Rattle.std.proofs.lemmas.List.Concat.{flat_map-append}
use Rattle.gdb_packets.specs.Frames.{Event, Nothing, Packet, Broken, Interrupt, Again, framed, tells}
use Rattle.gdb_packets.specs.Lines.{Shows, Wire, payload_in}
use Rattle.gdb_packets.specs.Readers.{event_of}
use Rattle.gdb_packets.specs.declared.line.Line.{Line}
use Rattle.gdb_packets.specs.declared.reader.Told as outcome
use Rattle.gdb_packets.specs.declared.reader.Told.TheVariants as told_as
use Rattle.gdb_server.specs.declared.partner.Answer.{Answer}
use Rattle.gdb_server.specs.declared.hearing.TalkFault.{TalkFault}
use Rattle.gdb_server.specs.declared.partner.Next.{Next}
use Rattle.gdb_server.specs.declared.partner.Next.TheVariants.{Listen}
use Rattle.gdb_server.specs.Hearing.{Follows, Hears, HearsNothing, SaysAnswer, is_packet}
use Rattle.gdb_server.specs.Sessions.{GreetsNobody, GreetsSome, IsNoPacket, IsSaidTo, LeadsTo, Side, Talked}
use Rattle.gdb_server.specs.Sessions.{Talking, Talks, Turn}
use Rattle.gdb_server.specs.Sessions.{heard_max, listening}
use Rattle.gdb_server.specs.Wires.{behind_answer, behind_byte, frames, heard_at, is_last, last_frame, stops_acks}
use Rattle.gdb_server.specs.Words.{Said, StreamsPassed, Word, saying}

-- ---- frames

-- the last of several frames
last_more : (last : List ℕ) (payloads : List (List ℕ)) (payload : List ℕ)
    → last_frame last (payloads ++ payload ∷ []) ≡ framed payload
last_more last [] payload = refl
last_more last (p ∷ rest) payload = last_more (framed p) rest payload

pub last_taken : (last : List ℕ) (payloads : List (List ℕ)) (k : ℕ) (d : List ℕ) → k < length payloads
    → last_frame last (take (k + 1) payloads) ≡ framed (get_or payloads k d)
last_taken last payloads k d lt =
    ap (λ (l : List (List ℕ)). last_frame last l) (take_more payloads k d lt)
    ∙ last_more last (take k payloads) (get_or payloads k d)

-- one frame more
pub frames_more : (payloads : List (List ℕ)) (k : ℕ) (d : List ℕ) → k < length payloads
    → frames (take (k + 1) payloads) ≡ frames (take k payloads) ++ framed (get_or payloads k d)
frames_more payloads k d lt =
    ap frames (take_more payloads k d lt)
    ∙ flat_map-append framed (take k payloads) (get_or payloads k d ∷ [])
    ∙ ap (λ (l : List ℕ). frames (take k payloads) ++ l) (append-nil (framed (get_or payloads k d)))

-- ---- acks

and_stopped : (b c : Bool) → c ≡ true → false ≡ (b && not c)
and_stopped true c e = sym (ap not e)
and_stopped false c e = refl

and_on : (b c : Bool) → c ≡ false → b ≡ (b && not c)
and_on true c e = sym (ap not e)
and_on false c e = refl

-- the wire behind frames, with these acks
abbrev spoken : Wire → Bool → List (List ℕ) → Wire
spoken wire acks payloads = record wire { acks = acks; last = last_frame wire.last payloads }

pub shows_stopped : (wire : Wire) (answer : Answer) (line : Line) → stops_acks answer.next ≡ true
    → Shows (spoken wire false answer.payloads) line → Shows (behind_answer wire answer) line
shows_stopped wire answer line stops shows =
    subst (λ (b : Bool). Shows (spoken wire b answer.payloads) line)
    (and_stopped wire.acks (stops_acks answer.next) stops) shows

pub shows_on : (wire : Wire) (answer : Answer) (line : Line) → stops_acks answer.next ≡ false
    → Shows (spoken wire wire.acks answer.payloads) line → Shows (behind_answer wire answer) line
shows_on wire answer line keeps shows =
    subst (λ (b : Bool). Shows (spoken wire b answer.payloads) line)
    (and_on wire.acks (stops_acks answer.next) keeps) shows

-- ---- words

pub saying-append : (first more : List ℕ) → saying (first ++ more) ≡ saying first ++ saying more
saying-append [] more = refl
saying-append (byte ∷ rest) more = ap (λ (l : List Word). Said byte ∷ l) (saying-append rest more)

-- ---- before the first packet

said_one : (wire : Wire) (byte : ℕ) → IsNoPacket (tells wire.at byte)
    → IsSaidTo wire (byte ∷ []) ([] ++ heard_at wire byte) (behind_byte wire byte)
said_one wire byte none = (none, [], (refl, refl), sym (append-nil (heard_at wire byte)))

-- a byte more that ends no packet
said_more : (old mid : Wire) (heard : List ℕ) (words : List Word) (byte : ℕ) → IsSaidTo old heard words mid
    → IsNoPacket (tells mid.at byte)
    → IsSaidTo old (heard ++ byte ∷ []) (words ++ heard_at mid byte) (behind_byte mid byte)
said_more old mid [] words byte (is, same) none =
    subst (λ (w : Wire). IsSaidTo old (byte ∷ []) (words ++ heard_at w byte) (behind_byte w byte)) (sym same)
    (subst (λ (s : List Word). IsSaidTo old (byte ∷ []) (s ++ heard_at old byte) (behind_byte old byte))
    (sym is) (said_one old byte (subst (λ (w : Wire). IsNoPacket (tells w.at byte)) same none)))
said_more old mid (b ∷ rest) words byte (quiet, more, tail, is) none = (
  quiet,
  more ++ heard_at mid byte,
  said_more (behind_byte old b) mid rest more byte tail none,
  ap (λ (l : List Word). l ++ heard_at mid byte) is ∙ append_assoc (heard_at old b) more (heard_at mid byte),
)

no_packet : (told : outcome.Told) (payload : List ℕ) → is_packet told ≡ false → IsNoPacket (event_of told payload)
no_packet told_as.Packet payload is = absurd cc
no_packet told_as.Nothing payload is = tt
no_packet told_as.Broken payload is = tt
no_packet told_as.Interrupt payload is = tt
no_packet told_as.Again payload is = tt

packet_told : (told : outcome.Told) (payload : List ℕ) → is_packet told ≡ true → event_of told payload ≡ Packet payload
packet_told told_as.Packet payload is = refl
packet_told told_as.Nothing payload is = absurd cc
packet_told told_as.Broken payload is = absurd cc
packet_told told_as.Interrupt payload is = absurd cc
packet_told told_as.Again payload is = absurd cc

module _ {C : Type 0} (passed : C → List Word → C → Type 0)
    (goes_on : (a b c : C) (first more : List Word) → passed a first b → passed b more c → passed a (first ++ more) c)
  where
    -- so many bytes were heard, none of which ended a packet
    pub record Waits (wire : Wire) (line : Line) (old new : C) (count : ℕ) : Type 0 where
      pub heard : List ℕ
      pub words : List Word
      pub behind : Wire
      pub is_said : IsSaidTo wire heard words behind
      pub shows : Shows behind line
      pub passed_is : passed old words new
      pub counted : length heard ≡ count

    pub waits_first : (wire : Wire) (line : Line) (c : C) → passed c [] c → Shows wire line → Waits wire line c c 0
    waits_first wire line c nothing shows =
        record {
          heard = [];
          words = [];
          behind = wire;
          is_said = (refl, refl);
          shows = shows;
          passed_is = nothing;
          counted = refl;
        }

    -- one byte more
    pub waits_told : (wire : Wire) (line next : Line) (told : outcome.Told) (old mid new : C) (count : ℕ)
        (w : Waits wire line old mid count) → is_packet told ≡ false → Hears passed w.behind told next mid new
        → Waits wire next old new (count + 1)
    waits_told wire line next told old mid new count w is hears =
        record {
          heard = w.heard ++ hears.byte ∷ [];
          words = w.words ++ heard_at w.behind hears.byte;
          behind = behind_byte w.behind hears.byte;
          is_said = said_more wire w.behind w.heard w.words hears.byte w.is_said
              (subst (λ (e : Event). IsNoPacket e) hears.told_is (no_packet told (payload_in next) is));
          shows = hears.shows;
          passed_is = goes_on old mid new w.words (heard_at w.behind hears.byte) w.passed_is hears.passed_is;
          counted = length-append w.heard (hears.byte ∷ []) ∙ ap (λ (n : ℕ). n + 1) w.counted;
        }

    -- the first packet
    pub greets_told : (wire : Wire) (line next : Line) (told : outcome.Told) (old mid new : C) (count : ℕ)
        (w : Waits wire line old mid count) → is_packet told ≡ true → Hears passed w.behind told next mid new
        → GreetsSome wire next (λ words. passed old words new)
    greets_told wire line next told old mid new count w is hears =
        record {
          heard = w.heard;
          words = w.words;
          before = w.behind;
          is_said = w.is_said;
          byte = hears.byte;
          ends = sym hears.told_is ∙ packet_told told (payload_in next) is;
          shows = hears.shows;
          passed_is = goes_on old mid new w.words (heard_at w.behind hears.byte) w.passed_is hears.passed_is;
        }

    passed_nothing : (a b c : C) (words : List Word) → passed a words b → passed b [] c → passed a words c
    passed_nothing a b c words first more =
        subst (λ (l : List Word). passed a l c) (append-nil words) (goes_on a b c words [] first more)

    -- none of the bytes so far ended a packet, and they are all that are heard
    pub greets_nobody : (over : Type 0) (wire : Wire) (line next : Line) (old mid new : C) (count : ℕ)
        (w : Waits wire line old mid count) → HearsNothing passed w.behind next mid new → over
        → GreetsNobody wire (λ words. passed old words new) over
    greets_nobody over wire line next old mid new count w hears is =
        record {
          heard = w.heard;
          words = w.words;
          behind = w.behind;
          is_said = w.is_said;
          passed_is = passed_nothing old mid new w.words w.passed_is hears.nothing;
          ends = inl is;
        }

    -- or as many as are heard
    pub greets_no_more : (over : Type 0) (wire : Wire) (line : Line) (old new : C) (count : ℕ)
        → Waits wire line old new count → heard_max ≤ count → GreetsNobody wire (λ words. passed old words new) over
    greets_no_more over wire line old new count w most =
        record {
          heard = w.heard;
          words = w.words;
          behind = w.behind;
          is_said = w.is_said;
          passed_is = w.passed_is;
          ends = inr (subst (λ (n : ℕ). heard_max ≤ n) (sym w.counted) most);
        }

-- ---- in a session

-- an event doesn't concern the partner
abbrev pub IsQuiet : Event → Type 0
IsQuiet Nothing = Unit {0}
IsQuiet Broken = Unit {0}
IsQuiet Again = Unit {0}
IsQuiet Interrupt = ⊥
IsQuiet (Packet payload) = ⊥

-- a call that answers left the count of faults as it was
pub no_fault : {A E : Type 0} (fault : E) (a : A) (old new : ℕ) → IsUnlessFault fault (Ok a) old new → new ≡ old
no_fault fault a old new (inl is) = absurd cc
no_fault fault a old new (inr is) = is

module _ {P : Type 0} (answers : P → List ℕ → P → Answer → Type 0) (interrupts : P → P → Type 0) where
  -- a turn more
  talks_more : (old mid new : Side P) (heard : List ℕ) (words : List Word) (byte : ℕ) (more : List Word)
      → Talks answers interrupts old heard words mid → Turn answers interrupts mid byte more new
      → Talks answers interrupts old (heard ++ byte ∷ []) (words ++ more) new
  talks_more old mid new [] words byte more (is, same) turn = (
    new,
    more,
    [],
    subst (λ (s : Side P). Turn answers interrupts s byte more new) same turn,
    (refl, refl),
    ap (λ (l : List Word). l ++ more) is ∙ sym (append-nil more),
  )
  talks_more old mid new (b ∷ rest) words byte more (next, first, tail, head, talks, is) turn = (
    next,
    first,
    tail ++ more,
    head,
    talks_more next mid new rest tail byte more talks turn,
    ap (λ (l : List Word). l ++ more) is ∙ append_assoc first tail more,
  )

  -- where a session stands behind an answer
  abbrev side_behind : Wire → P → Answer → Side P
  side_behind wire partner answer =
      record { wire = behind_answer wire answer; partner = partner; over = is_last answer.next }

  quiet_leads : (wire : Wire) (partner : P) (event : Event) → IsQuiet event
      → LeadsTo answers interrupts wire partner event [] (listening wire partner)
  quiet_leads wire partner Nothing quiet = (refl, refl)
  quiet_leads wire partner Broken quiet = (refl, refl)
  quiet_leads wire partner Again quiet = (refl, refl)
  quiet_leads wire partner Interrupt quiet = absurd quiet
  quiet_leads wire partner (Packet payload) quiet = absurd quiet

  module _ {C : Type 0} (passed : C → List Word → C → Type 0)
      (goes_on : (a b c : C) (first more : List Word) → passed a first b → passed b more c
      → passed a (first ++ more) c) where
    -- a packet was answered, and so many bytes were heard behind it
    pub record Sits (wire : Wire) (partner : P) (payload : List ℕ) (now : P) (line : Line) (next : Next) (old new : C)
        (count : ℕ) : Type 0 where
      pub heard : List ℕ
      pub to : Side P
      pub talking : Talking answers interrupts wire partner payload now (λ words. passed old words new) heard to
      pub over_is : to.over ≡ is_last next
      pub shows : Shows to.wire line
      pub counted : length heard ≡ count

    pub sits_first : (wire : Wire) (partner : P) (payload : List ℕ) (now : P) (line : Line) (next : Next) (old new : C)
        → SaysAnswer answers passed wire partner payload now next line old new
        → Sits wire partner payload now line next old new 0
    sits_first wire partner payload now line next old new says =
        record {
          heard = [];
          to = side_behind wire now says.answer;
          talking = record {
            first = frames says.answer.payloads;
            from = side_behind wire now says.answer;
            answered = (says.answer, says.answered, refl, refl, refl);
            words = [];
            talks = (refl, refl);
            partner_is = refl;
            passed_is = subst (λ (l : List Word). passed old l new)
                (sym (append-nil (saying (frames says.answer.payloads)))) says.passed_is;
          };
          over_is = ap is_last (sym says.next_is);
          shows = says.shows;
          counted = refl;
        }

    -- behind a turn
    sits_more : (wire : Wire) (partner : P) (payload : List ℕ) (now then : P) (line line' : Line) (next next' : Next)
        (old mid new : C) (count : ℕ) (s : Sits wire partner payload now line next old mid count) (byte : ℕ)
        (more : List Word) (to : Side P) → Turn answers interrupts s.to byte more to → to.partner ≡ then
        → to.over ≡ is_last next' → Shows to.wire line' → passed mid more new
        → Sits wire partner payload then line' next' old new (count + 1)
    sits_more wire partner payload now then line line' next next' old mid new count s byte more to turn partner_is
        over_is shows given =
        let t = s.talking in
        record {
          heard = s.heard ++ byte ∷ [];
          to = to;
          talking = record {
            first = t.first;
            from = t.from;
            answered = t.answered;
            words = t.words ++ more;
            talks = talks_more t.from s.to to s.heard t.words byte more t.talks turn;
            partner_is = partner_is;
            passed_is = subst (λ (l : List Word). passed old l new) (append_assoc (saying t.first) t.words more)
                (goes_on old mid new (saying t.first ++ t.words) more t.passed_is given);
          };
          over_is = over_is;
          shows = shows;
          counted = length-append s.heard (byte ∷ []) ∙ ap (λ (n : ℕ). n + 1) s.counted;
        }

    -- behind a byte and what it leads to
    pub sits_followed : (wire : Wire) (partner : P) (payload : List ℕ) (now then : P) (line line' line'' : Line)
        (next next' : Next) (told : outcome.Told) (old mid been new : C) (count : ℕ)
        (s : Sits wire partner payload now line next old mid count) → is_last next ≡ false
        → (hears : Hears passed s.to.wire told line' mid been)
        → Follows answers interrupts passed (behind_byte s.to.wire hears.byte) now (event_of told (payload_in line'))
        then next' line'' been new
        → Sits wire partner payload then line'' next' old new (count + 1)
    sits_followed wire partner payload now then line line' line'' next next' told old mid been new count s on hears f =
        let wire' : Wire = behind_byte s.to.wire hears.byte in
        let at : List Word = heard_at s.to.wire hears.byte in
        let of_event : LeadsTo answers interrupts wire' now (tells s.to.wire.at hears.byte) f.more f.to =
        subst (λ (e : Event). LeadsTo answers interrupts wire' now e f.more f.to) hears.told_is f.leads in
        let leads : LeadsTo answers interrupts wire' s.to.partner (tells s.to.wire.at hears.byte) f.more f.to =
        subst (λ (p : P). LeadsTo answers interrupts wire' p (tells s.to.wire.at hears.byte) f.more f.to)
        (sym s.talking.partner_is) of_event in
        let turn : Turn answers interrupts s.to hears.byte (at ++ saying f.more) f.to =
        record { listens = s.over_is ∙ on; more = f.more; words_are = refl; leads = leads } in
        sits_more wire partner payload now then line line'' next next' old mid new count s hears.byte
        (at ++ saying f.more) f.to turn f.partner_is f.over_is f.shows
        (goes_on mid been new at (saying f.more) hears.passed_is f.passed_is)

    -- ---- what an event leads to

    pub follows_answer : (wire : Wire) (partner : P) (payload : List ℕ) (now : P) (line : Line) (old new : C)
        (result : Result Next TalkFault)
        → IfOk result (λ next. SaysAnswer answers passed wire partner payload now next line old new)
        → IfOk result (λ next. Follows answers interrupts passed wire partner (Packet payload) now next line old new)
    follows_answer wire partner payload now line old new (Ok next) says =
        record {
          to = side_behind wire now says.answer;
          more = frames says.answer.payloads;
          leads = (says.answer, says.answered, refl, refl, refl);
          partner_is = refl;
          over_is = ap is_last (sym says.next_is);
          shows = says.shows;
          passed_is = says.passed_is;
        }
    follows_answer wire partner payload now line old new (Err fault) says = tt

    pub follows_interrupt : (wire : Wire) (partner now : P) (line : Line) (c : C) → passed c [] c
        → interrupts partner now → Shows wire line
        → Follows answers interrupts passed wire partner Interrupt now Listen line c c
    follows_interrupt wire partner now line c nothing does shows =
        record {
          to = listening wire now;
          more = [];
          leads = (does, refl, refl, refl);
          partner_is = refl;
          over_is = refl;
          shows = shows;
          passed_is = nothing;
        }

    pub follows_quiet : (wire : Wire) (partner : P) (event : Event) (line : Line) (c : C) → passed c [] c
        → IsQuiet event → Shows wire line
        → Follows answers interrupts passed wire partner event partner Listen line c c
    follows_quiet wire partner event line c nothing quiet shows =
        record {
          to = listening wire partner;
          more = [];
          leads = quiet_leads wire partner event quiet;
          partner_is = refl;
          over_is = refl;
          shows = shows;
          passed_is = nothing;
        }

    -- ---- the end

    -- where the last answer ended the session
    pub talked_over : (over : Type 0) (wire : Wire) (partner : P) (payload : List ℕ) (now : P) (line : Line)
        (next : Next) (old new : C) (count : ℕ) → Sits wire partner payload now line next old new count
        → is_last next ≡ true
        → Talked answers interrupts wire partner payload now (λ words. passed old words new) over
    talked_over over wire partner payload now line next old new count s last =
        record { heard = s.heard; to = s.to; talking = s.talking; ends = inl (s.over_is ∙ last) }

    -- where no byte was left
    pub talked_out : (over : Type 0) (wire : Wire) (partner : P) (payload : List ℕ) (now : P) (line line' : Line)
        (next : Next) (old mid new : C) (count : ℕ) (s : Sits wire partner payload now line next old mid count)
        → HearsNothing passed s.to.wire line' mid new → over
        → Talked answers interrupts wire partner payload now (λ words. passed old words new) over
    talked_out over wire partner payload now line line' next old mid new count s hears is =
        let t = s.talking in
        record {
          heard = s.heard;
          to = s.to;
          talking = record {
            first = t.first;
            from = t.from;
            answered = t.answered;
            words = t.words;
            talks = t.talks;
            partner_is = t.partner_is;
            passed_is = subst (λ (l : List Word). passed old l new) (append-nil (saying t.first ++ t.words))
                (goes_on old mid new (saying t.first ++ t.words) [] t.passed_is hears.nothing);
          };
          ends = inr (inl is);
        }

    -- or as many were heard as are
    pub talked_no_more : (over : Type 0) (wire : Wire) (partner : P) (payload : List ℕ) (now : P) (line : Line)
        (next : Next) (old new : C) (count : ℕ) → Sits wire partner payload now line next old new count
        → heard_max ≤ count
        → Talked answers interrupts wire partner payload now (λ words. passed old words new) over
    talked_no_more over wire partner payload now line next old new count s most =
        let ends = inr (inr (subst (λ (n : ℕ). heard_max ≤ n) (sym s.counted) most)) in
        record { heard = s.heard; to = s.to; talking = s.talking; ends = ends }

-- ---- over two streams

pub said_ok : {E : Type 0} (result : Result Unit E) (left got got' : Option (List ℕ)) (bytes : List ℕ)
    → OnOk result (Appends got got' bytes) → OnOk result (StreamsPassed left left got got' (saying bytes))
said_ok (Ok done) left got got' bytes given = saying_passed left got got' bytes given
said_ok (Err fault) left got got' bytes given = tt
