-- Rule: what a packet of gdb asks: ask_of
-- What packets mean. Each has a meaning: one that begins as a packet with arguments and goes on otherwise is malformed,
-- and every other is unknown.
use Rattle.std.specs.Prelude.{◌≡◌, ℕ, ◌-◌, ◌==◌, Bool, true, false, List, [], ◌∷◌, Option, Some, None, Result, Ok, Err}
use Rattle.std.specs.Prelude.{codes, is_some, unwrap_or, if◌then◌else◌}
use Rattle.std.specs.Option.{option_and_then, option_map, option_or}
use Rattle.std.specs.Str.{bytes_eq}
use Rattle.hex.specs.Hex.{decode_of}
use Rattle.hex.specs.declared.error.FromHexError.{FromHexError}
use Rattle.gdb_packets.specs.declared.asks.Ask as asks
use Rattle.gdb_packets.specs.declared.asks.Ask.TheVariants as whole_asks
use Rattle.gdb_packets.specs.declared.asks.Plain.{Plain}
use Rattle.gdb_packets.specs.declared.asks.Plain.TheVariants as plain
use Rattle.gdb_packets.specs.declared.asks.Action.{Action}
use Rattle.gdb_packets.specs.declared.asks.Span.{Span}
use Rattle.gdb_packets.specs.declared.asks.Thread.{Thread}
use Rattle.gdb_packets.specs.declared.asks.Thread.TheVariants.{All, Any, Core}
use Rattle.gdb_packets.specs.declared.asks.PointKind.{PointKind}
use Rattle.gdb_packets.specs.declared.asks.PointKind.TheVariants.{Software, Hardware, Watch}
use Rattle.gdb_packets.specs.declared.asks.Watch.TheVariants.{Write, Read, Access}
use Rattle.gdb_packets.specs.Numbers.{number_of}
use Rattle.gdb_packets.specs.Texts.{behind, cut_at, pieces_at}

-- the thread of a number: 0 is any, and N is core N - 1
abbrev pub numbered : ℕ → Thread
numbered n = if n == 0 then Any else Core (n - 1)

-- TID
abbrev pub thread_of : List ℕ → Option Thread
thread_of text = if bytes_eq text (codes "-1") then Some All else option_map numbered (number_of text)

-- the span that two texts make
abbrev pub spanned : List ℕ × List ℕ → Option Span
spanned p = option_and_then (λ at. option_map (λ len. record { at = at; len = len }) (number_of p.1)) (number_of p.0)

-- `AT,LEN`
abbrev pub span_of : List ℕ → Option Span
span_of text = option_and_then spanned (cut_at 44 text)

-- what is made of an argument, or that there is none
abbrev pub made : {A : Type 0} → (A → Plain) → Option A → Plain
made make argument = unwrap_or (option_map make argument) plain.Malformed

-- what a reader may read behind some bytes and a maker may make of it, where a text begins with them
abbrev pub Asks : {A : Type 0} → (List ℕ → Option A → Type 0) → (A → Plain → Type 0) → Option (List ℕ) → Option Plain →
    Type 0
Asks {A} Reads Makes text asked =
    (reads : List ℕ → Option A) (makes : A → Plain) →
    ((rest : List ℕ) (argument : Option A) → Reads rest argument → argument ≡ reads rest) →
    ((argument : A) (plain : Plain) → Makes argument plain → plain ≡ makes argument) →
    asked ≡ option_map (λ rest. made makes (reads rest)) text

-- what a word is in a table, exactly
abbrev pub in_table : List (List ℕ × Plain) → List ℕ → Option Plain
in_table [] p = None
in_table (row ∷ rows) p = if bytes_eq p row.0 then Some row.1 else in_table rows p

-- the packets of one word: what is there, a move or the end, threads, and how answers are sent
abbrev pub words : List (List ℕ × Plain)
words =
    (codes "?", plain.LastStop) ∷ (codes "g", plain.Registers)
    ∷ (codes "vCont?", plain.ResumeKinds) ∷ (codes "qC", plain.ToldThread)
    ∷ (codes "bs", plain.StepBack) ∷ (codes "bc", plain.GoBack) ∷ (codes "D", plain.Detach) ∷ (codes "k", plain.Quit)
    ∷ (codes "qfThreadInfo", plain.ThreadsFirst) ∷ (codes "qsThreadInfo", plain.ThreadsRest)
    ∷ (codes "QStartNoAckMode", plain.StopAcks) ∷ []

-- a packet is one of these words
abbrev pub word_asks : List ℕ → Option Plain
word_asks p = in_table words p

-- packets that mean the same whatever follows their first bytes
abbrev pub head_asks : List ℕ → Option Plain
head_asks p =
    if is_some (behind p (codes "qSupported")) then Some plain.Features else
    if is_some (behind p (codes "qAttached")) then Some plain.Attached else
    if is_some (behind p (codes "D;")) then Some plain.Detach else
    if is_some (behind p (codes "vKill;")) then Some plain.Kill else None

-- a write, whatever it writes
abbrev pub write_asks : List ℕ → Option Plain
write_asks [] = None
write_asks (b ∷ rest) = if b == 71 then Some plain.Write else if b == 77 then Some plain.Write else if b == 80
    then Some plain.Write else if b == 88 then Some plain.Write else None

-- `HgTID`, `HcTID`, `TTID` and `qThreadExtraInfo,TID`
abbrev pub thread_asks : List ℕ → Option Plain
thread_asks p =
    option_or (option_map (λ text. made plain.LookAt (thread_of text)) (behind p (codes "Hg")))
    (option_or (option_map (λ text. made plain.MoveWith (thread_of text)) (behind p (codes "Hc")))
    (option_or (option_map (λ text. made plain.IsThere (thread_of text)) (behind p (codes "T")))
    (option_map (λ text. made plain.ThreadText (thread_of text)) (behind p (codes "qThreadExtraInfo,")))))

-- the span behind `OBJECT:OPERATION:ANNEX:`
abbrev pub other_span : List ℕ → Option Span
other_span text =
    option_and_then (λ p. option_and_then (λ q. option_and_then (λ r. span_of r.1) (cut_at 58 q.1)) (cut_at 58 p.1))
    (cut_at 58 text)

-- `qXfer:` and what stands behind it
abbrev pub part_ask : List ℕ → Plain
part_ask text =
    unwrap_or (option_or
    (option_map (λ span. made plain.TargetPart (span_of span)) (behind text (codes "features:read:target.xml:")))
    (option_map (λ span. made plain.ThreadsPart (span_of span)) (behind text (codes "threads:read::"))))
    (if is_some (other_span text) then plain.OtherPart else plain.Malformed)

-- `pN`, `mADDR,LEN` and `qXfer:..`
abbrev pub data_asks : List ℕ → Option Plain
data_asks p =
    option_or (option_map (λ text. made plain.Register (number_of text)) (behind p (codes "p")))
    (option_or (option_map (λ text. made plain.Memory (span_of text)) (behind p (codes "m")))
    (option_map part_ask (behind p (codes "qXfer:"))))

-- the kinds of points
abbrev pub point_kind : ℕ → Option PointKind
point_kind k =
    if k == 48 then Some Software else if k == 49 then Some Hardware else if k == 50 then Some (Watch Write) else
    if k == 51 then Some (Watch Read) else if k == 52 then Some (Watch Access) else None

-- `,ADDR,KIND`
abbrev pub point_span : List ℕ → Option Span
point_span text = option_and_then span_of (behind text (codes ","))

-- a point that is set or taken away
abbrev pub point : Bool → PointKind → Span → Plain
point set kind span = if set then plain.SetPoint kind span else plain.ClearPoint kind span

-- `K,ADDR,KIND` of a point; one of another kind is unknown
abbrev pub point_ask : Bool → List ℕ → Plain
point_ask set [] = plain.Unknown
point_ask set (k ∷ rest) =
    unwrap_or (option_map (λ kind. made (point set kind) (point_span rest)) (point_kind k)) plain.Unknown

-- `ZK,ADDR,KIND` and `zK,ADDR,KIND`
abbrev pub point_asks : List ℕ → Option Plain
point_asks p =
    option_or (option_map (point_ask true) (behind p (codes "Z"))) (option_map (point_ask false) (behind p (codes "z")))

-- what a packet asks that has no list in it
abbrev pub plain_of : List ℕ → Plain
plain_of p =
    unwrap_or (option_or (option_or (word_asks p) (option_or (head_asks p) (write_asks p)))
    (option_or (thread_asks p) (option_or (data_asks p) (point_asks p)))) plain.Unknown

-- a letter and a signal, which doesn't matter
abbrev pub with_signal : (text letter : List ℕ) → Bool → Option Bool
with_signal text letter step =
    option_and_then (λ signal. option_map (λ n. step) (number_of signal)) (behind text letter)

-- `s` or `SNN` steps, `c` or `CNN` goes
abbrev pub steps_by : List ℕ → Option Bool
steps_by text =
    if bytes_eq text (codes "c") then Some false else
    if bytes_eq text (codes "s") then Some true else
    option_or (with_signal text (codes "C") false) (with_signal text (codes "S") true)

-- how, and who
abbrev pub acted : List ℕ → Option Thread → Option Action
acted how who = option_and_then (λ step. option_map (λ thread. record { step = step; who = thread }) who) (steps_by how)

-- `ACTION` for all, or `ACTION:TID`
abbrev pub action_of : List ℕ → Option Action
action_of text =
    unwrap_or (option_map (λ p. acted p.0 (thread_of p.1)) (cut_at 58 text)) (acted text (Some All))

-- the actions of several texts
abbrev pub actions_in : List (List ℕ) → Option (List Action)
actions_in [] = Some []
actions_in (text ∷ rest) =
    option_and_then (λ action. option_map (λ others. action ∷ others) (actions_in rest)) (action_of text)

-- `ACTION[:TID];..`
abbrev pub resume_of : List ℕ → asks.Ask
resume_of text =
    unwrap_or (option_map whole_asks.Resume (actions_in (pieces_at 59 text))) (whole_asks.Plain plain.Malformed)

-- a command's text, from what its digits spell
abbrev pub spelled_command : Result (List ℕ) FromHexError → asks.Ask
spelled_command (Ok text) = whole_asks.Command text
spelled_command (Err e) = whole_asks.Plain plain.Malformed

-- what a packet asks
abbrev pub ask_of : List ℕ → asks.Ask
ask_of p =
    unwrap_or (option_or (option_map (λ text. spelled_command (decode_of text)) (behind p (codes "qRcmd,")))
    (option_map resume_of (behind p (codes "vCont;")))) (whole_asks.Plain (plain_of p))
