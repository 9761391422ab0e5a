-- Rule: how an answer to gdb is spelled: spelled
-- How answers are spelled.
use Rattle.std.specs.Prelude.{ℕ, zero, suc, ◌+◌, ◌==◌, List, [], ◌++◌, codes, if◌then◌else◌}
use Rattle.hex.specs.Hex.{encode_lower}
use Rattle.gdb_packets.specs.declared.asks.Watch.{Watch}
use Rattle.gdb_packets.specs.declared.asks.Watch.TheVariants.{Write, Read, Access}
use Rattle.gdb_packets.specs.declared.replies.Signal.{Signal}
use Rattle.gdb_packets.specs.declared.replies.Signal.TheVariants.{Interrupt, Illegal, Trap, Misaligned, Segment}
use Rattle.gdb_packets.specs.declared.replies.Why.{Why}
use Rattle.gdb_packets.specs.declared.replies.Why.TheVariants.{Nothing, Breakpoint, Watched, End, Begin}
use Rattle.gdb_packets.specs.declared.replies.Stop as stops
use Rattle.gdb_packets.specs.declared.replies.Reply as replies
use Rattle.gdb_packets.specs.declared.replies.Reply.TheVariants as reply
use Rattle.gdb_packets.specs.Numbers.{numeral}

-- a signal by its number
abbrev pub signal_number : Signal → List ℕ
signal_number Interrupt = codes "02"
signal_number Illegal = codes "04"
signal_number Trap = codes "05"
signal_number Misaligned = codes "0a"
signal_number Segment = codes "0b"

-- a kind of watching
abbrev pub watch_word : Watch → List ℕ
watch_word Write = codes "watch:"
watch_word Read = codes "rwatch:"
watch_word Access = codes "awatch:"

-- what a stop says beside the signal and the thread
abbrev pub why_text : Why → List ℕ
why_text Nothing = []
why_text Breakpoint = codes "swbreak:;"
why_text (Watched kind address) = watch_word kind ++ numeral address ++ codes ";"
why_text End = codes "replaylog:end;"
why_text Begin = codes "replaylog:begin;"

-- a stop: `T`, the signal, the thread, which is the core's number and one, and why
abbrev pub stop_text : stops.Stop → List ℕ
stop_text stop =
    codes "T" ++ signal_number stop.signal ++ codes "thread:" ++ numeral (stop.core + 1) ++ codes ";"
    ++ why_text stop.why

-- a core's thread in a list of them
abbrev pub thread_text : ℕ → List ℕ
thread_text core = (if core == 0 then [] else codes ",") ++ numeral (core + 1)

-- the threads of so many cores
unfoldable pub threads_text : ℕ → List ℕ
threads_text zero = []
threads_text (suc cores) = threads_text cores ++ thread_text cores

-- what this server can do
abbrev pub features_text : List ℕ
features_text =
    codes "PacketSize=1000;QStartNoAckMode+;vContSupported+;swbreak+;hwbreak+;"
    ++ codes "ReverseStep+;ReverseContinue+;qXfer:features:read+;qXfer:threads:read+"

-- the payload of an answer
abbrev pub spelled : replies.Reply → List ℕ
spelled reply.Unknown = []
spelled reply.Done = codes "OK"
spelled reply.Refused = codes "E01"
spelled reply.Absent = codes "E00"
spelled reply.Features = features_text
spelled reply.ResumeKinds = codes "vCont;c;C;s;S"
spelled reply.Attached = codes "1"
spelled (reply.ToldThread core) = codes "QC" ++ numeral (core + 1)
spelled (reply.ThreadsFirst cores) = codes "m" ++ threads_text cores
spelled reply.ThreadsRest = codes "l"
spelled (reply.Stopped stop) = stop_text stop
spelled (reply.Bytes bytes) = encode_lower bytes
spelled (reply.Output text) = codes "O" ++ encode_lower text
spelled (reply.Part text) = codes "m" ++ text
spelled (reply.LastPart text) = codes "l" ++ text
