-- Rule: the meaning of a command of the debugger's user: command_of
-- What a command's text means. Each has a meaning: one that is no command is kept by its first word.
use Rattle.std.specs.Prelude.{ℕ, List, [], ◌∷◌, Option, Some, None, codes, is_some, unwrap_or, if◌then◌else◌}
use Rattle.std.specs.Option.{option_and_then, option_map, option_or}
use Rattle.std.specs.Str.{bytes_eq}
use Rattle.rtr_types.specs.declared.instr.Instr.{Instr}
use Rattle.gdb_commands.specs.declared.commands.Command.{Command}
use Rattle.gdb_commands.specs.declared.commands.Command.TheVariants.{Cut, GoTo, GoToCut, Earliest, Latest, Edges}
use Rattle.gdb_commands.specs.declared.commands.Command.TheVariants.{Writer, Readers, History, Conflicts, Why}
use Rattle.gdb_commands.specs.declared.commands.Command.TheVariants.{Decision, Decisions, Order, Lead, Slack}
use Rattle.gdb_commands.specs.declared.commands.Command.TheVariants.{Last, Other, When, Info, GoToMark, Mark, Marks}
use Rattle.gdb_commands.specs.declared.commands.Command.TheVariants.{Calls, Trace, Unmeant}
use Rattle.gdb_commands.specs.declared.filters.Filter.{Filter}
use Rattle.gdb_commands.specs.declared.filters.Filter.TheVariants.{Every, Writes, ByCore}
use Rattle.gdb_commands.specs.Numbers.{address_of, core_of, count_of, named_instr, word_of}
use Rattle.gdb_commands.specs.Words.{words_of}

-- one argument, and no other
abbrev pub only : List (List ℕ) → Option (List ℕ)
only [] = None
only (word ∷ []) = Some word
only (word ∷ other ∷ rest) = None

-- the counts of a cut
abbrev pub counts_of : List (List ℕ) → Option (List ℕ)
counts_of [] = Some []
counts_of (word ∷ rest) = option_and_then (λ n. option_map (λ counts. n ∷ counts) (counts_of rest)) (count_of word)

-- `C`, `C:N` and `ADDR`
abbrev pub one_core : List (List ℕ) → Option ℕ
one_core arguments = option_and_then core_of (only arguments)

abbrev pub one_instr : List (List ℕ) → Option Instr
one_instr arguments = option_and_then named_instr (only arguments)

abbrev pub one_word : List (List ℕ) → Option ℕ
one_word arguments = option_and_then word_of (only arguments)

abbrev pub one_address : List (List ℕ) → Option ℕ
one_address arguments = option_and_then address_of (only arguments)

-- `goto C:N` and `goto N N ..`
abbrev pub spot_of : List (List ℕ) → Option Command
spot_of arguments =
    option_or (option_map GoTo (one_instr arguments)) (option_map GoToCut (counts_of arguments))

-- and `goto NAME`, where the name is neither
abbrev pub goto_of : List (List ℕ) → Option Command
goto_of arguments = option_or (spot_of arguments) (option_map GoToMark (only arguments))

-- `mark NAME`, where `goto NAME` means the name
abbrev pub mark_of : List (List ℕ) → Option Command
mark_of arguments = if is_some (spot_of arguments) then None else option_map Mark (only arguments)

-- `cut`, `when`, `marks`, `decisions` and `info`
abbrev pub alone : Command → List (List ℕ) → Option Command
alone command [] = Some command
alone command (word ∷ rest) = None

-- `C:N C:N`
abbrev pub two_instrs : List (List ℕ) → Option (Instr × Instr)
two_instrs [] = None
two_instrs (word ∷ []) = None
two_instrs (word ∷ next ∷ []) = option_and_then (λ x. option_map (λ y. (x, y)) (named_instr next)) (named_instr word)
two_instrs (word ∷ next ∷ more ∷ rest) = None

-- `order C:N C:N`, `decision C:N C:N` and `other C:N C:N`
abbrev pub order_of : List (List ℕ) → Option Command
order_of arguments = option_map (λ p. Order p.0 p.1) (two_instrs arguments)

abbrev pub decision_of : List (List ℕ) → Option Command
decision_of arguments = option_map (λ p. Decision p.0 p.1) (two_instrs arguments)

abbrev pub other_of : List (List ℕ) → Option Command
other_of arguments = option_map (λ p. Other p.0 p.1) (two_instrs arguments)

-- `history ADDR`, `history ADDR writes` and `history ADDR core C`
abbrev pub filter_of : List (List ℕ) → Option Filter
filter_of [] = Some Every
filter_of (word ∷ []) = if bytes_eq word (codes "writes") then Some Writes else None
filter_of (word ∷ next ∷ []) = if bytes_eq word (codes "core") then option_map ByCore (core_of next) else None
filter_of (word ∷ next ∷ more ∷ rest) = None

abbrev pub history_of : List (List ℕ) → Option Command
history_of [] = None
history_of (word ∷ rest) = option_and_then (λ w. option_map (λ f. History w f) (filter_of rest)) (word_of word)

-- `trace C:N K`, and `trace C:N`, which tells ten instructions on each side
abbrev pub near_of : List (List ℕ) → Option ℕ
near_of [] = Some 10
near_of (word ∷ []) = count_of word
near_of (word ∷ next ∷ rest) = None

abbrev pub trace_of : List (List ℕ) → Option Command
trace_of [] = None
trace_of (word ∷ rest) = option_and_then (λ at. option_map (λ near. Trace at near) (near_of rest)) (named_instr word)

-- `lead C` and `lead all`
abbrev pub leader_of : List ℕ → Option Command
leader_of word =
    if bytes_eq word (codes "all") then Some (Lead None) else option_map (λ core. Lead (Some core)) (core_of word)

abbrev pub lead_of : List (List ℕ) → Option Command
lead_of arguments = option_and_then leader_of (only arguments)

-- the commands that say where the place is, or move it, `order`, `decision` and `lead`
abbrev pub place_named : (name : List ℕ) → (arguments : List (List ℕ)) → Option Command
place_named name arguments =
    if bytes_eq name (codes "cut") then alone Cut arguments else
    if bytes_eq name (codes "earliest") then option_map Earliest (one_core arguments) else
    if bytes_eq name (codes "latest") then option_map Latest (one_core arguments) else
    if bytes_eq name (codes "order") then order_of arguments else
    if bytes_eq name (codes "decision") then decision_of arguments else
    if bytes_eq name (codes "lead") then lead_of arguments else None

-- the commands that go to a word's last write, or tell how far cores may move, why one waited, what the other order
-- comes to, where all cores are, and which cuts are marked
abbrev pub cause_named : (name : List ℕ) → (arguments : List (List ℕ)) → Option Command
cause_named name arguments =
    if bytes_eq name (codes "last") then option_map Last (one_word arguments) else
    if bytes_eq name (codes "slack") then option_map Slack (one_core arguments) else
    if bytes_eq name (codes "why") then option_map Why (one_instr arguments) else
    if bytes_eq name (codes "other") then other_of arguments else
    if bytes_eq name (codes "when") then alone When arguments else
    if bytes_eq name (codes "marks") then alone Marks arguments else None

-- the commands that ask for a word or an instruction of the run, `decisions` and `info`
abbrev pub run_named : (name : List ℕ) → (arguments : List (List ℕ)) → Option Command
run_named name arguments =
    if bytes_eq name (codes "edges") then option_map Edges (one_instr arguments) else
    if bytes_eq name (codes "writer") then option_map Writer (one_word arguments) else
    if bytes_eq name (codes "readers") then option_map Readers (one_word arguments) else
    if bytes_eq name (codes "history") then history_of arguments else
    if bytes_eq name (codes "conflicts") then option_map Conflicts (one_instr arguments) else
    if bytes_eq name (codes "decisions") then alone Decisions arguments else
    if bytes_eq name (codes "info") then alone Info arguments else None

-- the commands that ask which instructions cores took
abbrev pub path_named : (name : List ℕ) → (arguments : List (List ℕ)) → Option Command
path_named name arguments =
    if bytes_eq name (codes "trace") then trace_of arguments else
    if bytes_eq name (codes "calls") then option_map Calls (one_address arguments) else None

-- the commands that ask for a word, an instruction, a pc or the whole of the run
abbrev pub asked_named : (name : List ℕ) → (arguments : List (List ℕ)) → Option Command
asked_named name arguments = option_or (run_named name arguments) (path_named name arguments)

-- a command by its name
abbrev pub named : (name : List ℕ) → (arguments : List (List ℕ)) → Option Command
named name arguments =
    option_or (place_named name arguments) (option_or (cause_named name arguments) (asked_named name arguments))

-- the words of a command
abbrev pub meaning : List (List ℕ) → Option Command
meaning [] = None
meaning (name ∷ arguments) =
    if bytes_eq name (codes "goto") then goto_of arguments else
    if bytes_eq name (codes "mark") then mark_of arguments else named name arguments

-- the first word; none, as an empty one, where there are no words
abbrev pub first_word : List (List ℕ) → List ℕ
first_word [] = []
first_word (name ∷ arguments) = name

-- what a text means
abbrev pub command_of : List ℕ → Command
command_of text = unwrap_or (meaning (words_of text)) (Unmeant (first_word (words_of text)))
