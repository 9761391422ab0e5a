-- Rule: what is told of a text that is no command: unmeant_text
-- What is told of a text that is no command: how the command with its first word goes, or which commands there are.
use Rattle.std.specs.Prelude.{ℕ, List, ◌++◌, Option, Some, None, codes, if◌then◌else◌}
use Rattle.std.specs.Option.{option_or}
use Rattle.std.specs.Str.{bytes_eq}
use Rattle.gdb_commands.specs.Lines.{line}

-- the commands that say where the place is, or move it
abbrev pub moving_form : (name : List ℕ) → Option (List ℕ)
moving_form name =
    if bytes_eq name (codes "cut") then Some (codes "cut") else
    if bytes_eq name (codes "goto") then Some (codes "goto C:N, goto N N .. or goto NAME") else
    if bytes_eq name (codes "earliest") then Some (codes "earliest C") else
    if bytes_eq name (codes "latest") then Some (codes "latest C") else
    if bytes_eq name (codes "last") then Some (codes "last ADDR") else
    if bytes_eq name (codes "decision") then Some (codes "decision C:N C:N") else
    if bytes_eq name (codes "when") then Some (codes "when") else None

-- the commands by which cores lead, or that ask for causes
abbrev pub cause_form : (name : List ℕ) → Option (List ℕ)
cause_form name =
    if bytes_eq name (codes "lead") then Some (codes "lead C or lead all") else
    if bytes_eq name (codes "slack") then Some (codes "slack C") else
    if bytes_eq name (codes "why") then Some (codes "why C:N") else
    if bytes_eq name (codes "order") then Some (codes "order C:N C:N") else
    if bytes_eq name (codes "other") then Some (codes "other C:N C:N") else
    if bytes_eq name (codes "decisions") then Some (codes "decisions") else None

-- the commands that ask for a word, an instruction or the whole of the run
abbrev pub asking_form : (name : List ℕ) → Option (List ℕ)
asking_form name =
    if bytes_eq name (codes "edges") then Some (codes "edges C:N") else
    if bytes_eq name (codes "conflicts") then Some (codes "conflicts C:N") else
    if bytes_eq name (codes "writer") then Some (codes "writer ADDR") else
    if bytes_eq name (codes "readers") then Some (codes "readers ADDR") else
    if bytes_eq name (codes "info") then Some (codes "info") else
    if bytes_eq name (codes "history") then Some (codes "history ADDR, history ADDR writes or history ADDR core C")
    else None

-- the commands that mark cuts, or ask which instructions cores took
abbrev pub mark_form : (name : List ℕ) → Option (List ℕ)
mark_form name =
    if bytes_eq name (codes "mark") then Some (codes "mark NAME, a name that is no C:N and no count") else
    if bytes_eq name (codes "marks") then Some (codes "marks") else
    if bytes_eq name (codes "trace") then Some (codes "trace C:N or trace C:N K") else
    if bytes_eq name (codes "calls") then Some (codes "calls ADDR") else None

-- how the command with this name goes, if there is one
abbrev pub form_of : (name : List ℕ) → Option (List ℕ)
form_of name =
    option_or (moving_form name) (option_or (cause_form name) (option_or (asking_form name) (mark_form name)))

abbrev pub form_text : (form : List ℕ) → List ℕ
form_text form = line (codes "rtr_gdb: the command is monitor " ++ form)

-- the commands that there are
abbrev pub names_text : List ℕ
names_text = codes "cut, when, goto, mark, marks, earliest, latest, last, decision, other, lead, slack, why, "
    ++ codes "edges, order, conflicts, writer, readers, history, decisions, trace, calls and info"

abbrev pub unknown_text : (name : List ℕ) → List ℕ
unknown_text name = line (codes "rtr_gdb: no command '" ++ name ++ codes "'; monitor takes " ++ names_text)

abbrev pub by_form : (name : List ℕ) → Option (List ℕ) → List ℕ
by_form name None = unknown_text name
by_form name (Some form) = form_text form

abbrev pub unmeant_text : (name : List ℕ) → List ℕ
unmeant_text name = by_form name (form_of name)
