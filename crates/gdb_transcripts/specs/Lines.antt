-- What the lines of a stored session say: what gdb sends stands behind `> `, and what it is told behind `< `.
use Rattle.std.specs.Prelude.{ℕ, List, ◌≡◌, ◌≢◌, ◌++◌, [], codes}
use Rattle.gdb_transcripts.specs.declared.lines.Line.{Line}
use Rattle.gdb_transcripts.specs.declared.lines.Line.TheVariants.{Packet, Interrupt, Answer, Silence, Blank, Unknown}

-- the text begins so
abbrev pub BeginsWith : (text head : List ℕ) → Type 0
BeginsWith text head = (rest : List ℕ) × text ≡ head ++ rest

-- what a line says
abbrev pub Says : List ℕ → Line → Type 0
Says text (Packet payload) = (text ≡ codes "> " ++ payload.now) × ¬ BeginsWith payload.now (codes "(")
Says text Interrupt = BeginsWith text (codes "> (")
Says text (Answer payload) = (text ≡ codes "< " ++ payload.now) × (payload.now ≢ codes "None")
Says text Silence = text ≡ codes "< None"
Says text Blank = text ≡ []
Says text Unknown = (text ≢ []) × ¬ BeginsWith text (codes "> ") × ¬ BeginsWith text (codes "< ")
