-- Rule: where `goto NAME` goes: GoesToMark
-- Cuts with names, to which the place goes.
use Rattle.std.specs.Prelude.{ℕ, List, ◌++◌, codes, Option, Some, None}
use Rattle.debug_place.specs.Places.{Placed, cut_at}
use Rattle.cut_marks.specs.declared.marks.Mark.{Mark}
use Rattle.cut_marks.specs.Marks.{counts_of, mark_of, with_mark}
use Rattle.gdb_commands.specs.declared.commands.Command.{Command}
use Rattle.gdb_commands.specs.declared.commands.Command.TheVariants as commands
use Rattle.gdb_commands.specs.Lines.{line}
use Rattle.gdb_monitor.specs.Moves.{GoesToCut, Tells}

-- the marks behind a command at a place: `mark NAME` gives the place's cut this name
abbrev pub marks_after : Command → Placed → List Mark → List Mark
marks_after (commands.Mark name) place marks = with_mark (mark_of name (cut_at place)) marks
marks_after _ place marks = marks

abbrev pub no_mark_text : (name : List ℕ) → List ℕ
no_mark_text name =
    line (codes "rtr_gdb: no mark '" ++ name ++ codes "'; goto takes C:N, N N .. or the name of a mark")

-- to the cut with the counts of a mark, if there is one
abbrev pub GoesToMarked : Option (List ℕ) → (name : List ℕ) → (old new : Placed) → (told : List ℕ) → Type 0
GoesToMarked None name old new told = Tells old new told (no_mark_text name)
GoesToMarked (Some counts) name old new told = GoesToCut counts old new told

-- `goto NAME`
abbrev pub GoesToMark : (name : List ℕ) → List Mark → (old new : Placed) → (told : List ℕ) → Type 0
GoesToMark name marks old new told = GoesToMarked (counts_of name marks) name old new told
