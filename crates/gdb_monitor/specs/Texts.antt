-- What is told of a place.
use Rattle.std.specs.Prelude.{ℕ, List, ◌++◌, take, codes, decimal}
use Rattle.rtr_types.specs.declared.cut.Cut.{Cut}
use Rattle.debug_place.specs.Places.{Placed, cut_at}
use Rattle.gdb_commands.specs.Lines.{counts_text, line}

-- how many instructions of each core a cut has
abbrev pub cut_counts : Cut → List ℕ
cut_counts cut = counts_text (take cut.cores cut.counts)

abbrev pub cut_text : Cut → List ℕ
cut_text cut = line (codes "cut" ++ cut_counts cut)

-- where the place is
abbrev pub here_text : Placed → List ℕ
here_text place = cut_text (cut_at place)

-- the cut that was asked for isn't closed; this one is the least that is, and contains it
abbrev pub open_text : Cut → List ℕ
open_text hull = line (codes "rtr_gdb: not closed; the least closed cut that contains it is" ++ cut_counts hull)

-- ---- what isn't there

abbrev pub no_core_text : (core : ℕ) → List ℕ
no_core_text core = line (codes "rtr_gdb: no core " ++ decimal core)

abbrev pub no_counts_text : List ℕ
no_counts_text = line (codes "rtr_gdb: no such counts: goto takes one for each core, at most its total")
