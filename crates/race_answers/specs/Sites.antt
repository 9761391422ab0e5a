-- Where instructions stand in the program.
use Rattle.std.specs.Prelude.{ℕ, ◌&&◌, nat_eq, Bool, List, Option}
use Rattle.std.specs.Option.{option_eq, option_map}
use Rattle.rtr_types.specs.declared.access.Access.{Access}
use Rattle.rtr_types.specs.declared.instr.Instr.{Instr}
use Rattle.race_queries.specs.declared.ends.Ends.{Ends}
use Rattle.race_answers.specs.declared.sites.Pair.{Pair}
use Rattle.race_answers.specs.declared.sites.Site.{Site}
use Rattle.race_answers.specs.Pcs.{pc_in}

-- where an instruction stands in the program, and the word that it accesses, if it accesses one
abbrev pub site_of : (pcs : List (List ℕ)) → Instr → Option Access → Site
site_of pcs at access = record { pc = pc_in pcs at; word = option_map (λ a. a.word) access }

-- the sites of an edge
abbrev pub pair_of : (pcs : List (List ℕ)) → Ends → Pair
pair_of pcs e = record { from = site_of pcs e.edge.from e.from; to = site_of pcs e.edge.to e.to }

-- the same, the other way round
abbrev pub turned : Pair → Pair
turned pair = record { from = pair.to; to = pair.from }

abbrev pub is_same_site : Site → Site → Bool
is_same_site x y = nat_eq x.pc y.pc && option_eq nat_eq x.word y.word

abbrev pub is_same_pair : Pair → Pair → Bool
is_same_pair x y = is_same_site x.from y.from && is_same_site x.to y.to
