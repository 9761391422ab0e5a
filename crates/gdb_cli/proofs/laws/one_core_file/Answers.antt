use Rattle.gdb_cli.proofs.CoreLemmas as lemmas
use Rattle.gdb_cli.proofs.laws.one_core_file.Goals as goal

pub returns : goal.returns
returns c = lemmas.one_core_file c.one_cut_each.ensures.least c.one_cut_each.ensures.greatest c.one_state.ensures
