-- What a session was begun with, and how the run ends.
use Rattle.std.specs.Prelude.{ℕ, List, ◌++◌, length, codes, decimal}
use Rattle.rtr_types.specs.declared.params.Params.{Params}
use Rattle.rtr_types.specs.declared.pairs.Which.{Which}
use Rattle.rtr_types.specs.declared.pairs.Which.TheVariants.{Reduced, Regulated}
use Rattle.replay_audit.specs.Audits.{Findings}
use Rattle.race_queries.specs.Ends.{log_ends}
use Rattle.what_if.specs.Recorded.{recorded_text}
use Rattle.gdb_commands.specs.Lines.{line}

abbrev pub log_name : Which → List ℕ
log_name Reduced = codes "reduced"
log_name Regulated = codes "regulated"

-- how the run was set up
abbrev pub params_text : Params → List ℕ
params_text p =
    codes "cores " ++ decimal p.cores ++ codes ", limit " ++ decimal p.limit ++ codes ", words "
    ++ line (decimal p.words)

-- the log by which the run is looked at, and how many edges it has
abbrev pub log_text : Which → (edges : ℕ) → List ℕ
log_text which edges = line (codes "log " ++ log_name which ++ codes ", edges " ++ decimal edges)

-- `info`: the two, and how each core of the recording ends
abbrev pub info_text : Findings → List ℕ
info_text a = params_text a.recording.params ++ log_text a.which (length (log_ends a)) ++ recorded_text a
