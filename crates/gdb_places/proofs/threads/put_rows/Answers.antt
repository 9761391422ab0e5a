use Rattle.std.proofs.Common.{string_bytes}
use Rattle.gdb_places.proofs.RowsMore.{rows_none, rows_step}
use Rattle.gdb_places.proofs.threads.put_rows.Goals as goal

pub loop-core-init : goal.loop-core-init
loop-core-init c = rows_none c.args.place.now (string_bytes c.args.text.now)

pub loop-core-preserved : goal.loop-core-preserved
loop-core-preserved c =
    rows_step c.args.place.now (string_bytes c.args.text.now) (string_bytes c.loop-core.text)
    (string_bytes c.put_row.new.text) c.loop-core.core c.loop-core.invariant c.in_ok-put_row.ensures
