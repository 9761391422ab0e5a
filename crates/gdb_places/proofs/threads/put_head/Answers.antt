use Rattle.std.proofs.Common.{◌+◌, string_bytes}
use Rattle.gdb_places.specs.Threads.{id_text, names_text}
use Rattle.gdb_places.proofs.WaitTexts.{joined, on_ok}
use Rattle.gdb_places.proofs.threads.put_head.Goals as goal

pub returns : goal.returns
returns c =
    on_ok c.put_names.result (λ names. joined (string_bytes c.args.text.now) (string_bytes c.put_id.new.text)
    (string_bytes c.put_names.new.text) (id_text (c.args.core + 1)) (names_text c.args.core)
    c.in_ok-put_id.ensures names) c.put_names.ensures
