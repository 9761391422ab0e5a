use Rattle.std.proofs.Common.{string_bytes}
use Rattle.std.specs.Prelude.{codes}
use Rattle.std.specs.List.{flat_map}
use Rattle.gdb_places.specs.Threads.{wait_text}
use Rattle.gdb_places.proofs.WaitTexts.{joined, on_ok}
use Rattle.gdb_places.proofs.threads.put_some.Goals as goal

pub returns : goal.returns
returns c =
    on_ok c.put_list.result (λ list. joined (string_bytes c.args.text.now) (string_bytes c.put_words.new.text)
    (string_bytes c.put_list.new.text) (codes ", waits for") (flat_map wait_text c.args.waits.now)
    c.in_ok-put_words.ensures list) c.put_list.ensures
