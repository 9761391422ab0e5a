use Rattle.core_file.specs.CoreFiles.{header, memory_segment, notes_segment}
use Rattle.std.proofs.Common.{◌++◌}
use Rattle.core_file.proofs.FileParts.{on_ok, put_both}
use Rattle.core_file.proofs.core_bytes.put_headers.Goals as goal

pub returns : goal.returns
returns c =
    let old = c.args.out.now.items in
    let first = c.put_words.new.out.items in
    let new = c.put_words-3.new.out.items in
    on_ok c.put_words-3.result c.put_words-3.ensures (λ third.
    put_both old first new header (notes_segment c.args.cores ++ memory_segment c.args.cores c.args.words)
    c.in_ok-put_words.ensures
    (put_both first c.put_words-2.new.out.items new (notes_segment c.args.cores)
    (memory_segment c.args.cores c.args.words) c.in_ok-put_words-2.ensures third))
