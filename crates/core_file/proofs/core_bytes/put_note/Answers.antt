use Rattle.std.proofs.Common.{List, ℕ, [], ◌∷◌, ◌++◌, ◌+◌, drop, replicate, take}
use Rattle.core_file.proofs.FileParts.{on_ok, put_both}
use Rattle.core_file.proofs.core_bytes.put_note.Goals as goal

pub returns : goal.returns
returns c =
    let core = c.args.core.now in
    let new = c.put_words-5.new.out.items in
    let status : List ℕ = core.pc ∷ [] in
    let others : List ℕ = take 31 (drop 1 core.registers) in
    on_ok c.put_words-5.result c.put_words-5.ensures (λ fifth.
    put_both c.args.out.now.items c.put_words.new.out.items new
    (5 ∷ 204 ∷ 1 ∷ 1163022147 ∷ 0 ∷ 5 ∷ 0 ∷ 0 ∷ 5 ∷ 0 ∷ 0 ∷ (core.id + 1) ∷ [])
    (replicate 11 0 ++ (status ++ (others ++ 0 ∷ []))) c.in_ok-put_words.ensures
    (put_both c.put_words.new.out.items c.put_words-2.new.out.items new (replicate 11 0)
    (status ++ (others ++ 0 ∷ [])) c.in_ok-put_words-2.ensures
    (put_both c.put_words-2.new.out.items c.put_words-3.new.out.items new status (others ++ 0 ∷ [])
    c.in_ok-put_words-3.ensures
    (put_both c.put_words-3.new.out.items c.put_words-4.new.out.items new others (0 ∷ [])
    c.in_ok-put_words-4.ensures fifth))))
