-- The threads of one core more.
use Rattle.std.proofs.Common.{◌≡◌, ℕ, ◌+◌, List, ◌++◌, sym, ap, ◌∙◌, add-one, append_assoc}
use Rattle.gdb_packets.specs.Replies.{thread_text, threads_text}
use Rattle.std.proofs.lemmas.List.{append-nil}

pub threads_none : (out : List ℕ) → out ≡ out ++ threads_text 0
unfolding threads_text
threads_none out = sym (append-nil out)

threads_more : (cores : ℕ) → threads_text (cores + 1) ≡ threads_text cores ++ thread_text cores
unfolding threads_text
threads_more cores = ap threads_text (add-one cores)

pub threads_step : (first old new : List ℕ) (core : ℕ) → old ≡ first ++ threads_text core →
    new ≡ old ++ thread_text core → new ≡ first ++ threads_text (core + 1)
threads_step first old new core before more =
    more ∙ ap (λ xs. xs ++ thread_text core) before ∙ append_assoc first (threads_text core) (thread_text core)
    ∙ ap (λ xs. first ++ xs) (sym (threads_more core))
