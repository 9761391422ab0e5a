-- The words of a text, piece by piece.
use Rattle.std.proofs.Common.{◌≡◌, ℕ, List, [], ◌∷◌, ◌++◌, Some, None, sym, ap, ◌∙◌, append_assoc}
use Rattle.std.proofs.lemmas.List.Elements.{filter-append}
use Rattle.gdb_packets.specs.Texts.{cut_at, pieces_at}
use Rattle.gdb_packets.proofs.TextLemmas.{cut_pieces, pieces_are}
use Rattle.gdb_commands.specs.Words.{is_word, words_in, words_of}

-- a piece more
pub word_more : (words new : List (List ℕ)) (text rest front more : List ℕ) →
    words_of text ≡ words ++ words_of rest → Some (front, more) ≡ cut_at 32 rest →
    new ≡ words ++ words_in (front ∷ []) → words_of text ≡ new ++ words_of more
word_more words new text rest front more before cut added =
    before
    ∙ ap (λ ws. words ++ ws)
    (ap words_in (pieces_are 32 rest ∙ ap (cut_pieces 32 rest) (sym cut))
    ∙ filter-append is_word (front ∷ []) (pieces_at 32 more))
    ∙ sym (append_assoc words (words_in (front ∷ [])) (words_of more))
    ∙ ap (λ ws. ws ++ words_of more) (sym added)

-- the last piece
pub word_last : (words new : List (List ℕ)) (text rest : List ℕ) → words_of text ≡ words ++ words_of rest →
    None ≡ cut_at 32 rest → new ≡ words ++ words_in (rest ∷ []) → new ≡ words_of text
word_last words new text rest before cut added =
    added
    ∙ ap (λ ws. words ++ ws) (sym (ap words_in (pieces_are 32 rest ∙ ap (cut_pieces 32 rest) (sym cut))))
    ∙ sym before
