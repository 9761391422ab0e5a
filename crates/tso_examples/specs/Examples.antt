-- Runs of two cores with store buffers, as a plain program computed them.
use Rattle.std.specs.Prelude.{◌≡◌, ℕ, ◌-◌, true, false, List, [], ◌∷◌, length, map}
use Rattle.access_times.specs.Riding.{none_riding, none_carrying}
use Rattle.image_mem.specs.Contents.{Contents}
use Rattle.rtr_types.specs.declared.params.Params.{Params}
use Rattle.rv_core.specs.declared.core_state.Stop.TheVariants.{Exit}
use Rattle.rv_core.specs.declared.outcome.LoadNote.{LoadNote}
use Rattle.tso_state.specs.States.{PlainState, all_done}
use Rattle.tso_state.specs.FinalMemory.{final_memory}
use Rattle.tso_state.specs.Runs.{accesses, outcome_at, run, totals, values_at}
use Rattle.msi_examples.specs.Followed.{Seen, seen_in, then_zeros}
use Rattle.msi_examples.specs.Images.{bytes_of_a_word, handed_over, sum}
use Rattle.tso_examples.specs.Images.{mixed, store_buffering}

-- two cores, with a limit that none of the runs reaches
abbrev pub two_cores : Contents → Params
two_cores image = record { cores = 2; limit = 10000; words = image.words }

abbrev pub seen : PlainState → Seen
seen s =
    seen_in s.image (map (λ t. t.core) s.cores) (totals s) (final_memory none_riding none_carrying s)

abbrev pub load : (count word value : ℕ) → LoadNote
load count word value = record { count = count; word = word; value = value }

-- both cores exited after so many instructions, at these pcs, with these registers and this memory
abbrev pub exits : (executed pcs : List ℕ) → List (List (ℕ × ℕ)) → List (ℕ × ℕ) → Seen
exits executed pcs registers memory =
    record { stops = Exit ∷ Exit ∷ []; executed = executed; pcs = pcs; registers = registers; memory = memory }

-- by these choices the run ends after exactly t of them, and leaves this: what each core read, the values of its logged
-- loads, and so many ordered accesses
pub record EndsSo (image : Contents) (choices : List ℕ) (t : ℕ) (left : Seen) (found : List (List LoadNote))
    (logged : List (List (ℕ × ℕ))) (ordered : ℕ) : Type 0 where
  pub ends : all_done (run image (two_cores image) (then_zeros choices) t) ≡ true
  pub not_before : all_done (run image (two_cores image) (then_zeros choices) (t - 1)) ≡ false
  pub leaves : seen (run image (two_cores image) (then_zeros choices) t) ≡ left
  pub finds : (outcome_at image (two_cores image) (then_zeros choices) t).loads ≡ found
  pub logs : values_at image (two_cores image) (then_zeros choices) t ≡ logged
  pub orders : length (accesses image (two_cores image) (then_zeros choices) t) ≡ ordered

-- all choices are 0
abbrev pub both_logged : List ℕ
both_logged = 0 ∷ 0 ∷ 0 ∷ 0 ∷ 0 ∷ 0 ∷ 0 ∷ 0 ∷ 0 ∷ 0 ∷ 0 ∷ 0 ∷ 0 ∷ 0 ∷ 0 ∷ 0 ∷ 0 ∷ 0 ∷ 0 ∷ 0 ∷ 0 ∷ 0 ∷ 0 ∷ 0 ∷ 0 ∷ 0 ∷ 0
    ∷ 0 ∷ 0 ∷ 0 ∷ []

-- Store buffering: each core runs up to its load before any store is ordered. Both loads find 0, and both are logged.
abbrev pub BothLogged : Type 0
BothLogged =
    EndsSo store_buffering both_logged 30
    (exits (7 ∷ 7 ∷ []) (0x1c ∷ 0x1c ∷ [])
    (((7, 1) ∷ (8, 16) ∷ (9, 1) ∷ []) ∷ ((6, 16) ∷ (9, 1) ∷ (10, 1) ∷ []) ∷ []) ((16, 1) ∷ (20, 1) ∷ []))
    ((load 6 20 0 ∷ []) ∷ (load 6 16 0 ∷ []) ∷ [])
    (((6, 0) ∷ []) ∷ ((6, 0) ∷ []) ∷ []) 2

-- choices that a generator drew
abbrev pub one_logged : List ℕ
one_logged = 28 ∷ 46 ∷ 43 ∷ 184 ∷ 86 ∷ 157 ∷ 128 ∷ 108 ∷ 18 ∷ 81 ∷ 220 ∷ 201 ∷ 190 ∷ 227 ∷ 137 ∷ 18 ∷ 14 ∷ 186 ∷ 238
    ∷ 163 ∷ 194 ∷ 216 ∷ 84 ∷ 90 ∷ 120 ∷ 118 ∷ 12 ∷ 90 ∷ 166 ∷ []

-- Store buffering by other choices: one load finds the new word and is ordered, the other is logged.
abbrev pub OneLogged : Type 0
OneLogged =
    EndsSo store_buffering one_logged 29
    (exits (7 ∷ 7 ∷ []) (0x1c ∷ 0x1c ∷ [])
    (((7, 1) ∷ (8, 16) ∷ (9, 1) ∷ []) ∷ ((6, 16) ∷ (9, 1) ∷ (10, 1) ∷ (11, 1) ∷ []) ∷ [])
    ((16, 1) ∷ (20, 1) ∷ []))
    ((load 6 20 0 ∷ []) ∷ (load 6 16 1 ∷ []) ∷ [])
    (((6, 0) ∷ []) ∷ ([]) ∷ []) 3

-- choices that a generator drew
abbrev pub own_store_seen : List ℕ
own_store_seen = 197 ∷ 215 ∷ 20 ∷ 132 ∷ 248 ∷ 207 ∷ 155 ∷ 244 ∷ 183 ∷ 111 ∷ 71 ∷ 144 ∷ 71 ∷ 48 ∷ 128 ∷ 75 ∷ 158 ∷ 50
    ∷ 37 ∷ 169 ∷ 241 ∷ 51 ∷ 181 ∷ 222 ∷ []

-- A core's load sees its own pending store, and is logged, since the word is another's by the time it is ordered.
abbrev pub OwnStoreSeen : Type 0
OwnStoreSeen =
    EndsSo handed_over own_store_seen 24
    (exits (5 ∷ 4 ∷ []) (0x14 ∷ 0x20 ∷ []) (((5, 7) ∷ (6, 7) ∷ []) ∷ ((10, 1) ∷ []) ∷ []) ((16, 1) ∷ []))
    ((load 4 16 7 ∷ []) ∷ (load 2 16 0 ∷ []) ∷ [])
    (((4, 7) ∷ []) ∷ ([]) ∷ []) 3

-- choices that a generator drew
abbrev pub bytes_buffered : List ℕ
bytes_buffered = 197 ∷ 215 ∷ 20 ∷ 132 ∷ 248 ∷ 207 ∷ 155 ∷ 244 ∷ 183 ∷ 111 ∷ 71 ∷ 144 ∷ 71 ∷ 48 ∷ []

-- Each core stores a byte of one word: the word has both.
abbrev pub BytesBuffered : Type 0
BytesBuffered =
    EndsSo bytes_of_a_word bytes_buffered 14
    (exits (3 ∷ 3 ∷ []) (0xc ∷ 0xc ∷ []) (((5, 5) ∷ []) ∷ ((5, 6) ∷ (10, 1) ∷ []) ∷ []) ((8, 1541) ∷ []))
    (([]) ∷ ([]) ∷ [])
    (([]) ∷ ([]) ∷ []) 2

-- choices that a generator drew
abbrev pub sums_in_turn : List ℕ
sums_in_turn = 197 ∷ 215 ∷ 20 ∷ 132 ∷ 248 ∷ 207 ∷ 155 ∷ 244 ∷ 183 ∷ 111 ∷ 71 ∷ 144 ∷ 71 ∷ 48 ∷ []

-- Each core adds to one word by an atomic memory operation: the second finds the first one's sum.
abbrev pub SumsInTurn : Type 0
SumsInTurn =
    EndsSo sum sums_in_turn 14
    (exits (4 ∷ 4 ∷ []) (0x10 ∷ 0x10 ∷ [])
    (((5, 1) ∷ (7, 32) ∷ []) ∷ ((5, 2) ∷ (6, 1) ∷ (7, 32) ∷ (10, 1) ∷ []) ∷ []) ((8, 3) ∷ []))
    ((load 3 8 0 ∷ []) ∷ (load 3 8 1 ∷ []) ∷ [])
    (([]) ∷ ([]) ∷ []) 2

-- choices that a generator drew
abbrev pub mixed_ends : List ℕ
mixed_ends = 28 ∷ 46 ∷ 43 ∷ 184 ∷ 86 ∷ 157 ∷ 128 ∷ 108 ∷ 18 ∷ 81 ∷ 220 ∷ 201 ∷ 190 ∷ 227 ∷ 137 ∷ 18 ∷ 14 ∷ 186 ∷ 238
    ∷ 163 ∷ 194 ∷ 216 ∷ 84 ∷ 90 ∷ 120 ∷ 118 ∷ 12 ∷ 90 ∷ 166 ∷ 88 ∷ 69 ∷ 184 ∷ 93 ∷ 228 ∷ 212 ∷ 186 ∷ 181 ∷ 185 ∷ 228
    ∷ 82 ∷ 204 ∷ 236 ∷ 127 ∷ 250 ∷ 142 ∷ 255 ∷ 181 ∷ 232 ∷ 236 ∷ 179 ∷ 233 ∷ 249 ∷ 113 ∷ 166 ∷ 85 ∷ 137 ∷ 245 ∷ 158
    ∷ 155 ∷ 208 ∷ 159 ∷ 106 ∷ 250 ∷ 187 ∷ []

-- Two blocks share a line, and a FENCE and an atomic memory operation wait for the pending stores.
abbrev pub MixedEnds : Type 0
MixedEnds =
    EndsSo mixed mixed_ends 64
    (exits (9 ∷ 9 ∷ []) (0x24 ∷ 0x24 ∷ [])
    (((5, 9) ∷ (6, 10) ∷ (8, 64) ∷ (9, 10) ∷ [])
    ∷ ((5, 10) ∷ (6, 19) ∷ (7, 2304) ∷ (8, 64) ∷ (9, 19) ∷ (10, 1) ∷ []) ∷ [])
    ((16, 29) ∷ (80, 2560) ∷ []))
    ((load 3 80 0 ∷ load 5 16 10 ∷ load 8 16 10 ∷ []) ∷ (load 3 80 2304 ∷ load 5 16 19 ∷ load 8 16 19 ∷ []) ∷ [])
    (([]) ∷ ((5, 19) ∷ []) ∷ []) 9
