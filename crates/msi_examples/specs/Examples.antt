-- Runs of two cores that were worked out by hand, and what each step of the first of them does.
use Rattle.std.specs.Prelude.{◌≡◌, ℕ, true, List, [], ◌∷◌, ◌++◌, Some}
use Rattle.image_mem.specs.Contents.{Contents}
use Rattle.rtr_types.specs.declared.params.Params.{Params}
use Rattle.rtr_types.specs.declared.instr.Instr.{Instr}
use Rattle.rtr_types.specs.declared.access.Access.{Access}
use Rattle.rtr_types.specs.declared.access.Kind.TheVariants.{Load, Store}
use Rattle.rv_core.specs.declared.core_state.Stop.TheVariants.{Exit, Limit}
use Rattle.rv_core.specs.declared.outcome.LoadNote.{LoadNote}
use Rattle.msi_state.specs.declared.moves.Move.{Move}
use Rattle.msi_state.specs.declared.moves.Move.TheVariants.{Core, Request, Response, FromHome}
use Rattle.msi_state.specs.Events.{Nothing, Retires, Accesses}
use Rattle.msi_state.specs.Runs.{opening_state, run}
use Rattle.msi_examples.specs.Followed.{StepTaken, Seen, followed, then_zeros, ends_at, seen, loads_by}
use Rattle.msi_examples.specs.Images.{scaled_words, handed_over, bytes_of_a_word, one_word, reader_evicts}
use Rattle.msi_examples.specs.Images.{writer_evicts, writers_evict, eight_apart, endless, sum}

-- two cores over an image, each of at most so many instructions
abbrev pub two_cores : (limit : ℕ) → Contents → Params
two_cores limit image = record { cores = 2; limit = limit; words = image.words }

-- core c's instruction with this count
abbrev pub instr : (c count : ℕ) → Instr
instr c count = record { core = c; count = count }

-- a move in which nothing retires, a local instruction, a load that finds a value, and a store
abbrev pub quiet : Move → StepTaken
quiet move = record { move = Some move; told = Nothing }

abbrev pub local : Move → Instr → StepTaken
local move at = record { move = Some move; told = Retires at }

abbrev pub loads : Move → Instr → (word value : ℕ) → StepTaken
loads move at word value =
    let a : Access = record { at = at; word = word; kind = Load; before = value; after = value } in
    record { move = Some move; told = Accesses a }

abbrev pub stores : Move → Instr → (word before after : ℕ) → StepTaken
stores move at word before after =
    let a : Access = record { at = at; word = word; kind = Store; before = before; after = after } in
    record { move = Some move; told = Accesses a }

abbrev pub load : (count word value : ℕ) → LoadNote
load count word value = record { count = count; word = word; value = value }

-- both cores exited after so many instructions, at these pcs, with these registers and this memory
abbrev pub exits : (executed pcs : List ℕ) → List (List (ℕ × ℕ)) → List (ℕ × ℕ) → Seen
exits executed pcs registers memory =
    record { stops = Exit ∷ Exit ∷ []; executed = executed; pcs = pcs; registers = registers; memory = memory }

-- by these choices and then zeros the run ends after exactly t choices, and leaves this
pub record EndsSo (image : Contents) (limit : ℕ) (choices : List ℕ) (t : ℕ) (left : Seen)
    (found : List (List LoadNote)) : Type 0 where
  pub ends : ends_at image (two_cores limit image) (then_zeros choices) t ≡ true
  pub leaves : seen (run image (two_cores limit image) (then_zeros choices) t) ≡ left
  pub finds : loads_by image (two_cores limit image) (then_zeros choices) t ≡ found

abbrev pub handing_over : List ℕ
handing_over = 0 ∷ 0 ∷ 0 ∷ 1 ∷ 1 ∷ 1 ∷ 1 ∷ 1 ∷ 1 ∷ 1 ∷ 1 ∷ 1 ∷ 1 ∷ 1 ∷ 1 ∷ 1 ∷ []

-- core 0 writes a word, core 1 reads it, with the owner's data by way of the home, and then writes it,
-- once core 0 has given up its shared copy
abbrev pub OneHandsOver : Type 0
OneHandsOver =
    followed (opening_state handed_over (two_cores 10000 handed_over)) handing_over
    ≡ local (Core 0) (instr 0 1)
    ∷ local (Core 0) (instr 0 2)
    ∷ quiet (Core 0)
    ∷ quiet (Request 0)
    ∷ stores (FromHome 0) (instr 0 3) 16 0 7
    ∷ local (Core 1) (instr 1 1)
    ∷ quiet (Core 1)
    ∷ quiet (Request 1)
    ∷ quiet (FromHome 0)
    ∷ quiet (Response 0)
    ∷ loads (FromHome 1) (instr 1 2) 16 7
    ∷ quiet (Core 1)
    ∷ quiet (Request 1)
    ∷ quiet (FromHome 0)
    ∷ quiet (Response 0)
    ∷ stores (FromHome 1) (instr 1 3) 16 7 1
    ∷ []

abbrev pub HandedOver : Type 0
HandedOver =
    EndsSo handed_over 10000 handing_over 23
    (exits (5 ∷ 4 ∷ []) (0x14 ∷ 0x20 ∷ []) (((5, 7) ∷ (6, 1) ∷ []) ∷ ((7, 7) ∷ (10, 1) ∷ []) ∷ [])
    ((16, 1) ∷ []))
    ((load 4 16 1 ∷ []) ∷ (load 2 16 7 ∷ []) ∷ [])

-- two words of one block: each core finds its own word as it left it
abbrev pub ShareFalsely : Type 0
ShareFalsely =
    EndsSo scaled_words 10000 [] 14
    (exits (4 ∷ 4 ∷ []) (0x10 ∷ 0x10 ∷ []) ([] ∷ ((5, 4) ∷ (6, 1) ∷ (10, 1) ∷ []) ∷ []) ((9, 1) ∷ []))
    ((load 3 8 0 ∷ []) ∷ (load 3 9 1 ∷ []) ∷ [])

-- bytes of one word: neither store loses the other's byte
abbrev pub StoreBytes : Type 0
StoreBytes =
    EndsSo bytes_of_a_word 10000 [] 12
    (exits (3 ∷ 3 ∷ []) (0xc ∷ 0xc ∷ []) (((5, 5) ∷ []) ∷ ((5, 6) ∷ (10, 1) ∷ []) ∷ []) ((8, 0x605) ∷ []))
    ([] ∷ [] ∷ [])

-- sums in one word: neither loses the other, and each core has the word that it found among its loads
abbrev pub SumInTurn : Type 0
SumInTurn =
    EndsSo sum 10000 [] 14
    (exits (4 ∷ 4 ∷ []) (0x10 ∷ 0x10 ∷ [])
    (((5, 1) ∷ (7, 32) ∷ []) ∷ ((5, 2) ∷ (6, 1) ∷ (7, 32) ∷ (10, 1) ∷ []) ∷ []) ((8, 3) ∷ []))
    ((load 3 8 0 ∷ []) ∷ (load 3 8 1 ∷ []) ∷ [])

-- one choice decides whose store comes last
abbrev pub left_by_two_stores : (last : ℕ) → Seen
left_by_two_stores last =
    exits (3 ∷ 3 ∷ []) (0xc ∷ 0xc ∷ []) (((5, 5) ∷ []) ∷ ((5, 6) ∷ (10, 1) ∷ []) ∷ []) ((8, last) ∷ [])

abbrev pub SecondStoresLast : Type 0
SecondStoresLast = EndsSo one_word 10000 (0 ∷ 0 ∷ 0 ∷ 0 ∷ 0 ∷ []) 12 (left_by_two_stores 6) ([] ∷ [] ∷ [])

abbrev pub FirstStoresLast : Type 0
FirstStoresLast = EndsSo one_word 10000 (0 ∷ 0 ∷ 0 ∷ 0 ∷ 1 ∷ []) 12 (left_by_two_stores 5) ([] ∷ [] ∷ [])

-- the first writer reads between two writes: core 1 reads before core 0's write, core 0 reads what it
-- wrote, and core 1 writes last
abbrev pub ReadBetweenWrites : Type 0
ReadBetweenWrites =
    EndsSo handed_over 10000 (1 ∷ 1 ∷ 1 ∷ 1 ∷ 0 ∷ 0 ∷ 0 ∷ 1 ∷ 1 ∷ 1 ∷ 1 ∷ 0 ∷ []) 19
    (exits (5 ∷ 4 ∷ []) (0x14 ∷ 0x20 ∷ []) (((5, 7) ∷ (6, 7) ∷ []) ∷ ((10, 1) ∷ []) ∷ []) ((16, 1) ∷ []))
    ((load 4 16 7 ∷ []) ∷ (load 2 16 0 ∷ []) ∷ [])

-- so a choice decides what is last, and what is between
pub record ChoiceDecides : Type 0 where
  pub second : SecondStoresLast
  pub first : FirstStoresLast
  pub between : ReadBetweenWrites

-- a reader gives its shared copy back, and is told to give it up while that Put waits at the home
abbrev pub InvMeetsPut : Type 0
InvMeetsPut =
    EndsSo reader_evicts 10000 (1 ∷ 1 ∷ 1 ∷ 1 ∷ 1 ∷ 0 ∷ 0 ∷ 0 ∷ 0 ∷ 0 ∷ 0 ∷ 0 ∷ 0 ∷ []) 20
    (exits (4 ∷ 5 ∷ []) (0x10 ∷ 0x1c ∷ []) (((5, 9) ∷ []) ∷ ((5, 10) ∷ (10, 1) ∷ []) ∷ []) ((16, 9) ∷ []))
    ([] ∷ (load 3 16 0 ∷ load 4 80 0 ∷ []) ∷ [])

-- an owner gives its copy back, and is asked to share it, or to give it up, while that Put waits
abbrev pub stalling : List ℕ
stalling = 0 ∷ 0 ∷ 0 ∷ 1 ∷ 1 ∷ 1 ∷ 1 ∷ 1 ∷ 0 ∷ 1 ∷ 0 ∷ 0 ∷ 0 ∷ []

abbrev pub ForwardMeetsPut : Type 0
ForwardMeetsPut =
    EndsSo writer_evicts 10000 stalling 20
    (exits (5 ∷ 4 ∷ []) (0x14 ∷ 0x1c ∷ []) (((5, 9) ∷ []) ∷ ((5, 10) ∷ (6, 9) ∷ (10, 1) ∷ []) ∷ [])
    ((16, 9) ∷ []))
    ((load 4 80 0 ∷ []) ∷ (load 3 16 9 ∷ []) ∷ [])

abbrev pub ForwardToOwnMeetsPut : Type 0
ForwardToOwnMeetsPut =
    EndsSo writers_evict 10000 stalling 20
    (exits (5 ∷ 4 ∷ []) (0x14 ∷ 0x1c ∷ []) (((5, 9) ∷ []) ∷ ((5, 10) ∷ (10, 1) ∷ []) ∷ []) ((16, 10) ∷ []))
    ((load 4 80 0 ∷ []) ∷ [] ∷ [])

-- so a Put is stalled in each of these ways
pub record PutIsStalled : Type 0 where
  pub invalidated : InvMeetsPut
  pub shared : ForwardMeetsPut
  pub given_up : ForwardToOwnMeetsPut

-- a cache holds two blocks whose numbers differ by 8 beside each other: each core's third load, of the first block
-- again, retires in the core's own move
abbrev pub zeros : List ℕ
zeros = 0 ∷ 0 ∷ 0 ∷ 0 ∷ 0 ∷ 0 ∷ 0 ∷ 0 ∷ 0 ∷ 0 ∷ 0 ∷ 0 ∷ 0 ∷ 0 ∷ 0 ∷ 0 ∷ []

-- core c's steps from the data of its first load on
abbrev pub three_loads : (c : ℕ) → List StepTaken
three_loads c =
    loads (FromHome c) (instr c 1) 16 0
    ∷ quiet (Core c)
    ∷ quiet (Request c)
    ∷ loads (FromHome c) (instr c 2) 48 0
    ∷ loads (Core c) (instr c 3) 16 0
    ∷ local (Core c) (instr c 4)
    ∷ []

abbrev pub BothBlocksAreHeld : Type 0
BothBlocksAreHeld =
    followed (opening_state eight_apart (two_cores 10000 eight_apart)) zeros
    ≡ quiet (Core 0)
    ∷ quiet (Core 1)
    ∷ quiet (Request 0)
    ∷ quiet (Request 1)
    ∷ (three_loads 0 ++ three_loads 1)

abbrev pub ReadEightApart : Type 0
ReadEightApart =
    EndsSo eight_apart 10000 zeros 16
    (exits (4 ∷ 4 ∷ []) (0x10 ∷ 0x10 ∷ []) ([] ∷ ((10, 1) ∷ []) ∷ []) [])
    ((load 1 16 0 ∷ load 2 48 0 ∷ load 3 16 0 ∷ []) ∷ (load 1 16 0 ∷ load 2 48 0 ∷ load 3 16 0 ∷ []) ∷ [])

-- one core ends by ECALL as it reaches its limit, and the other at its limit
abbrev pub LimitReached : Type 0
LimitReached =
    EndsSo endless 3 [] 8
    (record (exits (3 ∷ 3 ∷ []) (0xc ∷ 0xc ∷ []) ([] ∷ ((10, 1) ∷ []) ∷ []) []) { stops = Exit ∷ Limit ∷ [] })
    ((load 2 16 0 ∷ []) ∷ [] ∷ [])
