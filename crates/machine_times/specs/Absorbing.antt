-- The two riders that meet where a move makes one absorb the other.
use Rattle.std.specs.Prelude.{◌≡◌, ℕ, ◌<◌, Option, Some, None, List, [], ◌∷◌, IsTrue}
use Rattle.access_times.specs.Riding.{Riding, Carrying}
use Rattle.rtr_types.specs.declared.TheConstants.{BLOCK_WORDS}
use Rattle.msi_cache.specs.Lines.{line_for, rider_of}
use Rattle.msi_cache.specs.Messages.{signal, block_of, ask_of, reply_of, request_block, response_block}
use Rattle.msi_cache.specs.Table.{Effect, Row, row}
use Rattle.msi_cache.specs.declared.line.Line.{Line}
use Rattle.msi_cache.specs.declared.messages.FromHome.{FromHome}
use Rattle.msi_cache.specs.declared.messages.Request.{Request}
use Rattle.msi_cache.specs.declared.messages.Response.{Response}
use Rattle.msi_directory.specs.Blocks.{entry_at}
use Rattle.msi_directory.specs.Entries.{request_rider, response_rider}
use Rattle.msi_directory.specs.Table.{HomeEffect, HomeRow, request_row, response_row}
use Rattle.msi_directory.specs.declared.entry.Entry.{Entry}
use Rattle.machine_invariant.specs.Holds.{MachineHolds}
use Rattle.msi_memory.specs.Acts.{Act, TakeMessage, TakeRequest, TakeResponse}
use Rattle.msi_memory.specs.Memories.{Memory, port_at}
use Rattle.msi_state.specs.States.{State}
use Rattle.msi_state.specs.Steps.{enabled}
use Rattle.msi_memory.specs.declared.port.Mail.{Mail}
use Rattle.msi_state.specs.declared.moves.Move.{Move}
use Rattle.msi_state.specs.declared.moves.Move.TheVariants.{Core as CoreMove, Request as RequestMove}
use Rattle.msi_state.specs.declared.moves.Move.TheVariants.{Response as ResponseMove, FromHome as MessageMove}
use Rattle.machine_times.specs.Retirements.{Retirement, MachineStandsFor}
use Rattle.machine_times.specs.StandsFor.{TimesParts}

module _ {R : Type 0} where
  -- the home's rider absorbs the message's
  abbrev pub home_effect_meets : HomeEffect → R → R → Option (R × R)
  home_effect_meets HomeEffect.Absorb old rider = Some (old, rider)
  home_effect_meets _ old rider = None

  -- the message's rider, which goes into the line, absorbs the line's
  abbrev pub effect_meets : Effect → R → R → Option (R × R)
  effect_meets Effect.TakeAbsorbing old rider = Some (rider, old)
  effect_meets _ old rider = None

  -- by the row of the home's table, and of the caches'
  abbrev pub home_row_meets : Option HomeRow → R → R → Option (R × R)
  home_row_meets None old rider = None
  home_row_meets (Some r) old rider = home_effect_meets r.effect old rider

  abbrev pub row_meets : Option Row → R → R → Option (R × R)
  row_meets None old rider = None
  row_meets (Some r) old rider = effect_meets r.effect old rider

  -- by the message
  abbrev pub request_meets : Entry R → ℕ → Request R → Option (R × R)
  request_meets e c request =
      home_row_meets (request_row e.stage c (ask_of request)) e.rider (request_rider request e.rider)

  abbrev pub response_meets : Entry R → ℕ → Response R → Option (R × R)
  response_meets e c response =
      home_row_meets (response_row e.stage c (reply_of response)) e.rider (response_rider response)

  abbrev pub message_meets : Line R → FromHome R → Option (R × R)
  message_meets line m = row_meets (row (signal m) line.state) line.rider (rider_of m line.rider)

  -- two that meet have the same last write of each word, so that absorbing leaves nothing out
  abbrev pub AreAlike : TimesParts R → Option (R × R) → Type 0
  AreAlike parts met =
      (x y : R) → met ≡ Some (x, y) → (slot : ℕ) → slot < BLOCK_WORDS
      → parts.write x slot ≡ parts.write y slot

module _ {R K : Type 0} where
  abbrev pub request_meets_in : List (Mail (Request R) K) → Riding R → Memory R K → ℕ → Option (R × R)
  request_meets_in [] riding m c = None
  request_meets_in (mail ∷ rest) riding m c =
      request_meets (entry_at riding.fresh m.home (request_block mail.item)) c mail.item

  abbrev pub response_meets_in : List (Mail (Response R) K) → Riding R → Memory R K → ℕ → Option (R × R)
  response_meets_in [] riding m c = None
  response_meets_in (mail ∷ rest) riding m c =
      response_meets (entry_at riding.fresh m.home (response_block mail.item)) c mail.item

  abbrev pub message_meets_in : List (Mail (FromHome R) K) → Riding R → Carrying K → Memory R K → ℕ → Option (R × R)
  message_meets_in [] riding carrying m c = None
  message_meets_in (mail ∷ rest) riding carrying m c =
      message_meets (line_for riding.fresh (port_at carrying m.ports c).cache (block_of mail.item)) mail.item

  -- the rider that absorbs in an act and the one that it absorbs, where the act has such
  abbrev pub act_meets : Riding R → Carrying K → Memory R K → Act R → Option (R × R)
  act_meets riding carrying m (TakeRequest c) =
      request_meets_in (port_at carrying m.ports c).requests.items riding m c
  act_meets riding carrying m (TakeResponse c) =
      response_meets_in (port_at carrying m.ports c).responses.items riding m c
  act_meets riding carrying m (TakeMessage c) =
      message_meets_in (port_at carrying m.ports c).messages.items riding carrying m c
  act_meets riding carrying m _ = None

  -- and in a move
  abbrev pub meets : Riding R → Carrying K → State R K → Move → Option (R × R)
  meets riding carrying s (CoreMove c) = None
  meets riding carrying s (RequestMove c) = act_meets riding carrying s.memory (TakeRequest c)
  meets riding carrying s (ResponseMove c) = act_meets riding carrying s.memory (TakeResponse c)
  meets riding carrying s (MessageMove c) = act_meets riding carrying s.memory (TakeMessage c)

  -- the riders that meet in the move are alike
  abbrev pub MeetsAlike : TimesParts R → Carrying K → State R K → Move → Type 0
  MeetsAlike parts carrying s m = AreAlike parts (meets parts.riding carrying s m)

  -- and they always are
  abbrev pub MeetAlike : TimesParts R → Carrying K → Type 0
  MeetAlike parts carrying =
      (list : List Retirement) (s : State R K) (m : Move) → MachineHolds parts.riding carrying s
      → IsTrue (enabled parts.riding carrying s m) → MachineStandsFor parts carrying list s
      → MeetsAlike parts carrying s m
