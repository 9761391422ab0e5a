-- Rule: the cache's table: want_row, row
-- The cache controller's table, as data. It stands beside the tables of the Primer's chapter 8
-- (Nagarajan, Sorin, Hill and Wood, 2nd edition), in the profile in which the home collects the
-- acknowledgements: a cache counts none, and one BlockData ends each miss. No rider is in it. What
-- becomes of a line's words and rider is the column of effects.
use Rattle.std.specs.Prelude.{Bool, true, false, Option, Some, None}
use Rattle.msi_cache.specs.declared.line.State.{State}
use Rattle.msi_cache.specs.declared.line.State.TheVariants.{I, S, M, IsD, ImD, SmD, MiA, SiA, IiA}

-- the messages from home, without what they carry
pub data Signal : Type 0 where
  FwdGetS : Signal
  FwdGetM : Signal
  Inv : Signal
  PutAck : Signal
  BlockData : Signal

-- the requests to home, without what they carry
pub data Ask : Type 0 where
  GetS : Ask
  GetM : Ask
  PutS : Ask
  PutM : Ask

-- the responses to home, without what they carry
pub data Reply : Type 0 where
  InvAck : Reply
  OwnerData : Reply

-- what a message does to the line's words and rider: nothing; both are replaced by the message's;
-- they are replaced, and the new rider absorbs the old one; or the copy ends here, its rider goes with
-- the answer, and nothing rides on the line from then on
pub data Effect : Type 0 where
  Keep : Effect
  Take : Effect
  TakeAbsorbing : Effect
  Give : Effect

-- the state after the message, what is answered, and the effect
pub record Row : Type 0 where
  pub next : State
  pub answer : Option Reply
  pub effect : Effect

abbrev pub silent : State → Effect → Option Row
silent next effect = Some (record { next = next; answer = None; effect = effect })

abbrev pub replying : Reply → State → Effect → Option Row
replying reply next effect = Some (record { next = next; answer = Some reply; effect = effect })

-- what a message does to the line that holds its block. A pair with no row never comes in a run.
abbrev pub row : Signal → State → Option Row
row BlockData IsD = silent S Take
row BlockData ImD = silent M Take
row BlockData SmD = silent M TakeAbsorbing
row PutAck MiA = silent I Keep
row PutAck SiA = silent I Keep
row PutAck IiA = silent I Keep
row Inv S = replying InvAck I Give
row Inv SmD = replying InvAck ImD Give
row Inv SiA = replying InvAck IiA Give
row FwdGetS M = replying OwnerData S Keep
row FwdGetS MiA = replying OwnerData SiA Keep
row FwdGetM M = replying OwnerData I Give
row FwdGetM MiA = replying OwnerData IiA Give
row _ _ = None

-- what is asked for, and the line's state after it
pub record WantRow : Type 0 where
  pub ask : Ask
  pub next : State

abbrev pub asking : Ask → State → Option WantRow
asking ask next = Some (record { ask = ask; next = next })

-- what a core's access that isn't allowed yet does to the line where its block goes: by the line's
-- state, whether the line holds that very block, and whether the access writes
abbrev pub want_row : State → Bool → Bool → Option WantRow
want_row I same false = asking GetS IsD
want_row I same true = asking GetM ImD
want_row S true true = asking GetM SmD
want_row S false writes = asking PutS SiA
want_row M false writes = asking PutM MiA
want_row _ _ _ = None

-- what a line's state means: its copy may be read, its copy may be written, and it waits for a message from home
pub record Meaning : Type 0 where
  pub reads : Bool
  pub writes : Bool
  pub waits : Bool

abbrev pub means : Bool → Bool → Bool → Meaning
means reads writes waits = record { reads = reads; writes = writes; waits = waits }

abbrev pub meaning : State → Meaning
meaning I = means false false false
meaning S = means true false false
meaning M = means true true false
meaning SmD = means true false true
meaning _ = means false false true

abbrev pub is_readable : State → Bool
is_readable state = (meaning state).reads

abbrev pub is_writable : State → Bool
is_writable state = (meaning state).writes

abbrev pub is_transient : State → Bool
is_transient state = (meaning state).waits
