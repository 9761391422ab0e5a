-- What is handed over with a response, for every type of riders.
use Rattle.std.specs.Prelude.{ℕ, List}
use Rattle.msi_cache.specs.declared.messages.Response.{Response}
use Rattle.msi_cache.specs.declared.messages.Response.TheVariants.{InvAck, OwnerData}

module _ {R : Type 0} where
  -- the words that an owner gives with a response, or else these
  abbrev pub owner_words : Response R → List ℕ → List ℕ
  owner_words (OwnerData block words rider) old = words
  owner_words (InvAck block rider) old = old

  -- the rider that an owner gives with a response, or else this one
  abbrev pub owner_rider : Response R → R → R
  owner_rider (OwnerData block words rider) old = rider
  owner_rider (InvAck block rider) old = old
