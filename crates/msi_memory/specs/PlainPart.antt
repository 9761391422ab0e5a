-- The plain part of a memory system: what is left where riders and carries are forgotten.
use Rattle.std.specs.Prelude.{map}
use Rattle.link_order.specs.Queue.{Queue}
use Rattle.msi_cache.specs.PlainPart.{plain_lines, plain_message, plain_response, plain_request}
use Rattle.msi_directory.specs.PlainPart.{plain_entries}
use Rattle.msi_memory.specs.declared.port.Mail.{Mail}
use Rattle.msi_memory.specs.declared.port.Port.{Port}
use Rattle.msi_memory.specs.Acts.{Act, Want, Touch, Retire, TakeRequest, TakeResponse, TakeMessage}
use Rattle.msi_memory.specs.Memories.{Memory}

abbrev pub plain_mail : {A B K : Type 0} → (A → B) → Mail A K → Mail B (Unit {0})
plain_mail f mail = record { item = f mail.item; carry = tt }

abbrev pub plain_link : {A B K : Type 0} → (A → B) → Queue (Mail A K) → Queue (Mail B (Unit {0}))
plain_link f link = record { room = link.room; items = map (plain_mail f) link.items }

module _ {R K : Type 0} where
  abbrev pub plain_port : Port R K → Port (Unit {0}) (Unit {0})
  plain_port p =
      record {
        carry = tt;
        cache = plain_lines p.cache;
        requests = plain_link plain_request p.requests;
        responses = plain_link plain_response p.responses;
        messages = plain_link plain_message p.messages;
      }

  abbrev pub plain_memory : Memory R K → Memory (Unit {0}) (Unit {0})
  plain_memory m = record { ports = map plain_port m.ports; home = plain_entries m.home; carry = tt }

module _ {R : Type 0} where
  -- the act, whatever rider it leaves
  abbrev pub plain_act : Act R → Act (Unit {0})
  plain_act (Want c block kind) = Want c block kind
  plain_act (Touch c block slot kind value rider) = Touch c block slot kind value tt
  plain_act (Retire c at) = Retire c at
  plain_act (TakeRequest c) = TakeRequest c
  plain_act (TakeResponse c) = TakeResponse c
  plain_act (TakeMessage c) = TakeMessage c
