-- What each move of a block keeps of its copies.
use Rattle.std.proofs.Common.{◌∙◌, sym, subst}
use Rattle.msi_protocol.specs.Seats.{HoldersHave}
use Rattle.msi_protocol.specs.Showing.{KeptBy}
use Rattle.msi_protocol.proofs.Holders.{Closed}
use Rattle.msi_protocol.proofs.PhaseMoves.{has_request, has_response, has_message, has_wish}
use Rattle.msi_protocol.proofs.DeadCopies.{put_line}

-- a property of the copies that count is kept where one that absorbs another keeps it
pub holders_kept : {X : Type 0} (P : X → Type 0) (absorbed : X → X → X) → Closed P absorbed →
    KeptBy absorbed (HoldersHave P)
holders_kept P absorbed both =
    record {
      request = λ c a rest bl lc free asks st h. has_request P absorbed both c a rest bl lc free asks st h;
      response = λ c a rest bl lc asks st h. has_response P absorbed both c a rest bl lc asks st h;
      message = λ c m rest bl lc asks st h. has_message P absorbed both c bl h;
      wish = λ c w bl st h. has_wish P c w bl h;
      reline = λ bl lines same st h. record {
        home = h.home;
        seats = λ d ld.
            let s = bl.seats d in
            let q = h.seats d ld in
            record {
              line = λ counts. subst P (sym (same d ld counts)) (q.line counts);
              sent = q.sent;
              reply = q.reply;
              put = λ counts. q.put counts ∙ sym (same d ld (put_line s.phase counts));
            };
      };
      rehome = λ bl home same st h. record {
        home = λ counts. subst P (sym (same counts)) (h.home counts);
        seats = h.seats;
      };
    }
