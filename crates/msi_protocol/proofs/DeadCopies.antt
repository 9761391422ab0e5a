-- What a line carries whose copy doesn't count doesn't matter, and so what an invalid one does.
use Rattle.std.proofs.Common.{◌≡◌, ◌≢◌, ◌∙◌, ap, sym, ℕ, ◌<◌, true, List, arith}
use Rattle.access_times.specs.Riding.{Riding}
use Rattle.rtr_types.specs.declared.TheConstants.{CORES_MAX}
use Rattle.msi_cache.specs.declared.line.State.{State}
use Rattle.msi_cache.specs.declared.line.State.TheVariants.{I}
use Rattle.msi_directory.specs.declared.entry.Entry.{Entry}
use Rattle.msi_cache.specs.declared.messages.FromHome.{FromHome}
use Rattle.msi_cache.specs.declared.messages.Response.{Response}
use Rattle.msi_cache.specs.declared.messages.Request.{Request}
use Rattle.msi_protocol.specs.Phases.{Phase, picture}
use Rattle.msi_protocol.specs.Counting.{line_counts}
use Rattle.msi_protocol.specs.Seats.{Seat, FullBlock, put_counts}
use Rattle.msi_protocol.specs.Shown.{Payload, payload_absorbed, Sight, shown}
use Rattle.msi_protocol.specs.Showing.{relined, KeptBy, Shows}
use Rattle.msi_protocol.proofs.TablesAndSeats.{copy_in}

counts_valid : (p : Phase) → line_counts p ≡ true → (picture p).line ≢ I
counts_valid p e = grind arith

pub put_line : (p : Phase) → put_counts p ≡ true → line_counts p ≡ true
put_line p e = grind arith

-- sights that differ in what an invalid line carries
pub record SameSight {R : Type 0} (v w : Sight R) : Type 0 where
  pub state : v.line.state ≡ w.line.state
  pub block : v.line.block ≡ w.line.block
  pub payload : v.line.state ≢ I → v.line ≡ w.line
  pub requests : v.requests ≡ w.requests
  pub responses : v.responses ≡ w.responses
  pub messages : v.messages ≡ w.messages

module _ {R : Type 0} where
  pub alike_sights : (riding : Riding R) (Q : FullBlock (Payload R) → Type 0) → KeptBy (payload_absorbed riding) Q →
      (b : ℕ) (entry : Entry R)
      (sights others : ℕ → Sight R) → ((d : ℕ) → d < CORES_MAX → SameSight (sights d) (others d)) →
      Shows Q b entry sights → Shows Q b entry others
  alike_sights riding Q well b entry sights others alike showing =
      record {
        block = relined (λ d. copy_in (others d).line) showing.block;
        entry_is = showing.entry_is;
        shows = λ d ld. at d (showing.block.seats d) (showing.shows d ld) (alike d ld);
        fits = record { fits = showing.fits.fits; roles = showing.fits.roles };
        has = well.reline showing.block (λ d. copy_in (others d).line)
            (λ d ld counts. ap copy_in (sym ((alike d ld).payload (λ (e : (sights d).line.state ≡ I).
            counts_valid (showing.block.seats d).phase counts
            (ap (λ (x : Sight R). x.line.state) (showing.shows d ld) ∙ e)))
            ∙ ap (λ (x : Sight R). x.line) (sym (showing.shows d ld)))) showing.fits showing.has;
      }
    where
      at : (d : ℕ) (s : Seat (Payload R)) → shown b s ≡ sights d → SameSight (sights d) (others d) →
          shown b (record s { line = copy_in (others d).line }) ≡ others d
      at d s is a =
          let state : (picture s.phase).line ≡ (others d).line.state = ap (λ (x : Sight R). x.line.state) is
          ∙ a.state in
          let block : b ≡ (others d).line.block = ap (λ (x : Sight R). x.line.block) is ∙ a.block in
          let requests = ap (λ (x : Sight R). x.requests) is ∙ a.requests in
          let responses = ap (λ (x : Sight R). x.responses) is ∙ a.responses in
          let messages = ap (λ (x : Sight R). x.messages) is ∙ a.messages in
          build (picture s.phase).line (others d).line.state b (others d).line.block (others d).line.words
          (others d).line.rider
          (shown b s).requests (others d).requests
          (shown b s).responses (others d).responses (shown b s).messages
          (others d).messages state block requests responses
          messages
        where
          build : (x y : State) (b c : ℕ) (words : List ℕ) (rider : R) (q r : List (Request R))
              (p u : List (Response R)) (m n : List (FromHome R)) → x ≡ y →
              b ≡ c → q ≡ r → p ≡ u → m ≡ n → ◌≡◌ {A = Sight R} (record {
                line = record { state = x; block = b; words = words; rider = rider };
                requests = q;
                responses = p;
                messages = m;
              }) (record {
                line = record { state = y; block = c; words = words; rider = rider };
                requests = r;
                responses = u;
                messages = n;
              })
          build x y b c words rider q r p u m n e showing g i j = cc
