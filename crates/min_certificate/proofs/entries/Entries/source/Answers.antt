use Rattle.std.proofs.Common.{ap}
use Rattle.certificate_codec.specs.declared.certificate.Certificate.{Certificate}
use Rattle.min_certificate.proofs.LookedUpEntries.{source_on}
use Rattle.min_certificate.proofs.entries.Entries.source.Goals as goal

pub returns : goal.returns
returns c =
    let looked = c.source-count.ensures in
    source_on _ _ c.args.self.now c.args.of c.args.at _ _ c.recording.ensures.recording c.recording.ensures.valid
    (ap (λ (d : Certificate). d.recording) c.self.view_is) looked.found looked.only c.on_core.ensures
