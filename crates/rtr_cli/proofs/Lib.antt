pub mod ReasonLemmas
pub mod AcceptedLemmas
pub mod RecordingLemmas
pub mod RefusalLemmas
pub mod JointLemmas
pub mod MigratedReading
pub mod CertificatesAccepted
pub mod CompletenessLemmas
pub mod CutLemmas
pub mod ThinLemmas
pub mod BufferLemmas
pub mod BufferRuns
mod Apart
mod ItemLists
mod OneCertificate
mod OneThinning
mod OneOutput
