pub mod Lows
pub mod CertifiedRecordings
pub mod AccessPlaces
pub mod LookedUpEntries
pub mod First
pub mod Exactly
pub mod FirstFailure
pub mod CertificateTests
