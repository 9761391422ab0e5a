pub mod Parts
pub mod CertificateLaws
pub mod Marks
pub mod EdgeEndLists
pub mod PartNames
pub mod EndNumbers
pub mod RowLaws
