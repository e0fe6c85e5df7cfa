pub mod Replays
pub mod Certificates
pub mod Freshness
pub mod Laws
pub mod CertificateExamples
