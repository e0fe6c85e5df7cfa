pub mod CertificateExamples
