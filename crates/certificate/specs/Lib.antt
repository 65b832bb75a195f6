pub mod CertificateText
pub mod CertificateLines
pub mod CertificateFault
pub mod CertificateGrammar
