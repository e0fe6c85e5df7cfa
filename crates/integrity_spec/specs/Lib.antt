pub mod DigestTexts
pub mod Laws
