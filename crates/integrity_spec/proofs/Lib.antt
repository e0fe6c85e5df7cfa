pub mod DigestTexts
