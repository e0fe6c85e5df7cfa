-- The laws of the texts of digests. Each is the contract of a function of this crate.
use Rattle.std.specs.Prelude.{◌≡◌, ℕ, List, drop, length, IsUtf8, Ok}
use Rattle.base64.specs.Engines.{standard}
use Rattle.base64.specs.GeneralPurpose.{decode_of}
use Rattle.sha2.specs.Sha512.{sha384}
use Rattle.integrity_spec.specs.DigestTexts.{digest_text}

-- own law: each text has 71 bytes, of which seven are the algorithm's
abbrev pub TextsHave71Bytes : Type 0
TextsHave71Bytes = (bytes : List ℕ) → length (digest_text bytes) ≡ 71

-- own law: each is UTF-8
abbrev pub TextsAreUtf8 : Type 0
TextsAreUtf8 = (bytes : List ℕ) → IsUtf8 (digest_text bytes)

-- own law: the digest is read back from its text, so two digests never have one text
abbrev pub DigestsReadBack : Type 0
DigestsReadBack = (bytes : List ℕ) → decode_of standard (drop 7 (digest_text bytes)) ≡ Ok (sha384 bytes)
