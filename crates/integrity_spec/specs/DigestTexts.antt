-- The text by which the bytes of a module are known. Subresource Integrity, 3.1 and 3.5: a hash algorithm, `-`, and the
-- digest in Base64; of the algorithms the one here is SHA-384.
--     digest_text bytes      the text of the bytes' digest
use Rattle.std.specs.Prelude.{ℕ, List, ◌++◌, codes}
use Rattle.base64.specs.Engines.{standard}
use Rattle.base64.specs.GeneralPurpose.{encode_of}
use Rattle.sha2.specs.Sha512.{sha384}

-- Subresource Integrity, 3.5: `sha384-`, and the digest (FIPS 180-4) in Base64 (RFC 4648, 4)
unfoldable pub digest_text : List ℕ → List ℕ
digest_text bytes = codes "sha384-" ++ encode_of standard (sha384 bytes)
