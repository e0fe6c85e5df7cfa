-- What holds of the text of every digest.
use Rattle.std.proofs.Common.{◌≡◌, ℕ, zero, suc, ◌<◌, List, [], ◌∷◌, ◌+◌, ◌++◌, length, take, refl, ap, ◌∙◌, arith}
use Rattle.std.specs.Char.{encode_utf8}
use Rattle.std.specs.Prelude.{codes, replicate, slice_index, true, IsUtf8}
use Rattle.std.specs.Int.{byte_at, bytes_high_first, to_be_bytes, w64}
use Rattle.std.proofs.Math.Nat.{mod-lt}
use Rattle.std.proofs.lemmas.List.{length-append}
use Rattle.std.proofs.lemmas.Str.{IsUtf8-append, IsUtf8-from_ascii}
use Rattle.base64.proofs.EngineFacts.{IsAscii-encode_of, decode_of-encode_of}
use Rattle.base64.proofs.RoundTrip.{length-encode_symbols}
use Rattle.base64.specs.Engines.{standard}
use Rattle.base64.specs.GeneralPurpose.{IsBytes, encode_of}
use Rattle.base64.specs.Rfc4648.{encode, encode_symbols, padding_len, unpadded_len}
use Rattle.sha2.proofs.Facts512.{length-sha384}
use Rattle.sha2.specs.Sha512.{digest_bytes, sha384}
use Rattle.integrity_spec.specs.DigestTexts.{digest_text}
use Rattle.integrity_spec.specs.Laws.{DigestsReadBack, TextsAreUtf8, TextsHave71Bytes}

-- ---- a digest is bytes

bytes_nil : IsBytes []
bytes_nil i = omega arith

bytes_cons : (b : ℕ) (bytes : List ℕ) → b < 256 → IsBytes bytes → IsBytes (b ∷ bytes)
bytes_cons b bytes below are zero = below
bytes_cons b bytes below are (suc i) = are i

bytes_append : (some more : List ℕ) → IsBytes some → IsBytes more → IsBytes (some ++ more)
bytes_append [] more are others = others
bytes_append (b ∷ some) more are others = bytes_cons b (some ++ more) (are 0) (bytes_append some more (λ i. are (suc i)) others)

bytes_take : (n : ℕ) (bytes : List ℕ) → IsBytes bytes → IsBytes (take n bytes)
bytes_take zero bytes are = bytes_nil
bytes_take (suc n) [] are = bytes_nil
bytes_take (suc n) (b ∷ bytes) are = bytes_cons b (take n bytes) (are 0) (bytes_take n bytes (λ i. are (suc i)))

byte_below : (i n : ℕ) → byte_at i n < 256
byte_below zero n = mod-lt n (omega arith)
byte_below (suc i) n = mod-lt _ (omega arith)

number_bytes : (k n : ℕ) → IsBytes (bytes_high_first k n)
number_bytes zero n = bytes_nil
number_bytes (suc k) n = bytes_cons (byte_at k n) (bytes_high_first k n) (byte_below k n) (number_bytes k n)

words_bytes : (words : List ℕ) (n : ℕ) → IsBytes (digest_bytes words n)
unfolding digest_bytes
words_bytes words zero = bytes_nil
words_bytes words (suc n) =
    bytes_append (digest_bytes words n) (to_be_bytes w64 (slice_index words n)) (words_bytes words n) (number_bytes 8 (slice_index words n))

digest_is_bytes : (bytes : List ℕ) → IsBytes (sha384 bytes)
unfolding sha384
digest_is_bytes bytes = bytes_take 48 (digest_bytes _ 8) (words_bytes _ 8)

-- ---- its text

encoded_length : (symbols bytes : List ℕ) → length bytes ≡ 48 → length (encode symbols 61 true bytes) ≡ 64
encoded_length symbols bytes size =
    let padding : ℕ → List ℕ = λ n. replicate (padding_len n) 61 in
    length-append (encode_symbols symbols bytes) (padding (length bytes))
    ∙ (ap (λ n. n + length (padding (length bytes))) (length-encode_symbols symbols bytes)
    ∙ ap (λ n. unpadded_len n + length (padding n)) size)

pub texts_have_71_bytes : TextsHave71Bytes
unfolding digest_text
texts_have_71_bytes bytes =
    length-append (codes "sha384-") (encode_of standard (sha384 bytes))
    ∙ ap (λ n. 7 + n) (encoded_length standard.encode_table (sha384 bytes) (length-sha384 bytes))

algorithm_utf8 : IsUtf8 (codes "sha384-")
unfolding encode_utf8
algorithm_utf8 = (codes "sha384-", (refl, refl))

pub texts_are_utf8 : TextsAreUtf8
unfolding digest_text
texts_are_utf8 bytes =
    let digest = encode_of standard (sha384 bytes) in
    IsUtf8-append (codes "sha384-") digest algorithm_utf8 (IsUtf8-from_ascii digest (IsAscii-encode_of standard (sha384 bytes)))

pub digests_read_back : DigestsReadBack
unfolding digest_text
digests_read_back bytes = decode_of-encode_of standard (sha384 bytes) refl (digest_is_bytes bytes)
