-- A text with digests in it is short, whatever the digests are.
use Prim.Native.String.{String}
use Rattle.std.proofs.Common.{◌≤◌, ◌+◌, ◌*◌, ℕ, List, [], ◌∷◌, ◌++◌, length, length-append, arith, lit≤}
use Rattle.std.specs.Prelude.{◌==◌, ◌||◌, Bool, true, false, codes, nat_lt, if◌then◌else◌}
use Rattle.json_spec.specs.PrintedString.{escaped_byte, escaped, quoted, unicode_escape}
use Rattle.integrity_spec.proofs.DigestTexts.{texts_have_71_bytes}
use Rattle.integrity_spec.specs.DigestTexts.{digest_text}
use Rattle.generator_examples.specs.Sites.{digest_line, map_end}

byte_short : (b : ℕ) → length (escaped_byte b) ≤ 6
byte_short b = by (b == 34 || b == 92) (nat_lt b 32 || b == 60)
  where
    by : (mark control : Bool) → length (if mark then 92 ∷ b ∷ [] else if control then unicode_escape b else b ∷ []) ≤ 6
    by true control = omega arith
    by false true = omega arith
    by false false = omega arith

escaped_short : (text : List ℕ) → length (escaped text) ≤ 6 * length text
escaped_short [] = omega arith
escaped_short (b ∷ text) =
    let first = byte_short b in
    let more = escaped_short text in
    let all = length-append (escaped_byte b) (escaped text) in
    omega (arith, first, more, all)

digest_short : (bytes : List ℕ) → length (quoted (digest_text bytes)) ≤ 428
digest_short bytes =
    let inner = escaped_short (digest_text bytes) in
    let size = texts_have_71_bytes bytes in
    let all = length-append (escaped (digest_text bytes)) (34 ∷ []) in
    omega (arith, inner, size, all)

-- a text of at most so many bytes
pub record Short : Type 0 where
  pub text : List ℕ
  pub most : ℕ
  pub short : length text ≤ most

abbrev pub short_end : Short
short_end = record { text = map_end; most = 10; short = lit≤ tt }

pub line_short : (front : String) (bytes : List ℕ) (back : String) (more : Short) → length (codes front) ≤ 200 → length (codes back) ≤ 10 → length (digest_line front bytes back more.text) ≤ more.most + 638
line_short front bytes back more a b =
    let whole = length-append (codes front) (quoted (digest_text bytes) ++ (codes back ++ more.text)) in
    let middle = length-append (quoted (digest_text bytes)) (codes back ++ more.text) in
    let last = length-append (codes back) more.text in
    let digest = digest_short bytes in
    let c = more.short in
    omega (arith, whole, middle, last, digest, a, b, c)

-- a line with a digest before it
abbrev pub short_line : (front : String) (bytes : List ℕ) (back : String) (more : Short) → length (codes front) ≤ 200 → length (codes back) ≤ 10 → Short
short_line front bytes back more a b = record { text = digest_line front bytes back more.text; most = more.most + 638; short = line_short front bytes back more a b }

-- behind a text of at most 2,000 bytes
pub behind : (front : List ℕ) (more : Short) → length front ≤ 2000 → more.most ≤ 60000000 → length (front ++ more.text) ≤ 67108864
behind front more a b =
    let whole = length-append front more.text in
    let c = more.short in
    omega (arith, whole, a, b, c)
