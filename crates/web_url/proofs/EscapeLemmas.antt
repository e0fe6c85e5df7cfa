-- The set of escaped bytes is the definition's.
use Rattle.std.proofs.Common.{◌≡◌, ◌≤◌, ℕ, Bool, true, false, not, List, [], ◌∷◌, ◌||◌, length, sym, refl, ap, subst, ◌∙◌, ⊎_elim, cond, take, arith}
use Rattle.std.specs.Prelude.{◌↔◌, bytes_eq, if◌then◌else◌}
use Rattle.url.specs.Input.{lowercase}
use Rattle.std.proofs.lemmas.Slice.Eq.{bytes_eq-Decides}
use Rattle.std.proofs.lemmas.Bool.{agree_below, agree_below_at, cases_Bool, cases_lt, true≢false, false_from_ne_true, or_left}
use Rattle.std.proofs.lemmas.Bool.Decides.{nat_tests}
use Rattle.percent_encoding.specs.AsciiSet.{should_percent_encode}
use Rattle.percent_encoding.specs.Percent.{percent_encode, percent_encode_byte, encode_byte}
use Rattle.url_spec.specs.WebNames.{is_plain, escaped}
use Rattle.url_spec.specs.ServedPaths.{holds_escape}
use Rattle.web_url.specs.declared.escapes.TheConstants.{ESCAPED}

below_128 : agree_below (should_percent_encode ESCAPED) (λ b. not (is_plain b)) 128 ≡ true
unfolding should_percent_encode
below_128 = refl

above_127 : (b : ℕ) → 128 ≤ b → should_percent_encode ESCAPED b ≡ not (is_plain b)
unfolding should_percent_encode
above_127 b large = grind (arith, nat_tests)

same_bytes : (b : ℕ) → should_percent_encode ESCAPED b ≡ not (is_plain b)
same_bytes b =
    ⊎_elim (λ small. agree_below_at (should_percent_encode ESCAPED) (λ c. not (is_plain c)) 128 b below_128 small) (λ large. above_127 b large) (cases_lt b 128)

swapped : (plain : Bool) (kept other : List ℕ) → cond (not plain) other kept ≡ cond plain kept other
swapped true kept other = refl
swapped false kept other = refl

same_escape : (b : ℕ) → encode_byte ESCAPED b ≡ (if is_plain b then b ∷ [] else percent_encode_byte b)
same_escape b = rw (same_bytes b) (swapped (is_plain b) (b ∷ []) (percent_encode_byte b))

pub escaped_is : (path : List ℕ) → percent_encode ESCAPED path ≡ escaped path
unfolding percent_encode escaped
escaped_is [] = refl
escaped_is (b ∷ path) =
    let first = same_escape b in
    let more = escaped_is path in
    cc

-- a test of the first three bytes of the text
pub escape_test : (text escape : List ℕ) (test : Bool) → lowercase escape ≡ escape → (test ≡ true) ↔ (lowercase (take 3 text) ≡ lowercase escape) → test ≡ bytes_eq (lowercase (take 3 text)) escape
escape_test text escape test lower tells =
    let decides = bytes_eq-Decides (lowercase (take 3 text)) escape in
    ⊎_elim
    (λ yes. yes ∙ sym (decides.1 (tells.0 yes ∙ lower)))
    (λ other. other ∙ sym (false_from_ne_true (bytes_eq (lowercase (take 3 text)) escape) (λ holds. true≢false (sym (tells.1 (decides.0 holds ∙ sym lower)) ∙ other))))
    (cases_Bool test)

-- the steps of the search for an escape
pub escape_here : (escape text : List ℕ) (b : ℕ) (rest : List ℕ) → text ≡ b ∷ rest → bytes_eq (lowercase (take 3 text)) escape ≡ true → holds_escape escape text ≡ true
unfolding holds_escape
escape_here escape text b rest split here =
    ap (holds_escape escape) split ∙ or_left _ _ (subst (λ xs. bytes_eq (lowercase (take 3 xs)) escape ≡ true) split here)

pub escape_later : (escape text : List ℕ) (b : ℕ) (rest : List ℕ) → text ≡ b ∷ rest → bytes_eq (lowercase (take 3 text)) escape ≡ false → holds_escape escape text ≡ holds_escape escape rest
unfolding holds_escape
escape_later escape text b rest split other =
    ap (holds_escape escape) split ∙ ap (λ test. test || holds_escape escape rest) (subst (λ xs. bytes_eq (lowercase (take 3 xs)) escape ≡ false) split other)

pub escape_end : (escape text : List ℕ) → length text ≡ 0 → holds_escape escape text ≡ false
unfolding holds_escape
escape_end escape [] e = refl
escape_end escape (b ∷ rest) e = absurd (omega arith)

pub plain_byte : (b : ℕ) → not (should_percent_encode ESCAPED b) ≡ is_plain b
plain_byte b = ap not (same_bytes b) ∙ twice (is_plain b)
  where
    twice : (x : Bool) → not (not x) ≡ x
    twice true = refl
    twice false = refl
