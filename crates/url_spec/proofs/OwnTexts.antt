-- The texts of URLs: they are ASCII, and each URL that the parser writes counts.
use Rattle.std.proofs.Common.{◌≡◌, ℕ, suc, true, List, [], ◌∷◌, refl, None, Some, ap, ◌∙◌}
use Rattle.std.proofs.lemmas.Bool.{and_from, lt-ltb, and_parts, ltb-true, cond-true}
use Rattle.std.proofs.lemmas.Slice.Eq.{bytes_eq-Decides}
use Rattle.std.proofs.lemmas.Str.{IsUtf8-from_ascii}
use Rattle.std.proofs.lemmas.Str.Ascii.{IsAscii-nil, IsAscii-cons}
use Rattle.std.specs.Char.{is_ascii}
use Rattle.std.specs.List.{list_all}
use Rattle.std.specs.Prelude.{Ok}
use Rattle.std.specs.Str.{IsAscii, IsUtf8}
use Rattle.url.proofs.ParsedCanonical.{parse_url_canonical}
use Rattle.url.proofs.Theorems.{parse_url-serialize}
use Rattle.url.proofs.ValidLemmas.{IsAscii-serialize}
use Rattle.url.specs.Canonical.{IsCanonical}
use Rattle.url.specs.Parser.{parse_url}
use Rattle.url.specs.Parts.{Parts, IsValid}
use Rattle.url_spec.proofs.KeptUrls.{kept_some, url_from_test}
use Rattle.url_spec.specs.Laws.{AsciiUrls, KeptWhole}
use Rattle.url_spec.specs.Parsing.{url_text, parse_alone, IsUrl, is_text, is_own_text, kept, text_of, parse_onto, parse_against}

all_pass : (text : List ℕ) → IsAscii text → list_all is_ascii text ≡ true
all_pass [] ascii = refl
all_pass (b ∷ text) ascii = and_from _ _ (lt-ltb b 128 (ascii 0)) (all_pass text (λ i. ascii (suc i)))

all_below : (text : List ℕ) → list_all is_ascii text ≡ true → IsAscii text
all_below [] e = IsAscii-nil
all_below (b ∷ text) e = let p = and_parts _ _ e in IsAscii-cons b text (ltb-true b 128 p.0) (all_below text p.1)

pub ascii_urls : AsciiUrls
unfolding parse_alone
ascii_urls url e = all_below url (and_parts _ _ (kept_some (url_text (parse_url None url)) url e)).0

pub utf8_url : (url : List ℕ) → IsUrl url → IsUtf8 url
utf8_url url e = IsUtf8-from_ascii url (ascii_urls url e)

-- ---- no URL that the parser writes is taken away

own_test : (text : List ℕ) → IsAscii text → url_text (parse_url None text) ≡ Some text → is_own_text text ≡ true
own_test text ascii e = and_from _ _ (all_pass text ascii) (ap (is_text text) e ∙ (bytes_eq-Decides text text).1 refl)

-- an ASCII text that parses to itself is the text of a URL
pub url_from_parse : (text : List ℕ) → IsAscii text → url_text (parse_url None text) ≡ Some text → IsUrl text
url_from_parse text ascii e = url_from_test text (own_test text ascii e)

pub kept_from_parse : (text : List ℕ) → IsAscii text → url_text (parse_url None text) ≡ Some text → kept (Some text) ≡ Some text
kept_from_parse text ascii e = cond-true _ _ _ (own_test text ascii e)

pub text_of_ascii : (url : Parts) → IsValid url → IsAscii (text_of url)
unfolding text_of
text_of_ascii url valid = IsAscii-serialize url valid

text_of_back : (url : Parts) → IsValid url → IsCanonical url → parse_url None (text_of url) ≡ Ok url
unfolding text_of
text_of_back url valid canonical = parse_url-serialize url None valid canonical

pub kept_text : (url : Parts) → IsValid url → IsCanonical url → kept (Some (text_of url)) ≡ Some (text_of url)
kept_text url valid canonical = kept_from_parse (text_of url) (text_of_ascii url valid) (ap url_text (text_of_back url valid canonical))

alone_whole : (text : List ℕ) (url : Parts) → parse_url None text ≡ Ok url → IsValid url → parse_alone text ≡ Some (text_of url)
unfolding parse_alone
alone_whole text url e valid = ap (λ parsed. kept (url_text parsed)) e ∙ kept_text url valid (parse_url_canonical None text url tt valid e)

against_whole : (base url : Parts) (text : List ℕ) → IsValid base → IsCanonical base → parse_url (Some base) text ≡ Ok url → IsValid url → parse_against (text_of base) text ≡ Some (text_of url)
unfolding parse_against
against_whole base url text valid_base canonical e valid =
    ap (λ parsed. parse_onto parsed text) (text_of_back base valid_base canonical)
    ∙ (ap (λ parsed. kept (url_text parsed)) e ∙ kept_text url valid (parse_url_canonical (Some base) text url (valid_base, canonical) valid e))

pub kept_whole : KeptWhole
kept_whole = (alone_whole, against_whole)
