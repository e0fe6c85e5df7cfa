-- What the kit's parser gives, as texts.
use Rattle.std.proofs.Common.{◌≡◌, List, ℕ, Some, None, ap, ◌∙◌, subst, IsAscii}
use Rattle.std.specs.Prelude.{Ok, Err}
use Rattle.url.specs.declared.error.ParseError.{ParseError}
use Rattle.url.specs.Parts.{Parts, IsValid, serialize, kind_of, has_host}
use Rattle.url_spec.specs.FileUrls.{names_host, with_host, url_path, path_or_empty}
use Rattle.url.specs.Parser.{parse_url}
use Rattle.url.specs.Canonical.{IsCanonical}
use Rattle.url.proofs.Theorems.{parse_url-serialize}
use Rattle.url.proofs.ParsedCanonical.{parse_url_canonical}
use Rattle.url_spec.specs.Parsing.{text_of, url_text, kept, parse_alone, parse_onto, parse_against, IsUrl, parts_of}
use Rattle.url_spec.specs.Schemes.{has_special, has_special_scheme, scheme_or_empty, url_scheme}
use Rattle.url.specs.Scheme.{is_special}
use Rattle.std.specs.Result.{result_ok}
use Rattle.url_spec.proofs.OwnTexts.{text_of_ascii, kept_from_parse}
use Rattle.web_url.specs.Written.{IsWritten}

written : (url : Parts) → IsValid url → IsCanonical url → IsWritten url
unfolding text_of
written url valid canonical = record { ascii = text_of_ascii url valid; back = parse_url-serialize url None valid canonical }

canonical_from_written : (url : Parts) → IsValid url → IsWritten url → IsCanonical url
canonical_from_written url valid own = parse_url_canonical None (text_of url) url tt valid own.back

pub parsed_written : (text : List ℕ) (url : Parts) → parse_url None text ≡ Ok url → IsValid url → IsWritten url
parsed_written text url e valid = written url valid (parse_url_canonical None text url tt valid e)

pub joined_written : (base url : Parts) (text : List ℕ) → parse_url (Some base) text ≡ Ok url → IsValid base → IsWritten base → IsValid url → IsWritten url
joined_written base url text e valid_base own valid =
    written url valid (parse_url_canonical (Some base) text url (valid_base, canonical_from_written base valid_base own) valid e)

kept_written : (url : Parts) → IsWritten url → kept (Some (text_of url)) ≡ Some (text_of url)
kept_written url own = kept_from_parse (text_of url) own.ascii (ap url_text own.back)

pub alone_ok : (text : List ℕ) (url : Parts) → parse_url None text ≡ Ok url → IsWritten url → parse_alone text ≡ Some (text_of url)
unfolding parse_alone
alone_ok text url e own = ap (λ parsed. kept (url_text parsed)) e ∙ kept_written url own

pub parsed_whole : (text : List ℕ) (url : Parts) → parse_url None text ≡ Ok url → IsValid url → (parse_alone text ≡ Some (text_of url)) × IsWritten url
parsed_whole text url e valid = let own = parsed_written text url e valid in (alone_ok text url e own, own)

pub alone_err : (text : List ℕ) (fault : ParseError) → parse_url None text ≡ Err fault → parse_alone text ≡ None
unfolding parse_alone
alone_err text fault e = ap (λ parsed. kept (url_text parsed)) e

pub against_ok : (base url : Parts) (text : List ℕ) → IsWritten base → parse_url (Some base) text ≡ Ok url → IsWritten url → parse_against (text_of base) text ≡ Some (text_of url)
unfolding parse_against
against_ok base url text own_base e own =
    ap (λ parsed. parse_onto parsed text) own_base.back ∙ ap (λ parsed. kept (url_text parsed)) e ∙ kept_written url own

pub joined_whole : (base url : Parts) (text : List ℕ) → parse_url (Some base) text ≡ Ok url → IsValid base → IsWritten base → IsValid url → (parse_against (text_of base) text ≡ Some (text_of url)) × IsWritten url
joined_whole base url text e valid_base own_base valid = let own = joined_written base url text e valid_base own_base valid in (against_ok base url text own_base e own, own)

pub against_err : (base : Parts) (text : List ℕ) (fault : ParseError) → IsWritten base → parse_url (Some base) text ≡ Err fault → parse_against (text_of base) text ≡ None
unfolding parse_against
against_err base text fault own_base e =
    ap (λ parsed. parse_onto parsed text) own_base.back ∙ ap (λ parsed. kept (url_text parsed)) e

-- what is read of a URL, in terms of its text
pub own_text : (url : Parts) → IsWritten url → IsUrl (text_of url)
own_text url own = alone_ok (text_of url) url own.back own

pub text_value : (url : Parts) (text : List ℕ) → text ≡ serialize url → text ≡ text_of url
unfolding text_of
text_value url text e = e

pub text_ascii : (url : Parts) (text : List ℕ) → text ≡ serialize url → IsAscii text → IsAscii (text_of url)
unfolding text_of
text_ascii url text e ascii = subst IsAscii e ascii

pub parts_written : (url : Parts) → IsWritten url → parts_of (text_of url) ≡ Some url
parts_written url own = ap result_ok own.back

pub special_written : (url : Parts) → IsWritten url → has_special_scheme (text_of url) ≡ is_special (kind_of url)
unfolding has_special_scheme
special_written url own = ap has_special (parts_written url own)

pub scheme_written : (url : Parts) → IsWritten url → url_scheme (text_of url) ≡ url.scheme
unfolding url_scheme
scheme_written url own = ap scheme_or_empty (parts_written url own)

pub host_written : (url : Parts) → IsWritten url → names_host (text_of url) ≡ has_host url
unfolding names_host
host_written url own = ap with_host (parts_written url own)

pub path_written : (url : Parts) → IsWritten url → url_path (text_of url) ≡ url.path
unfolding url_path
path_written url own = ap path_or_empty (parts_written url own)

pub ruleset texts = (own_text, text_value, text_ascii, special_written, scheme_written, host_written, path_written)

pub ruleset parsing = (parsed_written, joined_written, alone_ok, alone_err, against_ok, against_err)
