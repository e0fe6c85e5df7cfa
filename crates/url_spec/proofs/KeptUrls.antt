-- What is kept is ASCII and parses to itself.
use Rattle.std.proofs.Common.{◌≡◌, ℕ, true, List, Option, Some, None, subst, ⊎_elim, sym, ap, ◌∙◌, ◌++◌, drop}
use Rattle.std.proofs.lemmas.Bool.{cond-true, cond-false, cases_Bool, true≢false, and_parts}
use Rattle.std.proofs.lemmas.Slice.Eq.{bytes_eq-Decides}
use Rattle.std.specs.Prelude.{Ok, Err}
use Rattle.url.specs.Parser.{parse_url, Parsed}
use Rattle.url.specs.Parts.{Parts}
use Rattle.url_spec.specs.Laws.{KeptUrls}
use Rattle.url_spec.specs.Parsing.{is_own_text, kept, is_text, url_text, parse_alone, IsUrl, parse_onto, parse_against}
use Rattle.url_spec.specs.WebNames.{escaped, web}

pub kept_some : (found : Option (List ℕ)) (url : List ℕ) → kept found ≡ Some url → is_own_text url ≡ true
kept_some None url e = absurd (cc)
kept_some (Some text) url e =
    ⊎_elim
    (λ yes. let same : text ≡ url = cc (cond-true (is_own_text text) (Some text) None yes) in subst (λ t. is_own_text t ≡ true) same yes)
    (λ other. absurd (cc (cond-false (is_own_text text) (Some text) None other)))
    (cases_Bool (is_own_text text))

pub text_by_test : (url : List ℕ) (found : Option (List ℕ)) → is_text url found ≡ true → found ≡ Some url
text_by_test url None e = absurd (true≢false (sym e))
text_by_test url (Some other) e = ap Some (sym ((bytes_eq-Decides url other).0 e))

pub url_from_test : (url : List ℕ) → is_own_text url ≡ true → IsUrl url
unfolding parse_alone
url_from_test url e = ap kept (text_by_test url (url_text (parse_url None url)) (and_parts _ _ e).1) ∙ cond-true _ _ _ e

pub alone_kept : (text url : List ℕ) → parse_alone text ≡ Some url → IsUrl url
unfolding parse_alone
alone_kept text url e = url_from_test url (kept_some (url_text (parse_url None text)) url e)

onto_kept : (base : Parsed Parts) (text url : List ℕ) → parse_onto base text ≡ Some url → IsUrl url
onto_kept (Ok base) text url e = url_from_test url (kept_some (url_text (parse_url (Some base) text)) url e)
onto_kept (Err fault) text url e = absurd (cc)

pub against_kept : (base text url : List ℕ) → parse_against base text ≡ Some url → IsUrl url
unfolding parse_against
against_kept base text url e = onto_kept (parse_url None base) text url e

web_kept : (base path suffix url : List ℕ) → web base path suffix ≡ Some url → IsUrl url
unfolding web
web_kept base path suffix url e = alone_kept (base ++ (drop 1 (escaped path) ++ suffix)) url e

pub kept_urls : KeptUrls
kept_urls = (alone_kept, against_kept, web_kept)
