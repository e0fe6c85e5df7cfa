-- A text that begins with no letter is no URL.
use Rattle.std.proofs.Common.{ℕ, List, [], ◌∷◌, zero, suc, take, ◌≡◌, Bool, true, sym, subst, ◌==◌, ⊎_elim, false, None, refl, ap}
use Rattle.std.proofs.lemmas.Bool.{cond-true, cases_Bool}
use Rattle.std.specs.Char.{is_ascii_alphabetic}
use Rattle.std.specs.Prelude.{filter, not, Err}
use Rattle.url.specs.Input.{split_once, trim_c0_control_and_space, strip_tabs_and_new_lines, is_tab_or_new_line}
use Rattle.url.specs.Parser.{split_scheme, parse_url}
use Rattle.url.specs.Scheme.{scheme_len}
use Rattle.url.specs.declared.error.ParseError.TheVariants.{RelativeUrlWithoutBase}
use Rattle.url_spec.specs.Laws.{IsNoStart, NoUrls}
use Rattle.url_spec.specs.Parsing.{url_text, kept, parse_alone}

-- nothing, or a text that begins with this byte
data Begins (b : ℕ) : List ℕ → Type 0 where
  nothing : Begins b []
  with : (rest : List ℕ) → Begins b (b ∷ rest)

begins_take : (b n : ℕ) (xs : List ℕ) → Begins b xs → Begins b (take n xs)
begins_take b zero xs h = nothing
begins_take b (suc n) [] h = nothing
begins_take b (suc n) _ (with rest) = with (take n rest)

begins_filter : (b : ℕ) (test : ℕ → Bool) (xs : List ℕ) → test b ≡ true → Begins b xs → Begins b (filter test xs)
begins_filter b test [] passes h = nothing
begins_filter b test _ passes (with rest) = subst (Begins b) (sym (cond-true _ _ _ passes)) (with (filter test rest))

begins_split : (b mark : ℕ) (xs : List ℕ) → Begins b xs → Begins b (split_once mark xs).0
unfolding split_once
begins_split b mark [] h = nothing
begins_split b mark _ (with rest) =
    ⊎_elim
    (λ same. rw same nothing)
    (λ other. rw other (with (split_once mark rest).0))
    (cases_Bool (b == mark))

no_scheme : (b : ℕ) (xs : List ℕ) → is_ascii_alphabetic b ≡ false → Begins b xs → split_scheme xs ≡ None
unfolding split_scheme scheme_len
no_scheme b [] other h = refl
no_scheme b _ other (with rest) = rw other refl

begins_inside : (b : ℕ) (rest : List ℕ) → IsNoStart b → Begins b (trim_c0_control_and_space (b ∷ rest))
unfolding trim_c0_control_and_space
begins_inside b rest start = rw start.no_space (begins_take b _ (b ∷ rest) (with rest))

begins_stripped : (b : ℕ) (xs : List ℕ) → IsNoStart b → Begins b xs → Begins b (strip_tabs_and_new_lines xs)
unfolding strip_tabs_and_new_lines
begins_stripped b xs start h = begins_filter b (λ c. not (is_tab_or_new_line c)) xs (ap not start.no_tab) h

no_parse : (b : ℕ) (rest : List ℕ) → IsNoStart b → parse_url None (b ∷ rest) ≡ Err RelativeUrlWithoutBase
unfolding parse_url
no_parse b rest start =
    rw (no_scheme b (split_once 63 (split_once 35 (strip_tabs_and_new_lines (trim_c0_control_and_space (b ∷ rest)))).0).0 start.no_letter (begins_split b 63 _ (begins_split b 35 _ (begins_stripped b (trim_c0_control_and_space (b ∷ rest)) start (begins_inside b rest start))))) refl

pub no_url : (b : ℕ) (rest : List ℕ) → IsNoStart b → parse_alone (b ∷ rest) ≡ None
unfolding parse_alone
no_url b rest start = ap (λ parsed. kept (url_text parsed)) (no_parse b rest start)

pub empty_no_url : parse_alone [] ≡ None
unfolding parse_alone parse_url split_once split_scheme scheme_len strip_tabs_and_new_lines trim_c0_control_and_space
empty_no_url = refl

pub no_urls : NoUrls
no_urls = (no_url, empty_no_url)
