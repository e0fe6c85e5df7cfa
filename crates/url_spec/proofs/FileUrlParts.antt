-- What a file URL without a host consists of.
use Rattle.std.proofs.Common.{◌≡◌, ◌⊎◌, ◌∷◌, ◌++◌, [], ℕ, List, Bool, true, false, Option, Some, None, refl, sym, ap, ◌∙◌, subst, All, inl, inr, cond}
use Rattle.std.specs.Prelude.{codes, not, is_some, unwrap_or, Ok, take, drop, ◌&&◌, ◌||◌, ◌==◌}
use Rattle.std.proofs.lemmas.List.Elements.{All-head, All-tail}
use Rattle.percent_encoding.proofs.PercentLemmas.{percent_encode-nil}
use Rattle.url.specs.declared.sets.TheConstants.{USERINFO}
use Rattle.url.proofs.SchemeLemmas.{IsScheme_file}
use Rattle.url.proofs.InputLemmas.{is_empty-nil}
use Rattle.url.specs.declared.host.Host.{Host}
use Rattle.url.specs.declared.host.Host.TheVariants.{Domain, Ipv4, Ipv6}
use Rattle.url.specs.declared.scheme.SchemeType.TheVariants.{File}
use Rattle.url.specs.Host.{parse_file_host, is_empty_host}
use Rattle.url.specs.Input.{when, split_once, strip_tabs_and_new_lines, trim_c0_control_and_space}
use Rattle.url.specs.Parser.{parse_url, parse_by_scheme, parse_parts, parse_body, parse_file, after_file_double_slash, leading_slashes, with_tail, with_path, split_scheme}
use Rattle.url.specs.Parts.{Parts, kind_of, has_host, serialize}
use Rattle.url.specs.Path.{segment_len, is_windows_drive_letter, escape_end}
use Rattle.url.specs.Scheme.{scheme_type, is_special}
use Rattle.url_spec.proofs.ParserParts.{Gives, either, any_gives, and_gives, gives_at}
use Rattle.url_spec.specs.Parsing.{text_of}
use Rattle.url_spec.proofs.AgainstBases.{Spells, head_of, before_marks, head_before, own_split}

pub record IsOfFile (url : Parts) : Type 0 where
  pub scheme : url.scheme ≡ codes "file"
  pub username : url.username ≡ []
  pub password : url.password ≡ []
  pub host : is_some url.host ≡ true
  pub port : url.port ≡ None

of_slashes : (bytes : List ℕ) → Gives IsOfFile (after_file_double_slash bytes)
unfolding after_file_double_slash
of_slashes bytes =
    either (is_windows_drive_letter (take (segment_len File bytes) bytes))
    (λ _. record { holds = record { scheme = refl; username = percent_encode-nil USERINFO; password = percent_encode-nil USERINFO; host = refl; port = refl } })
    (λ _. any_gives (parse_file_host (take (segment_len File bytes) bytes))
    (λ host. record { holds = record { scheme = refl; username = percent_encode-nil USERINFO; password = percent_encode-nil USERINFO; host = refl; port = refl } }))

of_file : (body : List ℕ) → Gives IsOfFile (parse_file None body)
unfolding parse_file
of_file body =
    either (leading_slashes File body == 2) (λ _. of_slashes (drop (leading_slashes File body) body))
    (λ _. record { holds = record { scheme = refl; username = percent_encode-nil USERINFO; password = percent_encode-nil USERINFO; host = refl; port = refl } })

of_body : (body : List ℕ) → Gives IsOfFile (parse_body (codes "file") None body)
unfolding parse_body scheme_type
of_body body = of_file body

of_tail : (test : Bool) (url : Parts) (path : List ℕ) (query fragment : Option (List ℕ)) → IsOfFile url
    → IsOfFile (with_tail (cond test (with_path url path) url) query fragment)
of_tail true url path query fragment is =
    record { scheme = is.scheme; username = is.username; password = is.password; host = is.host; port = is.port }
of_tail false url path query fragment is =
    record { scheme = is.scheme; username = is.username; password = is.password; host = is.host; port = is.port }

of_parts : (body : List ℕ) (query fragment : Option (List ℕ))
    → Gives IsOfFile (parse_parts (codes "file") None body query fragment)
unfolding parse_parts
of_parts body query fragment =
    and_gives (parse_body (codes "file") None body) (of_body body)
    (λ head is. record {
      holds = of_tail (not (is_special (kind_of head)) && (is_some query || is_some fragment)) head (escape_end head.path) query fragment is;
    })

of_split : (split : Option (List ℕ × List ℕ)) (body : List ℕ) (rest : List ℕ) (query fragment : Option (List ℕ)) (url : Parts)
    → split ≡ Some (codes "file", rest) → parse_by_scheme split None body query fragment ≡ Ok url → IsOfFile url
of_split None body rest query fragment url e parsed = absurd (cc)
of_split (Some split) body rest query fragment url e parsed =
    let same : split ≡ (codes "file", rest) = cc in
    gives_at (parse_parts (codes "file") None rest query fragment) url (of_parts rest query fragment)
    (ap (λ s. parse_by_scheme (Some s) None body query fragment) (sym same) ∙ parsed)

pub url_of_file : (text : List ℕ) (url : Parts) → Spells (head_of (codes "file")) text → parse_url None text ≡ Ok url
    → IsOfFile url
unfolding parse_url before_marks
url_of_file text url spells parsed =
    let before = head_before (codes "file") text IsScheme_file spells in
    let hash = split_once 35 (strip_tabs_and_new_lines (trim_c0_control_and_space text)) in
    let question = split_once 63 hash.0 in
    of_split (split_scheme question.0) question.0 (47 ∷ 47 ∷ before.rest) question.1 hash.1 url
    (own_split (codes "file") (before_marks text) IsScheme_file before) parsed

-- ---- its text

no_host : (host : Option (Host (List ℕ))) → is_some host ≡ true
    → not (is_empty_host (unwrap_or host (Domain []))) ≡ false → host ≡ Some (Domain [])
no_host None is none = absurd (cc)
no_host (Some (Domain domain)) is none = ap (λ d. Some (Domain d)) (is_empty-nil domain (negated _ none))
  where
    negated : (b : Bool) → not b ≡ false → b ≡ true
    negated true e = refl
    negated false e = absurd (cc)
no_host (Some (Ipv4 address)) is none = absurd (cc)
no_host (Some (Ipv6 address)) is none = absurd (cc)

abbrev pub tail_text : Option (List ℕ) → Option (List ℕ) → List ℕ
tail_text query fragment =
    when (is_some query) (codes "?") ++ (unwrap_or query [] ++ (when (is_some fragment) (codes "#") ++ (unwrap_or fragment [] ++ [])))

pub file_text_is : (url : Parts) → IsOfFile url → has_host url ≡ false
    → text_of url ≡ codes "file://" ++ (url.path ++ tail_text url.query url.fragment)
unfolding text_of
file_text_is url is none =
    let host : url.host ≡ Some (Domain []) = no_host url.host is.host none in
    let all : url ≡ record { scheme = codes "file"; username = []; password = []; host = Some (Domain []); port = None; path = url.path; query = url.query; fragment = url.fragment } =
    λ i. record { scheme = is.scheme i; username = is.username i; password = is.password i; host = host i; port = is.port i; path = url.path; query = url.query; fragment = url.fragment } in
    ap serialize all

-- ---- what stands before the tail

pub data IsTail : List ℕ → Type 0 where
  no_tail : IsTail []
  a_tail : (mark : ℕ) (rest : List ℕ) → (mark ≡ 63) ⊎ (mark ≡ 35) → IsTail (mark ∷ rest)

pub tail_is : (query fragment : Option (List ℕ)) → IsTail (tail_text query fragment)
tail_is None None = no_tail
tail_is None (Some fragment) = a_tail 35 _ (inr refl)
tail_is (Some query) fragment = a_tail 63 _ (inl refl)

abbrev pub IsNoMark : ℕ → Type 0
IsNoMark b = (b ≡ 63) ⊎ (b ≡ 35) → ⊥

pub record HasRest (front text : List ℕ) : Type 0 where
  pub rest : List ℕ
  pub split : text ≡ front ++ rest

pub before_tail : (front rest text tail : List ℕ) → All IsNoMark front → IsTail tail → text ++ tail ≡ front ++ rest
    → HasRest front text
before_tail [] rest text tail none is e = record { rest = text; split = refl }
before_tail (b ∷ front) rest [] _ none no_tail e = absurd (cc)
before_tail (b ∷ front) rest [] _ none (a_tail mark more is) e =
    let same : mark ≡ b = cc in
    absurd (All-head IsNoMark b front none (subst (λ c. (c ≡ 63) ⊎ (c ≡ 35)) same is))
before_tail (b ∷ front) rest (c ∷ text) tail none is e =
    let first : c ≡ b = cc in
    let tails : text ++ tail ≡ front ++ rest = cc in
    let more = before_tail front rest text tail (All-tail IsNoMark b front none) is tails in
    record { rest = more.rest; split = λ i. first i ∷ more.split i }
