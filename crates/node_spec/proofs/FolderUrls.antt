-- What the URLs of a folder name, and those of the files that are tried last in it.
use Rattle.std.proofs.Common.{◌≡◌, ◌≢◌, ◌⊎◌, ◌<◌, ◌++◌, [], ◌∷◌, ℕ, List, true, false, Option, Some, None, sym, subst, All, inl, inr}
use Rattle.std.specs.Prelude.{codes, Contains, ◌&&◌}
use Rattle.std.specs.Str.{is_utf8}
use Rattle.std.proofs.lemmas.Bool.{cond_both, and_parts}
use Rattle.tree_spec.proofs.Contained.{contains_here, contains_there, contains_cases, contains_none}
use Rattle.tree_spec.specs.Paths.{IsPath, IsAbove}
use Rattle.url_spec.proofs.IndexUrls.{index_urls}
use Rattle.url_spec.proofs.KeptUrls.{against_kept}
use Rattle.url_spec.proofs.PathDecisions.{path_by_test}
use Rattle.url_spec.proofs.UrlsInFolders.{named_in_folder}
use Rattle.url_spec.specs.FileUrls.{file_text, names_host, url_path, spelled_path}
use Rattle.url_spec.specs.Laws.{index_texts}
use Rattle.url_spec.specs.Parsing.{parse_against}
use Rattle.url_spec.specs.PathTests.{is_path}
use Rattle.url_spec.specs.Specifiers.{begins}
use Rattle.node_spec.specs.FileLooks.{without_host, url_in}
use Rattle.node_spec.specs.LegacyMainResolve.{index_files}
use Rattle.node_spec.specs.RelativeResolution.{as_path, named_path}

record IsHostless (found : Option (List ℕ)) (url : List ℕ) : Type 0 where
  found_is : found ≡ Some url
  none : names_host url ≡ false

hostless : (found : Option (List ℕ)) (url : List ℕ) → without_host found ≡ Some url → IsHostless found url
hostless None url e = absurd (cc)
hostless (Some other) url e =
    cond_both (names_host other) None (Some other) (λ r. r ≡ Some url → IsHostless (Some other) url)
    (λ host f. absurd (cc))
    (λ none f. let same : other ≡ url = cc in record { found_is = f; none = subst (λ u. names_host u ≡ false) same none }) e

record IsNamed (text path : List ℕ) : Type 0 where
  same : path ≡ text
  is_path : is_path path ≡ true

named : (text path : List ℕ) → as_path text ≡ Some path → IsNamed text path
named text path =
    cond_both (is_utf8 text && is_path text) (Some text) None (λ r. r ≡ Some path → IsNamed text path)
    (λ both f. let same : text ≡ path = cc in record { same = sym same; is_path = subst (λ p. is_path p ≡ true) same (and_parts (is_utf8 text) (is_path text) both).1 })
    (λ none f. absurd (cc))

pub urls_inside : (folder text url path : List ℕ) → IsPath folder → folder ≢ codes "/" → All (λ b. b < 256) folder
    → url_in folder text ≡ Some url → begins url (file_text folder true) ≡ true → named_path url ≡ Some path
    → (path ≡ folder) ⊎ IsAbove folder path
urls_inside folder text url path is deep small e within names =
    let free = hostless (parse_against (file_text folder true) text) url e in
    let of = named (spelled_path (url_path url)) path names in
    named_in_folder folder url path is deep small (against_kept (file_text folder true) text url free.found_is) free.none
    within (path_by_test path of.is_path) of.same

index_text : (text : List ℕ) → Contains index_files text → Contains index_texts (codes "./" ++ text)
index_text text held =
    let Held : List ℕ → Type 0 = λ t. Contains index_texts (codes "./" ++ t) in
    let last : List (List ℕ) = codes "./index.node" ∷ [] in
    let more : List (List ℕ) = codes "./index.json" ∷ last in
    let js : Held (codes "index.js") = contains_here (codes "./index.js") more in
    let json : Held (codes "index.json") =
    contains_there (codes "./index.json") (codes "./index.js") more (contains_here (codes "./index.json") last) in
    let node : Held (codes "index.node") =
    contains_there (codes "./index.node") (codes "./index.js") more
    (contains_there (codes "./index.node") (codes "./index.json") last (contains_here (codes "./index.node") [])) in
    elim (contains_cases text (codes "index.js") (codes "index.json" ∷ codes "index.node" ∷ []) held) [
      | inl same ↦ subst Held same js
      | inr behind ↦ elim (contains_cases text (codes "index.json") (codes "index.node" ∷ []) behind) [
        | inl same ↦ subst Held same json
        | inr end ↦ elim (contains_cases text (codes "index.node") [] end) [
          | inl same ↦ subst Held same node
          | inr none ↦ absurd (contains_none text none)
        ]
      ]
    ]

pub index_inside : (folder text url : List ℕ) → IsPath folder → folder ≢ codes "/" → All (λ b. b < 256) folder
    → Contains index_files text → url_in folder (codes "./" ++ text) ≡ Some url
    → begins url (file_text folder true) ≡ true
index_inside folder text url is deep small held e =
    let free = hostless (parse_against (file_text folder true) (codes "./" ++ text)) url e in
    index_urls folder (codes "./" ++ text) url is deep small (index_text text held) free.found_is
