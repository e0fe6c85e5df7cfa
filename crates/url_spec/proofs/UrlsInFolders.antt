-- What a URL that begins with that of a folder spells.
use Rattle.std.proofs.Common.{◌≡◌, ◌≢◌, ◌⊎◌, ◌<◌, ◌∷◌, ◌++◌, [], ℕ, List, true, false, refl, sym, ap, ◌∙◌, All, inl, inr, arith, length, append_assoc, append-nil}
use Rattle.std.specs.Prelude.{codes, not, drop, filter, flat_map}
use Rattle.std.proofs.lemmas.Bool.{true≢false, cond-true, cond-false, ne_eqb}
use Rattle.std.proofs.lemmas.Bool.Decides.{Decides-eqb}
use Rattle.std.proofs.lemmas.List.Elements.{All-append, All-cons, All-nil}
use Rattle.std.proofs.lemmas.Grind.{flat_map-append}
use Rattle.std.proofs.lemmas.List.Elements.{filter-append}
use Rattle.std.proofs.lemmas.Slice.Eq.{starts_is}
use Rattle.percent_encoding.proofs.PercentLemmas.{IsEscapeByte}
use Rattle.percent_encoding.specs.Percent.{percent_decode}
use Rattle.url.specs.Parts.{has_host}
use Rattle.url_spec.proofs.ParserParts.{url_parsed}
use Rattle.url_spec.specs.FileUrls.{file_text, names_host, with_host, url_path, path_or_empty, spelled_path, path_of_segments}
use Rattle.url_spec.specs.Parsing.{IsUrl}
use Rattle.std.specs.Result.{result_ok}
use Rattle.url_spec.specs.ServedPaths.{segments, read_segment}
use Rattle.url_spec.specs.Specifiers.{begins}
use Rattle.url_spec.specs.WebNames.{is_plain, escaped}
use Rattle.url_spec.proofs.FileUrls.{All_escaped}
use Rattle.url_spec.proofs.FileUrlParts.{url_of_file, file_text_is, tail_text, tail_is, IsNoMark, HasRest, before_tail}
use Rattle.url_spec.proofs.SpelledPaths.{is_some_name, segments_behind, path_spelled}
use Rattle.tree_spec.proofs.PathTexts.{below_by_text}
use Rattle.tree_spec.proofs.ByteLists.{other_text}
use Rattle.tree_spec.proofs.PathParts.{not_empty}
use Rattle.url_spec.specs.Laws.{NamedInFolder}

-- ---- the URL of a folder

pub folder_text : (folder : List ℕ) → folder ≢ codes "/"
    → file_text folder true ≡ codes "file://" ++ (escaped folder ++ 47 ∷ [])
unfolding file_text
folder_text folder other =
    ap (λ end. codes "file://" ++ (escaped folder ++ end))
    (cond-true _ (codes "/") [] (ap not (other_text folder (codes "/") other)))

plain_no_mark : (b : ℕ) → is_plain b ≡ true → IsNoMark b
plain_no_mark b plain (inl e) = true≢false (sym plain ∙ ap is_plain e)
plain_no_mark b plain (inr e) = true≢false (sym plain ∙ ap is_plain e)

escape_no_mark : (b : ℕ) → IsEscapeByte b → IsNoMark b
escape_no_mark b escape (inl e) = grind arith
escape_no_mark b escape (inr e) = grind arith

front_no_mark : (folder : List ℕ) → All (λ b. b < 256) folder → All IsNoMark (escaped folder ++ 47 ∷ [])
front_no_mark folder small =
    All-append IsNoMark (escaped folder) (47 ∷ [])
    (All_escaped IsNoMark (λ b. b < 256) folder small (λ b is plain. plain_no_mark b plain) escape_no_mark)
    (All-cons IsNoMark 47 [] (plain_no_mark 47 refl) (All-nil IsNoMark))

-- ---- the path of a URL in it

pub path_behind : (folder url : List ℕ) → folder ≢ codes "/" → All (λ b. b < 256) folder → IsUrl url
    → names_host url ≡ false → begins url (file_text folder true) ≡ true
    → HasRest (escaped folder ++ 47 ∷ []) (url_path url)
unfolding names_host url_path
path_behind folder url other small is_url no_host begins_so =
    let front : List ℕ = escaped folder ++ 47 ∷ [] in
    let rest : List ℕ = drop (length (file_text folder true)) url in
    let split : url ≡ file_text folder true ++ rest =
    (starts_is Decides-eqb url (file_text folder true) true (sym begins_so)).0 refl in
    let whole : url ≡ codes "file://" ++ (front ++ rest) = split ∙ ap (λ t. t ++ rest) (folder_text folder other) in
    let parsed = url_parsed url is_url in
    let of = url_of_file url parsed.url (record { rest = front ++ rest; split = whole }) parsed.parsed in
    let none : has_host parsed.url ≡ false = ap (λ r. with_host (result_ok r)) (sym parsed.parsed) ∙ no_host in
    let text : url ≡ codes "file://" ++ (parsed.url.path ++ tail_text parsed.url.query parsed.url.fragment) =
    sym parsed.own ∙ file_text_is parsed.url of none in
    let both : codes "file://" ++ (parsed.url.path ++ tail_text parsed.url.query parsed.url.fragment)
    ≡ codes "file://" ++ (front ++ rest) = sym text ∙ whole in
    let tails : parsed.url.path ++ tail_text parsed.url.query parsed.url.fragment ≡ front ++ rest = ap (drop 7) both in
    let has = before_tail front rest parsed.url.path (tail_text parsed.url.query parsed.url.fragment)
    (front_no_mark folder small) (tail_is parsed.url.query parsed.url.fragment) tails in
    record { rest = has.rest; split = ap (λ r. path_or_empty (result_ok r)) parsed.parsed ∙ has.split }

-- ---- what it names

nothing_or_some : (names : List (List ℕ)) → (flat_map read_segment names ≡ [])
    ⊎ ((more : List ℕ) × (flat_map read_segment names ≡ 47 ∷ more))
nothing_or_some [] = inl refl
nothing_or_some (name ∷ names) = inr (percent_decode name ++ flat_map read_segment names, refl)

some_names : (names : List (List ℕ)) → flat_map read_segment names ≢ [] → path_of_segments names ≡ flat_map read_segment names
some_names [] some = absurd (some refl)
some_names (name ∷ names) some = cond-false _ _ _ (ne_eqb (length (name ∷ names)) 0 (λ e. absurd (omega (arith, e))))

not_nothing : (xs ys : List ℕ) → xs ≢ [] → xs ++ ys ≢ []
not_nothing [] ys some e = some refl
not_nothing (x ∷ xs) ys some e = cc

-- what a URL that begins with that of a folder spells is the folder, or stands below it
pub named_in_folder : NamedInFolder
unfolding spelled_path
named_in_folder folder url path is other small is_url no_host begins_so is_path e =
    let some : folder ≢ [] = not_empty is.depth folder is.segments in
    let has = path_behind folder url other small is_url no_host begins_so in
    let text : url_path url ≡ escaped folder ++ 47 ∷ has.rest = has.split ∙ append_assoc (escaped folder) (47 ∷ []) has.rest in
    let found : List (List ℕ) = filter is_some_name (segments (url_path url)) in
    let front : List (List ℕ) = filter is_some_name (segments (escaped folder)) in
    let back : List (List ℕ) = filter is_some_name (segments has.rest) in
    let split : found ≡ front ++ back =
    ap (λ t. filter is_some_name (segments t)) text
    ∙ (ap (filter is_some_name) (segments_behind (escaped folder) has.rest)
    ∙ filter-append is_some_name (segments (escaped folder)) (segments has.rest)) in
    let read : flat_map read_segment found ≡ folder ++ flat_map read_segment back =
    ap (flat_map read_segment) split
    ∙ (flat_map-append read_segment front back
    ∙ ap (λ xs. xs ++ flat_map read_segment back) (path_spelled folder is other small)) in
    let spells : path ≡ folder ++ flat_map read_segment back =
    e
    ∙ (some_names found (λ none. not_nothing folder (flat_map read_segment back) some (sym read ∙ none)) ∙ read) in
    elim (nothing_or_some back) [
      | inl none ↦ inl (spells ∙ (ap (λ xs. folder ++ xs) none ∙ append-nil folder))
      | inr more ↦ inr (below_by_text folder more.0 path some is_path (spells ∙ ap (λ xs. folder ++ xs) more.1))
    ]
