-- The URLs of the files that Node tries in a folder begin with that of the folder.
use Rattle.std.proofs.Common.{◌≡◌, ◌≢◌, ◌<◌, ◌==◌, ◌∷◌, ◌++◌, [], ℕ, List, true, false, Option, Some, None, refl, sym, ap, ◌∙◌, subst, All, inl, inr, arith, length, append_assoc, append-nil}
use Rattle.std.specs.Prelude.{codes, not, Ok, drop, ◌&&◌, unwrap_or}
use Rattle.std.proofs.lemmas.Bool.{cond-true, cond-false, ne_eqb}
use Rattle.std.proofs.lemmas.Bool.Decides.{Decides-eqb}
use Rattle.std.proofs.Math.Bool.{and-false}
use Rattle.std.proofs.lemmas.List.Elements.{All-nil}
use Rattle.std.proofs.lemmas.Slice.Eq.{starts_is}
use Rattle.percent_encoding.specs.AsciiSet.{should_percent_encode}
use Rattle.percent_encoding.specs.Percent.{percent_encode}
use Rattle.tree_spec.specs.Paths.{IsPath}
use Rattle.url.proofs.InputLemmas.{rsplit_once_at, IsNot}
use Rattle.url.specs.declared.scheme.SchemeType.TheVariants.{File}
use Rattle.url.specs.Input.{strip_tabs_and_new_lines, trim_c0_control_and_space, split_once}
use Rattle.url.specs.Parser.{parse_url, parse_parts, parse_body, parse_file, leading_slashes, inherit_file, split_scheme}
use Rattle.url.specs.Parts.{Parts}
use Rattle.url.specs.Path.{shorten_path, parse_segments, push_segment, dot_count, is_windows_drive_letter, is_normalized_windows_drive_letter}
use Rattle.url.specs.Scheme.{scheme_type, scheme_len}
use Rattle.url_spec.proofs.ParserParts.{cond_some}
use Rattle.url_spec.specs.FileUrls.{file_text}
use Rattle.url_spec.specs.Parsing.{text_of, parse_against, parse_onto, url_text, is_own_text, kept}
use Rattle.url_spec.specs.Specifiers.{begins}
use Rattle.url_spec.specs.WebNames.{escaped}
use Rattle.url_spec.proofs.FileUrls.{file_path_parsed, file_parts, folder_slash, file_serialized}
use Rattle.url_spec.proofs.UrlsInFolders.{folder_text}
use Rattle.tree_spec.proofs.ByteLists.{other_text}
use Rattle.tree_spec.proofs.Contained.{contains_cases, contains_none}
use Rattle.url_spec.specs.Laws.{IndexUrls}

-- ---- the path of the folder is what the path of a file in it begins with

last_is_slash : (front : List ℕ) → (length (front ++ 47 ∷ []) == 3 && is_normalized_windows_drive_letter (drop 1 (front ++ 47 ∷ []))) ≡ false
unfolding is_windows_drive_letter
last_is_slash [] = refl
last_is_slash (a ∷ []) = refl
last_is_slash (a ∷ b ∷ []) = and-false _
last_is_slash (a ∷ b ∷ c ∷ front) =
    ap (λ t. t && is_normalized_windows_drive_letter (drop 1 (a ∷ b ∷ c ∷ (front ++ 47 ∷ []))))
    (ne_eqb (length (a ∷ b ∷ c ∷ (front ++ 47 ∷ []))) 3 (λ e. absurd (omega (arith, e, longer front))))
  where
    longer : (xs : List ℕ) → 0 < length (xs ++ 47 ∷ [])
    longer [] = omega arith
    longer (x ∷ xs) = omega arith

pub shortened : (front : List ℕ) → shorten_path File (front ++ 47 ∷ []) ≡ front
unfolding shorten_path
shortened front =
    cond-false _ _ _ (last_is_slash front)
    ∙ ap (λ (r : Option (List ℕ) × List ℕ). unwrap_or r.0 []) (rsplit_once_at 47 front [] (All-nil (IsNot 47)))

-- ---- the parse

abbrev joined_parts : List ℕ → List ℕ → Parts
joined_parts path text = file_parts (parse_segments File (shorten_path File path) [] text)

index_js : (path : List ℕ) → parse_url (Some (file_parts path)) (codes "./index.js") ≡ Ok (joined_parts path (codes "./index.js"))
unfolding parse_url parse_parts parse_body parse_file leading_slashes inherit_file split_scheme scheme_len scheme_type strip_tabs_and_new_lines trim_c0_control_and_space split_once is_windows_drive_letter file_parts
index_js path = refl

index_json : (path : List ℕ) → parse_url (Some (file_parts path)) (codes "./index.json") ≡ Ok (joined_parts path (codes "./index.json"))
unfolding parse_url parse_parts parse_body parse_file leading_slashes inherit_file split_scheme scheme_len scheme_type strip_tabs_and_new_lines trim_c0_control_and_space split_once is_windows_drive_letter file_parts
index_json path = refl

index_node : (path : List ℕ) → parse_url (Some (file_parts path)) (codes "./index.node") ≡ Ok (joined_parts path (codes "./index.node"))
unfolding parse_url parse_parts parse_body parse_file leading_slashes inherit_file split_scheme scheme_len scheme_type strip_tabs_and_new_lines trim_c0_control_and_space split_once is_windows_drive_letter file_parts
index_node path = refl

segments_js : (front : List ℕ) → parse_segments File front [] (codes "./index.js") ≡ front ++ codes "/index.js"
unfolding parse_segments push_segment dot_count is_windows_drive_letter percent_encode should_percent_encode
segments_js front =
    ap (λ text. (front ++ []) ++ 47 ∷ text) (cond-false _ _ _ (and-false _))
    ∙ ap (λ f. f ++ codes "/index.js") (append-nil front)

segments_json : (front : List ℕ) → parse_segments File front [] (codes "./index.json") ≡ front ++ codes "/index.json"
unfolding parse_segments push_segment dot_count is_windows_drive_letter percent_encode should_percent_encode
segments_json front =
    ap (λ text. (front ++ []) ++ 47 ∷ text) (cond-false _ _ _ (and-false _))
    ∙ ap (λ f. f ++ codes "/index.json") (append-nil front)

segments_node : (front : List ℕ) → parse_segments File front [] (codes "./index.node") ≡ front ++ codes "/index.node"
unfolding parse_segments push_segment dot_count is_windows_drive_letter percent_encode should_percent_encode
segments_node front =
    ap (λ text. (front ++ []) ++ 47 ∷ text) (cond-false _ _ _ (and-false _))
    ∙ ap (λ f. f ++ codes "/index.node") (append-nil front)

-- ---- the URL

-- the parse of this text against a folder's URL adds this name to it
abbrev IsIndex : List ℕ → List ℕ → Type 0
IsIndex text name =
    (front : List ℕ) → parse_url (Some (file_parts (front ++ 47 ∷ []))) text ≡ Ok (file_parts (front ++ 47 ∷ name))

is_js : IsIndex (codes "./index.js") (codes "index.js")
is_js front =
    index_js (front ++ 47 ∷ [])
    ∙ ap (λ p. Ok (file_parts p)) (ap (λ f. parse_segments File f [] (codes "./index.js")) (shortened front) ∙ segments_js front)

is_json : IsIndex (codes "./index.json") (codes "index.json")
is_json front =
    index_json (front ++ 47 ∷ [])
    ∙ ap (λ p. Ok (file_parts p)) (ap (λ f. parse_segments File f [] (codes "./index.json")) (shortened front) ∙ segments_json front)

is_node : IsIndex (codes "./index.node") (codes "index.node")
is_node front =
    index_node (front ++ 47 ∷ [])
    ∙ ap (λ p. Ok (file_parts p)) (ap (λ f. parse_segments File f [] (codes "./index.node")) (shortened front) ∙ segments_node front)

begins_by : (folder text name url : List ℕ) → IsPath folder → folder ≢ codes "/" → All (λ b. b < 256) folder
    → IsIndex text name → parse_against (file_text folder true) text ≡ Some url
    → begins url (file_text folder true) ≡ true
unfolding parse_against text_of
begins_by folder text name url is other small index e =
    let end : folder_slash folder true ≡ 47 ∷ [] = cond-true _ (codes "/") [] (ap not (other_text folder (codes "/") other)) in
    let base : parse_url None (file_text folder true) ≡ Ok (file_parts (escaped folder ++ 47 ∷ [])) =
    file_path_parsed folder true is small ∙ ap (λ s. Ok (file_parts (escaped folder ++ s))) end in
    let parsed : parse_onto (parse_url None (file_text folder true)) text
    ≡ kept (Some (text_of (file_parts (escaped folder ++ 47 ∷ name)))) =
    ap (λ b. parse_onto b text) base ∙ ap (λ r. kept (url_text r)) (index (escaped folder)) in
    let same : text_of (file_parts (escaped folder ++ 47 ∷ name)) ≡ url =
    (cond_some (is_own_text (text_of (file_parts (escaped folder ++ 47 ∷ name)))) _ url (sym parsed ∙ e)).1 in
    let whole : url ≡ codes "file://" ++ (escaped folder ++ 47 ∷ name) =
    sym same ∙ file_serialized (escaped folder ++ 47 ∷ name) in
    let split : url ≡ file_text folder true ++ name =
    whole ∙ (ap (λ p. codes "file://" ++ p) (sym (append_assoc (escaped folder) (47 ∷ []) name))
    ∙ ap (λ t. t ++ name) (sym (folder_text folder other))) in
    sym (let held = (starts_is Decides-eqb url (file_text folder true) (begins url (file_text folder true)) refl).1 name split in sym held)

-- the texts are given one by one
pub index_urls : IndexUrls
index_urls folder text url is other small held e =
    let Begins : List ℕ → Type 0 = λ t. parse_against (file_text folder true) t ≡ Some url → begins url (file_text folder true) ≡ true in
    elim (contains_cases text (codes "./index.js") (codes "./index.json" ∷ codes "./index.node" ∷ []) held) [
      | inl same ↦ subst Begins same (begins_by folder (codes "./index.js") (codes "index.js") url is other small is_js) e
      | inr more ↦ elim (contains_cases text (codes "./index.json") (codes "./index.node" ∷ []) more) [
        | inl same ↦ subst Begins same (begins_by folder (codes "./index.json") (codes "index.json") url is other small is_json) e
        | inr last ↦ elim (contains_cases text (codes "./index.node") [] last) [
          | inl same ↦ subst Begins same (begins_by folder (codes "./index.node") (codes "index.node") url is other small is_node) e
          | inr none ↦ absurd (contains_none text none)
        ]
      ]
    ]
