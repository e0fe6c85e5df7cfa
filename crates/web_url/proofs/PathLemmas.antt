-- The paths that bytes and file URLs spell.
use Rattle.std.proofs.Common.{◌≡◌, ◌==◌, ◌++◌, ◌∷◌, [], List, ℕ, Bool, Option, Some, None, true, false, not, length, sym, refl, ap, ◌∙◌, subst, append_assoc, arith}
use Rattle.std.specs.Prelude.{Result, Ok, Err, IfOk, MatchOption, IsUtf8, codes, bytes_eq, ◌&&◌, flat_map, filter, if◌then◌else◌}
use Rattle.std.proofs.lemmas.Bool.{cond-false, true≢false, ne_eqb}
use Rattle.tree_spec.specs.Paths.{IsPath}
use Rattle.url_spec.specs.WebNames.{escaped}
use Rattle.url_spec.specs.ServedPaths.{read_segment, segments, IsServed}
use Rattle.url_spec.specs.FileUrls.{file_text, escapes_separator, path_of_segments, spelled_path, NamesPath}
use Rattle.web_url.specs.Serving.{SpellsBelow}
use Rattle.web_url.proofs.NameLemmas.{spelled_served, served_spelled}

-- what `path_of` answers
abbrev pub IsFound : List ℕ → Option (List ℕ) → Type 0
IsFound bytes found = MatchOption found (IsUtf8 bytes → IsPath bytes → ⊥) (λ path. (path ≡ bytes) × IsUtf8 bytes × IsPath bytes)

pub served_found : {E : Type 0} (base url bytes : List ℕ) (r : Result (Option (List ℕ)) E) → SpellsBelow base url bytes → IfOk r (IsFound bytes) → IfOk r (λ found. MatchOption found ((path : List ℕ) → IsServed base url path → ⊥) (IsServed base url))
served_found base url bytes (Err e) spells found = tt
served_found base url bytes (Ok None) spells never =
    λ path served. let same : bytes ≡ path = served_spelled base url path bytes spells served in never (subst IsUtf8 (sym same) served.utf8) (subst IsPath (sym same) served.is_path)
served_found base url bytes (Ok (Some path)) spells found =
    spelled_served base url path bytes spells (subst IsUtf8 (sym found.0) found.1) (subst IsPath (sym found.0) found.2) (sym found.0)

pub named_found : {E : Type 0} (text bytes : List ℕ) (r : Result (Option (List ℕ)) E) → escapes_separator text ≡ false → bytes ≡ spelled_path text → IfOk r (IsFound bytes) → IfOk r (λ found. MatchOption found ((path : List ℕ) → NamesPath text path → ⊥) (NamesPath text))
named_found text bytes (Err e) plain spelled found = tt
named_found text bytes (Ok None) plain spelled never =
    λ path named. let same : bytes ≡ path = spelled ∙ sym named.spelled in never (subst IsUtf8 (sym same) named.utf8) (subst IsPath (sym same) named.is_path)
named_found text bytes (Ok (Some path)) plain spelled found =
    record { no_separator = plain; spelled = found.0 ∙ spelled; utf8 = subst IsUtf8 (sym found.0) found.1; is_path = subst IsPath (sym found.0) found.2 }

pub separator_names_none : (text : List ℕ) → escapes_separator text ≡ true → (path : List ℕ) → NamesPath text path → ⊥
separator_names_none text separator path named = true≢false (sym separator ∙ named.no_separator)

-- a segment that isn't empty, read; of an empty one nothing
abbrev pub read_name : List ℕ → List ℕ
read_name name = if length name == 0 then [] else read_segment name

read_filter : (names : List (List ℕ)) → flat_map read_name names ≡ flat_map read_segment (filter (λ name. not (length name == 0)) names)
read_filter [] = refl
read_filter ([] ∷ names) = read_filter names
read_filter ((b ∷ name) ∷ names) =
    let other : (length (b ∷ name) == 0) ≡ false = ne_eqb (length (b ∷ name)) 0 (λ e. omega arith) in
    let more = read_filter names in
    rw (other, more) refl

pub or_root_is : (names : List (List ℕ)) → (if length (flat_map read_segment names) == 0 then codes "/" else flat_map read_segment names) ≡ path_of_segments names
or_root_is [] = refl
or_root_is (name ∷ names) =
    let read = flat_map read_segment (name ∷ names) in
    let full : (length read == 0) ≡ false = ne_eqb (length read) 0 (λ e. omega arith) in
    let some : (length (name ∷ names) == 0) ≡ false = ne_eqb (length (name ∷ names)) 0 (λ e. omega arith) in
    cond-false (length read == 0) (codes "/") read full ∙ sym (cond-false (length (name ∷ names) == 0) (codes "/") read some)

pub spelled_is : (text bytes : List ℕ) → bytes ≡ flat_map read_name (segments text) → (if length bytes == 0 then codes "/" else bytes) ≡ spelled_path text
unfolding spelled_path
spelled_is text bytes e =
    ap (λ xs. if length xs == 0 then codes "/" else xs) (e ∙ read_filter (segments text)) ∙ or_root_is (filter (λ name. not (length name == 0)) (segments text))

pub file_text_is : (path end start middle whole : List ℕ) (folder : Bool) → start ≡ codes "file://" → middle ≡ start ++ escaped path → whole ≡ middle ++ end → end ≡ (if folder && not (bytes_eq path (codes "/")) then codes "/" else []) → whole ≡ file_text path folder
unfolding file_text
file_text_is path end start middle whole folder start_is middle_is whole_is end_is =
    let regrouped = append_assoc (codes "file://") (escaped path) end in
    whole_is ∙ ap (λ xs. xs ++ end) (middle_is ∙ ap (λ xs. xs ++ escaped path) start_is) ∙ regrouped ∙ ap (λ xs. codes "file://" ++ (escaped path ++ xs)) end_is
