-- Web names and the paths that are served.
use Rattle.std.proofs.Common.{◌≡◌, ◌≢◌, ◌<◌, All, None, arith, ◌++◌, ◌∷◌, [], List, ℕ, Bool, true, false, drop, sym, refl, ap, ◌∙◌, subst, cond, append_assoc}
use Rattle.std.specs.Prelude.{codes, bytes_eq, nat_eq, flat_map, IsUtf8}
use Rattle.std.specs.List.{ends_with}
use Rattle.std.proofs.lemmas.List.Elements.{All-cons}
use Rattle.url.specs.Parser.{parse_url}
use Rattle.url_spec.proofs.FileNames.{files_end_in_no_slash}
use Rattle.web_url.specs.Written.{IsParsedAs}
use Rattle.std.proofs.lemmas.Bool.{true≢false}
use Rattle.std.proofs.lemmas.List.{append_cancel_left}
use Rattle.url_spec.specs.Parsing.{parse_alone}
use Rattle.url_spec.specs.WebNames.{escaped, web}
use Rattle.url_spec.specs.Suffixes.{before_suffix}
use Rattle.url_spec.specs.ServedPaths.{holds_escape, read_segment, segments, IsServed}
use Rattle.web_url.specs.Serving.{SpellsBelow}
use Rattle.std.proofs.lemmas.Str.{IsCharBoundary-from_ascii}
use Rattle.std.proofs.lemmas.Str.Pattern.{starts_text, strip_prefix_char}
use Rattle.tree_spec.specs.Paths.{IsPath, HasDepth, root, child}

-- ---- a path begins with `/`

data BeginsSlash : List ℕ → Type 0 where
  slash : (rest : List ℕ) → BeginsSlash (47 ∷ rest)

slash_before : (root : Bool) (parent name : List ℕ) → BeginsSlash parent → BeginsSlash (cond root [] parent ++ 47 ∷ name)
slash_before true parent name h = slash name
slash_before false _ name (slash rest) = slash (rest ++ 47 ∷ name)

begins_slash : (depth : ℕ) (text : List ℕ) → HasDepth depth text → BeginsSlash text
begins_slash _ _ (root text e) = subst BeginsSlash (sym e) (slash [])
begins_slash _ _ (child depth deeper parent name text up segment next e) =
    subst BeginsSlash (sym e) (slash_before (bytes_eq parent (codes "/")) parent name (begins_slash depth parent up))

no_other : (text : List ℕ) → BeginsSlash text → ((rest : List ℕ) → text ≡ 47 ∷ rest → ⊥) → ⊥
no_other _ (slash rest) never = never rest refl

-- a path has a `/` to strip
pub path_slash : (text : List ℕ) → IsPath text → ((rest : List ℕ) → text ≡ 47 ∷ rest → ⊥) → ⊥
path_slash text path = no_other text (begins_slash path.depth text path.segments)

pub root_dropped : (path rest : List ℕ) → path ≡ 47 ∷ rest → drop 1 (escaped path) ≡ escaped rest
unfolding escaped
root_dropped path rest e = ap (λ text. drop 1 (escaped text)) e

pub web_text_is : (base path rest suffix start middle whole : List ℕ) → path ≡ 47 ∷ rest → start ≡ base → middle ≡ start ++ escaped rest → whole ≡ middle ++ suffix → whole ≡ base ++ (drop 1 (escaped path) ++ suffix)
web_text_is base path rest suffix start middle whole path_is start_is middle_is whole_is =
    let dropped = root_dropped path rest path_is in
    let regrouped = append_assoc base (escaped rest) suffix in
    cc

-- a path's bytes are those behind its `/`
pub path_bytes : (path rest : List ℕ) → path ≡ 47 ∷ rest → All (λ b. b < 256) rest → All (λ b. b < 256) path
path_bytes path rest e small = subst (All (λ b. b < 256)) (sym e) (All-cons (λ b. b < 256) 47 rest (omega arith) small)

-- the web name of a file ends in no `/`
pub file_named : (base path suffix text url : List ℕ) → text ≡ base ++ (drop 1 (escaped path) ++ suffix) → IsParsedAs text url → All (λ b. b < 256) path → IsServed base url path → suffix ≡ [] → path ≢ codes "/" → ends_with nat_eq url (codes "/") ≡ false
file_named base path suffix text url is parsed small served no_suffix not_root =
    let whole : text ≡ base ++ (drop 1 (escaped path) ++ []) = is ∙ ap (λ s. base ++ (drop 1 (escaped path) ++ s)) no_suffix in
    subst (λ u. ends_with nat_eq u (codes "/") ≡ false) parsed.own
    (files_end_in_no_slash base path parsed.parts (ap (parse_url None) (sym whole) ∙ parsed.is.parsed) parsed.is.valid small (subst (λ u. IsServed base u path) (sym parsed.own) served) not_root)

-- ---- what is spelled and what is served

spelled_rest : (base url rest bytes : List ℕ) → before_suffix url ≡ base ++ rest → (h : SpellsBelow base url bytes) → h.rest ≡ rest
spelled_rest base url rest bytes below h = append_cancel_left base h.rest rest (sym h.below ∙ below)

-- an escaped slash spells nothing
pub slash_spells_none : (base url rest : List ℕ) → before_suffix url ≡ base ++ rest → holds_escape (codes "%2f") rest ≡ true → (bytes : List ℕ) → SpellsBelow base url bytes → ⊥
slash_spells_none base url rest below slashes bytes h =
    true≢false (sym slashes ∙ ap (holds_escape (codes "%2f")) (sym (spelled_rest base url rest bytes below h)) ∙ h.no_slash)

served_spells : (base url path : List ℕ) → IsServed base url path → SpellsBelow base url path
served_spells base url path h = record { rest = h.rest; below = h.below; no_slash = h.no_slash; spelled = h.spelled }

one_spelling : (base url bytes path : List ℕ) → SpellsBelow base url bytes → SpellsBelow base url path → bytes ≡ path
one_spelling base url bytes path a b =
    let same : a.rest ≡ b.rest = append_cancel_left base a.rest b.rest (sym a.below ∙ b.below) in
    a.spelled ∙ ap (λ rest. flat_map read_segment (segments rest)) same ∙ sym b.spelled

pub none_served : (base url path : List ℕ) → ((bytes : List ℕ) → SpellsBelow base url bytes → ⊥) → IsServed base url path → ⊥
none_served base url path never h = never path (served_spells base url path h)

pub spelled_served : (base url path bytes : List ℕ) → SpellsBelow base url bytes → IsUtf8 path → IsPath path → bytes ≡ path → IsServed base url path
spelled_served base url path bytes h utf8 is_path e =
    record { rest = h.rest; below = h.below; no_slash = h.no_slash; spelled = sym e ∙ h.spelled; utf8 = utf8; is_path = is_path }

pub served_spelled : (base url path bytes : List ℕ) → SpellsBelow base url bytes → IsServed base url path → bytes ≡ path
served_spelled base url path bytes h served = one_spelling base url bytes path h (served_spells base url path served)

pub web_is : (base path suffix text : List ℕ) → text ≡ base ++ (drop 1 (escaped path) ++ suffix) → parse_alone text ≡ web base path suffix
unfolding web
web_is base path suffix text e = ap parse_alone e

pub ruleset roots = (strip_prefix_char)

pub ruleset fronts = (starts_text, IsCharBoundary-from_ascii)
