-- A short form is read back as the URL that it stands for.
use Rattle.std.proofs.Common.{◌≡◌, ◌≢◌, ◌++◌, ◌∷◌, [], ℕ, List, Option, Some, None, true, false, refl, sym, ap, ◌∙◌, subst, IsAscii, drop_at}
use Rattle.std.specs.Prelude.{◌&&◌, Bool, codes, drop, length, if◌then◌else◌, IsUtf8}
use Rattle.std.proofs.lemmas.Bool.{cond_both, and_parts, and_left, and_from, cond-true, cond-false, true≢false}
use Rattle.std.proofs.lemmas.Bool.Decides.{Decides-eqb}
use Rattle.std.proofs.lemmas.Slice.Eq.{starts_is, bytes_eq-Decides}
use Rattle.url_spec.proofs.AgainstBases.{urls_against}
use Rattle.url_spec.proofs.OwnUrls.{own_urls}
use Rattle.layout_spec.specs.Laws.{ShortByCases, ShortFormsParse, ShortFormsDiffer}
use Rattle.std.proofs.lemmas.Str.{IsUtf8-from_ascii, IsAscii-append, IsAscii-drop}
use Rattle.std.proofs.lemmas.Str.Ascii.{IsAscii-cons, IsAscii-nil}
use Rattle.json_spec.specs.PropertyOrder.{is_array_index}
use Rattle.url_spec.proofs.KeptUrls.{kept_urls, text_by_test}
use Rattle.url_spec.proofs.OwnTexts.{ascii_urls}
use Rattle.url_spec.specs.Parsing.{parse_against, is_text, IsUrl}
use Rattle.url_spec.specs.Specifiers.{begins, is_relative, as_url}
use Rattle.std.specs.Cmp.Lexicographic.{slice_cmp}
use Rattle.std.specs.FinMap.{entries, entries_sorted, get}
use Rattle.std.specs.List.{IsDistinct}
use Rattle.std.specs.Ordering.{nat_cmp, is_lt}
use Rattle.std.specs.Prelude.{T, ◌<◌}
use Rattle.std.proofs.Common.{arith}
use Rattle.json_spec.proofs.NewNames.{IsNewName}
use Rattle.json_spec.specs.Value.{AreDistinct}
use Rattle.import_map_spec.proofs.Entries.{AllEntries, all_entries, same_key, same_key_itself, parts, not_same, Below, Sorted}
use Rattle.import_map_spec.specs.ParsedMap.{Addresses, Texts}
use Rattle.tree_spec.proofs.ByteLists.{other_text}
use Rattle.layout_spec.proofs.MapMembers.{below_apart}
use Rattle.layout_spec.specs.PrintedMap.{IsKeptScope, scopes_of}
use Rattle.layout_spec.specs.ShortForms.{folder_text, shorter, short, IsShort, is_beside, is_whole}

-- a text that begins with another is that and the rest
begun : (text front : List ℕ) → begins text front ≡ true → text ≡ front ++ drop (length front) text
begun text front e = (starts_is Decides-eqb text front (begins text front) refl).0 e

begins_so : (text front rest : List ℕ) → text ≡ front ++ rest → begins text front ≡ true
begins_so text front rest split = (starts_is Decides-eqb text front (begins text front) refl).1 rest split

-- `./` and a rest that leads back are the short form
shorter_of : (base url rest : List ℕ) → url ≡ folder_text base ++ rest → shorter base url ≡ codes "./" ++ rest
shorter_of base url rest split =
    ap (λ (text : List ℕ). codes "./" ++ drop (length (folder_text base)) text) split
    ∙ ap (λ (text : List ℕ). codes "./" ++ text) (drop_at (folder_text base) rest (length (folder_text base)) refl)

passes : (base url rest : List ℕ) → url ≡ folder_text base ++ rest → parse_against base (codes "./" ++ rest) ≡ Some url
    → (begins url (folder_text base) && is_text url (parse_against base (shorter base url))) ≡ true
passes base url rest split parsed =
    let same : parse_against base (shorter base url) ≡ Some url = ap (parse_against base) (shorter_of base url rest split) ∙ parsed in
    let test : is_text url (parse_against base (shorter base url)) ≡ true = ap (is_text url) same ∙ (bytes_eq-Decides url url).1 refl in
    and_from _ _ (begins_so url (folder_text base) rest split) test

pub short_beside : (base url rest : List ℕ) → url ≡ folder_text base ++ rest → parse_against base (codes "./" ++ rest) ≡ Some url
    → short base url ≡ codes "./" ++ rest
unfolding short
short_beside base url rest split parsed =
    cond-true _ _ _ (passes base url rest split parsed) ∙ shorter_of base url rest split

pub short_whole : (base url : List ℕ) → begins url (folder_text base) ≡ false → short base url ≡ url
unfolding short
short_whole base url other = cond-false _ _ _ (and_left _ _ other)

pub short_by_cases : ShortByCases
unfolding short
short_by_cases base url =
    cond_both (begins url (folder_text base) && is_text url (parse_against base (shorter base url))) (shorter base url) url
    (IsShort base url)
    (λ both. is_beside (drop (length (folder_text base)) url) (begun url (folder_text base) (and_parts _ _ both).0) refl
    (text_by_test url (parse_against base (shorter base url)) (and_parts _ _ both).1))
    (λ fails. is_whole (λ rest split parsed. true≢false (sym (passes base url rest split parsed) ∙ fails)) refl)

-- what holds of the URL and of what is read back as it
short_by : (P : List ℕ → Type 0) (base url : List ℕ) → P url
    → (parse_against base (shorter base url) ≡ Some url → P (shorter base url)) → P (short base url)
unfolding short
short_by P base url whole shortened =
    cond_both (begins url (folder_text base) && is_text url (parse_against base (shorter base url))) (shorter base url) url
    P (λ both. shortened (text_by_test url (parse_against base (shorter base url)) (and_parts _ _ both).1)) (λ other. whole)

relative_short : (base text : List ℕ) → as_url base (codes "./" ++ text) ≡ parse_against base (codes "./" ++ text)
unfolding as_url
relative_short base text = refl

-- an address
pub short_url : (base url : List ℕ) → as_url base url ≡ Some url → as_url base (short base url) ≡ Some url
short_url base url e =
    short_by (λ text. as_url base text ≡ Some url) base url e
    (λ parsed. relative_short base (drop (length (folder_text base)) url) ∙ parsed)

-- a scope's key
pub short_scope : (base url : List ℕ) → parse_against base url ≡ Some url → parse_against base (short base url) ≡ Some url
short_scope base url e = short_by (λ text. parse_against base text ≡ Some url) base url e (λ parsed. parsed)

-- so no two scopes have one short form
pub short_apart : (base one other : List ℕ) → parse_against base one ≡ Some one → parse_against base other ≡ Some other
    → short base one ≡ short base other → one ≡ other
short_apart base one other e f same =
    let both : Some one ≡ Some other =
    sym (short_scope base one e) ∙ (ap (parse_against base) same ∙ short_scope base other f) in
    cc

pub short_forms_parse : ShortFormsParse
short_forms_parse base url is_base is_url =
    (short_scope base url (urls_against base url is_base is_url), short_url base url (own_urls.0 base url is_url))

pub short_forms_differ : ShortFormsDiffer
short_forms_differ base one other is_base is_one is_other same =
    short_apart base one other (urls_against base one is_base is_one) (urls_against base other is_base is_other) same

pub short_no_index : (base url : List ℕ) → is_array_index url ≡ false → is_array_index (short base url) ≡ false
unfolding is_array_index
short_no_index base url e = short_by (λ text. is_array_index text ≡ false) base url e (λ parsed. refl)

-- the folder ends in `/`, so what stands behind it is whole
pub short_utf8 : (base url : List ℕ) → IsUtf8 url → IsUtf8 (short base url)
short_utf8 base url whole =
    short_by (λ text. IsUtf8 text) base url whole
    (λ parsed. IsUtf8-from_ascii (shorter base url) (short_ascii base url (ascii_urls url (kept_urls.1 base (shorter base url) url parsed))))
  where
    short_ascii : (base url : List ℕ) → IsAscii url → IsAscii (shorter base url)
    short_ascii base url all =
        IsAscii-append (codes "./") (drop (length (folder_text base)) url)
        (IsAscii-cons 46 (47 ∷ []) (omega arith) (IsAscii-cons 47 [] (omega arith) IsAscii-nil))
        (IsAscii-drop url (length (folder_text base)) all)

-- ---- the scopes are apart

new_scope : (base key : List ℕ) (es : List (List ℕ × Addresses)) → parse_against base key ≡ Some key
    → AllEntries (IsKeptScope base) es → Below key es → IsNewName (short base key) (scopes_of base es)
new_scope base key [] e k b = tt
new_scope base key (other ∷ es) e k b =
    let p = parts _ _ b in (
      other_text (short base key) (short base other.0)
          (λ same. below_apart key other.0 p.0 (short_apart base key other.0 e k.0.url same)),
      new_scope base key es e k.1 p.1,
    )

scopes_apart : (base : List ℕ) (es : List (List ℕ × Addresses)) → AllEntries (IsKeptScope base) es → Sorted es
    → AreDistinct (scopes_of base es)
unfolding IsDistinct
scopes_apart base [] k s = tt
scopes_apart base (e ∷ es) k s =
    let p = parts _ _ s in (new_scope base e.0 es k.0.url k.1 p.0, scopes_apart base es k.1 p.1)

pub distinct_scopes : (base : List ℕ) (m : Texts Addresses)
    → ((key : List ℕ) (addresses : Addresses) → get m key ≡ Some addresses → IsKeptScope base key addresses)
    → AreDistinct (scopes_of base (entries m))
distinct_scopes base m k = scopes_apart base (entries m) (all_entries (IsKeptScope base) m k) (entries_sorted m)
