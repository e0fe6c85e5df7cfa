-- The pieces that are printed one behind the other.
use Rattle.std.proofs.Common.{◌≡◌, ◌≤◌, ◌<◌, ◌+◌, ℕ, List, [], ◌∷◌, ◌++◌, All, length, drop, take, get_or, sym, ap, subst, ◌∙◌}
use Rattle.std.specs.Prelude.{codes, IsUtf8, Ok, Some, slice_get}
use Rattle.std.proofs.lemmas.List.{drop_all, drop_more, take_all, take_more}
use Rattle.std.proofs.lemmas.List.Elements.{All-cons, All-push}
use Rattle.std.proofs.lemmas.Option.{slice_get_within, get_or_from_slice_get}
use Rattle.json_spec.specs.PrintedString.{quoted}
use Rattle.json_spec.specs.PrintedValue.{line, printed, printed_items}
use Rattle.json_spec.specs.Value.{a_list}
use Rattle.ordered_json.proofs.Appends.{piece, next, as_text, from_nothing, Completes}
use Rattle.ordered_json.specs.Appending.{Appends}
use Rattle.trace_spec.specs.Modules.{Config}
use Rattle.project_spec.proofs.ReadBack.{projects_read_back}
use Rattle.project_spec.specs.ProjectFiles.{ReadsProject, project_text, project_value, strings}
use Rattle.project_file.specs.Parts.{CanBeReadBack}

-- ---- the names, copied one after another

pub one_more : (names all next : List (List ℕ)) (i : ℕ) (copy name : List ℕ) → names ≡ take i all → slice_get all i ≡ Some name → copy ≡ name → next ≡ names ++ copy ∷ [] → next ≡ take (i + 1) all
one_more names all next i copy name so_far at same put =
    let step = take_more all i name (slice_get_within all i name at) in
    let here = get_or_from_slice_get all i name name at in
    cc

-- ---- a list of strings

pub all_printed : {old now : List ℕ} {all : List ℕ → List ℕ} (n i : ℕ) (texts : List (List ℕ)) → length texts ≤ i → Completes old now all (printed_items n (strings (drop i texts))) → Appends old now all
all_printed {now = now} n i texts past c = record { whole = λ rest. sym (ap (λ ts. now ++ printed_items n (strings ts) rest) (drop_all i texts past)) ∙ c.whole rest }

pub more_printed : {old before mid now : List ℕ} {all : List ℕ → List ℕ} (texts : List (List ℕ)) (i : ℕ) (text lent : List ℕ) → i < length texts → text ≡ get_or texts i text → lent ≡ text → mid ≡ before ++ 44 ∷ [] → Appends mid now (λ rest. line 2 (quoted lent ++ rest)) → Completes old before all (printed_items 2 (strings (drop i texts))) → Completes old now all (printed_items 2 (strings (drop (i + 1) texts)))
more_printed {before = before} texts i text lent below here same comma one c =
    let split = drop_more texts i text below ∙ ap (λ t. t ∷ drop (i + 1) texts) (sym (same ∙ here)) in
    record { whole = λ rest. (next (piece (44 ∷ []) comma) one).whole (printed_items 2 (strings (drop (i + 1) texts)) rest) ∙ (ap (λ ts. before ++ printed_items 2 (strings ts) rest) (sym split) ∙ c.whole rest) }

pub more_utf8 : (texts : List (List ℕ)) (i : ℕ) (text lent : List ℕ) → i < length texts → text ≡ get_or texts i text → lent ≡ text → IsUtf8 lent → All IsUtf8 (take i texts) → All IsUtf8 (take (i + 1) texts)
more_utf8 texts i text lent below here same utf8 so_far =
    subst (All IsUtf8) (sym (take_more texts i text below ∙ ap (λ t. take i texts ++ t ∷ []) (sym (same ∙ here)))) (All-push IsUtf8 (take i texts) lent so_far utf8)

pub all_utf8 : (texts : List (List ℕ)) (i : ℕ) → length texts ≤ i → All IsUtf8 (take i texts) → All IsUtf8 texts
all_utf8 texts i past are = subst (All IsUtf8) (take_all i texts past) are

pub first_utf8 : (first lent : List ℕ) (more texts : List (List ℕ)) → texts ≡ first ∷ more → lent ≡ first → IsUtf8 lent → All IsUtf8 more → All IsUtf8 texts
first_utf8 first lent more texts split same utf8 are =
    subst (All IsUtf8) (sym split) (All-cons IsUtf8 first more (subst IsUtf8 same utf8) are)

-- a list is its first string, those behind it, and the line of its closing bracket
pub listed : {a b c d e : List ℕ} (first lent : List ℕ) (more texts : List (List ℕ)) (end : List ℕ) → texts ≡ first ∷ more → ((rest : List ℕ) → end ++ rest ≡ line 1 (93 ∷ rest)) → b ≡ a ++ 91 ∷ [] → lent ≡ first → Appends b c (λ rest. line 2 (quoted lent ++ rest)) → Appends c d (printed_items 2 (strings more)) → e ≡ d ++ end → Appends a e (printed 1 (a_list (strings texts)))
listed first lent more texts end split ends opens same one others closes =
    as_text (printed 1 (a_list (strings texts))) (next (piece (91 ∷ []) opens) (next one (next others (piece end closes))))
    (λ rest. ap (λ (xs : List ℕ). 91 ∷ line 2 (quoted lent ++ printed_items 2 (strings more) xs)) (ends rest)
    ∙ (ap (λ t. printed 1 (a_list (strings (t ∷ more))) rest) same ∙ sym (ap (λ ts. printed 1 (a_list (strings ts)) rest) split)))

-- ---- the whole file

-- the line of a member, up to its value
abbrev pub opened : List ℕ → List ℕ → List ℕ
opened name rest = line 1 (quoted name ++ (codes ": " ++ rest))

abbrev Spells : List ℕ → (List ℕ → List ℕ) → Type 0
Spells bytes text = (rest : List ℕ) → bytes ++ rest ≡ text rest

pub whole_project : {a b c d e f g h i j : List ℕ} (config : Config) (base page conditions entries end : List ℕ) → Spells base (λ rest. 123 ∷ opened (codes "base") rest) → Spells page (λ rest. 44 ∷ opened (codes "page") rest) → Spells conditions (λ rest. 44 ∷ opened (codes "conditions") rest) → Spells entries (λ rest. 44 ∷ opened (codes "entries") rest) → Spells end (λ rest. line 0 (125 ∷ 10 ∷ rest)) → b ≡ a ++ base → c ≡ b ++ quoted config.base → d ≡ c ++ page → e ≡ d ++ quoted config.page → f ≡ e ++ conditions → Appends f g (printed 1 (a_list (strings config.conditions))) → h ≡ g ++ entries → Appends h i (printed 1 (a_list (strings config.entries))) → j ≡ i ++ end → Appends a j (λ rest. printed 0 (project_value config) (10 ∷ rest))
unfolding project_value
whole_project config base page conditions entries end base_is page_is conditions_is entries_is end_is p q r s t u v w x =
    let names : List ℕ → List ℕ = printed 1 (a_list (strings config.conditions)) in
    let asked : List ℕ → List ℕ = printed 1 (a_list (strings config.entries)) in
    as_text (λ rest. printed 0 (project_value config) (10 ∷ rest))
    (next (piece base p) (next (piece (quoted config.base) q) (next (piece page r) (next (piece (quoted config.page) s) (next (piece conditions t) (next u (next (piece entries v) (next w (piece end x)))))))))
    (λ rest. base_is _
    ∙ ap (λ (xs : List ℕ). 123 ∷ opened (codes "base") (quoted config.base ++ xs)) (page_is _
    ∙ ap (λ (xs : List ℕ). 44 ∷ opened (codes "page") (quoted config.page ++ xs)) (conditions_is _
    ∙ ap (λ (xs : List ℕ). 44 ∷ opened (codes "conditions") (names xs)) (entries_is _
    ∙ ap (λ (xs : List ℕ). 44 ∷ opened (codes "entries") (asked xs)) (end_is rest)))))

pub whole_text : {old new : List ℕ} (config : Config) → old ≡ [] → Appends old new (λ rest. printed 0 (project_value config) (10 ∷ rest)) → new ≡ project_text config
unfolding project_text
whole_text config none a = from_nothing none a

pub text_read_back : (config : Config) (bytes : List ℕ) → bytes ≡ project_text config → CanBeReadBack config → ReadsProject bytes (Ok config)
text_read_back config bytes is can =
    subst (λ bs. ReadsProject bs (Ok config)) (sym is) (projects_read_back config can.project can.few can.page can.entries)
