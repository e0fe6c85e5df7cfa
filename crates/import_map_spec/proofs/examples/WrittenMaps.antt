-- How maps that are written out as lists answer.
use Rattle.std.proofs.Common.{refl, ap, ◌∙◌}
use Rattle.std.specs.FinMap.{get, insert, empty}
use Rattle.std.specs.Prelude.{None, ℕ, cond, List, [], ◌∷◌, Some, ◌≡◌, Bool, true, false, map, Option, option_map, codes, ⊤}
use mathlib.Core.Path.{fun_ext}
use Rattle.url_spec.specs.Specifiers.{as_url, normalized}
use Rattle.import_map_spec.proofs.Entries.{same_key, get_inserted, get_nowhere}
use Rattle.import_map_spec.specs.LookUps.{Lookup, scope_addresses, resolve_normalized, resolve_in}
use Rattle.import_map_spec.specs.ParsedMap.{Texts, Addresses}
use Rattle.import_map_spec.specs.Resolving.{Resolution}
use Rattle.import_map_spec.specs.WrittenMaps.{insert_all, map_of, scope_of, Lists, map_of_lists, Questions, Answer}

-- the look-up of a list of entries
abbrev pub nowhere : {X : Type 0} → Lookup X
nowhere q = None

abbrev pub looked_onto : {X : Type 0} → Lookup X → List (List ℕ × X) → Lookup X
looked_onto f [] = f
looked_onto f (e ∷ es) = looked_onto (λ q. cond (same_key q e.0) (Some e.1) (f q)) es

abbrev pub looked : {X : Type 0} → List (List ℕ × X) → Lookup X
looked es = looked_onto nowhere es

get_all : {X : Type 0} (es : List (List ℕ × X)) (m : Texts X) → get (insert_all m es) ≡ looked_onto (get m) es
get_all [] m = refl
get_all (e ∷ es) m = get_all es (insert m e.0 e.1) ∙ ap (λ f. looked_onto f es) (fun_ext (λ q. get_inserted m e.0 e.1 q))

pub get_map_of : {X : Type 0} (es : List (List ℕ × X)) → get (map_of es) ≡ looked es
get_map_of es = get_all es empty ∙ ap (λ f. looked_onto f es) (fun_ext (λ q. get_nowhere q))

-- a look-up of scopes by their maps, and by their lists
scope_looked : (es : List (List ℕ × List (List ℕ × Option (List ℕ)))) (f : Lookup Addresses) (g : Lookup (List (List ℕ × Option (List ℕ)))) → ((q : List ℕ) → option_map get (f q) ≡ option_map looked (g q)) → (q : List ℕ) → option_map get (looked_onto f (map scope_of es) q) ≡ option_map looked (looked_onto g es q)
scope_looked [] f g same q = same q
scope_looked (e ∷ es) f g same q = scope_looked es _ _ (λ k. one k (same_key k e.0)) q
  where
    one : (k : List ℕ) (b : Bool) → option_map get (cond b (Some (map_of e.1)) (f k)) ≡ option_map looked (cond b (Some e.1) (g k))
    one k true = ap Some (get_map_of e.1)
    one k false = same k

pub scopes_looked : (es : List (List ℕ × List (List ℕ × Option (List ℕ)))) → scope_addresses (map_of (map scope_of es)) ≡ (λ q. option_map looked (looked es q))
scopes_looked es = fun_ext (λ q. ap (λ f. option_map get (f q)) (get_map_of (map scope_of es)) ∙ scope_looked es nowhere nowhere (λ k. refl) q)

-- what such a map answers, as its lists answer
abbrev pub listed_answer : Lists → List ℕ → List ℕ → Resolution
listed_answer l referrer specifier = resolve_normalized (looked l.imports) (λ q. option_map looked (looked l.scopes q)) referrer (as_url referrer specifier) (normalized referrer specifier)

pub lists_answer : (l : Lists) (referrer specifier : List ℕ) → resolve_in (map_of_lists l) referrer specifier ≡ listed_answer l referrer specifier
unfolding resolve_in
lists_answer l referrer specifier = λ i. resolve_normalized (get_map_of l.imports i) (scopes_looked l.scopes i) referrer (as_url referrer specifier) (normalized referrer specifier)

abbrev pub ListsAnswer : Lists → Questions → Type 0
ListsAnswer l [] = ⊤
ListsAnswer l (q ∷ qs) = (listed_answer l (codes q.0) (codes q.1) ≡ q.2) × ListsAnswer l qs

pub answered : (l : Lists) (qs : Questions) → ListsAnswer l qs → Answer (map_of_lists l) qs
answered l [] e = tt
answered l (q ∷ qs) e = (lists_answer l (codes q.0) (codes q.1) ∙ e.0, answered l qs e.1)
