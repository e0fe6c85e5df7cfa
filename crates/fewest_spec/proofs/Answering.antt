-- What scopes and imports answer for a specifier is what the first of the referrer's places holds, where no key ends in `/`.
use Rattle.std.proofs.Common.{refl, sym, ap, ◌∙◌}
use Rattle.std.proofs.Math.Seq.{take-length}
use Rattle.std.proofs.lemmas.Bool.{cases_Bool, cond-true, cond-false, true≢false}
use Rattle.std.specs.FinMap.{get, empty}
use Rattle.std.specs.Prelude.{◌≡◌, ℕ, zero, suc, Bool, true, false, List, [], ◌∷◌, ◌++◌, length, take, drop, Option, Some, None, option_map, unwrap_or, if◌then◌else◌}
use Rattle.std.specs.Option.{option_or}
use mathlib.Core.Logic.{inl, inr}
use Rattle.url_spec.specs.Parsing.{IsUrl}
use Rattle.url_spec.specs.Specifiers.{ends_in_slash}
use Rattle.import_map_spec.proofs.Entries.{get_nowhere, cases_option, none_after}
use Rattle.import_map_spec.proofs.LongestKey.{key_order}
use Rattle.import_map_spec.specs.LookUps.{exact_match, resolve_imports_match, scope_match, longest_front, prefix_scope, resolve_scopes_match, scope_addresses}
use Rattle.import_map_spec.specs.ParsedMap.{Addresses, ParsedMap}
use Rattle.layout_spec.proofs.PlaceLemmas.{folder_from_test, folder_test}
use Rattle.layout_spec.specs.Places.{is_folder, folders, places}
use Rattle.layout_spec.specs.Serving.{addresses_at, held, first_of}
use Rattle.fewest_spec.specs.Laws.{NoFolderKeys}

abbrev pub ScopesAreUrls : ParsedMap → Type 0
ScopesAreUrls m = (key : List ℕ) (scope : Addresses) → get m.scopes key ≡ Some scope → IsUrl key

-- ---- first answers

either_first : (a b : Option (Option (List ℕ))) → option_or (exact_match a) (exact_match b) ≡ exact_match (option_or a b)
either_first None b = refl
either_first (Some None) b = refl
either_first (Some (Some url)) b = refl

answers_twice : {A : Type 0} (o : Option A) (t : Bool) (x : Option A) → option_or o (option_or (if t then o else None) x) ≡ option_or o x
answers_twice None true x = refl
answers_twice None false x = refl
answers_twice (Some a) t x = refl

first_apart : {A : Type 0} (o p q : Option A) → option_or o (option_or p q) ≡ option_or (option_or o p) q
first_apart None p q = refl
first_apart (Some x) p q = refl

first_over : {A : Type 0} (answer : List ℕ → Option A) (ps : List (List ℕ)) (last : List ℕ) → first_of answer (ps ++ last ∷ []) ≡ option_or (first_of answer ps) (answer last)
first_over answer [] last = none_after (answer last)
first_over answer (p ∷ ps) last = ap (option_or (answer p)) (first_over answer ps last) ∙ first_apart (answer p) (first_of answer ps) (answer last)

-- ---- what scopes and imports answer

module _ (m : ParsedMap) (no_folder_key : NoFolderKeys m) (scope_url : ScopesAreUrls m) where
  -- a place answers what it holds
  place_answers : (url : Option (List ℕ)) (asked place : List ℕ) → resolve_imports_match url asked (get (addresses_at m place)) ≡ exact_match (held m asked place)
  place_answers url asked place =
      elim (cases_option (held m asked place)) [
        | inr some ↦ key_order.exact (get (addresses_at m place)) url asked some.0 some.1 ∙ ap exact_match (sym some.1)
        | inl none ↦ key_order.no_key (get (addresses_at m place)) url asked none (λ j above front. no_folder_key place (take j asked) front.slash) ∙ ap exact_match (sym none)
      ]

  no_scope_answers : (url : Option (List ℕ)) (asked key : List ℕ) → get m.scopes key ≡ None → scope_match url asked (scope_addresses m.scopes key) ≡ None
  no_scope_answers url asked key none = ap (λ (o : Option Addresses). scope_match url asked (option_map get o)) none

  scope_answers : (url : Option (List ℕ)) (asked : List ℕ) (b : ℕ) (rest : List ℕ) → scope_match url asked (scope_addresses m.scopes (b ∷ rest)) ≡ exact_match (held m asked (b ∷ rest))
  scope_answers url asked b rest =
      elim (cases_option (get m.scopes (b ∷ rest))) [
        | inl none ↦ no_scope_answers url asked (b ∷ rest) none ∙ sym (ap (λ (o : Option Addresses). exact_match (get (unwrap_or o empty) asked)) none ∙ ap exact_match (get_nowhere asked))
        | inr some ↦ ap (λ (o : Option Addresses). scope_match url asked (option_map get o)) some.1
            ∙ (ap (λ (o : Option Addresses). resolve_imports_match url asked (get (unwrap_or o empty))) (sym some.1) ∙ place_answers url asked (b ∷ rest))
      ]

  -- a front that is no folder has no scope
  silent : (url : Option (List ℕ)) (asked front rest : List ℕ) → is_folder front ≡ false → prefix_scope url asked (scope_addresses m.scopes) front rest ≡ None
  silent url asked front rest not_folder =
      elim (cases_Bool (ends_in_slash front)) [
        | inr other ↦ cond-false _ _ _ other
        | inl slash ↦ cond-true _ _ _ slash ∙ elim (cases_option (get m.scopes front)) [
          | inl none ↦ no_scope_answers url asked front none
          | inr some ↦ absurd (true≢false (sym (folder_test front (record { slash = slash; url = scope_url front some.0 some.1 })) ∙ not_folder))
        ]
      ]

  -- the scopes of the fronts of a referrer answer what its folders hold
  folders_answer : (url : Option (List ℕ)) (asked : List ℕ) (b : ℕ) (rest : List ℕ) (n : ℕ) → longest_front (prefix_scope url asked (scope_addresses m.scopes)) (b ∷ rest) n ≡ exact_match (first_of (held m asked) (folders (b ∷ rest) n))
  folders_answer url asked b rest zero = refl
  folders_answer url asked b rest (suc n) =
      let below = folders_answer url asked b rest n in
      let front : List ℕ = take (suc n) (b ∷ rest) in
      let back = exact_match (first_of (held m asked) (folders (b ∷ rest) n)) in
      elim (cases_Bool (is_folder front)) [
        | inl is ↦
            (λ i. option_or (cond-true (ends_in_slash front) (scope_match url asked (scope_addresses m.scopes front)) None (folder_from_test front is).slash i) (below i))
            ∙ (ap (λ o. option_or o back) (scope_answers url asked b (take n rest))
            ∙ (either_first (held m asked front) (first_of (held m asked) (folders (b ∷ rest) n)) ∙ ap (λ ps. exact_match (first_of (held m asked) ps)) (sym (cond-true _ _ _ is))))
        | inr not_folder ↦
            (λ i. option_or (silent url asked front (drop (suc n) (b ∷ rest)) not_folder i) (below i)) ∙ ap (λ ps. exact_match (first_of (held m asked) ps)) (sym (cond-false _ _ _ not_folder))
      ]

  scopes_answer : (url : Option (List ℕ)) (asked : List ℕ) (b : ℕ) (rest : List ℕ) → resolve_scopes_match url asked (b ∷ rest) (scope_addresses m.scopes) ≡ exact_match (option_or (held m asked (b ∷ rest)) (first_of (held m asked) (folders (b ∷ rest) (length rest))))
  scopes_answer url asked b rest =
      let own = scope_match url asked (scope_addresses m.scopes (b ∷ rest)) in
      let inner = longest_front (prefix_scope url asked (scope_addresses m.scopes)) (b ∷ rest) (length rest) in
      ap (λ (r : List ℕ). option_or own (option_or (if ends_in_slash r then scope_match url asked (scope_addresses m.scopes r) else None) inner)) (take-length (b ∷ rest))
      ∙ (answers_twice own (ends_in_slash (b ∷ rest)) inner
      ∙ ((λ i. option_or (scope_answers url asked b rest i) (folders_answer url asked b rest (length rest) i)) ∙ either_first (held m asked (b ∷ rest)) (first_of (held m asked) (folders (b ∷ rest) (length rest)))))

  -- scopes and imports answer what the first place holds
  pub places_answer : (url : Option (List ℕ)) (asked : List ℕ) (b : ℕ) (rest : List ℕ) → option_or (resolve_scopes_match url asked (b ∷ rest) (scope_addresses m.scopes)) (resolve_imports_match url asked (get m.imports)) ≡ exact_match (first_of (held m asked) (places (b ∷ rest)))
  places_answer url asked b rest =
      let below : List (List ℕ) = folders (b ∷ rest) (length rest) in
      let look = held m asked in
      (λ i. option_or (scopes_answer url asked b rest i) (place_answers url asked [] i))
      ∙ (either_first (option_or (look (b ∷ rest)) (first_of look below)) (look [])
      ∙ ap exact_match (sym (ap (option_or (look (b ∷ rest))) (first_over look below []) ∙ first_apart (look (b ∷ rest)) (first_of look below) (look []))))
