-- No map without keys that end in `/` serves the needs with fewer mappings.
use Rattle.std.proofs.Common.{refl, sym, ap, ◌∙◌, subst, arith}
use Rattle.std.proofs.lemmas.Option.{none-some, same_Some}
use Rattle.std.specs.Cmp.Lexicographic.{slice_cmp}
use Rattle.std.specs.FinMap.{get, len, empty, len-empty}
use Rattle.std.specs.Option.{option_or}
use Rattle.std.specs.Ordering.{nat_cmp}
use Rattle.std.specs.Prelude.{◌≡◌, ℕ, ◌≤◌, ◌+◌, List, [], ◌∷◌, Option, Some, None, option_map, unwrap_or, Contains, flat_map, map, Result, Ok, Err}
use mathlib.Core.Logic.{inl, inr}
use Rattle.url_spec.specs.Parsing.{IsUrl}
use Rattle.url_spec.specs.Specifiers.{as_url, normalized}
use Rattle.url_spec.proofs.NoUrls.{no_urls}
use Rattle.import_map_spec.proofs.ParsedMaps.{parsed_maps_are_normal}
use Rattle.import_map_spec.specs.LookUps.{answer_or, unmatched, exact_match, scope_addresses, resolve_normalized, resolve_in}
use Rattle.import_map_spec.specs.ParsedMap.{Texts, Addresses, ParsedMap, MapFault}
use Rattle.import_map_spec.specs.Parsing.{ParsesMap, as_map, map_from, parsed_map}
use Rattle.import_map_spec.specs.Resolving.{Resolved, Blocked, Bare}
use Rattle.json_spec.specs.Grammar.{Fault}
use Rattle.json_spec.specs.Value.{Json}
use Rattle.import_map_spec.specs.declared.MapPart.{MapPart}
use Rattle.layout_spec.proofs.Contained.{contains_here, contains_there, contains_cases, contains_none, contains_flat}
use Rattle.layout_spec.specs.Counting.{mapping_count}
use Rattle.layout_spec.specs.Places.{places}
use Rattle.layout_spec.specs.Serving.{addresses_at, held, first_of, OfNeeds}
use Rattle.layout_spec.specs.declared.Need.{Need}
use Rattle.fewest_spec.specs.Fewest.{Held, Serves, IsFewestLayout}
use Rattle.fewest_spec.specs.Laws.{NoFolderKeys, NamesAsked, FewestOfAll}
use Rattle.fewest_spec.proofs.Answering.{places_answer, ScopesAreUrls}
use Rattle.fewest_spec.proofs.Counts.{Apart, one_if_some, count_at, count_within}
use Rattle.fewest_spec.proofs.Gathered.{some_once, sum_over, sum_below, exchanged, gathered, gathered_within, gathered_at}
use Rattle.fewest_spec.proofs.Grid.{weight, weigh, weigh_within, weigh_all, count_all}
use Rattle.fewest_spec.proofs.Laws.{fewest_serves}

-- ---- what is found at places, by place and by specifier

abbrev cell : ParsedMap → List ℕ → List ℕ → ℕ
cell m place asked = one_if_some (held m asked place)

count_over : (X : Type 0) (m : Texts X) (keys : List (List ℕ)) → count_at m keys ≡ sum_over (λ k. one_if_some (get m k)) keys
count_over X m [] = refl
count_over X m (k ∷ keys) = λ i. one_if_some (get m k) + count_over X m keys i

module _ (m : ParsedMap) where
  abbrev sizes : List (List ℕ) → ℕ
  sizes ps = sum_over (λ p. len (addresses_at m p)) ps

  abbrev below : List (List ℕ) → ℕ
  below ps = weigh len m.scopes ps

  scope_size : (o : Option Addresses) → len (unwrap_or o empty) ≡ weight len o
  scope_size None = len-empty (slice_cmp nat_cmp) (Option (List ℕ))
  scope_size (Some scope) = refl

  sizes_below : (ps : List (List ℕ)) → (Contains ps [] → ⊥) → sizes ps ≡ below ps
  sizes_below [] n = refl
  sizes_below ([] ∷ ps) n = absurd (n (contains_here [] ps))
  sizes_below ((b ∷ rest) ∷ ps) n =
      let a = scope_size (get m.scopes (b ∷ rest)) in
      let c = sizes_below ps (λ at. n (contains_there [] (b ∷ rest) ps at)) in
      omega (arith, a, c)

  sizes_within : (ps : List (List ℕ)) → Apart ps → sizes ps ≤ len m.imports + below ps
  sizes_within [] apart = omega arith
  sizes_within ([] ∷ ps) apart = let c = sizes_below ps apart.0 in omega (arith, c)
  sizes_within ((b ∷ rest) ∷ ps) apart =
      let a = scope_size (get m.scopes (b ∷ rest)) in
      let c = sizes_within ps apart.1 in
      omega (arith, a, c)

  sizes_all : (ps : List (List ℕ)) → Apart ps → get m.scopes [] ≡ None → Contains ps [] → len m.imports + below ps ≤ sizes ps
  sizes_all [] apart none at = absurd (contains_none [] at)
  sizes_all ([] ∷ ps) apart none at =
      let c = sizes_below ps apart.0 in
      let n = ap (weight len) none in
      omega (arith, c, n)
  sizes_all ((b ∷ rest) ∷ ps) apart none at =
      let a = scope_size (get m.scopes (b ∷ rest)) in
      let c = sizes_all ps apart.1 none (elim (contains_cases [] (b ∷ rest) ps at) [
        | inl same ↦ absurd (let e : b ∷ rest ≡ [] = same in cc)
        | inr later ↦ later
      ]) in
      omega (arith, a, c)

  abbrev grid : List (List ℕ) → List (List ℕ) → ℕ
  grid ps asks = sum_over (λ p. sum_over (cell m p) asks) ps

  grid_within : (ps asks : List (List ℕ)) → Apart ps → Apart asks → grid ps asks ≤ mapping_count m
  grid_within ps asks apart once =
      let a = sum_below (λ p. sum_over (cell m p) asks) (λ p. len (addresses_at m p)) ps (λ p.
      let c = count_within (addresses_at m p) asks once in let d = count_over (Option (List ℕ)) (addresses_at m p) asks in omega (arith, c, d)) in
      let b = sizes_within ps apart in
      let c = weigh_within len m.scopes ps apart in
      omega (arith, a, b, c)

module _ (needs : List Need) (m : ParsedMap) (of_needs : OfNeeds needs m) (ps asks : List (List ℕ)) (apart : Apart ps) (once : Apart asks) (top : Contains ps [])
    (all_places : (need : Need) (p : List ℕ) → Contains needs need → Contains (places need.referrer) p → Contains ps p) (all_asks : (need : Need) → Contains needs need → Contains asks need.asked) where
  asked_there : (place asked : List ℕ) (address : Option (List ℕ)) → held m asked place ≡ Some address → Contains asks asked
  asked_there place asked address e =
      let found = of_needs.only place asked address e in
      subst (Contains asks) found.1.asked_is (all_asks found.0 found.1.is_need)

  scope_there : (key : List ℕ) (scope : Addresses) → get m.scopes key ≡ Some scope → Contains ps key
  scope_there [] scope e = top
  scope_there (b ∷ rest) scope e =
      let some = of_needs.tidy.some (b ∷ rest) scope e in
      let found = of_needs.only (b ∷ rest) some.0 some.1 (ap (λ (o : Option Addresses). get (unwrap_or o empty) some.0) e ∙ some.2) in
      all_places found.0 (b ∷ rest) found.1.is_need found.1.at

  grid_all : mapping_count m ≤ grid m ps asks
  grid_all =
      let a = sum_below (λ p. len (addresses_at m p)) (λ p. sum_over (cell m p) asks) ps (λ p.
      let c = count_all (Option (List ℕ)) (addresses_at m p) asks once (asked_there p) in let d = count_over (Option (List ℕ)) (addresses_at m p) asks in omega (arith, c, d)) in
      let b = sizes_all m ps apart of_needs.tidy.no_top top in
      let c = weigh_all len m.scopes ps apart scope_there in
      omega (arith, a, b, c)

-- ---- what a map that serves holds is a choice that serves

abbrev flat : Option (Option (List ℕ)) → Option (List ℕ)
flat None = None
flat (Some address) = address

module _ (other : ParsedMap) (no_folder_key : NoFolderKeys other) (urls : ScopesAreUrls other) where
  none_first : (asked : List ℕ) (c : Held) (ps : List (List ℕ)) → ((p : List ℕ) → Contains ps p → c p ≡ flat (held other asked p)) → first_of (held other asked) ps ≡ None → first_of c ps ≡ None
  none_first asked c [] same e = refl
  none_first asked c (p ∷ ps) same e = by (held other asked p) e (same p (contains_here p ps)) (none_first asked c ps (λ q at. same q (contains_there q p ps at)))
    where
      by : (o : Option (Option (List ℕ))) → option_or o (first_of (held other asked) ps) ≡ None → c p ≡ flat o → (first_of (held other asked) ps ≡ None → first_of c ps ≡ None) → first_of c (p ∷ ps) ≡ None
      by None e f inner = ap (λ o. option_or o (first_of c ps)) f ∙ inner e
      by (Some address) e f inner = absurd (none-some address (sym e))

  some_first : (asked a : List ℕ) (c : Held) (ps : List (List ℕ)) → ((p : List ℕ) → Contains ps p → c p ≡ flat (held other asked p)) → first_of (held other asked) ps ≡ Some (Some a) → first_of c ps ≡ Some a
  some_first asked a c [] same e = absurd (none-some (Some a) e)
  some_first asked a c (p ∷ ps) same e = by (held other asked p) e (same p (contains_here p ps)) (some_first asked a c ps (λ q at. same q (contains_there q p ps at)))
    where
      by : (o : Option (Option (List ℕ))) → option_or o (first_of (held other asked) ps) ≡ Some (Some a) → c p ≡ flat o → (first_of (held other asked) ps ≡ Some (Some a) → first_of c ps ≡ Some a) → first_of c (p ∷ ps) ≡ Some a
      by None e f inner = ap (λ o. option_or o (first_of c ps)) f ∙ inner e
      by (Some address) e f inner = ap (λ o. option_or o (first_of c ps)) f ∙ ap (λ o. option_or o (first_of c ps)) (same_Some address (Some a) e)

  -- a need that the map leads to its target has it as value
  value_there : (referrer asked target : List ℕ) (c : Held) → IsUrl referrer → normalized referrer asked ≡ asked → ((p : List ℕ) → Contains (places referrer) p → c p ≡ flat (held other asked p)) → resolve_in other referrer asked ≡ Resolved target → unwrap_or (first_of c (places referrer)) asked ≡ target
  unfolding resolve_in normalized
  value_there [] asked target c is normal same e = absurd (none-some _ (sym no_urls.1 ∙ is))
  value_there (b ∷ rest) asked target c is normal same e =
      by (first_of (held other asked) (places (b ∷ rest))) refl (sym (ap (λ o. answer_or o (unmatched (as_url (b ∷ rest) asked))) (places_answer other no_folder_key urls (as_url (b ∷ rest) asked) asked b rest))
      ∙ (ap (resolve_normalized (get other.imports) (scope_addresses other.scopes) (b ∷ rest) (as_url (b ∷ rest) asked)) (sym normal) ∙ e))
    where
      own : (o : Option (List ℕ)) → unwrap_or o asked ≡ asked → unmatched o ≡ Resolved target → asked ≡ target
      own None n f = absurd (wrong f)
        where
          wrong : Bare ≡ Resolved target → ⊥
          wrong f = cc
      own (Some url) n f = sym n ∙ same_url url target f
        where
          same_url : (x y : List ℕ) → Resolved x ≡ Resolved y → x ≡ y
          same_url x y f = cc

      by : (o : Option (Option (List ℕ))) → first_of (held other asked) (places (b ∷ rest)) ≡ o → answer_or (exact_match o) (unmatched (as_url (b ∷ rest) asked)) ≡ Resolved target → unwrap_or (first_of c (places (b ∷ rest))) asked ≡ target
      by None f g = ap (λ o. unwrap_or o asked) (none_first asked c (places (b ∷ rest)) same f) ∙ own (as_url (b ∷ rest) asked) normal g
      by (Some None) f g = absurd (wrong g)
        where
          wrong : Blocked ≡ Resolved target → ⊥
          wrong g = cc
      by (Some (Some a)) f g = ap (λ o. unwrap_or o asked) (some_first asked a c (places (b ∷ rest)) same f) ∙ same_url a target g
        where
          same_url : (x y : List ℕ) → Resolved x ≡ Resolved y → x ≡ y
          same_url x y f = cc

  -- ---- so the other map has as many

  module _ (needs : List Need) (m : ParsedMap) (is : IsFewestLayout needs m) (names : (need : Need) → Contains needs need → NamesAsked need) (leads : (need : Need) → Contains needs need → resolve_in other need.referrer need.asked ≡ Resolved need.target)
      (ps : List (List ℕ)) (apart : Apart ps) (all_places : (need : Need) (p : List ℕ) → Contains needs need → Contains (places need.referrer) p → Contains ps p) where
    abbrev theirs : List ℕ → Held
    theirs asked p = flat (held other asked p)

    they_serve : (asked : List ℕ) → Serves needs asked (get (gathered (theirs asked) ps))
    they_serve asked need c asks =
        value_there need.referrer asked need.target (get (gathered (theirs asked) ps)) (names need c).referrer
        (subst (λ a. normalized need.referrer a ≡ a) asks ((names need c).asked.normal need.referrer))
        (λ p at. gathered_at (theirs asked) ps p apart (all_places need p c at))
        (subst (λ a. resolve_in other need.referrer a ≡ Resolved need.target) asks (leads need c))

    column : ParsedMap → List ℕ → ℕ
    column k asked = sum_over (λ p. one_if_some (held k asked p)) ps

    mine : (asked : List ℕ) → sum_over (λ p. cell m p asked) ps ≤ len (is.choices asked).0
    mine asked =
        let w = count_within (is.choices asked).0 ps apart in
        let d = count_over (List ℕ) (is.choices asked).0 ps in
        let b = sum_below (λ p. cell m p asked) (λ p. one_if_some (get (is.choices asked).0 p)) ps (λ p. let s = ap one_if_some ((is.choices asked).2 p) in let t = kept (get (is.choices asked).0 p) in omega (arith, s, t)) in
        omega (arith, w, d, b)
      where
        kept : (o : Option (List ℕ)) → one_if_some (option_map Some o) ≡ one_if_some o
        kept None = refl
        kept (Some t) = refl

    theirs_more : (asked : List ℕ) → len (gathered (theirs asked) ps) ≤ sum_over (λ p. cell other p asked) ps
    theirs_more asked =
        let w = count_all (List ℕ) (gathered (theirs asked) ps) ps apart (gathered_within (theirs asked) ps) in
        let d = count_over (List ℕ) (gathered (theirs asked) ps) ps in
        let b = cells ps (λ p at. at) in
        omega (arith, w, d, b)
      where
        fewer : (o : Option (Option (List ℕ))) → one_if_some (flat o) ≤ one_if_some o
        fewer None = omega arith
        fewer (Some None) = omega arith
        fewer (Some (Some t)) = omega arith

        cells : (qs : List (List ℕ)) → ((q : List ℕ) → Contains qs q → Contains ps q) → sum_over (λ p. one_if_some (get (gathered (theirs asked) ps) p)) qs ≤ sum_over (λ p. cell other p asked) qs
        cells [] inside = omega arith
        cells (q ∷ qs) inside =
            let a = ap one_if_some (gathered_at (theirs asked) ps q apart (inside q (contains_here q qs))) in
            let f = fewer (held other asked q) in
            let r = cells qs (λ p at. inside p (contains_there p q qs at)) in
            omega (arith, a, f, r)

    by_asked : (asked : List ℕ) → sum_over (λ p. cell m p asked) ps ≤ sum_over (λ p. cell other p asked) ps
    by_asked asked =
        let a = mine asked in
        let b = (is.choices asked).1.fewest (gathered (theirs asked) ps) (they_serve asked) in
        let c = theirs_more asked in
        omega (arith, a, b, c)

    by_grid : (asks : List (List ℕ)) → grid m ps asks ≤ grid other ps asks
    by_grid asks =
        let a = exchanged (cell m) ps asks in
        let b = exchanged (cell other) ps asks in
        let c = sum_below (λ a. sum_over (λ p. cell m p a) ps) (λ a. sum_over (λ p. cell other p a) ps) asks by_asked in
        omega (arith, a, b, c)

-- ---- the whole

asks_of : (needs : List Need) (need : Need) → Contains needs need → Contains (map (λ (n : Need). n.asked) needs) need.asked
asks_of [] need c = absurd (contains_none need c)
asks_of (first ∷ needs) need c = elim (contains_cases need first needs c) [
  | inl same ↦ subst (λ (n : Need). Contains (map (λ (n : Need). n.asked) (first ∷ needs)) n.asked) same (contains_here first.asked (map (λ (n : Need). n.asked) needs))
  | inr later ↦ contains_there need.asked first.asked (map (λ (n : Need). n.asked) needs) (asks_of needs need later)
]

urls_of : (base bytes : List ℕ) (other : ParsedMap) → ParsesMap base bytes (Ok other) → ScopesAreUrls other
urls_of base bytes other parses = by parses.json parses.is
  where
    same_map : (m n : ParsedMap) → ◌≡◌ {A = Result ParsedMap MapFault} (Ok m) (Ok n) → m ≡ n
    same_map m n e = cc

    from : (value : Json) (found : Result ParsedMap MapPart) → parsed_map base value ≡ found → Ok other ≡ as_map found → ScopesAreUrls other
    from value (Ok m) f e = (parsed_maps_are_normal base value other (f ∙ ap Ok (sym (same_map other m e)))).scope_keys
    from value (Err part) f e = absurd (wrong e)
      where
        wrong : Ok other ≡ as_map (Err part) → ⊥
        wrong e = cc

    by : (json : Result Json Fault) → Ok other ≡ map_from base json → ScopesAreUrls other
    by (Ok value) e = from value (parsed_map base value) refl e
    by (Err fault) e = absurd (wrong e)
      where
        wrong : Ok other ≡ map_from base (Err fault) → ⊥
        wrong e = cc

pub fewest_of_all : FewestOfAll
fewest_of_all base bytes needs m other is parses no_folder_key names leads =
    let ps = some_once ([] ∷ flat_map (λ (need : Need). places need.referrer) needs) in
    let asks = some_once (map (λ (need : Need). need.asked) needs) in
    let all_places : (need : Need) (p : List ℕ) → Contains needs need → Contains (places need.referrer) p → Contains ps.0 p =
    λ need p c at. ps.1.all p (contains_there p [] (flat_map (λ (need : Need). places need.referrer) needs) (contains_flat (λ (need : Need). places need.referrer) need p needs c at)) in
    let mine = grid_all needs m (fewest_serves needs m is).1 ps.0 asks.0 ps.1.apart asks.1.apart (ps.1.all [] (contains_here [] (flat_map (λ (need : Need). places need.referrer) needs))) all_places (λ need c. asks.1.all need.asked (asks_of needs need c)) in
    let theirs = grid_within other ps.0 asks.0 ps.1.apart asks.1.apart in
    let less = by_grid other no_folder_key (urls_of base bytes other parses) needs m is names leads ps.0 ps.1.apart all_places asks.0 in
    omega (arith, mine, theirs, less)
