-- How answers are put together.
use Rattle.std.proofs.Common.{◌≡◌, ℕ, true, false, List, Option, Some, None, sym, ap, ◌∙◌, subst}
use Rattle.std.specs.Prelude.{Result, Ok, Err, unwrap_or}
use Rattle.import_map_spec.specs.Resolving as html
use Rattle.import_map_spec.specs.Resolving.{Resolution, Resolved}
use Rattle.import_map_spec.specs.LookUps as looked
use Rattle.import_map_spec.specs.LookUps.{exact_match, prefix_match, below_address, answer_or, scope_addresses, resolve_scopes_match, resolve_imports_match, resolve_normalized}
use Rattle.std.specs.FinMap.{get}
use Rattle.std.specs.Option.{option_or}
use Rattle.std.proofs.lemmas.Bool.{cond-true, cond-false}
use Rattle.url_spec.specs.Parsing.{parse_against}
use Rattle.url_spec.specs.Specifiers.{begins, as_url, normalized}
use Rattle.import_map_spec.specs.ParsedMap.{ParsedMap}
use Rattle.html_resolve.specs.declared.html_fault.HtmlFault.{HtmlFault}
use Rattle.html_resolve.specs.declared.html_fault.HtmlFault.TheVariants.{Blocked, Bare, Backtrack, BadRest, Memory}
use Rattle.html_resolve.specs.Outcomes.{IsSame, IsAnswer, Finds, ComesTo}

fails_first : (e : HtmlFault) (a b : Option Resolution) → IsSame e a → IsSame e (option_or a b)
fails_first Blocked a b f = ap (λ o. option_or o b) f
fails_first Bare a b f = ap (λ o. option_or o b) f
fails_first Backtrack a b f = ap (λ o. option_or o b) f
fails_first BadRest a b f = ap (λ o. option_or o b) f
fails_first Memory a b f = tt

fails_or : (e : HtmlFault) (a : Option Resolution) (r : Resolution) → IsSame e a → IsSame e (Some (answer_or a r))
fails_or Blocked a r f = ap (λ o. Some (answer_or o r)) f
fails_or Bare a r f = ap (λ o. Some (answer_or o r)) f
fails_or Backtrack a r f = ap (λ o. Some (answer_or o r)) f
fails_or BadRest a r f = ap (λ o. Some (answer_or o r)) f
fails_or Memory a r f = tt

pub first_fails : (e : HtmlFault) (a b : Option Resolution) → IsAnswer e a → IsAnswer e (option_or a b)
first_fails e a b f = record { same = fails_first e a b f.same }

pub first_some : (r : Resolution) (a b : Option Resolution) → a ≡ Some r → option_or a b ≡ Some r
first_some r a b e = ap (λ o. option_or o b) e

pub second : (a b : Option Resolution) → a ≡ None → option_or a b ≡ b
second a b e = ap (λ o. option_or o b) e

-- the second answer, where the first one is none
pub second_answers : (out : Result (Option (List ℕ)) HtmlFault) (a b : Option Resolution) → a ≡ None → Finds out b → Finds out (option_or a b)
second_answers out a b e h = subst (Finds out) (sym (second a b e)) h

pub answers_moved : (out : Result (Option (List ℕ)) HtmlFault) (a b : Option Resolution) → a ≡ b → Finds out b → Finds out a
answers_moved out a b e h = subst (Finds out) (sym e) h

pub fails_moved : (fault : HtmlFault) (a b : Option Resolution) → a ≡ b → IsAnswer fault b → IsAnswer fault a
fails_moved fault a b e h = subst (IsAnswer fault) (sym e) h

pub memory_fails : (fault : HtmlFault) (a : Option Resolution) → fault ≡ Memory → IsAnswer fault a
memory_fails fault a e = subst (λ f. IsAnswer f a) (sym e) (record { same = tt })

pub key_none : (found : Option (Option (List ℕ))) → found ≡ None → exact_match found ≡ None
key_none found e = ap exact_match e

pub key_blocked : (found : Option (Option (List ℕ))) → found ≡ Some None → IsAnswer Blocked (exact_match found)
key_blocked found e = record { same = ap exact_match e }

pub key_found : (found : Option (Option (List ℕ))) (url : List ℕ) → found ≡ Some (Some url) → exact_match found ≡ Some (Resolved url)
key_found found url e = ap exact_match e

pub below_bad : (address : List ℕ) (found : Option (List ℕ)) → found ≡ None → IsAnswer BadRest (Some (below_address address found))
below_bad address found e = record { same = ap (λ o. Some (below_address address o)) e }

pub below_back : (address url : List ℕ) (found : Option (List ℕ)) → found ≡ Some url → begins url address ≡ false → IsAnswer Backtrack (Some (below_address address found))
below_back address url found e b = record { same = ap Some (ap (below_address address) e ∙ cond-false _ _ _ b) }

pub below_url : (address url : List ℕ) (found : Option (List ℕ)) → found ≡ Some url → begins url address ≡ true → below_address address found ≡ Resolved url
below_url address url found e b = ap (below_address address) e ∙ cond-true _ _ _ b

pub ruleset below = (below_bad, below_back, below_url, memory_fails)

pub prefix_none : (found : Option (Option (List ℕ))) (rest : List ℕ) → found ≡ None → prefix_match found rest ≡ None
prefix_none found rest e = ap (λ o. prefix_match o rest) e

pub prefix_blocked : (found : Option (Option (List ℕ))) (rest : List ℕ) → found ≡ Some None → IsAnswer Blocked (prefix_match found rest)
prefix_blocked found rest e = record { same = ap (λ o. prefix_match o rest) e }

pub prefix_found : (found : Option (Option (List ℕ))) (address url rest : List ℕ) → found ≡ Some (Some address) → below_address address (parse_against address rest) ≡ Resolved url → prefix_match found rest ≡ Some (Resolved url)
prefix_found found address url rest e b = ap (λ o. prefix_match o rest) e ∙ ap Some b

pub prefix_fails : (fault : HtmlFault) (found : Option (Option (List ℕ))) (address rest : List ℕ) → found ≡ Some (Some address) → IsAnswer fault (Some (below_address address (parse_against address rest))) → IsAnswer fault (prefix_match found rest)
prefix_fails fault found address rest e b = fails_moved fault _ _ (ap (λ o. prefix_match o rest) e) b

-- the whole, from what the scopes and the imports answer
module _ (m : ParsedMap) (referrer specifier : List ℕ) where
  abbrev pub Matched : Option (List ℕ) → List ℕ → Option Resolution
  Matched url text = option_or (resolve_scopes_match url text referrer (scope_addresses m.scopes)) (resolve_imports_match url text (get m.imports))

  by_url : (url : List ℕ) → as_url referrer specifier ≡ Some url → looked.resolve_in m referrer specifier ≡ answer_or (Matched (Some url) url) (Resolved url)
  unfolding looked.resolve_in normalized
  by_url url e = ap (λ o. resolve_normalized (get m.imports) (scope_addresses m.scopes) referrer o (unwrap_or o specifier)) e

  bare : as_url referrer specifier ≡ None → looked.resolve_in m referrer specifier ≡ answer_or (Matched None specifier) html.Bare
  unfolding looked.resolve_in normalized
  bare e = ap (λ o. resolve_normalized (get m.imports) (scope_addresses m.scopes) referrer o (unwrap_or o specifier)) e

  pub url_found : (url found : List ℕ) → as_url referrer specifier ≡ Some url → Matched (Some url) url ≡ Some (Resolved found) → looked.resolve_in m referrer specifier ≡ Resolved found
  url_found url found e a = by_url url e ∙ ap (λ o. answer_or o (Resolved url)) a

  pub url_itself : (url : List ℕ) → as_url referrer specifier ≡ Some url → Matched (Some url) url ≡ None → looked.resolve_in m referrer specifier ≡ Resolved url
  url_itself url e a = by_url url e ∙ ap (λ o. answer_or o (Resolved url)) a

  pub url_fails : (fault : HtmlFault) (url : List ℕ) → as_url referrer specifier ≡ Some url → IsAnswer fault (Matched (Some url) url) → IsAnswer fault (Some (looked.resolve_in m referrer specifier))
  url_fails fault url e a = fails_moved fault _ _ (ap Some (by_url url e)) (record { same = fails_or fault _ (Resolved url) a.same })

  pub bare_found : (found : List ℕ) → as_url referrer specifier ≡ None → Matched None specifier ≡ Some (Resolved found) → looked.resolve_in m referrer specifier ≡ Resolved found
  bare_found found e a = bare e ∙ ap (λ o. answer_or o html.Bare) a

  pub bare_itself : as_url referrer specifier ≡ None → Matched None specifier ≡ None → IsAnswer Bare (Some (looked.resolve_in m referrer specifier))
  bare_itself e a = record { same = ap Some (bare e ∙ ap (λ o. answer_or o html.Bare) a) }

  pub bare_fails : (fault : HtmlFault) → as_url referrer specifier ≡ None → IsAnswer fault (Matched None specifier) → IsAnswer fault (Some (looked.resolve_in m referrer specifier))
  bare_fails fault e a = fails_moved fault _ _ (ap Some (bare e)) (record { same = fails_or fault _ html.Bare a.same })

-- the outcome with the URL for no answer, or with Bare
abbrev pub or_url : List ℕ → Result (Option (List ℕ)) HtmlFault → Result (List ℕ) HtmlFault
or_url url (Ok None) = Ok url
or_url url (Ok (Some found)) = Ok found
or_url url (Err fault) = Err fault

abbrev pub or_bare : Result (Option (List ℕ)) HtmlFault → Result (List ℕ) HtmlFault
or_bare (Ok None) = Err Bare
or_bare (Ok (Some found)) = Ok found
or_bare (Err fault) = Err fault

module _ (m : ParsedMap) (referrer specifier : List ℕ) where
  whole_url : (url : List ℕ) → as_url referrer specifier ≡ Some url → (out : Result (Option (List ℕ)) HtmlFault) → Finds out (Matched m referrer specifier (Some url) url) → ComesTo (or_url url out) (looked.resolve_in m referrer specifier)
  whole_url url e (Ok None) h = url_itself m referrer specifier url e h
  whole_url url e (Ok (Some found)) h = url_found m referrer specifier url found e h
  whole_url url e (Err fault) h = url_fails m referrer specifier fault url e h

  whole_bare : as_url referrer specifier ≡ None → (out : Result (Option (List ℕ)) HtmlFault) → Finds out (Matched m referrer specifier None specifier) → ComesTo (or_bare out) (looked.resolve_in m referrer specifier)
  whole_bare e (Ok None) h = bare_itself m referrer specifier e h
  whole_bare e (Ok (Some found)) h = bare_found m referrer specifier found e h
  whole_bare e (Err fault) h = bare_fails m referrer specifier fault e h

  pub url_by : (url : List ℕ) → as_url referrer specifier ≡ Some url → (r t : List ℕ) → r ≡ referrer → t ≡ url → (out shown : Result (Option (List ℕ)) HtmlFault) → out ≡ shown → Finds out (option_or (resolve_scopes_match (Some url) t r (scope_addresses m.scopes)) (resolve_imports_match (Some url) t (get m.imports))) → ComesTo (or_url url shown) (looked.resolve_in m referrer specifier)
  url_by url e r t p q out shown is h =
      whole_url url e shown (subst (λ o. Finds o (Matched m referrer specifier (Some url) url)) is (subst (λ (x : List ℕ × List ℕ). Finds out (option_or (resolve_scopes_match (Some url) x.1 x.0 (scope_addresses m.scopes)) (resolve_imports_match (Some url) x.1 (get m.imports)))) (λ i. (p i, q i)) h))

  pub bare_by : as_url referrer specifier ≡ None → (r : List ℕ) → r ≡ referrer → (out shown : Result (Option (List ℕ)) HtmlFault) → out ≡ shown → Finds out (option_or (resolve_scopes_match None specifier r (scope_addresses m.scopes)) (resolve_imports_match None specifier (get m.imports))) → ComesTo (or_bare shown) (looked.resolve_in m referrer specifier)
  bare_by e r p out shown is h =
      whole_bare e shown (subst (λ o. Finds o (Matched m referrer specifier None specifier)) is (subst (λ x. Finds out (option_or (resolve_scopes_match None specifier x (scope_addresses m.scopes)) (resolve_imports_match None specifier (get m.imports)))) p h))

-- one step of a walk, where the walk so far has answered nothing
pub step_fails : (fault : HtmlFault) (full here a b : Option Resolution) → full ≡ here → here ≡ option_or a b → IsAnswer fault a → IsAnswer fault full
step_fails fault full here a b e n f = fails_moved fault full (option_or a b) (e ∙ n) (first_fails fault a b f)

pub step_some : (o : Option (List ℕ)) (url : List ℕ) (full here a b : Option Resolution) → full ≡ here → here ≡ option_or a b → o ≡ Some url → Finds (Ok o) a → full ≡ Some (Resolved url)
step_some o url full here a b e n is h = e ∙ (n ∙ first_some (Resolved url) a b (subst (λ (x : Option (List ℕ)). Finds (Ok x) a) is h))

pub step_none : (o : Option (List ℕ)) (full here a b : Option Resolution) → full ≡ here → here ≡ option_or a b → o ≡ None → Finds (Ok o) a → full ≡ b
step_none o full here a b e n is h = e ∙ (n ∙ second a b (subst (λ (x : Option (List ℕ)). Finds (Ok x) a) is h))

pub resolves_moved : (out : Result (List ℕ) HtmlFault) (a b : Resolution) → a ≡ b → ComesTo out a → ComesTo out b
resolves_moved out a b e h = subst (ComesTo out) e h

pub ruleset outcomes = (first_fails, first_some, second_answers, answers_moved, memory_fails, key_none, key_blocked, key_found, prefix_none, prefix_blocked, prefix_found, prefix_fails)

-- the same from the normalized specifier on
module _ (m : ParsedMap) (referrer text : List ℕ) where
  abbrev pub Normal : Option (List ℕ) → Resolution
  Normal url = resolve_normalized (get m.imports) (scope_addresses m.scopes) referrer url text

  abbrev pub Matching : Option (List ℕ) → Option Resolution
  Matching url = option_or (resolve_scopes_match url text referrer (scope_addresses m.scopes)) (resolve_imports_match url text (get m.imports))

  normal_url : (url : List ℕ) (out : Result (Option (List ℕ)) HtmlFault) → Finds out (Matching (Some url)) → ComesTo (or_url url out) (Normal (Some url))
  normal_url url (Ok None) h = ap (λ o. answer_or o (Resolved url)) h
  normal_url url (Ok (Some found)) h = ap (λ o. answer_or o (Resolved url)) h
  normal_url url (Err fault) h = record { same = fails_or fault _ (Resolved url) h.same }

  normal_bare : (out : Result (Option (List ℕ)) HtmlFault) → Finds out (Matching None) → ComesTo (or_bare out) (Normal None)
  normal_bare (Ok None) h = record { same = ap (λ o. Some (answer_or o html.Bare)) h }
  normal_bare (Ok (Some found)) h = ap (λ o. answer_or o html.Bare) h
  normal_bare (Err fault) h = record { same = fails_or fault _ html.Bare h.same }

  pub url_normal : (parsed : Option (List ℕ)) (url : List ℕ) → parsed ≡ Some url → (out shown : Result (Option (List ℕ)) HtmlFault) → out ≡ shown → Finds out (Matching (Some url)) → ComesTo (or_url url shown) (Normal parsed)
  url_normal parsed url e out shown is h = subst (λ p. ComesTo (or_url url shown) (Normal p)) (sym e) (normal_url url shown (subst (λ o. Finds o (Matching (Some url))) is h))

  pub bare_normal : (parsed : Option (List ℕ)) → parsed ≡ None → (out shown : Result (Option (List ℕ)) HtmlFault) → out ≡ shown → Finds out (Matching None) → ComesTo (or_bare shown) (Normal parsed)
  bare_normal parsed e out shown is h = subst (λ p. ComesTo (or_bare shown) (Normal p)) (sym e) (normal_bare shown (subst (λ o. Finds o (Matching None)) is h))
