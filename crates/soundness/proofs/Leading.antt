-- Through a map that captures no need, each need leads to its target.
use Rattle.std.proofs.Common.{refl, sym, ap, ◌∙◌, subst}
use Rattle.std.proofs.lemmas.Bool.{true≢false}
use Rattle.std.proofs.lemmas.Option.{none-some, same_Some}
use Rattle.std.specs.FinMap.{get, empty}
use Rattle.std.specs.Prelude.{◌≡◌, ℕ, List, [], ◌∷◌, Option, Some, None, unwrap_or, Contains}
use mathlib.Core.Logic.{inl, inr}
use Rattle.url_spec.proofs.NoUrls.{no_urls}
use Rattle.url_spec.proofs.OwnUrls.{own_urls}
use Rattle.url_spec.specs.Parsing.{IsUrl}
use Rattle.url_spec.specs.Specifiers.{as_url, normalized, ends_in_slash}
use Rattle.import_map_spec.proofs.Entries.{cases_option}
use Rattle.import_map_spec.specs.LookUps.{answer_or, unmatched, exact_match, scope_addresses, resolve_normalized, resolve_in}
use Rattle.import_map_spec.specs.ParsedMap.{Addresses, ParsedMap}
use Rattle.import_map_spec.specs.Resolving.{Resolved}
use Rattle.layout_spec.proofs.PlaceLemmas.{place_url}
use Rattle.layout_spec.specs.Places.{places}
use Rattle.layout_spec.specs.Serving.{held, first_of, NoCapture, OfNeeds}
use Rattle.layout_spec.specs.declared.Need.{Need}
use Rattle.fewest_spec.proofs.Answering.{ScopesAreUrls, places_answer}
use Rattle.fewest_spec.specs.Laws.{NoFolderKeys}
use Rattle.soundness.specs.Soundness.{NamesUrls}

-- ---- what scopes and imports answer

module _ (needs : List Need) (m : ParsedMap) (of_needs : OfNeeds needs m) (files : (need : Need) → Contains needs need → NamesUrls need) where
  pub no_folder_key : NoFolderKeys m
  no_folder_key place key slash =
      elim (cases_option (held m key place)) [
        | inl none ↦ none
        | inr some ↦ let found = of_needs.only place key some.0 some.1 in
            absurd (true≢false (sym slash ∙ (ap ends_in_slash (sym found.1.asked_is) ∙ (files found.0 found.1.is_need).asked.no_folder)))
      ]

  -- the key of a scope is a URL
  pub scope_url : ScopesAreUrls m
  scope_url [] scope is = absurd (none-some _ (sym of_needs.tidy.no_top ∙ is))
  scope_url (b ∷ rest) scope is =
      let some = of_needs.tidy.some (b ∷ rest) scope is in
      let found = of_needs.only (b ∷ rest) some.0 some.1 (ap (λ (o : Option Addresses). get (unwrap_or o empty) some.0) is ∙ some.2) in
      elim (place_url found.0.referrer (b ∷ rest) (files found.0 found.1.is_need).referrer found.1.at) [
        | inl url ↦ url
        | inr none ↦ absurd (nothing none)
      ]
    where
      nothing : b ∷ rest ≡ [] → ⊥
      nothing e = cc

  leads_from : (referrer asked target : List ℕ) (url : Option (List ℕ)) → IsUrl referrer → unwrap_or (first_of (held m asked) (places referrer)) (Some asked) ≡ Some target → (asked ≡ target → url ≡ Some target) → resolve_normalized (get m.imports) (scope_addresses m.scopes) referrer url asked ≡ Resolved target
  leads_from [] asked target url is serves alone = absurd (none-some _ (sym no_urls.1 ∙ is))
  leads_from (b ∷ rest) asked target url is serves alone =
      ap (λ o. answer_or o (unmatched url)) (places_answer m no_folder_key scope_url url asked b rest) ∙ answered (first_of (held m asked) (places (b ∷ rest))) serves
    where
      answered : (found : Option (Option (List ℕ))) → unwrap_or found (Some asked) ≡ Some target → answer_or (exact_match found) (unmatched url) ≡ Resolved target
      answered None e = ap unmatched (alone (same_Some asked target e))
      answered (Some None) e = absurd (none-some target e)
      answered (Some (Some address)) e = ap Resolved (same_Some address target e)

-- ---- needs

-- a specifier that is asked for by its target's URL has that URL
url_of_target : (referrer specifier target : List ℕ) (url : Option (List ℕ)) → as_url referrer specifier ≡ url → unwrap_or url specifier ≡ target → IsUrl target → url ≡ Some target
url_of_target referrer specifier target None e same is = absurd (none-some _ (sym (subst (λ s. as_url referrer s ≡ None) same e) ∙ own_urls.0 referrer target is))
url_of_target referrer specifier target (Some url) e same is = ap Some same

-- where no need is captured, each need leads to its target, whatever text it is asked for by
pub need_leads : (needs : List Need) (m : ParsedMap) → NoCapture needs m → OfNeeds needs m → ((need : Need) → Contains needs need → NamesUrls need) → (need : Need) (specifier : List ℕ) → Contains needs need → normalized need.referrer specifier ≡ need.asked → resolve_in m need.referrer specifier ≡ Resolved need.target
unfolding resolve_in normalized
need_leads needs m no_capture of_needs files need specifier c asks =
    let url = as_url need.referrer specifier in
    ap (resolve_normalized (get m.imports) (scope_addresses m.scopes) need.referrer url) asks
    ∙ leads_from needs m of_needs files need.referrer need.asked need.target url (files need c).referrer (no_capture need c)
    (λ alone. url_of_target need.referrer specifier need.target url refl (asks ∙ alone) (files need c).target)
