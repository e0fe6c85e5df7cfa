-- A map that has no mappings but those of needs that name files is read back from its text.
use Rattle.std.proofs.Common.{refl, sym, ap, ◌∙◌, subst}
use Rattle.std.proofs.lemmas.Bool.{cond-false, and_left}
use Rattle.std.proofs.lemmas.Option.{none-some}
use Rattle.std.specs.FinMap.{get, empty}
use Rattle.std.specs.Prelude.{◌≡◌, ◌≢◌, ℕ, false, List, [], ◌∷◌, Option, Some, unwrap_or, Contains}
use Rattle.url_spec.proofs.AgainstBases.{urls_against}
use Rattle.url_spec.proofs.OwnTexts.{utf8_url}
use Rattle.url_spec.proofs.OwnUrls.{own_urls}
use Rattle.url_spec.specs.Parsing.{IsUrl}
use Rattle.url_spec.specs.Specifiers.{ends_in_slash}
use Rattle.import_map_spec.specs.ParsedMap.{Addresses, ParsedMap}
use Rattle.import_map_spec.specs.Parsing.{is_empty, fitting}
use Rattle.layout_spec.proofs.TextBack.{texts_read_back}
use Rattle.layout_spec.specs.PrintedMap.{IsKeptAddress, IsKeptKey, IsKeptScope, IsKept}
use Rattle.layout_spec.specs.Serving.{held, OfNeeds}
use Rattle.layout_spec.specs.declared.Need.{Need}
use Rattle.soundness.proofs.Leading.{scope_url}
use Rattle.soundness.specs.Soundness.{HasDigests, MapsReadBack, NamesUrls}

not_empty : (text : List ℕ) → text ≢ [] → is_empty text ≡ false
not_empty [] some = absurd (some refl)
not_empty (b ∷ rest) some = refl

-- an address under a key that is no folder
address_stands : (base key target : List ℕ) → ends_in_slash key ≡ false → IsUrl target → IsKeptAddress base key (Some target)
address_stands base key target is_file is = (ap (fitting key) (own_urls.0 base target is) ∙ cond-false _ _ _ (and_left _ _ is_file), utf8_url target is)

need_kept : (base : List ℕ) (need : Need) → NamesUrls need → IsKeptKey base need.asked (Some need.target)
need_kept base need names = record {
  not_empty = not_empty need.asked names.asked.nonempty;
  normal = names.asked.normal base;
  utf8 = names.asked.utf8;
  stands = address_stands base need.asked need.target names.asked.no_folder names.target;
}

module _ (base : List ℕ) (is_base : IsUrl base) (needs : List Need) (m : ParsedMap) (of_needs : OfNeeds needs m) (files : (need : Need) → Contains needs need → NamesUrls need) where
  key_kept : (place key : List ℕ) (address : Option (List ℕ)) → held m key place ≡ Some address → IsKeptKey base key address
  key_kept place key address e =
      let found = of_needs.only place key address e in
      subst (λ k. IsKeptKey base k address) found.1.asked_is (subst (IsKeptKey base found.0.asked) (sym found.1.address_is) (need_kept base found.0 (files found.0 found.1.is_need)))

  scope_kept : (key : List ℕ) (scope : Addresses) → get m.scopes key ≡ Some scope → IsKeptScope base key scope
  scope_kept [] scope e = absurd (none-some _ (sym of_needs.tidy.no_top ∙ e))
  scope_kept (b ∷ rest) scope e =
      let is_url = scope_url needs m of_needs files (b ∷ rest) scope e in
      record {
        url = urls_against base (b ∷ rest) is_base is_url;
        utf8 = utf8_url (b ∷ rest) is_url;
        kept = λ asked address maps. key_kept (b ∷ rest) asked address (ap (λ (o : Option Addresses). get (unwrap_or o empty) asked) e ∙ maps);
      }

  -- keys and addresses stand as parsing leaves them
  pub map_kept : HasDigests m → IsKept base m
  map_kept digests = record {
    imports = λ key address e. key_kept [] key address e;
    scopes = scope_kept;
    integrity = λ key text e. record { url = own_urls.0 base key (digests key text e).0; key_utf8 = utf8_url key (digests key text e).0; text_utf8 = (digests key text e).1 };
  }

pub maps_read_back : MapsReadBack
maps_read_back base needs m is_base of_needs files digests = texts_read_back base m (map_kept base is_base needs m of_needs files digests)
