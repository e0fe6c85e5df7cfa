-- The referrers of needs are URLs.
use Rattle.std.proofs.Common.{◌≡◌, ◌<◌, ℕ, List, [], ◌∷◌, ◌++◌, length, sym, subst, arith}
use Rattle.std.specs.Prelude.{slice_get, Some}
use Rattle.std.specs.List.{list_any}
use mathlib.Core.Logic.{inl, inr}
use Rattle.std.proofs.lemmas.Bool.{cases_Bool, cond-true, cond-false}
use Rattle.std.proofs.lemmas.List.Elements.{All-push, All-nil}
use Rattle.std.specs.Map.{keys_of}
use Rattle.url_spec.specs.Parsing.{IsUrl}
use Rattle.url_spec.proofs.KeptUrls.{kept_urls}
use Rattle.layout_spec.specs.declared.Need.{Need}
use Rattle.layout_spec.specs.Needs.{is_need, with_need}
use Rattle.trace_spec.specs.Walking as spec
use Rattle.trace_spec.specs.Modules.{Config, Module, path_of, suffix_of}
use Rattle.trace_walk.specs.declared.referrer.Referrer.{Referrer}
use Rattle.trace_walk.specs.declared.tables.Name.{Name}
use Rattle.trace_walk.specs.Walking.{IsReferrer, AllNamed, AreOfUrls}
use Rattle.trace_walk.proofs.TableLemmas.{keys_of-length}
use Rattle.trace_walk.proofs.Visiting.{at_index, is_referrer}

pub no_urls : AreOfUrls []
no_urls = All-nil (λ (need : Need). IsUrl need.referrer)

one_more : (needs : List Need) (need : Need) → IsUrl need.referrer → AreOfUrls needs → AreOfUrls (with_need needs need)
one_more needs need url all =
    elim (cases_Bool (list_any (is_need need) needs)) [
      | inl there ↦ subst AreOfUrls (sym (cond-true (list_any (is_need need) needs) needs (needs ++ need ∷ []) there)) all
      | inr new ↦ subst AreOfUrls (sym (cond-false (list_any (is_need need) needs) needs (needs ++ need ∷ []) new)) (All-push (λ (other : Need). IsUrl other.referrer) needs need all url)
    ]

-- a need of this referrer is put among the others
pub added_urls : (needs after : List Need) (need : Need) (referrer : List ℕ) → after ≡ with_need needs need → need.referrer ≡ referrer → IsUrl referrer → AreOfUrls needs → AreOfUrls after
added_urls needs after need referrer added same url all =
    subst AreOfUrls (sym added) (one_more needs need (subst IsUrl (sym same) url) all)

pub referrer_url : (config : Config) (r : spec.Referrer Module) (value : Referrer) → IsReferrer config r value → IsUrl value.text
referrer_url config r value is = subst IsUrl (sym is.text) (kept_urls.2 config.base (path_of config r) (suffix_of r) value.name is.named)

-- the referrer of the module at a place of the table
pub placed_url : (config : Config) (entries : List (Module × Name)) (place : ℕ) (entry : Module × Name) (referrer : Referrer) → place < length entries → slice_get entries place ≡ Some entry → AllNamed config entries
    → referrer.name ≡ entry.1.url → referrer.text ≡ entry.1.text → referrer.path ≡ entry.0.path → referrer.shown ≡ entry.0.path ++ entry.0.suffix → IsUrl referrer.text
placed_url config entries place entry referrer within here all name text path shown =
    let keys = keys_of-length entries in
    let at = at_index (keys_of entries) place (omega (arith, within, keys)) in
    referrer_url config (spec.a_module at.0) referrer (is_referrer config entries place at.0 entry referrer at.1 here all name text path shown)
