-- What is generated serves: a map of the needs of a trace does that captures none of them and has no mappings but theirs.
use Rattle.std.proofs.Common.{refl, sym, ap, ◌∙◌, subst}
use Rattle.std.proofs.lemmas.Option.{same_Some}
use Rattle.std.specs.FinMap.{get}
use Rattle.std.specs.Prelude.{◌≡◌, ℕ, List, [], Some, Ok, Contains, unwrap_or}
use Rattle.tree_spec.specs.Trees.{Tree}
use Rattle.url_spec.proofs.KeptUrls.{kept_urls}
use Rattle.url_spec.specs.Specifiers.{normalized}
use Rattle.import_map_spec.proofs.ResolvesByCases.{resolves_by_cases}
use Rattle.import_map_spec.specs.ParsedMap.{ParsedMap}
use Rattle.import_map_spec.specs.Parsing.{ParsesMap}
use Rattle.import_map_spec.specs.LookUps.{resolve_in}
use Rattle.import_map_spec.specs.Resolving as html
use Rattle.layout_spec.proofs.TextBack.{texts_read_back, texts_are_plain}
use Rattle.layout_spec.specs.PrintedMap.{IsKept, map_text}
use Rattle.layout_spec.specs.Serving.{NoCapture, OfNeeds}
use Rattle.layout_spec.specs.declared.Need.{Need}
use Rattle.fewest_spec.proofs.Laws.{fewest_serves}
use Rattle.fewest_spec.specs.Fewest.{IsFewestLayout}
use Rattle.page_spec.proofs.Injections.{one_map_after}
use Rattle.page_spec.specs.Laws.{IsPlainMap}
use Rattle.trace_spec.proofs.Traces.{requests_pass}
use Rattle.trace_spec.specs.Checks.{Gathered}
use Rattle.trace_spec.specs.Laws.{Passes}
use Rattle.trace_spec.specs.Levels.{page as page_is_reached}
use Rattle.trace_spec.specs.Modules.{Config, Module, web_name}
use Rattle.trace_spec.specs.Traces.{traced}
use Rattle.trace_spec.specs.Walking.{Referrer, the_page}
use Rattle.generator_spec.specs.Generation.{map_base}
use Rattle.generator_spec.specs.Digests.{with_digests}
use Rattle.generator_spec.specs.Serves.{Reachable, KnowsModules, Leads, AllLead, Serves}
use Rattle.soundness.proofs.Asking.{asks_normal}
use Rattle.soundness.proofs.Digested.{captures_none, has_digests, is_known, is_of_needs, only_modules}
use Rattle.soundness.proofs.Kept.{map_kept}
use Rattle.soundness.proofs.Leading.{need_leads}
use Rattle.soundness.proofs.Reaching.{IsNamed, reached, is_named, needs_name}
use Rattle.soundness.specs.Soundness.{HasDigests, NamesUrls, MapsServe, FewestMapsServe, ModulesAreKnown, Soundness, GeneratedReadsBack, MapsArePlain, OneMapInPage}

-- through a map each need is led to its target, whatever text it is asked for by
abbrev pub AreLed : Gathered → ParsedMap → Type 0
AreLed all m = (need : Need) (specifier : List ℕ) → Contains all.needs need → normalized need.referrer specifier ≡ need.asked → resolve_in m need.referrer specifier ≡ html.Resolved need.target

module _ (tree : Tree) (config : Config) (all : Gathered) (is_traced : traced (get tree) config ≡ Ok all) (m : ParsedMap) (led : AreLed all m) where
  -- a request that passed leads to its file
  leads : (referrer : Referrer Module) (name specifier : List ℕ) → web_name config referrer ≡ Some name → Passes (get tree) config all referrer specifier → Leads tree config m referrer name specifier
  leads referrer name specifier named passes =
      let need = passes.need in
      let same : need.referrer ≡ name = same_Some need.referrer name (sym passes.named ∙ named) in
      record {
        target = passes.target;
        url = need.target;
        node = sym passes.answers;
        web = passes.servable.name;
        html = subst (λ n. html.Resolves m n specifier (html.Resolved need.target)) same
            ((resolves_by_cases m need.referrer specifier (html.Resolved need.target)).0 (led need specifier passes.is_need (asks_normal need.referrer specifier need.asked passes.asks)));
        served = passes.servable.back;
      }

  pub led_requests : (referrer : Referrer Module) → Reachable tree config referrer → AllLead tree config m referrer
  led_requests referrer reachable =
      let is_reached = reached tree config all is_traced referrer reachable in
      let named = is_named tree config all is_traced referrer is_reached in
      let pass = requests_pass (get tree) config all is_traced referrer is_reached in
      record {
        name = named.name;
        named = named.named;
        specifiers = pass.specifiers;
        asks = pass.asks;
        leads = λ specifier asked. leads referrer named.name specifier named.named (pass.pass specifier asked);
      }

module _ (tree : Tree) (config : Config) (all : Gathered) (is_traced : traced (get tree) config ≡ Ok all) (m : ParsedMap) (of_needs : OfNeeds all.needs m) (digests : HasDigests m) where
  files : (need : Need) → Contains all.needs need → NamesUrls need
  files = needs_name tree config all is_traced

  page : IsNamed config the_page
  page = is_named tree config all is_traced the_page page_is_reached

  kept : IsKept page.name m
  kept = map_kept page.name (kept_urls.2 _ _ _ _ page.named) all.needs m of_needs files digests

  -- the text is written beside the page
  of_page : (bytes : List ℕ) → bytes ≡ map_text (map_base config) m → bytes ≡ map_text page.name m
  of_page bytes text = text ∙ ap (λ found. map_text (unwrap_or found []) m) page.named

  -- the text is read as the map
  text_parses : (bytes : List ℕ) → bytes ≡ map_text (map_base config) m → ParsesMap page.name bytes (Ok m)
  text_parses bytes text = subst (λ written. ParsesMap page.name written (Ok m)) (sym (of_page bytes text)) (texts_read_back page.name m kept)

  text_serves : NoCapture all.needs m → (bytes : List ℕ) → bytes ≡ map_text (map_base config) m → Serves tree config bytes
  text_serves no_capture bytes text = record {
    map_base = page.name;
    named = page.named;
    map = m;
    parses = text_parses bytes text;
    all_lead =
        led_requests tree config all is_traced m
        (λ need specifier c asks. need_leads all.needs m no_capture of_needs files need specifier c asks);
  }

  text_is_plain : (bytes : List ℕ) → bytes ≡ map_text (map_base config) m → IsPlainMap bytes
  text_is_plain bytes text =
      let plain = texts_are_plain page.name m kept in
      subst IsPlainMap (sym (of_page bytes text)) (record { utf8 = plain.0; no_markup = plain.1 })

pub maps_serve : MapsServe
maps_serve tree config all m traces no_capture of_needs digests =
    text_serves tree config all traces m of_needs digests no_capture (map_text (map_base config) m) refl

module _ (tree : Tree) (config : Config) (all : Gathered) (traces : traced (get tree) config ≡ Ok all) (layout : ParsedMap) (fewest : IsFewestLayout all.needs layout) where
  abbrev digested : ParsedMap
  digested = with_digests config all layout

  pub no_capture : NoCapture all.needs digested
  no_capture = captures_none config all layout all.needs (fewest_serves all.needs layout fewest).0

  pub of_needs : OfNeeds all.needs digested
  of_needs = is_of_needs config all layout all.needs (fewest_serves all.needs layout fewest).1

  digests : HasDigests digested
  digests = has_digests tree config all traces layout

  fewest_text_serves : (bytes : List ℕ) → bytes ≡ map_text (map_base config) digested → Serves tree config bytes
  fewest_text_serves bytes text = text_serves tree config all traces digested of_needs digests no_capture bytes text

  pub reads_back : (base bytes : List ℕ) → web_name config the_page ≡ Some base → bytes ≡ map_text (map_base config) digested → ParsesMap base bytes (Ok digested)
  reads_back base bytes named text =
      let is_page = page tree config all traces digested of_needs digests in
      subst (λ name. ParsesMap name bytes (Ok digested)) (same_Some is_page.name base (sym is_page.named ∙ named))
      (text_parses tree config all traces digested of_needs digests bytes text)

  fewest_text_is_plain : (bytes : List ℕ) → bytes ≡ map_text (map_base config) digested → IsPlainMap bytes
  fewest_text_is_plain bytes text = text_is_plain tree config all traces digested of_needs digests bytes text

  modules_known : (bytes : List ℕ) → bytes ≡ map_text (map_base config) digested → KnowsModules tree config bytes
  modules_known bytes text =
      let named = page tree config all traces digested of_needs digests in
      record {
        map_base = named.name;
        named = named.named;
        map = digested;
        parses = text_parses tree config all traces digested of_needs digests bytes text;
        each = is_known tree config all traces layout;
        only = only_modules tree config all traces;
      }

pub fewest_maps_serve : FewestMapsServe
fewest_maps_serve tree config all layout traces fewest =
    fewest_text_serves tree config all traces layout fewest (map_text (map_base config) (with_digests config all layout)) refl

pub sound : Soundness
sound tree config bytes is = fewest_text_serves tree config is.all is.is_traced is.layout is.is_fewest bytes is.text

pub generated_reads_back : GeneratedReadsBack
generated_reads_back tree config base bytes is named =
    reads_back tree config is.all is.is_traced is.layout is.is_fewest base bytes named is.text

pub modules_are_known : ModulesAreKnown
modules_are_known tree config bytes is =
    modules_known tree config is.all is.is_traced is.layout is.is_fewest bytes is.text

pub maps_are_plain : MapsArePlain
maps_are_plain tree config map is =
    fewest_text_is_plain tree config is.all is.is_traced is.layout is.is_fewest map is.text

pub one_map_in_page : OneMapInPage
one_map_in_page tree config map page new is i = one_map_after map page new (maps_are_plain tree config map is) i
