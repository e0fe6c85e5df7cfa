-- No map that serves without keys that end in `/` has fewer mappings than what is generated.
use Rattle.std.proofs.Common.{sym, ap, ◌∙◌, subst}
use Rattle.std.proofs.lemmas.Option.{same_Some}
use Rattle.std.specs.FinMap.{get}
use Rattle.std.specs.Prelude.{◌≡◌, ℕ, List, [], Result, Ok, Contains, unwrap_or}
use Rattle.tree_spec.specs.Trees.{Tree}
use Rattle.url_spec.specs.WebNames.{web}
use Rattle.import_map_spec.proofs.OneMap.{one_map}
use Rattle.import_map_spec.proofs.ResolvesByCases.{resolves_by_cases}
use Rattle.import_map_spec.specs.LookUps.{resolve_in}
use Rattle.import_map_spec.specs.ParsedMap.{ParsedMap, MapFault}
use Rattle.import_map_spec.specs.Parsing.{ParsesMap}
use Rattle.import_map_spec.specs.Resolving as html
use Rattle.check_spec.proofs.NeedLemmas.{specifiers_agree}
use Rattle.layout_spec.specs.declared.Need.{Need}
use Rattle.fewest_spec.proofs.OfAll.{fewest_of_all}
use Rattle.fewest_spec.specs.Laws.{NamesAsked}
use Rattle.trace_spec.proofs.Steps.{file_name_parts}
use Rattle.trace_spec.proofs.Traces.{needs_are_requests}
use Rattle.trace_spec.specs.Checks.{Gathered}
use Rattle.trace_spec.specs.Levels.{page as page_is_reached}
use Rattle.trace_spec.specs.Modules.{Config, Module}
use Rattle.trace_spec.specs.Traces.{traced}
use Rattle.trace_spec.specs.Walking.{the_page}
use Rattle.generator_spec.specs.Digests.{with_digests}
use Rattle.generator_spec.specs.Serves.{Leads, Serves}
use Rattle.soundness.proofs.Asking.{asks_normal}
use Rattle.soundness.proofs.Reaching.{is_named, needs_name, node_leads, reachable}
use Rattle.soundness.proofs.Sound.{reads_back}
use Rattle.soundness.specs.Soundness.{GeneratedIsSmallest}

same_read : (base text : List ℕ) (m other : ParsedMap) → ParsesMap base text (Ok m) → ParsesMap base text (Ok other) → m ≡ other
same_read base text m other p q =
    let e : ◌≡◌ {A = Result ParsedMap MapFault} (Ok m) (Ok other) = one_map base text (Ok m) (Ok other) p q in
    cc

module _ (tree : Tree) (config : Config) (all : Gathered) (is_traced : traced (get tree) config ≡ Ok all) where
  names_asked : (need : Need) → Contains all.needs need → NamesAsked need
  names_asked need c =
      let names = needs_name tree config all is_traced need c in
      record { referrer = names.referrer; asked = names.asked }

  -- what serves leads each need to its target
  need_is_led : (text : List ℕ) → (serves : Serves tree config text) → (need : Need) → Contains all.needs need → resolve_in serves.map need.referrer need.asked ≡ html.Resolved need.target
  need_is_led text serves need c =
      let is = (needs_are_requests (get tree) config all is_traced).each need c in
      let lead = serves.all_lead is.referrer (reachable tree config all is_traced is.referrer is.reached) in
      let asked : Contains lead.specifiers is.specifier = subst (λ o. Contains (unwrap_or o []) is.specifier) lead.asks is.is_request in
      let found : Leads tree config serves.map is.referrer lead.name is.specifier = lead.leads is.specifier asked in
      let same_name : lead.name ≡ need.referrer = same_Some lead.name need.referrer (sym lead.named ∙ is.named) in
      let same_target : found.target ≡ is.target =
      same_Some found.target is.target (sym (node_leads tree config all is_traced is.referrer is.specifier found.target found.node) ∙ is.leads_there) in
      let same_url : found.url ≡ need.target =
      same_Some found.url need.target
      (sym found.web ∙ (ap (λ (m : Module). web config.base m.path m.suffix) same_target ∙ (file_name_parts config is.target need.target is.is_name).servable.name)) in
      let by_specifier : resolve_in serves.map need.referrer is.specifier ≡ html.Resolved need.target =
      (λ i. resolve_in serves.map (sym same_name i) is.specifier)
      ∙ ((resolves_by_cases serves.map lead.name is.specifier (html.Resolved found.url)).1 found.html ∙ ap html.Resolved same_url) in
      specifiers_agree serves.map need need.asked ((names_asked need c).asked.normal need.referrer)
      ∙ (sym (specifiers_agree serves.map need is.specifier (asks_normal need.referrer is.specifier need.asked is.asks)) ∙ by_specifier)

pub generated_is_smallest : GeneratedIsSmallest
generated_is_smallest tree config bytes is =
    let page = is_named tree config is.all is.is_traced the_page page_is_reached in
    record {
      map_base = page.name;
      named = page.named;
      map = with_digests config is.all is.layout;
      parses = reads_back tree config is.all is.is_traced is.layout is.is_fewest page.name bytes page.named is.text;
      fewest = λ text other serves parses no_folder_key.
          let base : serves.map_base ≡ page.name = same_Some serves.map_base page.name (sym serves.named ∙ page.named) in
          let same : serves.map ≡ other =
          same_read page.name text serves.map other (subst (λ b. ParsesMap b text (Ok serves.map)) base serves.parses) parses in
          fewest_of_all page.name text is.all.needs is.layout other is.is_fewest parses no_folder_key (names_asked tree config is.all is.is_traced)
          (λ need c. subst (λ (m : ParsedMap). resolve_in m need.referrer need.asked ≡ html.Resolved need.target) same
          (need_is_led tree config is.all is.is_traced text serves need c));
    }
