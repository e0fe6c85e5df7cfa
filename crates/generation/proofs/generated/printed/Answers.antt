use Rattle.std.specs.FinMap.{entries}
use Rattle.std.proofs.Common.{rules, ◌≡◌, ℕ, List, [], Option, Some, None, IfSome, sym, ap, ◌∙◌, ◌<◌, length, subst}
use Rattle.import_map_spec.specs.ParsedMap.{ParsedMap}
use Rattle.layout_spec.specs.Counting.{mapping_count}
use Rattle.layout_spec.specs.PrintedMap.{map_text}
use Rattle.tree_spec.specs.Limits.{limit_number}
use Rattle.tree_spec.specs.declared.LimitName.TheVariants.{Map}
use Rattle.generator_spec.specs.Generation.{map_base}
use Rattle.layout_spec.specs.declared.Need.{Need}
use Rattle.layout.specs.Layouts.{FewestLists}
use Rattle.scope_builder.specs.Lists.{Lists}
use Rattle.generator_spec.specs.Digests.{digests, with_digests}
use Rattle.scope_builder.specs.declared.keyed.Layout.{Layout}
use Rattle.trace_spec.specs.Checks.{Gathered}
use Rattle.std.specs.Prelude.{unwrap_or}
use Rattle.trace_spec.specs.Modules.{Config, web_name}
use Rattle.trace_spec.specs.Walking.{the_page}
use Rattle.generation.proofs.generated.printed.Goals as goal

-- the lists of a layout and of digests are those of the layout with the digests
digested : (config : Config) (all : Gathered) (layout : Layout) (m : ParsedMap) (pairs : List (List ℕ × List ℕ)) → pairs ≡ entries (digests config all.modules all.sources) → Lists layout [] m → Lists layout pairs (with_digests config all m)
digested config all layout m pairs are lists = record { imports = lists.imports; scopes = lists.scopes; integrity_texts = sym are }

-- a text that is written beside the page
page_is_base : (config : Config) (page : List ℕ) → web_name config the_page ≡ Some page → map_base config ≡ page
page_is_base config page named = ap (λ found. unwrap_or found []) named

beside : (config : Config) (page : List ℕ) (m : ParsedMap) (bytes : List ℕ) → web_name config the_page ≡ Some page → bytes ≡ map_text page m → bytes ≡ map_text (map_base config) m
beside config page m bytes named text = text ∙ sym (ap (λ url. map_text url m) (page_is_base config page named))

beside_large : (config : Config) (page : List ℕ) (m : ParsedMap) → web_name config the_page ≡ Some page → limit_number Map < length (map_text page m) → limit_number Map < length (map_text (map_base config) m)
beside_large config page m named large = subst (λ url. limit_number Map < length (map_text url m)) (sym (page_is_base config page named)) large

-- the number that is there
number_there : (P : ℕ → Type 0) (found : Option ℕ) (number : ℕ) → IfSome found P → found ≡ Some number → P number
number_there P None number h e = absurd (cc)
number_there P (Some other) number h e = let same : other ≡ number = cc in subst P same h

pub returns-in_err-map-clause-too_large : goal.returns-in_err-map-clause-too_large
returns-in_err-map-clause-too_large c = λ same.
    let needs : List Need = c.args.trace.now.gathered.needs in
    let laid : FewestLists needs c.args.layout.now = c.requires.fewest in
    let printed = digested c.args.config.now c.args.trace.now.gathered c.args.layout.now laid.m c.args.digests.now c.requires.digests laid.lists in
    record { few = c.requires.few; layout = laid.m; is_fewest = laid.is_fewest; large = beside_large c.args.config.now c.args.page.now (with_digests c.args.config.now c.args.trace.now.gathered laid.m) c.requires.page (c.print_map.ensures.too_large (search (rules, same)) (with_digests c.args.config.now c.args.trace.now.gathered laid.m) printed) }

pub returns-clause-map : goal.returns-clause-map
returns-clause-map c =
    let needs : List Need = c.args.trace.now.gathered.needs in
    let laid : FewestLists needs c.args.layout.now = c.requires.fewest in
    let printed = digested c.args.config.now c.args.trace.now.gathered c.args.layout.now laid.m c.args.digests.now c.requires.digests laid.lists in
    record {
      few = c.requires.few;
      layout = laid.m;
      is_fewest = laid.is_fewest;
      map = beside c.args.config.now c.args.page.now (with_digests c.args.config.now c.args.trace.now.gathered laid.m) c.in_ok-map.map.items c.requires.page (c.in_ok-map.ensures.printed.text (with_digests c.args.config.now c.args.trace.now.gathered laid.m) printed);
      within = c.in_ok-map.ensures.printed.within;
      modules = c.len.ensures.modules;
      requests = c.request_count.ensures.requests;
      mappings =
          number_there (λ count. (integrity : List (List ℕ × List ℕ)) (m : ParsedMap) → Lists c.args.layout.now integrity m → count ≡ mapping_count m)
          c.mappings.result c.in-Some.mappings c.mappings.ensures.of_map (search rules) [] laid.m laid.lists;
    }
