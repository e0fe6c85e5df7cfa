-- The worked examples.
use Rattle.std.proofs.Common.{◌≡◌, refl, sym, ap, ◌∙◌, lit≤, ◌++◌, Ok, subst, append_assoc}
use Prim.Native.String.{String}
use Rattle.std.specs.Prelude.{◌≤◌, ℕ, true, List, [], ◌∷◌, length, drop, codes, Option, Some, None, IsUtf8}
use Rattle.std.specs.Fmt.{digits}
use Rattle.url.proofs.OnLiterals.{url_on_literals}
use Rattle.tree_spec.specs.declared.Entry.TheVariants.{Stored}
use Rattle.tree_spec.specs.declared.LimitName.TheVariants.{Map}
use Rattle.tree_spec.specs.Limits.{limit_number}
use Rattle.tree_spec.specs.Trees.{IsTree, Places}
use Rattle.tree_spec.specs.LookAskings.{Sights}
use Rattle.tree_spec.proofs.Insertion.{get_here}
use Rattle.tree_spec.proofs.Placings.{in_root}
use Rattle.std.specs.FinMap.{get, insert}
use Rattle.import_map_spec.proofs.Entries.{insert_again}
use Rattle.import_map_spec.proofs.examples.WrittenMaps.{looked, get_map_of}
use Rattle.import_map_spec.specs.ParsedMap.{ParsedMap, Texts}
use Rattle.import_map_spec.specs.WrittenMaps.{Lists, map_of, map_of_lists}
use Rattle.url_spec.specs.Bases.{base_of}
use Rattle.url_spec.specs.Parsing.{text_of, parse_alone, parse_against}
use Rattle.url_spec.specs.WebNames.{escaped, web}
use Rattle.integrity_spec.specs.DigestTexts.{digest_text}
use Rattle.layout_spec.proofs.examples.Agreement.{all_agree}
use Rattle.layout_spec.proofs.examples.PrintedLists.{listed_text, lists_text}
use Rattle.layout_spec.specs.Counting.{mapping_count}
use Rattle.layout_spec.specs.PrintedMap.{map_text}
use Rattle.layout_spec.specs.ShortForms.{short}
use Rattle.layout_spec.specs.declared.Need.{Need}
use Rattle.fewest_spec.specs.Choosing.{is_best, reduced}
use Rattle.fewest_spec.specs.Wishes.{HasTooManyChoices}
use Rattle.trace_spec.specs.Modules.{Config}
use Rattle.trace_spec.specs.Checks.{Gathered}
use Rattle.config_spec.proofs.ConfigsFit.{configs_are_projects}
use Rattle.config_spec.specs.Projects.{IsConfigOf, page_path, project_path}
use Rattle.config_spec.specs.Words.RefusesOptions.{bad_base}
use Rattle.config_spec.specs.Words.RefusesWords.{bad_option}
use Rattle.config_spec.specs.declared.Command.TheVariants.{Link, Inject, Refresh}
use Rattle.config_spec.specs.declared.ConfigFault.TheVariants.{BadBase, Project}
use Rattle.config_spec.specs.declared.ProjectFault.TheVariants as project_fault
use Rattle.project_spec.proofs.ReadBack.{projects_read_back}
use Rattle.project_spec.specs.ProjectFiles.{ReadsProject, project_value, project_text}
use Rattle.std.proofs.lemmas.List.Elements.{All-nil, All-cons}
use Rattle.std.proofs.lemmas.Str.{IsUtf8-from_is_utf8}
use Rattle.tree_spec.specs.Paths.{IsParent}
use Rattle.tree_spec.proofs.Placings.{placed_tree}
use Rattle.url_spec.proofs.PathDecisions.{segment_by_test, path_by_test}
use Rattle.generator_spec.specs.declared.PageFault.TheVariants.{Absent}
use Rattle.generator_spec.specs.declared.Refusal.TheVariants.{Config as Configured, Page, Trace}
use Rattle.generator_spec.proofs.MapPaths.{map_is_path, map_in_root, project_in_root}
use Rattle.generator_spec.specs.Digests.{digests}
use Rattle.generator_spec.specs.Generation.{Generates, map_base}
use Rattle.generator_spec.specs.Lines.{counts_line, done_line}
use Rattle.generator_spec.specs.Commands.{IsPage, map_path}
use Rattle.generator_spec.specs.Commands.Opens.{nothing}
use Rattle.generator_spec.specs.Commands.Refuses.{page, trace}
use Rattle.generator_spec.specs.Commands.RefusesPage.{absent}
use Rattle.generator_spec.specs.Commands.IsMapping.{link}
use Rattle.generator_spec.specs.Commands.Writes.{linked, refreshed, in_page}
use Rattle.generator_spec.specs.Commands.{new_file, map_and_project}
use Rattle.generator_spec.specs.Outcome.{FilesPlaced, Outcome}
use Rattle.generator_spec.specs.Outcome.ComesTo.{refused, written}
use Rattle.generator_spec.specs.Outcome.RefusesRun.{by_words, by_project, by_tree}
use Rattle.page_spec.specs.Attributes.{attribute}
use Rattle.page_spec.specs.ImportMaps.{is_map_start}
use Rattle.page_spec.specs.Injection.{Injection}
use Rattle.page_spec.specs.Injection.Injection.{utf8}
use Rattle.page_spec.specs.declared.kinds.PieceKind.TheVariants.{Start, End, Text}
use Rattle.page_spec.specs.Pieces.{first_piece, Part, part, Pieces}
use Rattle.page_spec.specs.Pieces.Pieces.{none, piece}
use Rattle.std.specs.Str.{is_utf8, chars}
use Rattle.soundness.proofs.Smallest.{generated_is_smallest}
use Rattle.soundness.proofs.Sound.{sound, modules_are_known}
use Rattle.node_spec.specs.NodeExamples.{Files}
use Rattle.generator_examples.specs.Sites.{tree_of, based, links, injects, refreshes, levels, spelling, spelling_all, spelling_map, site, site_all, site_map, kept, paged, paged_after, missing, kept_missing, clashing, app_project, two_project}
use Rattle.generator_examples.specs.Sites.{spelling_imports, site_imports, spelled_text, site_app_text, greet_text, id_text, home_text}
use Rattle.generator_examples.specs.Packages.{package_app_text, b_text, menu_text, packages, packages_all, packages_imports, packages_map}
use Rattle.generator_examples.proofs.ShortTexts.{behind, short_end, short_line}
use Rattle.generator_examples.specs.Examples.{IsTraced, IsMapped, with_map, linked_files, Trees, TraceExamples, MapExamples, EndExamples, WorkedExamples}
use Rattle.generator_examples.proofs.TracedExamples.{traced_examples}
use Rattle.generator_examples.proofs.Growing.{grown}
use Rattle.generator_examples.proofs.FewChoices.{few_choices}
use Rattle.generator_examples.proofs.LaidLists.{listed_layout, layout_listed}
use Rattle.generator_examples.proofs.Words.{is_linking, links_ask, link_gives, inject_gives, refresh_gives, refresh_lacks}
use Rattle.generator_examples.proofs.Counting.{counts}
use Rattle.generator_examples.proofs.Evaluated.{levels_traced, spelling_traced, site_traced, kept_traced, paged_traced, packages_traced, missing_traced, clashing_traced}

trees : Trees
trees = record {
  of_levels = grown (drop 1 levels) refl;
  of_spelling = grown (drop 1 spelling) refl;
  of_site = grown (drop 1 site) refl;
  of_kept = grown (drop 1 kept) refl;
  of_paged = grown (drop 1 paged) refl;
  of_packages = grown (drop 1 packages) refl;
  of_missing = grown (drop 1 missing) refl;
  of_kept_missing = grown (drop 1 kept_missing) refl;
  of_clashing = grown (drop 1 clashing) refl;
}

trace_examples : TraceExamples
trace_examples = record { by_levels = levels_traced; two_spellings = spelling_traced; of_site = site_traced; of_packages = packages_traced }

-- ---- configs

app_base : base_of (codes "https://app.test/") ≡ Some (codes "https://app.test/")
unfolding base_of parse_alone text_of url_on_literals
app_base = refl

below_app_base : base_of (codes "https://app.test/app/") ≡ Some (codes "https://app.test/app/")
unfolding base_of parse_alone text_of url_on_literals
below_app_base = refl

app_gives : IsConfigOf (links "https://app.test/" ("./app.mjs" ∷ [])) (tree_of spelling) Link (based "https://app.test/" ("./app.mjs" ∷ []))
app_gives = link_gives spelling "https://app.test/" ("./app.mjs" ∷ []) refl app_base refl refl

site_gives : IsConfigOf (links "https://app.test/" ("./app.mjs" ∷ [])) (tree_of site) Link (based "https://app.test/" ("./app.mjs" ∷ []))
site_gives = link_gives site "https://app.test/" ("./app.mjs" ∷ []) refl app_base refl refl

missing_gives : IsConfigOf (links "https://app.test/" ("./a.mjs" ∷ "./b.mjs" ∷ [])) (tree_of missing) Link (based "https://app.test/" ("./a.mjs" ∷ "./b.mjs" ∷ []))
missing_gives = link_gives missing "https://app.test/" ("./a.mjs" ∷ "./b.mjs" ∷ []) refl app_base refl refl

clashing_gives : IsConfigOf (links "https://app.test/app/" ("./m.mjs" ∷ [])) (tree_of clashing) Link (based "https://app.test/app/" ("./m.mjs" ∷ []))
clashing_gives = link_gives clashing "https://app.test/app/" ("./m.mjs" ∷ []) refl below_app_base refl refl

-- ---- projects

page_is_utf8 : is_utf8 page_path ≡ true
unfolding is_utf8 chars lib.Utf8.encode
page_is_utf8 = refl

app_is_utf8 : is_utf8 (codes "./app.mjs") ≡ true
unfolding is_utf8 chars lib.Utf8.encode
app_is_utf8 = refl

a_is_utf8 : is_utf8 (codes "./a.mjs") ≡ true
unfolding is_utf8 chars lib.Utf8.encode
a_is_utf8 = refl

b_is_utf8 : is_utf8 (codes "./b.mjs") ≡ true
unfolding is_utf8 chars lib.Utf8.encode
b_is_utf8 = refl

app_printed : project_text (based "https://app.test/" ("./app.mjs" ∷ [])) ≡ app_project
unfolding project_text project_value
app_printed = refl

two_printed : project_text (based "https://app.test/" ("./a.mjs" ∷ "./b.mjs" ∷ [])) ≡ two_project
unfolding project_text project_value
two_printed = refl

app_read : ReadsProject app_project (Ok (based "https://app.test/" ("./app.mjs" ∷ [])))
app_read =
    subst (λ text. ReadsProject text (Ok (based "https://app.test/" ("./app.mjs" ∷ [])))) app_printed
    (projects_read_back _ (configs_are_projects _ _ _ _ app_gives).is_project (lit≤ tt) (IsUtf8-from_is_utf8 page_path page_is_utf8)
    (All-cons IsUtf8 (codes "./app.mjs") [] (IsUtf8-from_is_utf8 (codes "./app.mjs") app_is_utf8) (All-nil IsUtf8)))

two_read : ReadsProject two_project (Ok (based "https://app.test/" ("./a.mjs" ∷ "./b.mjs" ∷ [])))
two_read =
    subst (λ text. ReadsProject text (Ok (based "https://app.test/" ("./a.mjs" ∷ "./b.mjs" ∷ [])))) two_printed
    (projects_read_back _ (configs_are_projects _ _ _ _ missing_gives).is_project (lit≤ tt) (IsUtf8-from_is_utf8 page_path page_is_utf8)
    (All-cons IsUtf8 (codes "./a.mjs") (codes "./b.mjs" ∷ []) (IsUtf8-from_is_utf8 (codes "./a.mjs") a_is_utf8)
    (All-cons IsUtf8 (codes "./b.mjs") [] (IsUtf8-from_is_utf8 (codes "./b.mjs") b_is_utf8) (All-nil IsUtf8))))

paged_gives : IsConfigOf injects (tree_of paged) Inject (based "https://app.test/" ("./app.mjs" ∷ []))
paged_gives = inject_gives paged _ app_project refl (lit≤ tt) app_read

kept_gives : IsConfigOf refreshes (tree_of kept) Refresh (based "https://app.test/" ("./app.mjs" ∷ []))
kept_gives = refresh_gives kept _ app_project refl (lit≤ tt) app_read

no_page_gives : IsConfigOf injects (tree_of kept_missing) Inject (based "https://app.test/" ("./a.mjs" ∷ "./b.mjs" ∷ []))
no_page_gives = inject_gives kept_missing _ two_project refl (lit≤ tt) two_read

ftp_is_none : base_of (codes "ftp://h/") ≡ None
unfolding base_of parse_alone text_of url_on_literals
ftp_is_none = refl

-- ---- maps

-- the lists of a layout, with digests
abbrev with_pairs : Lists → List (List ℕ × List ℕ) → Lists
with_pairs layout pairs = record { imports = layout.imports; scopes = layout.scopes; integrity = pairs }

abbrev digested : List Need → List (List ℕ × List ℕ) → Lists
digested needs pairs = with_pairs (listed_layout needs) pairs

abbrev with_integrity : ParsedMap → Texts (List ℕ) → ParsedMap
with_integrity layout digests = record { imports = layout.imports; scopes = layout.scopes; integrity = digests }

-- the URL of their page, which is the map base
abbrev page_url : List ℕ
page_url = codes "https://app.test/index.html"

page_named : (entries : List String) → map_base (based "https://app.test/" entries) ≡ page_url
unfolding web escaped parse_alone text_of url_on_literals
page_named entries = refl

abbrev generated : (files : Files) (config : Config) (all : Gathered) (pairs : List (List ℕ × List ℕ)) (text : List ℕ) → IsTraced files config all → all_agree all.needs ≡ true → (HasTooManyChoices all.needs → ⊥) → map_base config ≡ page_url → digests config all.modules all.sources ≡ map_of pairs → listed_text page_url (digested all.needs pairs) ≡ text → length text ≤ limit_number Map → Generates (tree_of files) config text
generated files config all pairs text is_traced agree few named are e small = record {
  all = all;
  is_traced = is_traced;
  few = few;
  layout = map_of_lists (listed_layout all.needs);
  is_fewest = layout_listed all.needs agree;
  text =
      sym (ap (λ url. map_text url (with_integrity (map_of_lists (listed_layout all.needs)) (digests config all.modules all.sources))) named
      ∙ (ap (λ found. map_text page_url (with_integrity (map_of_lists (listed_layout all.needs)) found)) are ∙ (lists_text page_url (digested all.needs pairs) ∙ e)));
  within = small;
}

-- the digest of each module's bytes, the last module first
abbrev spelling_pairs : List (List ℕ × List ℕ)
spelling_pairs = (codes "https://app.test/ab.mjs", digest_text []) ∷ (codes "https://app.test/app.mjs", digest_text spelled_text) ∷ []

abbrev site_pairs : List (List ℕ × List ℕ)
site_pairs =
    (codes "https://app.test/lib/words.mjs", digest_text [])
    ∷ (codes "https://app.test/pages/%5Bid%5D.mjs", digest_text id_text)
    ∷ (codes "https://app.test/pages/home.mjs", digest_text home_text)
    ∷ (codes "https://app.test/lib/greet.mjs", digest_text greet_text)
    ∷ (codes "https://app.test/app.mjs", digest_text site_app_text)
    ∷ []

abbrev packages_pairs : List (List ℕ × List ℕ)
packages_pairs =
    (codes "https://app.test/node_modules/ui/node_modules/@ui/core/lib/index.mjs", digest_text (codes "export const h = 1;"))
    ∷ (codes "https://app.test/own.js", digest_text (codes "export const own = 0;"))
    ∷ (codes "https://app.test/node_modules/ui/x/menu.js", digest_text menu_text)
    ∷ (codes "https://app.test/node_modules/ui/b.js", digest_text b_text)
    ∷ (codes "https://app.test/app.js", digest_text package_app_text)
    ∷ []

spelling_digests : digests (based "https://app.test/" ("./app.mjs" ∷ [])) spelling_all.modules spelling_all.sources ≡ map_of spelling_pairs
unfolding web escaped parse_alone text_of url_on_literals
spelling_digests = refl

site_digests : digests (based "https://app.test/" ("./app.mjs" ∷ [])) site_all.modules site_all.sources ≡ map_of site_pairs
unfolding web escaped parse_alone text_of url_on_literals
site_digests = refl

packages_digests : digests (based "https://app.test/" ("./app.js" ∷ [])) packages_all.modules packages_all.sources ≡ map_of packages_pairs
unfolding web escaped parse_alone text_of url_on_literals
packages_digests = refl

spelling_text : listed_text page_url (digested spelling_all.needs spelling_pairs) ≡ spelling_map
unfolding parse_alone parse_against short text_of url_on_literals is_best reduced
spelling_text = refl

site_text : listed_text page_url (digested site_all.needs site_pairs) ≡ site_map
unfolding parse_alone parse_against short text_of url_on_literals is_best reduced
site_text = refl

packages_text : listed_text page_url (digested packages_all.needs packages_pairs) ≡ packages_map
unfolding parse_alone parse_against short text_of url_on_literals is_best reduced
packages_text = refl

-- no specifier has too many choices
spelling_few : HasTooManyChoices spelling_all.needs → ⊥
unfolding parse_alone text_of url_on_literals
spelling_few = few_choices spelling_all.needs refl

site_few : HasTooManyChoices site_all.needs → ⊥
unfolding parse_alone text_of url_on_literals
site_few = few_choices site_all.needs refl

packages_few : HasTooManyChoices packages_all.needs → ⊥
unfolding parse_alone text_of url_on_literals
packages_few = few_choices packages_all.needs refl

-- each map is short, whatever its digests are
spelling_short : length spelling_map ≤ limit_number Map
spelling_short =
    behind spelling_imports
    (short_line "    \"https://app.test/ab.mjs\": " [] ",\n" (short_line "    \"https://app.test/app.mjs\": " spelled_text "\n" short_end (lit≤ tt) (lit≤ tt)) (lit≤ tt) (lit≤ tt))
    (lit≤ tt) (lit≤ tt)

site_short : length site_map ≤ limit_number Map
site_short =
    behind site_imports
    (short_line "    \"https://app.test/app.mjs\": " site_app_text ",\n" (short_line "    \"https://app.test/lib/greet.mjs\": " greet_text ",\n" (short_line "    \"https://app.test/lib/words.mjs\": " [] ",\n" (short_line "    \"https://app.test/pages/%5Bid%5D.mjs\": " id_text ",\n" (short_line "    \"https://app.test/pages/home.mjs\": " home_text "\n" short_end (lit≤ tt) (lit≤ tt)) (lit≤ tt) (lit≤ tt)) (lit≤ tt) (lit≤ tt)) (lit≤ tt) (lit≤ tt)) (lit≤ tt) (lit≤ tt))
    (lit≤ tt) (lit≤ tt)

packages_short : length packages_map ≤ limit_number Map
packages_short =
    behind packages_imports
    (short_line "    \"https://app.test/app.js\": " package_app_text ",\n" (short_line "    \"https://app.test/node_modules/ui/b.js\": " b_text ",\n" (short_line "    \"https://app.test/node_modules/ui/node_modules/@ui/core/lib/index.mjs\": " (codes "export const h = 1;") ",\n" (short_line "    \"https://app.test/node_modules/ui/x/menu.js\": " menu_text ",\n" (short_line "    \"https://app.test/own.js\": " (codes "export const own = 0;") "\n" short_end (lit≤ tt) (lit≤ tt)) (lit≤ tt) (lit≤ tt)) (lit≤ tt) (lit≤ tt)) (lit≤ tt) (lit≤ tt)) (lit≤ tt) (lit≤ tt))
    (lit≤ tt) (lit≤ tt)

abbrev some_text : List ℕ → Option (List ℕ)
some_text text = Some text

mapped : (files : Files) (asked : List String) (text : List ℕ) → Generates (tree_of files) (based "https://app.test/" asked) text → IsMapped files (based "https://app.test/" asked) text
mapped files asked text is = record {
  generates = is;
  serves = sound (tree_of files) (based "https://app.test/" asked) text is;
  knows = modules_are_known (tree_of files) (based "https://app.test/" asked) text is;
  smallest = generated_is_smallest (tree_of files) (based "https://app.test/" asked) text is;
}

abbrev spelling_generates : Generates (tree_of spelling) (based "https://app.test/" ("./app.mjs" ∷ [])) spelling_map
spelling_generates = generated spelling _ spelling_all spelling_pairs spelling_map spelling_traced refl spelling_few (page_named ("./app.mjs" ∷ [])) spelling_digests spelling_text spelling_short

abbrev site_generates : Generates (tree_of site) (based "https://app.test/" ("./app.mjs" ∷ [])) site_map
site_generates = generated site _ site_all site_pairs site_map site_traced refl site_few (page_named ("./app.mjs" ∷ [])) site_digests site_text site_short

abbrev paged_generates : Generates (tree_of paged) (based "https://app.test/" ("./app.mjs" ∷ [])) spelling_map
paged_generates = generated paged _ spelling_all spelling_pairs spelling_map paged_traced refl spelling_few (page_named ("./app.mjs" ∷ [])) spelling_digests spelling_text spelling_short

abbrev kept_generates : Generates (tree_of kept) (based "https://app.test/" ("./app.mjs" ∷ [])) spelling_map
kept_generates = generated kept _ spelling_all spelling_pairs spelling_map kept_traced refl spelling_few (page_named ("./app.mjs" ∷ [])) spelling_digests spelling_text spelling_short

abbrev packages_generate : Generates (tree_of packages) (based "https://app.test/" ("./app.js" ∷ [])) packages_map
packages_generate = generated packages _ packages_all packages_pairs packages_map packages_traced refl packages_few (page_named ("./app.js" ∷ [])) packages_digests packages_text packages_short

map_examples : MapExamples
map_examples = record {
  two_spellings = mapped spelling ("./app.mjs" ∷ []) spelling_map spelling_generates;
  of_site = mapped site ("./app.mjs" ∷ []) site_map site_generates;
  of_packages = mapped packages ("./app.js" ∷ []) packages_map packages_generate;
}

-- ---- ends

spelling_mappings : mapping_count (map_of_lists (listed_layout spelling_all.needs)) ≡ 1
unfolding parse_alone parse_against short text_of url_on_literals is_best reduced
spelling_mappings = counts (listed_layout spelling_all.needs) ∙ refl

-- of two needs for one specifier with one target
site_mappings : mapping_count (map_of_lists (listed_layout site_all.needs)) ≡ 1
unfolding parse_alone parse_against short text_of url_on_literals is_best reduced
site_mappings = counts (listed_layout site_all.needs) ∙ refl

-- the map stands in the root
placed : (files : Files) (text : List ℕ) → IsTree (tree_of files) → insert (tree_of files) (codes "/importmap.json") (Stored text) ≡ tree_of (with_map files text) → Places (tree_of files) (codes "/importmap.json") (Stored text) (tree_of (with_map files text))
placed files text is same = (in_root (tree_of files) (codes "/importmap.json") (Stored text) (tree_of (with_map files text)) is map_in_root).1 (sym same)

-- what a list of files has at a path
looked_at : (files : Files) (path : List ℕ) → get (tree_of files) path ≡ looked files path
looked_at files path = ap (λ (f : Sights). f path) (get_map_of files)

-- the map stands in the root, and then the project
placed_two : (files : Files) (text project : List ℕ) → IsTree (tree_of files) → looked files map_path ≡ None → insert (tree_of files) map_path (Stored text) ≡ tree_of (with_map files text)
    → insert (tree_of (with_map files text)) project_path (Stored project) ≡ tree_of (linked_files files text project)
    → FilesPlaced (tree_of files) (new_file map_path text ∷ new_file project_path project ∷ []) (tree_of (linked_files files text project))
placed_two files text project is free first second =
    let middle = tree_of (with_map files text) in
    let places = placed files text is first in
    let none : get (tree_of files) map_path ≡ None = looked_at files map_path ∙ free in (
      middle,
      places,
      (
        tree_of (linked_files files text project),
        (in_root middle project_path (Stored project) (tree_of (linked_files files text project))
            (placed_tree (tree_of files) map_path (Stored text) middle is map_is_path (λ e. absurd (cc)) places) project_in_root).1 (sym second),
        refl,
      ),
    )

-- the project's text is the one that was typed
linked_outcome : (files : Files) (base : String) (asked : List String) (map project : List ℕ) (line : List ℕ) → project_text (based base asked) ≡ project → IsConfigOf (links base asked) (tree_of files) Link (based base asked) → (generates : Generates (tree_of files) (based base asked) map)
    → line ∷ [] ≡ done_line generates.all generates.layout ∷ []
    → FilesPlaced (tree_of files) (new_file map_path map ∷ new_file project_path (project_text (based base asked)) ∷ []) (tree_of (linked_files files map (project_text (based base asked))))
    → Outcome (links base asked) (tree_of files) 0 (line ∷ []) (tree_of (linked_files files map project))
linked_outcome files base asked map project line printed gives generates says placed =
    subst (λ text. Outcome (links base asked) (tree_of files) 0 (line ∷ []) (tree_of (linked_files files map text))) printed
    (record { files = map_and_project (based base asked) map; comes = written Link _ map gives generates linked refl says; placed = placed })

page_parent : IsParent (codes "/") page_path
page_parent = record { name = codes "index.html"; segment = segment_by_test (codes "index.html") refl; is_path = path_by_test (codes "/") refl; text = refl }

-- the page takes the map
abbrev page_after : List ℕ
page_after = codes "<head><script type=\"importmap\">" ++ (spelling_map ++ (codes "</script>" ++ (10 ∷ (codes "</head>" ++ 10 ∷ []))))

abbrev short_page_text : List ℕ
short_page_text = codes "<head></head>" ++ 10 ∷ []

abbrev page_parts : List Part
page_parts = part Start (codes "<head>") ∷ part End (codes "</head>") ∷ part Text (10 ∷ []) ∷ []

page_pieces : Pieces None short_page_text page_parts
unfolding first_piece
page_pieces = piece refl refl (piece refl refl (piece refl refl (none refl)))

abbrev element_end : List ℕ
element_end = codes "</script>" ++ 10 ∷ []

abbrev page_end : List ℕ
page_end = codes "</head>" ++ 10 ∷ []

abbrev page_start : List ℕ
page_start = codes "<head><script type=\"importmap\">"

page_is_after : page_start ++ ((spelling_map ++ element_end) ++ page_end) ≡ page_after
page_is_after = ap (λ rest. page_start ++ rest) (append_assoc spelling_map element_end page_end)

page_injected : Injection spelling_map short_page_text (Ok (page_start ++ ((spelling_map ++ element_end) ++ page_end)))
unfolding attribute is_map_start is_utf8 chars lib.Utf8.encode
page_injected = utf8 refl page_pieces

page_takes : Injection spelling_map short_page_text (Ok page_after)
page_takes = subst (λ new. Injection spelling_map short_page_text (Ok new)) page_is_after page_injected

page_stands : IsPage (tree_of paged) (based "https://app.test/" ("./app.mjs" ∷ [])) short_page_text
page_stands = record { stands = get_here (tree_of kept) page_path (Stored short_page_text); small = lit≤ tt }

page_placed : Places (tree_of paged) page_path (Stored page_after) (tree_of paged_after)
page_placed = (in_root (tree_of paged) page_path (Stored page_after) (tree_of paged_after) trees.of_paged page_parent).1 (sym (insert_again (tree_of kept) page_path (Stored short_page_text) (Stored page_after)))

no_page : get (tree_of kept_missing) page_path ≡ None
no_page = looked_at kept_missing page_path ∙ refl

end_examples : EndExamples
unfolding digits
end_examples = record {
  two_spellings = linked_outcome spelling "https://app.test/" ("./app.mjs" ∷ []) spelling_map app_project _ app_printed app_gives spelling_generates (sym (ap (λ n. counts_line 2 2 n ∷ []) spelling_mappings)) (placed_two spelling spelling_map _ trees.of_spelling refl refl refl);
  of_site = linked_outcome site "https://app.test/" ("./app.mjs" ∷ []) site_map app_project _ app_printed site_gives site_generates (sym (ap (λ n. counts_line 5 8 n ∷ []) site_mappings)) (placed_two site site_map _ trees.of_site refl refl refl);
  refreshed = record { files = new_file map_path spelling_map ∷ []; comes = written Refresh _ spelling_map kept_gives kept_generates refreshed refl (sym (ap (λ n. counts_line 2 2 n ∷ []) spelling_mappings)); placed = (_, placed kept spelling_map trees.of_kept refl, refl) };
  in_page = record { files = new_file page_path page_after ∷ []; comes = written Inject _ spelling_map paged_gives paged_generates (in_page short_page_text page_after page_stands page_takes) refl (sym (ap (λ n. counts_line 2 2 n ∷ []) spelling_mappings)); placed = (_, page_placed, refl) };
  no_page = record { files = []; comes = refused (Page Absent) (by_tree Inject _ (Page Absent) no_page_gives (page Absent (absent no_page))) refl refl refl; placed = refl };
  no_project = record { files = []; comes = refused (Configured (Project project_fault.Absent)) (by_project (Project project_fault.Absent) (refresh_lacks spelling refl)) refl refl refl; placed = refl };
  second_entry = record { files = []; comes = refused (Trace _) (by_tree Link _ (Trace _) missing_gives (trace Link _ (nothing Link link) missing_traced)) refl refl refl; placed = refl };
  two_targets = record { files = []; comes = refused (Trace _) (by_tree Link _ (Trace _) clashing_gives (trace Link _ (nothing Link link) clashing_traced)) refl refl refl; placed = refl };
  no_base = λ tree. record { files = []; comes = refused (Configured (BadBase (codes "ftp://h/"))) (by_words (BadBase (codes "ftp://h/")) (bad_option (is_linking "ftp://h/" ("./app.mjs" ∷ [])) Link (BadBase (codes "ftp://h/")) (links_ask "ftp://h/" ("./app.mjs" ∷ []) refl) refl (bad_base (codes "ftp://h/") refl ftp_is_none))) refl refl refl; placed = refl };
}

pub worked_examples : WorkedExamples
worked_examples = (
  trees,
  trace_examples,
  map_examples,
  end_examples,
  traced_examples,
)
