-- The config that words and a tree give can be written as a project, with the values of the options.
use Rattle.std.proofs.Common.{All, Contains, ◌≡◌, ◌≤◌, ℕ, Bool, true, false, List, [], ◌∷◌, refl, sym, ap, subst}
use Rattle.std.proofs.Common.{length, lit≤, arith}
use Rattle.std.specs.List.{AllByRecursion, IsDistinct, list_any}
use Rattle.std.specs.Prelude.{codes, bytes_eq, nat_lt, not, Option, Some, None, unwrap_or, Result, Ok, Err}
use Rattle.std.specs.Prelude.{if◌then◌else◌}
use Rattle.std.proofs.lemmas.Bool.{ltb-false}
use Rattle.std.proofs.lemmas.List.Elements.{All-nil, All-cons}
use Rattle.std.proofs.lemmas.Map.Keys.{IsDistinct-cons}
use Rattle.std.proofs.lemmas.Map.Views.{Contains-from_any}
use Rattle.std.proofs.lemmas.Slice.Eq.{bytes_eq-Decides}
use Rattle.tree_spec.proofs.ByteLists.{texts_differ}
use Rattle.tree_spec.proofs.FootprintSets.{distinct_none}
use Rattle.tree_spec.specs.Limits.{limit_number}
use Rattle.tree_spec.specs.Trees.{Tree}
use Rattle.tree_spec.specs.declared.LimitName.TheVariants.{Entries}
use Rattle.url_spec.proofs.Bases.{bases_stay}
use Rattle.url_spec.proofs.PathDecisions.{path_by_test}
use Rattle.url_spec.specs.Bases.{IsBase}
use Rattle.node_spec.specs.Conditions.{AreConditions}
use Rattle.trace_spec.specs.Modules.{Config}
use Rattle.words_spec.specs.PlainWords.{Asked, Asks, LinkOptions, no_options, linking, unlinking, refreshing, checking}
use Rattle.words_spec.specs.PlainWords.{checking_strictly, listing, injecting, editing, explaining, vendoring, measuring}
use Rattle.project_spec.proofs.ReadBack.{read_projects}
use Rattle.project_spec.specs.ProjectFiles as project
use Rattle.project_spec.specs.ProjectFiles.{IsPagePath, IsProject, ReadsProject}
use Rattle.config_spec.proofs.Entries.{filtered_distinct, filtered_fewer, onto_distinct, onto_holds}
use Rattle.config_spec.proofs.Entries.{all_within, apart_without, without_lacks, without_within}
use Rattle.config_spec.proofs.Options.{one_settings}
use Rattle.config_spec.proofs.TwoConditions.{two_conditions}
use Rattle.config_spec.specs.Laws.{ConfigsAreProjects}
use Rattle.config_spec.specs.Projects.{config_by, config_in, HasEntriesOf, HoldsProject, if_there, IsConfigFor}
use Rattle.config_spec.specs.Projects.{link_conditions, linked, new_project, once_onto, page_path, read_outcome}
use Rattle.config_spec.specs.Projects.{set_over, unlinked, with_few, without}
use Rattle.config_spec.specs.Projects.HoldsProject.{absent, folder, reads, too_large}
use Rattle.config_spec.specs.Words.{command_of, options_of, Sets, SetsBase, SetsConditions, SetsPage}
use Rattle.config_spec.specs.Words.{Settings}
use Rattle.config_spec.specs.Words.SetsBase.{none as no_base, given as some_base}
use Rattle.config_spec.specs.Words.SetsConditions.{none as no_names, given as some_names}
use Rattle.config_spec.specs.Words.SetsPage.{none as no_page, given as some_page}
use Rattle.config_spec.specs.declared.Command.{Command}
use Rattle.config_spec.specs.declared.ConfigFault.{ConfigFault}
use Rattle.config_spec.specs.declared.ConfigFault.TheVariants.{NotLinked, TooManyEntries}
use Rattle.config_spec.specs.declared.ProjectFault.{ProjectFault}
use Rattle.config_spec.proofs.ProjectsRead.{Found}

-- a config that can stand in a project's file, with no more entries than a project may have
pub record Fits (config : Config) : Type 0 where
  pub is_project : IsProject config
  pub few : length config.entries ≤ limit_number Entries

abbrev pub Outcome : Type 0
Outcome = Result Config ConfigFault

abbrev pub as_outcome : Config → Outcome
as_outcome config = Ok config

same_result : {some other : Config} → as_outcome some ≡ as_outcome other → some ≡ other
same_result e = cc

-- ---- options over a config

base_fits : {text set : Option (List ℕ)} (old : List ℕ) → SetsBase text set → IsBase old → IsBase (unwrap_or set old)
base_fits old no_base is = is
base_fits old (some_base text url gives) is = bases_stay text url gives

set_base_fits : {text set : Option (List ℕ)} (url : List ℕ) → SetsBase text set → set ≡ Some url → IsBase url
set_base_fits url no_base e = absurd (cc)
set_base_fits url (some_base text other gives) e =
    let same : other ≡ url = cc in subst IsBase same (bases_stay text other gives)

page_fits :
    {text set : Option (List ℕ)} (old : List ℕ) → SetsPage text set → IsPagePath old
    → IsPagePath (unwrap_or set old)
page_fits old no_page is = is
page_fits old (some_page text is_too) is = is_too

names_fit :
    {text : Option (List ℕ)} {set : Option (List (List ℕ))} (old : List (List ℕ)) → SetsConditions text set
    → AreConditions old → AreConditions (unwrap_or set old)
names_fit old no_names are = are
names_fit old (some_names text are_too) are = are_too

set_is_project :
    (options : LinkOptions) (settings : Settings) (base page : List ℕ) (conditions entries : List (List ℕ))
    → Sets options settings → IsBase base → IsPagePath page → AreConditions conditions → IsDistinct bytes_eq entries
    → IsProject (set_over settings base page conditions entries)
set_is_project options settings base page conditions entries sets is_base is_page are distinct =
    record {
      base = base_fits base sets.base is_base;
      page = page_fits page sets.page is_page;
      conditions = names_fit conditions sets.conditions are;
      distinct = distinct;
    }

set_twice : {X : Type 0} (set : Option X) (old : X) → unwrap_or set old ≡ unwrap_or set (unwrap_or set old)
set_twice None old = refl
set_twice (Some x) old = refl

-- the values of the options stand in the config
abbrev Keeps : Settings → Config → Type 0
Keeps settings config = config ≡ set_over settings config.base config.page config.conditions config.entries

set_keeps :
    (settings : Settings) (base page : List ℕ) (conditions entries : List (List ℕ))
    → Keeps settings (set_over settings base page conditions entries)
set_keeps settings base page conditions entries = λ i. record {
  base = set_twice settings.base base i;
  page = set_twice settings.page page i;
  conditions = set_twice settings.conditions conditions i;
  entries = entries;
}

nothing_keeps : (settings : Settings) (config : Config) → Sets no_options settings → Keeps settings config
nothing_keeps settings config sets =
    let nothing : Settings = record { base = None; page = None; conditions = None } in
    let none : Sets no_options nothing = record { base = no_base; page = no_page; conditions = no_names } in
    let same = one_settings no_options nothing settings none sets in
    ap (λ s. set_over s config.base config.page config.conditions config.entries) same

-- ---- a new project

pub page_of_project : IsPagePath page_path
page_of_project = record { is_path = path_by_test page_path refl; no_root = texts_differ page_path (codes "/") refl }

pub are_conditions : AreConditions link_conditions
are_conditions =
    two_conditions (codes "browser") (codes "import")
    (record { nonempty = lit≤ tt; short = lit≤ tt; plain = refl; other = refl })
    (record { nonempty = lit≤ tt; short = lit≤ tt; plain = refl; other = refl }) refl

-- ---- the config

-- it fits, with the values of the options and the entries
record Comes (asked : Asked) (settings : Settings) (config : Config) : Type 0 where
  kept : Keeps settings config
  fits : Fits config
  entries : HasEntriesOf asked config.entries

few_kept :
    (config result : Config) → Ok result ≡ with_few config
    → (config ≡ result) × (length config.entries ≤ limit_number Entries)
few_kept config result is = by (nat_lt (limit_number Entries) (length config.entries)) refl is
  where
    by : (many : Bool) → nat_lt (limit_number Entries) (length config.entries) ≡ many
        → Ok result ≡ (if many then Err TooManyEntries else Ok config)
        → (config ≡ result) × (length config.entries ≤ limit_number Entries)
    by true e is = absurd (cc)
    by false e is = (sym (same_result is), ltb-false (limit_number Entries) (length config.entries) e)

few_comes :
    (asked : Asked) (settings : Settings) (config result : Config) → Ok result ≡ with_few config
    → Keeps settings config → IsProject config → HasEntriesOf asked config.entries → Comes asked settings result
few_comes asked settings config result is kept is_project entries =
    let few = few_kept config result is in
    subst (Comes asked settings) few.0
    (record { kept = kept; fits = record { is_project = is_project; few = few.1 }; entries = entries })

new_comes :
    (options : LinkOptions) (settings : Settings) (given : Option (List ℕ)) (entries : List (List ℕ)) (result : Config)
    → Sets options settings → settings.base ≡ given → Ok result ≡ new_project settings given entries
    → Comes (linking options entries) settings result
new_comes options settings None entries result sets e is = absurd (cc)
new_comes options settings (Some base) entries result sets e is =
    few_comes (linking options entries) settings _ result is
    (set_keeps settings base page_path link_conditions (once_onto [] entries))
    (set_is_project options settings base page_path link_conditions (once_onto [] entries) sets
    (set_base_fits base sets.base e) page_of_project are_conditions (onto_distinct [] entries distinct_none))
    (onto_holds [] entries)

linked_comes :
    (options : LinkOptions) (settings : Settings) (entries : List (List ℕ)) (found : Option Config) (result : Config)
    → Sets options settings → ((old : Config) → found ≡ Some old → Fits old)
    → Ok result ≡ linked settings entries found → Comes (linking options entries) settings result
linked_comes options settings entries None result sets fits is =
    new_comes options settings settings.base entries result sets refl is
linked_comes options settings entries (Some old) result sets fits is =
    let held = (fits old refl).is_project in
    few_comes (linking options entries) settings _ result is
    (set_keeps settings old.base old.page old.conditions (once_onto old.entries entries))
    (set_is_project options settings old.base old.page old.conditions (once_onto old.entries entries) sets held.base
    held.page held.conditions (onto_distinct old.entries entries held.distinct))
    (onto_holds old.entries entries)

without_fits : (entry : List ℕ) (config : Config) → Fits config
    → Fits (record config { entries = without entry config.entries })
without_fits entry config fits =
    let is = fits.is_project in
    let few = fits.few in
    let fewer = filtered_fewer (λ other. not (bytes_eq entry other)) config.entries in
    record {
      is_project =
          record {
            base = is.base;
            page = is.page;
            conditions = is.conditions;
            distinct = filtered_distinct (λ other. not (bytes_eq entry other)) config.entries is.distinct;
          };
      few = omega (arith, few, fewer);
    }

unlinked_fits :
    (entries : List (List ℕ)) (config result : Config) → Fits config → Ok result ≡ unlinked entries config → Fits result
unlinked_fits [] config result fits is = subst Fits (sym (same_result is)) fits
unlinked_fits (entry ∷ more) config result fits is =
    by (list_any (bytes_eq entry) config.entries)
    (unlinked_fits more (record config { entries = without entry config.entries }) result (without_fits entry config fits))
    is
  where
    by : (there : Bool)
        → (Ok result ≡ unlinked more (record config { entries = without entry config.entries }) → Fits result)
        → Ok result ≡ (if there then unlinked more (record config { entries = without entry config.entries }) else Err (NotLinked entry))
        → Fits result
    by true rest is = rest is
    by false rest is = absurd (cc)

unlinked_within :
    (entries : List (List ℕ)) (config result : Config) (text : List ℕ) → Ok result ≡ unlinked entries config
    → Contains result.entries text → Contains config.entries text
unlinked_within [] config result text is held = subst (λ c. Contains c.entries text) (same_result is) held
unlinked_within (entry ∷ more) config result text is held =
    by (list_any (bytes_eq entry) config.entries)
    (λ rest. unlinked_within more (record config { entries = without entry config.entries }) result text rest held) is
  where
    by : (there : Bool)
        → (Ok result ≡ unlinked more (record config { entries = without entry config.entries })
        → Contains (without entry config.entries) text)
        → Ok result ≡ (if there then unlinked more (record config { entries = without entry config.entries }) else Err (NotLinked entry))
        → Contains config.entries text
    by true rest is = without_within entry config.entries text (rest is)
    by false rest is = absurd (cc)

abbrev Lacks : Config → List ℕ → Type 0
Lacks config entry = Contains config.entries entry → ⊥

unlinked_gone :
    (entries : List (List ℕ)) (config result : Config) → Ok result ≡ unlinked entries config
    → All (Lacks result) entries
unlinked_gone [] config result is = All-nil (Lacks result)
unlinked_gone (entry ∷ more) config result is =
    by (list_any (bytes_eq entry) config.entries)
    (unlinked_gone more (record config { entries = without entry config.entries }) result) is
  where
    by : (there : Bool)
        → (Ok result ≡ unlinked more (record config { entries = without entry config.entries }) → All (Lacks result) more)
        → Ok result ≡ (if there then unlinked more (record config { entries = without entry config.entries }) else Err (NotLinked entry))
        → All (Lacks result) (entry ∷ more)
    by true rest is =
        All-cons (Lacks result) entry more
        (λ held. without_lacks entry config.entries
        (unlinked_within more (record config { entries = without entry config.entries }) result entry is held)) (rest is)
    by false rest is = absurd (cc)

-- each was there, so none is named twice
record AreThere (config : Config) (named : List (List ℕ)) : Type 0 where
  there : AllByRecursion (Contains config.entries) named
  distinct : IsDistinct bytes_eq named

unlinked_there :
    (entries : List (List ℕ)) (config result : Config) → Ok result ≡ unlinked entries config → AreThere config entries
unlinked_there [] config result is = record { there = tt; distinct = distinct_none }
unlinked_there (entry ∷ more) config result is =
    by (list_any (bytes_eq entry) config.entries) refl
    (unlinked_there more (record config { entries = without entry config.entries }) result) is
  where
    by : (there : Bool) → list_any (bytes_eq entry) config.entries ≡ there
        → (Ok result ≡ unlinked more (record config { entries = without entry config.entries })
        → AreThere (record config { entries = without entry config.entries }) more)
        → Ok result ≡ (if there then unlinked more (record config { entries = without entry config.entries }) else Err (NotLinked entry))
        → AreThere config (entry ∷ more)
    by true e rest is =
        let later = rest is in
        record {
          there = (Contains-from_any (λ one other. (bytes_eq-Decides one other).0) entry config.entries e, all_within entry config.entries more later.there);
          distinct = IsDistinct-cons bytes_eq entry more (apart_without entry config.entries more later.there) later.distinct;
        }
    by false e rest is = absurd (cc)

-- a project that is there, and what comes of it
record Fitting (asked : Asked) (result : Config) : Type 0 where
  fits : Fits result
  entries : HasEntriesOf asked result.entries

-- what is taken from a project that is there
taken_comes :
    (asked : Asked) (settings : Settings) (next : Config → Result Config ConfigFault) (found : Option Config)
    (result : Config) → Sets no_options settings → ((old : Config) → found ≡ Some old → Fits old)
    → ((old : Config) → Fits old → Ok result ≡ next old → Fitting asked result) → Ok result ≡ if_there found next
    → Comes asked settings result
taken_comes asked settings next None result sets fits step is = absurd (cc)
taken_comes asked settings next (Some old) result sets fits step is =
    let given = step old (fits old refl) is in
    record { kept = nothing_keeps settings result sets; fits = given.fits; entries = given.entries }

same_fits :
    (asked : Asked) (result : Config) → HasEntriesOf asked result.entries → (old : Config) → Fits old
    → as_outcome result ≡ as_outcome old → Fitting asked result
same_fits asked result entries old fits is =
    record { fits = subst Fits (sym (same_result is)) fits; entries = entries }

comes_in :
    (asked : Asked) (settings : Settings) (found : Option Config) (result : Config) → Sets (options_of asked) settings
    → ((old : Config) → found ≡ Some old → Fits old) → Ok result ≡ config_in asked settings found
    → Comes asked settings result
comes_in (linking options entries) settings found result sets fits is =
    linked_comes options settings entries found result sets fits is
comes_in (unlinking entries) settings found result sets fits is =
    taken_comes (unlinking entries) settings (unlinked entries) found result sets fits
    (λ old held comes. record {
      fits = unlinked_fits entries old result held comes;
      entries = record { distinct = (unlinked_there entries old result comes).distinct; gone = unlinked_gone entries old result comes };
    }) is
comes_in refreshing settings found result sets fits is =
    taken_comes refreshing settings Ok found result sets fits (same_fits refreshing result tt) is
comes_in checking settings found result sets fits is =
    taken_comes checking settings Ok found result sets fits (same_fits checking result tt) is
comes_in checking_strictly settings found result sets fits is =
    taken_comes checking_strictly settings Ok found result sets fits (same_fits checking_strictly result tt) is
comes_in listing settings found result sets fits is =
    taken_comes listing settings Ok found result sets fits (same_fits listing result tt) is
comes_in injecting settings found result sets fits is =
    taken_comes injecting settings Ok found result sets fits (same_fits injecting result tt) is
comes_in editing settings found result sets fits is =
    taken_comes editing settings Ok found result sets fits (same_fits editing result tt) is
comes_in (explaining path) settings found result sets fits is =
    taken_comes (explaining path) settings Ok found result sets fits (same_fits (explaining path) result tt) is
comes_in (vendoring path) settings found result sets fits is =
    taken_comes (vendoring path) settings Ok found result sets fits (same_fits (vendoring path) result tt) is
comes_in (measuring number) settings found result sets fits is =
    taken_comes (measuring number) settings Ok found result sets fits (same_fits (measuring number) result tt) is

-- ---- the project that is held

read_fits :
    (bytes : List ℕ) (outcome : Result Config project.Fault) (old : Config) → ReadsProject bytes outcome
    → read_outcome outcome ≡ Ok (Some old) → Fits old
read_fits bytes (Ok config) old read is =
    let same : config ≡ old = cc in
    let fits = read_projects bytes config read in
    subst Fits same (record { is_project = fits.0; few = fits.1 })
read_fits bytes (Err fault) old read is = absurd (cc)

pub held_fits :
    {tree : Tree} (found : Found) (old : Config) → HoldsProject tree found → found ≡ Ok (Some old) → Fits old
held_fits _ old (absent is) e = absurd (cc)
held_fits _ old (folder is) e = absurd (cc)
held_fits _ old (too_large bytes is many) e = absurd (cc)
held_fits _ old (reads bytes outcome is few read) e = read_fits bytes outcome old read e

comes_by :
    (asked : Asked) (settings : Settings) (found : Found) (result : Config) → Sets (options_of asked) settings
    → ((old : Config) → found ≡ Ok (Some old) → Fits old) → Ok result ≡ config_by asked settings found
    → Comes asked settings result
comes_by asked settings (Err fault) result sets fits is = absurd (cc)
comes_by asked settings (Ok found) result sets fits is =
    comes_in asked settings found result sets (λ old e. fits old (ap Ok e)) is

-- whatever gave what is found
pub config_for :
    (words : List (List ℕ)) (command : Command) (config : Config) (asked : Asked) (settings : Settings) (found : Found)
    → Asks words asked → command_of asked ≡ Some command → Sets (options_of asked) settings
    → ((old : Config) → found ≡ Ok (Some old) → Fits old) → Ok config ≡ config_by asked settings found
    → IsConfigFor words command config
config_for words command config asked settings found asks is sets fits comes =
    let given = comes_by asked settings found config sets fits comes in
    record {
      asked = asked;
      asks = asks;
      is = is;
      settings = settings;
      sets = sets;
      kept = given.kept;
      is_project = given.fits.is_project;
      entries = given.entries;
      few = given.fits.few;
    }

pub configs_are_projects : ConfigsAreProjects
configs_are_projects words tree command config is =
    config_for words command config is.asked is.settings is.found is.asks is.is is.sets
    (λ old. held_fits is.found old is.holds) is.comes
