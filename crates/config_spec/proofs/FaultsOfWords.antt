-- Whatever the tree holds, words are refused for these reasons alone.
use Rattle.std.proofs.Common.{◌≡◌, ℕ, Bool, true, false, List, [], ◌∷◌, ◌++◌, refl, ap, subst}
use Rattle.std.specs.List.{AllByRecursion, IsDistinct, list_any}
use Rattle.std.specs.Prelude.{bytes_eq, nat_lt, length, Contains, Option, Some, None, Result, Ok, Err, if◌then◌else◌}
use Rattle.std.proofs.lemmas.Map.Keys.{IsDistinct-cons}
use Rattle.std.proofs.lemmas.Map.Views.{Contains-from_any}
use Rattle.std.proofs.lemmas.Slice.Eq.{bytes_eq-Decides}
use Rattle.config_spec.proofs.Entries.{all_within, apart_without}
use Rattle.json_spec.specs.Grammar as json
use Rattle.json_spec.specs.Value.{Json}
use Rattle.tree_spec.specs.Limits.{limit_number}
use Rattle.tree_spec.specs.Trees.{Tree}
use Rattle.tree_spec.specs.declared.LimitName.{LimitName}
use Rattle.tree_spec.specs.declared.LimitName.TheVariants.{Entries}
use Rattle.tree_spec.proofs.FootprintSets.{distinct_none}
use Rattle.trace_spec.specs.Modules.{Config}
use Rattle.words_spec.specs.PlainWords.{Asked, Asks, LinkOptions, linking, unlinking, refreshing, checking}
use Rattle.words_spec.specs.PlainWords.{checking_strictly, listing, injecting, editing, explaining, vendoring, measuring}
use Rattle.project_spec.specs.ProjectFiles as project
use Rattle.project_spec.specs.ProjectFiles.{BadFile, Gives, PassesLimit, ReadsProject, reads_project, many_entries}
use Rattle.project_spec.specs.ProjectFiles.{no_project, no_json, deep_json}
use Rattle.config_spec.specs.Laws.{FaultsAreOfWords}
use Rattle.config_spec.specs.Projects.{CanRefuseConfig, config_by, config_in, HoldsProject, if_there, IsReadFault}
use Rattle.config_spec.specs.Projects.{IsReadLimit, linked, new_project, read_outcome, RefusesAsked, unlinked}
use Rattle.config_spec.specs.Projects.{with_few, without}
use Rattle.config_spec.specs.Projects.HoldsProject.{absent, folder, reads, too_large}
use Rattle.config_spec.specs.Projects.IsReadFault.{too_large as large_fault, not_project, above}
use Rattle.config_spec.specs.Projects.IsReadLimit.{of_depth, of_entries}
use Rattle.config_spec.specs.Projects.RefusesAsked.{bad_project, no_project as needs_project, no_base as needs_base}
use Rattle.config_spec.specs.Projects.RefusesAsked.{too_many_entries, not_linked}
use Rattle.config_spec.specs.Words.{command_of, options_of, Sets, SetsBase, Settings}
use Rattle.config_spec.specs.Words.SetsBase.{none as no_base, given as some_base}
use Rattle.config_spec.specs.declared.Command.{Command}
use Rattle.config_spec.specs.declared.ConfigFault.{ConfigFault}
use Rattle.config_spec.specs.declared.ConfigFault.TheVariants.{NotLinked, TooManyEntries}
use Rattle.config_spec.specs.declared.ProjectFault.{ProjectFault}
use Rattle.config_spec.proofs.ProjectsRead.{Found}

-- ---- the file

limit_by :
    {value : Result Json json.Fault} (which : LimitName) → Gives value (Err (PassesLimit which)) → IsReadLimit which
limit_by _ (many_entries describes many) = of_entries
limit_by _ deep_json = of_depth

read_limit : (bytes : List ℕ) (which : LimitName) → ReadsProject bytes (Err (PassesLimit which)) → IsReadLimit which
read_limit bytes which (reads_project value read gives) = limit_by which gives

pub read_fault_is :
    (bytes : List ℕ) (outcome : Result Config project.Fault) (fault : ProjectFault) → ReadsProject bytes outcome
    → read_outcome outcome ≡ Err fault → IsReadFault fault
read_fault_is bytes (Ok config) fault read is = absurd (cc)
read_fault_is bytes (Err (BadFile at)) fault read is = subst IsReadFault (cc) (not_project at)
read_fault_is bytes (Err (PassesLimit which)) fault read is = subst IsReadFault (cc) (above which (read_limit bytes which read))

pub held_fault :
    {tree : Tree} (found : Found) (fault : ProjectFault) → HoldsProject tree found → found ≡ Err fault
    → IsReadFault fault
held_fault _ fault (absent is) e = absurd (cc)
held_fault _ fault (folder is) e = absurd (cc)
held_fault _ fault (too_large bytes is many) e = subst IsReadFault (cc) large_fault
held_fault _ fault (reads bytes outcome is few read) e = read_fault_is bytes outcome fault read e

-- ---- the commands

few_refuses : (config : Config) (fault : ConfigFault) → Err fault ≡ with_few config → TooManyEntries ≡ fault
few_refuses config fault is = by (nat_lt (limit_number Entries) (length config.entries)) is
  where
    by : (many : Bool) → Err fault ≡ (if many then Err TooManyEntries else Ok config) → TooManyEntries ≡ fault
    by true is = cc
    by false is = absurd (cc)

no_base_given : {text set : Option (List ℕ)} → SetsBase text set → set ≡ None → text ≡ None
no_base_given no_base e = refl
no_base_given (some_base text url gives) e = absurd (cc)

new_refuses :
    (options : LinkOptions) (settings : Settings) (given : Option (List ℕ)) (entries : List (List ℕ)) (fault : ConfigFault)
    → Sets options settings → settings.base ≡ given → Err fault ≡ new_project settings given entries
    → RefusesAsked (linking options entries) fault
new_refuses options settings None entries fault sets e is =
    subst (RefusesAsked (linking options entries)) (cc) (needs_base options entries (no_base_given sets.base e))
new_refuses options settings (Some base) entries fault sets e is =
    subst (RefusesAsked (linking options entries)) (few_refuses _ fault is) (too_many_entries options entries)

linked_refuses :
    (options : LinkOptions) (settings : Settings) (entries : List (List ℕ)) (found : Option Config) (fault : ConfigFault)
    → Sets options settings → Err fault ≡ linked settings entries found → RefusesAsked (linking options entries) fault
linked_refuses options settings entries None fault sets is =
    new_refuses options settings settings.base entries fault sets refl is
linked_refuses options settings entries (Some old) fault sets is =
    subst (RefusesAsked (linking options entries)) (few_refuses _ fault is) (too_many_entries options entries)

-- an entry isn't there at its turn; those before it were
record LacksOne (entries : List (List ℕ)) (config : Config) (fault : ConfigFault) : Type 0 where
  front : List (List ℕ)
  entry : List ℕ
  more : List (List ℕ)
  parts : entries ≡ front ++ entry ∷ more
  there : AllByRecursion (Contains config.entries) front
  distinct : IsDistinct bytes_eq front
  is : NotLinked entry ≡ fault

unlinked_refuses :
    (entries : List (List ℕ)) (config : Config) (fault : ConfigFault) → Err fault ≡ unlinked entries config
    → LacksOne entries config fault
unlinked_refuses [] config fault is = absurd (cc)
unlinked_refuses (entry ∷ more) config fault is =
    by (list_any (bytes_eq entry) config.entries) refl
    (unlinked_refuses more (record config { entries = without entry config.entries }) fault) is
  where
    by : (there : Bool) → list_any (bytes_eq entry) config.entries ≡ there
        → (Err fault ≡ unlinked more (record config { entries = without entry config.entries })
        → LacksOne more (record config { entries = without entry config.entries }) fault)
        → Err fault ≡ (if there then unlinked more (record config { entries = without entry config.entries }) else Err (NotLinked entry))
        → LacksOne (entry ∷ more) config fault
    by true e rest is =
        let lacks = rest is in
        record {
          front = entry ∷ lacks.front;
          entry = lacks.entry;
          more = lacks.more;
          parts = ap (λ texts. entry ∷ texts) lacks.parts;
          there = (Contains-from_any (λ one other. (bytes_eq-Decides one other).0) entry config.entries e, all_within entry config.entries lacks.front lacks.there);
          distinct =
              IsDistinct-cons bytes_eq entry lacks.front (apart_without entry config.entries lacks.front lacks.there)
              lacks.distinct;
          is = lacks.is;
        }
    by false e rest is = record {
      front = [];
      entry = entry;
      more = more;
      parts = refl;
      there = tt;
      distinct = distinct_none;
      is = cc;
    }

-- what needs a project that is there
there_refuses :
    (asked : Asked) (next : Config → Result Config ConfigFault) (found : Option Config) (fault : ConfigFault)
    → ((options : LinkOptions) (entries : List (List ℕ)) → asked ≡ linking options entries → ⊥)
    → ((old : Config) → Err fault ≡ next old → RefusesAsked asked fault) → Err fault ≡ if_there found next
    → RefusesAsked asked fault
there_refuses asked next None fault other step is = subst (RefusesAsked asked) (cc) (needs_project asked other)
there_refuses asked next (Some old) fault other step is = step old is

never_refuses : (asked : Asked) (fault : ConfigFault) (old : Config) → Err fault ≡ Ok old → RefusesAsked asked fault
never_refuses asked fault old is = absurd (cc)

unlinking_refuses :
    (entries : List (List ℕ)) (fault : ConfigFault) (old : Config) → Err fault ≡ unlinked entries old
    → RefusesAsked (unlinking entries) fault
unlinking_refuses entries fault old is =
    let lacks = unlinked_refuses entries old fault is in
    subst (RefusesAsked (unlinking entries)) lacks.is
    (not_linked entries lacks.front lacks.entry lacks.more lacks.parts lacks.distinct)

refuses_in :
    (asked : Asked) (settings : Settings) (found : Option Config) (fault : ConfigFault)
    → Sets (options_of asked) settings → Err fault ≡ config_in asked settings found → RefusesAsked asked fault
refuses_in (linking options entries) settings found fault sets is =
    linked_refuses options settings entries found fault sets is
refuses_in (unlinking entries) settings found fault sets is =
    there_refuses (unlinking entries) (unlinked entries) found fault (λ options others e. absurd (cc))
    (unlinking_refuses entries fault) is
refuses_in refreshing settings found fault sets is =
    there_refuses refreshing Ok found fault (λ options others e. absurd (cc)) (never_refuses refreshing fault) is
refuses_in checking settings found fault sets is =
    there_refuses checking Ok found fault (λ options others e. absurd (cc)) (never_refuses checking fault) is
refuses_in checking_strictly settings found fault sets is =
    there_refuses checking_strictly Ok found fault (λ options others e. absurd (cc)) (never_refuses checking_strictly fault) is
refuses_in listing settings found fault sets is =
    there_refuses listing Ok found fault (λ options others e. absurd (cc)) (never_refuses listing fault) is
refuses_in injecting settings found fault sets is =
    there_refuses injecting Ok found fault (λ options others e. absurd (cc)) (never_refuses injecting fault) is
refuses_in editing settings found fault sets is =
    there_refuses editing Ok found fault (λ options others e. absurd (cc)) (never_refuses editing fault) is
refuses_in (explaining path) settings found fault sets is =
    there_refuses (explaining path) Ok found fault (λ options others e. absurd (cc)) (never_refuses (explaining path) fault) is
refuses_in (vendoring path) settings found fault sets is =
    there_refuses (vendoring path) Ok found fault (λ options others e. absurd (cc)) (never_refuses (vendoring path) fault) is
refuses_in (measuring number) settings found fault sets is =
    there_refuses (measuring number) Ok found fault (λ options others e. absurd (cc))
    (never_refuses (measuring number) fault) is

refuses_by :
    (asked : Asked) (settings : Settings) (found : Found) (why : ConfigFault) → Sets (options_of asked) settings
    → ((fault : ProjectFault) → found ≡ Err fault → IsReadFault fault) → Err why ≡ config_by asked settings found
    → RefusesAsked asked why
refuses_by asked settings (Err fault) why sets read is =
    subst (RefusesAsked asked) (cc) (bad_project asked fault (read fault refl))
refuses_by asked settings (Ok found) why sets read is = refuses_in asked settings found why sets is

-- whatever gave what is found
pub fault_for :
    (words : List (List ℕ)) (command : Command) (why : ConfigFault) (asked : Asked) (settings : Settings) (found : Found)
    → Asks words asked → command_of asked ≡ Some command → Sets (options_of asked) settings
    → ((fault : ProjectFault) → found ≡ Err fault → IsReadFault fault) → Err why ≡ config_by asked settings found
    → CanRefuseConfig words why
fault_for words command why asked settings found asks is sets read comes = record {
  command = command;
  asked = asked;
  asks = asks;
  is = is;
  settings = settings;
  sets = sets;
  refuses = refuses_by asked settings found why sets read comes;
}

pub faults_are_of_words : FaultsAreOfWords
faults_are_of_words words tree command fault is =
    fault_for words command fault is.asked is.settings is.found is.asks is.is is.sets
    (λ why. held_fault is.found why is.holds) is.comes
