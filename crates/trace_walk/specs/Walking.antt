-- What the parts of the walk keep and give.
--     IsReferrer config referrer value      the code's referrer is this one
--     IsReferrerAt module name value        the code's referrer has this module's path and this name, and is shown as
--                                           the path with the suffix
--     AreEmpty tables                       nothing is in the tables yet
--     AllNamed config entries               each module stands with its web name, which is no folder's, and the text
--                                           of that
--     AllRead sources                       the bytes of each source are a text that has an outline
--     AreBeside tables                      each need has its spelling, each target is the place of a module, and the
--                                           requests of each source stand in its bytes, which are read
--     module_requests sources               how many requests these sources have together
--     Counts more old new                   the targets grow by one to each request of the new sources, and so many
--                                           more
--     IsAdded needs spellings need spelling after spelled      a need that clashes with none is put with its spelling
--     AreOfUrls needs                       the referrer of each need is a URL
--     KeepsUrls asks old new                where the fact `asks` holds, the needs stay of URLs
--     Grows config visits old new           the tables grow by so many visits, and keep few modules, each with its
--                                           name, and few requests
--     IsWhole tables                        each module has its source, which is read, there aren't too many, nor too
--                                           many requests, among which are all those of the modules; no two needs
--                                           clash, and the referrer of each is a URL
--     IsGiven definition result             a part gives what the definition says, unless memory is wanting
--     IsUnserved config path suffix fault   the refusal of what isn't served at its web name
--     wanted_of name asked                  what a referrer of this name asks for
--     Spends, IsBounded                     how many steps a part takes
--     Advances config visits asks old new before after is_ready
--                                           what is left behind by a part of so many visits that isn't refused
--     Walks config visits most asks old new before after is_ready result
--                                           a part of the walk: what so many visits leave, unless it is refused; and
--                                           whatever it ends with, no more steps than `most` visits and the free
--                                           requests
--     IsOneRequest config asks old new before after is_ready result
--                                           a part of the walk that is one request: one step at most, and one request
--                                           more in the tables, unless it is refused
use Rattle.std.specs.Prelude.{◌≡◌, ◌≢◌, ◌≤◌, ◌<◌, ◌+◌, ◌++◌, [], ℕ, List, length, Some, None, Result, Ok, Err}
use Rattle.std.specs.Prelude.{All, false, IfErr, OnOk, flat_map, map}
use Rattle.std.specs.List.{list_any}
use Rattle.tree_spec.specs.declared.LimitName.TheVariants.{Modules, Requests}
use Rattle.tree_spec.specs.Limits.{limit_number}
use Rattle.layout_spec.specs.Needs.{clashes, with_need, NoClash}
use Rattle.layout_spec.specs.declared.Need.{Need}
use Rattle.trace_spec.specs.declared.TraceFault.{TraceFault}
use Rattle.trace_spec.specs.declared.TraceFault.TheVariants.{Unservable, ReadFault, Memory}
use Rattle.trace_spec.specs.Checks.{Gathered, Wanted, Spelling, with_spelling}
use Rattle.trace_spec.specs.Questions.{Source}
use Rattle.trace_spec.specs.Walking as spec
use Rattle.trace_spec.specs.Modules.{Config, Module, path_of, web_name, shown, served_name, file_name}
use Rattle.url_spec.specs.Parsing.{IsUrl}
use Rattle.url_spec.specs.WebNames.{web}
use Rattle.module_sources.specs.declared.source.Source as code
use Rattle.module_sources.specs.Shown.{AreInside, IsRead, source_of}
use Rattle.trace_walk.specs.declared.referrer.Referrer.{Referrer}
use Rattle.trace_walk.specs.declared.tables.Name.{Name}
use Rattle.trace_walk.specs.declared.tables.Tables.{Tables}
use Rattle.trace_walk.specs.Kinds.{IsOfWalk}
use Rattle.trace_walk.specs.Shown.{before_of}

pub record IsReferrer (config : Config) (referrer : spec.Referrer Module) (value : Referrer) : Type 0 where
  pub named : web_name config referrer ≡ Some value.name
  pub text : value.text ≡ value.name
  pub path : path_of config referrer ≡ value.path
  pub shown_so : shown config referrer ≡ value.shown

-- a module as it makes requests
pub record IsReferrerAt (m : Module) (name : Name) (value : Referrer) : Type 0 where
  pub name_is : value.name ≡ name.url
  pub text : value.text ≡ name.text
  pub path : value.path ≡ m.path
  pub shown_so : value.shown ≡ m.path ++ m.suffix

pub record AreEmpty (tables : Tables) : Type 0 where
  pub modules : tables.modules.entries ≡ []
  pub sources : tables.sources.items ≡ []
  pub needs : tables.needs ≡ []
  pub spellings : tables.spellings.items ≡ []
  pub targets : tables.targets.items ≡ []

pub record IsNamed (config : Config) (m : Module) (name : Name) : Type 0 where
  pub is : file_name config m ≡ Some name.url
  pub text : name.text ≡ name.url

abbrev pub AllNamed : Config → List (Module × Name) → Type 0
AllNamed config entries = All (λ entry. IsNamed config entry.0 entry.1) entries

abbrev pub AllInside : List code.Source → Type 0
AllInside sources = All (λ source. AreInside source.bytes.value source.requests.value) sources

abbrev pub AllRead : List Source → Type 0
AllRead sources = All (λ source. IsRead source.bytes) sources

pub record AreBeside (tables : Tables) : Type 0 where
  pub spelled : length tables.spellings.items ≡ length tables.needs
  pub placed : All (λ place. place < length tables.modules.entries) tables.targets.items
  pub inside : AllInside tables.sources.items
  pub read : AllRead (map source_of tables.sources.items)

abbrev pub module_requests : List Source → ℕ
module_requests sources = length (flat_map (λ source. source.specifiers) sources)

abbrev pub Counts : ℕ → Tables → Tables → Type 0
Counts more old new =
    length new.targets.items + module_requests (before_of old).sources
    ≡ length old.targets.items + (module_requests (before_of new).sources + more)

pub record IsAdded (needs : List Need) (spellings : List Spelling) (need : Need) (spelling : Spelling)
    (after : List Need) (spelled : List Spelling) : Type 0 where
  pub clear : list_any (clashes need) needs ≡ false
  pub needs_are : after ≡ with_need needs need
  pub spellings_are : spelled ≡ with_spelling needs need spellings spelling
  pub beside : length spelled ≡ length after

-- the referrer of each need is the text of a URL
abbrev pub AreOfUrls : List Need → Type 0
AreOfUrls needs = All (λ need. IsUrl need.referrer) needs

-- where this fact holds, as that who asks has the text of a URL, the referrer of each need stays the text of one
abbrev pub KeepsUrls : Type 0 → List Need → List Need → Type 0
KeepsUrls asks old new = asks → AreOfUrls old → AreOfUrls new

-- a part gives its definition's result, or memory is wanting
pub record IsGiven {X : Type 0} (definition result : Result X TraceFault) : Type 0 where
  pub given : result ≢ Err Memory → definition ≡ result
  pub no_look : result ≢ Err ReadFault

-- so many visits put their sources into the tables, and leave the modules few and named, the requests few, the needs
-- without a clash, and each with its spelling
pub record Grows (config : Config) (visits : ℕ) (old new : Tables) : Type 0 where
  pub named : AllNamed config old.modules.entries → AllNamed config new.modules.entries
  pub few : length old.modules.entries ≤ limit_number Modules → length new.modules.entries ≤ limit_number Modules
  pub longer : length old.modules.entries ≤ length new.modules.entries
  pub sources : length new.sources.items ≡ length old.sources.items + visits
  pub requests : length old.targets.items ≤ limit_number Requests → length new.targets.items ≤ limit_number Requests
  pub beside : AreBeside new
  pub clear : NoClash old.needs → NoClash new.needs

-- own: the tables behind the last visit
pub record IsWhole (tables : Gathered) : Type 0 where
  pub visited : length tables.sources ≡ length tables.modules
  pub read : AllRead tables.sources
  pub few : length tables.modules ≤ limit_number Modules
  pub few_requests : length tables.targets ≤ limit_number Requests
  pub counted : module_requests tables.sources ≤ length tables.targets
  pub spelled : length tables.spellings ≡ length tables.needs
  pub clear : NoClash tables.needs
  pub urls : AreOfUrls tables.needs

-- what isn't served at its web name
pub record IsUnserved (config : Config) (path suffix : List ℕ) (fault : TraceFault) : Type 0 where
  pub lost : served_name config.base path (web config.base path suffix) ≡ None
  pub is : fault ≡ Unservable (path ++ suffix) (web config.base path suffix)

-- the wanted text of a referrer with this name
abbrev pub wanted_of : List ℕ → Result (List ℕ) TraceFault → Result Wanted TraceFault
wanted_of name (Ok asked) = Ok (record { referrer = name; asked = asked })
wanted_of name (Err refusal) = Err refusal

-- ---- steps

-- at most as many steps as there are visits, and requests that are put into the tables
abbrev pub Spends : ℕ → Tables → Tables → ℕ → ℕ → Type 0
Spends visits old new before after =
    after + length old.targets.items ≤ before + visits + length new.targets.items

-- and no more than there is room for, also where the part is refused
abbrev pub IsBounded : ℕ → Tables → ℕ → ℕ → Type 0
IsBounded visits old before after =
    length old.targets.items ≤ limit_number Requests
    → after + length old.targets.items ≤ before + visits + limit_number Requests

-- ---- parts of the walk

-- the tables and the steps behind so many visits, and the answerer is ready for more
pub record Advances (config : Config) (visits : ℕ) (asks : Type 0) (old new : Tables) (before after : ℕ)
    (is_ready : Type 0) : Type 0 where
  pub grows : Grows config visits old new
  pub urls : KeepsUrls asks old.needs new.needs
  pub steps : Spends visits old new before after
  pub ready : is_ready

-- the same unless it is refused; however it ends, no more steps than there was room for; and a refusal is one of a walk
pub record Walks (config : Config) (visits most : ℕ) (asks : Type 0) (old new : Tables) (before after : ℕ)
    (is_ready : Type 0) (result : Result (Unit {0}) TraceFault) : Type 0 where
  pub advances : OnOk result (Advances config visits asks old new before after is_ready)
  pub bounded : IsBounded most old before after
  pub kind : IfErr result (IsOfWalk config)

-- a part that is one request
pub record IsOneRequest (config : Config) (asks : Type 0) (old new : Tables) (before after : ℕ) (is_ready : Type 0)
    (result : Result (Unit {0}) TraceFault) : Type 0 where
  pub walks : Walks config 0 0 asks old new before after is_ready result
  pub step : after ≤ before + 1
  pub counts : OnOk result (Counts 1 old new)
