-- The laws of traces. Each is the contract of a function of this crate.
use Rattle.std.specs.Prelude.{◌≡◌, ◌≢◌, ⊤, ◌≤◌, ◌↔◌, ◌++◌, ℕ, true, false, List, [], ◌∷◌, length, map, flat_map}
use Rattle.std.specs.Prelude.{slice_get, Option, Some, None, Result, Ok, Err, Contains, unwrap_or, codes}
use Rattle.std.specs.Str.{IsUtf8}
use Rattle.asking_spec.specs.Askings.{Asking, outcome, questions}
use Rattle.asking_spec.specs.Evaluation.{Ended, ends, stopped, evaluated, Asked, listed}
use Rattle.asking_spec.specs.Laws.{AgreesOn}
use Rattle.tree_spec.specs.declared.Entry.TheVariants.{Stored}
use Rattle.tree_spec.specs.FoldersAbove.{folder_of}
use Rattle.tree_spec.specs.Laws.{IsSameAsking}
use Rattle.tree_spec.specs.declared.LimitName.{LimitName}
use Rattle.tree_spec.specs.declared.LimitName.TheVariants.{Modules, Requests, Brackets, ModuleRequests, Specifier}
use Rattle.tree_spec.specs.declared.LimitName.TheVariants.{Looks}
use Rattle.tree_spec.specs.Limits.{limit_number}
use Rattle.tree_spec.specs.LookAskings.{Sights, look_at_each, looks, footprint}
use Rattle.tree_spec.specs.LookLimits.{Trail, no_trail, begun, look_limits, counted, limited, IsFirstLimit, new_size}
use Rattle.url_spec.specs.Specifiers.{is_relative, ends_in_slash, as_url, normalized}
use Rattle.module_spec.specs.declared.request.Request.{Request}
use Rattle.module_spec.specs.Outlines.{Outline, ReadsOutline, most_requests}
use Rattle.module_spec.specs.Tokens.{most_brackets}
use Rattle.node_spec.specs.EsmFileFormat.{IsModule, IsDetected, has_ending, file_format}
use Rattle.node_spec.specs.Laws.{IsBare}
use Rattle.node_spec.specs.LookupPackageScope.{package_scope}
use Rattle.node_spec.specs.ReadPackageJson.{record_at}
use Rattle.node_spec.specs.Records.{Record}
use Rattle.node_spec.specs.declared.PackageKind.TheVariants.{Unstated}
use Rattle.layout_spec.specs.declared.Need.{Need}
use Rattle.layout_spec.specs.Needs.{NoClash}
use Rattle.trace_spec.specs.declared.TraceFault.{TraceFault}
use Rattle.trace_spec.specs.declared.TraceFault.TheVariants.{Clash, Limit}
use Rattle.trace_spec.specs.Walking.{Referrer, the_page, a_module, Opened, Rules, followed, walk}
use Rattle.trace_spec.specs.Levels.{Levels}
use Rattle.trace_spec.specs.FirstRefusals.{Failure, refused, halted, Comes, AllPassed, FirstFailure}
use Rattle.trace_spec.specs.Modules.{Config, Module, is_module, web_name, shown, IsServable, file_name}
use Rattle.trace_spec.specs.Questions.{Source, Question, of_module, Answer, put, answers, always}
use Rattle.trace_spec.specs.Kinds.{IsOfTrace}
use Rattle.trace_spec.specs.Checks.{Gathered, Spelling, with_source, nothing_gathered, rules}
use Rattle.trace_spec.specs.Checks.{opens, Wanted, checked, asking_at, with_request, follows}
use Rattle.trace_spec.specs.Traces.{trace, result_of, state_of, traced, generation, source, requests, specifiers}
use Rattle.trace_spec.specs.Traces.{resolution, leads, targets, ReachedByPage}

-- the modules of a trace are its levels, one behind another
abbrev pub HasLevels : Type 0
HasLevels =
    (sights : Sights) (config : Config) (all : Gathered) → traced sights config ≡ Ok all
    → Levels Module is_module (targets sights config) [] (the_page ∷ []) all.modules

-- they are the modules that the page reaches by requests
abbrev pub IsWhatIsReached : Type 0
IsWhatIsReached =
    (sights : Sights) (config : Config) (all : Gathered) → traced sights config ≡ Ok all
    → (m : Module) → Contains all.modules m ↔ ReachedByPage sights config (a_module m)

-- none of them stands there twice
abbrev pub ModulesOnce : Type 0
ModulesOnce =
    (sights : Sights) (config : Config) (all : Gathered) → traced sights config ≡ Ok all → (i j : ℕ) (m : Module)
    → slice_get all.modules i ≡ Some m → slice_get all.modules j ≡ Some m → i ≡ j

-- they are at most 20,000
abbrev pub FewModules : Type 0
FewModules =
    (sights : Sights) (config : Config) (all : Gathered) → traced sights config ≡ Ok all
    → length all.modules ≤ limit_number Modules

-- its requests are at most 200,000, those of the page with them
abbrev pub FewRequests : Type 0
FewRequests =
    (sights : Sights) (config : Config) (all : Gathered) → traced sights config ≡ Ok all
    → length all.targets ≤ limit_number Requests

-- ---- the first refusal

-- what is refused by a failure: its own refusal, or the limit that stopped the evaluation
abbrev pub refusal_by : Failure TraceFault LimitName → TraceFault
refusal_by (refused refusal) = refusal
refusal_by (halted limit) = Limit limit

-- the walk of the config, begun before any look, first fails so that it is refused by this
pub record IsFirst (sights : Sights) (config : Config) (refusal : TraceFault) : Type 0 where
  pub why : Failure TraceFault LimitName
  pub shown : refusal ≡ refusal_by why
  pub trail : Trail
  pub first : FirstFailure (answers sights) (rules config) no_trail why trail

-- all visits pass
pub record AllVisitsPass (sights : Sights) (config : Config) (all : Gathered) : Type 0 where
  pub trail : Trail
  pub passed : AllPassed (answers sights) (rules config) no_trail all trail

-- there is a trace exactly where all visits pass, and else the refusal is the first: the visits before it pass, and so
-- do the requests before it in its own visit
pub record Decides (sights : Sights) (config : Config) : Type 0 where
  pub passes : (all : Gathered) → traced sights config ≡ Ok all ↔ AllVisitsPass sights config all
  pub refuses : (refusal : TraceFault) → traced sights config ≡ Err refusal ↔ IsFirst sights config refusal

-- whatever stands at the paths, a config has a trace exactly where all visits pass, and is else refused by the first
-- refusal
abbrev pub FirstRefusalDecides : Type 0
FirstRefusalDecides = (sights : Sights) (config : Config) → Decides sights config

-- whatever the tree holds, a refusal is of a kind that a trace of this config can end with
abbrev pub RefusesByKind : Type 0
RefusesByKind =
    (sights : Sights) (config : Config) (refusal : TraceFault) → traced sights config ≡ Err refusal
    → IsOfTrace config refusal

-- ---- room for the visits

-- the rules with another refusal where the room of a walk is used up
abbrev pub with_above : {M B R Q : Type 0} {A : Q → Type 0} → Rules M B R Q A → R → Rules M B R Q A
with_above rules above = record {
  same = rules.same;
  start = rules.start;
  modules = rules.modules;
  most = rules.most;
  above = above;
  opens = rules.opens;
  follows = rules.follows;
}

-- the room of a walk is never used up: whatever were refused there, the walk of a config would come to the same
abbrev pub NeverOutOfRoom : Type 0
NeverOutOfRoom =
    (sights : Sights) (config : Config) (above : TraceFault)
    → evaluated (answers sights) no_trail (walk (with_above (rules config) above))
    ≡ evaluated (answers sights) no_trail (trace config)

-- ---- the order

-- what stands for a module where a request leads to none
abbrev pub no_module : Module
no_module = record { path = []; suffix = [] }

-- what stands for the source of a module that has none
abbrev pub no_source : Source
no_source = record { bytes = []; specifiers = [] }

-- where a request leads
abbrev pub target_of : Sights → Config → Referrer Module → List ℕ → Module
target_of sights config referrer specifier = unwrap_or (leads sights config referrer specifier) no_module

-- what a request needs
abbrev pub need_of : Sights → Config → Referrer Module → List ℕ → Need
need_of sights config referrer specifier =
    let name = unwrap_or (web_name config referrer) [] in
    record {
      referrer = name;
      asked = normalized name specifier;
      target = unwrap_or (file_name config (target_of sights config referrer specifier)) [];
    }

-- how it is spelled
abbrev pub spelling_of : Sights → Config → Referrer Module → List ℕ → Spelling
spelling_of sights config referrer specifier =
    record {
      referrer = shown config referrer;
      specifier = specifier;
      target = target_of sights config referrer specifier;
    }

-- a request is put into the tables
abbrev pub request_put : Sights → Config → Gathered → Referrer Module → List ℕ → Gathered
request_put sights config before referrer specifier =
    with_request before (need_of sights config referrer specifier) (spelling_of sights config referrer specifier)

-- requests of a referrer are put into the tables one after another
abbrev pub requests_put : Sights → Config → Referrer Module → Gathered → List (List ℕ) → Gathered
requests_put sights config referrer before [] = before
requests_put sights config referrer before (specifier ∷ more) =
    requests_put sights config referrer (request_put sights config before referrer specifier) more

-- what the opening of a visit puts there
abbrev pub opening_put : Sights → Gathered → Referrer Module → Gathered
opening_put sights before the_page = before
opening_put sights before (a_module m) = with_source before (unwrap_or (source sights m) no_source)

-- visits are put into the tables one after another
abbrev pub visits_put : Sights → Config → Gathered → List (Referrer Module) → Gathered
visits_put sights config before [] = before
visits_put sights config before (referrer ∷ more) =
    visits_put sights config
    (requests_put sights config referrer (opening_put sights before referrer) (specifiers sights config referrer))
    more

-- what is asked as the visit of a referrer opens
abbrev pub opening : Referrer Module → List Question
opening the_page = []
opening (a_module m) = of_module m.path ∷ []

-- what is asked in these visits
abbrev pub asked_in : Sights → Config → List (Referrer Module) → List Question
asked_in sights config visits =
    flat_map
    (λ referrer. opening referrer ++ map (asking_at config referrer) (specifiers sights config referrer))
    visits

-- the visits of a trace: that of the page, and then those of its modules, in their order
abbrev pub visits_of : Gathered → List (Referrer Module)
visits_of all = the_page ∷ map a_module all.modules

-- where the requests in these visits lead
abbrev pub led_in : Sights → Config → List (Referrer Module) → List (Option Module)
led_in sights config visits =
    flat_map (λ referrer. map (leads sights config referrer) (specifiers sights config referrer)) visits

-- the tables hold the requests of the page and of the modules, in the order of the trace, the source of each module at
-- its place, and the module that each request leads to; and these are the questions, each at its place
pub record InOrder (sights : Sights) (config : Config) (all : Gathered) : Type 0 where
  pub tables : all ≡ visits_put sights config nothing_gathered (visits_of all)
  pub sources : map Some all.sources ≡ map (source sights) all.modules
  pub targets : map Some all.targets ≡ led_in sights config (visits_of all)
  pub asked : questions (always sights) (trace config) ≡ asked_in sights config (visits_of all)

-- the tables of a trace hold its requests, its sources and where each request leads in the order of its visits, and its
-- questions are asked in this order
abbrev pub GoesInOrder : Type 0
GoesInOrder =
    (sights : Sights) (config : Config) (all : Gathered) → traced sights config ≡ Ok all → InOrder sights config all

-- ---- the order of a refusal

-- no question yet
abbrev pub none_asked : Asked Trail Question
none_asked = record { state = no_trail; asked = Some [] }

-- the questions that were asked when a trace of a config ended, each at its place
abbrev pub asked_by_end : Sights → Config → Option (List Question)
asked_by_end sights config = (state_of (evaluated (listed (answers sights)) none_asked (trace config))).asked

-- what a request asks: its question, if what is checked before passes
abbrev pub if_checked : Question → Result Wanted TraceFault → List Question
if_checked question (Ok want) = question ∷ []
if_checked question (Err refusal) = []

-- what a request asks, by the tables before it
abbrev pub asked_for : Config → Gathered → Referrer Module → List ℕ → List Question
asked_for config before referrer specifier =
    if_checked (asking_at config referrer specifier) (checked config before referrer specifier)

-- what an opening or the checks of a request come to behind what was looked at, where a limit that stops them refuses
abbrev pub ComesTo : {X : Type 0} → Sights → Trail → Asking Question Answer (Result X TraceFault)
    → Result X TraceFault → Type 0
ComesTo sights trail asking result = result_of (evaluated (answers sights) trail asking) ≡ result

-- the opening of a visit passes, and so do the requests in front of this one, which is refused
pub record RefusedRequest (sights : Sights) (config : Config) (before : Gathered) (trail : Trail)
    (referrer : Referrer Module) (refusal : TraceFault) (front : List (List ℕ)) (specifier : List ℕ) : Type 0 where
  pub behind : List (List ℕ)
  pub split : specifiers sights config referrer ≡ front ++ specifier ∷ behind
  pub opened : Opened Gathered
  pub middle : Trail
  pub opens_so : evaluated (answers sights) trail (opens config before referrer) ≡ ends (Ok opened) middle
  pub tables : Gathered
  pub tables_are : tables ≡ requests_put sights config referrer (opening_put sights before referrer) front
  pub later : Trail
  pub passed : evaluated (answers sights) middle (followed (rules config) opened.after referrer front)
      ≡ ends (Ok tables) later
  pub refused : ComesTo sights later (follows config tables referrer specifier) (Err refusal)

-- what is asked in a visit from its opening to a request, by the specifiers in front of it and the tables before it
abbrev pub asked_up_to : Config → Gathered → Referrer Module → List (List ℕ) → List ℕ → List Question
asked_up_to config tables referrer front specifier =
    opening referrer ++ map (asking_at config referrer) front ++ asked_for config tables referrer specifier

-- where a visit is refused, and what was asked in it by then: what its opening asks, and then what the requests ask up
-- to the one that is refused
pub data RefusedAt (sights : Sights) (config : Config) (before : Gathered) (trail : Trail)
    (referrer : Referrer Module) (refusal : TraceFault) : List Question → Type 0 where
  at_opening : ComesTo sights trail (opens config before referrer) (Err refusal)
      → RefusedAt sights config before trail referrer refusal (opening referrer)
  at_request : (front : List (List ℕ)) (specifier : List ℕ)
      → (is : RefusedRequest sights config before trail referrer refusal front specifier)
      → RefusedAt sights config before trail referrer refusal (asked_up_to config is.tables referrer front specifier)

-- these visits pass, the visit of this referrer comes next in the order of the tables, and is refused; what was asked
-- are the questions of these visits, and then those of this one by then
pub record RefusedInOrder (sights : Sights) (config : Config) (refusal : TraceFault) : Type 0 where
  pub visits : List (Referrer Module)
  pub referrer : Referrer Module
  pub later : List (Referrer Module)
  pub before : Gathered
  pub tables : before ≡ visits_put sights config nothing_gathered visits
  pub in_order : visits_of before ≡ visits ++ referrer ∷ later
  pub trail : Trail
  pub comes : Comes (answers sights) (rules config) no_trail before trail referrer
  pub asked_last : List Question
  pub refused : RefusedAt sights config before trail referrer refusal asked_last
  pub asked : asked_by_end sights config ≡ Some (asked_in sights config visits ++ asked_last)

-- a refusal comes at its place too
abbrev pub RefusesInOrder : Type 0
RefusesInOrder =
    (sights : Sights) (config : Config) (refusal : TraceFault) → traced sights config ≡ Err refusal
    → RefusedInOrder sights config refusal

-- ---- the sources

-- the name of the file, or the package.json of its scope, makes it a module; or they leave that to the text, and the
-- text declares it (Node.js, ECMAScript modules: ESM_FILE_FORMAT)
pub data IsModuleFormat (sights : Sights) (path : List ℕ) (outline : Outline) : Type 0 where
  stated : outcome sights (file_format path) ≡ Ok IsModule → IsModuleFormat sights path outline
  detected : outcome sights (file_format path) ≡ Ok IsDetected → outline.declares ≡ true
      → IsModuleFormat sights path outline

-- a module has this source: a file with the source's bytes stands at its path, and they are UTF-8 and read as a text
-- with the source's requests; its format is that of a module, or its text declares that it is one
pub record HasSource (sights : Sights) (m : Module) (own : Source) : Type 0 where
  pub stored : sights m.path ≡ Some (Stored own.bytes)
  pub utf8 : IsUtf8 own.bytes
  pub outline : Outline
  pub reads : ReadsOutline own.bytes (Ok outline)
  pub asks : own.specifiers ≡ map (λ (request : Request). request.text) outline.requests
  pub format : IsModuleFormat sights m.path outline

-- what stands at a module's path and in the package.json of its scope decides its source
abbrev pub SourcesAreRead : Type 0
SourcesAreRead = (sights : Sights) (m : Module) (own : Source) → source sights m ≡ Some own ↔ HasSource sights m own

-- ---- what decides a source

-- the paths at which the question of a source looks
abbrev pub source_footprint : Sights → List ℕ → List (List ℕ)
source_footprint sights path = footprint sights (put (of_module path))

-- a `.js` whose package, where it is in one, says no type
pub data HasNoType (sights : Sights) (path : List ℕ) : Type 0 where
  in_no_package : outcome sights (package_scope (folder_of path)) ≡ None → HasNoType sights path
  in_package : (folder : List ℕ) (of_scope : Record) → outcome sights (package_scope (folder_of path)) ≡ Some folder
      → outcome sights (record_at folder) ≡ Ok (Some of_scope) → of_scope.kind ≡ Unstated → HasNoType sights path

-- two trees that agree on the footprint of a source's question give one source, or one reason for none. The file's own
-- path is in it wherever the file may be a module: its format is a module's, or it is a `.js` without a type
pub record SourceIsDecided (sights : Sights) (path : List ℕ) : Type 0 where
  pub same : (other : Sights) → AgreesOn sights other (source_footprint sights path)
      → IsSameAsking sights other (put (of_module path))
  pub of_module_format : outcome sights (file_format path) ≡ Ok IsModule → Contains (source_footprint sights path) path
  pub of_no_type : has_ending path (codes ".js") ≡ true → HasNoType sights path
      → Contains (source_footprint sights path) path

-- what stands at the paths of its question's footprint decides a source
abbrev pub SourcesAreDecided : Type 0
SourcesAreDecided = (sights : Sights) (path : List ℕ) → SourceIsDecided sights path

-- ---- what a trace knows of its requests and needs

-- a relative specifier asks for its URL, which is no folder's, and a bare one for itself
pub data AsksFor (name specifier asked : List ℕ) : Type 0 where
  for_url : is_relative specifier ≡ true → as_url name specifier ≡ Some asked → ends_in_slash asked ≡ false
      → AsksFor name specifier asked
  for_itself : is_relative specifier ≡ false → IsBare specifier → asked ≡ specifier → AsksFor name specifier asked

-- a request went through its checks: it asks for a URL or for itself; Node answers it with a module that is served at
-- its web name, which is no folder's; and the tables have its need
pub record Passes (sights : Sights) (config : Config) (all : Gathered) (referrer : Referrer Module)
    (specifier : List ℕ) : Type 0 where
  pub need : Need
  pub target : Module
  pub named : web_name config referrer ≡ Some need.referrer
  pub utf8 : IsUtf8 specifier
  pub asks : AsksFor need.referrer specifier need.asked
  pub answers : resolution sights config referrer specifier ≡ Ok target
  pub servable : IsServable config target.path target.suffix need.target
  pub is_name : file_name config target ≡ Some need.target
  pub is_need : Contains all.needs need

-- whatever the page reaches has requests, and they all pass
pub record AllPass (sights : Sights) (config : Config) (all : Gathered) (referrer : Referrer Module)
    : Type 0 where
  pub specifiers : List (List ℕ)
  pub asks : requests sights config referrer ≡ Some specifiers
  pub pass : (specifier : List ℕ) → Contains specifiers specifier → Passes sights config all referrer specifier

-- where there is a trace, all requests of whatever the page reaches pass
abbrev pub RequestsPass : Type 0
RequestsPass =
    (sights : Sights) (config : Config) (all : Gathered) → traced sights config ≡ Ok all
    → (referrer : Referrer Module) → ReachedByPage sights config referrer → AllPass sights config all referrer

-- a need is that of a request of a referrer that is reached and has that web name: it is for what the request asks
-- for, and names the module to which Node leads it; neither name is a folder's
pub record IsNeed (sights : Sights) (config : Config) (need : Need) : Type 0 where
  pub referrer : Referrer Module
  pub reached : ReachedByPage sights config referrer
  pub named : web_name config referrer ≡ Some need.referrer
  pub specifier : List ℕ
  pub is_request : Contains (specifiers sights config referrer) specifier
  pub utf8 : IsUtf8 specifier
  pub asks : AsksFor need.referrer specifier need.asked
  pub target : Module
  pub leads_there : leads sights config referrer specifier ≡ Some target
  pub is_name : file_name config target ≡ Some need.target

-- by this specifier a referrer with this web name, which is shown so, asks for this, and it leads to this module, which
-- has this web name
pub record LeadsFor (sights : Sights) (config : Config) (referrer : Referrer Module) (need : Need)
    (spelling : Spelling) : Type 0 where
  pub named : web_name config referrer ≡ Some need.referrer
  pub shown_so : spelling.referrer ≡ shown config referrer
  pub is_request : Contains (specifiers sights config referrer) spelling.specifier
  pub short : length spelling.specifier ≤ limit_number Specifier
  pub asks : AsksFor need.referrer spelling.specifier need.asked
  pub leads_there : leads sights config referrer spelling.specifier ≡ Some spelling.target
  pub is_name : file_name config spelling.target ≡ Some need.target

-- a need is spelled so
pub record IsSpelled (sights : Sights) (config : Config) (need : Need) (spelling : Spelling) : Type 0 where
  pub referrer : Referrer Module
  pub leads_for : LeadsFor sights config referrer need spelling

-- each need stands beside its spelling
abbrev pub AreSpelled : Sights → Config → List Need → List Spelling → Type 0
AreSpelled sights config [] [] = ⊤
AreSpelled sights config [] (spelling ∷ spellings) = ⊥
AreSpelled sights config (need ∷ needs) [] = ⊥
AreSpelled sights config (need ∷ needs) (spelling ∷ spellings) =
    IsSpelled sights config need spelling × AreSpelled sights config needs spellings

-- the needs are those of requests of what is reached, each beside its spelling, and no two clash
pub record NeedsAre (sights : Sights) (config : Config) (all : Gathered) : Type 0 where
  pub each : (need : Need) → Contains all.needs need → IsNeed sights config need
  pub spelled : AreSpelled sights config all.needs all.spellings
  pub no_clash : NoClash all.needs

-- the needs of a trace are those of requests, each beside its spelling, and no two clash
abbrev pub NeedsAreRequests : Type 0
NeedsAreRequests =
    (sights : Sights) (config : Config) (all : Gathered) → traced sights config ≡ Ok all → NeedsAre sights config all

-- ---- clashes

-- two requests of referrers with one web name ask for the same, and lead to modules with two web names. The later one
-- is that of the referrer that is shown, and both are shown with what they lead to
pub record IsClash (sights : Sights) (config : Config) (referrer first first_to second second_to : List ℕ)
    : Type 0 where
  pub earlier : Referrer Module
  pub later : Referrer Module
  pub need : Need
  pub other : Need
  pub spelling : Spelling
  pub target : Module
  pub one : LeadsFor sights config earlier need spelling
  pub two : LeadsFor sights config later other (record { referrer = referrer; specifier = second; target = target })
  pub same_referrer : need.referrer ≡ other.referrer
  pub same_asked : need.asked ≡ other.asked
  pub apart : need.target ≢ other.target
  pub shown_referrer : referrer ≡ shown config later
  pub shown_first : first ≡ spelling.specifier
  pub shown_first_to : first_to ≡ shown config (a_module spelling.target)
  pub shown_second_to : second_to ≡ shown config (a_module target)

-- a clash is one of two requests
abbrev pub ClashesAreOfRequests : Type 0
ClashesAreOfRequests =
    (sights : Sights) (config : Config) (referrer first first_to second second_to : List ℕ)
    → traced sights config ≡ Err (Clash referrer first first_to second second_to)
    → IsClash sights config referrer first first_to second second_to

-- ---- limits

-- the most brackets that a module's text has open, and the most requests of a module, are the limits of that name
pub record LimitsOfTexts : Type 0 where
  pub brackets : most_brackets ≡ limit_number Brackets
  pub requests : most_requests ≡ limit_number ModuleRequests

-- ---- looks

-- the same end, where the paths of the last question are left out
abbrev pub without_question : {X : Type 0} → Ended X Trail LimitName → Ended X Trail LimitName
without_question (ends value trail) = ends value (begun trail)
without_question (stopped limit trail) = stopped limit (begun trail)

-- the looks of these questions, one behind another
abbrev pub looks_of : Sights → List Question → List (List ℕ)
looks_of sights asked = flat_map (λ question. looks sights (put question)) asked

-- own: one of the generation's looks is at the path, those before it pass no limit, and it isn't refused as one path
-- too many, before it is made, whether the trace is refused or not; so none is behind the look at which a limit stops
-- it, and where that is the limit of paths, neither is that look
pub record IsLookedAt (sights : Sights) (config : Config) (path : List ℕ) : Type 0 where
  pub front : List (List ℕ)
  pub back : List (List ℕ)
  pub split : looks sights (generation config) ≡ front ++ path ∷ back
  pub before : Trail
  pub passes : evaluated (limited look_limits sights) no_trail (look_at_each front) ≡ ends tt before
  pub room : counted look_limits before path (sights path) ≢ Err Looks

-- the trail has counted the looks of a generation
pub record CountsGeneration (sights : Sights) (config : Config) (trail : Trail) : Type 0 where
  pub paths : trail.paths ≡ footprint sights (generation config)
  pub size : trail.size ≡ new_size sights [] (looks sights (generation config))

-- of the looks of a generation, one is the first to pass a limit, this is the trail before it, and its trace looks at no
-- path but those up to that look; where that is the limit of paths, at none but those before it
pub record StopsGeneration (sights : Sights) (config : Config) (name : LimitName) (trail : Trail) : Type 0 where
  pub before : Trail
  pub first : IsFirstLimit look_limits sights no_trail (looks sights (generation config)) name before
  pub same : begun before ≡ begun trail
  pub up_to : (path : List ℕ) → IsLookedAt sights config path → Contains (first.front ++ first.path ∷ []) path
  pub before_looks : name ≡ Looks → (path : List ℕ) → IsLookedAt sights config path → Contains first.front path

-- a generation looks at what its questions look at; its limits are those of these looks; what stands at the paths of
-- its footprint decides it; and what its trace looks at is of that
pub record LooksAre (sights : Sights) (config : Config) : Type 0 where
  pub looks : looks sights (generation config) ≡ looks_of sights (questions (always sights) (trace config))
  pub same_end : without_question (evaluated (answers sights) no_trail (trace config))
      ≡ without_question (evaluated (limited look_limits sights) no_trail (generation config))
  pub counted : (result : Result Gathered TraceFault) (trail : Trail)
      → evaluated (answers sights) no_trail (trace config) ≡ ends result trail
      → CountsGeneration sights config trail
  pub limits : (name : LimitName) (trail : Trail)
      → evaluated (answers sights) no_trail (trace config) ≡ stopped name trail
      → StopsGeneration sights config name trail
  pub decided : (other : Sights) → AgreesOn sights other (footprint sights (generation config))
      → traced sights config ≡ traced other config
  pub within : (path : List ℕ) → IsLookedAt sights config path
      → Contains (footprint sights (generation config)) path

-- whatever stands at the paths, a generation looks at what its questions look at, its limits are those of these looks,
-- what stands at the paths of its footprint decides it, and its trace looks at none but these
abbrev pub LooksAreOfQuestions : Type 0
LooksAreOfQuestions = (sights : Sights) (config : Config) → LooksAre sights config
