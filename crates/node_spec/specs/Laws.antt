-- The laws of Node's side. Each is the contract of a function of this crate. The first ones are of relative specifiers,
-- records, targets and keys, the others of the rules as askings.
--     NamesAreDistinctIn r      no object in `exports` and `imports` of the record holds a name twice
--     BeginsWithDotSlash out      a place begins with `./`
--     under_conditions conditions rules      the same rules under other conditions
--     IsSameSet conditions others      the same names stand in both lists
--     PartStands asked base trailer      a part that isn't empty stands between the base and the trailer
--     IsPatternMatch asked key from to      the pattern match is the slice of the asked text between the key's base
--         and trailer
--     LooksLastAtFile sights conditions parent specifier path      the last look is at this path, and a file stands
--         there
--     IsRelativeNode sights conditions parent specifier      a relative specifier is answered as the asking for it is
--     IsTargetOutcome sights bares rules target came      the target comes to this by calls that are answered as its
--         bare texts are
--     SeesBytes sights      something stands at texts of bytes alone
--     IsBare specifier      the text is no URL, isn't empty, and doesn't end in `/`
use Rattle.std.specs.Prelude.{◌≡◌, ◌≢◌, ◌⊎◌, ◌↔◌, ◌<◌, ◌+◌, ◌-◌, ℕ, true, false, List, [], ◌++◌, length, take, drop}
use Rattle.std.specs.Prelude.{codes, Result, IfOk, ⊤, All}
use Rattle.std.specs.List.{Contains}
use Rattle.tree_spec.specs.Trees.{Tree, IsTree}
use Rattle.json_spec.specs.Value.{HasDistinctNames, Json}
use Rattle.url_spec.specs.Specifiers.{is_relative, begins, ends_in_slash}
use Rattle.node_spec.specs.BareCalls.{IsDecided, Alike, IsSame, answers_of, Tells, AnswersBehind, TellsBehind}
use Rattle.node_spec.specs.PackageTargets.{Rules, Call, ResolvesTarget, Answers, ResolvesUnder}
use Rattle.node_spec.specs.PatternKeys.{IsPattern, FitsPattern, KeyMatch, PatternMatch, Matches, Precedes, IsChoice}
use Rattle.node_spec.specs.PatternKeys.{MatchesNone}
use Rattle.node_spec.specs.Records.{Record, RecordFault, ReadsRecord}
use Rattle.node_spec.specs.Resolution.{Answer, ResolvesRelative}
use Rattle.node_spec.specs.declared.BareAnswer.{BareAnswer}
use Rattle.node_spec.specs.declared.Outcome.{Outcome}
use Rattle.node_spec.specs.declared.Outcome.TheVariants.{Undefined, Null, Place, Bare, Stopped, InvalidTarget}
use Rattle.node_spec.specs.declared.Outcome.TheVariants.{InvalidSpecifier, InvalidConfig}
use Rattle.std.specs.FinMap.{get}
use Rattle.std.specs.Prelude.{◌∷◌, Option, Some, None, Ok, MatchOption}
use Rattle.asking_spec.specs.Askings.{outcome}
use Rattle.asking_spec.specs.Evaluation.{Ended, evaluated}
use Rattle.asking_spec.specs.Laws.{AgreesOn}
use Rattle.tree_spec.specs.Laws.{IsSameAsking}
use Rattle.tree_spec.specs.LookAskings.{Sights, looks, footprint}
use Rattle.tree_spec.specs.LeftOutFolders.{Spares, IgnoresFolders}
use Rattle.tree_spec.specs.Paths.{IsPath}
use Rattle.tree_spec.specs.declared.Entry.{Entry}
use Rattle.tree_spec.specs.declared.Entry.TheVariants.{Stored}
use Rattle.url_spec.specs.Parsing.{parse_alone}
use Rattle.node_spec.specs.EsmFileFormat.{file_format}
use Rattle.node_spec.specs.EsmResolve.{node, Resolves}
use Rattle.node_spec.specs.LookupPackageScope.{package_scope, IsPackageScope}
use Rattle.node_spec.specs.Nearest.{Search, IsNearest}
use Rattle.node_spec.specs.NodeAnswers.{Module, Refusal, as_node}
use Rattle.node_spec.specs.PackageResolve.{package_folder, IsPackageFolder}
use Rattle.node_spec.specs.PackageTargetResolve.{Bares, Came, target_comes, no_bares, package_target}
use Rattle.node_spec.specs.PatternKeyCompare.{KeyFound, first_key}
use Rattle.node_spec.specs.ReadPackageJson.{read_record, record_at, IsRecordAt}
use Rattle.node_spec.specs.RelativeResolution.{relative_resolution}
use Rattle.node_spec.specs.TargetCalls.{LookAnswers, Followed, brings, Answerer, GivesBare, Calls, IsTargetAnswer}
use Rattle.node_spec.specs.declared.Cause.{Cause}

-- own law: a specifier in a file of a tree has one answer at most
abbrev pub OneAnswer : Type 0
OneAnswer =
    (tree : Tree) (parent specifier : List ℕ) (some other : Answer) → ResolvesRelative tree parent specifier some
    → ResolvesRelative tree parent specifier other → some ≡ other

-- own law: in each tree a relative specifier has an answer
abbrev pub SomeAnswer : Type 0
SomeAnswer =
    (tree : Tree) (parent specifier : List ℕ) → is_relative specifier ≡ true
    → (answer : Answer) × ResolvesRelative tree parent specifier answer

-- own law: the bytes of a package.json have one record, or one reason for having none
abbrev pub OneRecord : Type 0
OneRecord =
    (bytes : List ℕ) (some other : Result Record RecordFault) → ReadsRecord bytes some → ReadsRecord bytes other
    → some ≡ other

-- own law: they have a record, or a reason for having none
abbrev pub SomeRecord : Type 0
SomeRecord = (bytes : List ℕ) → (out : Result Record RecordFault) × ReadsRecord bytes out

abbrev pub NamesAreDistinctIn : Record → Type 0
NamesAreDistinctIn r = HasDistinctNames r.exports × HasDistinctNames r.imports

-- own law: no object in `exports` and `imports` holds a name twice
abbrev pub RecordNamesAreDistinct : Type 0
RecordNamesAreDistinct =
    (bytes : List ℕ) (out : Result Record RecordFault) → ReadsRecord bytes out → IfOk out NamesAreDistinctIn

-- own law: a target asks for one list of texts and comes to one outcome, if the same texts in turn get the same answers
abbrev pub OneOutcome : Type 0
OneOutcome =
    (rules : Rules) (target : Json) (asked others : List Call) (some other : Outcome)
    → ResolvesTarget rules target asked some → ResolvesTarget rules target others other → Alike asked others
    → IsSame asked others some other

-- own law: the answers in their order determine the texts and the outcome
abbrev pub AnswersDetermine : Type 0
AnswersDetermine =
    (rules : Rules) (target : Json) (asked others : List Call) (some other : Outcome)
    → ResolvesTarget rules target asked some → ResolvesTarget rules target others other
    → answers_of asked ≡ answers_of others → IsSame asked others some other

-- own law: under a map from texts to answers a target comes to one outcome at most
abbrev pub OneUnder : Type 0
OneUnder =
    (answers : Answers) (rules : Rules) (target : Json) (some other : Outcome) → ResolvesUnder answers rules target some
    → ResolvesUnder answers rules target other → some ≡ other

-- a place begins with `./`
abbrev pub BeginsWithDotSlash : Outcome → Type 0
BeginsWithDotSlash Undefined = ⊤
BeginsWithDotSlash Null = ⊤
BeginsWithDotSlash (Place text) = begins text (codes "./") ≡ true
BeginsWithDotSlash Bare = ⊤
BeginsWithDotSlash Stopped = ⊤
BeginsWithDotSlash InvalidTarget = ⊤
BeginsWithDotSlash InvalidSpecifier = ⊤
BeginsWithDotSlash InvalidConfig = ⊤

-- own law: the deciding call is the last one: no text is asked for behind one that was found or that stops the choice
abbrev pub DecidingCallIsLast : Type 0
DecidingCallIsLast =
    (rules : Rules) (target : Json) (asked : List Call) (out : Outcome) → ResolvesTarget rules target asked out
    → IsDecided asked out

-- PACKAGE_TARGET_RESOLVE: a target in `exports` asks for no bare text, and so has no outcome of one
abbrev pub ExportsAskNothing : Type 0
ExportsAskNothing =
    (rules : Rules) (target : Json) (asked : List Call) (out : Outcome) → rules.is_imports ≡ false
    → ResolvesTarget rules target asked out
    → (asked ≡ []) × (out ≢ Bare) × (out ≢ Stopped)

-- own law: a target comes to no place but one that begins with `./`
abbrev pub PlacesBeginWithDotSlash : Type 0
PlacesBeginWithDotSlash =
    (rules : Rules) (target : Json) (asked : List Call) (out : Outcome) → ResolvesTarget rules target asked out
    → BeginsWithDotSlash out

-- own law: whatever answers bare texts, each target comes to an outcome
abbrev pub SomeOutcome : Type 0
SomeOutcome =
    (answer : List ℕ → BareAnswer) (rules : Rules) (target : Json)
    → (asked : List Call) × (out : Outcome) × ResolvesTarget rules target asked out × Tells answer asked

-- own law: also what answers one text differently at two places brings each target to an outcome
abbrev pub SomeOutcomeInTurn : Type 0
SomeOutcomeInTurn =
    (answer : AnswersBehind) (rules : Rules) (target : Json)
    → (asked : List Call) × (out : Outcome) × ResolvesTarget rules target asked out × TellsBehind answer [] asked

-- the same rules under other conditions
abbrev pub under_conditions : List (List ℕ) → Rules → Rules
under_conditions conditions rules =
    record { conditions = conditions; pattern_match = rules.pattern_match; is_imports = rules.is_imports }

-- the same names stand in both lists
abbrev pub IsSameSet : List (List ℕ) → List (List ℕ) → Type 0
IsSameSet some other = (name : List ℕ) → Contains some name ↔ Contains other name

-- own law: two lists of conditions that name the same set give one outcome, and ask for the same texts
abbrev pub ConditionsAreASet : Type 0
ConditionsAreASet =
    (other : List (List ℕ)) (rules : Rules) (target : Json) (asked : List Call) (out : Outcome)
    → IsSameSet rules.conditions other → ResolvesTarget rules target asked out
    → ResolvesTarget (under_conditions other rules) target asked out

-- the pattern match stands between the pattern base and the pattern trailer and isn't empty
pub record PartStands (asked base trailer : List ℕ) : Type 0 where
  pub part : List ℕ
  pub stands : asked ≡ base ++ (part ++ trailer)
  pub some : 0 < length part

-- own law: a pattern fits a text exactly where something that isn't empty stands between its base and its trailer
abbrev pub PatternMatchStands : Type 0
PatternMatchStands =
    (asked key base trailer : List ℕ) → IsPattern key base trailer
    → (FitsPattern asked key base trailer ↔ PartStands asked base trailer)

pub record IsPatternMatch (asked key : List ℕ) (from to : ℕ) : Type 0 where
  pub base : List ℕ
  pub part : List ℕ
  pub trailer : List ℕ
  pub pattern : IsPattern key base trailer
  pub stands : asked ≡ base ++ (part ++ trailer)
  pub some : 0 < length part
  pub begins : from ≡ length base
  pub ends : to ≡ length base + length part
  pub slice : take (to - from) (drop from asked) ≡ part

-- PACKAGE_IMPORTS_EXPORTS_RESOLVE, patternMatch: where a pattern key matches, what stands for its `*` is what stands in
-- the asked text from the first place to before the second
abbrev pub PatternMatchIsSlice : Type 0
PatternMatchIsSlice =
    (asked key : List ℕ) (from to : ℕ) → Matches asked key (PatternMatch from to) → IsPatternMatch asked key from to

-- own law: the order among the keys that match is total
pub record KeysAreInOrder : Type 0 where
  pub total :
      (asked key other : List ℕ) (found also : KeyMatch) → Matches asked key found → Matches asked other also
      → (key ≡ other) ⊎ (Precedes key other ⊎ Precedes other key)
  pub through :
      (asked key middle other : List ℕ) (found between also : KeyMatch) → Matches asked key found
      → Matches asked middle between → Matches asked other also → Precedes key middle → Precedes middle other
      → Precedes key other
  pub never_itself : (asked key : List ℕ) (found : KeyMatch) → Matches asked key found → Precedes key key → ⊥

-- own law: among a set of keys one key is chosen, and it matches in one way
abbrev pub OneChoice : Type 0
OneChoice =
    (keys : List (List ℕ)) (asked key other : List ℕ) (found also : KeyMatch) → IsChoice keys asked key found
    → IsChoice keys asked other also → (key ≡ other) × (found ≡ also)

-- own law: among a set of keys there is a choice, unless none of them matches
abbrev pub SomeChoice : Type 0
SomeChoice =
    (keys : List (List ℕ)) (asked : List ℕ)
    → ((key : List ℕ) × (found : KeyMatch) × IsChoice keys asked key found) ⊎ MatchesNone keys asked

-- ---- the rules as askings

-- own law: in each tree the asking of a relative specifier comes to Node's answer
abbrev pub FindsRelative : Type 0
FindsRelative =
    (tree : Tree) (parent specifier : List ℕ) → is_relative specifier ≡ true
    → ResolvesRelative tree parent specifier (outcome (get tree) (relative_resolution parent specifier))

-- own law: under given conditions a specifier in a file of a tree has one answer at most
abbrev pub OneNode : Type 0
OneNode =
    (tree : Tree) (conditions : List (List ℕ)) (parent specifier : List ℕ) (some other : Result Module Refusal)
    → Resolves tree conditions parent specifier some → Resolves tree conditions parent specifier other → some ≡ other

-- own law: it has an answer
abbrev pub SomeNode : Type 0
SomeNode =
    (tree : Tree) (conditions : List (List ℕ)) (parent specifier : List ℕ)
    → (answer : Result Module Refusal) × Resolves tree conditions parent specifier answer

-- own: the last look is at this path, and a file stands there
pub record LooksLastAtFile (sights : Sights) (conditions : List (List ℕ)) (parent specifier path : List ℕ) : Type 0
  where
    pub front : List (List ℕ)
    pub last : looks sights (node conditions parent specifier) ≡ front ++ path ∷ []
    pub bytes : List ℕ
    pub stored : sights path ≡ Some (Stored bytes)

-- own law: where the answer is a module, a file stands at its path, and the last look was at it
abbrev pub GivesFile : Type 0
GivesFile =
    (sights : Sights) (conditions : List (List ℕ)) (parent specifier : List ℕ) (answer : Module)
    → outcome sights (node conditions parent specifier) ≡ Ok answer
    → LooksLastAtFile sights conditions parent specifier answer.path

-- own law: what stands at the paths of its footprint decides the answer
abbrev pub SameNode : Type 0
SameNode =
    (conditions : List (List ℕ)) (parent specifier : List ℕ) (one other : Sights)
    → AgreesOn one other (footprint one (node conditions parent specifier))
    → IsSameAsking one other (node conditions parent specifier)

-- own law: the same of what is known of a file's format before its text is read
abbrev pub SameFormat : Type 0
SameFormat =
    (path : List ℕ) (one other : Sights) → AgreesOn one other (footprint one (file_format path))
    → IsSameAsking one other (file_format path)

-- ESM_RESOLVE, of a specifier that begins with `/`, `./` or `../`
pub record IsRelativeNode (sights : Sights) (conditions : List (List ℕ)) (parent specifier : List ℕ) : Type 0 where
  pub answer :
      outcome sights (node conditions parent specifier)
      ≡ as_node (outcome sights (relative_resolution parent specifier))
  pub looks : looks sights (node conditions parent specifier) ≡ looks sights (relative_resolution parent specifier)

-- ESM_RESOLVE: a relative specifier has the answer of the asking for relative ones, by the same looks
abbrev pub RelativeNode : Type 0
RelativeNode =
    (sights : Sights) (conditions : List (List ℕ)) (parent specifier : List ℕ) → is_relative specifier ≡ true
    → IsRelativeNode sights conditions parent specifier

-- ---- folders

-- own law: at most one folder is the nearest, and where one is, there isn't none
abbrev pub OneNearest : Type 0
OneNearest =
    (search : Search) (tree : Tree) (from : List ℕ) (one other : Option (List ℕ)) → IsNearest search tree from one
    → IsNearest search tree from other → one ≡ other

-- LOOKUP_PACKAGE_SCOPE: the asking comes to the scope
abbrev pub FindsPackageScope : Type 0
FindsPackageScope =
    (tree : Tree) (from : List ℕ) → IsTree tree → IsPath from
    → IsPackageScope tree from (outcome (get tree) (package_scope from))

-- PACKAGE_RESOLVE: the asking comes to the package's folder
abbrev pub FindsPackageFolder : Type 0
FindsPackageFolder =
    (tree : Tree) (from name : List ℕ) → IsTree tree → IsPath from
    → IsPackageFolder tree from name (outcome (get tree) (package_folder from name))

-- READ_PACKAGE_JSON: the asking comes to the record
abbrev pub FindsRecord : Type 0
FindsRecord =
    (tree : Tree) (folder : List ℕ) → IsTree tree → IsRecordAt tree folder (outcome (get tree) (record_at folder))

-- own law: a folder has one record, or one reason for having none
abbrev pub OneRecordAt : Type 0
OneRecordAt =
    (tree : Tree) (folder : List ℕ) (some other : Result (Option Record) Refusal) → IsRecordAt tree folder some
    → IsRecordAt tree folder other → some ≡ other

-- own law: the record of bytes is what the function gives
abbrev pub RecordIsRead : Type 0
RecordIsRead = (bytes : List ℕ) (out : Result Record RecordFault) → ReadsRecord bytes out ↔ (read_record bytes ≡ out)

-- ---- keys and targets

-- PACKAGE_IMPORTS_EXPORTS_RESOLVE: the key that is taken is the choice, and where none is taken, none matches
abbrev pub FindsKey : Type 0
FindsKey =
    (asked : List ℕ) (keys : List (List ℕ))
    → MatchOption (first_key asked keys) (MatchesNone keys asked)
    (λ (chosen : KeyFound). IsChoice keys asked chosen.key chosen.found)

-- PACKAGE_TARGET_RESOLVE: the target comes to this by calls that are answered as its bare texts are
pub record IsTargetOutcome {X : Type 0} (sights : Sights) (bares : Bares X) (rules : Rules) (target : Json)
    (came : Came X) : Type 0 where
  pub asked : List Call
  pub resolves : ResolvesTarget rules target asked came.out
  pub tells : Tells (λ text. bares.judge (outcome sights (bares.ask text))) asked

-- PACKAGE_TARGET_RESOLVE: the asking for a target comes to what the target comes to by the answers to its bare texts
abbrev pub FindsTarget : Type 0 → Type 0
FindsTarget X =
    (sights : Sights) (bares : Bares X) (rules : Rules) (target : Json) (last : Option X)
    → IsTargetOutcome sights bares rules target (outcome sights (target_comes bares rules target last))

-- PACKAGE_TARGET_RESOLVE: a target in `exports` needs no look
abbrev pub ExportsLookAtNothing : Type 0
ExportsLookAtNothing =
    (sights : Sights) (rules : Rules) (folder : List ℕ) (nothing : Cause) (target : Json) → rules.is_imports ≡ false
    → looks sights (package_target no_bares rules folder nothing target) ≡ []

-- ---- conditions

-- own law: conditions are a set: neither their order nor how often one is named changes what is looked at and what
-- comes of it
abbrev pub NodeConditionsAreASet : Type 0
NodeConditionsAreASet =
    (some other : List (List ℕ)) (parent specifier : List ℕ) → IsSameSet some other
    → node some parent specifier ≡ node other parent specifier

-- ---- bare specifiers

-- the text is no URL, isn't empty, and doesn't end in `/`
pub record IsBare (specifier : List ℕ) : Type 0 where
  pub no_url : parse_alone specifier ≡ None
  pub nonempty : specifier ≢ []
  pub no_folder : ends_in_slash specifier ≡ false

-- own law: a specifier that isn't relative and has an answer is bare
abbrev pub AnsweredIsBare : Type 0
AnsweredIsBare =
    (sights : Sights) (conditions : List (List ℕ)) (parent specifier : List ℕ) (found : Module)
    → is_relative specifier ≡ false → outcome sights (node conditions parent specifier) ≡ Ok found → IsBare specifier

-- ---- a target's calls

-- PACKAGE_TARGET_RESOLVE: what a target comes to by its calls is what it comes to as an asking
abbrev pub FollowsTarget : Type 0 → Type 0 → Type 0 → Type 0
FollowsTarget T S X =
    (answers : LookAnswers T S) (bares : Bares X) (rules : Rules) (target : Json) (asked : List Call) (out : Outcome)
    → ResolvesTarget rules target asked out
    → (now : T) (last : Option X) (end : Ended (Option X) T S) → Followed answers bares now last asked end
    → evaluated answers now (target_comes bares rules target last) ≡ brings out end

-- PACKAGE_TARGET_RESOLVE: the same by what an object keeps that answers the calls, where nothing had stopped it before
-- and it lost no answer
abbrev pub TargetAnswered : Type 0 → Type 0 → Type 0 → Type 0
TargetAnswered T S X =
    (answers : LookAnswers T S) (bares : Bares X) (rules : Rules) (target : Json) (before : Answerer T S X)
    (asked : List Call) (out : Outcome) (after : Answerer T S X) → before.stop ≡ None
    → ResolvesTarget rules target asked out → Calls (GivesBare answers bares) before asked after
    → IsTargetAnswer answers bares rules target before out after

-- ---- folders that are left out

-- own: something stands at texts of bytes alone
pub record SeesBytes (sights : Sights) : Type 0 where
  pub small : (path : List ℕ) (entry : Entry) → sights path ≡ Some entry → All (λ b. b < 256) path

-- own law: where a resolution comes to a module, the folders that are left out decide nothing in it, whatever is looked
-- at behind it
abbrev pub NodeSpares : Type 0
NodeSpares =
    (sights : Sights) → SeesBytes sights
    → (later : List (List ℕ)) (conditions : List (List ℕ)) (parent specifier : List ℕ) (found : Module)
    → outcome sights (node conditions parent specifier) ≡ Ok found
    → Spares sights later (node conditions parent specifier)

-- own law: the format of a file tells no folder from nothing
abbrev pub FormatIgnoresFolders : Type 0
FormatIgnoresFolders = (path : List ℕ) → IgnoresFolders (file_format path)
