-- The trace of a folder, of which something is known.
--     IsOfFootprint config before known path       where a tree is told, its trace looks at the path up to where it ends,
--                                                  by all that looks tell
--     Traces config before known result after later      the trace, or its first refusal
--     CountsModules gathered count      as many modules as that, as many sources, which are read, and no more than there
--                                       may be
--     TakesSteps result count before after      no more steps than count tells of what was found, and never more than
--                                               there may be modules and requests
--     StepsByQuestions sights config before after      no more steps than there are questions until the trace ends,
--                                                      wherever that is
--     TakesStepsToEnd config before known from to      where a tree is told, no more steps than that, by all that looks
--                                                      tell
--     StepsByFresh is_fresh sights config before after      no more steps than there are fresh ones among them
--     TakesFreshSteps is_fresh config before known from to      the same where a tree is told
--     TracesTables config before known result after later from to      the trace as the walk's tables, in so many steps
use Rattle.std.specs.Prelude.{◌≡◌, ◌≤◌, ◌+◌, ℕ, List, length, filter, Some, Result, Err, IfSome, IfOk}
use Rattle.std.specs.Prelude.{IfErr}
use Rattle.tree_spec.specs.declared.LimitName.TheVariants.{Modules, Requests}
use Rattle.tree_spec.specs.Limits.{limit_number}
use Rattle.tree_spec.specs.LookAskings.{Sights}
use Rattle.tree_spec.specs.LookLimits.{no_trail}
use Rattle.tree_spec.specs.States.{FolderState, OnlyLooks}
use Rattle.trace_spec.specs.declared.TraceFault.{TraceFault}
use Rattle.trace_spec.specs.declared.TraceFault.TheVariants.{ReadFault, Memory}
use Rattle.trace_spec.specs.Modules.{Config}
use Rattle.trace_spec.specs.Checks.{Gathered}
use Rattle.trace_spec.specs.Laws.{asked_by_end, IsLookedAt}
use Rattle.trace_spec.specs.Questions.{Question}
use Rattle.trace_spec.specs.Traces.{traced}
use Rattle.package_lookup.specs.declared.known.Known.{Known}
use Rattle.package_lookup.specs.Looked.{Sees}
use Rattle.package_lookup.specs.Answered.{State, state}
use Rattle.package_lookup.specs.Learning.{Learns}
use Rattle.trace_walk.specs.declared.tables.Tables.{Tables}
use Rattle.trace_walk.specs.Meeting.{IsTold}
use Rattle.trace_walk.specs.Shown.{traced_of}
use Rattle.trace_walk.specs.Walked.{AreWalked}
use Rattle.trace_walk.specs.Walking.{AllRead}
use Rattle.trace_walk.specs.Kinds.{IsOfWalk}
use Rattle.request_trace.specs.Answering.{Freshness}

-- what is known of a folder, where nothing was looked at yet
abbrev pub known_of : FolderState → Known → State
known_of folder known = state folder known no_trail

-- own: whatever stands at each path as far as a look tells. The generation's footprint has each such path, and those
-- behind a limit that stops the trace too
abbrev pub IsOfFootprint : Config → FolderState → Known → List ℕ → Type 0
IsOfFootprint config before known path =
    IfSome before.holds
    (λ tree. (sights : Sights) → Sees tree known sights → IsLookedAt sights config path)

-- own: unless a look fails or memory is wanting, the result is the definition's, whatever stands at each path as far as
-- looks tell. Whatever the result is, the folder was asked for such paths alone
pub record Traces (config : Config) (before : FolderState) (known : Known) (result : Result Gathered TraceFault)
    (after : FolderState) (later : Known) : Type 0 where
  pub is :
      IfSome before.holds
      (λ tree. (sights : Sights) → Sees tree known sights → IsTold result → traced sights config ≡ result)
  pub learns :
      Learns (known_of before known) (known_of after later) (result ≡ Err Memory) (IsOfFootprint config before known)
  pub looks : OnlyLooks before after (result ≡ Err ReadFault)
  pub kind : IfErr result (IsOfWalk config)

-- own: there are as many sources as modules, and each is a text with an outline
pub record CountsModules (gathered : Gathered) (count : ℕ) : Type 0 where
  pub modules : count ≡ length gathered.modules
  pub sources : count ≡ length gathered.sources
  pub few : count ≤ limit_number Modules
  pub read : AllRead gathered.sources

-- own: as many modules and requests as are counted of what was found; and whatever the result is, as many as there may
-- be at most
pub record TakesSteps {A E : Type 0} (result : Result A E) (count : A → ℕ) (before after : ℕ) : Type 0 where
  pub counted : IfOk result (λ found. after ≤ before + count found)
  pub bounded : after ≤ before + (limit_number Modules + limit_number Requests)

-- own: one for each module and each request up to the refusal, if there is one. They aren't more where a look fails or
-- memory is wanting, which ends the trace before
pub record StepsByQuestions (sights : Sights) (config : Config) (before after : ℕ) : Type 0 where
  pub asked : List Question
  pub are : asked_by_end sights config ≡ Some asked
  pub steps : after ≤ before + length asked

abbrev pub TakesStepsToEnd : Config → FolderState → Known → ℕ → ℕ → Type 0
TakesStepsToEnd config before known from to =
    IfSome before.holds
    (λ tree. (sights : Sights) → Sees tree known sights → StepsByQuestions sights config from to)

-- own: of the questions up to the refusal, if there is one
pub record StepsByFresh (is_fresh : Freshness) (sights : Sights) (config : Config) (before after : ℕ) : Type 0 where
  pub asked : List Question
  pub are : asked_by_end sights config ≡ Some asked
  pub steps : after ≤ before + length (filter (is_fresh sights) asked)

abbrev pub TakesFreshSteps : Freshness → Config → FolderState → Known → ℕ → ℕ → Type 0
TakesFreshSteps is_fresh config before known from to =
    IfSome before.holds
    (λ tree. (sights : Sights) → Sees tree known sights → StepsByFresh is_fresh sights config from to)

pub record TracesTables (config : Config) (before : FolderState) (known : Known) (result : Result Tables TraceFault)
    (after : FolderState) (later : Known) (from to : ℕ) : Type 0 where
  pub traces : Traces config before known (traced_of result) after later
  pub tables : IfOk result (AreWalked config)
  pub steps : TakesSteps result (λ tables. length tables.sources.items + length tables.targets.items) from to
  pub asked : TakesStepsToEnd config before known from to
