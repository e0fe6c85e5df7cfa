-- The trace of a tree and a config, or its first refusal.
--     trace config                the walk of a config, over its questions
--     result_of end, state_of end      what an evaluation of it comes to, and the state that it leaves
--     traced sights config        what it comes to: the tables of the trace, or the first refusal
--     generation config           the same walk, whose questions are put as their looks
--     requests sights config referrer      what a referrer asks for, if it is a module
--     targets sights config referrer       the modules that Node answers for these requests
--     ReachedByPage sights config referrer     the page reaches it by requests
--     if_ok result                the value of an `Ok`; of an `Err` nothing
--     specifiers sights config referrer      what a referrer asks for; nothing, if it is no module
use Rattle.std.specs.Prelude.{ℕ, List, [], Option, Some, None, Result, Ok, Err, filter_map, option_map, unwrap_or}
use Rattle.asking_spec.specs.Askings.{Asking, through}
use Rattle.asking_spec.specs.Evaluation.{Ended, ends, stopped, evaluated}
use Rattle.tree_spec.specs.declared.LimitName.{LimitName}
use Rattle.tree_spec.specs.LookAskings.{Sights, LookAsking}
use Rattle.tree_spec.specs.LookLimits.{no_trail}
use Rattle.node_spec.specs.NodeAnswers.{Refusal}
use Rattle.trace_spec.specs.declared.TraceFault.{TraceFault}
use Rattle.trace_spec.specs.declared.TraceFault.TheVariants.{Limit}
use Rattle.trace_spec.specs.Walking.{Referrer, the_page, a_module, walk}
use Rattle.trace_spec.specs.Levels.{Reached}
use Rattle.trace_spec.specs.Modules.{Config, Module}
use Rattle.trace_spec.specs.Questions.{Source, Question, of_module, Answer, put, answers, always}
use Rattle.trace_spec.specs.Checks.{Gathered, asking_at, rules}

abbrev pub trace : Config → Asking Question Answer (Result Gathered TraceFault)
trace config = walk (rules config)

-- own: what an evaluation comes to, where a limit that stops it refuses it
abbrev pub result_of : {X T : Type 0} → Ended (Result X TraceFault) T LimitName → Result X TraceFault
result_of (ends result state) = result
result_of (stopped limit state) = Err (Limit limit)

-- the state that it leaves
abbrev pub state_of : {X T : Type 0} → Ended X T LimitName → T
state_of (ends value state) = state
state_of (stopped limit state) = state

abbrev pub traced : Sights → Config → Result Gathered TraceFault
traced sights config = result_of (evaluated (answers sights) no_trail (trace config))

-- own: all looks of a generation, in their order
abbrev pub generation : Config → LookAsking (Result Gathered TraceFault)
generation config = through put (trace config)

-- ---- what is reached

abbrev pub if_ok : {X R : Type 0} → Result X R → Option X
if_ok (Ok value) = Some value
if_ok (Err refusal) = None

-- the source of a module
abbrev pub source : Sights → Module → Option Source
source sights m = if_ok (always sights (of_module m.path))

abbrev pub requests : Sights → Config → Referrer Module → Option (List (List ℕ))
requests sights config the_page = Some config.entries
requests sights config (a_module m) = option_map (λ source. source.specifiers) (source sights m)

abbrev pub specifiers : Sights → Config → Referrer Module → List (List ℕ)
specifiers sights config referrer = unwrap_or (requests sights config referrer) []

-- Node's answer for a specifier
abbrev pub resolution : Sights → Config → Referrer Module → List ℕ → Result Module Refusal
resolution sights config referrer specifier = always sights (asking_at config referrer specifier)

-- where it leads
abbrev pub leads : Sights → Config → Referrer Module → List ℕ → Option Module
leads sights config referrer specifier = if_ok (resolution sights config referrer specifier)

abbrev pub targets : Sights → Config → Referrer Module → List Module
targets sights config referrer = filter_map (leads sights config referrer) (specifiers sights config referrer)

abbrev pub ReachedByPage : Sights → Config → Referrer Module → Type 0
ReachedByPage sights config referrer = Reached Module (targets sights config) referrer
