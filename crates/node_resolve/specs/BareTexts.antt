-- Answers to the bare texts of a target in `imports`.
--     found_shown found            the answer to a bare text
--     last_shown last              the same, where a text was answered
--     lost_by fault                why nothing is told where memory is wanting
--     split_shown result           of a call, an answer or what kept the text from being answered
--     chosen_shown result last     what a target comes to, and the answer to the text that was asked for last
--     Kept, kept state last fault  what the object that answers keeps
--     GivesBare ask before text answer after      one call of it
--     KeepsNames old new           the object writes where it wrote before
use Rattle.std.specs.Prelude.{◌≡◌, ℕ, List, Option, Some, None, option_map, Result, Ok, Err}
use Rattle.node_spec.specs.NodeAnswers as spec
use Rattle.node_spec.specs.NodeAnswers.{Url, Resolving}
use Rattle.node_spec.specs.PackageTargetResolve.{Came, came, judge_bare}
use Rattle.node_spec.specs.PackageTargetResolve as target
use Rattle.node_spec.specs.declared.BareAnswer.{BareAnswer}
use Rattle.node_spec.specs.declared.BareAnswer.TheVariants.{Stop}
use Rattle.node_spec.specs.declared.Outcome.{Outcome}
use Rattle.package_lookup.specs.Answered.{State, Answered}
use Rattle.package_lookup.specs.Lookups.{IsSameLookup}
use Rattle.package_lookup.specs.Responses.{Response, given, fails, Failing, passes, not_read, no_memory, never}
use Rattle.node_resolve.specs.declared.bare_texts.BareTexts.{BareTexts}
use Rattle.node_resolve.specs.declared.bare_texts.Refusal.{Refusal}
use Rattle.node_resolve.specs.declared.bare_texts.Refusal.TheVariants.{ByCause, TooDeep}
use Rattle.node_resolve.specs.declared.fault.NodeFault.{NodeFault}
use Rattle.node_resolve.specs.Responses.{by_node_fault}

abbrev pub found_shown : Result (List ℕ) Refusal → target.Found
found_shown (Ok url) = Ok url
found_shown (Err (ByCause cause)) = Err (spec.by_cause cause)
found_shown (Err TooDeep) = Err spec.too_deep

abbrev pub last_shown : Option (Result (List ℕ) Refusal) → Option target.Found
last_shown last = option_map found_shown last

abbrev pub failing_in : {X : Type 0} → Response X → Failing
failing_in (given value) = never
failing_in (fails failing) = failing

-- a refusal is an answer
abbrev pub failing_of : NodeFault → Failing
failing_of fault = failing_in (by_node_fault {X = Url} fault)

-- where memory is wanting, unless a look had failed
abbrev pub lost_by : Option Failing → Failing
lost_by None = no_memory
lost_by (Some (passes name)) = no_memory
lost_by (Some not_read) = not_read
lost_by (Some no_memory) = no_memory
lost_by (Some never) = no_memory

abbrev pub split_shown : Result (Result (List ℕ) Refusal) NodeFault → Response target.Found
split_shown (Ok found) = given (found_shown found)
split_shown (Err fault) = fails (failing_of fault)

abbrev pub chosen_shown : Result Outcome NodeFault → Option (Result (List ℕ) Refusal) → Response (Came target.Found)
chosen_shown (Ok out) last = given (came out (last_shown last))
chosen_shown (Err fault) last = fails (failing_of fault)

pub record Kept : Type 0 where
  pub state : State
  pub last : Option target.Found
  pub fault : Option Failing

abbrev pub kept : State → Option (Result (List ℕ) Refusal) → Option NodeFault → Kept
kept state last fault = record { state = state; last = last_shown last; fault = option_map failing_of fault }

pub data GivesBare (ask : List ℕ → Resolving Url) (before : Kept) (text : List ℕ) : BareAnswer → Kept → Type 0 where
  a_value :
      {found : target.Found} {answer : BareAnswer} {after : Kept}
      → Answered before.state (ask text) (given found) after.state → answer ≡ judge_bare found
      → after.last ≡ Some found → after.fault ≡ before.fault → GivesBare ask before text answer after
  a_fault :
      {failing : Failing} {answer : BareAnswer} {after : Kept}
      → Answered before.state (ask text) (fails failing) after.state → answer ≡ Stop → after.fault ≡ Some failing
      → GivesBare ask before text answer after

pub record KeepsNames {F : Type 0} (old new : BareTexts F) : Type 0 where
  pub lookup : new.lookup.ghost_name ≡ old.lookup.ghost_name
  pub same : IsSameLookup old.lookup.now new.lookup.now
  pub last : new.last.ghost_name ≡ old.last.ghost_name
