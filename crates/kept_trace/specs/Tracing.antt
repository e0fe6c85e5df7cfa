-- A trace by kept answers.
--     TracesIf right config before known result after later      where what is kept is right, the trace or its first
--                                          refusal; and whatever is kept, all that is owed of a folder that tells no tree
--     KeepsAsked sights asked kept         of each of these questions an answer is kept whose looks see what stands
--                                          here
--     IsFreshAfter before asked after question      it wasn't asked before, or something changed at its footprint
--     FreshIsByTrees                       a question that is asked anew is fresh by the trees before and after
use Rattle.std.specs.Prelude.{◌≡◌, true, false, List, Contains, Result, IfSome}
use Rattle.tree_spec.specs.LookAskings.{Sights}
use Rattle.tree_spec.specs.States.{FolderState}
use Rattle.trace_spec.specs.Checks.{Gathered}
use Rattle.trace_spec.specs.Modules.{Config}
use Rattle.trace_spec.specs.declared.TraceFault.{TraceFault}
use Rattle.package_lookup.specs.Learning.{IsSameIn}
use Rattle.package_lookup.specs.declared.known.Known.{Known}
use Rattle.request_trace.specs.Tracing.{Traces, known_of}
use Rattle.kept_answers.specs.RightAnswers.{untold}
use Rattle.trace_spec.specs.Questions.{Question, put}
use Rattle.kept_spec.specs.Freshness.{IsFresh}
use Rattle.kept_trace.specs.Ready.{AreAllRight, is_anew}
use Rattle.kept_trace.specs.declared.kept.Kept.{Kept}

-- own: and whatever is kept, the tree is as before, and so is what a look at each path answers
pub record TracesIf (right : Type 0) (config : Config) (before : FolderState) (known : Known)
    (result : Result Gathered TraceFault) (after : FolderState) (later : Known) : Type 0 where
  pub is : right → Traces config before known result after later
  pub always : Traces config (untold before) known result (untold after) later
  pub tree : after.holds ≡ before.holds
  pub same : IfSome before.holds (λ tree. IsSameIn tree (known_of before known) (known_of after later))

abbrev pub KeepsAsked : Sights → List Question → Kept → Type 0
KeepsAsked sights asked kept =
    (question : Question) → Contains asked question → is_anew kept sights question ≡ false

abbrev pub IsFreshAfter : Sights → List Question → Sights → Question → Type 0
IsFreshAfter before asked after question = IsFresh (Contains asked question) before after (put question)

-- own: so there are no more questions that take a step than fresh ones
abbrev pub FreshIsByTrees : Type 0
FreshIsByTrees =
    (kept : Kept) (before after : Sights) (asked : List Question) → AreAllRight kept → KeepsAsked before asked kept
    → (question : Question) → is_anew kept after question ≡ true → IsFreshAfter before asked after question
