-- A trace that isn't refused asks one question for each module and one for each request; of any, it is told what it asks.
use Rattle.std.proofs.Common.{◌≡◌, ◌≤◌, ◌+◌, ◌++◌, ℕ, List, [], ◌∷◌, length, map, Option, Some, Result, Ok, Err, refl, sym, ap, ◌∙◌, subst, inl, arith, length-append}
use Rattle.std.proofs.lemmas.Option.{same_Some}
use Rattle.std.proofs.lemmas.List.{length-map}
use Rattle.std.specs.FinMap.{get}
use Rattle.asking_spec.proofs.EvaluationLemmas.{evaluated_comes, evaluated_listed}
use Rattle.asking_spec.specs.Evaluation.{Ended, ends, stopped, Asked, evaluated, listed, unlisted}
use Rattle.tree_spec.specs.LookAskings.{Sights}
use Rattle.tree_spec.specs.LookLimits.{Trail}
use Rattle.tree_spec.specs.Trees.{Tree}
use Rattle.tree_spec.specs.declared.LimitName.{LimitName}
use Rattle.trace_spec.specs.declared.TraceFault.{TraceFault}
use Rattle.trace_spec.proofs.RefusalOrder.{refuses_in_order}
use Rattle.trace_spec.proofs.Steps.{answers_always}
use Rattle.trace_spec.proofs.Traces.{goes_in_order}
use Rattle.trace_spec.specs.Checks.{Gathered, asking_at}
use Rattle.trace_spec.specs.Laws.{asked_by_end, asked_in, led_in, none_asked, opening, visits_of}
use Rattle.trace_spec.specs.Modules.{Config, Module}
use Rattle.trace_spec.specs.Questions.{Question, always, answers}
use Rattle.trace_spec.specs.Traces.{leads, result_of, specifiers, state_of, trace, traced}
use Rattle.trace_spec.specs.Walking.{Referrer, the_page, a_module}
use Rattle.config_spec.specs.declared.Command.{Command}
use Rattle.generator_spec.specs.Laws.{StepsAreCounted}
use Rattle.generator_spec.specs.Steps.{SpendsByTrace, TraceSpends, further_steps, steps_behind}

module _ (sights : Sights) (config : Config) where
  -- one visit asks what opens it, and then as often as it leads somewhere
  of_visit : (referrer : Referrer Module) (asked : List Question) (led : List (Option Module))
      → length ((opening referrer ++ map (asking_at config referrer) (specifiers sights config referrer)) ++ asked)
      + length led
      ≡ length (opening referrer) + length asked
      + length (map (leads sights config referrer) (specifiers sights config referrer) ++ led)
  of_visit referrer asked led =
      let requests = specifiers sights config referrer in
      let here = map (asking_at config referrer) requests in
      let there = map (leads sights config referrer) requests in
      let all = length-append (opening referrer ++ here) asked in
      let own = length-append (opening referrer) here in
      let behind = length-append there led in
      let many = length-map requests (asking_at config referrer) in
      let few = length-map requests (leads sights config referrer) in
      omega (arith, all, own, behind, many, few)

  of_modules : (modules : List Module)
      → length (asked_in sights config (map a_module modules))
      ≡ length modules + length (led_in sights config (map a_module modules))
  of_modules [] = refl
  of_modules (m ∷ more) =
      let rest = of_modules more in
      let first =
      of_visit (a_module m) (asked_in sights config (map a_module more)) (led_in sights config (map a_module more)) in
      omega (arith, rest, first)

  of_all : (modules : List Module)
      → length (asked_in sights config (the_page ∷ map a_module modules))
      ≡ length modules + length (led_in sights config (the_page ∷ map a_module modules))
  of_all modules =
      let rest = of_modules modules in
      let first =
      of_visit the_page (asked_in sights config (map a_module modules)) (led_in sights config (map a_module modules)) in
      omega (arith, rest, first)

  pub record AsksForEach (all : Gathered) : Type 0 where
    pub asked : List Question
    pub are : asked_by_end sights config ≡ Some asked
    pub count : length asked ≡ length all.modules + length all.targets

  abbrev End : Type 0
  End = Ended (Result Gathered TraceFault) (Asked Trail Question) LimitName

  as_counted : (all : Gathered) (end : End)
      → evaluated (listed (answers sights)) none_asked (trace config) ≡ end → result_of (unlisted end) ≡ Ok all
      → traced sights config ≡ Ok all → AsksForEach all
  as_counted all (stopped limit after) is comes traces = absurd (cc)
  as_counted all (ends value after) is comes traces =
      let order = goes_in_order sights config all traces in
      let came =
      evaluated_comes (answers sights) (always sights) (answers_always sights) none_asked (trace config) value after is in
      let many = of_all all.modules in
      let targets = ap length order.targets in
      let led = length-map all.targets Some in
      record {
        asked = asked_in sights config (visits_of all);
        are = ap (λ (e : End). (state_of e).asked) is ∙ (came.asked ∙ ap Some order.asked);
        count = omega (arith, many, targets, led);
      }

  pub asks_for_each : (all : Gathered) → traced sights config ≡ Ok all → AsksForEach all
  asks_for_each all traces =
      as_counted all (evaluated (listed (answers sights)) none_asked (trace config)) refl
      (ap result_of (evaluated_listed (answers sights) none_asked (trace config)) ∙ traces) traces

-- whatever a trace comes to, it is told what was asked until then
pub record IsAskedTo (sights : Sights) (config : Config) : Type 0 where
  pub asked : List Question
  pub are : asked_by_end sights config ≡ Some asked

pub always_asked : (sights : Sights) (config : Config) → IsAskedTo sights config
always_asked sights config = of_result (traced sights config) refl
  where
    of_result : (found : Result Gathered TraceFault) → traced sights config ≡ found → IsAskedTo sights config
    of_result (Ok all) traces = let each = asks_for_each sights config all traces in record { asked = each.asked; are = each.are }
    of_result (Err fault) refuses = record { asked = _; are = (refuses_in_order sights config fault refuses).asked }

-- no step is no more than any trace asks
pub none_by_trace : (tree : Tree) (command : Command) (config : Config) (steps : ℕ) → SpendsByTrace tree command config steps steps
none_by_trace tree command config steps =
    let all = always_asked (get tree) config in
    record { asked = all.asked; are = all.are; few = omega arith; opened = inl refl }

pub none_by_words : (words : List (List ℕ)) (tree : Tree) (steps : ℕ) → TraceSpends words tree steps steps
none_by_words words tree steps = record {
  by_config = λ command config is. none_by_trace tree command config steps;
  no_config = λ none no_measure. refl;
}

pub steps_are_counted : StepsAreCounted
steps_are_counted words tree before after spends command config all is traces =
    let each = asks_for_each (get tree) config all traces in
    let taken = spends.by_config command config is in
    let count = each.count in
    let same = ap length (same_Some taken.asked each.asked (sym taken.are ∙ each.are)) in
    let few : after ≤ before + length taken.asked + further_steps all command =
    subst (λ trace. after ≤ before + length taken.asked + steps_behind trace command) traces taken.few in
    omega (arith, few, count, same)
