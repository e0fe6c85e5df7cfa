use Rattle.std.proofs.Common.{◌≤◌, ◌≢◌, ◌+◌, ◌∷◌, [], ℕ, List, Bool, Option, IfSome, refl, subst, arith}
use Rattle.tree_spec.specs.declared.LimitName.TheVariants.{Modules, Requests}
use Rattle.tree_spec.specs.Limits.{limit_number}
use Rattle.config_spec.specs.declared.Command.{Command}
use Rattle.config_spec.specs.declared.Command.TheVariants.{CheckStrictly}
use Rattle.generator_spec.specs.Commands.{map_path}
use Rattle.generator_spec.specs.Ending.{Ends}
use Rattle.generator_spec.proofs.Strictnesses.{checking_or_generating}
use Rattle.trace_spec.specs.Modules.{Config}
use Rattle.tree_spec.specs.States.{FolderState, SinkState}
use Rattle.tree_spec.specs.Trees.{Tree}
use Rattle.generator_core.specs.Checking.{AsksGrammar, AsksGrammar as asks, Checks}
use Rattle.generator_core.specs.Spending.{OrderSpends}
use Rattle.generator_core.specs.Strictness.{further_steps}
use Rattle.generator_core.proofs.Checkings.{asks_checking, check_ends}
use Rattle.generator_core.proofs.Endings.{stop_end}
use Rattle.generator_core.proofs.running.check.Goals as goal

-- a check takes no more steps than it may, and says nothing of a map that is written
few_steps : (command : Command) (strictly : Bool) (steps later : ℕ) → AsksGrammar command strictly
    → later ≤ steps + (limit_number Modules + limit_number Requests) + further_steps strictly → command ≢ CheckStrictly
    → later ≤ steps + (limit_number Modules + limit_number Requests)
few_steps command strictly steps later asks.plainly bounded other = omega (arith, bounded)
few_steps command strictly steps later asks.strictly bounded other = absurd (other refl)

more_steps : (command : Command) (strictly : Bool) (steps later : ℕ) → AsksGrammar command strictly
    → later ≤ steps + (limit_number Modules + limit_number Requests) + further_steps strictly
    → later ≤ steps + (limit_number Modules + limit_number Requests) + limit_number Modules
more_steps command strictly steps later asks.plainly bounded = omega (arith, bounded)
more_steps command strictly steps later asks.strictly bounded = bounded

check_spends : (command : Command) (strictly : Bool) (out out_after : SinkState) (result steps later : ℕ) → AsksGrammar command strictly
    → later ≤ steps + (limit_number Modules + limit_number Requests) + further_steps strictly
    → OrderSpends command out out_after result steps later
check_spends command strictly out out_after result steps later asking bounded = record {
  told = λ generating. absurd (checking_or_generating command (asks_checking command strictly asking) generating);
  bounded = few_steps command strictly steps later asking bounded;
  strictly = more_steps command strictly steps later asking bounded;
}

pub returns-in-Ok : goal.returns-in-Ok
returns-in-Ok g c = λ command asking.
    let before = g.F.Folder.state c.args.folder.now in
    let after = g.F.Folder.state c.checked.new.folder in
    let checks = c.checked.ensures.checks command asking in
    record {
      end = λ words is_config. check_ends words command c.args.config.now _ _ _ _ _ c.in-Ok.report is_config (subst (λ r. Checks command c.args.config.now before r after) c.in-Ok.is checks).reported (subst (λ text. Ends c.in-Ok.report.status text (g.O.Sink.state c.args.out.now) (g.O.Sink.state c.tell.new.out) c.tell.result) c.as_slice.ensures.value c.tell.ensures.ends) c.tell.ensures.later;
      asked = checks.asked;
      spends = check_spends command c.args.strictly _ _ _ _ _ asking c.checked.ensures.bounded;
      by_trace = c.checked.ensures.by_trace command asking;
    }

pub returns-in-Err : goal.returns-in-Err
returns-in-Err g c = λ command asking.
    let before = g.F.Folder.state c.args.folder.now in
    let after = g.F.Folder.state c.checked.new.folder in
    let checks = c.checked.ensures.checks command asking in
    record {
      end = λ words is_config. stop_end words command c.args.config.now _ _ _ _ _ is_config c.in-Err.stop (subst (λ r. Checks command c.args.config.now before r after) c.in-Err.is checks).stopped c.close.ensures.tells c.close.ensures.later;
      asked = checks.asked;
      spends = check_spends command c.args.strictly _ _ _ _ _ asking c.checked.ensures.bounded;
      by_trace = c.checked.ensures.by_trace command asking;
    }
