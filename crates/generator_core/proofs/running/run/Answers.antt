use Rattle.std.proofs.Common.{rules, ◌≤◌, ◌+◌, ℕ, refl, subst, arith}
use Rattle.std.specs.Prelude.{map, string_bytes}
use Rattle.tree_spec.specs.declared.LimitName.TheVariants.{Modules, Requests}
use Rattle.tree_spec.specs.Limits.{limit_number}
use Rattle.tree_spec.proofs.ToldStates.{if_some}
use Rattle.config_spec.proofs.WordsJudged.{words_are_judged}
use Rattle.config_spec.specs.Words.{IsCommandOf, IsSession, Measures}
use Rattle.config_spec.specs.declared.Command.TheVariants.{Why, Vendor}
use Rattle.command_words.specs.Orders.{AsksWhyAt, IsOrder, IsWanted, VendorsAt, command_ordered}
use Rattle.generator_spec.specs.Commands.{IsGenerating, SaysCounts}
use Rattle.generator_spec.specs.Steps.{MeasureSpends}
use Rattle.generator_core.proofs.Endings.{words_end}
use Rattle.generator_core.proofs.Explainings.{why_command}
use Rattle.generator_spec.proofs.Outcomes.{counts_generate}
use Rattle.generator_core.proofs.CopiesTold.{vendor_command}
use Rattle.generator_core.proofs.HeldSessions.{unread_ends}
use Rattle.generator_core.proofs.Measurings.{few_packages}
use Rattle.generator_core.proofs.Runs.{command_is, words_not_done, asks_nothing_in_order}
use Rattle.generator_core.proofs.StepsByTrace.{measure_fits, unspent_words}
use Rattle.generator_core.proofs.running.run.Goals as goal

-- no more steps than those are no more than with one a module more
more_steps : (steps later : ℕ) → later ≤ steps + (limit_number Modules + limit_number Requests) → later ≤ steps + (limit_number Modules + limit_number Requests) + limit_number Modules
more_steps steps later bounded = omega (arith, bounded)

pub returns-in-Ok-Order-clause-ends : goal.returns-in-Ok-Order-clause-ends
returns-in-Ok-Order-clause-ends g c =
    let words = map string_bytes c.args.words.now in
    let is : IsOrder words c.in-Ok-Order.order = subst (IsWanted words) c.in-Ok-Order.field-0-is c.in-Ok-Order.ensures in
    let commanded = command_is words c.in-Ok-Order.order is in
    record {
      command = λ none. record {
        end = c.ordered.ensures.end words is;
        asked = if_some (g.F.Folder.state c.args.folder.now).asked (λ old each. each words is) c.ordered.ensures.asked;
        steps = record {
          told = λ command is_too counts zero. c.ordered.ensures.steps.told (subst IsGenerating ((words_are_judged words).one_command command (command_ordered c.in-Ok-Order.order) is_too commanded) (counts_generate command counts)) zero;
          measured = λ number asks zero. absurd ((words_are_judged words).no_command number (command_ordered c.in-Ok-Order.order) asks commanded);
          by_trace = c.ordered.ensures.by_trace words is;
          bounded = λ other. c.ordered.ensures.steps.bounded (λ same. other (subst (IsCommandOf words) same commanded));
          strictly = c.ordered.ensures.steps.strictly;
          unspent = λ none no_measure. absurd (none _ commanded);
        };
      };
      session = λ asks. absurd ((words_are_judged words).session_or_command (command_ordered c.in-Ok-Order.order) asks commanded);
    }

pub returns-in-Ok-Order-clause-idle : goal.returns-in-Ok-Order-clause-idle
returns-in-Ok-Order-clause-idle g c =
    let words = map string_bytes c.args.words.now in
    let is : IsOrder words c.in-Ok-Order.order = subst (IsWanted words) c.in-Ok-Order.field-0-is c.in-Ok-Order.ensures in
    λ idle. absurd (idle.no_command _ (command_is words c.in-Ok-Order.order is))

pub returns-in-Ok-Why-clause-ends : goal.returns-in-Ok-Why-clause-ends
returns-in-Ok-Why-clause-ends g c =
    let words = map string_bytes c.args.words.now in
    let is : AsksWhyAt words c.in-Ok-Why.path = subst (IsWanted words) c.in-Ok-Why.field-0-is c.in-Ok-Why.ensures in
    let commanded = why_command words c.in-Ok-Why.path is in
    record {
      command = λ none. record {
        end = c.explain.ensures.end words is;
        asked = if_some (g.F.Folder.state c.args.folder.now).asked (λ old each. each words is) c.explain.ensures.asked;
        steps = record {
          told = λ command is_too counts zero. absurd (subst SaysCounts ((words_are_judged words).one_command command Why is_too commanded) counts);
          measured = λ number asks zero. absurd ((words_are_judged words).no_command number Why asks commanded);
          by_trace = c.explain.ensures.by_trace words is;
          bounded = λ other. c.explain.ensures.steps.bounded;
          strictly = more_steps _ _ c.explain.ensures.steps.bounded;
          unspent = λ none no_measure. absurd (none Why commanded);
        };
      };
      session = λ asks. absurd ((words_are_judged words).session_or_command Why asks commanded);
    }

pub returns-in-Ok-Why-clause-idle : goal.returns-in-Ok-Why-clause-idle
returns-in-Ok-Why-clause-idle g c =
    let words = map string_bytes c.args.words.now in
    let is : AsksWhyAt words c.in-Ok-Why.path = subst (IsWanted words) c.in-Ok-Why.field-0-is c.in-Ok-Why.ensures in
    λ idle. absurd (idle.no_command Why (why_command words c.in-Ok-Why.path is))

pub vendor-requires : goal.vendor-requires
vendor-requires g c =
    let words = map string_bytes c.args.words.now in
    let is : VendorsAt words c.in-Ok-Vendor.path = subst (IsWanted words) c.in-Ok-Vendor.field-0-is c.in-Ok-Vendor.ensures in
    is.is_path.no_root

pub returns-in-Ok-Vendor-clause-ends : goal.returns-in-Ok-Vendor-clause-ends
returns-in-Ok-Vendor-clause-ends g c =
    let words = map string_bytes c.args.words.now in
    let is : VendorsAt words c.in-Ok-Vendor.path = subst (IsWanted words) c.in-Ok-Vendor.field-0-is c.in-Ok-Vendor.ensures in
    let commanded = vendor_command words c.in-Ok-Vendor.path is in
    record {
      command = λ none. record {
        end = c.vendor.ensures.end words is;
        asked = if_some (g.F.Folder.state c.args.folder.now).asked (λ old each. each words is) c.vendor.ensures.asked;
        steps = record {
          told = λ command is_too counts zero. absurd (subst SaysCounts ((words_are_judged words).one_command command Vendor is_too commanded) counts);
          measured = λ number asks zero. absurd ((words_are_judged words).no_command number Vendor asks commanded);
          by_trace = c.vendor.ensures.by_trace words is;
          bounded = λ other. c.vendor.ensures.steps.bounded;
          strictly = more_steps _ _ c.vendor.ensures.steps.bounded;
          unspent = λ none no_measure. absurd (none Vendor commanded);
        };
      };
      session = λ asks. absurd ((words_are_judged words).session_or_command Vendor asks commanded);
    }

pub returns-in-Ok-Vendor-clause-idle : goal.returns-in-Ok-Vendor-clause-idle
returns-in-Ok-Vendor-clause-idle g c =
    let words = map string_bytes c.args.words.now in
    let is : VendorsAt words c.in-Ok-Vendor.path = subst (IsWanted words) c.in-Ok-Vendor.field-0-is c.in-Ok-Vendor.ensures in
    λ idle. absurd (idle.no_command Vendor (vendor_command words c.in-Ok-Vendor.path is))

pub measure-requires : goal.measure-requires
measure-requires g c =
    let words = map string_bytes c.args.words.now in
    few_packages words c.in-Ok-Measure.number (subst (IsWanted words) c.in-Ok-Measure.field-0-is c.in-Ok-Measure.ensures)

pub returns-in-Ok-Measure-clause-ends : goal.returns-in-Ok-Measure-clause-ends
returns-in-Ok-Measure-clause-ends g c =
    let words = map string_bytes c.args.words.now in
    let asks : Measures words c.in-Ok-Measure.number = subst (IsWanted words) c.in-Ok-Measure.field-0-is c.in-Ok-Measure.ensures in
    record {
      command = λ none. record {
        end = c.measure.ensures.end words (g.F.Folder.state c.args.folder.now) asks;
        asked = asks_nothing_in_order words (g.F.Folder.state c.args.folder.now);
        steps = record {
          told = λ command is generating zero. absurd ((words_are_judged words).no_command c.in-Ok-Measure.number command asks is);
          measured = λ number asks_too zero. subst (λ n. MeasureSpends n (g.O.Sink.state c.args.out.now) (g.O.Sink.state c.measure.new.out) c.args.steps.now c.measure.new.steps) ((words_are_judged words).one_measure c.in-Ok-Measure.number number asks asks_too) (c.measure.ensures.told zero);
          by_trace = measure_fits words c.in-Ok-Measure.number (g.F.Folder.state c.args.folder.now).holds _ _ asks;
          bounded = λ other. c.measure.ensures.bounded;
          strictly = more_steps _ _ c.measure.ensures.bounded;
          unspent = λ none no_measure. absurd (no_measure c.in-Ok-Measure.number asks);
        };
      };
      session = λ asks_too. absurd ((words_are_judged words).session_or_measure c.in-Ok-Measure.number asks_too asks);
    }

pub returns-in-Ok-Session-clause-ends : goal.returns-in-Ok-Session-clause-ends
returns-in-Ok-Session-clause-ends g c =
    let words = map string_bytes c.args.words.now in
    let asks : IsSession words = subst (IsWanted words) c.in-Ok-Session.field-0-is c.in-Ok-Session.ensures in
    record { command = λ none. absurd (none asks); session = λ is. c.hold.ensures }

pub returns-in-Ok-Session-clause-idle : goal.returns-in-Ok-Session-clause-idle
returns-in-Ok-Session-clause-idle g c =
    let words = map string_bytes c.args.words.now in
    λ idle. absurd (idle.no_session (subst (IsWanted words) c.in-Ok-Session.field-0-is c.in-Ok-Session.ensures))

pub returns-in-Ok-Session-clause-input : goal.returns-in-Ok-Session-clause-input
returns-in-Ok-Session-clause-input g c =
    let words = map string_bytes c.args.words.now in
    λ none. absurd (none (subst (IsWanted words) c.in-Ok-Session.field-0-is c.in-Ok-Session.ensures))

pub returns-in-Ok-Session-clause-watch : goal.returns-in-Ok-Session-clause-watch
returns-in-Ok-Session-clause-watch g c =
    let words = map string_bytes c.args.words.now in
    λ none. absurd (none (subst (IsWanted words) c.in-Ok-Session.field-0-is c.in-Ok-Session.ensures))

pub returns-in-Err-clause-ends : goal.returns-in-Err-clause-ends
returns-in-Err-clause-ends g c =
    let words = map string_bytes c.args.words.now in
    let folder = g.F.Folder.state c.args.folder.now in
    record {
      command = λ none. record {
        end = words_end words folder _ _ _ c.in-Err.fault c.in-Err.ensures c.misworded.ensures.tells c.misworded.ensures.later;
        asked = asks_nothing_in_order words folder;
        steps = record {
          told = λ command is generating zero. absurd (words_not_done c.in-Err.fault _ _ _ c.misworded.ensures.tells zero);
          measured = λ number asks zero. absurd (words_not_done c.in-Err.fault _ _ _ c.misworded.ensures.tells zero);
          by_trace = unspent_words words folder.holds _;
          bounded = λ other. search rules;
          strictly = search rules;
          unspent = λ none no_measure. refl;
        };
      };
      session = unread_ends words folder (g.I.Source.state c.args.input.now) _ _ _ _ _ c.in-Err.fault c.in-Err.ensures c.misworded.ensures.tells c.misworded.ensures.later;
    }
