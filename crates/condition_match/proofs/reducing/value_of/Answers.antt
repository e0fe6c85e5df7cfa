use Rattle.std.proofs.Common.{ap, sym, ◌∙◌}
use Rattle.json_spec.specs.Value.{an_object}
use Rattle.ordered_json.specs.Shown.{members_of}
use Rattle.ordered_json.proofs.ShownLemmas.{json_of_object}
use Rattle.ordered_json.proofs.IsJsonLemmas.{json_of_null, json_of_bool}
use Rattle.condition_match.specs.Reducing.{shown}
use Rattle.condition_match.proofs.reducing.value_of.Goals as goal

pub returns-in-Undefined : goal.returns-in-Undefined
returns-in-Undefined c = json_of_object _ ∙ (ap (λ ps. an_object (members_of ps)) c.new.ensures ∙ sym (ap shown c.in-Undefined.is))

pub returns-in-Null : goal.returns-in-Null
returns-in-Null c = json_of_null ∙ sym (ap shown c.in-Null.is)

pub returns-in-InvalidTarget : goal.returns-in-InvalidTarget
returns-in-InvalidTarget c = json_of_bool _ ∙ sym (ap shown c.in-InvalidTarget.is)

pub returns-in-As : goal.returns-in-As
returns-in-As c = sym (ap shown c.in-As.is)
