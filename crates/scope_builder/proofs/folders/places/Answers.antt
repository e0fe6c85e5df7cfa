use Rattle.std.proofs.Common.{rules, ap, ◌∙◌}
use Rattle.scope_builder.proofs.PlaceSteps.{front_pushed, all_pushed}
use Rattle.layout_spec.specs.Places.{places}
use Rattle.scope_builder.proofs.folders.places.Goals as goal

pub loop-size-preserved : goal.loop-size-preserved
loop-size-preserved c = record {
  within = search rules;
  left = front_pushed c.as_str-text.result.now c.range.result.now c.loop-size.all c.push_folder.new.all _ c.loop-size.size (search rules) (search rules) (search rules) c.loop-size.invariant.left;
}

pub returns : goal.returns
returns c =
    all_pushed c.as_str-text.result.now c.loop-size.all c.push-2.new.self c.loop-size.size (search rules) (search rules) c.loop-size.invariant.left (search rules)
    ∙ ap places c.as_str-text.ensures.text
