use Rattle.std.proofs.Common.{◌≡◌, [], take}
use Rattle.config_spec.specs.Projects.{once_onto}
use Rattle.project_config.proofs.entries.once.Given as goal

abbrev pub invariant-loop-text : goal.invariant-loop-text
invariant-loop-text l = l.seen.keys ≡ once_onto [] (take l.text-index l.texts)
