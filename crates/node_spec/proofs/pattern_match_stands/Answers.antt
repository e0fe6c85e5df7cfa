use Rattle.node_spec.proofs.PatternParts.{pattern_match_stands}
use Rattle.node_spec.proofs.pattern_match_stands.Goals as goal

pub returns : goal.returns
returns c = pattern_match_stands
