use Rattle.words_parse.proofs.Fronts.{stripped_is_behind}
use Rattle.words_parse.proofs.spelling.behind.Goals as goal

pub returns : goal.returns
returns c = stripped_is_behind c.args.front.now c.args.text.now c.strip_prefix.result c.strip_prefix.ensures.cases
