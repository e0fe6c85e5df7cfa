use Rattle.std.proofs.Common.{length}
use Rattle.words_parse.proofs.link.+link_from.Given as goal

abbrev pub decreases-link_from : goal.decreases-link_from
decreases-link_from l = length l.words.now
