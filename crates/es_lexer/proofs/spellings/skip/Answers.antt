use Rattle.module_spec.proofs.Suffixes.{blank_shorter}
use Rattle.module_spec.specs.Tokens.Skips.{stop, more}
use Rattle.es_lexer.proofs.spellings.skip.Goals as goal

pub loop-more-smaller : goal.loop-more-smaller
loop-more-smaller c = blank_shorter c.loop-more.rest.now c.in-Some.more.now c.in-Some.ensures

pub loop-more-preserved : goal.loop-more-preserved
loop-more-preserved c end s = c.loop-more.invariant end (more c.in-Some.ensures s)

pub returns : goal.returns
returns c = c.loop-more.invariant c.loop-more.rest.now (stop c.in_default.ensures)
