use Rattle.project_file.proofs.PrintLemmas.{all_printed, all_utf8, more_printed, more_utf8}
use Rattle.project_file.proofs.printing.push_more_strings.Goals as goal

pub loop-text-preserved : goal.loop-text-preserved
loop-text-preserved c = record {
  text = more_printed c.args.texts.now c.loop-text.text-index c.text-item.result c.as_str.result.now c.loop-text-test.true c.text-item.is c.as_str.ensures c.in_ok-push.ensures.items c.in_ok-push_string.ensures c.loop-text.invariant.text;
  utf8 = more_utf8 c.args.texts.now c.loop-text.text-index c.text-item.result c.as_str.result.now c.loop-text-test.true c.text-item.is c.as_str.ensures c.as_str.utf8 c.loop-text.invariant.utf8;
}

pub returns-clause-text : goal.returns-clause-text
returns-clause-text c = all_printed 2 c.loop-text.text-index c.args.texts.now c.loop-text-test.false c.loop-text.invariant.text

pub returns-clause-utf8 : goal.returns-clause-utf8
returns-clause-utf8 c = all_utf8 c.args.texts.now c.loop-text.text-index c.loop-text-test.false c.loop-text.invariant.utf8
