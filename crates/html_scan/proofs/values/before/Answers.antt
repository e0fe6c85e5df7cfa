use Rattle.html_scan.specs.Fronts.{test_of}
use Rattle.html_scan.proofs.Spans.{behind_shorter, before_is}
use Rattle.html_scan.proofs.values.before.Goals as goal

pub text_before-requires : goal.text_before-requires
text_before-requires c = behind_shorter (test_of c.args.end) c.args.bytes.now c.behind.result.now c.behind.ensures

pub returns : goal.returns
returns c = before_is (test_of c.args.end) c.args.bytes.now c.behind.result.now c.text_before.result.now c.behind.ensures c.text_before.ensures
