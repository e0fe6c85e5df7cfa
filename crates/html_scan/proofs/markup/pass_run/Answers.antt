use Rattle.std.proofs.Common.{◌==◌}
use Rattle.page_spec.specs.declared.kinds.State.TheVariants.{BogusComment, Comment, TagName, AttributeName, AttributeValueDoubleQuoted, AttributeValueSingleQuoted, AttributeValueUnquoted}
use Rattle.page_spec.specs.Pieces.{ends_name}
use Rattle.page_spec.specs.Attributes.{ends_attribute_name, ends_unquoted}
use Rattle.html_scan.proofs.Passing.{run, bogus_comment, comment, tag_name_run, attribute_name_run, double_quoted, single_quoted, unquoted}
use Rattle.html_scan.proofs.Spans.{behind_shorter}
use Rattle.html_scan.proofs.markup.pass_run.Goals as goal

pub returns-in-BogusComment : goal.returns-in-BogusComment
returns-in-BogusComment c = record {
  same = run c.args.state BogusComment (λ b. b == 62) c.args.bytes.now c.behind.result.now bogus_comment c.in-BogusComment.is c.behind.ensures;
  shorter = behind_shorter (λ b. b == 62) c.args.bytes.now c.behind.result.now c.behind.ensures;
}

pub returns-in-Comment : goal.returns-in-Comment
returns-in-Comment c = record {
  same = run c.args.state Comment (λ b. b == 45) c.args.bytes.now c.behind-in-Comment.result.now comment c.in-Comment.is c.behind-in-Comment.ensures;
  shorter = behind_shorter (λ b. b == 45) c.args.bytes.now c.behind-in-Comment.result.now c.behind-in-Comment.ensures;
}

pub returns-in-TagName : goal.returns-in-TagName
returns-in-TagName c = record {
  same = run c.args.state TagName ends_name c.args.bytes.now c.behind-in-TagName.result.now tag_name_run c.in-TagName.is c.behind-in-TagName.ensures;
  shorter = behind_shorter ends_name c.args.bytes.now c.behind-in-TagName.result.now c.behind-in-TagName.ensures;
}

pub returns-in-AttributeName : goal.returns-in-AttributeName
returns-in-AttributeName c = record {
  same = run c.args.state AttributeName ends_attribute_name c.args.bytes.now c.behind-in-AttributeName.result.now attribute_name_run c.in-AttributeName.is c.behind-in-AttributeName.ensures;
  shorter = behind_shorter ends_attribute_name c.args.bytes.now c.behind-in-AttributeName.result.now c.behind-in-AttributeName.ensures;
}

pub returns-in-AttributeValueDoubleQuoted : goal.returns-in-AttributeValueDoubleQuoted
returns-in-AttributeValueDoubleQuoted c = record {
  same = run c.args.state AttributeValueDoubleQuoted (λ b. b == 34) c.args.bytes.now c.behind-in-AttributeValueDoubleQuoted.result.now double_quoted c.in-AttributeValueDoubleQuoted.is c.behind-in-AttributeValueDoubleQuoted.ensures;
  shorter = behind_shorter (λ b. b == 34) c.args.bytes.now c.behind-in-AttributeValueDoubleQuoted.result.now c.behind-in-AttributeValueDoubleQuoted.ensures;
}

pub returns-in-AttributeValueSingleQuoted : goal.returns-in-AttributeValueSingleQuoted
returns-in-AttributeValueSingleQuoted c = record {
  same = run c.args.state AttributeValueSingleQuoted (λ b. b == 39) c.args.bytes.now c.behind-in-AttributeValueSingleQuoted.result.now single_quoted c.in-AttributeValueSingleQuoted.is c.behind-in-AttributeValueSingleQuoted.ensures;
  shorter = behind_shorter (λ b. b == 39) c.args.bytes.now c.behind-in-AttributeValueSingleQuoted.result.now c.behind-in-AttributeValueSingleQuoted.ensures;
}

pub returns-in-AttributeValueUnquoted : goal.returns-in-AttributeValueUnquoted
returns-in-AttributeValueUnquoted c = record {
  same = run c.args.state AttributeValueUnquoted ends_unquoted c.args.bytes.now c.behind-in-AttributeValueUnquoted.result.now unquoted c.in-AttributeValueUnquoted.is c.behind-in-AttributeValueUnquoted.ensures;
  shorter = behind_shorter ends_unquoted c.args.bytes.now c.behind-in-AttributeValueUnquoted.result.now c.behind-in-AttributeValueUnquoted.ensures;
}
