use Rattle.web_url.proofs.UrlTexts.{joined_whole}
use Rattle.web_url.proofs.url_text.join.Goals as goal

pub returns-in-Ok : goal.returns-in-Ok
returns-in-Ok c = record { written = joined_whole c.args.base.now c.in-Ok.url c.args.text.now c.in-Ok.ensures c.as_str-valid.ensures.valid c.requires c.as_str-valid_too.ensures.valid }
