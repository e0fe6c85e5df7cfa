use Rattle.web_url.proofs.UrlTexts.{parsed_whole}
use Rattle.web_url.proofs.url_text.parse.Goals as goal

pub returns-in-Ok : goal.returns-in-Ok
returns-in-Ok c = record { written = parsed_whole c.args.text.now c.in-Ok.url c.in-Ok.ensures c.as_str-valid.ensures.valid; valid = record { parsed = c.in-Ok.ensures; valid = c.as_str-valid.ensures.valid } }
