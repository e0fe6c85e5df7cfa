use Rattle.std.proofs.Common.{◌∙◌}
use Rattle.std.proofs.lemmas.Str.{IsCharBoundary-from_ascii}
use Rattle.url_spec.proofs.OwnTexts.{ascii_urls}
use Rattle.web_url.proofs.FileLemmas.{named_path, named_long, named_url}
use Rattle.web_url.proofs.file.behind_scheme.Goals as goal

pub range_from-requires : goal.range_from-requires
range_from-requires c =
    let text = c.args.text.now in
    let ascii = ascii_urls text (named_url text c.requires.0 c.requires.1 c.requires.2) in
    λ _. IsCharBoundary-from_ascii text 7 ascii (named_long text c.requires.0 c.requires.1 c.requires.2)

pub returns : goal.returns
returns c = c.range_from.ensures.value ∙ named_path c.args.text.now c.requires.0 c.requires.1 c.requires.2
