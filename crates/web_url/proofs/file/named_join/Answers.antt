use Rattle.web_url.proofs.FileLemmas.{named_url}
use Rattle.web_url.proofs.file.named_join.Goals as goal

pub parsed-requires : goal.parsed-requires
parsed-requires c = named_url c.args.own.now c.args.path.now c.args.folder c.requires
