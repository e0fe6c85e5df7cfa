use Rattle.url_spec.proofs.NormalTexts as laws
use Rattle.url_spec.proofs.normal_texts.Goals as goal

pub returns : goal.returns
returns c = laws.normal_texts
