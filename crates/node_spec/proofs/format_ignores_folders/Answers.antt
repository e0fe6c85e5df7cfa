use Rattle.node_spec.proofs.SparedResolutions.{format_ignores_folders}
use Rattle.node_spec.proofs.format_ignores_folders.Goals as goal

pub returns : goal.returns
returns c = format_ignores_folders
