use Rattle.soundness.proofs.Sound.{one_map_in_page}
use Rattle.soundness.proofs.one_map_in_page.Goals as goal

pub returns : goal.returns
returns c = one_map_in_page
