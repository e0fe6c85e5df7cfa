use Rattle.project_spec.proofs.FourMembers.{four_members}
use Rattle.project_spec.proofs.four_members.Goals as goal

pub returns : goal.returns
returns c = four_members
