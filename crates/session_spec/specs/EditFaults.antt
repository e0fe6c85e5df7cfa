-- Why an edit can't be made, whatever tree and entries it is of. own.
--     CanRefuseChange change fault    a change can be refused so
--     CanRefuseEdit edit fault        an edit can: one of its changes can
use Rattle.std.specs.Prelude.{ℕ, List, Contains}
use Rattle.session_spec.specs.declared.Change.{Change}
use Rattle.session_spec.specs.declared.Change.TheVariants.{Link, Unlink, Put, Drop}
use Rattle.session_spec.specs.declared.EditFault.{EditFault}
use Rattle.session_spec.specs.declared.EditFault.TheVariants.{NotLinked, TooManyEntries, BadEdit}

-- own: a fault names what its change does
pub data CanRefuseChange : Change → EditFault → Type 0 where
  too_many : (entry : List ℕ) → CanRefuseChange (Link entry) TooManyEntries
  not_linked : (entry : List ℕ) → CanRefuseChange (Unlink entry) (NotLinked entry)
  bad_put : (path bytes : List ℕ) → CanRefuseChange (Put path bytes) (BadEdit path)
  bad_drop : (path : List ℕ) → CanRefuseChange (Drop path) (BadEdit path)

pub record CanRefuseEdit (edit : List Change) (fault : EditFault) : Type 0 where
  pub change : Change
  pub is_of : Contains edit change
  pub refuses : CanRefuseChange change fault
