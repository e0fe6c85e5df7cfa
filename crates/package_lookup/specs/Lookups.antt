-- A look-up, by what it refers to.
--     state_of seen lookup         the folder, what is known of it and the trail, where `seen` tells a folder's state
--     begun_of seen lookup         the same, where a question begins
--     IsSameLookup old new         it refers to what it referred to
use Rattle.std.specs.Prelude.{◌≡◌}
use Rattle.tree_spec.specs.LookLimits.{begun}
use Rattle.tree_spec.specs.States.{FolderState}
use Rattle.package_lookup.specs.declared.lookup.Lookup.{Lookup}
use Rattle.package_lookup.specs.Answered.{State, state}

abbrev pub state_of : {F : Type 0} → (F → FolderState) → Lookup F → State
state_of seen lookup = state (seen lookup.folder.now) lookup.known.now lookup.trail.now

abbrev pub begun_of : {F : Type 0} → (F → FolderState) → Lookup F → State
begun_of seen lookup = state (seen lookup.folder.now) lookup.known.now (begun lookup.trail.now)

pub record IsSameLookup {F : Type 0} (old new : Lookup F) : Type 0 where
  pub known : new.known.ghost_name ≡ old.known.ghost_name
  pub folder : new.folder.ghost_name ≡ old.folder.ghost_name
  pub trail : new.trail.ghost_name ≡ old.trail.ghost_name
