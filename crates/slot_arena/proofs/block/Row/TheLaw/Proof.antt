-- A `&` to the owner of a block reaches its values.
use mathlib.Core.List.{[], ◌++◌}
use base.Fml.{Incl-trans}
use contract.BorrowLft.{meet_⊑_left}
use denote.RattleType.{RattleType}
use denote.RawPtr.{RawPtr}
use denote.Param.Laws.{Laws}
use denote.Param.Shared.{copy_shared}
use denote.Struct.Laws.{field_copy}
use denote.Struct.Lending.{of_Lends}
use Rattle.std.specs.contracts.marker.PhantomData as phantom
use Rattle.slot_arena.specs.contracts.block.Row as Row
use Rattle.slot_arena.proofs.block.Row.TheLaw.Statement.{statement}
use Rattle.slot_arena.proofs.BlockShares.{block-shared, block-lends}

pub shares : (R : RattleType) (laws : Laws R) → statement R laws
shares R laws = of_Lends (Row.struct R) (Row.the_codes R.Denot R.coded (phantom.the_row RawPtr).coded) (Row.the_heap R) (Row.the_lent R)
    (λ r p. block-shared R laws.shr_laws r.start r.places) (copy_shared (phantom.the_field RawPtr) (field_copy (phantom.the_type RawPtr) tt), tt)
    (λ M 𝓤 𝓛 r p. block-lends 𝓛 (Row.the_row R).lives R laws (Incl-trans (meet_⊑_left (R.lives ++ []) _) (meet_⊑_left R.lives [])) r.start r.places)
