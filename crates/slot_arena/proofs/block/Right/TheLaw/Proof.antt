-- A `&` to the right to give a block back has nothing.
use denote.RattleType.{RattleType}
use denote.RawPtr.{RawPtr}
use denote.Param.Laws.{Laws}
use denote.Param.Shared.{copy_shared}
use denote.SharingLaws.{nothing_shr_laws}
use denote.Struct.Laws.{field_copy}
use denote.Struct.Lending.{of_Lends, Lends-nothing}
use Rattle.std.specs.declared.alloc.Allocator.{Ghosts}
use Rattle.std.specs.contracts.marker.PhantomData as phantom
use Rattle.slot_arena.specs.contracts.block.Right as Right
use Rattle.slot_arena.proofs.block.Right.TheLaw.Statement.{statement}

pub shares : (R A : RattleType) (ghosts : Ghosts A.Denot) (laws : Laws R) (from : Laws A) → statement R A ghosts laws from
shares R A ghosts laws from =
    of_Lends (Right.struct R A ghosts) (Right.the_codes R.Denot A.Denot R.coded A.coded (phantom.the_row RawPtr).coded) (Right.the_heap R A ghosts) (Right.the_lent R A ghosts) (λ r p. nothing_shr_laws)
    (copy_shared (phantom.the_field RawPtr) (field_copy (phantom.the_type RawPtr) tt), tt) (λ M 𝓤 𝓛 r p. Lends-nothing 𝓛 (Right.the_heap R A ghosts r) (Right.the_row R A ghosts).lives)
