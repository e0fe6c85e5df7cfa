-- A `&` to the owner of a block is made of one to each of its values.
use Prim.Native.Nat.{ℕ, ◌+◌}
use Rattle.std.specs.Prelude.{List, [], ◌∷◌, Option, Some, None}
use Rattle.std.specs.Mem.{type_size}
use seplogic.Ra.Ura.{Ura}
use base.Fml.{Lft, Incl, ftrue, ffalse}
use types.Logic.{Logic}
use denote.RattleType.{RattleType, RowLaws}
use denote.Param.Laws.{Laws}
use denote.RawPtr.{Ptr, block_ptr, null_ptr}
use denote.Sharing.{ShrLaws, said}
use denote.SharingLaws.{beside_shr_laws, nothing_shr_laws, said_shr_laws}
use denote.Shares.{Shares-less}
use denote.Struct.Lending.{Lends, Lends-both, Lends-nothing, Lends-said, Lends-false}
use Rattle.slot_arena.specs.Blocks.{place_held, places_held, place_lent, places_lent, room_fits, block_held, block_lent}

-- what is lent may be copied, and used for a shorter time
module _ (R : RattleType) (rows : RowLaws R) where
  place-shared : (b o : ℕ) (v : Option R.Denot) → ShrLaws (place_lent R b o v)
  place-shared b o None = nothing_shr_laws
  place-shared b o (Some x) = rows x b o

  places-shared : (b o : ℕ) (vs : List (Option R.Denot)) → ShrLaws (places_lent R b o vs)
  places-shared b o [] = nothing_shr_laws
  places-shared b o (v ∷ vs) = beside_shr_laws _ _ (place-shared b o v) (places-shared b (o + type_size R) vs)

  pub block-shared : (p : Ptr) (vs : List (Option R.Denot)) → ShrLaws (block_lent R p vs)
  block-shared null_ptr vs = said_shr_laws ffalse tt
  block-shared (block_ptr b o) vs = beside_shr_laws _ _ (said_shr_laws (room_fits R vs) tt) (places-shared b o vs)

-- what is held makes what is lent
module _ {M : Type 1} {𝓤 : Ura M} (𝓛 : Logic 𝓤) (l : Lft) (R : RattleType) (laws : Laws R) (outlives : Incl l R.lives) where
  place-lends : (b o : ℕ) (v : Option R.Denot) → Lends 𝓛 (place_held R b o v) (place_lent R b o v) l
  place-lends b o None = Lends-nothing 𝓛 (place_held R b o None) l
  place-lends b o (Some x) = λ κ tokens. Shares-less 𝓛 R R.lives l outlives (laws.shares 𝓛) x κ tokens b o

  places-lend : (b o : ℕ) (vs : List (Option R.Denot)) → Lends 𝓛 (places_held R b o vs) (places_lent R b o vs) l
  places-lend b o [] = Lends-nothing 𝓛 ftrue l
  places-lend b o (v ∷ vs) =
      let next = o + type_size R in
      Lends-both 𝓛 (place_held R b o v) (places_held R b next vs) (place_lent R b o v) (places_lent R b next vs) l (place-lends b o v) (places-lend b next vs)

  pub block-lends : (p : Ptr) (vs : List (Option R.Denot)) → Lends 𝓛 (block_held R p vs) (block_lent R p vs) l
  block-lends null_ptr vs = Lends-false 𝓛 (said ffalse) l
  block-lends (block_ptr b o) vs =
      Lends-both 𝓛 (room_fits R vs) (places_held R b o vs) (said (room_fits R vs)) (places_lent R b o vs) l (Lends-said 𝓛 (room_fits R vs) tt l) (places-lend b o vs)
