-- What the parts of a block own and lend, for values of the row R.
--
-- place_held R b o v       the place at byte o of the block b: its value, or room for one
-- places_held R b o vs     places side by side from there on
-- room_fits R vs           the places take fewer than 2 ^ 63 bytes
-- block_held R p vs        the places of the block that begins at p
-- place_lent .. block_lent .. κ     what a `&` to these has, for the lifetime κ
-- right_held R token p n   the allocator's token for a block of n places at p
use Rattle.std.specs.Prelude.{ℕ, ◌+◌, ◌*◌, ◌^◌, List, [], ◌∷◌, length, Option, Some, None}
use Rattle.std.specs.Mem.{type_size}
use base.Fraction.{full_share}
use base.Fml.{Lft, Fml, ftrue, ffalse, fsep, flt, froom}
use mir.Syntax.{Ty, ty_array}
use mir.Raw.{raw}
use denote.RattleType.{RattleType}
use denote.Memory.{lone, part_at, shared_of}
use denote.Sharing.{nothing, said, beside}
use denote.RawPtr.{Ptr, block_ptr, null_ptr}

module _ (R : RattleType) where
  abbrev pub place_held : ℕ → ℕ → Option R.Denot → Fml
  place_held b o (Some x) = part_at R full_share x b o
  place_held b o None = froom (raw (lone R.mir)) b o

  abbrev pub places_held : ℕ → ℕ → List (Option R.Denot) → Fml
  places_held b o [] = ftrue
  places_held b o (v ∷ vs) = fsep (place_held b o v) (places_held b (o + type_size R) vs)

  abbrev pub place_lent : ℕ → ℕ → Option R.Denot → Lft → Fml
  place_lent b o (Some x) = shared_of R x b o
  place_lent b o None = nothing

  abbrev pub places_lent : ℕ → ℕ → List (Option R.Denot) → Lft → Fml
  places_lent b o [] = nothing
  places_lent b o (v ∷ vs) = beside (place_lent b o v) (places_lent b (o + type_size R) vs)

  abbrev pub room_fits : List (Option R.Denot) → Fml
  room_fits vs = flt (length vs * type_size R) (2 ^ 63)

  abbrev pub block_held : Ptr → List (Option R.Denot) → Fml
  block_held (block_ptr b o) vs = fsep (room_fits vs) (places_held b o vs)
  block_held null_ptr vs = ffalse

  abbrev pub block_lent : Ptr → List (Option R.Denot) → Lft → Fml
  block_lent (block_ptr b o) vs = beside (said (room_fits vs)) (places_lent b o vs)
  block_lent null_ptr vs = said ffalse

  abbrev pub right_held : (Ty → Ptr → Fml) → Ptr → ℕ → Fml
  right_held token p n = token (raw (ty_array (lone R.mir) n)) p
