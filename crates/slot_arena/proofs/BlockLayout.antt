-- The size and the alignment of a block, as they are asked of an allocator and told to it.
--
-- uncapped                        a product that fits a word is the product with the width that a word holds
-- block_type, block_size, block_align      the type that n places are allocated as, and its layout
-- given_args, From                the type arguments of the two functions, and the allocator's row
-- triple, triple_of_parts         the machine value of three values of one word or none, and what it owns
use mathlib.Core.Path.{◌≡◌, refl, sym, ap, ◌∙◌}
use Prim.Native.Nat.{ℕ, zero, suc, ◌*◌, ◌<◌, ◌^◌}
use native.Mathlib.Nat.{zero-mul, suc-mul}
use native.Mathlib.Omega.{arith}
use mathlib.Core.List.{List, [], ◌∷◌}
use seplogic.Ra.Ura.{Ura}
use mir.Syntax.{Ty, Args, a_type, ty_array, dcons, dnil}
use mir.Val.{Val, vstruct, vcons, vnil}
use mir.Raw.{raw as bare}
use base.Logic.{ent, sep}
use prog.Memory.{size, align, capped}
use prog.Capped.{capped_is}
use prog.RawLaws.{size-raw, align-raw}
use types.Logic.{Logic, sem}
use types.Kit.{‵, ◌$◌, ◌∵◌, !, qed, move, fjoin, fpack, feq_i, done}
use denote.RattleType.{RattleType, Valss}
use denote.Param.{param, bounded}
use denote.Steps.{nothing}
use denote.Struct.Struct.{within}
use denote.Struct.Declared as Declared
use denote.Struct.Tuple.{Tuple, tuple_type}
use Rattle.std.proofs.mem.Param.{El, elτ}
use Rattle.std.proofs.alloc.Calls.{Al}
use Rattle.slot_arena.proofs.BlockMemory.{width}

pub uncapped : (n w : ℕ) → n * w < 2 ^ 64 → n * capped w ≡ n * w
uncapped zero w fits = zero-mul (capped w) ∙ sym (zero-mul w)
uncapped (suc n) w fits = let one_more = suc-mul n w in ap (λ (k : ℕ). suc n * k) (capped_is w (omega arith))

module _ (E : El) where
  abbrev pub block_type : ℕ → Ty
  block_type n = bare (ty_array (elτ E) n)

  pub block_size : (n : ℕ) → n * width E < 2 ^ 64 → capped (size (block_type n)) ≡ n * width E
  block_size n fits = ap capped (size-raw (ty_array (elτ E) n)) ∙ capped_is (n * width E) fits

  pub block_align : (n : ℕ) → capped (align (block_type n)) ≡ capped (align (elτ E))
  block_align n = ap capped (align-raw (ty_array (elτ E) n))

  abbrev pub given_args : Al → Args
  given_args Z = bounded (a_type ∷ a_type ∷ []) (E.row, (Z.row, tt)) (dcons Z.d (dcons Z.drops dnil))

abbrev pub From : Al → RattleType
From Z = param 1 Z.row

abbrev pub triple : Val → Val → Val → Val
triple u v w = vstruct (vcons u (vcons v (vcons w vnil)))

pub triple_of_parts : {M : Type 1} {𝓤 : Ura M} (𝓛 : Logic 𝓤) (A B C : RattleType) (x : A.Denot) (y : B.Denot) (z : C.Denot) (u v w : Val)
    → ent 𝓤 (sep 𝓤 (sem 𝓛 (A.own_val x (u ∷ []))) (sep 𝓤 (sem 𝓛 (B.own_val y (v ∷ []))) (sem 𝓛 (C.own_val z (w ∷ []))))) (sem 𝓛 ((Tuple (A ∷ B ∷ C ∷ [])).own_val (x, y, z) (triple u v w ∷ [])))
triple_of_parts 𝓛 A B C x y z u v w =
    qed 𝓛 (‵ (A.own_val x (u ∷ [])) ∷ ‵ (B.own_val y (v ∷ [])) ∷ ‵ (C.own_val z (w ∷ [])) ∷ []) ∵
    nothing ! $ move ! (3 ∷ 0 ∷ []) $ fjoin ! $ move ! (2 ∷ 0 ∷ []) $ fjoin ! $ move ! (1 ∷ 0 ∷ []) $ fjoin ! $
    feq_i ! (List Val) (triple u v w ∷ []) (triple u v w ∷ []) refl $ fjoin ! $
    fpack ! (Valss (A ∷ B ∷ C ∷ [])) (within (Declared.shape (tuple_type (A ∷ B ∷ C ∷ []))) (x, (y, (z, tt))) (triple u v w ∷ [])) (u ∷ [], (v ∷ [], (w ∷ [], tt))) $ done !
