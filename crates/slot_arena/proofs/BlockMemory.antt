-- What the walks of the six functions over a block share.
--
-- the rows of the types: Held (the owner), Begin (the address), Mark (a field that takes no bytes), width (of one value)
-- begin_is, begin_of, mark_is, mark_of     which machine value an address or a mark is, and what it owns of that
-- whole_value, one_value                    a value in its place is one machine value that lies there, with what it owns
-- place_out, place_in, place_seen           one place is taken from the row, put back, or seen
-- room_places, places_room                  room for an array is a row of empty places
use mathlib.Core.Path.{◌≡◌, refl, sym, subst}
use Prim.Native.Nat.{ℕ, zero, suc, ◌+◌, ◌*◌, ◌<◌}
use native.Mathlib.Omega.{arith}
use native.Mathlib.Nat.{zero-mul, suc-mul}
use mathlib.Core.List.{List, [], ◌∷◌, ◌++◌}
use lib.ListN.{length, set, get_or, replicate}
use seplogic.Ra.Ura.{Ura}
use base.Fraction.{full_share}
use mir.Syntax.{Ty, ty_array}
use mir.Val.{Val, vstruct, vcons, vnil, of_list}
use base.Logic.{SProp, ent, sep, emp, ex, guard, via}
use base.Fml.{Fml, Lft, ftrue, fsep, fat, froom}
use types.Logic.{Logic, sem}
use contract.Monad.{fact, fact_i}
use types.Kit.{Item, Goal, Seq, Step, step, prop, ‵, raw, some, ◌⊛◌, ◌$◌, ◌∵◌, !, qed, by, move, keep, drop, use0, use1, use2, pick, split, check, show, frame, fsplit, fjoin, fpick, fpack, feq_i, feq_l, rewrite, done}
use denote.RattleType.{RattleType, Valss}
use denote.Laws.{Typed, Is, shows}
use denote.Param.{layout}
use denote.Param.Laws.{param_laws}
use denote.Memory.{part_at}
use denote.RawPtr.{Ptr, RawPtr, ptr_val}
use denote.Shadow.{makes_shadow}
use denote.Steps.{nothing, peeks}
use denote.Struct.Struct.{Shape, Struct, within}
use denote.Struct.Owning.{shape}
use borrow.Table.OneValue.{part_in, part_out}
use Rattle.std.specs.Prelude.{Option, None}
use Rattle.std.specs.Mem.{type_size}
use Rattle.std.proofs.mem.Param.{El, R, el_x, elτ}
use Rattle.std_alloc.proofs.RcSteps.{Good, word}
use Rattle.slot_arena.specs.Blocks.{place_held, places_held, place_lent, places_lent}
use Rattle.slot_arena.specs.contracts.block.Row as Row
use Rattle.slot_arena.specs.contracts.block.Start as Start

module _ (E : El) where
  abbrev pub Held : RattleType
  Held = Row.the_row (R E)

  abbrev pub Begin : RattleType
  Begin = Start.the_row (R E)

  abbrev pub Mark : RattleType
  Mark = Struct (shape (Row.the_type (R E)))

  abbrev pub width : ℕ
  width = type_size (R E)

  abbrev pub Cell : Type 0
  Cell = Option (el_x E)

abbrev pointer : Shape
pointer = record { name = []; args = []; types = []; fields = RawPtr ∷ [] }

abbrev pub Pointer : RattleType
Pointer = Struct pointer

-- the machine value of a mark
abbrev pub blank : Val
blank = vstruct (vcons (vstruct vnil) vnil)

pub mark_of : (E : El) {M : Type 1} {𝓤 : Ura M} (𝓛 : Logic 𝓤) → ent 𝓤 (emp 𝓤) (sem 𝓛 ((Mark E).own_val (tt, tt) (blank ∷ [])))
mark_of E 𝓛 =
    makes_shadow 𝓛 ((Mark E).own_val (tt, tt) (blank ∷ [])) (λ fields. (tt, ((λ none. (tt, tt)), tt))) ((vstruct vnil ∷ [], tt), (refl, ((tt, (refl, tt)), tt)))

module _ {M : Type 1} {𝓤 : Ura M} {𝓛 : Logic 𝓤} {K : Type 0} {Γ : List (Item 𝓤)} {G : Goal 𝓤 𝓛.H} where
  pub begin_is : K → (p : Ptr) (vs : List Val) → (vs ≡ word p ∷ [] → Seq K 𝓛 Γ G) → Seq K 𝓛 (‵ (Pointer.own_val (p, tt) vs) ∷ Γ) G
  begin_is t p vs then =
      fpick t (λ fields. fsplit t $ feq_l t (λ all. fsplit t $ feq_l t (λ one. drop t $
      then (subst (λ (ws : List Val). vs ≡ vstruct (of_list (ws ++ [])) ∷ []) one all))))

  pub begin_of : K → (p : Ptr) → Step K 𝓛 (‵ (Pointer.own_val (p, tt) (word p ∷ [])) ∷ Γ) G Γ G
  begin_of t p = step (λ rest.
      nothing t $ feq_i t (List Val) (ptr_val p ∷ []) (ptr_val p ∷ []) refl $ fjoin t $
      feq_i t (List Val) (word p ∷ []) (word p ∷ []) refl $ fjoin t $
      fpack t (Valss (RawPtr ∷ [])) (within pointer (p, tt) (word p ∷ [])) (ptr_val p ∷ [], tt) $ rest)

  pub mark_is : K → (E : El) (vs : List Val) → (vs ≡ blank ∷ [] → Seq K 𝓛 Γ G) → Seq K 𝓛 (‵ ((Mark E).own_val (tt, tt) vs) ∷ Γ) G
  mark_is t E vs then =
      fpick t (λ fields. fsplit t $ feq_l t (λ all. fsplit t $ fpick t (λ none. fsplit t $ feq_l t (λ one. drop t $ drop t $
      then (subst (λ (ws : List Val). vs ≡ vstruct (of_list (ws ++ [])) ∷ []) one all)))))

-- an `ensures` of two plain clauses
module _ {M : Type 1} {𝓤 : Ura M} {𝓛 : Logic 𝓤} {K : Type 0} {Γ : List (Item 𝓤)} where
  pub says_two : K → {φ ψ : Type 0} {P : SProp 𝓤} → φ → ψ → Step K 𝓛 Γ (prop P) Γ (prop (sep 𝓤 P (sep 𝓤 (fact 𝓤 φ) (fact 𝓤 ψ))))
  says_two t {φ} {ψ} {P} x y = step (λ rest. record {
    prf = via 𝓤 P rest.prf (qed 𝓛 (raw P ∷ []) {P = sep 𝓤 P (sep 𝓤 (fact 𝓤 φ) (fact 𝓤 ψ))} (
        frame ! $ use0 𝓛 (raw (fact 𝓤 ψ)) (fact_i 𝓤 ψ (emp 𝓤) y) $ use0 𝓛 (raw (fact 𝓤 φ)) (fact_i 𝓤 φ (emp 𝓤) x) $ done !));
  })

-- a value of the type parameter, in its place and by itself
module _ (E : El) {M : Type 1} {𝓤 : Ura M} (𝓛 : Logic 𝓤) where
  open 𝓛 use {H}

  abbrev τ : Ty
  τ = layout E.row

  pub value_out : (x : E.row.Denot) (b o : ℕ)
      → ent 𝓤 (sem 𝓛 (part_at (R E) full_share x b o)) (ex 𝓤 (λ (v : Val). guard 𝓤 (Good τ v) (sep 𝓤 (H.at full_share τ b o v) (sem 𝓛 (E.row.own_val x (v ∷ []))))))
  value_out x b o = qed 𝓛 (‵ (part_at (R E) full_share x b o) ∷ []) ∵
      use1 𝓛 (some (λ (v : Val). ‵ (fat full_share τ b o v) ⊛ ‵ (E.row.own_val x (v ∷ [])))) (part_out 𝓛 (R E) refl full_share x b o) $
      pick ! (λ v. split ! $ move ! (1 ∷ []) $ peeks ! (R E) (Is (R E)) (shows 𝓛 (R E)) x (v ∷ []) (λ is.
      show ! (λ (w : Val). guard 𝓤 (Good τ w) (sep 𝓤 (H.at full_share τ b o w) (sem 𝓛 (E.row.own_val x (w ∷ []))))) v $
      check ! (((param_laws 0 E.row E.laws).lawful 𝓛).typed x (v ∷ []) is).0 $ move ! (1 ∷ 0 ∷ []) $ done !))

  pub value_in : (x : E.row.Denot) (b o : ℕ) (v : Val) → ent 𝓤 (sep 𝓤 (H.at full_share τ b o v) (sem 𝓛 (E.row.own_val x (v ∷ [])))) (sem 𝓛 (part_at (R E) full_share x b o))
  value_in x b o v = part_in 𝓛 (R E) refl full_share x b o v

only_one : (τ : Ty) (vs : List Val) → Typed (τ ∷ []) vs → (v : Val) × ((vs ≡ v ∷ []) × Good τ v)
only_one τ [] t = absurd t
only_one τ (v ∷ []) t = (v, (refl, t.0))
only_one τ (v ∷ w ∷ vs) t = absurd t.1

module _ (E : El) {M : Type 1} {𝓤 : Ura M} {𝓛 : Logic 𝓤} {K : Type 0} {Γ : List (Item 𝓤)} {G : Goal 𝓤 𝓛.H} where
  pub one_value : K → (x : E.row.Denot) (vs : List Val)
      → ((v : Val) → vs ≡ v ∷ [] → Good (layout E.row) v → Seq K 𝓛 (‵ (E.row.own_val x (v ∷ [])) ∷ Γ) G) → Seq K 𝓛 (‵ (E.row.own_val x vs) ∷ Γ) G
  one_value t x vs then =
      peeks t (R E) (Is (R E)) (shows 𝓛 (R E)) x vs (λ is.
      let one = only_one (layout E.row) vs (((param_laws 0 E.row E.laws).lawful 𝓛).typed x vs is) in
      rewrite t 0 (λ (ws : List Val). ‵ (E.row.own_val x ws)) one.1.0 refl $ then one.0 one.1.0 one.1.1)

module _ (E : El) {M : Type 1} {𝓤 : Ura M} (𝓛 : Logic 𝓤) (b : ℕ) where
  open 𝓛 use {H}

  abbrev Places : ℕ → List (Cell E) → Fml
  Places = places_held (R E) b

  -- the places from byte o on, but for the i-th
  abbrev pub others : ℕ → List (Cell E) → ℕ → Fml
  others o [] i = ftrue
  others o (v ∷ vs) zero = Places (o + width E) vs
  others o (v ∷ vs) (suc i) = fsep (place_held (R E) b o v) (others (o + width E) vs i)

  first_at : (o : ℕ) → o ≡ 0 * width E + o
  first_at o = omega (arith, zero-mul (width E))

  next_at : (i o : ℕ) → i * width E + (o + width E) ≡ suc i * width E + o
  next_at i o = omega (arith, suc-mul i (width E))

  pub place_out : (o : ℕ) (vs : List (Cell E)) (i : ℕ) → i < length vs
      → ent 𝓤 (sem 𝓛 (Places o vs)) (sep 𝓤 (sem 𝓛 (place_held (R E) b (i * width E + o) (get_or vs i None))) (sem 𝓛 (others o vs i)))
  place_out o [] i lt = absurd (omega arith)
  place_out o (v ∷ vs) zero lt = qed 𝓛 (‵ (Places o (v ∷ vs)) ∷ []) ∵ fsplit ! $
      rewrite ! 0 (λ (at : ℕ). ‵ (place_held (R E) b at v)) (first_at o) refl $ done !
  place_out o (v ∷ vs) (suc i) lt = qed 𝓛 (‵ (Places o (v ∷ vs)) ∷ []) ∵ fsplit ! $ move ! (1 ∷ []) $
      use1 𝓛 (‵ (place_held (R E) b (i * width E + (o + width E)) (get_or vs i None)) ⊛ ‵ (others (o + width E) vs i)) (place_out (o + width E) vs i (omega arith)) $ split ! $
      rewrite ! 0 (λ (at : ℕ). ‵ (place_held (R E) b at (get_or vs i None))) (next_at i o) refl $ move ! (2 ∷ 1 ∷ []) $ fjoin ! $ move ! (1 ∷ 0 ∷ []) $ done !

  pub place_in : (o : ℕ) (vs : List (Cell E)) (i : ℕ) → i < length vs → (w : Cell E)
      → ent 𝓤 (sep 𝓤 (sem 𝓛 (place_held (R E) b (i * width E + o) w)) (sem 𝓛 (others o vs i))) (sem 𝓛 (Places o (set vs i w)))
  place_in o [] i lt w = absurd (omega arith)
  place_in o (v ∷ vs) zero lt w = qed 𝓛 (‵ (place_held (R E) b (0 * width E + o) w) ∷ ‵ (Places (o + width E) vs) ∷ []) ∵
      rewrite ! 0 (λ (at : ℕ). ‵ (place_held (R E) b at w)) (sym (first_at o)) refl $ fjoin ! $ done !
  place_in o (v ∷ vs) (suc i) lt w = qed 𝓛 (‵ (place_held (R E) b (suc i * width E + o) w) ∷ ‵ (others o (v ∷ vs) (suc i)) ∷ []) ∵
      rewrite ! 0 (λ (at : ℕ). ‵ (place_held (R E) b at w)) (sym (next_at i o)) refl $ move ! (1 ∷ []) $ fsplit ! $ move ! (2 ∷ 1 ∷ []) $
      use2 𝓛 (‵ (Places (o + width E) (set vs i w))) (place_in (o + width E) vs i (omega arith) w) $ move ! (1 ∷ 0 ∷ []) $ fjoin ! $ done !

  pub room_places : (n o : ℕ) → ent 𝓤 (H.room (ty_array (elτ E) n) b o) (sem 𝓛 (Places o (replicate n None)))
  room_places zero o = qed 𝓛 (‵ (froom (ty_array (elτ E) 0) b o) ∷ []) ∵ keep ! [] $ done !
  room_places (suc n) o = qed 𝓛 (‵ (froom (ty_array (elτ E) (suc n)) b o) ∷ []) ∵
      use1 𝓛 (‵ (froom (elτ E) b o) ⊛ ‵ (froom (ty_array (elτ E) n) b (o + width E))) (𝓛.laws.room_uncons (elτ E) n b o) $ split ! $
      use1 𝓛 (‵ (place_held (R E) b o None)) (𝓛.laws.room-raw (elτ E) b o) $ frame ! $ by ! (room_places n (o + width E))

  pub places_room : (n o : ℕ) → ent 𝓤 (sem 𝓛 (Places o (replicate n None))) (H.room (ty_array (elτ E) n) b o)
  places_room zero o = 𝓛.laws.room_nil (elτ E) b o
  places_room (suc n) o = qed 𝓛 (‵ (place_held (R E) b o None) ∷ ‵ (Places (o + width E) (replicate n None)) ∷ []) ∵
      use1 𝓛 (‵ (froom (elτ E) b o)) (𝓛.laws.raw-room (elτ E) b o) $ move ! (1 ∷ []) $
      use1 𝓛 (‵ (froom (ty_array (elτ E) n) b (o + width E))) (places_room n (o + width E)) $ move ! (1 ∷ []) $ by ! (𝓛.laws.room_cons (elτ E) n b o)

  -- one place of a row that is lent
  pub place_seen : (κ : Lft) (o : ℕ) (vs : List (Cell E)) (i : ℕ) → i < length vs
      → ent 𝓤 (sem 𝓛 (places_lent (R E) b o vs κ)) (sem 𝓛 (place_lent (R E) b (i * width E + o) (get_or vs i None) κ))
  place_seen κ o [] i lt = absurd (omega arith)
  place_seen κ o (v ∷ vs) zero lt = qed 𝓛 (‵ (places_lent (R E) b o (v ∷ vs) κ) ∷ []) ∵ fsplit ! $ keep ! (0 ∷ []) $
      rewrite ! 0 (λ (at : ℕ). ‵ (place_lent (R E) b at v κ)) (first_at o) refl $ done !
  place_seen κ o (v ∷ vs) (suc i) lt = qed 𝓛 (‵ (places_lent (R E) b o (v ∷ vs) κ) ∷ []) ∵ fsplit ! $ keep ! (1 ∷ []) $
      use1 𝓛 (‵ (place_lent (R E) b (i * width E + (o + width E)) (get_or vs i None) κ)) (place_seen κ (o + width E) vs i (omega arith)) $
      rewrite ! 0 (λ (at : ℕ). ‵ (place_lent (R E) b at (get_or vs i None) κ)) (next_at i o) refl $ done !
