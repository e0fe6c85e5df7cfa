-- Values and next generations as places.
use Rattle.std.proofs.Common.{◌≡◌, ◌≢◌, ℕ, zero, suc, ◌+◌, ◌<◌, ◌==◌, if◌then◌else◌, IsSome, List, [], ◌∷◌, ◌++◌, length, get_or, slice_set, replicate, Option, Some, None, refl, sym, ap, ◌∙◌, arith}
use Rattle.std.proofs.lemmas.Grind.{common_steps}
use Rattle.slot_arena.specs.declared.slot.Slot.{Slot}
use Rattle.slot_arena.specs.Slots.{Place, place, place_at, value_at}
use Rattle.slot_arena.specs.Kept.{paired}

module _ {X : Type 0} where
  pub place_at-paired : (vs : List (Option X)) (ns : List ℕ) → length ns ≡ length vs → (i : ℕ) → place_at (paired vs ns) i ≡ place (get_or vs i None) (get_or ns i 0)
  place_at-paired [] [] e i = refl
  place_at-paired [] (n ∷ ns) e i = absurd (omega (arith, e))
  place_at-paired (v ∷ vs) [] e i = absurd (omega (arith, e))
  place_at-paired (v ∷ vs) (n ∷ ns) e zero = refl
  place_at-paired (v ∷ vs) (n ∷ ns) e (suc i) = place_at-paired vs ns (omega (arith, e)) i

  pub paired-set : (vs : List (Option X)) (ns : List ℕ) (i : ℕ) (v : Option X) (n : ℕ) → paired (slice_set vs i v) (slice_set ns i n) ≡ slice_set (paired vs ns) i (place v n)
  paired-set [] ns i v n = refl
  paired-set (w ∷ vs) [] zero v n = refl
  paired-set (w ∷ vs) [] (suc i) v n = refl
  paired-set (w ∷ vs) (m ∷ ns) zero v n = refl
  paired-set (w ∷ vs) (m ∷ ns) (suc i) v n = ap (λ l. place w m ∷ l) (paired-set vs ns i v n)

  -- the value alone is set
  pub paired-put : (vs : List (Option X)) (ns : List ℕ) (i : ℕ) (v : Option X) → paired (slice_set vs i v) ns ≡ slice_set (paired vs ns) i (place v (get_or ns i 0))
  paired-put [] ns i v = refl
  paired-put (w ∷ vs) [] zero v = refl
  paired-put (w ∷ vs) [] (suc i) v = refl
  paired-put (w ∷ vs) (m ∷ ns) zero v = refl
  paired-put (w ∷ vs) (m ∷ ns) (suc i) v = ap (λ l. place w m ∷ l) (paired-put vs ns i v)

  pub paired-grown : (vs : List (Option X)) (ns : List ℕ) (m g : ℕ) → length ns ≡ length vs
      → paired (vs ++ replicate m None) (ns ++ replicate m g) ≡ paired vs ns ++ replicate m (place None g)
  paired-grown [] [] zero g e = refl
  paired-grown [] [] (suc m) g e = ap (λ l. place None g ∷ l) (paired-grown [] [] m g refl)
  paired-grown [] (n ∷ ns) m g e = absurd (omega (arith, e))
  paired-grown (v ∷ vs) [] m g e = absurd (omega (arith, e))
  paired-grown (v ∷ vs) (n ∷ ns) m g e = ap (λ l. place v n ∷ l) (paired-grown vs ns m g (omega (arith, e)))

  pub length-paired : (vs : List (Option X)) (ns : List ℕ) → length ns ≡ length vs → length (paired vs ns) ≡ length vs
  length-paired [] ns e = refl
  length-paired (v ∷ vs) [] e = absurd (omega (arith, e))
  length-paired (v ∷ vs) (n ∷ ns) e = ap suc (length-paired vs ns (omega (arith, e)))

  guard-yes : (n m : ℕ) (v : Option X) → n ≡ m → (if n == m then v else None) ≡ v
  guard-yes n m v e = grind (arith, common_steps)

  guard-no : (n m : ℕ) (v : Option X) → n ≢ m → (if n == m then v else None) ≡ None
  guard-no n m v ne = grind (arith, common_steps)

  value_at-is : (vs : List (Option X)) (ns : List ℕ) → length ns ≡ length vs → (s : Slot)
      → value_at (paired vs ns) s ≡ (if get_or ns s.index 0 == s.generation + 1 then get_or vs s.index None else None)
  value_at-is vs ns e s = ap (λ (p : Place X). if p.next == s.generation + 1 then p.value else None) (place_at-paired vs ns e s.index)

  -- the slot is the last one that its place gave
  pub value_at-last : (vs : List (Option X)) (ns : List ℕ) → length ns ≡ length vs → (s : Slot) → get_or ns s.index 0 ≡ s.generation + 1
      → value_at (paired vs ns) s ≡ get_or vs s.index None
  value_at-last vs ns e s is = value_at-is vs ns e s ∙ guard-yes (get_or ns s.index 0) (s.generation + 1) (get_or vs s.index None) is

  pub value_at-other : (vs : List (Option X)) (ns : List ℕ) → length ns ≡ length vs → (s : Slot) → get_or ns s.index 0 ≢ s.generation + 1
      → value_at (paired vs ns) s ≡ None
  value_at-other vs ns e s ne = value_at-is vs ns e s ∙ guard-no (get_or ns s.index 0) (s.generation + 1) (get_or vs s.index None) ne

  -- what a live slot tells of the fields
  pub record IsFound (vs : List (Option X)) (ns : List ℕ) (s : Slot) : Type 0 where
    pub value : X
    pub is : value_at (paired vs ns) s ≡ Some value
    pub filled : get_or vs s.index None ≡ Some value
    pub next : get_or ns s.index 0 ≡ s.generation + 1
    pub there : (place_at (paired vs ns) s.index).value ≡ Some value

  some : (o : Option X) → IsSome o → (x : X) × (o ≡ Some x)
  some None h = cc
  some (Some x) h = (x, refl)

  guarded : (n m : ℕ) (v : Option X) (x : X) → (if n == m then v else None) ≡ Some x → (n ≡ m) × (v ≡ Some x)
  guarded n m v x e = grind (arith, common_steps)

  pub found : (vs : List (Option X)) (ns : List ℕ) (s : Slot) → length ns ≡ length vs → IsSome (value_at (paired vs ns) s) → IsFound vs ns s
  found vs ns s e h =
      let v = some (value_at (paired vs ns) s) h in
      let t = guarded (get_or ns s.index 0) (s.generation + 1) (get_or vs s.index None) v.0 (sym (value_at-is vs ns e s) ∙ v.1) in
      record {
        value = v.0;
        is = v.1;
        filled = t.1;
        next = t.0;
        there = ap (λ (p : Place X). p.value) (place_at-paired vs ns e s.index) ∙ t.1;
      }

  pub length-filled : (vs : List (Option X)) (i : ℕ) (x : X) → get_or vs i None ≡ Some x → i < length vs
  length-filled [] i x e = cc
  length-filled (v ∷ vs) zero x e = omega arith
  length-filled (v ∷ vs) (suc i) x e = omega (arith, length-filled vs i x e)
