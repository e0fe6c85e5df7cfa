-- The paths at which a trace looks.
--     looked_within        they are of the generation's footprint
--     looked_up_to         where a limit stops it, they are of those up to the look that passes it
--     looked_before        where that is the limit of paths, of those before it
use Rattle.std.proofs.Common.{◌≡◌, ℕ, List, [], ◌∷◌, ◌++◌, Option, Result, Ok, Err, sym, ap, ◌∙◌, subst, ◌⊎◌, inl, inr}
use Rattle.std.specs.Prelude.{Contains}
use Rattle.std.proofs.lemmas.List.Elements.{Contains-append_left, Contains-append_right}
use Rattle.asking_spec.specs.Evaluation.{ends, then_ended}
use Rattle.tree_spec.specs.declared.Entry.{Entry}
use Rattle.tree_spec.specs.declared.LimitName.{LimitName}
use Rattle.tree_spec.specs.declared.LimitName.TheVariants.{Looks}
use Rattle.tree_spec.specs.LookAskings.{Sights, looks, footprint}
use Rattle.tree_spec.specs.LookLimits.{Trail, no_trail, look_limits, counted, told, IsFirstLimit}
use Rattle.tree_spec.proofs.Contained.{contains_here, contains_there, footprint_contains}
use Rattle.tree_spec.proofs.LimitedLooks.{LookEnd, visited}
use Rattle.trace_spec.specs.Modules.{Config}
use Rattle.trace_spec.specs.Traces.{generation}
use Rattle.trace_spec.specs.Laws.{IsLookedAt}

pub looked_within : (sights : Sights) (config : Config) (path : List ℕ) → IsLookedAt sights config path
    → Contains (footprint sights (generation config)) path
looked_within sights config path is =
    footprint_contains sights (generation config) path
    (subst (λ paths. Contains paths path) (sym is.split)
    (Contains-append_right is.front (path ∷ is.back) path (contains_here path is.back)))

-- a look that passes a limit doesn't go on
stops_by : (found : Option Entry) (trail : Trail) (c : Result Trail LimitName) (name : LimitName)
    (next : Option Entry → Trail → LookEnd (Unit {0})) (after : Trail) → c ≡ Err name
    → then_ended (told found trail c) next ≡ ends tt after → ⊥
stops_by found trail (Ok middle) name next after e passed = cc
stops_by found trail (Err other) name next after e passed = cc

-- two that go on behind one look
goes_by : (found : Option Entry) (trail : Trail) (c : Result Trail LimitName)
    (one other : Option Entry → Trail → LookEnd (Unit {0})) (there before : Trail) (P : Type 0)
    → then_ended (told found trail c) one ≡ ends tt there → then_ended (told found trail c) other ≡ ends tt before
    → ((middle : Trail) → one found middle ≡ ends tt there → other found middle ≡ ends tt before → P) → P
goes_by found trail (Ok middle) one other there before P passed went go = go middle passed went
goes_by found trail (Err name) one other there before P passed went go = absurd (cc)

module _ (sights : Sights) where
  -- it stands before the look that passes a limit, or it is that look
  stands : (trail : Trail) (path last : List ℕ) (some back front rest : List (List ℕ)) (there before : Trail)
      (name : LimitName) → some ++ path ∷ back ≡ front ++ last ∷ rest
      → visited look_limits sights trail some ≡ ends tt there → visited look_limits sights trail front ≡ ends tt before
      → counted look_limits before last (sights last) ≡ Err name
      → Contains front path ⊎ ((last ≡ path) × (there ≡ before))
  stands trail path last [] back [] rest there before name e passed went limit =
      let same : last ≡ path = cc in
      let here : there ≡ before = cc in
      inr (same, here)
  stands trail path last [] back (first ∷ front) rest there before name e passed went limit =
      let same : first ≡ path = cc in
      inl (subst (λ p. Contains (first ∷ front) p) same (contains_here first front))
  stands trail path last (head ∷ some) back [] rest there before name e passed went limit =
      let same : head ≡ last = cc in
      let here : trail ≡ before = cc in
      absurd (stops_by (sights head) trail (counted look_limits trail head (sights head)) name
      (λ found t. visited look_limits sights t some) there
      ((λ i. counted look_limits (here i) (same i) (sights (same i))) ∙ limit) passed)
  stands trail path last (head ∷ some) back (first ∷ front) rest there before name e passed went limit =
      let same : head ≡ first = cc in
      let more : some ++ path ∷ back ≡ front ++ last ∷ rest = cc in
      goes_by (sights head) trail (counted look_limits trail head (sights head))
      (λ found t. visited look_limits sights t some) (λ found t. visited look_limits sights t front) there before
      (Contains (first ∷ front) path ⊎ ((last ≡ path) × (there ≡ before))) passed
      (subst (λ p. visited look_limits sights trail (p ∷ front) ≡ ends tt before) (sym same) went)
      (λ middle one other. elim (stands middle path last some back front rest there before name more one other limit) [
        | inl ahead ↦ inl (contains_there path first front ahead)
        | inr is ↦ inr is
      ])

  module _ (config : Config) (name : LimitName) (before : Trail)
      (first : IsFirstLimit look_limits sights no_trail (looks sights (generation config)) name before)
      (path : List ℕ) (is : IsLookedAt sights config path) where
    stands_there : Contains first.front path ⊎ ((first.path ≡ path) × (is.before ≡ before))
    stands_there =
        stands no_trail path first.path is.front is.back first.front first.back is.before before name
        (sym is.split ∙ first.split) is.passes first.passes first.limit

    pub looked_up_to : Contains (first.front ++ first.path ∷ []) path
    looked_up_to = elim stands_there [
      | inl ahead ↦ Contains-append_left first.front (first.path ∷ []) path ahead
      | inr last ↦ Contains-append_right first.front (first.path ∷ []) path
          (subst (λ p. Contains (first.path ∷ []) p) last.0 (contains_here first.path []))
    ]

    pub looked_before : name ≡ Looks → Contains first.front path
    looked_before many = elim stands_there [
      | inl ahead ↦ ahead
      | inr last ↦ absurd (is.room
          ((λ i. counted look_limits (last.1 i) (sym last.0 i) (sights (sym last.0 i))) ∙ (first.limit ∙ ap Err many)))
    ]
