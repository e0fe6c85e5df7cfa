-- What a trace shows of its graph.
--     shows_own      it shows its own graph
--     none_past      there is no slot exactly past the end
use Rattle.std.proofs.Common.{◌≡◌, ◌≤◌, ℕ, zero, suc, List, [], ◌∷◌, length, Option, None, refl, sym, ◌∙◌, arith}
use Rattle.std.specs.Prelude.{◌↔◌, slice_get}
use Rattle.std.proofs.lemmas.Option.{slice_get_past}
use Rattle.layout_spec.specs.declared.Need.{Need}
use Rattle.trace_graph.specs.Links.{Links}
use Rattle.trace_spec.specs.Checks.{Spelling}
use Rattle.request_trace.specs.Showing.{Shows, traced_in}

pub shows_own : (l : Links) (needs : List Need) (spellings : List Spelling) (footprint : List (List ℕ))
    → Shows (traced_in l needs spellings footprint)
shows_own l needs spellings footprint = record { modules_are = refl; sources_are = refl; targets_are = refl }

past : {X : Type 0} (xs : List X) (i : ℕ) → slice_get xs i ≡ None → length xs ≤ i
past [] i none = omega arith
past (x ∷ xs) zero none = absurd (cc)
past (x ∷ xs) (suc i) none = let rest = past xs i none in omega (arith, rest)

pub none_past : {X : Type 0} (xs : List X) (i count : ℕ) (found : Option X) → found ≡ slice_get xs i → length xs ≡ count
    → (found ≡ None) ↔ (count ≤ i)
none_past xs i count found is same = (
  λ none. (let over = past xs i (sym is ∙ none) in omega (arith, over, same)),
  λ over. is ∙ slice_get_past xs i (omega (arith, over, same)),
)
