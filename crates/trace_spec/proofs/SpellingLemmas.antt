-- Needs beside their spellings.
use Rattle.std.specs.Prelude.{◌≡◌, ◌≢◌, ◌||◌, Bool, true, false, List, [], ◌∷◌, ◌++◌}
use Rattle.std.specs.Prelude.{if◌then◌else◌}
use Rattle.std.specs.List.{list_any}
use Rattle.std.proofs.Common.{refl, sym, ◌∙◌, subst}
use mathlib.Core.Logic.{inl, inr}
use Rattle.std.proofs.lemmas.Bool.{cases_Bool, cond-true, cond-false, true≢false, and_parts, not-true}
use Rattle.std.proofs.lemmas.Slice.Eq.{bytes_eq-Decides}
use Rattle.tree_spec.specs.LookAskings.{Sights}
use Rattle.layout_spec.specs.declared.Need.{Need}
use Rattle.layout_spec.specs.Needs.{is_need, with_need, clashes}
use Rattle.trace_spec.specs.Modules.{Config}
use Rattle.trace_spec.specs.Checks.{Spelling, clashing, with_spelling}
use Rattle.trace_spec.specs.Laws.{IsSpelled, AreSpelled}

module _ (sights : Sights) (config : Config) where
  spelled_pushed : (needs : List Need) (need : Need) (spellings : List Spelling) (spelling : Spelling)
      → AreSpelled sights config needs spellings → IsSpelled sights config need spelling
      → AreSpelled sights config (needs ++ need ∷ []) (spellings ++ spelling ∷ [])
  spelled_pushed [] need [] spelling all is = (is, tt)
  spelled_pushed [] need (other ∷ spellings) spelling all is = absurd all
  spelled_pushed (other ∷ needs) need [] spelling all is = absurd all
  spelled_pushed (other ∷ needs) need (some ∷ spellings) spelling all is =
      (all.0, spelled_pushed needs need spellings spelling all.1 is)

  pub spelled_more : (needs : List Need) (need : Need) (spellings : List Spelling) (spelling : Spelling)
      → AreSpelled sights config needs spellings → IsSpelled sights config need spelling
      → AreSpelled sights config (with_need needs need) (with_spelling needs need spellings spelling)
  spelled_more needs need spellings spelling all is =
      elim (cases_Bool (list_any (is_need need) needs)) [
        | inl known ↦
            subst (λ ns. AreSpelled sights config ns (with_spelling needs need spellings spelling))
            (sym (cond-true _ needs (needs ++ need ∷ []) known))
            (subst (AreSpelled sights config needs)
            (sym (cond-true _ spellings (spellings ++ spelling ∷ []) known)) all)
        | inr new ↦
            subst (λ ns. AreSpelled sights config ns (with_spelling needs need spellings spelling))
            (sym (cond-false _ needs (needs ++ need ∷ []) new))
            (subst (AreSpelled sights config (needs ++ need ∷ []))
            (sym (cond-false _ spellings (spellings ++ spelling ∷ []) new))
            (spelled_pushed needs need spellings spelling all is))
      ]

  -- the need with which another clashes, beside its spelling
  pub record Clashing (need : Need) (spelling : Spelling) : Type 0 where
    pub earlier : Need
    pub same_referrer : earlier.referrer ≡ need.referrer
    pub same_asked : earlier.asked ≡ need.asked
    pub apart : earlier.target ≢ need.target
    pub spelled : IsSpelled sights config earlier spelling

  clashing_here : (need other : Need) (spelling : Spelling) → clashes need other ≡ true
      → IsSpelled sights config other spelling → Clashing need spelling
  clashing_here need other spelling e is =
      let outer = and_parts _ _ e in
      let inner = and_parts _ _ outer.0 in
      record {
        earlier = other;
        same_referrer = (bytes_eq-Decides other.referrer need.referrer).0 inner.0;
        same_asked = (bytes_eq-Decides other.asked need.asked).0 inner.1;
        apart = λ same. true≢false
            (sym ((bytes_eq-Decides other.target need.target).1 same) ∙ not-true _ outer.1);
        spelled = is;
      }

  pub clashing_is : (need : Need) (needs : List Need) (spellings : List Spelling)
      → AreSpelled sights config needs spellings → list_any (clashes need) needs ≡ true
      → Clashing need (clashing need needs spellings)
  clashing_is need [] spellings all e = absurd (cc)
  clashing_is need (other ∷ needs) [] all e = absurd all
  clashing_is need (other ∷ needs) (spelling ∷ spellings) all e =
      by (clashes need other) refl (λ f. clashing_is need needs spellings all.1 f) e
    where
      by : (clash : Bool) → clashes need other ≡ clash
          → (list_any (clashes need) needs ≡ true → Clashing need (clashing need needs spellings))
          → (clash || list_any (clashes need) needs) ≡ true
          → Clashing need (if clash then spelling else clashing need needs spellings)
      by true is behind f = clashing_here need other spelling is all.0
      by false is behind f = behind f
