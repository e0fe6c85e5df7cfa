-- Entries that are put behind others, each once, and entries that are taken out.
use Rattle.std.proofs.Common.{◌≡◌, ◌<◌, ◌+◌, ℕ, true, false, List, [], ◌∷◌, ◌++◌, length, take, map, get_or, sym, refl, ap, subst, ◌∙◌, if◌then◌else◌, append_assoc, append-nil, inl, inr, arith}
use Rattle.std.specs.Prelude.{bytes_eq, Result, Ok, Err, IfOk}
use Rattle.std.specs.List.{list_any, IsDistinct}
use Rattle.std.proofs.lemmas.Bool.{cases_Bool, cond-false, true≢false}
use Rattle.std.proofs.lemmas.Cmp.{nat_list_eq_equiv}
use Rattle.std.proofs.Math.Seq.{get_or-append_seam}
use Rattle.std.proofs.Math.ListN.{get_or-append}
use Rattle.std.proofs.lemmas.List.{take_more, length-append}
use Rattle.std.proofs.lemmas.List.Folds.{Any-from_list_any}
use Rattle.std.proofs.lemmas.Map.Keys.{apart_from_distinct}
use Rattle.indexmap.specs.IndexSet.{insert_key}
use Rattle.tree_spec.proofs.FootprintSets.{distinct_none}
use Rattle.condition_match.proofs.ConditionLemmas.{not_before}
use Rattle.config_spec.specs.Projects.{once_onto}
use Rattle.config_spec.proofs.Entries.{onto_distinct}

once_onto-append : (seen xs ys : List (List ℕ)) → once_onto seen (xs ++ ys) ≡ once_onto (once_onto seen xs) ys
once_onto-append seen [] ys = refl
once_onto-append seen (x ∷ xs) ys = once_onto-append (if list_any (bytes_eq x) seen then seen else seen ++ x ∷ []) xs ys

-- one more text is counted
pub one_more : (xs : List (List ℕ)) (i : ℕ) (x text : List ℕ) (old new : List (List ℕ)) → i < length xs → x ≡ get_or xs i x → old ≡ once_onto [] (take i xs) → text ≡ x → new ≡ insert_key bytes_eq old text → new ≡ once_onto [] (take (i + 1) xs)
one_more xs i x text old new within is so_far same e =
    e
    ∙ ((λ j. insert_key bytes_eq (so_far j) (same j))
    ∙ (sym (once_onto-append [] (take i xs) (x ∷ []))
    ∙ ap (once_onto []) (ap (λ y. take i xs ++ y ∷ []) is ∙ sym (take_more xs i x within))))

-- ---- texts that are distinct

all_put : (seen texts : List (List ℕ)) → IsDistinct bytes_eq (seen ++ texts) → once_onto seen texts ≡ seen ++ texts
all_put seen [] distinct = sym (append-nil seen)
all_put seen (text ∷ texts) distinct = elim (cases_Bool (list_any (bytes_eq text) seen)) [
  | inl there ↦ absurd (not_before seen texts text distinct there)
  | inr new ↦
      ap (λ s. once_onto s texts) (cond-false (list_any (bytes_eq text) seen) seen (seen ++ text ∷ []) new)
      ∙ (all_put (seen ++ text ∷ []) texts (subst (IsDistinct bytes_eq) (sym (append_assoc seen (text ∷ []) texts)) distinct)
      ∙ append_assoc seen (text ∷ []) texts)
]

-- distinct texts, and others behind them
pub behind_old : (old texts all found : List (List ℕ)) → IsDistinct bytes_eq old → all ≡ old ++ texts → found ≡ once_onto [] all → found ≡ once_onto old texts
behind_old old texts all found distinct put is =
    is ∙ (ap (once_onto []) put ∙ (once_onto-append [] old texts ∙ ap (λ s. once_onto s texts) (all_put [] old distinct)))

-- texts that are counted once stand once
pub counted_once : (found texts : List (List ℕ)) → found ≡ once_onto [] texts → IsDistinct bytes_eq found
counted_once found texts is = subst (IsDistinct bytes_eq) (sym is) (onto_distinct [] texts distinct_none)

-- ---- what a call gives

pub onto_old : {E : Type 0} (old texts all lent : List (List ℕ)) (result : Result (List (List ℕ)) E) → IsDistinct bytes_eq old → all ≡ old ++ texts → lent ≡ all → IfOk result (λ found. found ≡ once_onto [] lent) → IfOk result (λ found. found ≡ once_onto old texts)
onto_old old texts all lent (Ok found) distinct put same is = behind_old old texts lent found distinct (same ∙ put) is
onto_old old texts all lent (Err fault) distinct put same is = tt

pub each_once : {E : Type 0} (lent : List (List ℕ)) (result : Result (List (List ℕ)) E) → IfOk result (λ found. found ≡ once_onto [] lent) → IfOk result (IsDistinct bytes_eq)
each_once lent (Ok found) is = counted_once found lent is
each_once lent (Err fault) is = tt
