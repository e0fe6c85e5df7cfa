-- What is found when one more key is looked at.
use Rattle.std.proofs.Common.{◌≡◌, ◌≢◌, ◌<◌, ◌≤◌, ◌+◌, ℕ, zero, suc, true, List, [], ◌∷◌, ◌++◌, length, take, refl, sym, ap, ◌∙◌, subst, arith, Option, Some, None}
use Rattle.std.specs.Prelude.{MatchOption, slice_get}
use Rattle.std.proofs.lemmas.Bool.{cases_lt}
use Rattle.std.proofs.lemmas.List.{append_cancel_left}
use Rattle.std.proofs.lemmas.Option.{same_Some, none-some, slice_get_past}
use mathlib.Core.Logic.{inl, inr}
use Rattle.json_spec.specs.Value.{names_of}
use Rattle.ordered_json.specs.Shown.{members_of}
use Rattle.ordered_json.specs.declared.value.Value.{Value}
use Rattle.node_spec.specs.PatternKeys.{HasNoStar, KeyMatch, Matches, IsChoice, GoesBefore}
use Rattle.node_spec.specs.PatternKeys.Matches.{by_itself}
use Rattle.node_spec.proofs.PatternOrder.{precedes_before, before_precedes}
use Rattle.node_spec.proofs.PatternChoice.{none_more, first_choice, same_choice, better_choice}
use Rattle.exports_patterns.specs.declared.pattern_keys.Match.{Match}
use Rattle.exports_patterns.specs.Found.{match_shown, IsMatch, IsFound, Finds}
use Rattle.exports_patterns.proofs.KeyLemmas.{all_names, names_length}

pub is_exact_match : (asked key : List ℕ) (index : ℕ) → HasNoStar key → key ≡ asked → IsMatch asked key (record { index = index; exact = true; from = 0; to = 0 })
is_exact_match asked key index n e = record { matches = by_itself e n; no_span = λ t. (refl, refl) }

-- where what is behind the base doesn't end with the trailer
pub no_part : (asked text base front rest trailer end : List ℕ) → text ≡ asked → front ≡ base → end ≡ trailer → text ≡ front ++ rest → ((x : List ℕ) → rest ≢ x ++ end) → (part : List ℕ) → asked ≡ base ++ (part ++ trailer) → part ≡ []
no_part asked text base front rest trailer end t f l e none part s =
    let u : base ++ (part ++ trailer) ≡ base ++ rest = sym s ∙ (sym t ∙ (e ∙ ap (λ x. x ++ rest) f)) in
    absurd (none part (append_cancel_left base rest (part ++ trailer) (sym u) ∙ ap (λ x. part ++ x) (sym l)))

-- ---- one more key

get_before : (xs ys : List (List ℕ)) (i : ℕ) (x : List ℕ) → slice_get xs i ≡ Some x → slice_get (xs ++ ys) i ≡ Some x
get_before [] ys i x e = cc
get_before (y ∷ xs) ys zero x e = e
get_before (y ∷ xs) ys (suc i) x e = get_before xs ys i x e

get_pushed : (xs : List (List ℕ)) (x : List ℕ) → slice_get (xs ++ x ∷ []) (length xs) ≡ Some x
get_pushed [] x = refl
get_pushed (y ∷ xs) x = get_pushed xs x

module _ (keys : List (List ℕ)) (asked key : List ℕ) where
  pub kept_found : (best : Option Match) → ((found : KeyMatch) → Matches asked key found → ⊥) → Finds keys asked best → Finds (keys ++ key ∷ []) asked best
  kept_found None not none = none_more keys asked key none not
  kept_found (Some held) not f = record {
    key = f.key;
    stands = get_before keys (key ∷ []) held.index f.key f.stands;
    chosen = same_choice keys asked key f.key (match_shown held) f.chosen (λ found m p. not found m);
    no_span = f.no_span;
  }

  new_found : (found : Match) → length keys ≡ found.index → IsMatch asked key found → IsChoice (keys ++ key ∷ []) asked key (match_shown found) → IsFound (keys ++ key ∷ []) asked found
  new_found found i m c = record { key = key; stands = subst (λ n. slice_get (keys ++ key ∷ []) n ≡ Some key) i (get_pushed keys key); chosen = c; no_span = m.no_span }

  pub first_found : (best : Option Match) (found : Match) → best ≡ None → length keys ≡ found.index → IsMatch asked key found → Finds keys asked best → IsFound (keys ++ key ∷ []) asked found
  first_found best found e i m f = new_found found i m (first_choice keys asked key (subst (Finds keys asked) e f) (match_shown found) m.matches)

  pub better_found : (best : Option Match) (found held : Match) → best ≡ Some held → length keys ≡ found.index → IsMatch asked key found → GoesBefore (match_shown found) (match_shown held) → Finds keys asked best → IsFound (keys ++ key ∷ []) asked found
  better_found best found held e i m b f =
      let h : IsFound keys asked held = subst (Finds keys asked) e f in
      new_found found i m
      (better_choice keys asked key h.key (match_shown held) h.chosen (match_shown found) m.matches
      (before_precedes asked key h.key (match_shown found) (match_shown held) m.matches h.chosen.matches b))

  pub worse_found : (best : Option Match) (found held : Match) → best ≡ Some held → IsMatch asked key found → (GoesBefore (match_shown found) (match_shown held) → ⊥) → Finds keys asked best → IsFound (keys ++ key ∷ []) asked held
  worse_found best found held e m b f =
      let h : IsFound keys asked held = subst (Finds keys asked) e f in
      record {
        key = h.key;
        stands = get_before keys (key ∷ []) held.index h.key h.stands;
        chosen = same_choice keys asked key h.key (match_shown held) h.chosen
            (λ also n p. b (precedes_before asked key h.key (match_shown found) (match_shown held) m.matches h.chosen.matches p));
        no_span = h.no_span;
      }

-- ---- all keys

pub all_found : (pairs : List (List ℕ × Value)) (i : ℕ) (asked : List ℕ) (best : Option Match) → length pairs ≤ i
    → Finds (take i (names_of (members_of pairs))) asked best → Finds (names_of (members_of pairs)) asked best
all_found pairs i asked best past found = subst (λ keys. Finds keys asked best) (all_names pairs i past) found

-- ---- the place of a key

pub not_before : (keys : List (List ℕ)) (asked : List ℕ) (index : ℕ) → length keys ≤ index
    → ((place : ℕ) → place < index → slice_get keys place ≡ Some asked → ⊥) → (place : ℕ) → slice_get keys place ≡ Some asked → ⊥
not_before keys asked index past none place e =
    elim (cases_lt place index) [
      | inl below ↦ none place below e
      | inr above ↦ none-some asked (sym (slice_get_past keys place (omega (arith, past, above))) ∙ e)
    ]

pub one_more_not : (keys : List (List ℕ)) (asked name : List ℕ) (index : ℕ) → slice_get keys index ≡ Some name → (name ≡ asked → ⊥)
    → ((place : ℕ) → place < index → slice_get keys place ≡ Some asked → ⊥)
    → (place : ℕ) → place < index + 1 → slice_get keys place ≡ Some asked → ⊥
one_more_not keys asked name index there other none place below e =
    elim (cases_lt place index) [
      | inl before ↦ none place before e
      | inr here ↦ (let same : place ≡ index = omega (arith, here, below) in other (same_Some _ _ (sym there ∙ (ap (slice_get keys) (sym same) ∙ e))))
    ]

pub none_of_few : (pairs : List (List ℕ × Value)) (asked : List ℕ) (index : ℕ) → length pairs ≤ index
    → ((place : ℕ) → place < index → slice_get (names_of (members_of pairs)) place ≡ Some asked → ⊥)
    → (place : ℕ) → slice_get (names_of (members_of pairs)) place ≡ Some asked → ⊥
none_of_few pairs asked index past none =
    not_before (names_of (members_of pairs)) asked index (omega (arith, names_length pairs, past)) none
