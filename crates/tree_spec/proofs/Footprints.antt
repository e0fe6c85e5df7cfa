-- Agreement on a footprint is agreement on all looks, and decides what an asking comes to.
use Rattle.std.proofs.Common.{◌≡◌, ℕ, Bool, true, false, List, [], ◌∷◌, ◌++◌, refl, ap, subst}
use Rattle.std.specs.Prelude.{◌||◌, All, bytes_eq}
use Rattle.std.specs.Bool.{Decides}
use Rattle.std.proofs.lemmas.Bool.{cond_both}
use Rattle.std.proofs.lemmas.List.Elements.{All-nil, All-cons, All-head, All-tail}
use Rattle.std.proofs.lemmas.Slice.Eq.{bytes_eq-Decides}
use Rattle.asking_spec.proofs.AskingLemmas.{same_by_questions}
use Rattle.asking_spec.specs.Laws.{AgreesOn}
use Rattle.tree_spec.specs.Laws.{SameByFootprint}
use Rattle.tree_spec.specs.LookAskings.{Sights, LookAsking, looks, is_seen, with_seen, noted, footprint}
use Rattle.tree_spec.proofs.Fronts.{all_front, all_behind}

module _ (one other : Sights) where
  abbrev Same : List ℕ → Type 0
  Same path = one path ≡ other path

  by_first : (path first : List ℕ) (more : List (List ℕ)) (b : Bool) → Decides b (first ≡ path)
      → (b || is_seen path more) ≡ true → Same first → (is_seen path more ≡ true → Same path) → Same path
  by_first path first more true d held here rest = subst Same (d.0 refl) here
  by_first path first more false d held here rest = rest held

  seen_same : (path : List ℕ) (paths : List (List ℕ)) → All Same paths → is_seen path paths ≡ true → Same path
  seen_same path [] all held = absurd (cc)
  seen_same path (first ∷ more) all held =
      by_first path first more (bytes_eq first path) (bytes_eq-Decides first path) held (All-head Same first more all)
      (seen_same path more (All-tail Same first more all))

  pub record Both (seen paths : List (List ℕ)) : Type 0 where
    pub before : All Same seen
    pub each : All Same paths

  with_same : (seen : List (List ℕ)) (path : List ℕ) → All Same (with_seen seen path) → All Same seen × Same path
  with_same seen path =
      cond_both (is_seen path seen) seen (seen ++ path ∷ []) (λ paths. All Same paths → All Same seen × Same path)
      (λ held all. (all, seen_same path seen all held))
      (λ new all. (all_front Same seen (path ∷ []) all, All-head Same path [] (all_behind Same seen (path ∷ []) all)))

  noted_same : (seen paths : List (List ℕ)) → All Same (noted seen paths) → Both seen paths
  noted_same seen [] all = record { before = all; each = All-nil Same }
  noted_same seen (path ∷ more) all =
      let rest = noted_same (with_seen seen path) more all in
      let here = with_same seen path rest.before in
      record { before = here.0; each = All-cons Same path more here.1 rest.each }

-- agreement on the footprint is agreement on the looks
pub looks_agree : {X : Type 0} (one other : Sights) (asking : LookAsking X) → AgreesOn one other (footprint one asking)
    → AgreesOn one other (looks one asking)
looks_agree one other asking agrees = record { each = (noted_same one other [] (looks one asking) agrees.each).each }

pub same_by_footprint : {X : Type 0} → SameByFootprint X
same_by_footprint one other asking agrees =
    let same = same_by_questions one other asking (looks_agree one other asking agrees) in
    record { outcome = same.0; looks = same.1; footprint = ap (noted []) same.1 }
