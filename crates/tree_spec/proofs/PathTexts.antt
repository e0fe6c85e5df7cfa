-- What stands below a path, by the texts of both.
use Rattle.std.proofs.Common.{◌≡◌, ◌≢◌, ◌⊎◌, ◌∷◌, ◌++◌, [], ℕ, List, refl, sym, ap, ◌∙◌, subst, All, inl, inr, append_assoc}
use Rattle.std.specs.Prelude.{codes}
use Rattle.tree_spec.proofs.FolderLemmas.{folders_climb}
use Rattle.tree_spec.proofs.PathParts.{IsFront, at_root as front_at_root, at_other, front_of, not_empty, no_slash_inside}
use Rattle.tree_spec.proofs.PathsAbove.{above_is_path}
use Rattle.tree_spec.specs.FoldersAbove.{Climbs, at_root, from_parent, folders_from}
use Rattle.tree_spec.specs.Paths.{IsPath, IsParent, IsAbove, parent_of, further}

-- ---- a text that begins with that of a path and a `/`

compared : (front other more name : List ℕ) → front ++ 47 ∷ more ≡ other ++ 47 ∷ name → All (λ b. b ≢ 47) name
    → (front ≡ other) ⊎ ((rest : List ℕ) × (other ≡ front ++ 47 ∷ rest))
compared [] [] more name e none = inl refl
compared [] (x ∷ other) more name e none = let slash : 47 ≡ x = cc in inr (other, ap (λ c. c ∷ other) (sym slash))
compared (x ∷ front) [] more name e none =
    let same : front ++ 47 ∷ more ≡ name = cc in
    absurd (no_slash_inside front more (subst (All (λ b. b ≢ 47)) (sym same) none))
compared (x ∷ front) (y ∷ other) more name e none =
    let first : x ≡ y = cc in
    let tails : front ++ 47 ∷ more ≡ other ++ 47 ∷ name = cc in
    elim (compared front other more name tails none) [
      | inl same ↦ inl (λ i. first i ∷ same i)
      | inr rest ↦ inr (rest.0, (λ i. sym first i ∷ rest.1 i))
    ]

pub more_than_root : (front more : List ℕ) → front ≢ [] → front ++ 47 ∷ more ≢ codes "/"
more_than_root [] more some e = some refl
more_than_root (x ∷ []) more some e = let f = e in absurd (cc)
more_than_root (x ∷ y ∷ front) more some e = let f = e in absurd (cc)

climbs_below : (folder more path : List ℕ) (folders : List (List ℕ)) → Climbs path folders → folder ≢ []
    → path ≡ folder ++ 47 ∷ more → IsAbove folder path
climbs_below folder more path _ (at_root _ top) some e = absurd (more_than_root folder more some (sym e ∙ top))
climbs_below folder more path _ (from_parent parent _ folders p climbs) some e =
    let has = front_of parent p.name in
    let both : folder ++ 47 ∷ more ≡ has.front ++ 47 ∷ p.name = sym e ∙ (p.text ∙ has.text_is) in
    by_front has.front has.is_front (compared folder has.front more p.name both p.segment.no_slash)
    (λ rest up. climbs_below folder rest parent folders climbs some up)
  where
    by_front : (front : List ℕ) → IsFront parent front
        → (folder ≡ front) ⊎ ((rest : List ℕ) × (front ≡ folder ++ 47 ∷ rest))
        → ((rest : List ℕ) → parent ≡ folder ++ 47 ∷ rest → IsAbove folder parent) → IsAbove folder path
    by_front front (front_at_root _ _ a b) (inl same) up = absurd (some (same ∙ b))
    by_front front (front_at_root _ _ a b) (inr rest) up = absurd (longer folder rest.0 (sym rest.1 ∙ b))
      where
        longer : (xs ys : List ℕ) → xs ++ 47 ∷ ys ≡ [] → ⊥
        longer [] ys f = cc
        longer (x ∷ xs) ys f = cc
    by_front front (at_other _ _ a b) (inl same) up = subst (λ f. IsAbove f path) (sym (same ∙ b)) (parent_of parent path p)
    by_front front (at_other _ _ a b) (inr rest) up = further folder parent path (up rest.0 (sym b ∙ rest.1)) p

pub below_by_text : (folder more path : List ℕ) → folder ≢ [] → IsPath path → path ≡ folder ++ 47 ∷ more
    → IsAbove folder path
below_by_text folder more path some is_path e =
    climbs_below folder more path (folders_from path) (folders_climb path is_path) some e

-- ---- the text of a path below another begins with the other's

pub record IsLonger (above path : List ℕ) : Type 0 where
  pub more : List ℕ
  pub is : path ≡ above ++ 47 ∷ more

pub child_longer : (parent path : List ℕ) → IsParent parent path → parent ≢ codes "/" → IsLonger parent path
child_longer parent path p deep =
    by (front_of parent p.name).front (front_of parent p.name).is_front (p.text ∙ (front_of parent p.name).text_is)
  where
    by : (front : List ℕ) → IsFront parent front → path ≡ front ++ 47 ∷ p.name → IsLonger parent path
    by front (front_at_root _ _ a b) e = absurd (deep a)
    by front (at_other _ _ a b) e = record { more = p.name; is = e ∙ ap (λ f. f ++ 47 ∷ p.name) b }

pub above_longer : (above path : List ℕ) → above ≢ codes "/" → IsAbove above path → IsLonger above path
above_longer _ _ deep (parent_of above path p) = child_longer above path p deep
above_longer _ _ deep (further above parent path a p) =
    let up = above_longer above parent deep a in
    let is : IsPath above = above_is_path above parent a in
    let some : above ≢ [] = not_empty is.depth above is.segments in
    let down = child_longer parent path p (λ e. more_than_root above up.more some (sym up.is ∙ e)) in
    record {
      more = up.more ++ 47 ∷ down.more;
      is = down.is ∙ (ap (λ l. l ++ 47 ∷ down.more) up.is ∙ append_assoc above (47 ∷ up.more) (47 ∷ down.more));
    }
