-- What is fresh behind a change.
--     found_so, found_same     what the test says, and of the same
--     same_is_seen             looks that see the same
--     other_is_changed         looks of which one sees something else
--     unchanged_is_same        looks at paths where nothing changed
use Rattle.std.proofs.Common.{◌≡◌, ℕ, Bool, true, false, List, [], ◌∷◌, Option, Some, None, refl, sym, ap, ◌∙◌, subst, arith}
use Rattle.std.specs.Prelude.{◌&&◌, All, Contains}
use Rattle.std.proofs.lemmas.Bool.{and_parts}
use Rattle.std.proofs.lemmas.List.Elements.{All-nil, All-cons, All-head, All-tail, Contains-append_right}
use Rattle.std.proofs.lemmas.Slice.Eq.{bytes_eq-Decides}
use Rattle.tree_spec.specs.LookAskings.{Sights, LookAsking, footprint}
use Rattle.tree_spec.specs.declared.Entry.{Entry}
use Rattle.tree_spec.specs.declared.Entry.TheVariants.{Stored, Directory}
use Rattle.kept_spec.specs.Certificates.{LookSeen, paths_of, AreSeen, IsCertified}
use Rattle.kept_spec.specs.Freshness.{is_found, see_same, HasChanged}
use Rattle.kept_spec.specs.Laws.{SameIsSeen, OtherIsChanged, UnchangedIsSame}
use Rattle.kept_spec.proofs.Certifying.{Shows}

found_so : (one other : Option Entry) → is_found one other ≡ true → one ≡ other
found_so None None e = refl
found_so None (Some entry) e = absurd (cc)
found_so (Some Directory) None e = absurd (cc)
found_so (Some Directory) (Some Directory) e = refl
found_so (Some Directory) (Some (Stored bytes)) e = absurd (cc)
found_so (Some (Stored bytes)) None e = absurd (cc)
found_so (Some (Stored bytes)) (Some Directory) e = absurd (cc)
found_so (Some (Stored bytes)) (Some (Stored others)) e =
    ap (λ b. Some (Stored b)) ((bytes_eq-Decides bytes others).0 e)

found_itself : (one : Option Entry) → is_found one one ≡ true
found_itself None = refl
found_itself (Some Directory) = refl
found_itself (Some (Stored bytes)) = (bytes_eq-Decides bytes bytes).1 refl

found_same : (one other : Option Entry) → one ≡ other → is_found one other ≡ true
found_same one other same = subst (λ o. is_found one o ≡ true) same (found_itself one)

and_both : (one other : Bool) → one ≡ true → other ≡ true → (one && other) ≡ true
and_both one other a b = ap (λ x. x && other) a ∙ b

module _ (sights : Sights) where
  same_seen : (looks : List LookSeen) → see_same sights looks ≡ true → AreSeen sights looks
  same_seen [] e = All-nil (Shows sights)
  same_seen (look ∷ more) e =
      let parts = and_parts (is_found (sights look.path) look.found) (see_same sights more) e in
      All-cons (Shows sights) look more (found_so (sights look.path) look.found parts.0) (same_seen more parts.1)

  seen_same : (looks : List LookSeen) → AreSeen sights looks → see_same sights looks ≡ true
  seen_same [] all = refl
  seen_same (look ∷ more) all =
      and_both (is_found (sights look.path) look.found) (see_same sights more)
      (found_same (sights look.path) look.found (All-head (Shows sights) look more all))
      (seen_same more (All-tail (Shows sights) look more all))

pub same_is_seen : SameIsSeen
same_is_seen sights looks = (same_seen sights looks, seen_same sights looks)

-- ---- behind a change

pub record Differs (before after : Sights) (paths : List (List ℕ)) : Type 0 where
  pub path : List ℕ
  pub among : Contains paths path
  pub other : before path ≡ after path → ⊥

module _ (before after : Sights) where
  first_of : (path : List ℕ) (more : List (List ℕ)) → Contains (path ∷ more) path
  first_of path more = (0, omega arith, refl)

  differs_behind : (path : List ℕ) (more : List (List ℕ)) → Differs before after more
      → Differs before after (path ∷ more)
  differs_behind path more it = record {
    path = it.path;
    among = Contains-append_right (path ∷ []) more it.path it.among;
    other = it.other;
  }

  differs_here : (look : LookSeen) (more : List (List ℕ)) → before look.path ≡ look.found
      → is_found (after look.path) look.found ≡ false → Differs before after (look.path ∷ more)
  differs_here look more here differ = record {
    path = look.path;
    among = first_of look.path more;
    other = λ same. (let yes = found_same (after look.path) look.found (sym same ∙ here) in absurd (cc));
  }

  -- the first look that sees something else
  differs_by : (look : LookSeen) (more : List LookSeen) (one rest : Bool)
      → is_found (after look.path) look.found ≡ one → see_same after more ≡ rest → before look.path ≡ look.found
      → (rest ≡ false → Differs before after (paths_of more)) → (one && rest) ≡ false
      → Differs before after (look.path ∷ paths_of more)
  differs_by look more false rest e f here behind differ = differs_here look (paths_of more) here e
  differs_by look more true rest e f here behind differ = differs_behind look.path (paths_of more) (behind differ)

  differs : (looks : List LookSeen) → AreSeen before looks → see_same after looks ≡ false
      → Differs before after (paths_of looks)
  differs [] all differ = absurd (cc)
  differs (look ∷ more) all differ =
      differs_by look more (is_found (after look.path) look.found) (see_same after more) refl refl
      (All-head (Shows before) look more all)
      (λ rest. differs more (All-tail (Shows before) look more all) rest) differ

  -- what isn't other is the same
  unless : (looks : List LookSeen) (same : Bool) → see_same after looks ≡ same
      → (see_same after looks ≡ false → ⊥) → see_same after looks ≡ true
  unless looks true e never = e
  unless looks false e never = absurd (never e)

pub other_is_changed : {X : Type 0} → OtherIsChanged X
other_is_changed before after asking value looks certified here differ =
    let it = differs before after looks here differ in
    record {
      path = it.path;
      among = subst (λ paths. Contains paths it.path) (sym (certified.each before here).paths) it.among;
      other = it.other;
    }

pub unchanged_is_same : {X : Type 0} → UnchangedIsSame X
unchanged_is_same before after asking value looks certified here never =
    unless before after looks (see_same after looks) refl
    (λ differ. never (other_is_changed before after asking value looks certified here differ))
