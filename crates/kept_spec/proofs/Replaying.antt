-- A look at a path that the present question has looked at changes nothing, so that first looks stand for all.
use Rattle.std.proofs.Common.{◌≡◌, ◌+◌, ℕ, nat_lt, Bool, true, false, List, [], ◌∷◌, ◌++◌, length, Option, Result, Ok, Err, refl, sym, ap, ◌∙◌, subst}
use Rattle.std.proofs.Common.{append_assoc, append-nil}
use Rattle.std.specs.Prelude.{not, bytes_eq, if◌then◌else◌, ◌||◌}
use Rattle.std.proofs.lemmas.Bool.{cond-true, cond-false, or_left, or_right}
use Rattle.std.proofs.lemmas.List.Folds.{list_any-append}
use Rattle.std.proofs.lemmas.Slice.Eq.{bytes_eq-Decides}
use Rattle.asking_spec.specs.Askings.{answered, outcome}
use Rattle.asking_spec.specs.Evaluation.{ends, stopped, then_ended}
use Rattle.asking_spec.proofs.EvaluationLemmas.{evaluated_then}
use Rattle.tree_spec.specs.LookAskings.{Sights, look_at_each, looks, is_seen, noted, footprint}
use Rattle.tree_spec.specs.LookLimits.{LookLimits, Trail, begun, size_at, seen_again, seen_first, counted, told, limited}
use Rattle.tree_spec.proofs.FootprintSets.{seen_noted}
use Rattle.tree_spec.proofs.LimitedLooks.{LookEnd, with_value, visited, limited_is, counted_one}
use Rattle.tree_spec.specs.declared.Entry.{Entry}
use Rattle.tree_spec.specs.declared.LimitName.{LimitName}
use Rattle.tree_spec.specs.declared.LimitName.TheVariants.{File, Bytes, Looks}
use Rattle.kept_spec.specs.Replays.{ReplaysFootprint}

-- ---- the first looks among these, behind others

abbrev pub first_looks : List (List ℕ) → List (List ℕ) → List (List ℕ)
first_looks seen [] = []
first_looks seen (path ∷ more) =
    if is_seen path seen then first_looks seen more else path ∷ first_looks (seen ++ path ∷ []) more

noted_by : (seen : List (List ℕ)) (path : List ℕ) (more : List (List ℕ)) (held : Bool)
    → noted seen more ≡ seen ++ first_looks seen more
    → noted (seen ++ path ∷ []) more ≡ (seen ++ path ∷ []) ++ first_looks (seen ++ path ∷ []) more
    → noted (if held then seen else seen ++ path ∷ []) more
    ≡ seen ++ (if held then first_looks seen more else path ∷ first_looks (seen ++ path ∷ []) more)
noted_by seen path more true again first = again
noted_by seen path more false again first =
    first ∙ append_assoc seen (path ∷ []) (first_looks (seen ++ path ∷ []) more)

pub noted_first : (seen paths : List (List ℕ)) → noted seen paths ≡ seen ++ first_looks seen paths
noted_first seen [] = sym (append-nil seen)
noted_first seen (path ∷ more) =
    noted_by seen path more (is_seen path seen) (noted_first seen more) (noted_first (seen ++ path ∷ []) more)

-- ---- paths that are seen

seen_itself : (path : List ℕ) (seen : List (List ℕ)) → is_seen path (noted seen (path ∷ [])) ≡ true
seen_itself path seen =
    seen_noted path seen (path ∷ [])
    ∙ or_right (is_seen path seen) (is_seen path (path ∷ []))
    (or_left (bytes_eq path path) false ((bytes_eq-Decides path path).1 refl))

seen_still : (other : List ℕ) (seen paths : List (List ℕ)) → is_seen other seen ≡ true
    → is_seen other (noted seen paths) ≡ true
seen_still other seen paths held =
    seen_noted other seen paths ∙ or_left (is_seen other seen) (is_seen other paths) held

seen_by : (P : List ℕ → Type 0) (path other : List ℕ) (seen : List (List ℕ)) (held same : Bool)
    → is_seen other seen ≡ held → bytes_eq path other ≡ same → (held || (same || false)) ≡ true
    → (is_seen other seen ≡ true → P other) → P path → P other
seen_by P path other seen true same h s e before here = before h
seen_by P path other seen false true h s e before here = subst P ((bytes_eq-Decides path other).0 s) here
seen_by P path other seen false false h s e before here = absurd (cc)

seen_behind : (P : List ℕ → Type 0) (path other : List ℕ) (seen : List (List ℕ))
    → (is_seen other seen ≡ true → P other) → P path → is_seen other (seen ++ path ∷ []) ≡ true → P other
seen_behind P path other seen before here held =
    seen_by P path other seen (is_seen other seen) (bytes_eq path other) refl refl
    (sym (list_any-append (λ s. bytes_eq s other) seen (path ∷ [])) ∙ held) before here

-- ---- a path at which the question has looked

module _ (limits : LookLimits) (sights : Sights) where
  pub record IsLookedAt (trail : Trail) (path : List ℕ) : Type 0 where
    pub counted_so : is_seen path trail.paths ≡ true
    pub small : nat_lt limits.file (size_at (sights path)) ≡ false
    pub asked : is_seen path trail.question ≡ true

  -- is looked at again without being counted
  counts_again : (trail : Trail) (path : List ℕ) → IsLookedAt trail path
      → counted limits trail path (sights path) ≡ Ok trail
  counts_again trail path at =
      cond-true _ _ _ at.counted_so
      ∙ (cond-false _ _ _ at.small
      ∙ ap (λ question. Ok (record { paths = trail.paths; size = trail.size; question = question }))
      (cond-true _ _ _ at.asked))

  small_by : (trail : Trail) (path : List ℕ) (after : Trail) (seen many large heavy : Bool)
      → (if seen then (if large then Err File else Ok (seen_again trail path)) else if many then Err Looks
      else if large then Err File else if heavy then Err Bytes else Ok (seen_first trail path (sights path))) ≡ Ok after
      → large ≡ false
  small_by trail path after true many true heavy c = absurd (cc)
  small_by trail path after true many false heavy c = refl
  small_by trail path after false true large heavy c = absurd (cc)
  small_by trail path after false false true heavy c = absurd (cc)
  small_by trail path after false false false heavy c = refl

  pub counted_small : (trail : Trail) (path : List ℕ) (after : Trail)
      → counted limits trail path (sights path) ≡ Ok after → nat_lt limits.file (size_at (sights path)) ≡ false
  counted_small trail path after c =
      small_by trail path after (is_seen path trail.paths) (not (nat_lt (length trail.paths) limits.looks))
      (nat_lt limits.file (size_at (sights path))) (nat_lt limits.bytes (trail.size + size_at (sights path))) c

  abbrev pub AreLookedAt : Trail → List (List ℕ) → Type 0
  AreLookedAt trail seen = (path : List ℕ) → is_seen path seen ≡ true → IsLookedAt trail path

  pub one_more : (before after : Trail) (path : List ℕ) (seen : List (List ℕ)) → AreLookedAt before seen
      → counted limits before path (sights path) ≡ Ok after → AreLookedAt after (seen ++ path ∷ [])
  one_more before after path seen all c = λ other.
      let counts = counted_one limits sights before path after c in
      seen_behind (IsLookedAt after) path other seen
      (λ held. let old = all other held in
      record {
        counted_so = ap (is_seen other) counts.all ∙ seen_still other before.paths (path ∷ []) old.counted_so;
        small = old.small;
        asked = ap (is_seen other) counts.question ∙ seen_still other before.question (path ∷ []) old.asked;
      })
      (record {
        counted_so = ap (is_seen path) counts.all ∙ seen_itself path before.paths;
        small = counted_small before path after c;
        asked = ap (is_seen path) counts.question ∙ seen_itself path before.question;
      })

  -- ---- looks one after another

  same_by : (trail : Trail) (path : List ℕ) (c : Result Trail LimitName)
      (one other : Option Entry → Trail → LookEnd (Unit {0})) → counted limits trail path (sights path) ≡ c
      → ((after : Trail) → counted limits trail path (sights path) ≡ Ok after
      → one (sights path) after ≡ other (sights path) after)
      → then_ended (told (sights path) trail c) one ≡ then_ended (told (sights path) trail c) other
  same_by trail path (Ok after) one other e same = same after e
  same_by trail path (Err name) one other e same = refl

  visited_by : (trail : Trail) (seen : List (List ℕ)) (path : List ℕ) (more : List (List ℕ)) (held : Bool)
      → is_seen path seen ≡ held → AreLookedAt trail seen
      → visited limits sights trail more ≡ visited limits sights trail (first_looks seen more)
      → ((after : Trail) → AreLookedAt after (seen ++ path ∷ [])
      → visited limits sights after more ≡ visited limits sights after (first_looks (seen ++ path ∷ []) more))
      → visited limits sights trail (path ∷ more)
      ≡ visited limits sights trail
      (if held then first_looks seen more else path ∷ first_looks (seen ++ path ∷ []) more)
  visited_by trail seen path more true e all again first =
      ap (λ c. then_ended (told (sights path) trail c) (λ found after. visited limits sights after more))
      (counts_again trail path (all path e))
      ∙ again
  visited_by trail seen path more false e all again first =
      same_by trail path (counted limits trail path (sights path)) (λ found after. visited limits sights after more)
      (λ found after. visited limits sights after (first_looks (seen ++ path ∷ []) more)) refl
      (λ after c. first after (one_more trail after path seen all c))

  pub visited_first : (trail : Trail) (seen paths : List (List ℕ)) → AreLookedAt trail seen
      → visited limits sights trail paths ≡ visited limits sights trail (first_looks seen paths)
  visited_first trail seen [] all = refl
  visited_first trail seen (path ∷ more) all =
      visited_by trail seen path more (is_seen path seen) refl all (visited_first trail seen more all)
      (λ after first. visited_first after (seen ++ path ∷ []) more first)

  pub visited_noted : (trail : Trail) (paths : List (List ℕ))
      → visited limits sights trail paths ≡ visited limits sights trail (noted [] paths)
  visited_noted trail paths =
      visited_first trail [] paths (λ path held. absurd (cc))
      ∙ ap (visited limits sights trail) (sym (noted_first [] paths))

-- ---- an asking

value_then : {X : Type 0} (value : X) (end : LookEnd (Unit {0}))
    → then_ended end (λ done after. ends value after) ≡ with_value value end
value_then value (ends done after) = refl
value_then value (stopped name after) = refl

pub replays_footprint : {X : Type 0} → ReplaysFootprint X
replays_footprint limits sights trail asking =
    limited_is limits sights (begun trail) asking
    ∙ (ap (with_value (outcome sights asking)) (visited_noted limits sights (begun trail) (looks sights asking))
    ∙ (sym (value_then (outcome sights asking) (visited limits sights (begun trail) (footprint sights asking)))
    ∙ sym (evaluated_then (limited limits sights) (begun trail) (look_at_each (footprint sights asking))
    (λ done. answered (outcome sights asking)))))
