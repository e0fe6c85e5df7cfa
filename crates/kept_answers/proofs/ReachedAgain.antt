-- The looks of a question up to the first limit, by looks at paths of its footprint.
--     reached_first            what looks at the first paths reach, the question's looks do
--     reached_behind_front     what its looks reach where a front of them went before, they reach without that
use Rattle.std.proofs.Common.{◌≡◌, ◌⊎◌, ℕ, nat_lt, Bool, true, false, List, [], ◌∷◌, ◌++◌, Result, Ok, Err, refl, sym, ap, ◌∙◌, subst, inl, inr}
use Rattle.std.proofs.Common.{append_assoc, append-nil}
use Rattle.std.specs.Prelude.{if◌then◌else◌}
use Rattle.std.proofs.lemmas.Bool.{cond-true, cond-false, or_right}
use Rattle.asking_spec.specs.Evaluation.{ends, stopped, then_ended}
use Rattle.tree_spec.proofs.FootprintSets.{seen_noted}
use Rattle.tree_spec.proofs.LimitedLooks.{LookEnd, visited, visited_append, visited_counts}
use Rattle.tree_spec.specs.LookAskings.{Sights, look_at_each, looks, is_seen, noted}
use Rattle.tree_spec.specs.LookLimits.{LookLimits, Trail, begun, size_at, seen_again, counted, told}
use Rattle.tree_spec.specs.declared.LimitName.{LimitName}
use Rattle.tree_spec.specs.declared.LimitName.TheVariants.{File, Looks}
use Rattle.package_lookup.specs.Trails.{HasRoom, IsReached}
use Rattle.package_lookup.proofs.Reaching.{room_counted}
use Rattle.kept_spec.specs.Replays.{IsFront}
use Rattle.kept_spec.proofs.FrontLooks.{front_goes_before}
use Rattle.kept_spec.proofs.Replaying.{first_looks, noted_first, visited_noted}

pub looks_each : (sights : Sights) (paths : List (List ℕ)) → looks sights (look_at_each paths) ≡ paths
looks_each sights [] = refl
looks_each sights (path ∷ more) = ap (λ ps. path ∷ ps) (looks_each sights more)

-- ---- where a path stands among first looks, it stands among all

record StandsIn (seen paths front : List (List ℕ)) (path : List ℕ) : Type 0 where
  ahead : List (List ℕ)
  back : List (List ℕ)
  split : paths ≡ ahead ++ path ∷ back
  first : first_looks seen ahead ≡ front

stands_here : (seen more : List (List ℕ)) (head path : List ℕ) → head ≡ path → StandsIn seen (head ∷ more) [] path
stands_here seen more head path same =
    record { ahead = []; back = more; split = ap (λ p. p ∷ more) same; first = refl }

stands_again : (seen more front : List (List ℕ)) (head path : List ℕ) → is_seen head seen ≡ true
    → StandsIn seen more front path → StandsIn seen (head ∷ more) front path
stands_again seen more front head path held at = record {
  ahead = head ∷ at.ahead;
  back = at.back;
  split = ap (λ ps. head ∷ ps) at.split;
  first = cond-true _ _ _ held ∙ at.first;
}

stands_later : (seen more front : List (List ℕ)) (head other path : List ℕ) → is_seen head seen ≡ false
    → head ≡ other → StandsIn (seen ++ head ∷ []) more front path → StandsIn seen (head ∷ more) (other ∷ front) path
stands_later seen more front head other path new same at = record {
  ahead = head ∷ at.ahead;
  back = at.back;
  split = ap (λ ps. head ∷ ps) at.split;
  first = cond-false _ _ _ new ∙ (ap (λ ps. head ∷ ps) at.first ∙ ap (λ p. p ∷ front) same);
}

never_none : (front back : List (List ℕ)) (path : List ℕ) → [] ≡ front ++ path ∷ back → ⊥
never_none [] back path e = cc
never_none (head ∷ front) back path e = cc

stands_by : (seen more front back : List (List ℕ)) (head path : List ℕ) (held : Bool) → is_seen head seen ≡ held
    → (if held then first_looks seen more else head ∷ first_looks (seen ++ head ∷ []) more) ≡ front ++ path ∷ back
    → (first_looks seen more ≡ front ++ path ∷ back → StandsIn seen more front path)
    → ((others : List (List ℕ)) → first_looks (seen ++ head ∷ []) more ≡ others ++ path ∷ back
    → StandsIn (seen ++ head ∷ []) more others path) → StandsIn seen (head ∷ more) front path
stands_by seen more front back head path true h e again later = stands_again seen more front head path h (again e)
stands_by seen more [] back head path false h e again later =
    (let same : head ≡ path = cc in stands_here seen more head path same)
stands_by seen more (other ∷ front) back head path false h e again later =
    let same : head ≡ other = cc in
    let rest : first_looks (seen ++ head ∷ []) more ≡ front ++ path ∷ back = cc in
    stands_later seen more front head other path h same (later front rest)

stands_in : (seen paths front back : List (List ℕ)) (path : List ℕ) → first_looks seen paths ≡ front ++ path ∷ back
    → StandsIn seen paths front path
stands_in seen [] front back path e = absurd (never_none front back path e)
stands_in seen (head ∷ more) front back path e =
    stands_by seen more front back head path (is_seen head seen) refl e
    (λ again. stands_in seen more front back path again)
    (λ others later. stands_in (seen ++ head ∷ []) more others back path later)

-- ---- one front and another

fronts_of : (one other some rest : List (List ℕ)) → one ++ some ≡ other ++ rest → IsFront one other ⊎ IsFront other one
fronts_of [] other some rest e = inl (other, refl)
fronts_of (head ∷ one) [] some rest e = inr (head ∷ one, refl)
fronts_of (head ∷ one) (first ∷ other) some rest e =
    let same : head ≡ first = cc in
    let behind : one ++ some ≡ other ++ rest = cc in
    elim (fronts_of one other some rest behind) [
      | inl is ↦ inl (is.0, ap (λ ps. first ∷ ps) is.1 ∙ ap (λ p. p ∷ (one ++ is.0)) (sym same))
      | inr is ↦ inr (is.0, ap (λ ps. head ∷ ps) is.1 ∙ ap (λ p. p ∷ (other ++ is.0)) same)
    ]

module _ (limits : LookLimits) (sights : Sights) where
  abbrev Ends : Trail → List (List ℕ) → Type 0
  Ends trail paths = (after : Trail) × (visited limits sights trail paths ≡ ends tt after)

  front_ends_by : (end : LookEnd (Unit {0})) (next : Unit {0} → Trail → LookEnd (Unit {0})) (after : Trail)
      → then_ended end next ≡ ends tt after → (middle : Trail) × (end ≡ ends tt middle)
  front_ends_by (ends done middle) next after e = (middle, refl)
  front_ends_by (stopped name middle) next after e = absurd (cc)

  front_ends : (trail after : Trail) (front paths : List (List ℕ)) → IsFront front paths
      → visited limits sights trail paths ≡ ends tt after → Ends trail front
  front_ends trail after front paths is e =
      front_ends_by (visited limits sights trail front) (λ done later. visited limits sights later is.0) after
      (sym (ap (visited limits sights trail) is.1 ∙ visited_append limits sights trail front is.0) ∙ e)

  noted_is : (paths : List (List ℕ)) → noted [] paths ≡ first_looks [] paths
  noted_is paths = noted_first [] paths

  pub reached_first : (trail : Trail) (paths : List (List ℕ)) (path : List ℕ)
      → IsReached limits sights trail (noted [] paths) path → IsReached limits sights trail paths path
  reached_first trail paths path is =
      let at = stands_in [] paths is.front is.back path (sym (noted_is paths) ∙ is.split) in
      record {
        front = at.ahead;
        back = at.back;
        split = at.split;
        before = is.before;
        passes = visited_noted limits sights trail at.ahead
            ∙ (ap (visited limits sights trail) (noted_is at.ahead ∙ at.first) ∙ is.passes);
        room = is.room;
      }

  -- ---- where a front of them went before

  noted_append : (seen some more : List (List ℕ)) → noted seen (some ++ more) ≡ noted (noted seen some) more
  noted_append seen [] more = refl
  noted_append seen (path ∷ some) more = noted_append (if is_seen path seen then seen else seen ++ path ∷ []) some more

  -- they pass no limit, and there is room for the path behind them
  abbrev Arrives : Trail → List (List ℕ) → List ℕ → Type 0
  Arrives trail paths path =
      (after : Trail) × (visited limits sights trail paths ≡ ends tt after) × HasRoom limits sights after path

  room_seen : (trail : Trail) (path : List ℕ) → is_seen path trail.paths ≡ true → HasRoom limits sights trail path
  room_seen trail path held = λ many.
      never_many (nat_lt limits.file (size_at (sights path))) (sym (cond-true _ _ _ held) ∙ many)
    where
      never_many : (large : Bool) → (if large then Err File else Ok (seen_again trail path)) ≡ Err Looks → ⊥
      never_many true e = cc
      never_many false e = cc

  room_next : (trail after : Trail) (path : List ℕ) (more : List (List ℕ)) (c : Result Trail LimitName)
      → counted limits trail path (sights path) ≡ c
      → then_ended (told (sights path) trail c) (λ found t. visited limits sights t more) ≡ ends tt after
      → HasRoom limits sights trail path
  room_next trail after path more (Err name) c e = absurd (cc)
  room_next trail after path more (Ok middle) c e = room_counted limits sights trail middle path c

  same_next : (some : List (List ℕ)) (path next : List ℕ) (back more : List (List ℕ))
      → some ++ path ∷ back ≡ some ++ next ∷ more → next ≡ path
  same_next [] path next back more e = cc
  same_next (head ∷ some) path next back more e =
      (let rest : some ++ path ∷ back ≡ some ++ next ∷ more = cc in same_next some path next back more rest)

  -- the path is seen, or comes next
  room_behind : (start middle after : Trail) (some back more rest : List (List ℕ)) (path next : List ℕ) (held : Bool)
      → is_seen path some ≡ held → visited limits sights start some ≡ ends tt middle
      → visited limits sights middle (next ∷ more) ≡ ends tt after
      → some ++ (if held then first_looks some back else path ∷ first_looks (some ++ path ∷ []) back)
      ≡ some ++ next ∷ rest → HasRoom limits sights middle path
  room_behind start middle after some back more rest path next true h e goes same =
      room_seen middle path
      (ap (is_seen path) (visited_counts limits sights start some middle e).all
      ∙ (seen_noted path start.paths some ∙ or_right (is_seen path start.paths) (is_seen path some) h))
  room_behind start middle after some back more rest path next false h e goes same =
      subst (HasRoom limits sights middle) (same_next some path next (first_looks (some ++ path ∷ []) back) rest same)
      (room_next middle after next more (counted limits middle next (sights next)) refl goes)

  within_some : (trail after later : Trail) (some front : List (List ℕ)) (path : List ℕ)
      → visited limits sights (begun trail) front ≡ ends tt after
      → visited limits sights (begun after) some ≡ ends tt later → HasRoom limits sights later path
      → IsFront front (noted [] some) → Arrives (begun trail) some path
  within_some trail after later some front path e goes room is = (
    later,
    sym (front_goes_before limits sights trail after (look_at_each some) front
        (is.0, ap (noted []) (looks_each sights some) ∙ is.1) e) ∙ goes,
    room,
  )

  behind_some : (trail after later : Trail) (some front back more behind : List (List ℕ)) (path : List ℕ)
      → visited limits sights (begun trail) front ≡ ends tt after
      → visited limits sights (begun after) some ≡ ends tt later → HasRoom limits sights later path
      → noted [] some ++ first_looks (noted [] some) (path ∷ back) ≡ front ++ behind
      → front ≡ noted [] some ++ more → Arrives (begun trail) some path
  behind_some trail after later some front back [] behind path e goes room whole is =
      within_some trail after later some front path e goes room
      ([], sym (append-nil front ∙ (is ∙ append-nil (noted [] some))))
  behind_some trail after later some front back (next ∷ more) behind path e goes room whole is =
      let found = front_ends (begun trail) after (noted [] some) front (next ∷ more, is) e in
      let rest : visited limits sights found.0 (next ∷ more) ≡ ends tt after =
      sym (ap (λ end. then_ended end (λ done later. visited limits sights later (next ∷ more))) found.1)
      ∙ (sym (ap (visited limits sights (begun trail)) is
      ∙ visited_append limits sights (begun trail) (noted [] some) (next ∷ more)) ∙ e) in (
        found.0,
        visited_noted limits sights (begun trail) some ∙ found.1,
        room_behind (begun trail) found.0 after (noted [] some) back more (more ++ behind) path next
            (is_seen path (noted [] some)) refl found.1 rest
            (whole ∙ (ap (λ ps. ps ++ behind) is ∙ append_assoc (noted [] some) (next ∷ more) behind)),
      )

  arrives_by : (trail after later : Trail) (some front back behind : List (List ℕ)) (path : List ℕ)
      → visited limits sights (begun trail) front ≡ ends tt after
      → visited limits sights (begun after) some ≡ ends tt later → HasRoom limits sights later path
      → noted [] some ++ first_looks (noted [] some) (path ∷ back) ≡ front ++ behind
      → IsFront front (noted [] some) ⊎ IsFront (noted [] some) front → Arrives (begun trail) some path
  arrives_by trail after later some front back behind path e goes room whole (inl is) =
      within_some trail after later some front path e goes room is
  arrives_by trail after later some front back behind path e goes room whole (inr is) =
      behind_some trail after later some front back is.0 behind path e goes room whole is.1

  pub reached_behind_front : (trail after : Trail) (paths front : List (List ℕ)) (path : List ℕ)
      → IsFront front (noted [] paths) → visited limits sights (begun trail) front ≡ ends tt after
      → IsReached limits sights (begun after) paths path → IsReached limits sights (begun trail) paths path
  reached_behind_front trail after paths front path begins e is =
      let rest = first_looks (noted [] is.front) (path ∷ is.back) in
      let whole : noted [] paths ≡ noted [] is.front ++ rest =
      ap (noted []) is.split ∙ (noted_append [] is.front (path ∷ is.back)
      ∙ noted_first (noted [] is.front) (path ∷ is.back)) in
      let both : noted [] is.front ++ rest ≡ front ++ begins.0 = sym whole ∙ begins.1 in
      let found = arrives_by trail after is.before is.front front is.back begins.0 path e is.passes is.room both
      (fronts_of front (noted [] is.front) begins.0 rest (sym both)) in
      record {
        front = is.front;
        back = is.back;
        split = is.split;
        before = found.0;
        passes = found.1;
        room = found.2;
      }
