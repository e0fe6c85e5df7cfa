-- The looks of an asking up to the first limit.
--     room_there, has_room_there  there is room for a look where `has_room` says so, and only there
--     room_counted                and where it is counted
--     reached_now                 the first, where there is room for it
--     reached_before              those of a front are those of the whole
--     reached_behind              so are those behind a front that passes no limit
--     IsFront front paths         these paths begin with that front
--     reached_by_front            the same as `reached_before`
--     reached_among               each is one of the looks
--     all_reached                 where no limit is passed, all are
--     looks_passed                the looks of an asking that ends pass no limit
use Rattle.std.proofs.Common.{◌≡◌, ℕ, List, [], ◌∷◌, ◌++◌, true, Result, Ok, Err, refl, sym, ap, ◌∙◌, subst, inl, inr, append_assoc, ⊎_elim}
use Rattle.std.specs.Prelude.{Contains}
use Rattle.std.proofs.lemmas.Bool.{cases_Bool}
use Rattle.std.proofs.lemmas.List.Elements.{Contains-append_right}
use Rattle.asking_spec.specs.Askings.{outcome}
use Rattle.asking_spec.specs.Evaluation.{ends, stopped, then_ended, evaluated}
use Rattle.tree_spec.proofs.Contained.{contains_here, contains_cases, contains_none}
use Rattle.tree_spec.proofs.LimitedLooks.{LookEnd, with_value, visited, visited_append, limited_is}
use Rattle.tree_spec.specs.LookAskings.{Sights, LookAsking, looks}
use Rattle.tree_spec.specs.LookLimits.{LookLimits, Trail, look_limits, counted, told, limited}
use Rattle.tree_spec.specs.declared.LimitName.{LimitName}
use Rattle.package_lookup.specs.Trails.{has_room, HasRoom, IsReached}
use Rattle.package_lookup.proofs.LookCounts.{counted_many, counted_room}

abbrev pub IsFront : List (List ℕ) → List (List ℕ) → Type 0
IsFront front paths = (rest : List (List ℕ)) × (paths ≡ front ++ rest)

-- the looks of an asking that ends pass no limit
passed_by : {X : Type 0} (value other : X) (end : LookEnd (Unit {0})) (after : Trail)
    → with_value value end ≡ ends other after → end ≡ ends tt after
passed_by value other (ends done later) after e = (let same : later ≡ after = cc in ap (ends tt) same)
passed_by value other (stopped name later) after e = absurd (cc)

pub looks_passed : {X : Type 0} (limits : LookLimits) (sights : Sights) (trail after : Trail) (asking : LookAsking X)
    (value : X) → evaluated (limited limits sights) trail asking ≡ ends value after
    → visited limits sights trail (looks sights asking) ≡ ends tt after
looks_passed limits sights trail after asking value e =
    passed_by (outcome sights asking) value (visited limits sights trail (looks sights asking)) after
    (sym (limited_is limits sights trail asking) ∙ e)

-- ---- room for a look

pub room_there : (sights : Sights) (trail : Trail) (path : List ℕ) → has_room trail path ≡ true
    → HasRoom look_limits sights trail path
room_there sights trail path room = counted_room trail path (sights path) room

pub has_room_there : (sights : Sights) (trail : Trail) (path : List ℕ) → HasRoom look_limits sights trail path
    → has_room trail path ≡ true
has_room_there sights trail path room =
    ⊎_elim (λ e. e) (λ none. absurd (room (counted_many trail path (sights path) none)))
    (cases_Bool (has_room trail path))

pub room_counted : (limits : LookLimits) (sights : Sights) (trail after : Trail) (path : List ℕ)
    → counted limits trail path (sights path) ≡ Ok after → HasRoom limits sights trail path
room_counted limits sights trail after path count = λ many. cc

module _ (limits : LookLimits) (sights : Sights) where
  abbrev Reached : Trail → List (List ℕ) → List ℕ → Type 0
  Reached trail paths path = IsReached limits sights trail paths path

  pub reached_now : (trail : Trail) (path : List ℕ) (more : List (List ℕ)) → HasRoom limits sights trail path
      → Reached trail (path ∷ more) path
  reached_now trail path more room =
      record { front = []; back = more; split = refl; before = trail; passes = refl; room = room }

  pub reached_before : (trail : Trail) (front rest : List (List ℕ)) (path : List ℕ) → Reached trail front path
      → Reached trail (front ++ rest) path
  reached_before trail front rest path is = record {
    front = is.front;
    back = is.back ++ rest;
    split = ap (λ paths. paths ++ rest) is.split ∙ append_assoc is.front (path ∷ is.back) rest;
    before = is.before;
    passes = is.passes;
    room = is.room;
  }

  pub reached_behind : (trail middle : Trail) (front paths : List (List ℕ)) (path : List ℕ)
      → visited limits sights trail front ≡ ends tt middle → Reached middle paths path
      → Reached trail (front ++ paths) path
  reached_behind trail middle front paths path e is = record {
    front = front ++ is.front;
    back = is.back;
    split = ap (λ more. front ++ more) is.split ∙ sym (append_assoc front is.front (path ∷ is.back));
    before = is.before;
    passes = visited_append limits sights trail front is.front
        ∙ (ap (λ end. then_ended end (λ done after. visited limits sights after is.front)) e ∙ is.passes);
    room = is.room;
  }

  pub reached_as : (trail : Trail) (one other : List (List ℕ)) (path : List ℕ) → other ≡ one → Reached trail one path
      → Reached trail other path
  reached_as trail one other path same is = subst (λ paths. Reached trail paths path) (sym same) is

  pub reached_by_front : (trail : Trail) (front paths : List (List ℕ)) (path : List ℕ) → IsFront front paths
      → Reached trail front path → Reached trail paths path
  reached_by_front trail front paths path begins is =
      reached_as trail (front ++ begins.0) paths path begins.1 (reached_before trail front begins.0 path is)

  pub reached_among : (trail : Trail) (paths : List (List ℕ)) (path : List ℕ) → Reached trail paths path
      → Contains paths path
  reached_among trail paths path is =
      subst (λ all. Contains all path) (sym is.split)
      (Contains-append_right is.front (path ∷ is.back) path (contains_here path is.back))

  -- ---- where no limit is passed

  now_by : (trail after : Trail) (first : List ℕ) (more : List (List ℕ)) (c : Result Trail LimitName)
      → counted limits trail first (sights first) ≡ c
      → then_ended (told (sights first) trail c) (λ found t. visited limits sights t more) ≡ ends tt after
      → Reached trail (first ∷ more) first
  now_by trail after first more (Err name) c e = absurd (cc)
  now_by trail after first more (Ok middle) c e =
      reached_now trail first more (room_counted limits sights trail middle first c)

  goes_by : (trail after : Trail) (first path : List ℕ) (more : List (List ℕ)) (c : Result Trail LimitName)
      → counted limits trail first (sights first) ≡ c
      → ((middle : Trail) → visited limits sights middle more ≡ ends tt after → Reached middle more path)
      → then_ended (told (sights first) trail c) (λ found t. visited limits sights t more) ≡ ends tt after
      → Reached trail (first ∷ more) path
  goes_by trail after first path more (Err name) c rest e = absurd (cc)
  goes_by trail after first path more (Ok middle) c rest e =
      reached_behind trail middle (first ∷ []) more path
      (ap (λ r. then_ended (told (sights first) trail r) (λ found t. visited limits sights t [])) c) (rest middle e)

  pub all_reached : (trail after : Trail) (paths : List (List ℕ)) (path : List ℕ)
      → visited limits sights trail paths ≡ ends tt after → Contains paths path → Reached trail paths path
  all_reached trail after [] path e held = absurd (contains_none path held)
  all_reached trail after (first ∷ more) path e held =
      elim (contains_cases path first more held) [
        | inl same ↦ subst (λ p. Reached trail (first ∷ more) p) same
            (now_by trail after first more (counted limits trail first (sights first)) refl e)
        | inr later ↦ goes_by trail after first path more (counted limits trail first (sights first)) refl
            (λ middle rest. all_reached middle after more path rest later) e
      ]
