-- The looks of a walk's questions are those of the generation, up to the first limit.
--     to_end_reached, reached_to_end      the looks of a question until it ends are those before which no limit is passed
--                                         and for which there is room
--     walk_looks                          so are those of a walk, whose trail counts a question's paths anew
use Rattle.std.proofs.Common.{◌≡◌, ℕ, Bool, true, false, List, [], ◌∷◌, ◌++◌, Option, Result, Ok, Err, refl, sym, ap, ◌∙◌, subst, inl, inr}
use Rattle.std.specs.Prelude.{Contains, if◌then◌else◌}
use Rattle.std.proofs.lemmas.List.Elements.{Contains-append_cases}
use Rattle.asking_spec.specs.Askings.{Asking, answered, ask, outcome, through}
use Rattle.asking_spec.specs.Evaluation.{Ended, ends, stopped, then_ended}
use Rattle.asking_spec.proofs.AskingLemmas.{questions_then}
use Rattle.asking_spec.proofs.EvaluationLemmas.{ends_outcome}
use Rattle.tree_spec.specs.declared.Entry.{Entry}
use Rattle.tree_spec.specs.declared.LimitName.{LimitName}
use Rattle.tree_spec.specs.LookAskings.{Sights, LookAsking, look_at_each, looks}
use Rattle.tree_spec.specs.LookLimits.{Trail, begun, look_limits, counted, told, limited}
use Rattle.tree_spec.proofs.Contained.{contains_here, contains_there, contains_cases, contains_none}
use Rattle.tree_spec.proofs.LimitedLooks.{LookEnd, visited}
use Rattle.trace_spec.proofs.Generations.{looks_behind}
use Rattle.trace_spec.specs.Laws.{without_question}
use Rattle.trace_spec.specs.Questions.{Question, Answer, put, answers}
use Rattle.package_lookup.specs.Trails.{has_room, HasRoom, IsReached}
use Rattle.package_lookup.proofs.Questions.{limited_always}
use Rattle.package_lookup.proofs.Reaching.{room_there, has_room_there, room_counted, reached_now, reached_as, reached_behind, reached_by_front, looks_passed}
use Rattle.trace_walk.specs.Meeting.{asked_then, looks_to_end}
use Rattle.request_trace.specs.Answering.{Freshness, looked_to_end, told_by}

module _ (sights : Sights) where
  abbrev Reached : Trail → List (List ℕ) → List ℕ → Type 0
  Reached trail paths path = IsReached look_limits sights trail paths path

  abbrev to_end : {X : Type 0} → Trail → LookAsking X → List (List ℕ)
  to_end trail asking = looked_to_end sights trail asking

  -- what an asking looks at behind its first look
  abbrev behind_first : {X : Type 0} → Trail → List ℕ → (Option Entry → LookAsking X) → List (List ℕ)
  behind_first trail first next =
      asked_then (limited look_limits sights trail first) (λ found after. to_end after (next found))

  -- ---- one question

  goes_by : {X : Type 0} (trail : Trail) (first path : List ℕ) (next : Option Entry → LookAsking X)
      (c : Result Trail LimitName) → counted look_limits trail first (sights first) ≡ c
      → ((middle : Trail) → Contains (to_end middle (next (sights first))) path
      → Reached middle (looks sights (next (sights first))) path)
      → Contains (asked_then (told (sights first) trail c) (λ found after. to_end after (next found))) path
      → Reached trail (first ∷ looks sights (next (sights first))) path
  goes_by trail first path next (Err name) c rest held = absurd (contains_none path held)
  goes_by trail first path next (Ok middle) c rest held =
      reached_behind look_limits sights trail middle (first ∷ []) (looks sights (next (sights first))) path
      (ap (λ r. then_ended (told (sights first) trail r) (λ found t. visited look_limits sights t [])) c)
      (rest middle held)

  first_by : {X : Type 0} (trail : Trail) (first path : List ℕ) (next : Option Entry → LookAsking X) (room : Bool)
      → has_room trail first ≡ room
      → ((middle : Trail) → Contains (to_end middle (next (sights first))) path
      → Reached middle (looks sights (next (sights first))) path)
      → Contains (if room then first ∷ behind_first trail first next else []) path
      → Reached trail (first ∷ looks sights (next (sights first))) path
  first_by trail first path next false e rest held = absurd (contains_none path held)
  first_by trail first path next true e rest held =
      elim (contains_cases path first (behind_first trail first next) held) [
        | inl same ↦ subst (λ p. Reached trail (first ∷ looks sights (next (sights first))) p) same
            (reached_now look_limits sights trail first (looks sights (next (sights first)))
            (room_there sights trail first e))
        | inr later ↦ goes_by trail first path next (counted look_limits trail first (sights first)) refl rest later
      ]

  pub to_end_reached : {X : Type 0} (trail : Trail) (asking : LookAsking X) (path : List ℕ)
      → Contains (to_end trail asking) path → Reached trail (looks sights asking) path
  to_end_reached trail (answered value) path held = absurd (contains_none path held)
  to_end_reached trail (ask first next) path held =
      first_by trail first path next (has_room trail first) refl
      (λ middle rest. to_end_reached middle (next (sights first)) path rest) held

  counts_by : {X : Type 0} (trail there : Trail) (first path : List ℕ) (front : List (List ℕ))
      (next : Option Entry → LookAsking X) (c : Result Trail LimitName)
      → ((middle : Trail) → visited look_limits sights middle front ≡ ends tt there
      → Contains (to_end middle (next (sights first))) path)
      → then_ended (told (sights first) trail c) (λ found t. visited look_limits sights t front) ≡ ends tt there
      → Contains (asked_then (told (sights first) trail c) (λ found after. to_end after (next found))) path
  counts_by trail there first path front next (Ok middle) rest passed = rest middle passed
  counts_by trail there first path front next (Err name) rest passed = absurd (cc)

  -- there was room for a look that passed no limit
  room_by : (trail there : Trail) (first : List ℕ) (front : List (List ℕ)) (c : Result Trail LimitName)
      → counted look_limits trail first (sights first) ≡ c
      → then_ended (told (sights first) trail c) (λ found t. visited look_limits sights t front) ≡ ends tt there
      → has_room trail first ≡ true
  room_by trail there first front (Err name) c passed = absurd (cc)
  room_by trail there first front (Ok middle) c passed =
      has_room_there sights trail first (room_counted look_limits sights trail middle first c)

  never_first : (front back : List (List ℕ)) (path : List ℕ) → [] ≡ front ++ path ∷ back → ⊥
  never_first [] back path e = cc
  never_first (first ∷ front) back path e = cc

  held_by : {X : Type 0} (trail : Trail) (first path : List ℕ) (next : Option Entry → LookAsking X)
      → has_room trail first ≡ true → Contains (first ∷ behind_first trail first next) path
      → Contains (to_end trail (ask first next)) path
  held_by trail first path next room held =
      subst (λ r. Contains (if r then first ∷ behind_first trail first next else []) path) (sym room) held

  held_to_end : {X : Type 0} (trail there : Trail) (asking : LookAsking X) (front back : List (List ℕ)) (path : List ℕ)
      → looks sights asking ≡ front ++ path ∷ back → visited look_limits sights trail front ≡ ends tt there
      → HasRoom look_limits sights there path → Contains (to_end trail asking) path
  held_to_end trail there (answered value) front back path e passed room = absurd (never_first front back path e)
  held_to_end trail there (ask first next) [] back path e passed room =
      let same : first ≡ path = cc in
      let here : trail ≡ there = cc in
      held_by trail first path next
      (has_room_there sights trail first
      (λ many. room ((λ i. counted look_limits (sym here i) (sym same i) (sights (sym same i))) ∙ many)))
      (subst (λ p. Contains (first ∷ behind_first trail first next) p) same
      (contains_here first (behind_first trail first next)))
  held_to_end trail there (ask first next) (head ∷ front) back path e passed room =
      let same : head ≡ first = cc in
      let rest : looks sights (next (sights first)) ≡ front ++ path ∷ back = cc in
      let goes : visited look_limits sights trail (first ∷ front) ≡ ends tt there =
      subst (λ p. visited look_limits sights trail (p ∷ front) ≡ ends tt there) same passed in
      held_by trail first path next
      (room_by trail there first front (counted look_limits trail first (sights first)) refl goes)
      (contains_there path first (behind_first trail first next)
      (counts_by trail there first path front next (counted look_limits trail first (sights first))
      (λ middle more. held_to_end middle there (next (sights first)) front back path rest more room) goes))

  pub reached_to_end : {X : Type 0} (trail : Trail) (asking : LookAsking X) (path : List ℕ)
      → Reached trail (looks sights asking) path → Contains (to_end trail asking) path
  reached_to_end trail asking path is =
      held_to_end trail is.before asking is.front is.back path is.split is.passes is.room

  -- ---- trails that differ in the paths of the last question alone

  record PassesAlike (other after : Trail) (paths : List (List ℕ)) : Type 0 where
    later : Trail
    passes : visited look_limits sights other paths ≡ ends tt later
    same : begun after ≡ begun later

  alike_by : (other after : Trail) (paths : List (List ℕ)) (end : LookEnd (Unit {0}))
      → visited look_limits sights other paths ≡ end
      → without_question {X = Unit {0}} (ends tt after) ≡ without_question end → PassesAlike other after paths
  alike_by other after paths (ends done later) e same =
      record { later = later; passes = e; same = (let trails : begun after ≡ begun later = cc in trails) }
  alike_by other after paths (stopped name later) e same = absurd (cc)

  passes_alike : (one other after : Trail) (paths : List (List ℕ)) → begun one ≡ begun other
      → visited look_limits sights one paths ≡ ends tt after → PassesAlike other after paths
  passes_alike one other after paths same e =
      alike_by other after paths (visited look_limits sights other paths) refl
      (ap without_question (sym e) ∙ looks_behind sights one other (look_at_each paths) same)

  reached_alike : (one other : Trail) (paths : List (List ℕ)) (path : List ℕ) → begun one ≡ begun other
      → Reached one paths path → Reached other paths path
  reached_alike one other paths path same is =
      let found = passes_alike one other is.before is.front same is.passes in
      record {
        front = is.front;
        back = is.back;
        split = is.split;
        before = found.later;
        passes = found.passes;
        room = room_there sights found.later path
            (sym (ap (λ (t : Trail). has_room t path) found.same) ∙ has_room_there sights is.before path is.room);
      }

  -- ---- a walk

  abbrev walked : {X : Type 0} → Asking Question Answer X → List (List ℕ)
  walked asking = looks sights (through put asking)

  module _ (is_fresh : Freshness) where
    behind_by : {X : Type 0} (one other : Trail) (question : Question) (next : Answer question → Asking Question Answer X)
        (path : List ℕ) (first : Ended (Answer question) Trail LimitName) → answers sights one question ≡ first
        → begun one ≡ begun other
        → ((answer : Answer question) (after later : Trail) → begun after ≡ begun later
        → Contains (looks_to_end (told_by is_fresh sights) after (next answer)) path → Reached later (walked (next answer)) path)
        → Contains (asked_then first (λ answer after. looks_to_end (told_by is_fresh sights) after (next answer))) path
        → Reached other (walked (ask question next)) path
    behind_by one other question next path (stopped limit after) e same rest held = absurd (contains_none path held)
    behind_by one other question next path (ends answer after) e same rest held =
        let found = passes_alike (begun one) other after (looks sights (put question)) same
        (looks_passed look_limits sights (begun one) after (put question) answer e) in
        let is : answer ≡ outcome sights (put question) =
        ends_outcome (limited look_limits sights) sights (limited_always sights) (begun one) after (put question) answer e in
        reached_as look_limits sights other (looks sights (put question) ++ walked (next answer))
        (walked (ask question next)) path
        (questions_then sights (put question) (λ a. through put (next a))
        ∙ ap (λ a. looks sights (put question) ++ walked (next a)) (sym is))
        (reached_behind look_limits sights other found.later (looks sights (put question)) (walked (next answer)) path
        found.passes (rest answer after found.later found.same held))

    pub walk_looks : {X : Type 0} (one other : Trail) (asking : Asking Question Answer X) (path : List ℕ)
        → begun one ≡ begun other → Contains (looks_to_end (told_by is_fresh sights) one asking) path
        → Reached other (walked asking) path
    walk_looks one other (answered value) path same held = absurd (contains_none path held)
    walk_looks one other (ask question next) path same held =
        elim (Contains-append_cases (to_end (begun one) (put question))
        (asked_then (answers sights one question) (λ answer after. looks_to_end (told_by is_fresh sights) after (next answer))) path
        held) [
          | inl here ↦ reached_by_front look_limits sights other (looks sights (put question)) (walked (ask question next))
              path
              (walked (next (outcome sights (put question))), questions_then sights (put question) (λ a. through put (next a)))
              (reached_alike (begun one) other (looks sights (put question)) path same
              (to_end_reached (begun one) (put question) path here))
          | inr later ↦ behind_by one other question next path (answers sights one question) refl same
              (λ answer after last trails more. walk_looks after last (next answer) path trails more) later
        ]
