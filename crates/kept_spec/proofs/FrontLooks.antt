-- An asking's first looks.
use Rattle.std.proofs.Common.{◌≡◌, ℕ, nat_lt, Bool, true, false, List, [], ◌∷◌, ◌++◌, Result, Ok, Err, refl, sym, ap, ◌∙◌, subst, append_assoc, append-nil}
use Rattle.std.specs.Prelude.{All, if◌then◌else◌}
use Rattle.std.proofs.lemmas.Bool.{cond-true, cond-false}
use Rattle.std.proofs.lemmas.List.Elements.{All-nil, All-cons, All-head, All-tail, All-append, All-contains}
use Rattle.asking_spec.specs.Askings.{answered, ask, outcome}
use Rattle.asking_spec.specs.Evaluation.{ends, stopped, then_ended, evaluated}
use Rattle.tree_spec.specs.LookAskings.{Sights, LookAsking, looks, is_seen, noted, footprint}
use Rattle.tree_spec.specs.LookLimits.{LookLimits, Trail, begun, size_at, seen_again, counted, told, limited}
use Rattle.tree_spec.specs.declared.LimitName.{LimitName}
use Rattle.tree_spec.proofs.Contained.{all_contained, contains_seen, seen_contained}
use Rattle.tree_spec.proofs.FootprintSets.{seen_noted}
use Rattle.tree_spec.proofs.Fronts.{all_front}
use Rattle.tree_spec.proofs.LimitedLooks.{LookEnd, with_value, visited, visited_append, visited_counts, limited_is}
use Rattle.kept_spec.specs.Certificates.{LookSeen, paths_of, AreSeen}
use Rattle.kept_spec.specs.Laws.{FrontIsLooked, FrontGoesBefore, FrontStops, QuestionIsCounted}
use Rattle.kept_spec.specs.Replays.{IsFront}
use Rattle.kept_spec.proofs.Certifying.{Shows, agree}
use Rattle.kept_spec.proofs.Replaying.{first_looks, noted_first, visited_noted, visited_first, AreLookedAt, one_more}

-- ---- two that agree on the first paths of a footprint

module _ (one other : Sights) where
  abbrev Same : List ℕ → Type 0
  Same path = one path ≡ other path

  begins : (path : List ℕ) (front paths : List (List ℕ)) → IsFront front paths
      → IsFront (path ∷ front) (path ∷ paths)
  begins path front paths is = (is.0, ap (λ ps. path ∷ ps) is.1)

  front_by : (path next : List ℕ) (seen front rest here there : List (List ℕ)) (new over : List (List ℕ))
      (held : Bool) → is_seen path seen ≡ held
      → (if held then here else path ∷ new) ≡ front ++ next ∷ rest → All Same seen → All Same front
      → ((more : List (List ℕ)) → here ≡ more ++ next ∷ rest → All Same more → Same path
      → IsFront (more ++ next ∷ []) there)
      → ((more : List (List ℕ)) → new ≡ more ++ next ∷ rest → All Same more → Same path
      → IsFront (more ++ next ∷ []) over)
      → IsFront (front ++ next ∷ []) (if held then there else path ∷ over)
  front_by path next seen front rest here there new over true h e was all again first =
      again front e all (All-contains Same seen path was (contains_seen path seen h))
  front_by path next seen [] rest here there new over false h e was all again first =
      (let same : path ≡ next = cc in (over, ap (λ p. p ∷ over) same))
  front_by path next seen (head ∷ more) rest here there new over false h e was all again first =
      let same : path ≡ head = cc in
      let behind : new ≡ more ++ next ∷ rest = cc in
      let agrees : Same path = subst Same (sym same) (All-head Same head more all) in
      subst (λ p. IsFront (p ∷ (more ++ next ∷ [])) (path ∷ over)) same
      (begins path (more ++ next ∷ []) over (first more behind (All-tail Same head more all) agrees))

  never_front : (front : List (List ℕ)) (next : List ℕ) (rest : List (List ℕ)) → [] ≡ front ++ next ∷ rest → ⊥
  never_front [] next rest e = cc
  never_front (path ∷ front) next rest e = cc

  fronts : {X : Type 0} (asking : LookAsking X) (seen front : List (List ℕ)) (next : List ℕ) (rest : List (List ℕ))
      → first_looks seen (looks one asking) ≡ front ++ next ∷ rest → All Same seen → All Same front
      → IsFront (front ++ next ∷ []) (first_looks seen (looks other asking))
  fronts (answered value) seen front next rest e was all = absurd (never_front front next rest e)
  fronts (ask path go) seen front next rest e was all =
      front_by path next seen front rest (first_looks seen (looks one (go (one path))))
      (first_looks seen (looks other (go (other path))))
      (first_looks (seen ++ path ∷ []) (looks one (go (one path))))
      (first_looks (seen ++ path ∷ []) (looks other (go (other path)))) (is_seen path seen) refl e was all
      (λ more h each agrees.
      subst (λ found. IsFront (more ++ next ∷ []) (first_looks seen (looks other (go found)))) agrees
      (fronts (go (one path)) seen more next rest h was each))
      (λ more h each agrees.
      subst (λ found. IsFront (more ++ next ∷ []) (first_looks (seen ++ path ∷ []) (looks other (go found)))) agrees
      (fronts (go (one path)) (seen ++ path ∷ []) more next rest h
      (All-append Same seen (path ∷ []) was (All-cons Same path [] agrees (All-nil Same))) each))

  footprint_begins : {X : Type 0} (asking : LookAsking X) (front : List (List ℕ)) (next : List ℕ)
      (rest : List (List ℕ)) → footprint one asking ≡ front ++ next ∷ rest → All Same front
      → IsFront (front ++ next ∷ []) (footprint other asking)
  footprint_begins asking front next rest e all =
      subst (IsFront (front ++ next ∷ [])) (sym (noted_first [] (looks other asking)))
      (fronts asking [] front next rest (sym (noted_first [] (looks one asking)) ∙ e) (All-nil Same) all)

paths_append : (same : List LookSeen) (next : LookSeen) (rest : List LookSeen)
    → paths_of (same ++ next ∷ rest) ≡ paths_of same ++ next.path ∷ paths_of rest
paths_append [] next rest = refl
paths_append (look ∷ same) next rest = ap (λ ps. look.path ∷ ps) (paths_append same next rest)

pub front_is_looked : {X : Type 0} → FrontIsLooked X
front_is_looked sights asking value looks same rest next certified shown split here =
    let is = certified.each shown.0 shown.1 in
    let before : AreSeen shown.0 same =
    all_front (Shows shown.0) same (next ∷ rest) (subst (AreSeen shown.0) split shown.1) in
    footprint_begins shown.0 sights asking (paths_of same) next.path (paths_of rest)
    (is.paths ∙ (ap paths_of split ∙ paths_append same next rest)) (agree shown.0 sights same before here)

-- ---- looks at paths that were counted

module _ (limits : LookLimits) (sights : Sights) where
  behind_by : (before after : Trail) (seen : List (List ℕ)) (path : List ℕ) (more : List (List ℕ))
      (c : Result Trail LimitName) → counted limits before path (sights path) ≡ c → AreLookedAt limits sights before seen
      → ((middle : Trail) → AreLookedAt limits sights middle (seen ++ path ∷ [])
      → visited limits sights middle more ≡ ends tt after
      → AreLookedAt limits sights after ((seen ++ path ∷ []) ++ more))
      → then_ended (told (sights path) before c) (λ found t. visited limits sights t more) ≡ ends tt after
      → AreLookedAt limits sights after (seen ++ path ∷ more)
  behind_by before after seen path more (Err name) c all rest e = absurd (cc)
  behind_by before after seen path more (Ok middle) c all rest e =
      subst (AreLookedAt limits sights after) (append_assoc seen (path ∷ []) more)
      (rest middle (one_more limits sights before middle path seen all c) e)

  looked_behind : (before after : Trail) (seen paths : List (List ℕ)) → AreLookedAt limits sights before seen
      → visited limits sights before paths ≡ ends tt after → AreLookedAt limits sights after (seen ++ paths)
  looked_behind before after seen [] all e =
      let same : before ≡ after = cc in
      subst (λ ps. AreLookedAt limits sights after ps) (sym (append-nil seen))
      (subst (λ (t : Trail). AreLookedAt limits sights t seen) same all)
  looked_behind before after seen (path ∷ more) all e =
      behind_by before after seen path more (counted limits before path (sights path)) refl all
      (λ middle behind rest. looked_behind middle after (seen ++ path ∷ []) more behind rest) e

  -- looks of a new question
  question_looked : (trail after : Trail) (paths : List (List ℕ))
      → visited limits sights (begun trail) paths ≡ ends tt after → AreLookedAt limits sights after paths
  question_looked trail after paths e =
      looked_behind (begun trail) after [] paths (λ path held. absurd (cc)) e

  question_is : (trail after : Trail) (paths : List (List ℕ))
      → visited limits sights (begun trail) paths ≡ ends tt after → after.question ≡ noted [] paths
  question_is trail after paths e = (visited_counts limits sights (begun trail) paths after e).question

  first_none : (seen paths : List (List ℕ)) → All (λ path. is_seen path seen ≡ true) paths
      → first_looks seen paths ≡ []
  first_none seen [] all = refl
  first_none seen (path ∷ more) all =
      cond-true _ _ _ (All-head (λ p. is_seen p seen ≡ true) path more all)
      ∙ first_none seen more (All-tail (λ p. is_seen p seen ≡ true) path more all)

  none_first : (paths : List (List ℕ)) → first_looks paths paths ≡ []
  none_first paths =
      first_none paths paths
      (all_contained (λ p. is_seen p paths ≡ true) paths (λ path held. seen_contained path paths held))

  -- a path of some looks is a path of the question
  seen_in : (paths question : List (List ℕ)) (path : List ℕ) → question ≡ noted [] paths
      → is_seen path question ≡ true → is_seen path paths ≡ true
  seen_in paths question path is held = sym (seen_noted path [] paths) ∙ (ap (is_seen path) (sym is) ∙ held)

  leaves : (trail after : Trail) (paths : List (List ℕ)) → visited limits sights (begun trail) paths ≡ ends tt after
      → visited limits sights after after.question ≡ ends tt after
  leaves trail after paths e =
      visited_first limits sights after after.question after.question
      (λ path held. question_looked trail after paths e path
      (seen_in paths after.question path (question_is trail after paths e) held))
      ∙ ap (visited limits sights after) (none_first after.question)

  -- ---- in another question

  abbrev IsCountedAt : List (List ℕ) → List ℕ → Type 0
  IsCountedAt paths path = (is_seen path paths ≡ true) × (nat_lt limits.file (size_at (sights path)) ≡ false)

  visited_again : (trail : Trail) (paths : List (List ℕ)) → All (IsCountedAt trail.paths) paths
      → visited limits sights trail paths
      ≡ ends tt (record { paths = trail.paths; size = trail.size; question = noted trail.question paths })
  visited_again trail [] all = refl
  visited_again trail (path ∷ more) all =
      let here = All-head (IsCountedAt trail.paths) path more all in
      ap (λ c. then_ended (told (sights path) trail c) (λ found t. visited limits sights t more))
      (cond-true _ _ _ here.0 ∙ cond-false _ _ _ here.1)
      ∙ visited_again (seen_again trail path) more (All-tail (IsCountedAt trail.paths) path more all)

  begun_again : (trail after : Trail) (front : List (List ℕ))
      → visited limits sights (begun trail) front ≡ ends tt after
      → visited limits sights (begun after) front ≡ ends tt after
  begun_again trail after front e =
      visited_again (begun after) front
      (all_contained (IsCountedAt after.paths) front
      (λ path held.
      let at = question_looked trail after front e path (seen_contained path front held) in
      (at.counted_so, at.small)))
      ∙ ap (λ q. ends tt (record { paths = after.paths; size = after.size; question = q }))
      (sym (question_is trail after front e))

  -- an asking, by a front of its footprint
  by_front : {X : Type 0} (trail : Trail) (asking : LookAsking X) (front : List (List ℕ))
      (is : IsFront front (footprint sights asking)) → evaluated (limited limits sights) trail asking
      ≡ with_value (outcome sights asking)
      (then_ended (visited limits sights trail front) (λ done after. visited limits sights after is.0))
  by_front trail asking front is =
      limited_is limits sights trail asking
      ∙ ap (with_value (outcome sights asking))
      (visited_noted limits sights trail (looks sights asking)
      ∙ (ap (visited limits sights trail) is.1 ∙ visited_append limits sights trail front is.0))

value_from : {X : Type 0} (value other : X) (end : LookEnd (Unit {0})) (after : Trail)
    → with_value value end ≡ ends other after → end ≡ ends tt after
value_from value other (ends done later) after e = (let same : later ≡ after = cc in ap (ends tt) same)
value_from value other (stopped name later) after e = absurd (cc)

pub question_is_counted : {X : Type 0} → QuestionIsCounted X
question_is_counted limits sights before after asking value e =
    leaves limits sights before after (looks sights asking)
    (value_from (outcome sights asking) value (visited limits sights (begun before) (looks sights asking)) after
    (sym (limited_is limits sights (begun before) asking) ∙ e))

pub front_goes_before : {X : Type 0} → FrontGoesBefore X
front_goes_before {X} limits sights trail after asking front is e =
    let goes : LookEnd (Unit {0}) → LookEnd X = λ end. with_value (outcome sights asking)
    (then_ended end (λ done later. visited limits sights later is.0)) in
    by_front limits sights (begun after) asking front is
    ∙ (ap goes (begun_again limits sights trail after front e ∙ sym e)
    ∙ sym (by_front limits sights (begun trail) asking front is))

pub front_stops : {X : Type 0} → FrontStops X
front_stops limits sights trail after asking front name is e =
    by_front limits sights (begun trail) asking front is
    ∙ ap (λ end. with_value (outcome sights asking)
    (then_ended end (λ done later. visited limits sights later is.0))) e
