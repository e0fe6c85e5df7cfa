-- What askings come to where their looks have limits.
use Rattle.std.proofs.Common.{◌≡◌, ◌+◌, ℕ, nat_lt, Bool, true, false, List, [], ◌∷◌, ◌++◌, length, Option, Result, Ok, Err, refl, sym, ap, ◌∙◌, subst, arith}
use Rattle.std.specs.Prelude.{not, if◌then◌else◌}
use Rattle.std.proofs.lemmas.Bool.{cond-true, cond-false}
use Rattle.std.proofs.lemmas.List.Elements.{All-head, All-tail}
use Rattle.asking_spec.specs.Askings.{answered, ask, outcome}
use Rattle.asking_spec.specs.Evaluation.{Ended, ends, stopped, then_ended, evaluated}
use Rattle.asking_spec.specs.Laws.{AgreesOn}
use Rattle.tree_spec.proofs.Footprints.{looks_agree}
use Rattle.tree_spec.specs.Laws.{SameLimited, FirstLimitStops, IsCounted, EndsCounted}
use Rattle.tree_spec.specs.LookAskings.{Sights, LookAsking, look_at_each, looks, is_seen, with_seen, noted}
use Rattle.tree_spec.specs.LookLimits.{LookLimits, Trail, size_at, seen_again, seen_first, counted, told, limited, IsFirstLimit, new_size, Counts}
use Rattle.tree_spec.specs.declared.Entry.{Entry}
use Rattle.tree_spec.specs.declared.LimitName.{LimitName}
use Rattle.tree_spec.specs.declared.LimitName.TheVariants.{Looks, File, Bytes}

abbrev pub LookEnd : Type 0 → Type 0
LookEnd X = Ended X Trail LimitName

-- the same end with this value
abbrev pub with_value : {X Y : Type 0} → X → LookEnd Y → LookEnd X
with_value value (ends other after) = ends value after
with_value value (stopped name before) = stopped name before

abbrev pub visited : LookLimits → Sights → Trail → List (List ℕ) → LookEnd (Unit {0})
visited limits sights trail paths = evaluated (limited limits sights) trail (look_at_each paths)

-- ---- what an asking comes to is its outcome, where its looks pass no limit

value_by : {X : Type 0} (value : X) (found : Option Entry) (before : Trail) (c : Result Trail LimitName)
    (first : Option Entry → Trail → LookEnd X) (rest : Option Entry → Trail → LookEnd (Unit {0}))
    → ((after : Trail) → first found after ≡ with_value value (rest found after))
    → then_ended (told found before c) first ≡ with_value value (then_ended (told found before c) rest)
value_by value found before (Ok after) first rest same = same after
value_by value found before (Err name) first rest same = refl

pub limited_is : {X : Type 0} (limits : LookLimits) (sights : Sights) (trail : Trail) (asking : LookAsking X)
    → evaluated (limited limits sights) trail asking
    ≡ with_value (outcome sights asking) (visited limits sights trail (looks sights asking))
limited_is limits sights trail (answered value) = refl
limited_is limits sights trail (ask path next) =
    value_by (outcome sights (next (sights path))) (sights path) trail (counted limits trail path (sights path))
    (λ found after. evaluated (limited limits sights) after (next found))
    (λ found after. visited limits sights after (looks sights (next (sights path))))
    (λ after. limited_is limits sights after (next (sights path)))

-- ---- sights that agree on the looks

told_same : {X : Type 0} (found : Option Entry) (before : Trail) (c : Result Trail LimitName)
    (one other : Option Entry → Trail → LookEnd X) → ((after : Trail) → one found after ≡ other found after)
    → then_ended (told found before c) one ≡ then_ended (told found before c) other
told_same found before (Ok after) one other same = same after
told_same found before (Err name) one other same = refl

pub same_limited : {X : Type 0} (limits : LookLimits) (one other : Sights) (trail : Trail) (asking : LookAsking X)
    → AgreesOn one other (looks one asking)
    → evaluated (limited limits one) trail asking ≡ evaluated (limited limits other) trail asking
same_limited limits one other trail (answered value) agrees = refl
same_limited {X} limits one other trail (ask path next) agrees =
    let Same : List ℕ → Type 0 = λ p. one p ≡ other p in
    let paths : List (List ℕ) = looks one (next (one path)) in
    let go : Sights → Option Entry → Trail → LookEnd X = λ sights found after. evaluated (limited limits sights) after (next found) in
    let first : one path ≡ other path = All-head Same path paths agrees.each in
    told_same (one path) trail (counted limits trail path (one path)) (go one) (go other)
    (λ after. same_limited limits one other after (next (one path)) (record { each = All-tail Same path paths agrees.each }))
    ∙ ap (λ found. then_ended (told found trail (counted limits trail path found)) (go other)) first

pub same_limited_law : {X : Type 0} → SameLimited X
same_limited_law limits one other trail asking agrees =
    same_limited limits one other trail asking (looks_agree one other asking agrees)

-- ---- the first limit

module _ (limits : LookLimits) (sights : Sights) where
  first_by : (trail : Trail) (path : List ℕ) (more : List (List ℕ)) (name : LimitName) (before : Trail)
      (c : Result Trail LimitName) → counted limits trail path (sights path) ≡ c
      → ((after : Trail) → visited limits sights after more ≡ stopped name before
      → IsFirstLimit limits sights after more name before)
      → then_ended (told (sights path) trail c) (λ found after. visited limits sights after more) ≡ stopped name before
      → IsFirstLimit limits sights trail (path ∷ more) name before
  first_by trail path more name before (Err other) c rest e =
      let same : other ≡ name = cc in
      let here : trail ≡ before = cc in
      let passes : visited limits sights trail [] ≡ ends tt before = ap (ends tt) here in
      record {
        front = [];
        path = path;
        back = more;
        split = refl;
        passes = passes;
        limit = subst (λ t. counted limits t path (sights path) ≡ Err name) here (c ∙ ap Err same);
      }
  first_by trail path more name before (Ok after) c rest e =
      let first = rest after e in
      record {
        front = path ∷ first.front;
        path = first.path;
        back = first.back;
        split = ap (λ ps. path ∷ ps) first.split;
        passes =
            ap (λ r. then_ended (told (sights path) trail r) (λ found t. visited limits sights t first.front)) c
            ∙ first.passes;
        limit = first.limit;
      }

  first_limit : (trail : Trail) (paths : List (List ℕ)) (name : LimitName) (before : Trail)
      → visited limits sights trail paths ≡ stopped name before → IsFirstLimit limits sights trail paths name before
  first_limit trail [] name before e = absurd (cc)
  first_limit trail (path ∷ more) name before e =
      first_by trail path more name before (counted limits trail path (sights path)) refl
      (λ after. first_limit after more name before) e

  behind_by : (found : Option Entry) (trail : Trail) (c : Result Trail LimitName)
      (first last both : Option Entry → Trail → LookEnd (Unit {0}))
      → ((after : Trail) → both found after ≡ then_ended (first found after) (λ value later. last found later))
      → then_ended (told found trail c) both
      ≡ then_ended (then_ended (told found trail c) first) (λ value later. last found later)
  behind_by found trail (Ok after) first last both same = same after
  behind_by found trail (Err name) first last both same = refl

  pub visited_append : (trail : Trail) (front back : List (List ℕ))
      → visited limits sights trail (front ++ back)
      ≡ then_ended (visited limits sights trail front) (λ value after. visited limits sights after back)
  visited_append trail [] back = refl
  visited_append trail (path ∷ front) back =
      behind_by (sights path) trail (counted limits trail path (sights path))
      (λ found after. visited limits sights after front) (λ found after. visited limits sights after back)
      (λ found after. visited limits sights after (front ++ back)) (λ after. visited_append after front back)

  limit_stops : (trail : Trail) (paths : List (List ℕ)) (name : LimitName) (before : Trail)
      → IsFirstLimit limits sights trail paths name before → visited limits sights trail paths ≡ stopped name before
  limit_stops trail paths name before first =
      let rest : List (List ℕ) = first.path ∷ first.back in
      ap (visited limits sights trail) first.split ∙ (visited_append trail first.front rest
      ∙ (ap (λ r. then_ended r (λ value after. visited limits sights after rest)) first.passes
      ∙ ap (λ r. then_ended (told (sights first.path) before r) (λ found after. visited limits sights after first.back))
      first.limit))

stopped_from : {X : Type 0} (value : X) (end : LookEnd (Unit {0})) (name : LimitName) (before : Trail)
    → with_value value end ≡ stopped name before → end ≡ stopped name before
stopped_from value (ends other after) name before e = absurd (cc)
stopped_from value (stopped other after) name before e =
    let same : other ≡ name = cc in
    let here : after ≡ before = cc in
    ap (λ n. stopped n after) same ∙ ap (stopped name) here

pub first_limit_stops : {X : Type 0} → FirstLimitStops X
first_limit_stops limits sights trail asking name before =
    let is = limited_is limits sights trail asking in
    let paths : List (List ℕ) = looks sights asking in (
      (λ e. first_limit limits sights trail paths name before
          (stopped_from (outcome sights asking) (visited limits sights trail paths) name before (sym is ∙ e))),
      (λ first. is ∙ ap (with_value (outcome sights asking)) (limit_stops limits sights trail paths name before first)),
    )

-- ---- the trail behind the looks

counted_by : (limits : LookLimits) (sights : Sights) (before : Trail) (path : List ℕ) (after : Trail) (seen many large heavy : Bool)
    → is_seen path before.paths ≡ seen
    → (if seen then (if large then Err File else Ok (seen_again before path)) else if many then Err Looks
    else if large then Err File else if heavy then Err Bytes else Ok (seen_first before path (sights path))) ≡ Ok after
    → Counts sights before (path ∷ []) after
counted_by limits sights before path after true many true heavy e c = absurd (cc)
counted_by limits sights before path after true many false heavy e c =
    let same : seen_again before path ≡ after = cc in
    let none : (if is_seen path before.paths then 0 else size_at (sights path)) ≡ 0 = cond-true _ _ _ e in
    let size : before.size ≡ before.size + ((if is_seen path before.paths then 0 else size_at (sights path)) + 0) = omega (arith, none) in
    record {
      all = ap (λ (t : Trail). t.paths) (sym same) ∙ sym (cond-true _ _ _ e);
      size = ap (λ (t : Trail). t.size) (sym same) ∙ size;
      question = ap (λ (t : Trail). t.question) (sym same);
    }
counted_by limits sights before path after false true large heavy e c = absurd (cc)
counted_by limits sights before path after false false true heavy e c = absurd (cc)
counted_by limits sights before path after false false false true e c = absurd (cc)
counted_by limits sights before path after false false false false e c =
    let same : seen_first before path (sights path) ≡ after = cc in
    let some : (if is_seen path before.paths then 0 else size_at (sights path)) ≡ size_at (sights path) = cond-false _ _ _ e in
    let size : before.size + size_at (sights path) ≡ before.size + ((if is_seen path before.paths then 0 else size_at (sights path)) + 0) = omega (arith, some) in
    record {
      all = ap (λ (t : Trail). t.paths) (sym same) ∙ sym (cond-false _ _ _ e);
      size = ap (λ (t : Trail). t.size) (sym same) ∙ size;
      question = ap (λ (t : Trail). t.question) (sym same);
    }

-- one look
pub counted_one : (limits : LookLimits) (sights : Sights) (before : Trail) (path : List ℕ) (after : Trail)
    → counted limits before path (sights path) ≡ Ok after → Counts sights before (path ∷ []) after
counted_one limits sights before path after c =
    counted_by limits sights before path after (is_seen path before.paths)
    (not (nat_lt (length before.paths) limits.looks)) (nat_lt limits.file (size_at (sights path)))
    (nat_lt limits.bytes (before.size + size_at (sights path))) refl c

counts_more : (sights : Sights) (before middle after : Trail) (path : List ℕ) (more : List (List ℕ))
    → Counts sights before (path ∷ []) middle → Counts sights middle more after
    → Counts sights before (path ∷ more) after
counts_more sights before middle after path more one rest =
    let first = one.size in
    let last = rest.size in
    let here : new_size sights middle.paths more ≡ new_size sights (with_seen before.paths path) more =
    ap (λ ps. new_size sights ps more) one.all in
    record {
      all = rest.all ∙ ap (λ ps. noted ps more) one.all;
      size = omega (arith, first, last, here);
      question = rest.question ∙ ap (λ ps. noted ps more) one.question;
    }

visited_by : (limits : LookLimits) (sights : Sights) (before after : Trail) (path : List ℕ) (more : List (List ℕ))
    (c : Result Trail LimitName) → counted limits before path (sights path) ≡ c
    → ((middle : Trail) → visited limits sights middle more ≡ ends tt after → Counts sights middle more after)
    → then_ended (told (sights path) before c) (λ found t. visited limits sights t more) ≡ ends tt after
    → Counts sights before (path ∷ more) after
visited_by limits sights before after path more (Err name) c rest e = absurd (cc)
visited_by limits sights before after path more (Ok middle) c rest e =
    counts_more sights before middle after path more (counted_one limits sights before path middle c) (rest middle e)

pub visited_counts : (limits : LookLimits) (sights : Sights) (before : Trail) (paths : List (List ℕ)) (after : Trail)
    → visited limits sights before paths ≡ ends tt after → Counts sights before paths after
visited_counts limits sights before [] after e =
    let same : before ≡ after = cc in
    let size : before.size ≡ before.size + 0 = omega arith in
    record {
      all = ap (λ (t : Trail). t.paths) (sym same);
      size = ap (λ (t : Trail). t.size) (sym same) ∙ size;
      question = ap (λ (t : Trail). t.question) (sym same);
    }
visited_counts limits sights before (path ∷ more) after e =
    visited_by limits sights before after path more (counted limits before path (sights path)) refl
    (λ middle. visited_counts limits sights middle more after) e

ends_from : {X : Type 0} (sights : Sights) (before : Trail) (asking : LookAsking X) (value : X) (after : Trail)
    (end : LookEnd (Unit {0})) → ((later : Trail) → end ≡ ends tt later → Counts sights before (looks sights asking) later)
    → with_value (outcome sights asking) end ≡ ends value after → IsCounted sights before asking value after
ends_from sights before asking value after (stopped name other) counts e = absurd (cc)
ends_from sights before asking value after (ends unit later) counts e =
    let is : outcome sights asking ≡ value = cc in
    let same : later ≡ after = cc in
    record { is = sym is; counts = subst (Counts sights before (looks sights asking)) same (counts later refl) }

pub ends_counted : {X : Type 0} → EndsCounted X
ends_counted limits sights before asking value after e =
    ends_from sights before asking value after (visited limits sights before (looks sights asking))
    (λ later. visited_counts limits sights before (looks sights asking) later)
    (sym (limited_is limits sights before asking) ∙ e)
