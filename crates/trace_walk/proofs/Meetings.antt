-- One call after another: what a whole asking comes to, by what its parts come to.
--     asked_first, asked_behind          what a part asks for, the whole does
--     spent_first, spent_then            how many fresh questions a whole asks, by its parts
--     asked_front                        the questions of a part that has its value, and those behind it
--     Left before whole middle rest      whatever the rest comes to from here, the whole comes to
use Rattle.std.proofs.Common.{◌≡◌, ◌≤◌, ◌+◌, ◌++◌, ◌∷◌, [], ℕ, Bool, true, false, List, length, Result, Ok, Err, refl, sym, ap, ◌∙◌, subst, arith, append_assoc}
use Rattle.std.specs.Prelude.{All, Contains, filter, cond}
use Rattle.std.proofs.lemmas.List.Elements.{Contains-append_left, Contains-append_right, All-nil, All-append, All-weaker}
use Rattle.asking_spec.specs.Askings.{Asking, answered, ask, and_then, on_ok, and_ok}
use Rattle.asking_spec.specs.Evaluation.{Ended, ends, stopped, then_ended, Answers, evaluated}
use Rattle.asking_spec.proofs.EvaluationLemmas.{ends_then, refused_then, stopped_then}
use Rattle.tree_spec.specs.declared.LimitName.{LimitName}
use Rattle.tree_spec.specs.Counts.{Rose}
use Rattle.trace_spec.specs.declared.TraceFault.{TraceFault}
use Rattle.trace_spec.specs.declared.TraceFault.TheVariants.{ReadFault, Memory, Limit}
use Rattle.trace_spec.specs.Traces.{result_of, state_of}
use Rattle.package_lookup.specs.Answered.{IsCovered}
use Rattle.package_lookup.specs.Learning.{Learns}
use Rattle.package_lookup.proofs.Learnings.{learns_then, learns_nothing, learns_as}
use Rattle.trace_walk.specs.Meeting.{Told, Outside, IsTold, IsAskedBy, Comes, Met}
use Rattle.trace_walk.specs.Meeting.{asked_then, asked_to_end, looks_to_end, fresh_to_end}
use Rattle.trace_walk.specs.Walking.{IsGiven}

abbrev pub failed : (X : Type 0) → TraceFault → Result X TraceFault
failed X fault = Err fault

abbrev pub succeeded : (X : Type 0) → X → Result X TraceFault
succeeded X value = Ok value

ended_ok : {X T : Type 0} (end : Ended (Result X TraceFault) T LimitName) (value : X) (after : T) → result_of end ≡ Ok value → state_of end ≡ after → end ≡ ends (Ok value) after
ended_ok (ends result state) value after is leaves = (λ i. ends (is i) (leaves i))
ended_ok (stopped limit state) value after is leaves = absurd (cc)

-- what an asking that fails comes to, with anything behind it
fails_by : {T Q : Type 0} {A : Q → Type 0} {X Y : Type 0} (answers : Answers T LimitName Q A) (before after : T) (part : Asking Q A (Result X TraceFault)) (next : X → Asking Q A (Result Y TraceFault)) (fault : TraceFault) (end : Ended (Result X TraceFault) T LimitName)
    → evaluated answers before part ≡ end → result_of end ≡ Err fault → state_of end ≡ after → Comes {X = Y} answers before (and_ok part next) (Err fault) after
fails_by answers before after part next fault (ends (Ok value) state) e is leaves = absurd (cc)
fails_by answers before after part next fault (ends (Err refusal) state) e is leaves =
    let same : evaluated answers before (and_ok part next) ≡ ends (Err refusal) state = refused_then answers before state part next refusal e in
    record { is = ap result_of same ∙ (let f : refusal ≡ fault = cc in ap Err f); leaves = ap state_of same ∙ leaves }
fails_by answers before after part next fault (stopped limit state) e is leaves =
    let same : evaluated answers before (and_ok part next) ≡ stopped limit state = stopped_then answers before state part next limit e in
    record { is = ap result_of same ∙ (let f : Limit limit ≡ fault = cc in ap Err f); leaves = ap state_of same ∙ leaves }

comes_then : {T Q : Type 0} {A : Q → Type 0} {X Y : Type 0} (answers : Answers T LimitName Q A) (before middle after : T) (part : Asking Q A (Result X TraceFault)) (next : X → Asking Q A (Result Y TraceFault)) (value : X) (result : Result Y TraceFault)
    → Comes answers before part (Ok value) middle → Comes answers middle (next value) result after → Comes answers before (and_ok part next) result after
comes_then answers before middle after part next value result one two =
    let same : evaluated answers before (and_ok part next) ≡ evaluated answers middle (next value) = ends_then answers before middle part next value (ended_ok (evaluated answers before part) value middle one.is one.leaves) in
    record { is = ap result_of same ∙ two.is; leaves = ap state_of same ∙ two.leaves }

pub told_err : {X Y : Type 0} (fault : TraceFault) → IsTold {X = Y} (Err fault) → IsTold {X = X} (Err fault)
told_err fault told = ((λ e. told.0 (cc)), (λ e. told.1 (cc)))

-- ---- what is asked, by its parts

then_asked : {X Y T S Q : Type 0} (first : Ended X T S) (goes : X → T → Ended Y T S) (whole part : X → T → List Q)
    (rest : Y → T → List Q) → ((x : X) (t : T) → whole x t ≡ part x t ++ asked_then (goes x t) rest)
    → asked_then first whole ≡ asked_then first part ++ asked_then (then_ended first goes) rest
then_asked (ends answer state) goes whole part rest same = same answer state
then_asked (stopped stop state) goes whole part rest same = refl

asked_in_parts : {T S Q : Type 0} {A : Q → Type 0} {X Y : Type 0} (answers : Answers T S Q A) (state : T)
    (part : Asking Q A X) (next : X → Asking Q A Y) → asked_to_end answers state (and_then part next)
    ≡ asked_to_end answers state part
    ++ asked_then (evaluated answers state part) (λ value after. asked_to_end answers after (next value))
asked_in_parts answers state (answered value) next = refl
asked_in_parts answers state (ask question more) next =
    ap (λ asked. question ∷ asked)
    (then_asked (answers state question) (λ answer after. evaluated answers after (more answer)) _ _
    (λ value after. asked_to_end answers after (next value))
    (λ answer after. asked_in_parts answers after (more answer) next))

-- ---- what a part asks for, the whole does

looks_in_parts : {T Q : Type 0} {A : Q → Type 0} {X Y : Type 0} (told : Told T Q A) (state : T) (part : Asking Q A X)
    (next : X → Asking Q A Y) → looks_to_end told state (and_then part next)
    ≡ looks_to_end told state part
    ++ asked_then (evaluated told.answers state part) (λ value after. looks_to_end told after (next value))
looks_in_parts told state (answered value) next = refl
looks_in_parts told state (ask question more) next =
    ap (λ looks. told.looks state question ++ looks)
    (then_asked (told.answers state question) (λ answer after. evaluated told.answers after (more answer)) _
    (λ answer after. looks_to_end told after (more answer)) (λ value after. looks_to_end told after (next value))
    (λ answer after. looks_in_parts told after (more answer) next))
    ∙ sym (append_assoc (told.looks state question)
    (asked_then (told.answers state question) (λ answer after. looks_to_end told after (more answer)))
    (asked_then (evaluated told.answers state (ask question more)) (λ value after. looks_to_end told after (next value))))

pub asked_first : {T Q : Type 0} {A : Q → Type 0} {X Y : Type 0} (before : Outside T Q A)
    (part : Asking Q A (Result X TraceFault)) (next : X → Asking Q A (Result Y TraceFault)) (path : List ℕ)
    → IsAskedBy before part path → IsAskedBy before (and_ok part next) path
asked_first before part next path is = λ told tells.
    subst (λ paths. Contains paths path) (sym (looks_in_parts told before.state part (on_ok next)))
    (Contains-append_left (looks_to_end told before.state part)
    (asked_then (evaluated told.answers before.state part) (λ value after. looks_to_end told after (on_ok next value)))
    path (is told tells))

pub asked_behind : {T Q : Type 0} {A : Q → Type 0} {X Y : Type 0} (before middle : Outside T Q A)
    (part : Asking Q A (Result X TraceFault)) (next : X → Asking Q A (Result Y TraceFault)) (value : X)
    (path : List ℕ) → Met before part (Ok value) middle → IsAskedBy middle (next value) path
    → IsAskedBy before (and_ok part next) path
asked_behind before middle part next value path met is = λ told tells.
    let one = met.comes told tells ((λ e. cc), (λ e. cc)) in
    let first = looks_to_end told before.state part in
    subst (λ paths. Contains paths path)
    (sym (looks_in_parts told before.state part (on_ok next)
    ∙ ap (λ end. first ++ asked_then end (λ result after. looks_to_end told after (on_ok next result)))
    (ended_ok (evaluated told.answers before.state part) value middle.state one.is one.leaves)))
    (Contains-append_right first (looks_to_end told middle.state (next value)) path (is told (met.told told tells)))

-- ---- how many fresh questions a whole asks

one_more : {Q : Type 0} (is : Bool) (question : Q) (whole part : List Q) (rest : ℕ) → length whole ≡ length part + rest
    → length (cond is (question ∷ whole) whole) ≡ length (cond is (question ∷ part) part) + rest
one_more true question whole part rest e = omega (arith, e)
one_more false question whole part rest e = e

fresh_in_both : {Q : Type 0} (is : Q → Bool) (part rest : List Q)
    → length (filter is (part ++ rest)) ≡ length (filter is part) + length (filter is rest)
fresh_in_both is [] rest = omega arith
fresh_in_both is (question ∷ part) rest =
    one_more (is question) question (filter is (part ++ rest)) (filter is part) (length (filter is rest))
    (fresh_in_both is part rest)

module _ {T Q : Type 0} {A : Q → Type 0} {X Y : Type 0} (told : Told T Q A) (state : T)
    (part : Asking Q A (Result X TraceFault)) (next : X → Asking Q A (Result Y TraceFault)) where
  abbrev behind : List Q
  behind = asked_then (evaluated told.answers state part) (λ value after. asked_to_end told.answers after (on_ok next value))

  spent_in_parts : length (fresh_to_end told state (and_ok part next))
      ≡ length (fresh_to_end told state part) + length (filter told.fresh behind)
  spent_in_parts =
      ap (λ asked. length (filter told.fresh asked)) (asked_in_parts told.answers state part (on_ok next))
      ∙ fresh_in_both told.fresh (asked_to_end told.answers state part) behind

  spent_first : length (fresh_to_end told state part) ≤ length (fresh_to_end told state (and_ok part next))
  spent_first = (let e = spent_in_parts in omega (arith, e))

  spent_then : (value : X) (middle : T) → Comes told.answers state part (Ok value) middle
      → length (fresh_to_end told state (and_ok part next))
      ≡ length (fresh_to_end told state part) + length (fresh_to_end told middle (next value))
  spent_then value middle one =
      spent_in_parts
      ∙ ap (λ end. length (fresh_to_end told state part)
      + length (filter told.fresh (asked_then end (λ value after. asked_to_end told.answers after (on_ok next value)))))
      (ended_ok (evaluated told.answers state part) value middle one.is one.leaves)

-- ---- the questions of a whole, by its parts

asked_front : {T Q : Type 0} {A : Q → Type 0} {X Y : Type 0} (told : Told T Q A) (state middle : T)
    (part : Asking Q A (Result X TraceFault)) (next : X → Asking Q A (Result Y TraceFault)) (value : X)
    → Comes told.answers state part (Ok value) middle → asked_to_end told.answers state (and_ok part next)
    ≡ asked_to_end told.answers state part ++ asked_to_end told.answers middle (next value)
asked_front told state middle part next value one =
    asked_in_parts told.answers state part (on_ok next)
    ∙ ap (λ end. asked_to_end told.answers state part
    ++ asked_then end (λ value after. asked_to_end told.answers after (on_ok next value)))
    (ended_ok (evaluated told.answers state part) value middle one.is one.leaves)

-- an answer is kept of each question of a part, and of each behind it
kept_both : {T Q : Type 0} {A : Q → Type 0} (told : Told T Q A) (middle after : Outside T Q A) (part rest whole : List Q)
    → ((question : Q) → middle.is_kept told.stands question → after.is_kept told.stands question) → whole ≡ part ++ rest
    → All (middle.is_kept told.stands) part → All (after.is_kept told.stands) rest → All (after.is_kept told.stands) whole
kept_both told middle after part rest whole still same first then =
    subst (All (after.is_kept told.stands)) (sym same)
    (All-append (after.is_kept told.stands) part rest
    (All-weaker (middle.is_kept told.stands) (after.is_kept told.stands) still part first) then)

-- a part that has its value, and what comes behind it
pub met_then : {T Q : Type 0} {A : Q → Type 0} {X Y : Type 0} (before middle after : Outside T Q A) (part : Asking Q A (Result X TraceFault)) (next : X → Asking Q A (Result Y TraceFault)) (value : X) (result : Result Y TraceFault)
    → Met before part (Ok value) middle → Met middle (next value) result after → Met before (and_ok part next) result after
met_then {X = X} before middle after part next value result first rest = record {
  comes = λ told tells is_told. comes_then told.answers before.state middle.state after.state part next value result (first.comes told tells ((λ e. cc), (λ e. cc))) (rest.comes told (first.told told tells) is_told);
  told = λ told tells. rest.told told (first.told told tells);
  keeps = rest.keeps ∙ first.keeps;
  later = (let one = first.later in let two = rest.later in omega arith);
  cause = λ e. (let two = rest.cause e in let same : middle.faults ≡ before.faults = first.quiet (λ f. cc) in subst (λ n. Rose n after.faults) same two);
  quiet = λ ne. rest.quiet ne ∙ first.quiet (λ f. cc);
  steps = λ told tells. (let one = first.steps told tells in let two = rest.steps told (first.told told tells) in
      let all = spent_then told before.state part next value middle.state (first.comes told tells ((λ e. cc), (λ e. cc))) in
      omega (arith, one, two, all));
  learns = learns_then before.looks middle.looks after.looks (succeeded X value ≡ Err Memory) (result ≡ Err Memory)
      (IsAskedBy before part) (IsAskedBy middle (next value)) (IsAskedBy before (and_ok part next)) (λ e. cc)
      (asked_first before part next) (λ path. asked_behind before middle part next value path first) first.learns
      rest.learns;
  covered = λ finished covers. rest.covered finished (first.covered (λ e. cc) covers);
  still_kept = λ told tells question kept.
      rest.still_kept told (first.told told tells) question (first.still_kept told tells question kept);
  asked_kept = λ told tells found e.
      kept_both told middle after (asked_to_end told.answers before.state part)
      (asked_to_end told.answers middle.state (next value)) (asked_to_end told.answers before.state (and_ok part next))
      (rest.still_kept told (first.told told tells))
      (asked_front told before.state middle.state part next value (first.comes told tells ((λ e. cc), (λ e. cc))))
      (first.asked_kept told tells value refl) (rest.asked_kept told (first.told told tells) found e);
}

-- a part that has none
pub met_failed : {T Q : Type 0} {A : Q → Type 0} {X Y : Type 0} (before after : Outside T Q A) (part : Asking Q A (Result X TraceFault)) (next : X → Asking Q A (Result Y TraceFault)) (fault : TraceFault)
    → Met {X = X} before part (Err fault) after → Met {X = Y} before (and_ok part next) (Err fault) after
met_failed {X = X} {Y = Y} before after part next fault first = record {
  comes = λ told tells is_told. (let one = first.comes told tells (told_err fault is_told) in fails_by told.answers before.state after.state part next fault (evaluated told.answers before.state part) refl one.is one.leaves);
  told = first.told;
  keeps = first.keeps;
  later = first.later;
  cause = λ e. first.cause (let f : fault ≡ ReadFault = cc in ap Err f);
  quiet = λ ne. first.quiet (λ e. ne (let f : fault ≡ ReadFault = cc in ap Err f));
  steps = λ told tells. (let one = first.steps told tells in let all = spent_first told before.state part next in omega (arith, one, all));
  learns = learns_as before.looks after.looks (failed X fault ≡ Err Memory) (failed Y fault ≡ Err Memory)
      (IsAskedBy before part) (IsAskedBy before (and_ok part next)) (λ e. (let f : fault ≡ Memory = cc in ap Err f))
      (asked_first before part next) first.learns;
  covered = λ finished covers. first.covered (λ e. finished (let f : fault ≡ Memory = cc in ap Err f)) covers;
  still_kept = first.still_kept;
  asked_kept = λ told tells value e. absurd (cc);
}

-- memory was wanting behind a part
pub met_lost : {T Q : Type 0} {A : Q → Type 0} {X Y : Type 0} (before after : Outside T Q A) (part : Asking Q A (Result X TraceFault)) (next : X → Asking Q A (Result Y TraceFault)) (value : X)
    → Met before part (Ok value) after → Met {X = Y} before (and_ok part next) (Err Memory) after
met_lost {X = X} {Y = Y} before after part next value first = record {
  comes = λ told tells is_told. absurd (is_told.1 refl);
  told = first.told;
  keeps = first.keeps;
  later = first.later;
  cause = λ e. absurd (cc);
  quiet = λ ne. first.quiet (λ e. cc);
  steps = λ told tells. (let one = first.steps told tells in let all = spent_first told before.state part next in omega (arith, one, all));
  learns = learns_as before.looks after.looks (succeeded X value ≡ Err Memory) (failed Y Memory ≡ Err Memory)
      (IsAskedBy before part) (IsAskedBy before (and_ok part next)) (λ e. refl) (asked_first before part next)
      first.learns;
  covered = λ finished covers. absurd (finished refl);
  still_kept = first.still_kept;
  asked_kept = λ told tells value e. absurd (cc);
}

-- nothing is asked
pub met_now : {T Q : Type 0} {A : Q → Type 0} {X : Type 0} (before : Outside T Q A) (value result : Result X TraceFault) → IsGiven value result → Met before (answered value) result before
met_now before value result given = record {
  comes = λ told tells is_told. record { is = given.given is_told.1; leaves = refl };
  told = λ told tells. tells;
  keeps = refl;
  later = omega arith;
  cause = λ e. absurd (given.no_look e);
  quiet = λ ne. refl;
  steps = λ told tells. omega arith;
  learns = learns_nothing before.looks (result ≡ Err Memory) (IsAskedBy before (answered value));
  covered = λ finished covers. covers;
  still_kept = λ told tells question kept. kept;
  asked_kept = λ told tells found e. All-nil (before.is_kept told.stands);
}

-- and so does want of memory before anything was asked
pub met_memory : {T Q : Type 0} {A : Q → Type 0} {X : Type 0} (before : Outside T Q A) (whole : Asking Q A (Result X TraceFault)) → Met {X = X} before whole (Err Memory) before
met_memory {X = X} before whole = record {
  comes = λ told tells is_told. absurd (is_told.1 refl);
  told = λ told tells. tells;
  keeps = refl;
  later = omega arith;
  cause = λ e. absurd (cc);
  quiet = λ ne. refl;
  steps = λ told tells. omega arith;
  learns = learns_nothing before.looks (failed X Memory ≡ Err Memory) (IsAskedBy before whole);
  covered = λ finished covers. covers;
  still_kept = λ told tells question kept. kept;
  asked_kept = λ told tells value e. absurd (cc);
}

pub given_same : {X : Type 0} (value : X) → IsGiven (Ok value) (Ok value)
given_same value = record { given = λ ne. refl; no_look = λ e. cc }

-- ---- whatever the rest comes to, the whole does

-- of what was asked so far, each answer is kept
pub record AskedSoFar {T Q X : Type 0} {A : Q → Type 0} (told : Told T Q A) (before : Outside T Q A)
    (whole : Asking Q A (Result X TraceFault)) (middle : Outside T Q A)
    (rest : Asking Q A (Result X TraceFault)) : Type 0 where
  pub front : List Q
  pub split : asked_to_end told.answers before.state whole ≡ front ++ asked_to_end told.answers middle.state rest
  pub kept : All (middle.is_kept told.stands) front

pub record Left {T Q : Type 0} {A : Q → Type 0} {X : Type 0} (before : Outside T Q A) (whole : Asking Q A (Result X TraceFault)) (middle : Outside T Q A) (rest : Asking Q A (Result X TraceFault)) : Type 0 where
  pub same : (told : Told T Q A) → before.told told → evaluated told.answers before.state whole ≡ evaluated told.answers middle.state rest
  pub told : (told : Told T Q A) → before.told told → middle.told told
  pub keeps : middle.keeps ≡ before.keeps
  pub quiet : middle.faults ≡ before.faults
  pub steps :
      (told : Told T Q A) → before.told told
      → middle.steps + length (fresh_to_end told middle.state rest)
      ≤ before.steps + length (fresh_to_end told before.state whole)
  pub learns : Learns before.looks middle.looks ⊥ (IsAskedBy before whole)
  pub covered : IsCovered before.looks → IsCovered middle.looks
  pub within : (path : List ℕ) → IsAskedBy middle rest path → IsAskedBy before whole path
  pub still_kept :
      (told : Told T Q A) → before.told told → (question : Q) → before.is_kept told.stands question
      → middle.is_kept told.stands question
  pub so_far : (told : Told T Q A) → before.told told → AskedSoFar told before whole middle rest

pub left_begins : {T Q : Type 0} {A : Q → Type 0} {X : Type 0} (before : Outside T Q A) (whole : Asking Q A (Result X TraceFault)) → Left before whole before whole
left_begins before whole = record {
  same = λ told tells. refl;
  told = λ told tells. tells;
  keeps = refl;
  quiet = refl;
  steps = λ told tells. omega arith;
  learns = learns_nothing before.looks ⊥ (IsAskedBy before whole);
  covered = λ covers. covers;
  within = λ path is. is;
  still_kept = λ told tells question kept. kept;
  so_far = λ told tells. record { front = []; split = refl; kept = All-nil (before.is_kept told.stands) };
}

pub left_completes : {T Q : Type 0} {A : Q → Type 0} {X : Type 0} (before middle after : Outside T Q A) (whole rest : Asking Q A (Result X TraceFault)) (result : Result X TraceFault)
    → Left before whole middle rest → Met middle rest result after → Met before whole result after
left_completes before middle after whole rest result left met = record {
  comes = λ told tells is_told. (let one = met.comes told (left.told told tells) is_told in let same = left.same told tells in record { is = ap result_of same ∙ one.is; leaves = ap state_of same ∙ one.leaves });
  told = λ told tells. met.told told (left.told told tells);
  keeps = met.keeps ∙ left.keeps;
  later = (let one = left.quiet in let two = met.later in omega arith);
  cause = λ e. subst (λ n. Rose n after.faults) left.quiet (met.cause e);
  quiet = λ ne. met.quiet ne ∙ left.quiet;
  steps = λ told tells. (let one = met.steps told (left.told told tells) in let all = left.steps told tells in omega (arith, one, all));
  learns = learns_then before.looks middle.looks after.looks ⊥ (result ≡ Err Memory) (IsAskedBy before whole)
      (IsAskedBy middle rest) (IsAskedBy before whole) (λ e. e) (λ path is. is) left.within left.learns met.learns;
  covered = λ finished covers. met.covered finished (left.covered covers);
  still_kept = λ told tells question kept.
      met.still_kept told (left.told told tells) question (left.still_kept told tells question kept);
  asked_kept = λ told tells value e. (let far = left.so_far told tells in
      kept_both told middle after far.front (asked_to_end told.answers middle.state rest)
      (asked_to_end told.answers before.state whole) (met.still_kept told (left.told told tells)) far.split far.kept
      (met.asked_kept told (left.told told tells) value e));
}

pub left_goes : {T Q : Type 0} {A : Q → Type 0} {X Y : Type 0} (before middle later : Outside T Q A) (whole : Asking Q A (Result Y TraceFault)) (part : Asking Q A (Result X TraceFault)) (next : X → Asking Q A (Result Y TraceFault)) (value : X)
    → Left before whole middle (and_ok part next) → Met middle part (Ok value) later → Left before whole later (next value)
left_goes {X = X} before middle later whole part next value left met = record {
  same = λ told tells. (let one = met.comes told (left.told told tells) ((λ e. cc), (λ e. cc)) in
      left.same told tells ∙ ends_then told.answers middle.state later.state part next value (ended_ok (evaluated told.answers middle.state part) value later.state one.is one.leaves));
  told = λ told tells. met.told told (left.told told tells);
  keeps = met.keeps ∙ left.keeps;
  quiet = met.quiet (λ e. cc) ∙ left.quiet;
  steps = λ told tells. (let one = met.steps told (left.told told tells) in let all = left.steps told tells in
      let parts = spent_then told middle.state part next value later.state (met.comes told (left.told told tells) ((λ e. cc), (λ e. cc))) in
      omega (arith, one, all, parts));
  learns = learns_then before.looks middle.looks later.looks ⊥ ⊥ (IsAskedBy before whole) (IsAskedBy middle part)
      (IsAskedBy before whole) (λ e. e) (λ path is. is)
      (λ path is. left.within path (asked_first middle part next path is)) left.learns
      (learns_as middle.looks later.looks (succeeded X value ≡ Err Memory) ⊥ (IsAskedBy middle part)
      (IsAskedBy middle part) (λ e. absurd (cc)) (λ path is. is) met.learns);
  covered = λ covers. met.covered (λ e. cc) (left.covered covers);
  within = λ path is. left.within path (asked_behind middle later part next value path met is);
  still_kept = λ told tells question kept.
      met.still_kept told (left.told told tells) question (left.still_kept told tells question kept);
  so_far = λ told tells. (let far = left.so_far told tells in
      let asked = asked_to_end told.answers middle.state part in
      record {
        front = far.front ++ asked;
        split = far.split
            ∙ (ap (λ more. far.front ++ more)
            (asked_front told middle.state later.state part next value
            (met.comes told (left.told told tells) ((λ e. cc), (λ e. cc))))
            ∙ sym (append_assoc far.front asked (asked_to_end told.answers later.state (next value))));
        kept = kept_both told middle later far.front asked (far.front ++ asked)
            (met.still_kept told (left.told told tells)) refl far.kept
            (met.asked_kept told (left.told told tells) value refl);
      });
}

pub left_fails : {T Q : Type 0} {A : Q → Type 0} {X Y : Type 0} (before middle later : Outside T Q A) (whole : Asking Q A (Result Y TraceFault)) (part : Asking Q A (Result X TraceFault)) (next : X → Asking Q A (Result Y TraceFault)) (fault : TraceFault)
    → Left before whole middle (and_ok part next) → Met {X = X} middle part (Err fault) later → Met {X = Y} before whole (Err fault) later
left_fails before middle later whole part next fault left met = left_completes before middle later whole (and_ok part next) (Err fault) left (met_failed middle later part next fault met)
