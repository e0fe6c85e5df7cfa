-- What a target comes to by its calls, one after another, is what it comes to as an asking.
use Rattle.std.proofs.Common.{◌≡◌, ℕ, true, false, List, [], ◌∷◌, ◌++◌, Option, Some, refl, sym, ap, ◌∙◌}
use Rattle.std.specs.Prelude.{cond}
use Rattle.asking_spec.proofs.EvaluationLemmas.{evaluated_then}
use Rattle.asking_spec.specs.Askings.{answered, and_then}
use Rattle.asking_spec.specs.Evaluation.{Ended, ends, stopped, then_ended, evaluated}
use Rattle.tree_spec.specs.LookAskings.{LookAsking}
use Rattle.node_spec.proofs.TargetInduction.{asks_bare, HoldsOfParts, holds_of_target}
use Rattle.node_spec.specs.PackageTargetResolve.{Bares, Came, came, bare_comes, after_item, after_member}
use Rattle.node_spec.specs.PackageTargets.{Call, bare_outcome, is_undefined, is_passed, last_of}
use Rattle.node_spec.specs.Laws.{FollowsTarget}
use Rattle.node_spec.specs.TargetCalls.{LookAnswers, Followed, no_call, a_call, a_stop, brings}
use Rattle.node_spec.specs.declared.BareAnswer.{BareAnswer}
use Rattle.node_spec.specs.declared.Outcome.{Outcome}
use Rattle.node_spec.specs.declared.Outcome.TheVariants.{Undefined}

-- where there is no call, there is none in front
pub no_front : (front back : List Call) → front ++ back ≡ [] → front ≡ []
no_front [] back e = refl
no_front (call ∷ front) back e = absurd (cc)

module _ {T S X : Type 0} (answers : LookAnswers T S) (bares : Bares X) where
  abbrev End : Type 0
  End = Ended (Option X) T S

  abbrev CameEnd : Type 0
  CameEnd = Ended (Came X) T S

  abbrev run : T → LookAsking (Came X) → CameEnd
  run now asking = evaluated answers now asking

  -- ---- the calls of two parts

  data Split (now : T) (last : Option X) (front back : List Call) (end : End) : Type 0 where
    both :
        (middle : T) (value : Option X) → Followed answers bares now last front (ends value middle)
        → Followed answers bares middle value back end → Split now last front back end
    first_stops :
        (stop : S) (after : T) → Followed answers bares now last front (stopped stop after) → end ≡ stopped stop after
        → Split now last front back end

  call_more : (now later : T) (last : Option X) (text : List ℕ) (answer : BareAnswer) (value : X)
      (front back : List Call) (end : End) → evaluated answers now (bares.ask text) ≡ ends value later
      → answer ≡ bares.judge value → Split later (Some value) front back end
      → Split now last ((text, answer) ∷ front) back end
  call_more now later last text answer value front back end r j (both middle v f g) = both middle v (a_call r j f) g
  call_more now later last text answer value front back end r j (first_stops stop after f s) =
      first_stops stop after (a_call r j f) s

  split : (now : T) (last : Option X) (front back : List Call) (end : End)
      → Followed answers bares now last (front ++ back) end → Split now last front back end
  split now last [] back end f = both now last no_call f
  split now last (call ∷ front) back end (a_call {later = later} {text = text} {answer = answer} {value = value} r j f) =
      call_more now later last text answer value front back end r j (split later (Some value) front back end f)
  split now last (call ∷ front) back end (a_stop {after = after} {stop = stop} r none) =
      first_stops stop after (a_stop r (no_front front back none)) refl

  -- ---- an item or a member, and then the rest

  abbrev Comes : List Call → (Option X → LookAsking (Came X)) → Outcome → Type 0
  Comes asked asking out =
      (now : T) (last : Option X) (end : End) → Followed answers bares now last asked end
      → run now (asking last) ≡ brings out end

  abbrev continued : (Came X → LookAsking (Came X)) → CameEnd → CameEnd
  continued next first = then_ended first (λ value after. run after (next value))

  silent : (out : Outcome) → Comes [] (λ last. answered (came out last)) out
  silent out now last end no_call = refl

  brings_twice : (first rest : Outcome) (end : End)
      → continued (λ later. answered (came (last_of first later.out) later.last)) (brings rest end)
      ≡ brings (last_of first rest) end
  brings_twice first rest (ends value after) = refl
  brings_twice first rest (stopped stop after) = refl

  item_passed : (front back : List Call) (item more : Option X → LookAsking (Came X)) (first rest : Outcome)
      → is_passed first ≡ true → Comes front item first → Comes back more rest
      → Comes (front ++ back) (λ last. and_then (item last) (after_item more)) (last_of first rest)
  item_passed front back item more first rest p one two now last end f =
      let next : Came X → LookAsking (Came X) = λ later. answered (came (last_of first later.out) later.last) in
      elim (split now last front back end f) [
        | both middle value g h ↦ (
            evaluated_then answers now (item last) (after_item more)
            ∙ (ap (continued (after_item more)) (one now last (ends value middle) g)
            ∙ (ap (λ b. run middle (cond b (and_then (more value) next) (answered (came first value)))) p
            ∙ (evaluated_then answers middle (more value) next
            ∙ (ap (continued next) (two middle value end h) ∙ brings_twice first rest end))))
            )
        | first_stops stop after g s ↦ (
            evaluated_then answers now (item last) (after_item more)
            ∙ (ap (continued (after_item more)) (one now last (stopped stop after) g)
            ∙ ap (brings (last_of first rest)) (sym s))
            )
      ]

  decided_end : (more : Option X → LookAsking (Came X)) (out : Outcome) → is_passed out ≡ false → (end : End)
      → continued (after_item more) (brings out end) ≡ brings out end
  decided_end more out p (stopped stop after) = refl
  decided_end more out p (ends value after) =
      ap (λ b. run after (cond b
      (and_then (more value) (λ later. answered (came (last_of out later.out) later.last)))
      (answered (came out value)))) p

  item_decided : (asked : List Call) (item more : Option X → LookAsking (Came X)) (out : Outcome)
      → is_passed out ≡ false → Comes asked item out
      → Comes asked (λ last. and_then (item last) (after_item more)) out
  item_decided asked item more out p one now last end f =
      evaluated_then answers now (item last) (after_item more)
      ∙ (ap (continued (after_item more)) (one now last end f) ∙ decided_end more out p end)

  member_undefined : (front back : List Call) (member more : Option X → LookAsking (Came X)) (out : Outcome)
      → Comes front member Undefined → Comes back more out
      → Comes (front ++ back) (λ last. and_then (member last) (after_member more)) out
  member_undefined front back member more out one two now last end f =
      elim (split now last front back end f) [
        | both middle value g h ↦ (
            evaluated_then answers now (member last) (after_member more)
            ∙ (ap (continued (after_member more)) (one now last (ends value middle) g) ∙ two middle value end h)
            )
        | first_stops stop after g s ↦ (
            evaluated_then answers now (member last) (after_member more)
            ∙ (ap (continued (after_member more)) (one now last (stopped stop after) g) ∙ ap (brings out) (sym s))
            )
      ]

  defined_end : (more : Option X → LookAsking (Came X)) (out : Outcome) → is_undefined out ≡ false → (end : End)
      → continued (after_member more) (brings out end) ≡ brings out end
  defined_end more out p (stopped stop after) = refl
  defined_end more out p (ends value after) =
      ap (λ b. run after (cond b (more value) (answered (came out value)))) p

  member_defined : (asked : List Call) (member more : Option X → LookAsking (Came X)) (out : Outcome)
      → is_undefined out ≡ false → Comes asked member out
      → Comes asked (λ last. and_then (member last) (after_member more)) out
  member_defined asked member more out p one now last end f =
      evaluated_then answers now (member last) (after_member more)
      ∙ (ap (continued (after_member more)) (one now last end f) ∙ defined_end more out p end)

  -- a choice that is known
  chosen : (asked : List Call) (out : Outcome) (asking other : Option X → LookAsking (Came X))
      → ((last : Option X) → other last ≡ asking last) → Comes asked asking out → Comes asked other out
  chosen asked out asking other same one now last end f = ap (run now) (same last) ∙ one now last end f

  -- ---- strings

  nothing_followed : (now : T) (last : Option X) (end : End) → Followed answers bares now last [] end
      → end ≡ ends last now
  nothing_followed now last _ no_call = refl

  bare_called : (text : List ℕ) (answer : BareAnswer)
      → Comes ((text, answer) ∷ []) (λ last. asks_bare bares text) (bare_outcome answer)
  bare_called text answer now last end (a_call {later = later} {value = value} r j none) =
      evaluated_then answers now (bares.ask text) (λ value. answered (bare_comes bares value))
      ∙ (ap (λ e. then_ended e (λ v after. run after (answered (bare_comes bares v)))) r
      ∙ (ap (λ a. ends (came (bare_outcome a) (Some value)) later) (sym j)
      ∙ ap (brings (bare_outcome answer)) (sym (nothing_followed later (Some value) end none))))
  bare_called text answer now last end (a_stop r none) =
      evaluated_then answers now (bares.ask text) (λ value. answered (bare_comes bares value))
      ∙ ap (λ e. then_ended e (λ v after. run after (answered (bare_comes bares v)))) r

  -- ---- all targets

  followed_parts : HoldsOfParts bares Comes
  followed_parts = record {
    silent = silent;
    asked_bare = bare_called;
    chosen = chosen;
    item_passed = item_passed;
    item_decided = item_decided;
    member_undefined = member_undefined;
    member_defined = member_defined;
  }

pub follows_target : {T S X : Type 0} → FollowsTarget T S X
follows_target answers bares rules target asked out r now last end f =
    holds_of_target bares (Comes answers bares) (followed_parts answers bares) rules target asked out r now last end f
