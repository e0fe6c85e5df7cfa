-- The looks for the bare texts of a target are the looks of the target.
--     Hears paths asked            these are the looks for the texts, in order, up to the first call with another answer
--     target_heard                 the calls of a target, and what it comes to by them
use Rattle.std.proofs.Common.{◌≡◌, ℕ, true, false, List, [], ◌∷◌, ◌++◌, Option, refl, sym, ap, ◌∙◌, subst, append_assoc, append-nil}
use Rattle.std.proofs.lemmas.Bool.{cond-true, cond-false}
use Rattle.asking_spec.proofs.AskingLemmas.{outcome_then, questions_then}
use Rattle.asking_spec.specs.Askings.{answered, outcome, and_then}
use Rattle.json_spec.specs.Value.{Json}
use Rattle.tree_spec.specs.LookAskings.{Sights, LookAsking, looks}
use Rattle.node_spec.proofs.TargetInduction.{asks_bare, HoldsOfParts, holds_of_target}
use Rattle.node_spec.proofs.TargetOutcomes.{answer_to, out_of}
use Rattle.node_spec.specs.BareCalls.{Tells}
use Rattle.node_spec.specs.PackageTargetResolve.{Bares, Came, came, bare_comes, after_item, after_member, target_comes}
use Rattle.node_spec.specs.PackageTargets.{Rules, Call, bare_outcome, is_undefined, is_passed, last_of, ResolvesTarget}
use Rattle.node_spec.specs.declared.BareAnswer.{BareAnswer}
use Rattle.node_spec.specs.declared.Outcome.{Outcome}
use Rattle.node_spec.specs.declared.Outcome.TheVariants.{Undefined}

module _ {X : Type 0} (sights : Sights) (bares : Bares X) where
  abbrev pub Hears : List (List ℕ) → List Call → Type 0
  Hears paths [] = paths ≡ []
  Hears paths (call ∷ more) =
      (back : List (List ℕ)) × (paths ≡ looks sights (bares.ask call.0) ++ back)
      × (call.1 ≡ answer_to sights bares call.0 → Hears back more)

  hears_append : (some rest : List (List ℕ)) (front back : List Call) → Hears some front
      → (Tells (answer_to sights bares) front → Hears rest back) → Hears (some ++ rest) (front ++ back)
  hears_append some rest [] back hears more = subst (λ paths. Hears (paths ++ rest) back) (sym hears) (more tt)
  hears_append some rest (call ∷ front) back hears more = (
    hears.0 ++ rest,
    ap (λ paths. paths ++ rest) hears.1 ∙ append_assoc (looks sights (bares.ask call.0)) hears.0 rest,
    λ e. hears_append hears.0 rest front back (hears.2 e) (λ agrees. more (e, agrees)),
  )

  tells_parts : (front back : List Call) → Tells (answer_to sights bares) (front ++ back)
      → Tells (answer_to sights bares) front × Tells (answer_to sights bares) back
  tells_parts [] back agrees = (tt, agrees)
  tells_parts (call ∷ front) back agrees =
      (let rest = tells_parts front back agrees.1 in ((agrees.0, rest.0), rest.1))

  -- ---- a part and the whole

  pub record IsHeard (asked : List Call) (asking : Option X → LookAsking (Came X)) (out : Outcome) : Type 0 where
    pub hears : (last : Option X) → Hears (looks sights (asking last)) asked
    pub comes : (last : Option X) → Tells (answer_to sights bares) asked → out_of sights (asking last) ≡ out

  then_heard : (part : LookAsking (Came X)) (next : Came X → LookAsking (Came X)) (front back : List Call)
      → Hears (looks sights part) front
      → (Tells (answer_to sights bares) front → Hears (looks sights (next (outcome sights part))) back)
      → Hears (looks sights (and_then part next)) (front ++ back)
  then_heard part next front back hears rest =
      subst (λ paths. Hears paths (front ++ back)) (sym (questions_then sights part next))
      (hears_append (looks sights part) (looks sights (next (outcome sights part))) front back hears rest)

  -- nothing is looked at behind the part
  part_heard : (part : LookAsking (Came X)) (next : Came X → LookAsking (Came X)) (asked : List Call)
      → Hears (looks sights part) asked
      → (Tells (answer_to sights bares) asked → looks sights (next (outcome sights part)) ≡ [])
      → Hears (looks sights (and_then part next)) asked
  part_heard part next asked hears none =
      subst (λ calls. Hears (looks sights (and_then part next)) calls) (append-nil asked)
      (then_heard part next asked [] hears none)

  rest_comes : (part : LookAsking (Came X)) (next : Came X → LookAsking (Came X)) (rest : LookAsking (Came X))
      → next (outcome sights part) ≡ rest → out_of sights (and_then part next) ≡ out_of sights rest
  rest_comes part next rest same =
      ap (λ (c : Came X). c.out) (outcome_then sights part next) ∙ ap (out_of sights) same

  silent : (out : Outcome) → IsHeard [] (λ last. answered (came out last)) out
  silent out = record { hears = λ last. refl; comes = λ last agrees. refl }

  chosen : (asked : List Call) (out : Outcome) (asking other : Option X → LookAsking (Came X))
      → ((last : Option X) → other last ≡ asking last) → IsHeard asked asking out → IsHeard asked other out
  chosen asked out asking other same one = record {
    hears = λ last. subst (λ a. Hears (looks sights a) asked) (sym (same last)) (one.hears last);
    comes = λ last agrees. ap (out_of sights) (same last) ∙ one.comes last agrees;
  }

  -- ---- an item or a member, and then the rest

  abbrev rest_of_list : (Option X → LookAsking (Came X)) → Came X → LookAsking (Came X)
  rest_of_list more first = and_then (more first.last) (λ later. answered (came (last_of first.out later.out) later.last))

  item_passed : (front back : List Call) (item more : Option X → LookAsking (Came X)) (first rest : Outcome)
      → is_passed first ≡ true → IsHeard front item first → IsHeard back more rest
      → IsHeard (front ++ back) (λ last. and_then (item last) (after_item more)) (last_of first rest)
  item_passed front back item more first rest p one two =
      let goes : (last : Option X) → Tells (answer_to sights bares) front
      → after_item more (outcome sights (item last)) ≡ rest_of_list more (outcome sights (item last)) =
      λ last agrees. cond-true _ _ _ (ap is_passed (one.comes last agrees) ∙ p) in
      record {
        hears = λ last. let c : Came X = outcome sights (item last) in
            then_heard (item last) (after_item more) front back (one.hears last)
            (λ agrees. subst (λ a. Hears (looks sights a) back) (sym (goes last agrees))
            (part_heard (more c.last) (λ later. answered (came (last_of c.out later.out) later.last)) back
            (two.hears c.last) (λ told. refl)));
        comes = λ last agrees. let c : Came X = outcome sights (item last) in
            let parts = tells_parts front back agrees in
            rest_comes (item last) (after_item more) (rest_of_list more c) (goes last parts.0)
            ∙ (ap (λ (d : Came X). d.out) (outcome_then sights (more c.last) (λ later. answered (came (last_of c.out later.out) later.last)))
            ∙ (λ i. last_of (one.comes last parts.0 i) (two.comes c.last parts.1 i)));
      }

  item_decided : (asked : List Call) (item more : Option X → LookAsking (Came X)) (out : Outcome)
      → is_passed out ≡ false → IsHeard asked item out
      → IsHeard asked (λ last. and_then (item last) (after_item more)) out
  item_decided asked item more out p one = record {
    hears = λ last. part_heard (item last) (after_item more) asked (one.hears last)
        (λ agrees. ap (looks sights) (cond-false _ _ _ (ap is_passed (one.comes last agrees) ∙ p)));
    comes = λ last agrees.
        rest_comes (item last) (after_item more) (answered (outcome sights (item last)))
        (cond-false _ _ _ (ap is_passed (one.comes last agrees) ∙ p))
        ∙ one.comes last agrees;
  }

  member_undefined : (front back : List Call) (member more : Option X → LookAsking (Came X)) (out : Outcome)
      → IsHeard front member Undefined → IsHeard back more out
      → IsHeard (front ++ back) (λ last. and_then (member last) (after_member more)) out
  member_undefined front back member more out one two =
      let goes : (last : Option X) → Tells (answer_to sights bares) front
      → after_member more (outcome sights (member last)) ≡ more (outcome sights (member last)).last =
      λ last agrees. cond-true _ _ _ (ap is_undefined (one.comes last agrees)) in
      record {
        hears = λ last. let c : Came X = outcome sights (member last) in
            then_heard (member last) (after_member more) front back (one.hears last)
            (λ agrees. subst (λ a. Hears (looks sights a) back) (sym (goes last agrees)) (two.hears c.last));
        comes = λ last agrees. let c : Came X = outcome sights (member last) in
            let parts = tells_parts front back agrees in
            rest_comes (member last) (after_member more) (more c.last) (goes last parts.0)
            ∙ two.comes c.last parts.1;
      }

  member_defined : (asked : List Call) (member more : Option X → LookAsking (Came X)) (out : Outcome)
      → is_undefined out ≡ false → IsHeard asked member out
      → IsHeard asked (λ last. and_then (member last) (after_member more)) out
  member_defined asked member more out p one = record {
    hears = λ last. part_heard (member last) (after_member more) asked (one.hears last)
        (λ agrees. ap (looks sights) (cond-false _ _ _ (ap is_undefined (one.comes last agrees) ∙ p)));
    comes = λ last agrees.
        rest_comes (member last) (after_member more) (answered (outcome sights (member last)))
        (cond-false _ _ _ (ap is_undefined (one.comes last agrees) ∙ p))
        ∙ one.comes last agrees;
  }

  -- ---- strings

  bare_heard : (text : List ℕ) (answer : BareAnswer)
      → IsHeard ((text, answer) ∷ []) (λ last. asks_bare bares text) (bare_outcome answer)
  bare_heard text answer = record {
    hears = λ last.
        ([], questions_then sights (bares.ask text) (λ value. answered (bare_comes bares value)), λ e. refl);
    comes = λ last agrees.
        ap (λ (c : Came X). c.out) (outcome_then sights (bares.ask text) (λ value. answered (bare_comes bares value)))
        ∙ ap bare_outcome (sym agrees.0);
  }

  -- ---- all targets

  heard_parts : HoldsOfParts bares IsHeard
  heard_parts = record {
    silent = silent;
    asked_bare = bare_heard;
    chosen = chosen;
    item_passed = item_passed;
    item_decided = item_decided;
    member_undefined = member_undefined;
    member_defined = member_defined;
  }

  pub target_heard : (rules : Rules) (target : Json) (asked : List Call) (out : Outcome)
      → ResolvesTarget rules target asked out → IsHeard asked (target_comes bares rules target) out
  target_heard rules target asked out r = holds_of_target bares IsHeard heard_parts rules target asked out r
