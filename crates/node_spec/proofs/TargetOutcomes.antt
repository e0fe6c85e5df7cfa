-- What a target comes to as an asking is what it comes to by its calls; a target in `exports` needs no look.
use Rattle.std.proofs.Common.{◌≡◌, ℕ, List, [], ◌++◌, Bool, true, false, Option, Some, None, refl, sym, ap, ◌∙◌, subst}
use Rattle.std.specs.Prelude.{codes, cond}
use Rattle.asking_spec.proofs.AskingLemmas.{outcome_then, questions_then}
use Rattle.asking_spec.specs.Askings.{answered, outcome, and_then}
use Rattle.json_spec.specs.Value.{Json, a_null, a_bool, a_number, a_text, a_list, an_object, Items, no_items, an_item, Members, no_members, a_member}
use Rattle.tree_spec.specs.LookAskings.{Sights, LookAsking, looks}
use Rattle.url_spec.specs.Specifiers.{begins}
use Rattle.node_spec.proofs.DecidingCall.{never_package}
use Rattle.node_spec.proofs.SomeOutcome.{CallsAndOutcome, with_no_call, calls_joined, found_text, found_first, found_last, found, found_items, found_members, sound, told}
use Rattle.node_spec.specs.FileLooks.{url_in, check_url}
use Rattle.node_spec.specs.Laws.{FindsTarget, ExportsLookAtNothing}
use Rattle.node_spec.specs.PackageTargetResolve.{Bares, Came, came, bare_comes, text_comes, after_item, after_member, target_comes, items_come, members_come, no_bares, target_url, last_found, package_target}
use Rattle.node_spec.specs.PackageTargetResolve as resolve
use Rattle.node_spec.specs.PackageTargets.{Rules, ResolvesTarget, with_match, names_package, has_index_key, is_tried, is_undefined, is_passed, last_of}
use Rattle.node_spec.specs.declared.BareAnswer.{BareAnswer}
use Rattle.node_spec.specs.declared.Cause.{Cause}
use Rattle.node_spec.specs.declared.Outcome.{Outcome}
use Rattle.node_spec.specs.declared.Outcome.TheVariants.{Undefined, Null, Place, Bare, Stopped, InvalidTarget, InvalidSpecifier, InvalidConfig}

-- what a target makes of the answer to a bare text, by what stands at each path
abbrev pub answer_to : {X : Type 0} → Sights → Bares X → List ℕ → BareAnswer
answer_to sights bares text = bares.judge (outcome sights (bares.ask text))

-- what a target's asking comes to, by what stands at each path
abbrev pub out_of : {X : Type 0} → Sights → LookAsking (Came X) → Outcome
out_of sights asking = (outcome sights asking).out

module _ {X : Type 0} (sights : Sights) (bares : Bares X) (rules : Rules) where
  same_branch : (b : Bool) (x y : LookAsking (Came X)) (p q : CallsAndOutcome) → out_of sights x ≡ p.out → out_of sights y ≡ q.out
      → out_of sights (cond b x y) ≡ (cond b p q).out
  same_branch true x y p q e f = e
  same_branch false x y p q e f = f

  other_found : (b : Bool) (p q r : CallsAndOutcome) → q.out ≡ r.out → (cond b p q).out ≡ (cond b p r).out
  other_found true p q r e = refl
  other_found false p q r e = e

  text_out : (text : List ℕ) (last : Option X) → out_of sights (text_comes bares rules text last) ≡ (found_text (answer_to sights bares) rules text).out
  text_out text last =
      same_branch (begins text (codes "./")) _ _ _ _ refl
      (same_branch (names_package rules.is_imports text) _ _ _ _
      (ap (λ (c : Came X). c.out)
      (outcome_then sights (bares.ask (with_match rules.pattern_match text)) (λ value. answered (bare_comes bares value))))
      refl)

  passed_out : (first : Came X) (rest : Option X → LookAsking (Came X)) (f r : CallsAndOutcome) → first.out ≡ f.out
      → ((last : Option X) → out_of sights (rest last) ≡ r.out)
      → out_of sights (after_item rest first) ≡ (found_last f r).out
  passed_out first rest f r e rest_is =
      let next : Came X → LookAsking (Came X) = λ later. answered (came (last_of first.out later.out) later.last) in
      same_branch (is_passed first.out) (and_then (rest first.last) next) (answered first)
      (calls_joined f r (last_of first.out r.out)) (with_no_call first.out)
      (ap (λ (c : Came X). c.out) (outcome_then sights (rest first.last) next)
      ∙ ap (last_of first.out) (rest_is first.last)) refl
      ∙ (ap (λ o. (cond (is_passed o) (calls_joined f r (last_of o r.out)) (with_no_call o)).out) e
      ∙ other_found (is_passed f.out) (calls_joined f r (last_of f.out r.out)) (with_no_call f.out) f refl)

  member_out : (first : Came X) (rest : Option X → LookAsking (Came X)) (f r : CallsAndOutcome) → first.out ≡ f.out
      → ((last : Option X) → out_of sights (rest last) ≡ r.out)
      → out_of sights (after_member rest first) ≡ (found_first f r).out
  member_out first rest f r e rest_is =
      same_branch (is_undefined first.out) (rest first.last) (answered first) (calls_joined f r r.out) (with_no_call first.out)
      (rest_is first.last) refl
      ∙ (ap (λ o. (cond (is_undefined o) (calls_joined f r r.out) (with_no_call o)).out) e
      ∙ other_found (is_undefined f.out) (calls_joined f r r.out) (with_no_call f.out) f refl)

  item_then : (item : LookAsking (Came X)) (rest : Option X → LookAsking (Came X)) (f r : CallsAndOutcome) → out_of sights item ≡ f.out
      → ((last : Option X) → out_of sights (rest last) ≡ r.out)
      → out_of sights (and_then item (after_item rest)) ≡ (found_last f r).out
  item_then item rest f r e rest_is =
      ap (λ (c : Came X). c.out) (outcome_then sights item (after_item rest))
      ∙ passed_out (outcome sights item) rest f r e rest_is

  member_then : (item : LookAsking (Came X)) (rest : Option X → LookAsking (Came X)) (f r : CallsAndOutcome)
      → out_of sights item ≡ f.out → ((last : Option X) → out_of sights (rest last) ≡ r.out)
      → out_of sights (and_then item (after_member rest)) ≡ (found_first f r).out
  member_then item rest f r e rest_is =
      ap (λ (c : Came X). c.out) (outcome_then sights item (after_member rest))
      ∙ member_out (outcome sights item) rest f r e rest_is

  mutual
    target_out : (target : Json) (last : Option X)
        → out_of sights (target_comes bares rules target last) ≡ (found (answer_to sights bares) rules target).out
    target_out a_null last = refl
    target_out (a_bool b) last = refl
    target_out (a_number number) last = refl
    target_out (a_text text) last = text_out text last
    target_out (a_list no_items) last = refl
    target_out (a_list (an_item item more)) last =
        item_then (target_comes bares rules item last) (λ l. items_come bares rules more l) (found (answer_to sights bares) rules item)
        (found_items (answer_to sights bares) rules more) (target_out item last) (λ l. items_out more l)
    target_out (an_object fields) last =
        same_branch (has_index_key fields) _ _ _ _ refl (members_out fields last)

    items_out : (items : Items) (last : Option X)
        → out_of sights (items_come bares rules items last) ≡ (found_items (answer_to sights bares) rules items).out
    items_out no_items last = refl
    items_out (an_item item more) last =
        item_then (target_comes bares rules item last) (λ l. items_come bares rules more l) (found (answer_to sights bares) rules item)
        (found_items (answer_to sights bares) rules more) (target_out item last) (λ l. items_out more l)

    members_out : (fields : Members) (last : Option X)
        → out_of sights (members_come bares rules fields last) ≡ (found_members (answer_to sights bares) rules fields).out
    members_out no_members last = refl
    members_out (a_member key value more) last =
        same_branch (is_tried rules.conditions key) _ _ _ _
        (member_then (target_comes bares rules value last) (λ l. members_come bares rules more l)
        (found (answer_to sights bares) rules value) (found_members (answer_to sights bares) rules more) (target_out value last) (λ l. members_out more l))
        (members_out more last)

pub finds_target : {X : Type 0} → FindsTarget X
finds_target sights bares rules target last =
    let answer : List ℕ → BareAnswer = answer_to sights bares in
    let calls : CallsAndOutcome = found answer rules target in
    record {
      asked = calls.asked;
      resolves =
          subst (ResolvesTarget rules target calls.asked) (sym (target_out sights bares rules target last))
          (sound answer rules target);
      tells = told answer rules target;
    }

-- ---- a target in `exports`

module _ {X : Type 0} (sights : Sights) (bares : Bares X) (rules : Rules) (exports : rules.is_imports ≡ false) where
  abbrev IsSilent : {Y : Type 0} → LookAsking Y → Type 0
  IsSilent asking = looks sights asking ≡ []

  silent_choice : {Y : Type 0} (b : Bool) (x y : LookAsking Y) → (b ≡ true → IsSilent x) → (b ≡ false → IsSilent y)
      → IsSilent (cond b x y)
  silent_choice true x y e f = e refl
  silent_choice false x y e f = f refl

  silent_then : {Y Z : Type 0} (asking : LookAsking Y) (next : Y → LookAsking Z) → IsSilent asking
      → ((value : Y) → IsSilent (next value)) → IsSilent (and_then asking next)
  silent_then asking next e f =
      questions_then sights asking next
      ∙ (ap (λ front. front ++ looks sights (next (outcome sights asking))) e ∙ f (outcome sights asking))

  silent_item : (rest : Option X → LookAsking (Came X)) → ((last : Option X) → IsSilent (rest last)) → (first : Came X)
      → IsSilent (after_item rest first)
  silent_item rest e first =
      silent_choice (is_passed first.out) _ _ (λ p. silent_then (rest first.last) _ (e first.last) (λ later. refl))
      (λ p. refl)

  silent_member : (rest : Option X → LookAsking (Came X)) → ((last : Option X) → IsSilent (rest last))
      → (first : Came X) → IsSilent (after_member rest first)
  silent_member rest e first = silent_choice (is_undefined first.out) _ _ (λ p. e first.last) (λ p. refl)

  silent_text : (text : List ℕ) (last : Option X) → IsSilent (text_comes bares rules text last)
  silent_text text last =
      silent_choice (begins text (codes "./")) _ _ (λ e. refl)
      (λ e. silent_choice (names_package rules.is_imports text) _ _
      (λ n. absurd (never_package rules.is_imports text exports n)) (λ n. refl))

  mutual
    silent_target : (target : Json) (last : Option X) → IsSilent (target_comes bares rules target last)
    silent_target a_null last = refl
    silent_target (a_bool b) last = refl
    silent_target (a_number number) last = refl
    silent_target (a_text text) last = silent_text text last
    silent_target (a_list no_items) last = refl
    silent_target (a_list (an_item item more)) last =
        silent_then (target_comes bares rules item last) _ (silent_target item last)
        (silent_item (λ l. items_come bares rules more l) (λ l. silent_items more l))
    silent_target (an_object fields) last =
        silent_choice (has_index_key fields) _ _ (λ i. refl) (λ i. silent_members fields last)

    silent_items : (items : Items) (last : Option X) → IsSilent (items_come bares rules items last)
    silent_items no_items last = refl
    silent_items (an_item item more) last =
        silent_then (target_comes bares rules item last) _ (silent_target item last)
        (silent_item (λ l. items_come bares rules more l) (λ l. silent_items more l))

    silent_members : (fields : Members) (last : Option X) → IsSilent (members_come bares rules fields last)
    silent_members no_members last = refl
    silent_members (a_member key value more) last =
        silent_choice (is_tried rules.conditions key) _ _
        (λ t. silent_then (target_comes bares rules value last) _ (silent_target value last)
        (silent_member (λ l. members_come bares rules more l) (λ l. silent_members more l)))
        (λ t. silent_members more last)

silent_last : (sights : Sights) (last : Option resolve.Found) → looks sights (last_found last) ≡ []
silent_last sights None = refl
silent_last sights (Some found) = refl

silent_check : (sights : Sights) (url : Option (List ℕ)) → looks sights (check_url url) ≡ []
silent_check sights None = refl
silent_check sights (Some url) = refl

silent_url : (sights : Sights) (folder : List ℕ) (nothing : Cause) (out : Outcome) (last : Option resolve.Found)
    → looks sights (target_url folder nothing (came out last)) ≡ []
silent_url sights folder nothing Undefined last = refl
silent_url sights folder nothing Null last = refl
silent_url sights folder nothing (Place text) last = silent_check sights (url_in folder text)
silent_url sights folder nothing Bare last = silent_last sights last
silent_url sights folder nothing Stopped last = silent_last sights last
silent_url sights folder nothing InvalidTarget last = refl
silent_url sights folder nothing InvalidSpecifier last = refl
silent_url sights folder nothing InvalidConfig last = refl

pub exports_look_at_nothing : ExportsLookAtNothing
exports_look_at_nothing sights rules folder nothing target e =
    silent_then sights no_bares rules e (target_comes no_bares rules target None) (target_url folder nothing)
    (silent_target sights no_bares rules e target None) (λ c. silent_url sights folder nothing c.out c.last)
