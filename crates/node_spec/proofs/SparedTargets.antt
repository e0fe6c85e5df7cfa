-- Targets pass where the bare texts that they ask for do.
use Rattle.std.proofs.Common.{◌≡◌, ◌++◌, [], ℕ, List, Bool, true, Option, Some, None, refl, sym, subst}
use Rattle.std.specs.Prelude.{if◌then◌else◌, codes, Ok, Err}
use Rattle.std.proofs.lemmas.Bool.{cond_both}
use Rattle.std.proofs.lemmas.List.Elements.{Contains-append_right}
use Rattle.asking_spec.specs.Askings.{answered, ask, outcome, and_then}
use Rattle.asking_spec.proofs.AskingLemmas.{outcome_then}
use Rattle.json_spec.specs.Value.{Json, a_null, a_bool, a_number, a_text, a_list, an_object, Items, no_items, an_item}
use Rattle.json_spec.specs.Value.{Members, no_members, a_member}
use Rattle.tree_spec.specs.LookAskings.{Sights, LookAsking, looks}
use Rattle.url_spec.specs.Specifiers.{begins}
use Rattle.node_spec.specs.FileLooks.{url_in, check_url}
use Rattle.node_spec.specs.NodeAnswers.{Url, Resolving}
use Rattle.node_spec.specs.PackageTargetResolve.{Bares, Found, Came, came, bare_comes, text_comes, after_item}
use Rattle.node_spec.specs.PackageTargetResolve.{after_member, target_comes, items_come, members_come, judge_bare}
use Rattle.node_spec.specs.PackageTargetResolve.{last_found, target_url, package_target}
use Rattle.node_spec.specs.PackageTargets.{Rules, own_outcome, names_package, with_match, bare_outcome, has_index_key}
use Rattle.node_spec.specs.PackageTargets.{is_tried, is_undefined, is_passed, last_of}
use Rattle.node_spec.specs.declared.BareAnswer.{BareAnswer}
use Rattle.node_spec.specs.declared.BareAnswer.TheVariants as bare_answer
use Rattle.node_spec.specs.declared.Cause.{Cause}
use Rattle.node_spec.specs.declared.Outcome.{Outcome}
use Rattle.node_spec.specs.declared.Outcome.TheVariants.{Undefined, Null, Place, Bare, Stopped, InvalidTarget}
use Rattle.node_spec.specs.declared.Outcome.TheVariants.{InvalidSpecifier, InvalidConfig}
use Rattle.tree_spec.specs.LeftOutFolders.{Spares, IgnoresFolders}
use Rattle.tree_spec.proofs.LeftOutFolders.{ignoring_spares, spares_then}
use Rattle.node_spec.proofs.SparedAnswers.{IsFine, Passes, IsFineLast, IsFineOut, PassesTarget}

module _ (sights : Sights) where
  -- ---- more paths

  fine_more : (some paths : List (List ℕ)) (found : Found) → IsFine sights paths found
      → IsFine sights (some ++ paths) found
  fine_more some paths (Ok url) fine = record {
    path = fine.path;
    named = fine.named;
    is_looked_at = Contains-append_right some paths fine.path fine.is_looked_at;
    bytes = fine.bytes;
    stored = fine.stored;
  }
  fine_more some paths (Err refusal) fine = fine

  last_more : (some paths : List (List ℕ)) (last : Option Found) → IsFineLast sights paths last
      → IsFineLast sights (some ++ paths) last
  last_more some paths None fine = tt
  last_more some paths (Some found) fine = fine_more some paths found fine

  out_more : (some paths : List (List ℕ)) (out : Outcome) (last : Option Found) → IsFineOut sights paths out last
      → IsFineOut sights (some ++ paths) out last
  out_more some paths Undefined last fine = tt
  out_more some paths Null last fine = tt
  out_more some paths (Place text) last fine = tt
  out_more some paths Bare last fine = last_more some paths last fine
  out_more some paths Stopped last fine = last_more some paths last fine
  out_more some paths InvalidTarget last fine = tt
  out_more some paths InvalidSpecifier last fine = tt
  out_more some paths InvalidConfig last fine = tt

  -- ---- outcomes

  passed_fine : (paths : List (List ℕ)) (out : Outcome) (last : Option Found) → is_passed out ≡ true
      → IsFineOut sights paths out last
  passed_fine paths Undefined last e = tt
  passed_fine paths Null last e = tt
  passed_fine paths (Place text) last e = tt
  passed_fine paths Bare last e = absurd (cc)
  passed_fine paths Stopped last e = absurd (cc)
  passed_fine paths InvalidTarget last e = tt
  passed_fine paths InvalidSpecifier last e = tt
  passed_fine paths InvalidConfig last e = tt

  undefined_fine : (paths : List (List ℕ)) (out : Outcome) (last : Option Found) → is_undefined out ≡ true
      → IsFineOut sights paths out last
  undefined_fine paths Undefined last e = tt
  undefined_fine paths Null last e = tt
  undefined_fine paths (Place text) last e = tt
  undefined_fine paths Bare last e = absurd (cc)
  undefined_fine paths Stopped last e = absurd (cc)
  undefined_fine paths InvalidTarget last e = tt
  undefined_fine paths InvalidSpecifier last e = tt
  undefined_fine paths InvalidConfig last e = tt

  last_fine : (paths : List (List ℕ)) (first out : Outcome) (last : Option Found)
      → IsFineOut sights paths (last_of first out) last → IsFineOut sights paths out last
  last_fine paths first out last =
      cond_both (is_undefined out) first out
      (λ o. IsFineOut sights paths o last → IsFineOut sights paths out last)
      (λ e fine. undefined_fine paths out last e) (λ e fine. fine)

  bare_by : (paths : List (List ℕ)) (value : Found) (answer : BareAnswer) → judge_bare value ≡ answer
      → IsFineOut sights paths (bare_outcome answer) (Some value) → IsFine sights paths value
  bare_by paths value bare_answer.Found e fine = fine
  bare_by paths value bare_answer.Stop e fine = fine
  bare_by paths (Ok url) bare_answer.InvalidTarget e fine = absurd (cc)
  bare_by paths (Err refusal) bare_answer.InvalidTarget e fine = e

  bare_fine : (paths : List (List ℕ)) (value : Found)
      → IsFineOut sights paths (bare_outcome (judge_bare value)) (Some value) → IsFine sights paths value
  bare_fine paths value fine = bare_by paths value (judge_bare value) refl fine

  -- ---- parts of a target

  pass_choice : (b : Bool) (x y : LookAsking (Came Found)) → PassesTarget sights x → PassesTarget sights y
      → PassesTarget sights (if b then x else y)
  pass_choice b x y p q = cond_both b x y (PassesTarget sights) (λ e. p) (λ e. q)

  Pass : (LookAsking (Came Found)) → Type 0
  Pass asking = PassesTarget sights asking

  item_passes : (item : LookAsking (Came Found)) (rest : Option Found → LookAsking (Came Found))
      → PassesTarget sights item → ((last : Option Found) → PassesTarget sights (rest last))
      → PassesTarget sights (and_then item (after_item rest))
  item_passes item rest of_item of_rest later fine =
      let first : Came Found = outcome sights item in
      let next : Came Found → LookAsking (Came Found) =
      λ other. answered (came (last_of first.out other.out) other.last) in
      let behind : LookAsking (Came Found) = after_item rest first in
      let end : IsFineOut sights later (outcome sights behind).out (outcome sights behind).last =
      subst (λ (c : Came Found). IsFineOut sights later c.out c.last) (outcome_then sights item (after_item rest)) fine in
      let both =
      cond_both (is_passed first.out) (and_then (rest first.last) next) (answered first)
      (λ a. IsFineOut sights later (outcome sights a).out (outcome sights a).last
      → IsFineOut sights (looks sights a ++ later) first.out first.last × Spares sights later a)
      (λ passed is. (
        passed_fine (looks sights (and_then (rest first.last) next) ++ later) first.out first.last passed,
        spares_then sights later (rest first.last) next
            (of_rest first.last later (last_fine later first.out (outcome sights (rest first.last)).out
            (outcome sights (rest first.last)).last
            (subst (λ (c : Came Found). IsFineOut sights later c.out c.last)
            (outcome_then sights (rest first.last) next) is)))
            tt,
      ))
      (λ decided is. (is, tt)) end in
      spares_then sights later item (after_item rest) (of_item (looks sights behind ++ later) both.0) both.1

  member_passes : (member : LookAsking (Came Found)) (rest : Option Found → LookAsking (Came Found))
      → PassesTarget sights member → ((last : Option Found) → PassesTarget sights (rest last))
      → PassesTarget sights (and_then member (after_member rest))
  member_passes member rest of_member of_rest later fine =
      let first : Came Found = outcome sights member in
      let behind : LookAsking (Came Found) = after_member rest first in
      let end : IsFineOut sights later (outcome sights behind).out (outcome sights behind).last =
      subst (λ (c : Came Found). IsFineOut sights later c.out c.last) (outcome_then sights member (after_member rest)) fine in
      let both =
      cond_both (is_undefined first.out) (rest first.last) (answered first)
      (λ a. IsFineOut sights later (outcome sights a).out (outcome sights a).last
      → IsFineOut sights (looks sights a ++ later) first.out first.last × Spares sights later a)
      (λ none is. (
        undefined_fine (looks sights (rest first.last) ++ later) first.out first.last none,
        of_rest first.last later is,
      ))
      (λ some is. (is, tt)) end in
      spares_then sights later member (after_member rest) (of_member (looks sights behind ++ later) both.0) both.1

  -- ---- targets

  module _ (bares : List ℕ → Resolving Url) (passes : (text : List ℕ) → Passes sights (bares text)) (rules : Rules) where
    abbrev own : Bares Found
    own = record { ask = bares; judge = judge_bare }

    text_passes : (text : List ℕ) (last : Option Found) → PassesTarget sights (text_comes own rules text last)
    text_passes text last =
        pass_choice (begins text (codes "./")) (answered (came (own_outcome rules.pattern_match text) last)) _
        (λ later fine. tt)
        (pass_choice (names_package rules.is_imports text) _ (answered (came InvalidTarget last))
        (λ later fine.
        let asked : Resolving Url = bares (with_match rules.pattern_match text) in
        let next : Found → LookAsking (Came Found) = λ value. answered (bare_comes own value) in
        spares_then sights later asked next
        (passes (with_match rules.pattern_match text) later
        (bare_fine later (outcome sights asked)
        (subst (λ (c : Came Found). IsFineOut sights later c.out c.last) (outcome_then sights asked next) fine)))
        tt)
        (λ later fine. tt))

    mutual
      target_passes : (target : Json) (last : Option Found) → PassesTarget sights (target_comes own rules target last)
      target_passes a_null last later fine = tt
      target_passes (a_bool b) last later fine = tt
      target_passes (a_number number) last later fine = tt
      target_passes (a_text text) last later fine = text_passes text last later fine
      target_passes (a_list no_items) last later fine = tt
      target_passes (a_list (an_item item more)) last later fine =
          item_passes (target_comes own rules item last) (λ l. items_come own rules more l) (target_passes item last)
          (λ l. items_pass more l) later fine
      target_passes (an_object fields) last later fine =
          pass_choice (has_index_key fields) (answered (came InvalidConfig last)) (members_come own rules fields last)
          (λ l f. tt) (members_pass fields last) later fine

      items_pass : (items : Items) (last : Option Found) → PassesTarget sights (items_come own rules items last)
      items_pass no_items last later fine = tt
      items_pass (an_item item more) last later fine =
          item_passes (target_comes own rules item last) (λ l. items_come own rules more l) (target_passes item last)
          (λ l. items_pass more l) later fine

      members_pass : (fields : Members) (last : Option Found) → PassesTarget sights (members_come own rules fields last)
      members_pass no_members last later fine = tt
      members_pass (a_member key value more) last later fine =
          pass_choice (is_tried rules.conditions key)
          (and_then (target_comes own rules value last) (after_member (λ l. members_come own rules more l)))
          (members_come own rules more last)
          (member_passes (target_comes own rules value last) (λ l. members_come own rules more l)
          (target_passes value last) (λ l. members_pass more l))
          (members_pass more last) later fine

    url_fine : (later : List (List ℕ)) (folder : List ℕ) (nothing : Cause) (out : Outcome) (last : Option Found)
        → IsFine sights later (outcome sights (target_url folder nothing (came out last)))
        → IsFineOut sights later out last
    url_fine later folder nothing Undefined last fine = tt
    url_fine later folder nothing Null last fine = tt
    url_fine later folder nothing (Place text) last fine = tt
    url_fine later folder nothing Bare None fine = tt
    url_fine later folder nothing Bare (Some found) fine = fine
    url_fine later folder nothing Stopped None fine = tt
    url_fine later folder nothing Stopped (Some found) fine = fine
    url_fine later folder nothing InvalidTarget last fine = tt
    url_fine later folder nothing InvalidSpecifier last fine = tt
    url_fine later folder nothing InvalidConfig last fine = tt

    ignoring_last : (last : Option Found) → IgnoresFolders (last_found last)
    ignoring_last None = tt
    ignoring_last (Some found) = tt

    ignoring_check : (url : Option Url) → IgnoresFolders (check_url url)
    ignoring_check None = tt
    ignoring_check (Some url) = tt

    ignoring_place : (folder : List ℕ) (nothing : Cause) (out : Outcome) (last : Option Found)
        → IgnoresFolders (target_url folder nothing (came out last))
    ignoring_place folder nothing Undefined last = tt
    ignoring_place folder nothing Null last = tt
    ignoring_place folder nothing (Place text) last = ignoring_check (url_in folder text)
    ignoring_place folder nothing Bare last = ignoring_last last
    ignoring_place folder nothing Stopped last = ignoring_last last
    ignoring_place folder nothing InvalidTarget last = tt
    ignoring_place folder nothing InvalidSpecifier last = tt
    ignoring_place folder nothing InvalidConfig last = tt

    no_looks : (folder : List ℕ) (nothing : Cause) (out : Outcome) (last : Option Found)
        → looks sights (target_url folder nothing (came out last)) ≡ []
    no_looks folder nothing Undefined last = refl
    no_looks folder nothing Null last = refl
    no_looks folder nothing (Place text) last = of_check (url_in folder text)
      where
        of_check : (url : Option Url) → looks sights (check_url url) ≡ []
        of_check None = refl
        of_check (Some url) = refl
    no_looks folder nothing Bare None = refl
    no_looks folder nothing Bare (Some found) = refl
    no_looks folder nothing Stopped None = refl
    no_looks folder nothing Stopped (Some found) = refl
    no_looks folder nothing InvalidTarget last = refl
    no_looks folder nothing InvalidSpecifier last = refl
    no_looks folder nothing InvalidConfig last = refl

    pub package_target_passes : (folder : List ℕ) (nothing : Cause) (target : Json)
        → Passes sights (package_target own rules folder nothing target)
    package_target_passes folder nothing target later fine =
        let asking : LookAsking (Came Found) = target_comes own rules target None in
        let c : Came Found = outcome sights asking in
        let end : IsFine sights later (outcome sights (target_url folder nothing c)) =
        subst (IsFine sights later) (outcome_then sights asking (target_url folder nothing)) fine in
        spares_then sights later asking (target_url folder nothing)
        (subst (λ (ps : List (List ℕ)). Spares sights (ps ++ later) asking) (sym (no_looks folder nothing c.out c.last))
        (target_passes target None later (url_fine later folder nothing c.out c.last end)))
        (ignoring_spares sights later (target_url folder nothing c) (ignoring_place folder nothing c.out c.last))
