-- A package target as an asking (Node.js, ECMAScript modules: PACKAGE_TARGET_RESOLVE). What a target is judged by, and
-- what it comes to when its bare texts are answered, stands in PackageTargets.
--     Bares X                          how bare texts are answered, and what a target makes of such an answer
--     Came X                           what a target comes to, and the full answer to the bare text that was asked last
--     target_comes bares rules target last      the target as an asking, where `last` is the answer so far
--     items_come, members_come         the same of the items that are left of a list, and of the members that are left
--                                      of an object; where none is left, it is Undefined
--     no_bares                         of a target in `exports`, which asks for none
--     target_url folder nothing came   the URL in the package at a folder; `nothing` where the target gives nothing
--     judge_bare found                 what a target makes of the answer to a bare text
--     came out last                    this outcome, with this answer to the text that was asked last
--     bare_comes bares value           what a bare text that is answered so comes to, with this answer
--     Found                            the answer to a bare text in a package: a URL, or a refusal
use Rattle.std.specs.Prelude.{ℕ, List, codes, if◌then◌else◌, Option, Some, None, Result, Ok, Err}
use Rattle.asking_spec.specs.Askings.{answered, and_then}
use Rattle.json_spec.specs.Value.{Json, a_null, a_bool, a_number, a_text, a_list, an_object, Items, no_items, an_item}
use Rattle.json_spec.specs.Value.{Members, no_members, a_member}
use Rattle.tree_spec.specs.LookAskings.{LookAsking}
use Rattle.url_spec.specs.Specifiers.{begins}
use Rattle.node_spec.specs.FileLooks.{url_in, check_url}
use Rattle.node_spec.specs.NodeAnswers.{Refusal, by_cause, too_deep, Url, Resolving, refuses}
use Rattle.node_spec.specs.PackageTargets.{Rules, own_outcome, names_package, with_match, bare_outcome, has_index_key}
use Rattle.node_spec.specs.PackageTargets.{is_tried, is_undefined, is_passed, last_of}
use Rattle.node_spec.specs.declared.BareAnswer.{BareAnswer}
use Rattle.node_spec.specs.declared.BareAnswer.TheVariants as bare_answer
use Rattle.node_spec.specs.declared.Cause.{Cause}
use Rattle.node_spec.specs.declared.Cause.TheVariants as cause
use Rattle.node_spec.specs.declared.Outcome.{Outcome}
use Rattle.node_spec.specs.declared.Outcome.TheVariants.{Undefined, Null, Place, Bare, Stopped, InvalidTarget}
use Rattle.node_spec.specs.declared.Outcome.TheVariants.{InvalidSpecifier, InvalidConfig}

pub record Bares (X : Type 0) : Type 0 where
  pub ask : List ℕ → LookAsking X
  pub judge : X → BareAnswer

pub record Came (X : Type 0) : Type 0 where
  pub out : Outcome
  pub last : Option X

abbrev pub came : {X : Type 0} → Outcome → Option X → Came X
came out last = record { out = out; last = last }

abbrev pub bare_comes : {X : Type 0} → Bares X → X → Came X
bare_comes bares value = came (bare_outcome (bares.judge value)) (Some value)

-- PACKAGE_TARGET_RESOLVE, "If target is a String"
abbrev pub text_comes : {X : Type 0} → Bares X → Rules → List ℕ → Option X → LookAsking (Came X)
text_comes bares rules text last =
    if begins text (codes "./") then answered (came (own_outcome rules.pattern_match text) last)
    else if names_package rules.is_imports text
    then and_then (bares.ask (with_match rules.pattern_match text)) (λ value. answered (bare_comes bares value))
    else answered (came InvalidTarget last)

-- the other items, where the first one was passed
abbrev pub after_item : {X : Type 0} → (Option X → LookAsking (Came X)) → Came X → LookAsking (Came X)
after_item rest first =
    if is_passed first.out
    then and_then (rest first.last) (λ later. answered (came (last_of first.out later.out) later.last))
    else answered first

-- the other members, where the first one is undefined
abbrev pub after_member : {X : Type 0} → (Option X → LookAsking (Came X)) → Came X → LookAsking (Came X)
after_member rest first = if is_undefined first.out then rest first.last else answered first

abbrev mutual
  pub target_comes : {X : Type 0} → Bares X → Rules → Json → Option X → LookAsking (Came X)
  target_comes bares rules a_null last = answered (came Null last)
  target_comes bares rules (a_bool b) last = answered (came InvalidTarget last)
  target_comes bares rules (a_number number) last = answered (came InvalidTarget last)
  target_comes bares rules (a_text text) last = text_comes bares rules text last
  target_comes bares rules (a_list no_items) last = answered (came Null last)
  target_comes bares rules (a_list (an_item item more)) last =
      and_then (target_comes bares rules item last) (after_item (λ l. items_come bares rules more l))
  target_comes bares rules (an_object members) last =
      if has_index_key members then answered (came InvalidConfig last) else members_come bares rules members last

  pub items_come : {X : Type 0} → Bares X → Rules → Items → Option X → LookAsking (Came X)
  items_come bares rules no_items last = answered (came Undefined last)
  items_come bares rules (an_item item more) last =
      and_then (target_comes bares rules item last) (after_item (λ l. items_come bares rules more l))

  pub members_come : {X : Type 0} → Bares X → Rules → Members → Option X → LookAsking (Came X)
  members_come bares rules no_members last = answered (came Undefined last)
  members_come bares rules (a_member key value more) last =
      if is_tried rules.conditions key
      then and_then (target_comes bares rules value last) (after_member (λ l. members_come bares rules more l))
      else members_come bares rules more last

-- ---- in a package

abbrev pub Found : Type 0
Found = Result Url Refusal

-- own: a target that isn't well formed lets a list go on, whether it is the list's own or that of a bare text
abbrev pub judge_cause : Cause → BareAnswer
judge_cause c = elim c as (λ c. BareAnswer) [
  | cause.Builtin ↦ bare_answer.Stop
  | cause.ExternalUrl ↦ bare_answer.Stop
  | cause.InvalidSpecifier ↦ bare_answer.Stop
  | cause.InvalidConfig ↦ bare_answer.Stop
  | cause.InvalidTarget ↦ bare_answer.InvalidTarget
  | cause.NotExported ↦ bare_answer.Stop
  | cause.ImportNotDefined ↦ bare_answer.Stop
  | cause.NotFound ↦ bare_answer.Stop
  | cause.DirectoryImport ↦ bare_answer.Stop
]

abbrev pub judge_bare : Found → BareAnswer
judge_bare (Ok url) = bare_answer.Found
judge_bare (Err (by_cause c)) = judge_cause c
judge_bare (Err too_deep) = bare_answer.Stop

-- no bare text is asked for where `is_imports` is false
abbrev pub no_bares : Bares Found
no_bares = record { ask = λ text. refuses cause.InvalidTarget; judge = judge_bare }

-- the answer that was asked for last
abbrev pub last_found : Option Found → Resolving Url
last_found None = refuses cause.InvalidTarget
last_found (Some found) = answered found

abbrev pub target_url : List ℕ → Cause → Came Found → Resolving Url
target_url folder nothing came = elim (came.out) as (λ out. Resolving Url) [
  | Undefined ↦ refuses nothing
  | Null ↦ refuses nothing
  | Place text ↦ check_url (url_in folder text)
  | Bare ↦ last_found came.last
  | Stopped ↦ last_found came.last
  | InvalidTarget ↦ refuses cause.InvalidTarget
  | InvalidSpecifier ↦ refuses cause.InvalidSpecifier
  | InvalidConfig ↦ refuses cause.InvalidConfig
]

-- PACKAGE_TARGET_RESOLVE in the package at a folder
abbrev pub package_target : Bares Found → Rules → List ℕ → Cause → Json → Resolving Url
package_target bares rules folder nothing target =
    and_then (target_comes bares rules target None) (target_url folder nothing)
