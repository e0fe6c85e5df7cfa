-- What stands at the place of a URL.
--     judged_escaped, judged_nameless, judged_seen, judged_unseen      the module at a URL, by its place
--     serves_nameless, serves_seen, serves_unseen                      whether a file stands there
use Rattle.std.proofs.Common.{◌≡◌, ℕ, Bool, true, false, List, Option, Some, None, Result, Err, refl, sym, ap, ◌∙◌, subst, ⊎_elim}
use Rattle.std.specs.Prelude.{◌&&◌, not}
use Rattle.std.specs.Str.{is_utf8}
use Rattle.std.proofs.lemmas.Bool.{cond-true, cond-false, cases_Bool, and_parts}
use Rattle.std.proofs.lemmas.Str.{IsUtf8-from_is_utf8}
use Rattle.asking_spec.specs.Askings.{answered, ask, and_then}
use Rattle.tree_spec.specs.LookAskings.{LookAsking, look_at}
use Rattle.tree_spec.specs.declared.Entry.{Entry}
use Rattle.tree_spec.specs.declared.Entry.TheVariants.{Stored, Directory}
use Rattle.url_spec.specs.FileUrls.{url_path, escapes_separator, spelled_path, NamesPath, IsPlace}
use Rattle.url_spec.specs.Suffixes.{suffix_of}
use Rattle.url_spec.specs.PathTests.{is_path}
use Rattle.url_spec.proofs.PathDecisions.{path_by_test}
use Rattle.node_spec.specs.EsmResolve as esm
use Rattle.node_spec.specs.FileLooks.{look_at_named, look_at_url, is_file}
use Rattle.node_spec.specs.LegacyMainResolve.{serves}
use Rattle.node_spec.specs.NodeAnswers.{Module, Refusal, by_cause, refuses, as_node}
use Rattle.node_spec.specs.Resolution as node
use Rattle.node_spec.specs.Resolution.{is_folder_path}
use Rattle.node_spec.specs.RelativeResolution.{named_path, entry_judged, judged_at}
use Rattle.node_spec.specs.declared.Cause.TheVariants.{InvalidSpecifier, NotFound}
use Rattle.node_spec.proofs.RelativeLemmas.{names_pass}
use Rattle.package_lookup.specs.Answered.{State, Answered}
use Rattle.package_lookup.specs.Responses.{Response, given, fails, never, by_fault}
use Rattle.package_lookup.specs.declared.fault.LookupFault.{LookupFault}
use Rattle.package_lookup.proofs.Questions.{then_given, now_given, looked_on, asking_as}
use Rattle.node_resolve.specs.Places.{judged_there}
use Rattle.node_resolve.specs.Responses.{node_fault, by_node_fault}
use Rattle.node_resolve.specs.declared.fault.NodeFault.{NodeFault}
use Rattle.node_resolve.proofs.Answering.{looked_fails}

named_some : (url path : List ℕ) → NamesPath (url_path url) path → named_path url ≡ Some path
named_some url path names =
    cond-true _ (Some (spelled_path (url_path url))) None (names_pass (url_path url) path names)
    ∙ ap Some (sym names.spelled)

named_none : (url : List ℕ) → escapes_separator (url_path url) ≡ false
    → ((path : List ℕ) → NamesPath (url_path url) path → ⊥) → named_path url ≡ None
named_none url no_separator none =
    let path : List ℕ = spelled_path (url_path url) in
    ⊎_elim
    (λ both.
    let parts = and_parts _ _ both in
    absurd (none path (record { no_separator = no_separator; spelled = refl; utf8 = IsUtf8-from_is_utf8 path parts.0; is_path = path_by_test path parts.1 })))
    (λ lost. cond-false _ (Some path) None lost)
    (cases_Bool (is_utf8 path && is_path path))

same_judged : (url path : List ℕ) (folder_only : Bool) (suffix : List ℕ) → folder_only ≡ is_folder_path (url_path url)
    → suffix ≡ suffix_of url → (found : Option Entry)
    → entry_judged url path found ≡ judged_there path folder_only suffix found
same_judged url path folder_only suffix slash tail None = refl
same_judged url path folder_only suffix slash tail (Some Directory) = refl
same_judged url path folder_only suffix slash tail (Some (Stored bytes)) =
    λ i. judged_there path (sym slash i) (sym tail i) (Some (Stored bytes))

abbrev shown_node : node.Answer → LookAsking (Result Module Refusal)
shown_node answer = answered (as_node answer)

-- ---- the module there

module _ (url : List ℕ) (folder_only : Bool) (suffix : List ℕ) where
  escaped_is : (path : Option (List ℕ)) → IsPlace url path folder_only true suffix
      → esm.judged url ≡ refuses InvalidSpecifier
  escaped_is path is =
      ap (λ a. and_then a shown_node)
      (cond-true _ (answered (node.Refused InvalidSpecifier)) (judged_at url (named_path url)) (sym is.separator))

  no_place_is : IsPlace url None folder_only false suffix → esm.judged url ≡ refuses NotFound
  no_place_is is =
      ap (λ a. and_then a shown_node)
      (cond-false _ (answered (node.Refused InvalidSpecifier)) (judged_at url (named_path url)) (sym is.separator)
      ∙ ap (judged_at url) (named_none url (sym is.separator) is.named))

  abbrev there : List ℕ → Option Entry → LookAsking (Result Module Refusal)
  there path found = answered (as_node (judged_there path folder_only suffix found))

  place_is : (path : List ℕ) → IsPlace url (Some path) folder_only false suffix
      → esm.judged url ≡ and_then (look_at path) (there path)
  place_is path is =
      ap (λ a. and_then a shown_node)
      (cond-false _ (answered (node.Refused InvalidSpecifier)) (judged_at url (named_path url)) (sym is.separator)
      ∙ ap (judged_at url) (named_some url path is.named))
      ∙ (λ i. ask path (λ found. answered (as_node (same_judged url path folder_only suffix is.ends_in_slash is.tail found i))))

pub judged_escaped : (before : State) (url : List ℕ) (path : Option (List ℕ)) (folder_only escaped : Bool)
    (suffix : List ℕ) → IsPlace url path folder_only escaped suffix → escaped ≡ true
    → Answered before (esm.judged url) (given (Err (by_cause InvalidSpecifier))) before
judged_escaped before url path folder_only escaped suffix is e =
    asking_as before before (refuses InvalidSpecifier) (esm.judged url) (given (Err (by_cause InvalidSpecifier)))
    (sym (escaped_is url folder_only suffix path (subst (λ b. IsPlace url path folder_only b suffix) e is)))
    (now_given before (Err (by_cause InvalidSpecifier)))

pub judged_nameless : (before : State) (url : List ℕ) (folder_only escaped : Bool) (suffix : List ℕ)
    → IsPlace url None folder_only escaped suffix → escaped ≡ false
    → Answered before (esm.judged url) (given (Err (by_cause NotFound))) before
judged_nameless before url folder_only escaped suffix is e =
    asking_as before before (refuses NotFound) (esm.judged url) (given (Err (by_cause NotFound)))
    (sym (no_place_is url folder_only suffix (subst (λ b. IsPlace url None folder_only b suffix) e is)))
    (now_given before (Err (by_cause NotFound)))

module _ (before after : State) (url path : List ℕ) (folder_only escaped : Bool) (suffix : List ℕ)
    (is : IsPlace url (Some path) folder_only escaped suffix) (plain : escaped ≡ false) where
  judged_same : and_then (look_at path) (there url folder_only suffix path) ≡ esm.judged url
  judged_same = sym (place_is url folder_only suffix path (subst (λ b. IsPlace url (Some path) folder_only b suffix) plain is))

  pub judged_seen : (found : Option Entry) (response : Response (Result Module Refusal))
      → Answered before (look_at path) (given found) after
      → response ≡ given (as_node (judged_there path folder_only suffix found))
      → Answered before (esm.judged url) response after
  judged_seen found response a r =
      subst (λ q. Answered before (esm.judged url) q after) (sym r)
      (asking_as before after _ (esm.judged url) (given (as_node (judged_there path folder_only suffix found)))
      judged_same
      (then_given before after after (look_at path) (there url folder_only suffix path) found
      (given (as_node (judged_there path folder_only suffix found))) a
      (now_given after (as_node (judged_there path folder_only suffix found)))))

  pub judged_unseen : (fault : LookupFault) (other : NodeFault) → other ≡ node_fault fault
      → Answered before (look_at path) (by_fault (fails never) (fails never) fault) after
      → Answered before (esm.judged url) (by_node_fault other) after
  judged_unseen fault other e a =
      asking_as before after _ (esm.judged url) (by_node_fault other) judged_same
      (looked_fails before after (look_at path) (there url folder_only suffix path) fault other e a)

-- ---- whether a file stands there

abbrev pub serving : List ℕ → LookAsking Bool
serving url = and_then (look_at_url url) (λ found. answered (serves url found))

nothing_named : (url : List ℕ) → ((path : List ℕ) → NamesPath (url_path url) path → ⊥)
    → look_at_url url ≡ answered None
nothing_named url none =
    ⊎_elim (λ e. cond-true _ (answered None) (look_at_named (named_path url)) e)
    (λ e. cond-false _ (answered None) (look_at_named (named_path url)) e
    ∙ ap look_at_named (named_none url e none))
    (cases_Bool (escapes_separator (url_path url)))

something_named : (url path : List ℕ) → NamesPath (url_path url) path → look_at_url url ≡ look_at path
something_named url path names =
    cond-false _ (answered None) (look_at_named (named_path url)) names.no_separator
    ∙ ap look_at_named (named_some url path names)

pub serves_nameless : (before : State) (url : List ℕ) (folder_only escaped : Bool) (suffix : List ℕ)
    → IsPlace url None folder_only escaped suffix → Answered before (serving url) (given false) before
serves_nameless before url folder_only escaped suffix is =
    asking_as before before (answered false) (serving url) (given false)
    (sym (ap (λ a. and_then a (λ found. answered (serves url found))) (nothing_named url is.named)))
    (now_given before false)

module _ (before after : State) (url path : List ℕ) (folder_only escaped : Bool) (suffix : List ℕ)
    (is : IsPlace url (Some path) folder_only escaped suffix) where
  serving_same : and_then (look_at path) (λ found. answered (serves url found)) ≡ serving url
  serving_same =
      sym (ap (λ a. and_then a (λ found. answered (serves url found))) (something_named url path is.named))

  pub serves_seen : (found : Option Entry) (served : Bool) → served ≡ (is_file found && not folder_only)
      → Answered before (look_at path) (given found) after → Answered before (serving url) (given served) after
  serves_seen found served e a =
      let same : serves url found ≡ served = ap (λ b. is_file found && not b) (sym is.ends_in_slash) ∙ sym e in
      asking_as before after _ (serving url) (given served) serving_same
      (then_given before after after (look_at path) (λ found. answered (serves url found)) found (given served) a
      (subst (λ b. Answered after (answered (serves url found)) (given b) after) same (now_given after (serves url found))))

  pub serves_unseen : (fault : LookupFault) → Answered before (look_at path) (by_fault (fails never) (fails never) fault) after
      → Answered before (serving url) (by_fault (fails never) (fails never) fault) after
  serves_unseen fault a =
      asking_as before after _ (serving url) (by_fault (fails never) (fails never) fault) serving_same
      (looked_on before after (look_at path) (λ found. answered (serves url found)) fault a)
