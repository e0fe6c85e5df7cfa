-- What Node's resolution comes to: one answer, decided by its footprint, and on relative specifiers the known one.
use Rattle.std.proofs.Common.{◌≡◌, ℕ, List, [], ◌∷◌, Bool, true, false, Option, Some, None, refl, sym, ap, ◌∙◌, subst, append-nil, ◌++◌, if◌then◌else◌, Result, Ok, Err}
use Rattle.std.specs.Prelude.{option_map}
use Rattle.std.proofs.lemmas.Bool.{cond-true, cond-false}
use Rattle.asking_spec.proofs.AskingLemmas.{outcome_then, questions_then, ok_parts, questions_ok}
use Rattle.asking_spec.specs.Askings.{answered, outcome, questions, and_then, and_ok}
use Rattle.tree_spec.proofs.Footprints.{same_by_footprint}
use Rattle.tree_spec.specs.LookAskings.{Sights, LookAsking, looks}
use Rattle.tree_spec.specs.declared.Entry.{Entry}
use Rattle.tree_spec.specs.declared.Entry.TheVariants.{Stored, Directory}
use Rattle.url_spec.proofs.OwnUrls.{relative_no_url}
use Rattle.url_spec.specs.FileUrls.{names_host, url_path, escapes_separator}
use Rattle.url_spec.specs.Schemes.{scheme_of, url_scheme}
use Rattle.url_spec.specs.Specifiers.{is_relative}
use Rattle.url_spec.specs.Suffixes.{suffix_of}
use Rattle.node_spec.specs.EsmFileFormat.{file_format}
use Rattle.node_spec.specs.EsmResolve.{judged, by_scheme, specifier_url, node}
use Rattle.node_spec.specs.FileLooks.{without_host, check_url}
use Rattle.node_spec.specs.NodeAnswers.{Module, Refusal, Resolving, as_node}
use Rattle.node_spec.specs.Laws.{OneNode, SomeNode, GivesFile, SameNode, SameFormat, RelativeNode}
use Rattle.node_spec.specs.RelativeResolution.{judged_at, url_judged, named_path, joined_judged, relative_resolution}
use Rattle.node_spec.specs.RelativeResolution.{entry_judged}
use Rattle.node_spec.specs.Resolution.{Answer, Resolved, Refused, is_folder_path, joined_url}
use Rattle.node_spec.specs.declared.Cause.TheVariants.{InvalidSpecifier, NotFound}
use Rattle.std.specs.FinMap.{get}

pub one_node : OneNode
one_node tree conditions parent specifier some other a b = a ∙ sym b

pub some_node : SomeNode
some_node tree conditions parent specifier = (outcome (get tree) (node conditions parent specifier), refl)

pub same_node : SameNode
same_node conditions parent specifier one other agrees =
    same_by_footprint one other (node conditions parent specifier) agrees

pub same_format : SameFormat
same_format path one other agrees = same_by_footprint one other (file_format path) agrees

-- ---- a relative specifier has no scheme

no_scheme : (specifier : List ℕ) → is_relative specifier ≡ true → scheme_of specifier ≡ None
unfolding scheme_of
no_scheme specifier r = ap (option_map url_scheme) (relative_no_url specifier r)

-- ---- its answer is the known one

abbrev as_module : LookAsking Answer → Resolving Module
as_module asking = and_then asking (λ answer. answered (as_node answer))

checked_by_host : (url : List ℕ) (host : Bool) → names_host url ≡ host
    → and_ok (check_url (without_host (Some url))) judged ≡ as_module (joined_judged (Some url))
checked_by_host url true h =
    ap (λ u. and_ok (check_url u) judged) (cond-true _ None (Some url) h)
    ∙ sym (ap as_module (cond-true _ _ (url_judged url) h))
checked_by_host url false h =
    ap (λ u. and_ok (check_url u) judged) (cond-false _ None (Some url) h)
    ∙ sym (ap as_module (cond-false _ _ (url_judged url) h))

checked_by_url : (url : Option (List ℕ)) → and_ok (check_url (without_host url)) judged ≡ as_module (joined_judged url)
checked_by_url None = refl
checked_by_url (Some url) = checked_by_host url (names_host url) refl

pub relative_is : (conditions : List (List ℕ)) (parent specifier : List ℕ) → is_relative specifier ≡ true
    → node conditions parent specifier ≡ as_module (relative_resolution parent specifier)
relative_is conditions parent specifier r =
    ap (λ scheme. and_ok (by_scheme conditions parent specifier scheme) judged) (no_scheme specifier r)
    ∙ (ap (λ asking. and_ok asking judged) (cond-true _ _ _ r) ∙ checked_by_url (joined_url parent specifier))

pub relative_node : RelativeNode
relative_node sights conditions parent specifier r =
    let asking : LookAsking Answer = relative_resolution parent specifier in
    let is = relative_is conditions parent specifier r in
    record {
      answer = ap (outcome sights) is ∙ outcome_then sights asking (λ answer. answered (as_node answer));
      looks =
          ap (looks sights) is ∙ (questions_then sights asking (λ answer. answered (as_node answer))
          ∙ append-nil (questions sights asking));
    }

-- ---- where it is a module

abbrev asked : List ℕ → Bool → Option (List ℕ) → LookAsking Answer
asked url true named = answered (Refused InvalidSpecifier)
asked url false named = judged_at url named

abbrev path_or : List ℕ → Result Module Refusal → List ℕ
path_or other (Ok answer) = answer.path
path_or other (Err refusal) = other

by_folder : (path suffix : List ℕ) (folder : Bool) (answer : Module)
    → as_node (if folder then Refused NotFound else Resolved path suffix) ≡ Ok answer → path ≡ answer.path
by_folder path suffix true answer e = absurd (cc)
by_folder path suffix false answer e = ap (path_or path) e

record IsFileAt (sights : Sights) (looks : List (List ℕ)) (path : List ℕ) : Type 0 where
  last : looks ≡ path ∷ []
  bytes : List ℕ
  stored : sights path ≡ Some (Stored bytes)

entry_file : (sights : Sights) (url path : List ℕ) (found : Option Entry) (answer : Module) → sights path ≡ found
    → as_node (entry_judged url path found) ≡ Ok answer → IsFileAt sights (path ∷ []) answer.path
entry_file sights url path None answer s e = absurd (cc)
entry_file sights url path (Some Directory) answer s e = absurd (cc)
entry_file sights url path (Some (Stored bytes)) answer s e =
    let same = by_folder path (suffix_of url) (is_folder_path (url_path url)) answer e in
    record { last = ap (λ p. p ∷ []) same; bytes = bytes; stored = ap sights (sym same) ∙ s }

by_asked : (sights : Sights) (url : List ℕ) (escapes : Bool) (named : Option (List ℕ)) (answer : Module)
    → outcome sights (as_module (asked url escapes named)) ≡ Ok answer
    → IsFileAt sights (looks sights (as_module (asked url escapes named))) answer.path
by_asked sights url true named answer e = absurd (cc)
by_asked sights url false None answer e = absurd (cc)
by_asked sights url false (Some path) answer e = entry_file sights url path (sights path) answer refl e

judged_is : (url : List ℕ) (escapes : Bool) → escapes_separator (url_path url) ≡ escapes
    → judged url ≡ as_module (asked url escapes (named_path url))
judged_is url true e = ap as_module (cond-true _ _ (judged_at url (named_path url)) e)
judged_is url false e = ap as_module (cond-false _ _ (judged_at url (named_path url)) e)

judged_file : (sights : Sights) (url : List ℕ) (answer : Module) → outcome sights (judged url) ≡ Ok answer
    → IsFileAt sights (looks sights (judged url)) answer.path
judged_file sights url answer e =
    let is = judged_is url (escapes_separator (url_path url)) refl in
    subst (λ asking. IsFileAt sights (looks sights asking) answer.path) (sym is)
    (by_asked sights url (escapes_separator (url_path url)) (named_path url) answer
    (subst (λ asking. outcome sights asking ≡ Ok answer) is e))

pub gives_file : GivesFile
gives_file sights conditions parent specifier answer e =
    let parts = ok_parts sights (specifier_url conditions parent specifier) judged answer e in
    let file = judged_file sights parts.value answer parts.next_is in
    record {
      front = looks sights (specifier_url conditions parent specifier);
      last =
          questions_ok sights (specifier_url conditions parent specifier) judged parts.value parts.first_is
          ∙ ap (λ last. looks sights (specifier_url conditions parent specifier) ++ last) file.last;
      bytes = file.bytes;
      stored = file.stored;
    }
