-- The same askings in other forms.
--     twice                     one asking behind two others
--     self_is                   a package that names itself, and the rest where it doesn't
--     files_are, index_is       the first file of two lists of texts
use Rattle.std.proofs.Common.{◌≡◌, ◌++◌, [], ◌∷◌, ℕ, List, Bool, true, false, Option, Some, None, Result, Ok, Err, refl, sym, ap, ◌∙◌}
use Rattle.std.specs.Prelude.{◌&&◌, not, codes, map, if◌then◌else◌}
use Rattle.asking_spec.specs.Askings.{Asking, answered, ask, and_then, on_ok, and_ok}
use Rattle.tree_spec.specs.LookAskings.{LookAsking}
use Rattle.node_spec.specs.FileLooks.{look_at_url, url_in}
use Rattle.node_spec.specs.LegacyMainResolve.{main_ends, index_files, serves, file_or, first_file, main_file}
use Rattle.node_spec.specs.LookupPackageScope.{package_scope}
use Rattle.node_spec.specs.NodeAnswers.{Url, Refusal, Resolving, gives, refuses}
use Rattle.node_spec.specs.PackageExportsResolve.{exported}
use Rattle.node_spec.specs.PackageSelfResolve.{Subpath, has_name, is_null, self_in, self_at, self_or}
use Rattle.node_spec.specs.ReadPackageJson.{record_at}
use Rattle.node_spec.specs.Records.{Record}
use Rattle.node_spec.specs.declared.Cause.TheVariants.{NotFound}
use Rattle.node_resolve.specs.MainFiles.{shown_if, served_at, served_or, first_served}
use Rattle.node_resolve.specs.SelfNamed.{found_or, gives_some, named_itself_in, named_itself_at, named_itself}

pub twice : {Q : Type 0} {A : Q → Type 0} {X Y Z : Type 0} (asking : Asking Q A X) (next : X → Asking Q A Y)
    (last : Y → Asking Q A Z) → and_then (and_then asking next) last ≡ and_then asking (λ x. and_then (next x) last)
twice (answered value) next last = refl
twice (ask question more) next last = λ i. ask question (λ answer. twice (more answer) next last i)

same_next : {Q : Type 0} {A : Q → Type 0} {X Y : Type 0} (asking : Asking Q A X) (one other : X → Asking Q A Y)
    → ((x : X) → one x ≡ other x) → and_then asking one ≡ and_then asking other
same_next asking one other same = λ i. and_then asking (λ x. same x i)

then_answered : {Q : Type 0} {A : Q → Type 0} {X : Type 0} (asking : Asking Q A X) → and_then asking answered ≡ asking
then_answered (answered value) = refl
then_answered (ask question more) = λ i. ask question (λ answer. then_answered (more answer) i)

-- ---- a package that names itself

some_found : (rest : Resolving Url) (found : Result Url Refusal)
    → answered found ≡ and_then (on_ok gives_some found) (on_ok (found_or rest))
some_found rest (Ok url) = refl
some_found rest (Err refusal) = refl

found_first : (rest exports : Resolving Url) → exports ≡ and_then (and_ok exports gives_some) (on_ok (found_or rest))
found_first rest exports =
    sym (then_answered exports)
    ∙ (same_next exports answered (λ found. and_then (on_ok gives_some found) (on_ok (found_or rest))) (some_found rest)
    ∙ sym (twice exports (on_ok gives_some) (on_ok (found_or rest))))

self_by : (rest exports : Resolving Url) (b : Bool)
    → (if b then exports else rest)
    ≡ and_then (if b then and_ok exports gives_some else gives None) (on_ok (found_or rest))
self_by rest exports true = found_first rest exports
self_by rest exports false = refl

module _ (rest : Resolving Url) (conditions : List (List ℕ)) (asked : Subpath) where
  in_is : (scope : List ℕ) (found : Option Record)
      → self_in rest conditions scope asked found
      ≡ and_then (named_itself_in conditions scope asked found) (on_ok (found_or rest))
  in_is scope None = refl
  in_is scope (Some of_scope) =
      self_by rest (exported conditions scope asked.subpath of_scope.exports)
      (has_name of_scope.name asked.name && not (is_null of_scope.exports))

  record_is : (scope : List ℕ) (found : Result (Option Record) Refusal)
      → on_ok (self_in rest conditions scope asked) found
      ≡ and_then (on_ok (named_itself_in conditions scope asked) found) (on_ok (found_or rest))
  record_is scope (Ok found) = in_is scope found
  record_is scope (Err refusal) = refl

  at_is : (found : Option (List ℕ))
      → self_at rest conditions asked found
      ≡ and_then (named_itself_at conditions asked found) (on_ok (found_or rest))
  at_is None = refl
  at_is (Some scope) =
      same_next (record_at scope) (on_ok (self_in rest conditions scope asked))
      (λ found. and_then (on_ok (named_itself_in conditions scope asked) found) (on_ok (found_or rest)))
      (record_is scope)
      ∙ sym (twice (record_at scope) (on_ok (named_itself_in conditions scope asked)) (on_ok (found_or rest)))

  pub self_is : (from : List ℕ)
      → self_or rest conditions from asked ≡ and_ok (named_itself conditions from asked) (found_or rest)
  self_is from =
      same_next (package_scope from) (self_at rest conditions asked)
      (λ found. and_then (named_itself_at conditions asked found) (on_ok (found_or rest))) at_is
      ∙ sym (twice (package_scope from) (named_itself_at conditions asked) (on_ok (found_or rest)))

-- ---- main files

module _ (folder : List ℕ) (others : List (List ℕ)) where
  abbrev or_others : Option Url → Resolving Url
  or_others found = found_or (first_file folder others) found

  by_served : (url : Url) (rest : LookAsking (Option Url)) (all : Resolving Url) → all ≡ and_then rest or_others → (b : Bool)
      → (if b then gives url else all) ≡ and_then (and_then (shown_if url b) (served_or rest)) or_others
  by_served url rest all e true = refl
  by_served url rest all e false = e

  looked_is : (url : Url) (rest : LookAsking (Option Url)) (all : Resolving Url) → all ≡ and_then rest or_others
      → file_or all (Some url) ≡ and_then (and_then (served_at (Some url)) (served_or rest)) or_others
  looked_is url rest all e =
      same_next (look_at_url url) (λ found. if serves url found then gives url else all)
      (λ found. and_then (and_then (shown_if url (serves url found)) (served_or rest)) or_others)
      (λ found. by_served url rest all e (serves url found))
      ∙ sym (
      ap (λ a. and_then (and_then a (served_or rest)) or_others)
      (twice (look_at_url url) (λ found. answered (serves url found)) (shown_if url))
      ∙ (ap (λ a. and_then a or_others)
      (twice (look_at_url url) (λ found. shown_if url (serves url found)) (served_or rest))
      ∙ twice (look_at_url url) (λ found. and_then (shown_if url (serves url found)) (served_or rest)) or_others)
      )

  text_is : (found : Option Url) (rest : LookAsking (Option Url)) (all : Resolving Url) → all ≡ and_then rest or_others
      → file_or all found ≡ and_then (and_then (served_at found) (served_or rest)) or_others
  text_is None rest all e = e
  text_is (Some url) rest all e = looked_is url rest all e

  pub files_are : (texts : List (List ℕ))
      → first_file folder (texts ++ others) ≡ and_then (first_served folder texts) or_others
  files_are [] = refl
  files_are (text ∷ more) =
      text_is (url_in folder (codes "./" ++ text)) (first_served folder more) (first_file folder (more ++ others))
      (files_are more)

pub index_is : (folder : List ℕ)
    → first_file folder index_files ≡ and_then (first_served folder index_files) (found_or (refuses NotFound))
index_is folder = files_are folder [] index_files

pub main_is : (folder main : List ℕ)
    → main_file folder (Some main)
    ≡ and_then (first_served folder (map (λ end. main ++ end) main_ends)) (found_or (first_file folder index_files))
main_is folder main = files_are folder index_files (map (λ end. main ++ end) main_ends)
