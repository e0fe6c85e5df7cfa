-- The asking of a relative specifier comes to Node's answer, and so each relative specifier has one.
use Rattle.std.proofs.Common.{◌≡◌, ℕ, Bool, true, false, List, Option, Some, None, refl, sym, ap, ◌∙◌, subst}
use Rattle.std.specs.Prelude.{◌&&◌, IsUtf8}
use Rattle.std.specs.FinMap.{get}
use Rattle.std.proofs.lemmas.Bool.{cond-true, cond-false, true≢false}
use Rattle.asking_spec.specs.Askings.{answered, outcome}
use Rattle.tree_spec.specs.declared.Entry.{Entry}
use Rattle.tree_spec.specs.declared.Entry.TheVariants.{Stored, Directory}
use Rattle.tree_spec.specs.Trees.{Tree}
use Rattle.url_spec.specs.FileUrls.{names_host, url_path, escapes_separator, spelled_path, NamesPath}
use Rattle.url_spec.specs.Specifiers.{is_relative}
use Rattle.url_spec.specs.Suffixes.{suffix_of}
use Rattle.node_spec.specs.declared.Cause.TheVariants.{InvalidSpecifier, NotFound}
use Rattle.node_spec.specs.Resolution.{Resolved, Refused, is_folder_path, joined_url, Judges, Joins, ResolvesRelative}
use Rattle.node_spec.specs.Resolution.Judges.{separator, folder, nameless, absent, no_folder, file}
use Rattle.node_spec.specs.Resolution.Joins.{no_url, other_host, joined}
use Rattle.node_spec.specs.Resolution.ResolvesRelative.{relative}
use Rattle.node_spec.specs.Laws.{SomeAnswer}
use Rattle.node_spec.specs.RelativeResolution.{named_path, entry_judged, judged_at, url_judged, joined_judged, relative_resolution}
use Rattle.url_spec.specs.PathTests.{is_path}
use Rattle.url_spec.proofs.PathDecisions.{path_by_test, test_by_path}
use Rattle.tree_spec.specs.Paths.{IsPath}
use Rattle.std.specs.Str.{is_utf8}
use Rattle.std.proofs.lemmas.Str.{IsUtf8-from_is_utf8, is_utf8-from_IsUtf8}
use Rattle.std.proofs.lemmas.Bool.{and_parts}

-- a path that is named passes the test
pub names_pass : (text path : List ℕ) → NamesPath text path → (is_utf8 (spelled_path text) && is_path (spelled_path text)) ≡ true
names_pass text path names =
    let utf8 : is_utf8 (spelled_path text) ≡ true = is_utf8-from_IsUtf8 (spelled_path text) (subst IsUtf8 names.spelled names.utf8) in
    let path : is_path (spelled_path text) ≡ true = test_by_path (spelled_path text) (subst IsPath names.spelled names.is_path) in
    ap (λ b. b && is_path (spelled_path text)) utf8 ∙ path

module _ (tree : Tree) where
  by_entry : (url path : List ℕ) → NamesPath (url_path url) path → (found : Option Entry) → get tree path ≡ found → (slash : Bool) → is_folder_path (url_path url) ≡ slash → Judges tree url (entry_judged url path found)
  by_entry url path names None e slash s = absent path names e
  by_entry url path names (Some Directory) e slash s = folder path names e
  by_entry url path names (Some (Stored bytes)) e true s = subst (Judges tree url) (sym (cond-true _ (Refused NotFound) (Resolved path (suffix_of url)) s)) (no_folder path bytes names e s)
  by_entry url path names (Some (Stored bytes)) e false s = subst (Judges tree url) (sym (cond-false _ (Refused NotFound) (Resolved path (suffix_of url)) s)) (file path bytes names e s)

  by_utf8 : (url : List ℕ) → escapes_separator (url_path url) ≡ false → (test : Bool) → (is_utf8 (spelled_path (url_path url)) && is_path (spelled_path (url_path url))) ≡ test → Judges tree url (outcome (get tree) (judged_at url (named_path url)))
  by_utf8 url e true t =
      let path : List ℕ = spelled_path (url_path url) in
      let parts = and_parts _ _ t in
      let names : NamesPath (url_path url) path = record { no_separator = e; spelled = refl; utf8 = IsUtf8-from_is_utf8 path parts.0; is_path = path_by_test path parts.1 } in
      subst (λ o. Judges tree url (outcome (get tree) (judged_at url o))) (sym (cond-true _ (Some path) None t)) (by_entry url path names (get tree path) refl (is_folder_path (url_path url)) refl)
  by_utf8 url e false t =
      let path : List ℕ = spelled_path (url_path url) in
      let none : (other : List ℕ) → NamesPath (url_path url) other → ⊥ = λ other names. true≢false (sym (names_pass (url_path url) other names) ∙ t) in
      subst (λ o. Judges tree url (outcome (get tree) (judged_at url o))) (sym (cond-false _ (Some path) None t)) (nameless e none)

  by_separator : (url : List ℕ) (escaped : Bool) → escapes_separator (url_path url) ≡ escaped → Judges tree url (outcome (get tree) (url_judged url))
  by_separator url true e = subst (λ a. Judges tree url (outcome (get tree) a)) (sym (cond-true _ (answered (Refused InvalidSpecifier)) (judged_at url (named_path url)) e)) (separator e)
  by_separator url false e = subst (λ a. Judges tree url (outcome (get tree) a)) (sym (cond-false _ (answered (Refused InvalidSpecifier)) (judged_at url (named_path url)) e)) (by_utf8 url e (is_utf8 (spelled_path (url_path url)) && is_path (spelled_path (url_path url))) refl)

  by_host : (parent specifier url : List ℕ) → joined_url parent specifier ≡ Some url → (host : Bool) → names_host url ≡ host → Joins tree parent specifier (outcome (get tree) (joined_judged (Some url)))
  by_host parent specifier url e true h = subst (λ a. Joins tree parent specifier (outcome (get tree) a)) (sym (cond-true _ (answered (Refused InvalidSpecifier)) (url_judged url) h)) (other_host url e h)
  by_host parent specifier url e false h =
      subst (λ a. Joins tree parent specifier (outcome (get tree) a)) (sym (cond-false _ (answered (Refused InvalidSpecifier)) (url_judged url) h))
      (joined url (outcome (get tree) (url_judged url)) e h (by_separator url (escapes_separator (url_path url)) refl))

  by_url : (parent specifier : List ℕ) (url : Option (List ℕ)) → joined_url parent specifier ≡ url → Joins tree parent specifier (outcome (get tree) (joined_judged url))
  by_url parent specifier None e = no_url e
  by_url parent specifier (Some url) e = by_host parent specifier url e (names_host url) refl

pub finds_relative : (tree : Tree) (parent specifier : List ℕ) → is_relative specifier ≡ true → ResolvesRelative tree parent specifier (outcome (get tree) (relative_resolution parent specifier))
finds_relative tree parent specifier r = relative (outcome (get tree) (relative_resolution parent specifier)) r (by_url tree parent specifier (joined_url parent specifier) refl)

pub some_answer : SomeAnswer
some_answer tree parent specifier r =
    (outcome (get tree) (relative_resolution parent specifier), finds_relative tree parent specifier r)
