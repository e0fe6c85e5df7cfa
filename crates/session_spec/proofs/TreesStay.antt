-- An edit of a tree leaves a tree.
use Rattle.std.proofs.Common.{◌≡◌, ◌∷◌, [], ◌++◌, ℕ, List, length, Bool, true, false, Option, Some, None, Result, Ok, Err, refl, sym, ap, ◌∙◌, subst}
use Rattle.std.proofs.lemmas.List.Elements.{All-head, All-tail}
use Rattle.std.proofs.lemmas.Map.Text.{is_eq-slice_cmp}
use Rattle.std.proofs.lemmas.Slice.Eq.{bytes_eq-Decides}
use Rattle.std.specs.Bool.{Decides}
use Rattle.std.specs.Cmp.Lexicographic.{nat_list_cmp_total}
use Rattle.std.specs.FinMap.{get, remove, get-remove}
use Rattle.std.specs.List.{list_any}
use Rattle.std.specs.Prelude.{codes, bytes_eq, nat_lt, cond, not, if◌then◌else◌}
use Rattle.config_spec.specs.Projects.{without}
use Rattle.tree_spec.proofs.Placings.{placed_tree}
use Rattle.tree_spec.specs.Limits.{limit_number}
use Rattle.tree_spec.specs.Paths.{IsPath}
use Rattle.tree_spec.specs.Trees.{Tree, IsTree}
use Rattle.tree_spec.specs.declared.Entry.{Entry}
use Rattle.tree_spec.specs.declared.Entry.TheVariants.{Stored, Directory}
use Rattle.tree_spec.specs.declared.LimitName.TheVariants.{Entries}
use Rattle.session_spec.specs.declared.Change.{Change}
use Rattle.session_spec.specs.declared.Change.TheVariants.{Link, Unlink, Put, Drop}
use Rattle.session_spec.specs.declared.EditFault.{EditFault}
use Rattle.session_spec.specs.declared.EditFault.TheVariants.{NotLinked, TooManyEntries, BadEdit}
use Rattle.session_spec.specs.Edits.{Draft, is_folder, is_file, can_put, put_file, changed, edited, then_edited}
use Rattle.session_spec.specs.Laws.{NamesPath, EditsKeepTree}
use Rattle.session_spec.proofs.PutFiles.{both, put_places}

same_draft : (some other : Draft) → ◌≡◌ {A = Result Draft EditFault} (Ok some) (Ok other) → some ≡ other
same_draft some other e = cc

by_same : (some other : Draft) → IsTree some.tree → ◌≡◌ {A = Result Draft EditFault} (Ok some) (Ok other) → IsTree other.tree
by_same some other is e = subst (λ (draft : Draft). IsTree draft.tree) (same_draft some other e) is

no_draft : (fault : EditFault) (other : Draft) → ◌≡◌ {A = Result Draft EditFault} (Err fault) (Ok other) → ⊥
no_draft fault other e = absurd (cc)

link_keeps : (known few : Bool) (draft after : Draft) (entries : List (List ℕ)) → IsTree draft.tree
    → ◌≡◌ {A = Result Draft EditFault} (if known then Ok draft else if few then Ok (record { tree = draft.tree; entries = entries }) else Err TooManyEntries) (Ok after) → IsTree after.tree
link_keeps true few draft after entries is e = by_same draft after is e
link_keeps false true draft after entries is e = by_same (record { tree = draft.tree; entries = entries }) after is e
link_keeps false false draft after entries is e = absurd (no_draft TooManyEntries after e)

test_keeps : (test : Bool) (next after : Draft) (fault : EditFault) → (test ≡ true → IsTree next.tree)
    → ◌≡◌ {A = Result Draft EditFault} (if test then Ok next else Err fault) (Ok after) → IsTree after.tree
test_keeps true next after fault is e = by_same next after (is refl) e
test_keeps false next after fault is e = absurd (no_draft fault after e)

-- ---- a file is dropped

module _ (tree : Tree) (path : List ℕ) where
  get_removed : (other : List ℕ) → get (remove tree path) other ≡ cond (bytes_eq other path) None (get tree other)
  get_removed other = get-remove nat_list_cmp_total tree path other ∙ ap (λ b. cond b None (get tree other)) (is_eq-slice_cmp other path)

  was_by : (same : Bool) (seen : Option Entry) (entry : Entry) → cond same None seen ≡ Some entry → seen ≡ Some entry
  was_by true seen entry e = absurd (cc)
  was_by false seen entry e = e

  was : (other : List ℕ) (entry : Entry) → get (remove tree path) other ≡ Some entry → get tree other ≡ Some entry
  was other entry e = was_by (bytes_eq other path) (get tree other) entry (sym (get_removed other) ∙ e)

  not_folder : (seen : Option Entry) → is_file seen ≡ true → seen ≡ Some Directory → ⊥
  not_folder None e f = absurd (cc)
  not_folder (Some Directory) e f = absurd (cc)
  not_folder (Some (Stored bytes)) e f = absurd (cc)

  folder_by : (same : Bool) (folder : List ℕ) → Decides same (folder ≡ path) → is_file (get tree path) ≡ true → get tree folder ≡ Some Directory → cond same None (get tree folder) ≡ Some Directory
  folder_by true folder d file is = absurd (not_folder (get tree path) file (ap (get tree) (sym (d.0 refl)) ∙ is))
  folder_by false folder d file is = is

  folder_stays : (folder : List ℕ) → is_file (get tree path) ≡ true → get tree folder ≡ Some Directory → get (remove tree path) folder ≡ Some Directory
  folder_stays folder file is = get_removed folder ∙ folder_by (bytes_eq folder path) folder (bytes_eq-Decides folder path) file is

  drop_keeps : IsTree tree → is_file (get tree path) ≡ true → IsTree (remove tree path)
  drop_keeps t file = record {
    paths = λ other entry e. t.paths other entry (was other entry e);
    root = folder_stays (codes "/") file t.root;
    parents = λ parent other entry e p. folder_stays parent file (t.parents parent other entry (was other entry e) p);
  }

-- ---- a file is put

put_keeps : (tree : Tree) (path bytes : List ℕ) → IsTree tree → IsPath path → can_put (get tree) path ≡ true → IsTree (put_file tree path bytes)
put_keeps tree path bytes t is can =
    let free : not (is_folder (get tree path)) ≡ true = (both (not (is_folder (get tree path))) _ can).0 in
    placed_tree tree path (Stored bytes) (put_file tree path bytes) t is
    (λ folder. let wrong : not (is_folder (get tree path)) ≡ false = ap (λ (seen : Option Entry). not (is_folder seen)) folder in absurd (cc))
    (put_places tree path bytes is can)

change_keeps : (draft after : Draft) (change : Change) → NamesPath change → IsTree draft.tree → changed draft change ≡ Ok after → IsTree after.tree
change_keeps draft after (Link entry) names is e =
    link_keeps (list_any (bytes_eq entry) draft.entries) (nat_lt (length draft.entries) (limit_number Entries)) draft after (draft.entries ++ entry ∷ []) is e
change_keeps draft after (Unlink entry) names is e =
    test_keeps (list_any (bytes_eq entry) draft.entries) (record { tree = draft.tree; entries = without entry draft.entries }) after (NotLinked entry) (λ known. is) e
change_keeps draft after (Put path bytes) names is e =
    test_keeps (can_put (get draft.tree) path) (record { tree = put_file draft.tree path bytes; entries = draft.entries }) after (BadEdit path)
    (λ can. put_keeps draft.tree path bytes is names can) e
change_keeps draft after (Drop path) names is e =
    test_keeps (is_file (get draft.tree path)) (record { tree = remove draft.tree path; entries = draft.entries }) after (BadEdit path)
    (λ file. drop_keeps draft.tree path is file) e

on_made : (made : Result Draft EditFault) (after : Draft) (edit : List Change) → ((middle : Draft) → made ≡ Ok middle → edited middle edit ≡ Ok after → IsTree after.tree)
    → then_edited made (λ draft. edited draft edit) ≡ Ok after → IsTree after.tree
on_made (Ok middle) after edit keeps e = keeps middle refl e
on_made (Err fault) after edit keeps e = absurd (no_draft fault after e)

pub edits_keep_tree : EditsKeepTree
edits_keep_tree draft after [] names is e = by_same draft after is e
edits_keep_tree draft after (change ∷ edit) names is e =
    on_made (changed draft change) after edit
    (λ middle made more. edits_keep_tree middle after edit (All-tail NamesPath change edit names) (change_keeps draft middle change (All-head NamesPath change edit names) is made) more) e
