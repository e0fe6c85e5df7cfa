-- Files make a tree where each is put into a folder that stands before it.
use Rattle.std.proofs.Common.{◌≡◌, ◌≢◌, refl, ap, sym, ◌∙◌}
use Rattle.std.specs.Prelude.{◌&&◌, ◌-◌, ℕ, Bool, true, false, cond, List, [], ◌∷◌, length, take, codes, bytes_eq, Option, Some, None, if◌then◌else◌}
use Rattle.std.specs.FinMap.{get, insert}
use Rattle.std.proofs.lemmas.Bool.{and_parts}
use Rattle.std.proofs.lemmas.Slice.Eq.{bytes_eq-Decides}
use Rattle.tree_spec.specs.declared.Entry.{Entry}
use Rattle.tree_spec.specs.declared.Entry.TheVariants.{Stored, Directory}
use Rattle.tree_spec.specs.LookAskings.{Sights}
use Rattle.tree_spec.specs.Paths.{joined, IsPath, IsParent}
use Rattle.tree_spec.specs.Trees.{Tree, IsTree, bare_tree}
use Rattle.tree_spec.proofs.Placings.{placed_tree, below_folder}
use Rattle.tree_spec.proofs.RootAlone.{root_tree}
use Rattle.url_spec.specs.PathTests.{parts, is_segment, is_path}
use Rattle.url_spec.proofs.PathDecisions.{segment_by_test, path_by_test}
use Rattle.import_map_spec.proofs.Entries.{same_key, get_inserted}
use Rattle.import_map_spec.proofs.examples.WrittenMaps.{looked, get_map_of}
use Rattle.import_map_spec.specs.WrittenMaps.{insert_all}
use Rattle.node_spec.specs.NodeExamples.{Files, folder}
use Rattle.generator_examples.specs.Sites.{tree_of}

-- ---- the tests

abbrev last : List (List ℕ) → List ℕ
last [] = []
last (name ∷ []) = name
last (name ∷ another ∷ more) = last (another ∷ more)

abbrev name_of : List ℕ → List ℕ
name_of path = last (parts path)

abbrev or_root : List ℕ → List ℕ
or_root path = if bytes_eq path [] then codes "/" else path

abbrev parent_of : List ℕ → List ℕ
parent_of path = or_root (take (length path - length (name_of path) - 1) path)

abbrev is_folder : Option Entry → Bool
is_folder None = false
is_folder (Some (Stored bytes)) = false
is_folder (Some Directory) = true

abbrev is_nothing : Option Entry → Bool
is_nothing None = true
is_nothing (Some entry) = false

abbrev is_below : List ℕ → List ℕ → Bool
is_below parent path = is_path path && is_path parent && is_segment (name_of path) && bytes_eq path (joined parent (name_of path))

abbrev is_new : Sights → List ℕ → Bool
is_new sights path = is_below (parent_of path) path && is_folder (sights (parent_of path)) && is_nothing (sights path)

abbrev with_file : Sights → List ℕ × Entry → Sights
with_file sights file path = cond (same_key path file.0) (Some file.1) (sights path)

abbrev pub grows : Sights → Files → Bool
grows sights [] = true
grows sights (file ∷ files) = is_new sights file.0 && grows (with_file sights file) files

abbrev pub from_root : Sights
from_root = looked (folder "/" ∷ [])

-- ---- what they show

a_folder : (found : Option Entry) → is_folder found ≡ true → found ≡ Some Directory
a_folder None e = absurd (cc)
a_folder (Some (Stored bytes)) e = absurd (cc)
a_folder (Some Directory) e = refl

no_folder : (found : Option Entry) → is_nothing found ≡ true → found ≢ Some Directory
no_folder None e same = cc
no_folder (Some entry) e same = cc

below : (parent path : List ℕ) → is_below parent path ≡ true → IsPath path × IsParent parent path
below parent path e =
    let third = and_parts _ (bytes_eq path (joined parent (name_of path))) e in
    let second = and_parts _ (is_segment (name_of path)) third.0 in
    let first = and_parts (is_path path) (is_path parent) second.0 in (
      path_by_test path first.0,
      record { name = name_of path; segment = segment_by_test (name_of path) second.1; is_path = path_by_test parent first.1; text = (bytes_eq-Decides _ _).0 third.1 },
    )

with_new : (tree : Tree) (sights : Sights) (path : List ℕ) (entry : Entry) → get tree ≡ sights → IsTree tree → is_new sights path ≡ true → IsTree (insert tree path entry)
with_new tree sights path entry same is e =
    let second = and_parts _ (is_nothing (sights path)) e in
    let first = and_parts (is_below (parent_of path) path) (is_folder (sights (parent_of path))) second.0 in
    let stands = below (parent_of path) path first.0 in
    let folder : get tree (parent_of path) ≡ Some Directory = ap (λ (f : Sights). f (parent_of path)) same ∙ a_folder _ first.1 in
    let places = (below_folder tree (parent_of path) path entry (insert tree path entry) is stands.1 folder).1 refl in
    placed_tree tree path entry (insert tree path entry) is stands.0 (λ found. no_folder _ second.1 (ap (λ (f : Sights). f path) (sym same) ∙ found)) places

with_all : (files : Files) (tree : Tree) (sights : Sights) → get tree ≡ sights → IsTree tree → grows sights files ≡ true → IsTree (insert_all tree files)
with_all [] tree sights same is e = is
with_all (file ∷ files) tree sights same is e =
    let both = and_parts (is_new sights file.0) (grows (with_file sights file) files) e in
    with_all files (insert tree file.0 file.1) (with_file sights file)
    (λ i path. (get_inserted tree file.0 file.1 path ∙ ap (λ (f : Sights). with_file f file path) same) i)
    (with_new tree sights file.0 file.1 same is both.0) both.1

pub grown : (files : Files) → grows from_root files ≡ true → IsTree (tree_of (folder "/" ∷ files))
grown files e = with_all files bare_tree from_root (get_map_of (folder "/" ∷ [])) (root_tree bare_tree refl) e
