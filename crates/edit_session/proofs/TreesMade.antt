-- A file is put or dropped, folder by folder.
use Rattle.std.proofs.Common.{◌≡◌, ◌∷◌, [], ℕ, Bool, true, false, List, Option, Some, None, Result, Ok, Err, refl, sym, ap, ◌∙◌, subst}
use Rattle.std.specs.FinMap.{get, insert, remove}
use Rattle.std.specs.List.{list_all}
use Rattle.std.specs.Prelude.{◌&&◌, not, drop, bytes_eq, cond, codes, Contains, is_some, if◌then◌else◌}
use Rattle.std.proofs.lemmas.List.Elements.{All-cons, All-nil, Contains-push, Contains-append_left, Contains-append_right}
use Rattle.std.proofs.lemmas.Slice.Eq.{bytes_eq-Decides}
use Rattle.std.specs.Bool.{Decides}
use Rattle.tree_spec.proofs.FolderLemmas.{folders_climb, folders_from_parent}
use Rattle.tree_spec.proofs.Insertion.{get_inserted, same_tree}
use Rattle.tree_spec.specs.FoldersAbove.{folders_from, Climbs, at_root, from_parent}
use Rattle.tree_spec.specs.LookAskings.{Sights}
use Rattle.tree_spec.specs.Paths.{IsPath, IsParent}
use Rattle.tree_spec.specs.States.{FolderState}
use Rattle.tree_spec.specs.Trees.{Tree, IsTree}
use Rattle.tree_spec.specs.declared.Entry.{Entry}
use Rattle.tree_spec.specs.declared.Entry.TheVariants.{Stored, Directory}
use Rattle.tree_spec.specs.declared.Look.TheVariants as seen_look
use Rattle.tree_spec.specs.declared.LookFault.{LookFault}
use Rattle.tree_spec.specs.declared.LookFault.TheVariants as look
use Rattle.package_lookup.specs.declared.known.Known.{Known}
use Rattle.package_lookup.specs.declared.over.Over.{Over}
use Rattle.package_lookup.specs.LaidTrees.{IsLaid}
use Rattle.package_lookup.specs.Looked.{Puts}
use Rattle.package_lookup.proofs.Laying.{laid_alike, setting_lays, dropping_lays}
use Rattle.session_spec.specs.Edits.{is_folder, is_file, above, can_put, with_folders, put_file, edited, then_edited}
use Rattle.session_spec.specs.Laws.{NamesPath}
use Rattle.session_spec.specs.declared.Change.TheVariants.{Put, Drop}
use Rattle.session_spec.specs.declared.EditFault.TheVariants.{BadEdit}
use Rattle.session_spec.proofs.TreesStay.{edits_keep_tree}
use Rattle.session_spec.specs.EditLooks.{climbed}
use Rattle.edit_session.specs.LooksOn.{LooksOn, IsSeenBy}
use Rattle.edit_session.specs.Making.{MakesTree, as_draft}
use Rattle.edit_session.specs.Standings.{Stands, standing_at}
use Rattle.edit_session.specs.declared.standing.Standing.{Standing}
use Rattle.edit_session.specs.declared.standing.Standing.TheVariants.{Nothing, Folder, File}
use Rattle.edit_session.proofs.LookedOn.{looks_on_then, looks_on_as}

-- ---- what stands at a path

none_there : (there : Option Entry) → Nothing ≡ standing_at there → there ≡ None
none_there None e = refl
none_there (Some Directory) e = absurd (cc)
none_there (Some (Stored bytes)) e = absurd (cc)

folder_there : (there : Option Entry) → Folder ≡ standing_at there → there ≡ Some Directory
folder_there None e = absurd (cc)
folder_there (Some Directory) e = refl
folder_there (Some (Stored bytes)) e = absurd (cc)

file_there : (there : Option Entry) → File ≡ standing_at there → is_file there ≡ true
file_there None e = absurd (cc)
file_there (Some Directory) e = absurd (cc)
file_there (Some (Stored bytes)) e = refl

entry_there : (there : Option Entry) → is_file there ≡ true → (entry : Entry) × (there ≡ Some entry)
entry_there None e = absurd (cc)
entry_there (Some entry) e = (entry, refl)

-- ---- folders that stand

same_by : (same : Bool) (tree : Tree) (path other : List ℕ) (entry : Entry) → Decides same (other ≡ path)
    → get tree path ≡ Some entry → cond same (Some entry) (get tree other) ≡ get tree other
same_by true tree path other entry d is = sym (ap (get tree) (d.0 refl) ∙ is)
same_by false tree path other entry d is = refl

insert_same : (tree : Tree) (path : List ℕ) (entry : Entry) → get tree path ≡ Some entry → insert tree path entry ≡ tree
insert_same tree path entry is =
    same_tree (insert tree path entry) tree
    (λ other. get_inserted tree path entry other
    ∙ same_by (bytes_eq other path) tree path other entry (bytes_eq-Decides other path) is)

abbrev no_files : Tree → List (List ℕ) → Bool
no_files tree folders = list_all (λ folder. not (is_file (get tree folder))) folders

module _ (tree : Tree) (is_tree : IsTree tree) where
  no_files_above : (at : List ℕ) (folders : List (List ℕ)) → Climbs at folders → get tree at ≡ Some Directory
      → no_files tree folders ≡ true
  no_files_above _ _ (at_root at e) is = ap (λ (there : Option Entry). not (is_file there) && true) is
  no_files_above _ _ (from_parent parent at folders p climbs) is =
      let rest : no_files tree folders ≡ true =
      no_files_above parent folders climbs (is_tree.parents parent at Directory is p) in
      ap (λ (there : Option Entry). not (is_file there) && no_files tree folders) is ∙ rest

  same_folders : (at : List ℕ) (folders : List (List ℕ)) → Climbs at folders → get tree at ≡ Some Directory
      → with_folders tree folders ≡ tree
  same_folders _ _ (at_root at e) is = insert_same tree at Directory is
  same_folders _ _ (from_parent parent at folders p climbs) is =
      ap (λ t. insert t at Directory) (same_folders parent folders climbs (is_tree.parents parent at Directory is p))
      ∙ insert_same tree at Directory is

  -- what stands above a file
  above_file : (at : List ℕ) (folders : List (List ℕ)) → Climbs at folders → is_file (get tree at) ≡ true
      → (no_files tree (drop 1 folders) ≡ true) × (with_folders tree (drop 1 folders) ≡ tree)
  above_file _ _ (at_root at e) is = (let f : is_file (get tree at) ≡ false = ap is_file (ap (get tree) e ∙ is_tree.root) in absurd (cc))
  above_file _ _ (from_parent parent at folders p climbs) is =
      let found = entry_there (get tree at) is in
      let up = is_tree.parents parent at found.0 found.1 p in
      (no_files_above parent folders climbs up, same_folders parent folders climbs up)

-- ---- where it is looked

head_there : (path : List ℕ) (rest : List (List ℕ)) → Contains (path ∷ rest) path
head_there path rest = Contains-append_left (path ∷ []) rest path (Contains-push [] path)

tail_there : (path other : List ℕ) (rest : List (List ℕ)) → Contains rest other → Contains (path ∷ rest) other
tail_there path other rest there = Contains-append_right (path ∷ []) rest other there

climb_here : (sights : Sights) (path : List ℕ) (folders : List (List ℕ)) → Climbs path folders
    → Contains (climbed sights folders) path
climb_here sights _ _ (at_root path e) = head_there path (if is_some (sights path) then [] else [])
climb_here sights _ _ (from_parent parent path folders p climbs) =
    head_there path (if is_some (sights path) then [] else climbed sights folders)

climb_on : (sights : Sights) (path parent other : List ℕ) → IsParent parent path → sights path ≡ None
    → Contains (climbed sights (folders_from parent)) other → Contains (climbed sights (folders_from path)) other
climb_on sights path parent other p none there =
    subst (λ folders. Contains (climbed sights folders) other) (sym (folders_from_parent parent path p))
    (subst (λ (seen : Option Entry). Contains (path ∷ (if is_some seen then [] else climbed sights (folders_from parent))) other) (sym none)
    (tail_there path other (climbed sights (folders_from parent)) there))

-- ---- one look, and what it decides

abbrev stood_as : LookFault → Result Standing LookFault
stood_as fault = Err fault

abbrev made_as : LookFault → Result Bool LookFault
made_as fault = Err fault

abbrev stood_ok : Standing → Result Standing LookFault
stood_ok standing = Ok standing

abbrev made_ok : Bool → Result Bool LookFault
made_ok answer = Ok answer

same_fault : (one other : LookFault) → stood_as one ≡ stood_as other → made_as one ≡ made_as other
same_fault one other e = (let same : one ≡ other = cc in ap made_as same)

same_made : (one other : LookFault) → made_as one ≡ made_as other → stood_as one ≡ stood_as other
same_made one other e = (let same : one ≡ other = cc in ap stood_as same)

same_answer : (one other : Bool) → made_ok one ≡ made_ok other → one ≡ other
same_answer one other e = (let same : one ≡ other = cc in same)

module _ (Made : Tree → Tree → Over → Type 0) (allowed : Tree → Bool) (asks : Tree → List (List ℕ))
    (before after : FolderState) (known later : Known) (over left : Over) (path : List ℕ) where
  abbrev Asked : Tree → List ℕ → Type 0
  Asked tree other = (seen : Tree) → IsSeenBy tree known over seen → Contains (asks seen) other

  stood : (result : Result Standing LookFault) (failed unfinished : Type 0) → ((seen : Tree) → Contains (asks seen) path)
      → (failed → result ≡ Err look.Failed) → (result ≡ Err look.Failed → failed)
      → (result ≡ Err look.Memory → unfinished) → Stands before known over path result after later left
      → LooksOn before known after later failed unfinished Asked
  stood result failed unfinished head back on weaker stands =
      looks_on_as before after known later (result ≡ Err look.Failed) (result ≡ Err look.Memory) failed unfinished
      (λ tree other. other ≡ path) Asked back on weaker
      (λ tree other e same seen is. subst (λ p. Contains (asks seen) p) (sym same) (head seen)) stands.looks

  pub made_fails : (fault : LookFault) → ((seen : Tree) → Contains (asks seen) path)
      → Stands before known over path (Err fault) after later left
      → MakesTree Made allowed asks before known over (Err fault) after later left
  made_fails fault head stands = record {
    looks = stood (Err fault) (made_as fault ≡ Err look.Failed) (made_as fault ≡ Err look.Memory) head
        (same_made fault look.Failed) (same_fault fault look.Failed) (same_fault fault look.Memory) stands;
    may = λ tree seen answer e is same. absurd (cc);
    made = λ tree seen e is same. absurd (cc);
  }

  -- there is no memory for what comes behind the look
  pub made_lacks : (standing : Standing) (last : Over) → ((seen : Tree) → Contains (asks seen) path)
      → Stands before known over path (Ok standing) after later left
      → MakesTree Made allowed asks before known over (Err look.Memory) after later last
  made_lacks standing last head stands = record {
    looks = stood (Ok standing) (made_as look.Memory ≡ Err look.Failed) (made_as look.Memory ≡ Err look.Memory) head
        (λ e. absurd (cc)) (λ e. absurd (cc)) (λ e. absurd (cc)) stands;
    may = λ tree seen answer e is same. absurd (cc);
    made = λ tree seen e is same. absurd (cc);
  }

  pub made_now : (standing : Standing) (answer : Bool) (last : Over) → ((seen : Tree) → Contains (asks seen) path)
      → Stands before known over path (Ok standing) after later left
      → ((seen : Tree) → IsTree seen → standing ≡ standing_at (get seen path) → allowed seen ≡ answer)
      → ((tree seen : Tree) → IsTree seen → IsLaid tree left seen → standing ≡ standing_at (get seen path) → answer ≡ true
      → Made tree seen last)
      → MakesTree Made allowed asks before known over (Ok answer) after later last
  made_now standing answer last head stands may made = record {
    looks = stood (Ok standing) (made_ok answer ≡ Err look.Failed)
        (made_ok answer ≡ Err look.Memory) head (λ e. absurd (cc)) (λ e. absurd (cc))
        (λ e. absurd (cc)) stands;
    may = λ tree seen other e is same.
        may seen is.is_tree (stands.seen tree seen standing e is.stands is.laid refl) ∙ same_answer answer other same;
    made = λ tree seen e is same.
        made tree seen is.is_tree (laid_alike tree seen over left stands.same_over is.laid)
        (stands.seen tree seen standing e is.stands is.laid refl) (same_answer answer true same);
  }

-- ---- a folder above

module _ (before middle : FolderState) (known mid : Known) (over between : Over) (path parent : List ℕ)
    (stands : Stands before known over path (Ok Nothing) middle mid between) (p : IsParent parent path) where
  nothing_there : (tree seen : Tree) → before.holds ≡ Some tree → IsSeenBy tree known over seen → get seen path ≡ None
  nothing_there tree seen e is = none_there (get seen path) (stands.seen tree seen Nothing e is.stands is.laid refl)

  seen_on : (tree seen : Tree) → before.holds ≡ Some tree → IsSeenBy tree known over seen → IsSeenBy tree mid between seen
  seen_on tree seen e is = record {
    stands = stands.looks.behind tree e is.stands;
    laid = laid_alike tree seen over between stands.same_over is.laid;
    is_tree = is.is_tree;
  }

  abbrev AsksAbove : Tree → List (List ℕ)
  AsksAbove seen = climbed (get seen) (folders_from parent)

  abbrev AsksFrom : Tree → List (List ℕ)
  AsksFrom seen = climbed (get seen) (folders_from path)

  module _ (MadeAbove Made : Tree → Tree → Over → Type 0) (allowed_above allowed : Tree → Bool) (after : FolderState)
      (later : Known) (left last : Over) where
    rises : (failed unfinished : Type 0)
        → LooksOn middle mid after later failed unfinished
        (λ tree other. (seen : Tree) → IsSeenBy tree mid between seen → Contains (AsksAbove seen) other)
        → LooksOn before known after later failed unfinished
        (λ tree other. (seen : Tree) → IsSeenBy tree known over seen → Contains (AsksFrom seen) other)
    rises failed unfinished looks =
        looks_on_then before middle after known mid later
        (stood_ok Nothing ≡ Err look.Failed)
        (stood_ok Nothing ≡ Err look.Memory) failed unfinished
        (λ tree other. other ≡ path)
        (λ tree other. (seen : Tree) → IsSeenBy tree mid between seen → Contains (AsksAbove seen) other)
        (λ tree other. (seen : Tree) → IsSeenBy tree known over seen → Contains (AsksFrom seen) other)
        (λ e. absurd (cc)) (λ e. absurd (cc))
        (λ tree other e same seen is.
        subst (λ x. Contains (AsksFrom seen) x) (sym same)
        (climb_here (get seen) path (folders_from path) (folders_climb path stands.is_path)))
        (λ tree other e there seen is.
        climb_on (get seen) path parent other p (nothing_there tree seen e is) (there seen (seen_on tree seen e is)))
        stands.looks looks

    -- the answer of the folder above is the answer
    pub made_above : (result : Result Bool LookFault)
        → MakesTree MadeAbove allowed_above AsksAbove middle mid between result after later left
        → ((seen : Tree) → get seen path ≡ None → allowed seen ≡ allowed_above seen)
        → ((tree seen : Tree) → IsTree seen → result ≡ Ok true → MadeAbove tree seen left → Made tree seen last)
        → MakesTree Made allowed AsksFrom before known over result after later last
    made_above result makes same made = record {
      looks = rises (result ≡ Err look.Failed) (result ≡ Err look.Memory) makes.looks;
      may = λ tree seen answer e is ok.
          same seen (nothing_there tree seen e is)
          ∙ makes.may tree seen answer (stands.looks.looks.tree ∙ e) (seen_on tree seen e is) ok;
      made = λ tree seen e is ok.
          made tree seen is.is_tree ok (makes.made tree seen (stands.looks.looks.tree ∙ e) (seen_on tree seen e is) ok);
    }

    -- there is no memory behind it
    pub lacks_above : MakesTree MadeAbove allowed_above AsksAbove middle mid between (Ok true) after later left
        → MakesTree Made allowed AsksFrom before known over (Err look.Memory) after later last
    lacks_above makes = record {
      looks = rises (made_as look.Memory ≡ Err look.Failed) (made_as look.Memory ≡ Err look.Memory)
          (looks_on_as middle after mid later (made_ok true ≡ Err look.Failed)
          (made_ok true ≡ Err look.Memory)
          (made_as look.Memory ≡ Err look.Failed) (made_as look.Memory ≡ Err look.Memory)
          (λ tree other. (seen : Tree) → IsSeenBy tree mid between seen → Contains (AsksAbove seen) other)
          (λ tree other. (seen : Tree) → IsSeenBy tree mid between seen → Contains (AsksAbove seen) other)
          (λ e. absurd (cc)) (λ e. absurd (cc)) (λ e. absurd (cc)) (λ tree other e is. is) makes.looks);
      may = λ tree seen answer e is same. absurd (cc);
      made = λ tree seen e is same. absurd (cc);
    }

-- ---- what comes behind

module _ (One Other : Tree → Tree → Over → Type 0) (allowed : Tree → Bool) (asks : Tree → List (List ℕ))
    (before after : FolderState) (known later : Known) (over left last : Over) where
  pub made_as_well : (result : Result Bool LookFault)
      → ((tree seen : Tree) → IsTree seen → (result ≡ Ok true → allowed seen ≡ true) → result ≡ Ok true → One tree seen left → Other tree seen last)
      → MakesTree One allowed asks before known over result after later left
      → MakesTree Other allowed asks before known over result after later last
  made_as_well result goes makes = record {
    looks = makes.looks;
    may = makes.may;
    made = λ tree seen e is ok. goes tree seen is.is_tree (makes.may tree seen true e is) ok (makes.made tree seen e is ok);
  }

  pub lacks_behind : MakesTree One allowed asks before known over (Ok true) after later left
      → MakesTree Other allowed asks before known over (Err look.Memory) after later last
  lacks_behind makes = record {
    looks = looks_on_as before after known later (made_ok true ≡ Err look.Failed)
        (made_ok true ≡ Err look.Memory)
        (made_as look.Memory ≡ Err look.Failed) (made_as look.Memory ≡ Err look.Memory)
        (λ tree other. (seen : Tree) → IsSeenBy tree known over seen → Contains (asks seen) other)
        (λ tree other. (seen : Tree) → IsSeenBy tree known over seen → Contains (asks seen) other)
        (λ e. absurd (cc)) (λ e. absurd (cc)) (λ e. absurd (cc)) (λ tree other e is. is) makes.looks;
    may = λ tree seen answer e is same. absurd (cc);
    made = λ tree seen e is same. absurd (cc);
  }

-- ---- folders

both_true : (a b : Bool) → a ≡ true → b ≡ true → (a && b) ≡ true
both_true a b e f = ap (λ x. x && b) e ∙ f

not_folder : (there : Option Entry) → is_file there ≡ true → not (is_folder there) ≡ true
not_folder None e = absurd (cc)
not_folder (Some Directory) e = absurd (cc)
not_folder (Some (Stored bytes)) e = refl

file_bars : (seen : Tree) (at : List ℕ) (folders : List (List ℕ)) → Climbs at folders → is_file (get seen at) ≡ true
    → no_files seen folders ≡ false
file_bars seen _ _ (at_root at e) is = ap (λ b. not b && true) is
file_bars seen _ _ (from_parent parent at folders p climbs) is = ap (λ b. not b && no_files seen folders) is

root_stands : (seen : Tree) (at : List ℕ) → IsTree seen → at ≡ codes "/" → Nothing ≡ standing_at (get seen at) → ⊥
root_stands seen at t e is =
    (let none : get seen at ≡ None = none_there (get seen at) is in
    let some : get seen at ≡ Some Directory = ap (get seen) e ∙ t.root in
    let wrong = sym none ∙ some in absurd (cc))

abbrev FoldersMade : List ℕ → Tree → Tree → Over → Type 0
FoldersMade at tree seen left = IsLaid tree left (with_folders seen (folders_from at))

abbrev no_files_from : List ℕ → Tree → Bool
no_files_from at seen = no_files seen (folders_from at)

abbrev climbs_from : List ℕ → Tree → List (List ℕ)
climbs_from at seen = climbed (get seen) (folders_from at)

climbs_there : (at : List ℕ) → IsPath at → (seen : Tree) → Contains (climbs_from at seen) at
climbs_there at is seen = climb_here (get seen) at (folders_from at) (folders_climb at is)

above_with : (seen : Tree) (parent at : List ℕ) → IsParent parent at → get seen at ≡ None
    → no_files_from at seen ≡ no_files_from parent seen
above_with seen parent at p none =
    ap (no_files seen) (folders_from_parent parent at p)
    ∙ ap (λ (there : Option Entry). not (is_file there) && no_files seen (folders_from parent)) none

module _ (before after : FolderState) (known later : Known) (over left : Over) (at : List ℕ) where
  abbrev MakesFolders : Result Bool LookFault → Over → Type 0
  MakesFolders result last = MakesTree (FoldersMade at) (no_files_from at) (climbs_from at) before known over result after later last

  pub folders_fail : (fault : LookFault) → Stands before known over at (Err fault) after later left
      → MakesFolders (Err fault) left
  folders_fail fault stands =
      made_fails (FoldersMade at) (no_files_from at) (climbs_from at) before after known later over left at fault
      (climbs_there at stands.is_path) stands

  pub folders_stand : Stands before known over at (Ok Folder) after later left → MakesFolders (Ok true) left
  folders_stand stands =
      made_now (FoldersMade at) (no_files_from at) (climbs_from at) before after known later over left at Folder true left
      (climbs_there at stands.is_path) stands
      (λ seen t e. no_files_above seen t at (folders_from at) (folders_climb at stands.is_path) (folder_there (get seen at) e))
      (λ tree seen t laid e same.
      subst (IsLaid tree left)
      (sym (same_folders seen t at (folders_from at) (folders_climb at stands.is_path) (folder_there (get seen at) e))) laid)

  pub folders_barred : Stands before known over at (Ok File) after later left → MakesFolders (Ok false) left
  folders_barred stands =
      made_now (FoldersMade at) (no_files_from at) (climbs_from at) before after known later over left at File false left
      (climbs_there at stands.is_path) stands
      (λ seen t e. file_bars seen at (folders_from at) (folders_climb at stands.is_path) (file_there (get seen at) e))
      (λ tree seen t laid e same. absurd (cc))

  pub folders_root : at ≡ codes "/" → Stands before known over at (Ok Nothing) after later left → MakesFolders (Ok true) left
  folders_root root stands =
      made_now (FoldersMade at) (no_files_from at) (climbs_from at) before after known later over left at Nothing true left
      (climbs_there at stands.is_path) stands (λ seen t e. absurd (root_stands seen at t root e))
      (λ tree seen t laid e same. absurd (root_stands seen at t root e))

  pub folders_lack : Stands before known over at (Ok Nothing) after later left → MakesFolders (Err look.Memory) left
  folders_lack stands =
      made_lacks (FoldersMade at) (no_files_from at) (climbs_from at) before after known later over left at Nothing left
      (climbs_there at stands.is_path) stands

module _ (before middle after : FolderState) (known mid later : Known) (over between left last : Over) (at parent : List ℕ)
    (stands : Stands before known over at (Ok Nothing) middle mid between) (p : IsParent parent at) where
  abbrev MakesParent : Result Bool LookFault → Type 0
  MakesParent result =
      MakesTree (FoldersMade parent) (no_files_from parent) (climbs_from parent) middle mid between result after later left

  abbrev parent_stops : LookFault → Result Bool LookFault
  parent_stops fault = Err fault

  pub above_fails : (fault : LookFault) → MakesParent (Err fault)
      → MakesTree (FoldersMade at) (no_files_from at) (climbs_from at) before known over (Err fault) after later left
  above_fails fault makes =
      made_above before middle known mid over between at parent stands p (FoldersMade parent) (FoldersMade at)
      (no_files_from parent) (no_files_from at) after later left left (parent_stops fault) makes
      (λ seen none. above_with seen parent at p none) (λ tree seen t ok laid. absurd (cc))

  pub above_barred : MakesParent (Ok false)
      → MakesTree (FoldersMade at) (no_files_from at) (climbs_from at) before known over (Ok false) after later left
  above_barred makes =
      made_above before middle known mid over between at parent stands p (FoldersMade parent) (FoldersMade at)
      (no_files_from parent) (no_files_from at) after later left left (Ok false) makes
      (λ seen none. above_with seen parent at p none) (λ tree seen t ok laid. absurd (cc))

  pub above_made : MakesParent (Ok true) → Puts left at seen_look.Folder last
      → MakesTree (FoldersMade at) (no_files_from at) (climbs_from at) before known over (Ok true) after later last
  above_made makes puts =
      made_above before middle known mid over between at parent stands p (FoldersMade parent) (FoldersMade at)
      (no_files_from parent) (no_files_from at) after later left last (Ok true) makes
      (λ seen none. above_with seen parent at p none)
      (λ tree seen t ok laid.
      subst (IsLaid tree last) (ap (with_folders seen) (sym (folders_from_parent parent at p)))
      (setting_lays tree (with_folders seen (folders_from parent)) left last at Directory laid puts))

  pub above_lacks : MakesParent (Ok true)
      → MakesTree (FoldersMade at) (no_files_from at) (climbs_from at) before known over (Err look.Memory) after later last
  above_lacks makes =
      lacks_above before middle known mid over between at parent stands p (FoldersMade parent) (FoldersMade at)
      (no_files_from parent) (no_files_from at) after later left last makes

-- ---- whether a file may stand there

abbrev CanMade : List ℕ → Tree → Tree → Over → Type 0
CanMade path tree seen left = IsLaid tree left (with_folders seen (above path)) × IsPath path

abbrev can_there : List ℕ → Tree → Bool
can_there path seen = can_put (get seen) path

module _ (before after : FolderState) (known later : Known) (over left : Over) (path : List ℕ) where
  abbrev MakesRoom : Result Bool LookFault → Over → Type 0
  MakesRoom result last = MakesTree (CanMade path) (can_there path) (climbs_from path) before known over result after later last

  pub room_fails : (fault : LookFault) → Stands before known over path (Err fault) after later left
      → MakesRoom (Err fault) left
  room_fails fault stands =
      made_fails (CanMade path) (can_there path) (climbs_from path) before after known later over left path fault
      (climbs_there path stands.is_path) stands

  pub room_taken : Stands before known over path (Ok Folder) after later left → MakesRoom (Ok false) left
  room_taken stands =
      made_now (CanMade path) (can_there path) (climbs_from path) before after known later over left path Folder false left
      (climbs_there path stands.is_path) stands
      (λ seen t e. ap (λ (there : Option Entry). not (is_folder there) && no_files seen (above path)) (folder_there (get seen path) e))
      (λ tree seen t laid e same. absurd (cc))

  pub room_there : Stands before known over path (Ok File) after later left → MakesRoom (Ok true) left
  room_there stands =
      made_now (CanMade path) (can_there path) (climbs_from path) before after known later over left path File true left
      (climbs_there path stands.is_path) stands
      (λ seen t e.
      both_true (not (is_folder (get seen path))) (no_files seen (above path))
      (not_folder (get seen path) (file_there (get seen path) e))
      (above_file seen t path (folders_from path) (folders_climb path stands.is_path) (file_there (get seen path) e)).0)
      (λ tree seen t laid e same. (
        subst (IsLaid tree left)
            (sym (above_file seen t path (folders_from path) (folders_climb path stands.is_path) (file_there (get seen path) e)).1) laid,
        stands.is_path,
      ))

  pub room_at_root : path ≡ codes "/" → Stands before known over path (Ok Nothing) after later left → MakesRoom (Ok true) left
  room_at_root root stands =
      made_now (CanMade path) (can_there path) (climbs_from path) before after known later over left path Nothing true left
      (climbs_there path stands.is_path) stands (λ seen t e. absurd (root_stands seen path t root e))
      (λ tree seen t laid e same. absurd (root_stands seen path t root e))

  pub room_lacks : Stands before known over path (Ok Nothing) after later left → MakesRoom (Err look.Memory) left
  room_lacks stands =
      made_lacks (CanMade path) (can_there path) (climbs_from path) before after known later over left path Nothing left
      (climbs_there path stands.is_path) stands

  pub room_above : (middle : FolderState) (mid : Known) (between : Over) (parent : List ℕ) (result : Result Bool LookFault)
      → Stands before known over path (Ok Nothing) middle mid between → IsParent parent path
      → MakesTree (FoldersMade parent) (no_files_from parent) (climbs_from parent) middle mid between result after later left
      → MakesRoom result left
  room_above middle mid between parent result stands p makes =
      made_above before middle known mid over between path parent stands p (FoldersMade parent) (CanMade path)
      (no_files_from parent) (can_there path) after later left left result makes
      (λ seen none.
      ap (λ (there : Option Entry). not (is_folder there) && no_files seen (above path)) none
      ∙ ap (λ folders. no_files seen (drop 1 folders)) (folders_from_parent parent path p))
      (λ tree seen t ok laid. (
        subst (IsLaid tree left) (ap (λ folders. with_folders seen (drop 1 folders)) (sym (folders_from_parent parent path p))) laid,
        stands.is_path,
      ))

-- ---- a file is put

put_tree : (seen : Tree) (path bytes : List ℕ) → IsTree seen → IsPath path → can_put (get seen) path ≡ true
    → IsTree (put_file seen path bytes)
put_tree seen path bytes t is can =
    edits_keep_tree (as_draft seen []) (as_draft (put_file seen path bytes) []) (Put path bytes ∷ [])
    (All-cons NamesPath (Put path bytes) [] is (All-nil NamesPath)) t
    (ap
    (λ may. then_edited (if may then Ok (as_draft (put_file seen path bytes) []) else Err (BadEdit path))
    (λ after. edited after [])) can)

drop_tree : (seen : Tree) (path : List ℕ) → IsTree seen → IsPath path → is_file (get seen path) ≡ true
    → IsTree (remove seen path)
drop_tree seen path t is file =
    edits_keep_tree (as_draft seen []) (as_draft (remove seen path) []) (Drop path ∷ [])
    (All-cons NamesPath (Drop path) [] is (All-nil NamesPath)) t
    (ap
    (λ may. then_edited (if may then Ok (as_draft (remove seen path) []) else Err (BadEdit path))
    (λ after. edited after [])) file)

abbrev PutMade : List ℕ → List ℕ → Tree → Tree → Over → Type 0
PutMade path bytes tree seen left = IsLaid tree left (put_file seen path bytes) × IsTree (put_file seen path bytes)

module _ (before after : FolderState) (known later : Known) (over left last : Over) (path bytes : List ℕ) where
  abbrev Rooms : Result Bool LookFault → Type 0
  Rooms result = MakesTree (CanMade path) (can_there path) (climbs_from path) before known over result after later left

  abbrev PutsFile : Result Bool LookFault → Over → Type 0
  PutsFile result over_last =
      MakesTree (PutMade path bytes) (can_there path) (climbs_from path) before known over result after later over_last

  pub put_fails : (fault : LookFault) → Rooms (Err fault) → PutsFile (Err fault) left
  put_fails fault makes =
      made_as_well (CanMade path) (PutMade path bytes) (can_there path) (climbs_from path) before after known later over
      left left (Err fault) (λ tree seen t may ok made. absurd (cc)) makes

  pub put_barred : Rooms (Ok false) → PutsFile (Ok false) left
  put_barred makes =
      made_as_well (CanMade path) (PutMade path bytes) (can_there path) (climbs_from path) before after known later over
      left left (Ok false) (λ tree seen t may ok made. absurd (cc)) makes

  pub put_made : Rooms (Ok true) → Puts left path (seen_look.File bytes) last → PutsFile (Ok true) last
  put_made makes puts =
      made_as_well (CanMade path) (PutMade path bytes) (can_there path) (climbs_from path) before after known later over
      left last (Ok true)
      (λ tree seen t may ok made. (
        setting_lays tree (with_folders seen (above path)) left last path (Stored bytes) made.0 puts,
        put_tree seen path bytes t made.1 (may refl),
      )) makes

  pub put_lacks : Rooms (Ok true) → PutsFile (Err look.Memory) last
  put_lacks makes =
      lacks_behind (CanMade path) (PutMade path bytes) (can_there path) (climbs_from path) before after known later over
      left last makes

-- ---- a file is dropped

abbrev DropMade : List ℕ → Tree → Tree → Over → Type 0
DropMade path tree seen left = IsLaid tree left (remove seen path) × IsTree (remove seen path)

abbrev file_at : List ℕ → Tree → Bool
file_at path seen = is_file (get seen path)

abbrev only : List ℕ → Tree → List (List ℕ)
only path seen = path ∷ []

module _ (before after : FolderState) (known later : Known) (over left : Over) (path : List ℕ) where
  abbrev DropsFile : Result Bool LookFault → Over → Type 0
  DropsFile result last = MakesTree (DropMade path) (file_at path) (only path) before known over result after later last

  pub drop_fails : (fault : LookFault) → Stands before known over path (Err fault) after later left
      → DropsFile (Err fault) left
  drop_fails fault stands =
      made_fails (DropMade path) (file_at path) (only path) before after known later over left path fault
      (λ seen. head_there path []) stands

  pub drop_none : Stands before known over path (Ok Nothing) after later left → DropsFile (Ok false) left
  drop_none stands =
      made_now (DropMade path) (file_at path) (only path) before after known later over left path Nothing false left
      (λ seen. head_there path []) stands (λ seen t e. ap is_file (none_there (get seen path) e))
      (λ tree seen t laid e same. absurd (cc))

  pub drop_folder : Stands before known over path (Ok Folder) after later left → DropsFile (Ok false) left
  drop_folder stands =
      made_now (DropMade path) (file_at path) (only path) before after known later over left path Folder false left
      (λ seen. head_there path []) stands (λ seen t e. ap is_file (folder_there (get seen path) e))
      (λ tree seen t laid e same. absurd (cc))

  pub drop_made : (last : Over) → Stands before known over path (Ok File) after later left
      → Puts left path seen_look.Absent last → DropsFile (Ok true) last
  drop_made last stands puts =
      made_now (DropMade path) (file_at path) (only path) before after known later over left path File true last
      (λ seen. head_there path []) stands (λ seen t e. file_there (get seen path) e)
      (λ tree seen t laid e same. (
        dropping_lays tree seen left last path laid puts,
        drop_tree seen path t stands.is_path (file_there (get seen path) e),
      ))

  pub drop_lacks : (last : Over) → Stands before known over path (Ok File) after later left
      → DropsFile (Err look.Memory) last
  drop_lacks last stands =
      made_lacks (DropMade path) (file_at path) (only path) before after known later over left path File last
      (λ seen. head_there path []) stands
