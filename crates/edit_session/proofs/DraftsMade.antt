-- Changes of a draft, one after another.
use Rattle.std.proofs.Common.{◌≡◌, ◌∷◌, [], ◌++◌, ℕ, Bool, true, false, List, Some, None, Result, Ok, Err, refl, sym, ap, ◌∙◌, subst, arith, length-append}
use Rattle.std.specs.FinMap.{get, remove}
use Rattle.std.specs.List.{list_any}
use Rattle.std.specs.Prelude.{◌<◌, bytes_eq, not, length, Contains, if◌then◌else◌}
use Rattle.std.proofs.lemmas.Cmp.{nat_list_eq_equiv}
use Rattle.std.proofs.lemmas.Map.Keys.{IsDistinct-push}
use Rattle.tree_spec.specs.Limits.{limit_number}
use Rattle.tree_spec.specs.declared.LimitName.TheVariants.{Entries}
use Rattle.config_spec.specs.Projects.{without}
use Rattle.config_spec.proofs.Entries.{filtered_distinct, filtered_fewer}
use Rattle.edit_session.specs.Stopping.{stop_of}
use Rattle.std.proofs.lemmas.List.Elements.{All-weaker, Contains-append_left, Contains-append_right}
use Rattle.tree_spec.specs.States.{FolderState}
use Rattle.tree_spec.specs.Trees.{Tree, IsTree, bare_tree}
use Rattle.tree_spec.specs.declared.LookFault.{LookFault}
use Rattle.tree_spec.specs.declared.LookFault.TheVariants as look
use Rattle.package_lookup.specs.declared.known.Known.{Known}
use Rattle.package_lookup.specs.declared.over.Over.{Over}
use Rattle.package_lookup.specs.LaidTrees.{StandsBehind, IsLaid}
use Rattle.package_lookup.specs.Looked.{kept_at, over_at}
use Rattle.package_lookup.proofs.Laying.{laid_alike}
use Rattle.session_spec.specs.declared.Change.{Change}
use Rattle.session_spec.specs.declared.Change.TheVariants.{Link, Unlink, Put, Drop}
use Rattle.tree_spec.specs.FoldersAbove.{folders_from}
use Rattle.session_spec.specs.declared.EditFault.{EditFault}
use Rattle.session_spec.specs.declared.EditFault.TheVariants.{BadEdit}
use Rattle.session_spec.specs.EditFaults.{CanRefuseChange, CanRefuseEdit, bad_put, bad_drop}
use Rattle.session_spec.proofs.FaultsOfEdits.{fault_of_change, first_refuses, rest_refuses}
use Rattle.session_spec.specs.Edits.{Draft, can_put, changed, edited, is_file, linked, put_file, then_edited, unlinked}
use Rattle.session_spec.specs.EditLooks.{climbed, change_looks, behind_change, edit_looks}
use Rattle.edit_session.specs.LooksOn.{LooksOn, IsSeenBy}
use Rattle.edit_session.specs.Making.{MakesTree, Work, work, as_draft, IsDraftOf, IsListOfEntries, IsMadeOf, IsAllowed, LeavesDraft, CanStop, Makes}
use Rattle.edit_session.specs.Making.IsAllowed.{is_made, is_bad, not_said, failed, no_memory}
use Rattle.edit_session.specs.declared.stop.ChangeStop.{ChangeStop}
use Rattle.edit_session.specs.declared.stop.ChangeStop.TheVariants.{Refused, ReadFault, Memory}
use Rattle.edit_session.proofs.LookedOn.{looks_on_then, looks_on_as, looks_on_nothing}

abbrev Done : Type 0
Done = Result (Unit {0}) ChangeStop

abbrev done : Done
done = Ok tt

abbrev stops : ChangeStop → Done
stops stop = Err stop

abbrev answers : Bool → Result Bool LookFault
answers b = Ok b

abbrev fails : LookFault → Result Bool LookFault
fails fault = Err fault

-- ---- a look that stops a change

pub look_stops : (path : List ℕ) (fault : LookFault) → IsAllowed path (Err fault) (Err (stop_of fault))
look_stops path look.Failed = failed
look_stops path look.Memory = no_memory

-- ---- entries

pub pushed_entries : (entries : List (List ℕ)) (entry : List ℕ) → list_any (bytes_eq entry) entries ≡ false
    → length entries < limit_number Entries → IsListOfEntries entries → IsListOfEntries (entries ++ entry ∷ [])
pushed_entries entries entry new room is = record {
  distinct = IsDistinct-push nat_list_eq_equiv entries entry is.distinct new;
  few = (let grown = length-append entries (entry ∷ []) in omega (arith, room));
}

never_fails : (made : Result Draft EditFault) (result : Done) (next : Draft) → IsMadeOf made result next
    → result ≡ stops ReadFault → ⊥
never_fails made (Ok unit) next is e = absurd (cc)
never_fails made (Err (Refused fault)) next is e = absurd (cc)
never_fails made (Err ReadFault) next is e = is
never_fails made (Err Memory) next is e = absurd (cc)

pub pushed_or_not : (ok : Bool) (entries new : List (List ℕ)) (entry : List ℕ)
    → new ≡ (if ok then entries ++ entry ∷ [] else entries) → list_any (bytes_eq entry) entries ≡ false
    → length entries < limit_number Entries → IsListOfEntries entries → IsListOfEntries new
pushed_or_not true entries new entry e none room is = subst IsListOfEntries (sym e) (pushed_entries entries entry none room is)
pushed_or_not false entries new entry e none room is = subst IsListOfEntries (sym e) is

pub without_entries : (entry : List ℕ) (entries left : List (List ℕ)) → left ≡ without entry entries
    → IsListOfEntries entries → IsListOfEntries left
without_entries entry entries left e is =
    (let test : List ℕ → Bool = λ other. not (bytes_eq entry other) in
    let fewer = filtered_fewer test entries in
    let few = is.few in
    subst IsListOfEntries (sym e) (record {
      distinct = filtered_distinct test entries is.distinct;
      few = omega (arith, fewer, few);
    }))

leaves_entries : (folder : FolderState) (known : Known) (over : Over) (tree seen : Tree) (new : List (List ℕ))
    (made other : Result Draft EditFault) (result : Done) → other ≡ made → IsMadeOf made result (as_draft seen new)
    → IsSeenBy tree known over seen → LeavesDraft tree other result (work folder known over new)
leaves_entries folder known over tree seen new made other (Ok unit) e is there =
    (as_draft seen new, e ∙ is, record { seen = there; entries_are = refl })
leaves_entries folder known over tree seen new made other (Err (Refused fault)) e is there = e ∙ is
leaves_entries folder known over tree seen new made other (Err ReadFault) e is there = tt
leaves_entries folder known over tree seen new made other (Err Memory) e is there = tt

entries_stop : (tree : Tree) (old new : List (List ℕ)) (change : Change) (result : Done)
    → IsMadeOf (changed (as_draft tree old) change) result (as_draft tree new) → CanStop (CanRefuseChange change) result
entries_stop tree old new change (Ok unit) is = tt
entries_stop tree old new change (Err (Refused fault)) is = fault_of_change (as_draft tree old) change fault is
entries_stop tree old new change (Err ReadFault) is = tt
entries_stop tree old new change (Err Memory) is = tt

pub made_of_entries : (folder : FolderState) (known : Known) (over : Over) (old new : List (List ℕ)) (change : Change)
    (result : Done) → ((tree : Tree) → IsMadeOf (changed (as_draft tree old) change) result (as_draft tree new))
    → Makes (λ now. changed now change) (λ now. change_looks (get now.tree) change) (CanRefuseChange change)
    (work folder known over old) result (work folder known over new)
made_of_entries folder known over old new change result is = record {
  looks = looks_on_nothing folder known (result ≡ Err ReadFault) (result ≡ Err Memory)
      (λ tree path. (now : Draft) → IsDraftOf tree (work folder known over old) now
      → Contains (change_looks (get now.tree) change) path)
      (never_fails (changed (as_draft bare_tree old) change) result (as_draft bare_tree new) (is bare_tree));
  leaves = λ tree now e there.
      leaves_entries folder known over tree now.tree new (changed (as_draft now.tree old) change) (changed now change) result
      (λ i. changed (record { tree = now.tree; entries = there.entries_are i }) change) (is now.tree) there.seen;
  kind = entries_stop bare_tree old new change result (is bare_tree);
}

pub made_of_link : (folder : FolderState) (known : Known) (over : Over) (old new : List (List ℕ)) (entry : List ℕ)
    (result : Done) → ((tree : Tree) → IsMadeOf (linked (as_draft tree old) entry) result (as_draft tree new))
    → Makes (λ now. changed now (Link entry)) (λ now. change_looks (get now.tree) (Link entry)) (CanRefuseChange (Link entry))
    (work folder known over old) result (work folder known over new)
made_of_link folder known over old new entry result is = made_of_entries folder known over old new (Link entry) result is

pub made_of_unlink : (folder : FolderState) (known : Known) (over : Over) (old new : List (List ℕ)) (entry : List ℕ)
    (result : Done) → ((tree : Tree) → IsMadeOf (unlinked (as_draft tree old) entry) result (as_draft tree new))
    → Makes (λ now. changed now (Unlink entry)) (λ now. change_looks (get now.tree) (Unlink entry))
    (CanRefuseChange (Unlink entry)) (work folder known over old) result (work folder known over new)
made_of_unlink folder known over old new entry result is =
    made_of_entries folder known over old new (Unlink entry) result is

-- ---- a file

module _ (change : Change) (path : List ℕ) (allowed : Tree → Bool) (next : Tree → Tree)
    (can : CanRefuseChange change (BadEdit path)) where
  abbrev tested : Bool → Draft → Result Draft EditFault
  tested may now = if may then Ok (as_draft (next now.tree) now.entries) else Err (BadEdit path)

  module _ (is_change : (now : Draft) → changed now change ≡ tested (allowed now.tree) now)
      (before after : FolderState) (known later : Known) (over left : Over) (entries : List (List ℕ)) where
    abbrev MakesFile : Result Bool LookFault → Type 0
    MakesFile result =
        MakesTree (λ tree seen laid. IsLaid tree laid (next seen) × IsTree (next seen)) allowed
        (λ seen. change_looks (get seen) change) before known over result after later left

    abbrev Looked : Tree → List ℕ → Type 0
    Looked tree other =
        (now : Draft) → IsDraftOf tree (work before known over entries) now → Contains (change_looks (get now.tree) change) other

    looks_so : (result : Result Bool LookFault) (stop : Done) → (stop ≡ Err ReadFault → result ≡ Err look.Failed)
        → (result ≡ Err look.Failed → stop ≡ Err ReadFault) → (result ≡ Err look.Memory → stop ≡ Err Memory)
        → MakesFile result → LooksOn before known after later (stop ≡ Err ReadFault) (stop ≡ Err Memory) Looked
    looks_so result stop back on weaker makes =
        looks_on_as before after known later (result ≡ Err look.Failed) (result ≡ Err look.Memory) (stop ≡ Err ReadFault)
        (stop ≡ Err Memory)
        (λ tree other. (seen : Tree) → IsSeenBy tree known over seen → Contains (change_looks (get seen) change) other) Looked
        back on weaker (λ tree other e there now is. there now.tree is.seen) makes.looks

    changed_by : (may : Bool) (now : Draft) → allowed now.tree ≡ may → changed now change ≡ tested may now
    changed_by may now e = is_change now ∙ ap (λ b. tested b now) e

    pub made_of_file : (result : Result Bool LookFault) (stop : Done) → IsAllowed path result stop → MakesFile result
        → Makes (λ now. changed now change) (λ now. change_looks (get now.tree) change) (CanRefuseChange change)
        (work before known over entries) stop (work after later left entries)
    made_of_file _ _ is_made makes = record {
      looks = looks_so (answers true) done (λ e. absurd (cc)) (λ e. absurd (cc)) (λ e. absurd (cc)) makes;
      leaves = λ tree now e is.
          (let laid = makes.made tree now.tree e is.seen refl in (
            as_draft (next now.tree) now.entries,
            changed_by true now (makes.may tree now.tree true e is.seen refl),
            record {
              seen = record { stands = makes.looks.behind tree e is.seen.stands; laid = laid.0; is_tree = laid.1 };
              entries_are = is.entries_are;
            },
          ));
      kind = tt;
    }
    made_of_file _ _ is_bad makes = record {
      looks = looks_so (answers false) (stops (Refused (BadEdit path))) (λ e. absurd (cc)) (λ e. absurd (cc)) (λ e. absurd (cc)) makes;
      leaves = λ tree now e is. changed_by false now (makes.may tree now.tree false e is.seen refl);
      kind = can;
    }
    made_of_file _ _ not_said makes = record {
      looks = looks_so (answers false) (stops Memory) (λ e. absurd (cc)) (λ e. absurd (cc)) (λ e. absurd (cc)) makes;
      leaves = λ tree now e is. tt;
      kind = tt;
    }
    made_of_file _ _ failed makes = record {
      looks = looks_so (fails look.Failed) (stops ReadFault) (λ e. refl) (λ e. refl) (λ e. absurd (cc)) makes;
      leaves = λ tree now e is. tt;
      kind = tt;
    }
    made_of_file _ _ no_memory makes = record {
      looks = looks_so (fails look.Memory) (stops Memory) (λ e. absurd (cc)) (λ e. absurd (cc)) (λ e. refl) makes;
      leaves = λ tree now e is. tt;
      kind = tt;
    }

pub made_of_put : (path bytes : List ℕ) (before after : FolderState) (known later : Known) (over left : Over)
    (entries : List (List ℕ)) (result : Result Bool LookFault) (stop : Done) → IsAllowed path result stop
    → MakesTree (λ tree seen laid. IsLaid tree laid (put_file seen path bytes) × IsTree (put_file seen path bytes))
    (λ seen. can_put (get seen) path) (λ seen. climbed (get seen) (folders_from path)) before known over result after later left
    → Makes (λ now. changed now (Put path bytes)) (λ now. change_looks (get now.tree) (Put path bytes))
    (CanRefuseChange (Put path bytes)) (work before known over entries) stop (work after later left entries)
made_of_put path bytes before after known later over left entries result stop is makes =
    made_of_file (Put path bytes) path (λ tree. can_put (get tree) path) (λ tree. put_file tree path bytes)
    (bad_put path bytes) (λ now. refl)
    before after known later over left entries result stop is makes

pub made_of_drop : (path : List ℕ) (before after : FolderState) (known later : Known) (over left : Over)
    (entries : List (List ℕ)) (result : Result Bool LookFault) (stop : Done) → IsAllowed path result stop
    → MakesTree (λ tree seen laid. IsLaid tree laid (remove seen path) × IsTree (remove seen path))
    (λ seen. is_file (get seen path)) (λ seen. path ∷ []) before known over result after later left
    → Makes (λ now. changed now (Drop path)) (λ now. change_looks (get now.tree) (Drop path))
    (CanRefuseChange (Drop path)) (work before known over entries) stop (work after later left entries)
made_of_drop path before after known later over left entries result stop is makes =
    made_of_file (Drop path) path (λ tree. is_file (get tree path)) (λ tree. remove tree path) (bad_drop path) (λ now. refl)
    before after known later over left entries result stop is makes

-- ---- one after another

abbrev MakesOne : Change → Work → Done → Work → Type 0
MakesOne change before result after =
    Makes (λ now. changed now change) (λ now. change_looks (get now.tree) change) (CanRefuseChange change) before result
    after

abbrev pub MakesAll : List Change → Work → Done → Work → Type 0
MakesAll edit before result after =
    Makes (λ now. edited now edit) (λ now. edit_looks now edit) (CanRefuseEdit edit) before result after

pub makes_nothing : (before : Work) → MakesAll [] before (Ok tt) before
makes_nothing before = record {
  looks = looks_on_nothing before.folder before.known (done ≡ Err ReadFault) (done ≡ Err Memory)
      (λ tree path. (now : Draft) → IsDraftOf tree before now → Contains (edit_looks now []) path) (λ e. absurd (cc));
  leaves = λ tree now e is. (now, refl, is);
  kind = tt;
}

abbrev AsksOne : Change → Work → Tree → List ℕ → Type 0
AsksOne change before tree path =
    (now : Draft) → IsDraftOf tree before now → Contains (change_looks (get now.tree) change) path

abbrev AsksAll : List Change → Work → Tree → List ℕ → Type 0
AsksAll edit before tree path = (now : Draft) → IsDraftOf tree before now → Contains (edit_looks now edit) path

asks_first : (change : Change) (more : List Change) (before : Work) (tree : Tree) (path : List ℕ)
    → AsksOne change before tree path → AsksAll (change ∷ more) before tree path
asks_first change more before tree path there now is =
    Contains-append_left (change_looks (get now.tree) change)
    (behind_change (changed now change) (λ after. edit_looks after more)) path (there now is)

pub makes_stops : (change : Change) (more : List Change) (before after : Work) (stop : ChangeStop)
    → MakesOne change before (Err stop) after → MakesAll (change ∷ more) before (Err stop) after
makes_stops change more before after stop makes = record {
  looks = looks_on_as before.folder after.folder before.known after.known (stops stop ≡ Err ReadFault)
      (stops stop ≡ Err Memory) (stops stop ≡ Err ReadFault) (stops stop ≡ Err Memory) (AsksOne change before)
      (AsksAll (change ∷ more) before) (λ e. e) (λ e. e) (λ e. e)
      (λ tree path e there. asks_first change more before tree path there) makes.looks;
  leaves = λ tree now e is. stopped stop tree (changed now change) (makes.leaves tree now e is);
  kind = stops_so stop makes.kind;
}
  where
    stops_so : (stop : ChangeStop) → CanStop (CanRefuseChange change) (Err stop)
        → CanStop (CanRefuseEdit (change ∷ more)) (Err stop)
    stops_so (Refused fault) is = first_refuses change more fault is
    stops_so ReadFault is = tt
    stops_so Memory is = tt

    stopped : (stop : ChangeStop) (tree : Tree) (made : Result Draft EditFault) → LeavesDraft tree made (Err stop) after
        → LeavesDraft tree (then_edited made (λ next. edited next more)) (Err stop) after
    stopped (Refused fault) tree made is = ap (λ m. then_edited m (λ next. edited next more)) is
    stopped ReadFault tree made is = tt
    stopped Memory tree made is = tt

pub makes_then : (change : Change) (more : List Change) (before middle after : Work) (result : Done)
    → MakesOne change before (Ok tt) middle → MakesAll more middle result after
    → MakesAll (change ∷ more) before result after
makes_then change more before middle after result one rest = record {
  looks = looks_on_then before.folder middle.folder after.folder before.known middle.known after.known
      (done ≡ Err ReadFault) (done ≡ Err Memory) (result ≡ Err ReadFault) (result ≡ Err Memory) (AsksOne change before)
      (AsksAll more middle) (AsksAll (change ∷ more) before) (λ e. absurd (cc)) (λ e. absurd (cc))
      (λ tree path e there. asks_first change more before tree path there) asks_rest one.looks rest.looks;
  leaves = λ tree now e is.
      (let next = one.leaves tree now e is in
      subst (λ made. LeavesDraft tree (then_edited made (λ next. edited next more)) result after) (sym next.1)
      (rest.leaves tree next.0 (one.looks.looks.tree ∙ e) next.2));
  kind = stops_so result rest.kind;
}
  where
    stops_so : (result : Done) → CanStop (CanRefuseEdit more) result → CanStop (CanRefuseEdit (change ∷ more)) result
    stops_so (Ok unit) is = tt
    stops_so (Err (Refused fault)) is = rest_refuses change more fault is
    stops_so (Err ReadFault) is = tt
    stops_so (Err Memory) is = tt

    asks_rest : (tree : Tree) (path : List ℕ) → before.folder.holds ≡ Some tree → AsksAll more middle tree path
        → AsksAll (change ∷ more) before tree path
    asks_rest tree path e there now is =
        (let next = one.leaves tree now e is in
        Contains-append_right (change_looks (get now.tree) change)
        (behind_change (changed now change) (λ after. edit_looks after more)) path
        (subst (λ made. Contains (behind_change made (λ after. edit_looks after more)) path) (sym next.1)
        (there next.0 next.2)))

-- whatever the rest makes, the whole does
abbrev pub Completes : List Change → Work → List Change → Work → Type 0
Completes edit before rest now =
    (result : Result (Unit {0}) ChangeStop) (after : Work) → MakesAll rest now result after
    → MakesAll edit before result after

-- what is known, and is laid, is the same elsewhere in memory
module _ (edit : List Change) (folder : FolderState) (known alike : Known) (over same : Over)
    (entries : List (List ℕ)) (laid : alike.laid ≡ known.laid)
    (kept : (path : List ℕ) → kept_at alike path ≡ kept_at known path)
    (overs : (path : List ℕ) → over_at same path ≡ over_at over path) where
  abbrev was : Work
  was = work folder known over entries

  abbrev now_is : Work
  now_is = work folder alike same entries

  stands_on : (tree : Tree) → StandsBehind tree known → StandsBehind tree alike
  stands_on tree stands = record { kept = λ path look e. stands.kept path look (sym (kept path) ∙ e) }

  draft_on : (tree : Tree) (draft : Draft) → IsDraftOf tree was draft → IsDraftOf tree now_is draft
  draft_on tree draft is = record {
    seen = record {
      stands = stands_on tree is.seen.stands;
      laid = laid_alike tree draft.tree over same overs is.seen.laid;
      is_tree = is.seen.is_tree;
    };
    entries_are = is.entries_are;
  }

  pub begins : Completes edit was edit now_is
  begins result after makes = record {
    looks = record {
      laid = makes.looks.laid ∙ laid;
      kept = λ path look e. makes.looks.kept path look (kept path ∙ e);
      behind = λ tree e stands. makes.looks.behind tree e (stands_on tree stands);
      asked = λ list e.
          (let asks = makes.looks.asked list e in
          record {
            more = asks.more;
            asked = asks.asked;
            once = asks.once;
            new = All-weaker (λ path. kept_at alike path ≡ None) (λ path. kept_at known path ≡ None)
                (λ path none. sym (kept path) ∙ none) asks.more asks.new;
            held = asks.held;
            front = asks.front;
            among = All-weaker
                (λ path. (tree : Tree) → folder.holds ≡ Some tree → AsksAll edit now_is tree path)
                (λ path. (tree : Tree) → folder.holds ≡ Some tree → AsksAll edit was tree path)
                (λ path goes tree told draft is. goes tree told draft (draft_on tree draft is)) asks.more asks.among;
          });
      looks = makes.looks.looks;
    };
    leaves = λ tree draft e is. makes.leaves tree draft e (draft_on tree draft is);
    kind = makes.kind;
  }

pub goes_on : (edit rest more : List Change) (change : Change) (before now next : Work) → rest ≡ change ∷ more
    → Completes edit before rest now → MakesOne change now (Ok tt) next → Completes edit before more next
goes_on edit rest more change before now next is completes one result after makes =
    completes result after
    (subst (λ changes. MakesAll changes now result after) (sym is) (makes_then change more now next after result one makes))

pub stops_now : (edit rest more : List Change) (change : Change) (before now next : Work) → rest ≡ change ∷ more
    → Completes edit before rest now → (stop : ChangeStop) → MakesOne change now (Err stop) next
    → MakesAll edit before (Err stop) next
stops_now edit rest more change before now next is completes stop one =
    completes (Err stop) next
    (subst (λ changes. MakesAll changes now (Err stop) next) (sym is) (makes_stops change more now next stop one))

pub ends_now : (edit rest : List Change) (before now : Work) → length rest ≡ 0 → Completes edit before rest now
    → MakesAll edit before (Ok tt) now
ends_now edit [] before now is completes = completes (Ok tt) now (makes_nothing now)
ends_now edit (change ∷ more) before now is completes = absurd (cc)
