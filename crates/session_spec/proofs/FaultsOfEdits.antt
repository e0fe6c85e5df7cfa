-- Why an edit is refused, by its changes.
use Rattle.std.proofs.Common.{◌≡◌, ◌∷◌, [], Bool, true, false, List, Result, Ok, Err, refl, ap, ◌∙◌, subst, arith}
use Rattle.std.specs.FinMap.{get}
use Rattle.std.specs.List.{list_any}
use Rattle.std.specs.Prelude.{nat_lt, length, bytes_eq, if◌then◌else◌}
use Rattle.std.proofs.lemmas.List.Elements.{Contains-append_left, Contains-append_right}
use Rattle.tree_spec.specs.Limits.{limit_number}
use Rattle.tree_spec.specs.declared.LimitName.TheVariants.{Entries}
use Rattle.session_spec.specs.declared.Change.{Change}
use Rattle.session_spec.specs.declared.Change.TheVariants.{Link, Unlink, Put, Drop}
use Rattle.session_spec.specs.declared.EditFault.{EditFault}
use Rattle.session_spec.specs.declared.EditFault.TheVariants.{NotLinked, TooManyEntries, BadEdit}
use Rattle.session_spec.specs.EditFaults.{CanRefuseChange, CanRefuseEdit, too_many, not_linked, bad_put, bad_drop}
use Rattle.session_spec.specs.Edits.{Draft, can_put, changed, edited, is_file, then_edited}
use Rattle.session_spec.specs.Laws.{FaultsAreOfEdits}

abbrev made_if : Bool → Draft → EditFault → Result Draft EditFault
made_if test draft fault = if test then Ok draft else Err fault

abbrev refused : EditFault → Result Draft EditFault
refused fault = Err fault

same_fault : (test : Bool) (draft : Draft) (own fault : EditFault) → made_if test draft own ≡ refused fault → own ≡ fault
same_fault true draft own fault e = absurd (cc)
same_fault false draft own fault e = cc

linked_fault : (there room : Bool) (draft more : Draft) (fault : EditFault)
    → (if there then Ok draft else made_if room more TooManyEntries) ≡ refused fault → TooManyEntries ≡ fault
linked_fault true room draft more fault e = absurd (cc)
linked_fault false room draft more fault e = same_fault room more TooManyEntries fault e

pub fault_of_change : (draft : Draft) (change : Change) (fault : EditFault) → changed draft change ≡ Err fault → CanRefuseChange change fault
fault_of_change draft (Link entry) fault e =
    subst (CanRefuseChange (Link entry))
    (linked_fault (list_any (bytes_eq entry) draft.entries) (nat_lt (length draft.entries) (limit_number Entries)) draft _ fault e) (too_many entry)
fault_of_change draft (Unlink entry) fault e =
    subst (CanRefuseChange (Unlink entry)) (same_fault (list_any (bytes_eq entry) draft.entries) _ (NotLinked entry) fault e) (not_linked entry)
fault_of_change draft (Put path bytes) fault e =
    subst (CanRefuseChange (Put path bytes)) (same_fault (can_put (get draft.tree) path) _ (BadEdit path) fault e) (bad_put path bytes)
fault_of_change draft (Drop path) fault e =
    subst (CanRefuseChange (Drop path)) (same_fault (is_file (get draft.tree path)) _ (BadEdit path) fault e) (bad_drop path)

pub first_refuses : (change : Change) (more : List Change) (fault : EditFault) → CanRefuseChange change fault → CanRefuseEdit (change ∷ more) fault
first_refuses change more fault is =
    record { change = change; is_of = Contains-append_left (change ∷ []) more change (0, omega arith, refl); refuses = is }

pub rest_refuses : (change : Change) (more : List Change) (fault : EditFault) → CanRefuseEdit more fault → CanRefuseEdit (change ∷ more) fault
rest_refuses change more fault is =
    record { change = is.change; is_of = Contains-append_right (change ∷ []) more is.change is.is_of; refuses = is.refuses }

module _ (draft : Draft) (change : Change) (more : List Change) (fault : EditFault)
    (later : (next : Draft) → edited next more ≡ Err fault → CanRefuseEdit more fault) where
  behind : (made : Result Draft EditFault) → changed draft change ≡ made → then_edited made (λ after. edited after more) ≡ Err fault
      → CanRefuseEdit (change ∷ more) fault
  behind (Ok next) is rest = rest_refuses change more fault (later next rest)
  behind (Err own) is rest =
      let same : own ≡ fault = cc in
      first_refuses change more fault (fault_of_change draft change fault (is ∙ ap refused same))

pub faults_are_of_edits : FaultsAreOfEdits
faults_are_of_edits draft [] fault e = absurd (cc)
faults_are_of_edits draft (change ∷ more) fault e =
    behind draft change more fault (λ next rest. faults_are_of_edits next more fault rest) (changed draft change) refl e
