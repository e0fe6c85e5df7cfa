-- What the code's readers answer, in the words of the grammar.
--     Fails Is stop      where the reader found no memory, nothing; else the grammar has that fault
--     ReadsValue depth bytes value rest, Unread depth bytes stop      of one value, in which depth brackets may be open
--     IsScalar bytes value rest, IsNoScalar bytes stop      of a value that is no string, list or object
--     ReadsList depth bytes values rest, NoList depth bytes stop      of what stands behind an opening bracket
--     ReadsObject depth bytes pairs rest, NoObject depth bytes stop      of what stands behind an opening brace
use Rattle.std.specs.Prelude.{◌≡◌, ℕ, List, ⊤, Result, Err}
use Rattle.json_spec.specs.Value.{Json, Members, settled}
use Rattle.json_spec.specs.Taken.{taken, refused, and_then}
use Rattle.json_spec.specs.Grammar as grammar
use Rattle.json_spec.specs.Grammar.{Fault, Reading, after_space, scalar_at, ReadsItems, ReadsMembers, Reads}
use Rattle.json_spec.specs.Grammar.{most_depth, whole_text, ReadsJson}
use Rattle.ordered_json.specs.declared.fault.Stop.{Stop}
use Rattle.ordered_json.specs.declared.fault.Stop.TheVariants.{Unreadable, Deep, NoMemory}
use Rattle.ordered_json.specs.declared.fault.JsonFault.{JsonFault}
use Rattle.ordered_json.specs.declared.fault.JsonFault.TheVariants.{NotJson, TooDeep, Memory}
use Rattle.ordered_json.specs.declared.value.Value.{Value}
use Rattle.ordered_json.specs.Shown.{json_of, items_of, members_of}

abbrev pub Fails : {A : Type 0} → (Reading A → Type 0) → Stop → Type 0
Fails Is (Unreadable left) = Is (refused (grammar.NotJson left))
Fails Is (Deep left) = Is (refused (grammar.TooDeep left))
Fails Is NoMemory = ⊤

-- what stands between an object's brackets, with each name once
abbrev pub settle : Reading Members → Reading Members
settle out = and_then out (λ members rest. taken (settled members) rest)

pub record ReadsSettled (value : List ℕ → Reading Json → Type 0) (bytes : List ℕ) (out : Reading Members) : Type 0 where
  pub written : Reading Members
  pub reads : ReadsMembers value bytes written
  pub settles : settle written ≡ out

abbrev pub ReadsValue : ℕ → List ℕ → Value → List ℕ → Type 0
ReadsValue depth bytes value rest = Reads depth bytes (taken (json_of value) rest)

abbrev pub Unread : ℕ → List ℕ → Stop → Type 0
Unread depth bytes stop = Fails (Reads depth bytes) stop

abbrev pub IsScalar : List ℕ → Value → List ℕ → Type 0
IsScalar bytes value rest = scalar_at bytes ≡ taken (json_of value) rest

abbrev pub IsNoScalar : List ℕ → Stop → Type 0
IsNoScalar bytes stop = Fails (λ out. scalar_at bytes ≡ out) stop

abbrev pub ReadsList : ℕ → List ℕ → List Value → List ℕ → Type 0
ReadsList depth bytes values rest = ReadsItems (Reads depth) (after_space bytes) (taken (items_of values) rest)

abbrev pub NoList : ℕ → List ℕ → Stop → Type 0
NoList depth bytes stop = Fails (ReadsItems (Reads depth) (after_space bytes)) stop

abbrev pub ReadsObject : ℕ → List ℕ → List (List ℕ × Value) → List ℕ → Type 0
ReadsObject depth bytes pairs rest = ReadsSettled (Reads depth) (after_space bytes) (taken (members_of pairs) rest)

abbrev pub NoObject : ℕ → List ℕ → Stop → Type 0
NoObject depth bytes stop = Fails (ReadsSettled (Reads depth) (after_space bytes)) stop

-- the outcome of a whole text, where a fault's place is still counted from its end
pub record IsWhole (bytes : List ℕ) (out : Result Json Fault) : Type 0 where
  pub value : Reading Json
  pub reads : Reads most_depth (after_space bytes) value
  pub whole : whole_text value ≡ out

abbrev pub WholeFails : List ℕ → Stop → Type 0
WholeFails bytes (Unreadable left) = IsWhole bytes (Err (grammar.NotJson left))
WholeFails bytes (Deep left) = IsWhole bytes (Err (grammar.TooDeep left))
WholeFails bytes NoMemory = ⊤

-- the text has this first fault, unless the reader found no memory
abbrev pub IsFault : List ℕ → JsonFault → Type 0
IsFault bytes (NotJson at) = ReadsJson bytes (Err (grammar.NotJson at))
IsFault bytes (TooDeep at) = ReadsJson bytes (Err (grammar.TooDeep at))
IsFault bytes Memory = ⊤
