-- Package targets: what a target in `exports` or `imports` comes to (Node.js, ECMAScript modules:
-- PACKAGE_TARGET_RESOLVE).
--     ResolvesTarget rules target asked out      the target comes to out, and asks for these bare texts in this
--         order, each with its answer
--     ResolvesText, ResolvesMembers, ResolvesItems      the same of a string, of the members of an object, of the
--         items of a list
--     ResolvesUnder answers rules target out      the same where a map answers each text
--     bare_outcome answer      what a bare text comes to by its answer
--     is_undefined out      the outcome is Undefined
use Rattle.std.specs.Cmp.Lexicographic.{slice_cmp}
use Rattle.std.specs.FinMap.{FinMap, get}
use Rattle.std.specs.List.{slice_split, list_any}
use Rattle.std.specs.Ordering.{nat_cmp}
use Rattle.std.specs.Prelude.{ℕ, Bool, List, Option, ◌==◌, ◌||◌, [], ◌∷◌, codes, bytes_eq, drop, false, Some, None}
use Rattle.std.specs.Prelude.{flat_map, if◌then◌else◌, ◌&&◌, not, is_none, ◌≡◌, true, ◌++◌, ⊤}
use Rattle.percent_encoding.specs.Percent.{percent_decode}
use Rattle.url.specs.Input.{lowercase, strip_tabs_and_new_lines}
use Rattle.json_spec.specs.PropertyOrder.{is_array_index}
use Rattle.json_spec.specs.Value.{Members, no_members, a_member, Json, a_null, a_bool, a_number, a_text, a_list}
use Rattle.json_spec.specs.Value.{an_object, Items, no_items, an_item}
use Rattle.url_spec.specs.Parsing.{parse_alone}
use Rattle.url_spec.specs.Specifiers.{begins}
use Rattle.node_spec.specs.declared.BareAnswer.{BareAnswer}
use Rattle.node_spec.specs.declared.BareAnswer.TheVariants as bare_answer
use Rattle.node_spec.specs.declared.Outcome.{Outcome}
use Rattle.node_spec.specs.declared.Outcome.TheVariants.{Place, InvalidTarget, InvalidSpecifier, Bare, Stopped}
use Rattle.node_spec.specs.declared.Outcome.TheVariants.{Undefined, Null, InvalidConfig}

-- what a target is judged by, beside the package: the names of the conditions, which count as a set, what stands for
-- each `*` (Node's patternMatch), and whether the target stands in `imports`
pub record Rules : Type 0 where
  pub conditions : List (List ℕ)
  pub pattern_match : Option (List ℕ)
  pub is_imports : Bool

-- a bare text that was asked for, and its answer
abbrev pub Call : Type 0
Call = List ℕ × BareAnswer

-- ---- strings

-- targets and patterns are split at `/` and `\`
abbrev pub segments : List ℕ → List (List ℕ)
segments text = slice_split (λ b. b == 47 || b == 92) text

-- one of "", ".", ".." and "node_modules", without regard to case and with percent encoded variants
unfoldable pub is_invalid_segment : List ℕ → Bool
is_invalid_segment segment =
    list_any (bytes_eq (lowercase (percent_decode segment)))
    (codes "" ∷ codes "." ∷ codes ".." ∷ codes "node_modules" ∷ [])

-- a segment after the first `.` is invalid. own: TAB, LF and CR are passed over, since URL parsing drops them
abbrev pub leaves_package : List ℕ → Bool
leaves_package target = list_any is_invalid_segment (drop 1 (segments (strip_tabs_and_new_lines target)))

-- what stands for `*` has an invalid segment
abbrev pub is_invalid_match : Option (List ℕ) → Bool
is_invalid_match None = false
is_invalid_match (Some text) = list_any is_invalid_segment (segments text)

-- own: each `*` of the target replaced by what stands for it, where there is that; one in the path of the package's
-- folder stays, where Node replaces it
abbrev pub with_match : Option (List ℕ) → List ℕ → List ℕ
with_match None target = target
with_match (Some text) target = flat_map (λ b. if b == 42 then text else b ∷ []) target

-- a target that begins with `./`
abbrev pub own_outcome : Option (List ℕ) → List ℕ → Outcome
own_outcome pattern_match target =
    if leaves_package target then InvalidTarget else if is_invalid_match pattern_match then InvalidSpecifier
    else Place (with_match pattern_match target)

-- any other target may be a bare specifier: in `imports`, where it begins with neither `../` nor `/` and is no URL
unfoldable pub names_package : Bool → List ℕ → Bool
names_package is_imports target =
    is_imports
    && (not (begins target (codes "../")) && (not (begins target (codes "/")) && is_none (parse_alone target)))

abbrev pub bare_outcome : BareAnswer → Outcome
bare_outcome bare_answer.Found = Bare
bare_outcome bare_answer.InvalidTarget = InvalidTarget
bare_outcome bare_answer.Stop = Stopped

-- PACKAGE_TARGET_RESOLVE, "If target is a String"
pub data ResolvesText (rules : Rules) (target : List ℕ) : List Call → Outcome → Type 0 where
  own_place : begins target (codes "./") ≡ true → ResolvesText rules target [] (own_outcome rules.pattern_match target)
  bare :
      (answer : BareAnswer) → begins target (codes "./") ≡ false → names_package rules.is_imports target ≡ true
      → ResolvesText rules target ((with_match rules.pattern_match target, answer) ∷ []) (bare_outcome answer)
  no_target :
      begins target (codes "./") ≡ false → names_package rules.is_imports target ≡ false
      → ResolvesText rules target [] InvalidTarget

-- ---- objects and lists

-- a member's name is an array index
abbrev pub has_index_key : Members → Bool
has_index_key no_members = false
has_index_key (a_member key value more) = is_array_index key || has_index_key more

-- `default` and the names of the conditions are tried
abbrev pub is_tried : List (List ℕ) → List ℕ → Bool
is_tried conditions key = bytes_eq key (codes "default") || list_any (bytes_eq key) conditions

abbrev pub is_undefined : Outcome → Bool
is_undefined Undefined = true
is_undefined Null = false
is_undefined (Place text) = false
is_undefined Bare = false
is_undefined Stopped = false
is_undefined InvalidTarget = false
is_undefined InvalidSpecifier = false
is_undefined InvalidConfig = false

-- own: what an item of a list comes to without ending the list (the steps of PACKAGE_TARGET_RESOLVE return null;
-- its last sentence, and the program node, go on at it)
abbrev pub is_passed : Outcome → Bool
is_passed Undefined = true
is_passed Null = true
is_passed (Place text) = false
is_passed Bare = false
is_passed Stopped = false
is_passed InvalidTarget = true
is_passed InvalidSpecifier = false
is_passed InvalidConfig = false

-- own: of what was passed in a list, the last that isn't undefined
abbrev pub last_of : Outcome → Outcome → Outcome
last_of first rest = if is_undefined rest then first else rest

mutual
  pub data ResolvesTarget (rules : Rules) : Json → List Call → Outcome → Type 0 where
    text_target :
        (text : List ℕ) (asked : List Call) (out : Outcome) → ResolvesText rules text asked out
        → ResolvesTarget rules (a_text text) asked out
    index_key :
        (members : Members) → has_index_key members ≡ true → ResolvesTarget rules (an_object members) [] InvalidConfig
    object_target :
        (members : Members) (asked : List Call) (out : Outcome) → has_index_key members ≡ false
        → ResolvesMembers rules members asked out → ResolvesTarget rules (an_object members) asked out
    empty_list : ResolvesTarget rules (a_list no_items) [] Null
    list_target :
        (item : Json) (more : Items) (asked : List Call) (out : Outcome)
        → ResolvesItems rules (an_item item more) asked out
        → ResolvesTarget rules (a_list (an_item item more)) asked out
    null_target : ResolvesTarget rules a_null [] Null
    bool_target : (b : Bool) → ResolvesTarget rules (a_bool b) [] InvalidTarget
    number_target : (number : List ℕ) → ResolvesTarget rules (a_number number) [] InvalidTarget

  -- the members of an object in their order: the first tried one that isn't undefined
  pub data ResolvesMembers (rules : Rules) : Members → List Call → Outcome → Type 0 where
    no_member : ResolvesMembers rules no_members [] Undefined
    untried :
        (key : List ℕ) (value : Json) (more : Members) (asked : List Call) (out : Outcome)
        → is_tried rules.conditions key ≡ false → ResolvesMembers rules more asked out
        → ResolvesMembers rules (a_member key value more) asked out
    defined :
        (key : List ℕ) (value : Json) (more : Members) (asked : List Call) (out : Outcome)
        → is_tried rules.conditions key ≡ true → ResolvesTarget rules value asked out → is_undefined out ≡ false
        → ResolvesMembers rules (a_member key value more) asked out
    undefined :
        (key : List ℕ) (value : Json) (more : Members) (front back : List Call) (out : Outcome)
        → is_tried rules.conditions key ≡ true → ResolvesTarget rules value front Undefined
        → ResolvesMembers rules more back out → ResolvesMembers rules (a_member key value more) (front ++ back) out

  -- the items of a list in their order: the first that isn't passed
  pub data ResolvesItems (rules : Rules) : Items → List Call → Outcome → Type 0 where
    no_item : ResolvesItems rules no_items [] Undefined
    decided :
        (item : Json) (more : Items) (asked : List Call) (out : Outcome) → ResolvesTarget rules item asked out
        → is_passed out ≡ false → ResolvesItems rules (an_item item more) asked out
    passed :
        (item : Json) (more : Items) (front back : List Call) (first rest : Outcome)
        → ResolvesTarget rules item front first → is_passed first ≡ true → ResolvesItems rules more back rest
        → ResolvesItems rules (an_item item more) (front ++ back) (last_of first rest)

-- ---- answers given beforehand

-- a finite map from bare texts to answers
abbrev pub Answers : Type 0
Answers = FinMap (slice_cmp nat_cmp) BareAnswer

-- the map has each of these calls
abbrev pub Agrees : Answers → List Call → Type 0
Agrees answers [] = ⊤
Agrees answers (call ∷ more) = (get answers call.0 ≡ Some call.1) × Agrees answers more

-- what the target comes to under a map
pub record ResolvesUnder (answers : Answers) (rules : Rules) (target : Json) (out : Outcome) : Type 0 where
  pub asked : List Call
  pub agrees : Agrees answers asked
  pub resolves : ResolvesTarget rules target asked out
