-- The first part that is no object, and the outcome of a text by that of its value.
use Rattle.std.proofs.Common.{◌≡◌, ℕ, List, refl, sym, ap, ◌∙◌, subst}
use Rattle.std.specs.Prelude.{Result, Ok, Err, MatchResult}
use Rattle.json_spec.specs.Value.{Json, an_object, Members}
use Rattle.json_spec.specs.Grammar.{Fault, ReadsJson}
use Rattle.import_map_spec.specs.ParsedMap.{ParsedMap, NoJson}
use Rattle.import_map_spec.specs.declared.MapPart.{MapPart}
use Rattle.import_map_spec.specs.Parsing.{◌>>=◌, parsed_map, map_of_members, as_map, ParsesMap}
use Rattle.map_parse.specs.declared.fault.MapFault.{MapFault}
use Rattle.map_parse.specs.declared.fault.MapFault.TheVariants.{NotJson, NotObject, TooDeep, Memory}
use Rattle.map_parse.specs.Faults.{IsPartOf, FailsPart, IsMapFault}

-- where the first part fails, the whole does
part_of_all : {A B : Type 0} (fault : MapFault) (out : Result A MapPart) (next : A → Result B MapPart) → IsPartOf out fault → IsPartOf (out >>= next) fault
part_of_all (NotJson at) out next f = absurd f
part_of_all (NotObject which) out next f = ap (λ x. x >>= next) f
part_of_all (TooDeep at) out next f = absurd f
part_of_all Memory out next f = tt

pub first_part_fails : {A B : Type 0} (fault : MapFault) (out : Result A MapPart) (next : A → Result B MapPart) → FailsPart fault out → FailsPart fault (out >>= next)
first_part_fails fault out next f = record { part = part_of_all fault out next f.part }

-- where the first part is there, what comes of the others comes of the whole
pub part_fails : {A B : Type 0} (fault : MapFault) (out : Result A MapPart) (x : A) (next : A → Result B MapPart) → out ≡ Ok x → FailsPart fault (next x) → FailsPart fault (out >>= next)
part_fails fault out x next e f = subst (FailsPart fault) (ap (λ y. y >>= next) (sym e)) f

pub no_memory : {A : Type 0} (out : Result A MapPart) → FailsPart Memory out
no_memory out = record { part = tt }

pub no_object : {A : Type 0} (fault : MapFault) (out : Result A MapPart) (which : MapPart) → fault ≡ NotObject which → out ≡ Err which → FailsPart fault out
no_object fault out which e f = subst (λ x. FailsPart x out) (sym e) (record { part = f })

pub ruleset faults = (no_memory, no_object)

abbrev pub Gives : Result ParsedMap MapFault → Result ParsedMap MapPart → Type 0
Gives found out = MatchResult found (λ map. out ≡ Ok map) (λ fault. FailsPart fault out)

of_object : (base : List ℕ) (ms : Members) → parsed_map base (an_object ms) ≡ map_of_members base ms
unfolding parsed_map
of_object base ms = refl

pub object_gives : (base : List ℕ) (ms : Members) (value : Json) (found : Result ParsedMap MapFault) → value ≡ an_object ms → Gives found (map_of_members base ms) → Gives found (parsed_map base value)
object_gives base ms value found e gives = subst (Gives found) (sym (ap (parsed_map base) e ∙ of_object base ms)) gives

fault_of : (base bytes : List ℕ) (value : Json) (fault : MapFault) → ReadsJson bytes (Ok value) → IsPartOf (parsed_map base value) fault → IsMapFault base bytes fault
fault_of base bytes value (NotJson at) reads f = absurd f
fault_of base bytes value (NotObject which) reads f = record { json = Ok value; reads = reads; is = ap as_map (sym f) }
fault_of base bytes value (TooDeep at) reads f = absurd f
fault_of base bytes value Memory reads f = tt

-- what a text comes to is what its value does
pub whole : (base bytes : List ℕ) (value : Json) (found : Result ParsedMap MapFault) → ReadsJson bytes (Ok value) → Gives found (parsed_map base value) → MatchResult found (λ map. ParsesMap base bytes (Ok map)) (IsMapFault base bytes)
whole base bytes value (Ok map) reads gives = record { json = Ok value; reads = reads; is = ap as_map (sym gives) }
whole base bytes value (Err fault) reads gives = fault_of base bytes value fault reads gives.part

pub no_json : (base bytes : List ℕ) (fault : Fault) → ReadsJson bytes (Err fault) → ParsesMap base bytes (Err (NoJson fault))
no_json base bytes fault reads = record { json = Err fault; reads = reads; is = refl }
