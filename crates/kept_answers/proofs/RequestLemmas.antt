-- The modules to which requests lead, as they are kept.
--     kept_so              what the table says of a request
--     put_request          to keep one more leaves the table right
--     copied               a copy is as right
--     right_as, node_as, kept_as      the same under other names
use Rattle.std.proofs.Common.{◌≡◌, ℕ, List, Some, Result, Ok, refl, subst, sym, ap, ◌∙◌}
use Rattle.std.specs.Prelude.{if◌then◌else◌, OnOk, OnErr}
use Rattle.node_resolve.specs.Places.{module_of}
use Rattle.node_resolve.specs.declared.found.Found.{Found}
use Rattle.node_spec.specs.EsmResolve.{node}
use Rattle.node_spec.specs.NodeAnswers.{Module, Refusal}
use Rattle.kept_spec.specs.Certificates.{LookSeen, paths_of}
use Rattle.kept_answers.specs.Entries.{Request, is_request}
use Rattle.kept_answers.specs.KnownLooks.{IsKept}
use Rattle.kept_answers.specs.Tables.{requests_at, IsRequestOf, AreRequests}
use Rattle.kept_answers.specs.declared.requests.KeptRequest.{KeptRequest}
use Rattle.kept_answers.specs.declared.requests.KeptRequests.{KeptRequests}
use Rattle.kept_answers.proofs.TableLemmas.{put_right, one_request}

pub put_request : {E : Type 0} (request : Request) (kept : KeptRequest)
    (old new : KeptRequests) (result : Result (Unit {0}) E)
    → OnOk result ((other : Request) → requests_at new other
    ≡ (if is_request request other then Some kept else requests_at old other))
    → OnErr result ((other : Request) → requests_at new other ≡ requests_at old other)
    → new.names ≡ old.names → IsRequestOf old.names request kept → AreRequests old → AreRequests new
put_request request kept old new result set stays same is are = record {
  each = subst (λ names. (other : Request) (m : KeptRequest) → requests_at new other ≡ Some m → IsRequestOf names other m)
      (sym same)
      (put_right (IsRequestOf old.names) is_request request kept (requests_at old) (requests_at new) result
      (one_request request) set stays is are.each);
}

pub copied : (names : List (List ℕ)) (request shown : Request) (kept copy : KeptRequest) → shown ≡ request
    → copy.found.value ≡ kept.found.value → copy.looks.value ≡ kept.looks.value → IsRequestOf names request kept
    → IsRequestOf names shown copy
copied names request shown kept copy same found looks of =
    subst (λ r. IsRequestOf names r copy) (sym same)
    (record {
      is =
          subst (λ ls. IsKept (node names request.parent request.specifier) (Ok (module_of copy.found.value)) ls)
          (sym looks)
          (subst (λ (f : Found). IsKept (node names request.parent request.specifier) (Ok (module_of f)) kept.looks.value)
          (sym found) of.is);
      footprint = ap (λ (f : Found). f.footprint) found ∙ (of.footprint ∙ ap paths_of (sym looks));
    })

-- ---- under other names of the same conditions, and of the same request

same_node : (names conditions : List (List ℕ)) (parent specifier : List ℕ) (request : Request) → names ≡ conditions
    → request ≡ record { parent = parent; specifier = specifier }
    → node names request.parent request.specifier ≡ node conditions parent specifier
same_node names conditions parent specifier request same is =
    (λ i. node (same i) (is i).parent (is i).specifier)

-- what the table says of a request
pub kept_so : (conditions : List (List ℕ)) (parent specifier : List ℕ) (request : Request) (kept : KeptRequest)
    (shown : List LookSeen) → shown ≡ kept.looks.value → request ≡ record { parent = parent; specifier = specifier }
    → IsRequestOf conditions request kept
    → IsKept (node conditions parent specifier) (Ok (module_of kept.found.value)) shown
kept_so conditions parent specifier request kept shown same is of =
    subst (λ asking. IsKept asking (Ok (module_of kept.found.value)) shown)
    (same_node conditions conditions parent specifier request refl is)
    (subst (IsKept (node conditions request.parent request.specifier) (Ok (module_of kept.found.value))) (sym same) of.is)

pub right_as : (conditions : List (List ℕ)) (request : Request) (kept : KeptRequest) (table : KeptRequests)
    → table.names ≡ conditions → (AreRequests table → IsRequestOf table.names request kept) → AreRequests table
    → IsRequestOf conditions request kept
right_as conditions request kept table same is right = subst (λ cs. IsRequestOf cs request kept) same (is right)

pub kept_as : (names conditions : List (List ℕ)) (parent specifier : List ℕ) (request : Request)
    (value : Result Module Refusal) (looks : List LookSeen) → names ≡ conditions
    → request ≡ record { parent = parent; specifier = specifier }
    → IsKept (node conditions parent specifier) value looks
    → IsKept (node names request.parent request.specifier) value looks
kept_as names conditions parent specifier request value looks same is kept =
    subst (λ asking. IsKept asking value looks)
    (sym (same_node names conditions parent specifier request same is)) kept
