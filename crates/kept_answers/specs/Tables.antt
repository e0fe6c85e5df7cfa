-- Tables of answers, each answer under its question.
--     modules_at, requests_at             what is kept under a path, and under a request
--     IsModuleOf path kept                the source of the module at the path is kept with its looks
--     IsRequestOf conditions request kept      so is Node's answer for the request under these conditions, whose
--                                              footprint is the paths of its looks
--     AreModules table, AreRequests table      so it is with all that is kept
use Rattle.std.specs.Prelude.{◌≡◌, ℕ, List, Option, Some, Ok, bytes_eq}
use Rattle.std.specs.HashMap as map
use Rattle.node_resolve.specs.Places.{module_of}
use Rattle.node_spec.specs.EsmResolve.{node}
use Rattle.trace_spec.specs.Questions.{module_source}
use Rattle.kept_spec.specs.Certificates.{paths_of}
use Rattle.kept_answers.specs.KnownLooks.{IsKept}
use Rattle.kept_answers.specs.Entries.{ModuleSeen, source_seen, Request, is_request}
use Rattle.kept_answers.specs.declared.modules.KeptModules.{KeptModules}
use Rattle.kept_answers.specs.declared.requests.KeptRequest.{KeptRequest}
use Rattle.kept_answers.specs.declared.requests.KeptRequests.{KeptRequests}

abbrev pub modules_at : KeptModules → List ℕ → Option ModuleSeen
modules_at table path = map.get bytes_eq table.entries path

abbrev pub requests_at : KeptRequests → Request → Option KeptRequest
requests_at table request = map.get is_request table.entries request

pub record IsModuleOf (path : List ℕ) (kept : ModuleSeen) : Type 0 where
  pub is : IsKept (module_source path) (Ok (source_seen kept)) kept.looks

pub record IsRequestOf (conditions : List (List ℕ)) (request : Request) (kept : KeptRequest) : Type 0 where
  pub is :
      IsKept (node conditions request.parent request.specifier) (Ok (module_of kept.found.value)) kept.looks.value
  pub footprint : kept.found.value.footprint ≡ paths_of kept.looks.value

-- own: it says nothing of a tree, so that a table that was right stays right whatever changes
pub record AreModules (table : KeptModules) : Type 0 where
  pub each : (path : List ℕ) (kept : ModuleSeen) → modules_at table path ≡ Some kept → IsModuleOf path kept

pub record AreRequests (table : KeptRequests) : Type 0 where
  pub each :
      (request : Request) (kept : KeptRequest) → requests_at table request ≡ Some kept
      → IsRequestOf table.names request kept
