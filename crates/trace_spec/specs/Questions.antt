-- What the walk of a config asks: whether a file is a module and what it asks for, and where a request leads. Each
-- question is an asking over looks.
--     Question, Answer            the questions, and the answer to each
--     Source                      the bytes of a module and its requests
--     NoSource                    why a file has none
--     put question                the question as an asking over looks
--     answers sights              the answers by what stands at each path, where looks are counted; a limit stops them
--     always sights               the answers without limits
--     read_module is_detected path      the source of what stands at the path; `is_detected`: its text decides the
--                                 format
--     refuses_module reason       no source, for this reason, without a look
use Rattle.std.specs.Prelude.{◌&&◌, not, ℕ, Bool, true, false, List, map, Option, Some, None, Result, Ok, Err}
use Rattle.std.specs.Prelude.{if◌then◌else◌}
use Rattle.std.specs.Str.{is_utf8}
use Rattle.std.specs.Str.Lossy.{utf8_valid_len}
use Rattle.asking_spec.specs.Askings.{answered, and_then, ask, outcome}
use Rattle.asking_spec.specs.Evaluation.{Answers, evaluated}
use Rattle.tree_spec.specs.declared.Entry.{Entry}
use Rattle.tree_spec.specs.declared.Entry.TheVariants.{Stored, Directory}
use Rattle.tree_spec.specs.declared.LimitName.{LimitName}
use Rattle.tree_spec.specs.declared.LimitName.TheVariants.{Depth, Brackets, ModuleRequests}
use Rattle.tree_spec.specs.LookAskings.{Sights, LookAsking}
use Rattle.tree_spec.specs.LookLimits.{Trail, look_limits, begun, limited}
use Rattle.module_spec.specs.declared.request.Request.{Request}
use Rattle.module_spec.specs.declared.request.ModuleFault.{ModuleFault}
use Rattle.module_spec.specs.declared.request.ModuleFault.TheVariants as fault
use Rattle.module_spec.specs.Outlines.{Outline}
use Rattle.module_spec.specs.OutlineReading.{read_outline}
use Rattle.node_spec.specs.declared.Reason.{Reason}
use Rattle.node_spec.specs.declared.Reason.TheVariants.{CommonJs, Json, Addon, Other, Config, Unreadable}
use Rattle.node_spec.specs.EsmFileFormat.{Format, IsModule, IsDetected, IsCommonJs, IsJson, IsAddon, HasBadConfig}
use Rattle.node_spec.specs.EsmFileFormat.{IsOther, file_format}
use Rattle.node_spec.specs.EsmResolve.{node}
use Rattle.node_spec.specs.NodeAnswers.{Module, Refusal, by_cause, too_deep}

-- own: of a module by its path; of a request by the conditions, the path of its parent, and the specifier
pub data Question : Type 0 where
  of_module : List ℕ → Question
  of_request : List (List ℕ) → List ℕ → List ℕ → Question

-- own: the bytes of a module, and the specifiers of its requests, in text order
pub record Source : Type 0 where
  pub bytes : List ℕ
  pub specifiers : List (List ℕ)

-- own: the file is no module; or a limit is passed as it is read
pub data NoSource : Type 0 where
  not_module : Reason → NoSource
  above : LimitName → NoSource

-- own: the source of the file at a path; Node's answer for a specifier in the file at a path
abbrev pub Answer : Question → Type 0
Answer (of_module path) = Result Source NoSource
Answer (of_request conditions parent specifier) = Result Module Refusal

-- ---- the text of a module

-- own: where the text decides the format, it is a module's where it declares that it is (Node.js, ECMAScript modules:
-- ESM_FILE_FORMAT, DETECT_MODULE_SYNTAX)
abbrev pub by_outline : Bool → List ℕ → Result Outline ModuleFault → Result Source NoSource
by_outline is_detected bytes (Ok outline) =
    if is_detected && not outline.declares
    then Err (not_module CommonJs)
    else Ok (record { bytes = bytes; specifiers = map (λ (request : Request). request.text) outline.requests })
by_outline is_detected bytes (Err (fault.Unreadable at)) = Err (not_module (Unreadable at))
by_outline is_detected bytes (Err fault.TooDeep) = Err (above Brackets)
by_outline is_detected bytes (Err fault.TooManyRequests) = Err (above ModuleRequests)

-- own: bytes that aren't UTF-8 can't be read from the first bad sequence on
abbrev pub by_bytes : Bool → List ℕ → Result Source NoSource
by_bytes is_detected bytes =
    if is_utf8 bytes
    then by_outline is_detected bytes (read_outline bytes)
    else Err (not_module (Unreadable (utf8_valid_len bytes)))

-- own: where no file stands there is nothing to read; Node leads no request there
abbrev pub by_entry : Bool → Option Entry → Result Source NoSource
by_entry is_detected None = Err (not_module (Unreadable 0))
by_entry is_detected (Some Directory) = Err (not_module (Unreadable 0))
by_entry is_detected (Some (Stored bytes)) = by_bytes is_detected bytes

-- ---- the questions

abbrev pub read_module : Bool → List ℕ → LookAsking (Result Source NoSource)
read_module is_detected path = ask path (λ found. answered (by_entry is_detected found))

abbrev pub refuses_module : Reason → LookAsking (Result Source NoSource)
refuses_module reason = answered (Err (not_module reason))

-- by the format of the file, which a package.json can leave open to a limit alone
abbrev pub by_format : List ℕ → Result Format Refusal → LookAsking (Result Source NoSource)
by_format path (Ok IsModule) = read_module false path
by_format path (Ok IsDetected) = read_module true path
by_format path (Ok IsCommonJs) = refuses_module CommonJs
by_format path (Ok IsJson) = refuses_module Json
by_format path (Ok IsAddon) = refuses_module Addon
by_format path (Ok HasBadConfig) = refuses_module Config
by_format path (Ok IsOther) = refuses_module Other
by_format path (Err (by_cause cause)) = refuses_module Config
by_format path (Err too_deep) = answered (Err (above Depth))

-- own: first the format, with its looks, and then the file
abbrev pub module_source : List ℕ → LookAsking (Result Source NoSource)
module_source path = and_then (file_format path) (by_format path)

abbrev pub put : (question : Question) → LookAsking (Answer question)
put (of_module path) = module_source path
put (of_request conditions parent specifier) = node conditions parent specifier

abbrev pub answers : Sights → Answers Trail LimitName Question Answer
answers sights trail question = evaluated (limited look_limits sights) (begun trail) (put question)

abbrev pub always : Sights → (question : Question) → Answer question
always sights question = outcome sights (put question)
