-- The kinds of refusals.
use Rattle.std.specs.Prelude.{◌≡◌, ◌≤◌, ◌&&◌, not, ⊤, ℕ, Bool, true, false, List, length, map, Option, Some, None, Result, Ok, Err}
use Rattle.std.specs.Prelude.{nat_lt, if◌then◌else◌}
use Rattle.std.specs.List.{list_any}
use Rattle.std.specs.Str.{is_utf8}
use Rattle.std.specs.Str.Lossy.{utf8_valid_len}
use Rattle.std.proofs.Common.{refl, sym, ◌∙◌, subst}
use Rattle.std.proofs.lemmas.Bool.{ltb-false}
use Rattle.asking_spec.specs.Askings.{Asking, outcome}
use Rattle.asking_spec.specs.Evaluation.{Ended, ends, stopped, evaluated}
use Rattle.asking_spec.proofs.EvaluationLemmas.{ends_outcome, evaluated_stops}
use Rattle.tree_spec.specs.declared.Entry.{Entry}
use Rattle.tree_spec.specs.declared.Entry.TheVariants.{Stored, Directory}
use Rattle.tree_spec.specs.declared.LimitName.{LimitName}
use Rattle.tree_spec.specs.declared.LimitName.TheVariants.{File, Looks, Bytes, Modules, Requests, Specifier}
use Rattle.tree_spec.specs.Limits.{limit_number}
use Rattle.tree_spec.specs.LookAskings.{Sights}
use Rattle.tree_spec.specs.LookLimits.{Trail, begun, look_limits, seen_again, seen_first, counted, told, limited}
use Rattle.url_spec.specs.Specifiers.{ends_in_slash}
use Rattle.module_spec.specs.declared.request.Request.{Request}
use Rattle.module_spec.specs.declared.request.ModuleFault.{ModuleFault}
use Rattle.module_spec.specs.declared.request.ModuleFault.TheVariants as fault
use Rattle.module_spec.specs.Outlines.{Outline}
use Rattle.module_spec.specs.OutlineReading.{read_outline}
use Rattle.node_spec.specs.declared.Reason.TheVariants.{CommonJs, Unreadable}
use Rattle.node_spec.specs.EsmFileFormat.{Format, IsModule, IsDetected, IsCommonJs, IsJson, IsAddon, HasBadConfig}
use Rattle.node_spec.specs.EsmFileFormat.{IsOther, file_format}
use Rattle.node_spec.specs.NodeAnswers.{Refusal, by_cause, too_deep}
use Rattle.layout_spec.specs.declared.Need.{Need}
use Rattle.layout_spec.specs.Needs.{clashes}
use Rattle.asking_spec.proofs.AskingLemmas.{outcome_then}
use Rattle.trace_spec.specs.declared.AskCause.{AskCause}
use Rattle.trace_spec.specs.declared.AskCause.TheVariants.{TrailingSlash}
use Rattle.trace_spec.specs.declared.TraceFault.{TraceFault}
use Rattle.trace_spec.specs.declared.TraceFault.TheVariants.{Unservable, Refused, Clash, NotModule, Limit, ReadFault}
use Rattle.trace_spec.specs.declared.TraceFault.TheVariants.{Memory}
use Rattle.trace_spec.specs.Walking.{Referrer, the_page, a_module}
use Rattle.trace_spec.specs.Modules.{Config, Module, served_at, shown}
use Rattle.trace_spec.specs.Questions.{Source, NoSource, not_module, above, Question, of_module, Answer, by_outline}
use Rattle.trace_spec.specs.Questions.{by_bytes, by_entry, by_format, put, answers, always}
use Rattle.trace_spec.specs.Checks.{Gathered, Spelling, page_opened, module_opened, opens, Wanted, wanted, refused_by}
use Rattle.trace_spec.specs.Checks.{wants, checked, clashing, clash_with, with_request, has_room, with_room, needed}
use Rattle.trace_spec.specs.Checks.{named, led, followed_by, follows}
use Rattle.trace_spec.specs.Traces.{result_of, traced, resolution}
use Rattle.trace_spec.specs.Kinds.{IsTraceLimit, IsOfTrace}
use Rattle.trace_spec.specs.Laws.{ComesTo, RefusedAt, at_opening, at_request, RefusesByKind}
use Rattle.trace_spec.proofs.Steps.{answers_always}
use Rattle.trace_spec.proofs.RefusalOrder.{refused_in_order}
use Rattle.trace_spec.proofs.Clashes.{clashes_are_of_requests}

-- ---- limits of looks

chain_stops : (seen large room heavy : Bool) (again first : Trail) (limit : LimitName)
    → (if seen then (if large then Err File else Ok again)
    else if room then Err Looks
    else if large then Err File
    else if heavy then Err Bytes
    else Ok first) ≡ Err limit
    → IsTraceLimit limit
chain_stops true true room heavy again first limit e = let p : File ≡ limit = cc in subst IsTraceLimit p tt
chain_stops true false room heavy again first limit e = absurd (cc)
chain_stops false large true heavy again first limit e = let p : Looks ≡ limit = cc in subst IsTraceLimit p tt
chain_stops false true false heavy again first limit e = let p : File ≡ limit = cc in subst IsTraceLimit p tt
chain_stops false false false true again first limit e = let p : Bytes ≡ limit = cc in subst IsTraceLimit p tt
chain_stops false false false false again first limit e = absurd (cc)

told_stops : (found : Option Entry) (trail after : Trail) (limit : LimitName) (counts : Result Trail LimitName)
    → ((name : LimitName) → counts ≡ Err name → IsTraceLimit name)
    → told found trail counts ≡ stopped limit after → IsTraceLimit limit
told_stops found trail after limit (Ok next) kinds e = absurd (cc)
told_stops found trail after limit (Err name) kinds e =
    let p : name ≡ limit = cc in subst IsTraceLimit p (kinds name refl)

look_stops : (sights : Sights) (trail after : Trail) (path : List ℕ) (limit : LimitName)
    → limited look_limits sights trail path ≡ stopped limit after → IsTraceLimit limit
look_stops sights trail after path limit e =
    told_stops (sights path) trail after limit (counted look_limits trail path (sights path))
    (λ name f. chain_stops _ _ _ _ (seen_again trail path) (seen_first trail path (sights path)) name f) e

answers_stop : (sights : Sights) (trail after : Trail) (question : Question) (limit : LimitName)
    → answers sights trail question ≡ stopped limit after → IsTraceLimit limit
answers_stop sights trail after question limit e =
    evaluated_stops IsTraceLimit (limited look_limits sights)
    (λ state later path stop f. look_stops sights state later path stop f) (begun trail) after (put question) limit e

-- ---- sources

-- a limit that is passed as a module is read is a trace's
abbrev IsFine : Result Source NoSource → Type 0
IsFine (Ok source) = ⊤
IsFine (Err (not_module reason)) = ⊤
IsFine (Err (above limit)) = IsTraceLimit limit

outline_fine : (is_detected : Bool) (bytes : List ℕ) (read : Result Outline ModuleFault)
    → IsFine (by_outline is_detected bytes read)
outline_fine is_detected bytes (Err (fault.Unreadable at)) = tt
outline_fine is_detected bytes (Err fault.TooDeep) = tt
outline_fine is_detected bytes (Err fault.TooManyRequests) = tt
outline_fine is_detected bytes (Ok outline) =
    by (is_detected && not outline.declares)
  where
    by : (test : Bool) → IsFine (if test
        then Err (not_module CommonJs)
        else Ok (record { bytes = bytes; specifiers = map (λ (request : Request). request.text) outline.requests }))
    by true = tt
    by false = tt

bytes_fine : (is_detected : Bool) (bytes : List ℕ) → IsFine (by_bytes is_detected bytes)
bytes_fine is_detected bytes = by (is_utf8 bytes)
  where
    by : (text : Bool) → IsFine (if text
        then by_outline is_detected bytes (read_outline bytes)
        else Err (not_module (Unreadable (utf8_valid_len bytes))))
    by true = outline_fine is_detected bytes (read_outline bytes)
    by false = tt

entry_fine : (is_detected : Bool) (found : Option Entry) → IsFine (by_entry is_detected found)
entry_fine is_detected None = tt
entry_fine is_detected (Some Directory) = tt
entry_fine is_detected (Some (Stored bytes)) = bytes_fine is_detected bytes

format_fine : (sights : Sights) (path : List ℕ) (format : Result Format Refusal)
    → IsFine (outcome sights (by_format path format))
format_fine sights path (Ok IsModule) = entry_fine false (sights path)
format_fine sights path (Ok IsDetected) = entry_fine true (sights path)
format_fine sights path (Ok IsCommonJs) = tt
format_fine sights path (Ok IsJson) = tt
format_fine sights path (Ok IsAddon) = tt
format_fine sights path (Ok HasBadConfig) = tt
format_fine sights path (Ok IsOther) = tt
format_fine sights path (Err (by_cause cause)) = tt
format_fine sights path (Err too_deep) = tt

source_fine : (sights : Sights) (path : List ℕ) → IsFine (always sights (of_module path))
source_fine sights path =
    subst IsFine (sym (outcome_then sights (file_format path) (by_format path)))
    (format_fine sights path (outcome sights (file_format path)))

-- ---- checks

-- what one step refuses; how long the specifiers of a clash are, the law of clashes says
abbrev IsOfStep : Config → TraceFault → Type 0
IsOfStep config (Unservable path url) = IsOfTrace config (Unservable path url)
IsOfStep config (Refused referrer specifier cause) = IsOfTrace config (Refused referrer specifier cause)
IsOfStep config (Clash referrer first first_to second second_to) = ⊤
IsOfStep config (NotModule path reason) = ⊤
IsOfStep config (Limit which) = IsTraceLimit which
IsOfStep config ReadFault = ⊥
IsOfStep config Memory = ⊥

-- a refusal of such a kind, or none
abbrev OfKind : {X : Type 0} → Config → Result X TraceFault → Type 0
OfKind config (Ok value) = ⊤
OfKind config (Err refusal) = IsOfStep config refusal

abbrev IsShort : List ℕ → Type 0
IsShort specifier = length specifier ≤ limit_number Specifier

-- what is checked before Node is asked; where that passes, the specifier isn't too long
abbrev OfCheck : Config → List ℕ → Result Wanted TraceFault → Type 0
OfCheck config specifier (Ok want) = IsShort specifier
OfCheck config specifier (Err refusal) = IsOfStep config refusal

module _ (sights : Sights) (config : Config) where
  page_kind : (before : Gathered) (name : Option (List ℕ)) → served_at config the_page ≡ name
      → OfKind config (page_opened config before name)
  page_kind before None is = record { which = the_page; path_is = refl; url_is = refl; lost = is }
  page_kind before (Some url) is = tt

  module_kind : (before : Gathered) (m : Module) (found : Result Source NoSource) → IsFine found
      → OfKind config (module_opened config before m found)
  module_kind before m (Err (not_module reason)) fine = tt
  module_kind before m (Err (above limit)) fine = fine
  module_kind before m (Ok found) fine = tt

  opens_kind : (before : Gathered) (referrer : Referrer Module)
      → OfKind config (outcome (always sights) (opens config before referrer))
  opens_kind before the_page = page_kind before (served_at config the_page) refl
  opens_kind before (a_module m) =
      module_kind before m (always sights (of_module m.path)) (source_fine sights m.path)

  wants_kind : (referrer : Referrer Module) (specifier : List ℕ) → IsShort specifier → (want : Result Wanted AskCause)
      → OfCheck config specifier (wants config referrer specifier want)
  wants_kind referrer specifier short (Ok want) = short
  wants_kind referrer specifier short (Err cause) = short

  checked_kind : (before : Gathered) (referrer : Referrer Module) (specifier : List ℕ)
      → OfCheck config specifier (checked config before referrer specifier)
  checked_kind before referrer specifier =
      by (nat_lt (length before.targets) (limit_number Requests)) (nat_lt (limit_number Specifier) (length specifier)) refl
    where
      by : (few long : Bool) → nat_lt (limit_number Specifier) (length specifier) ≡ long
          → OfCheck config specifier (if few
          then (if long
          then Err (Limit Specifier)
          else wants config referrer specifier (wanted config referrer specifier))
          else Err (Limit Requests))
      by false long is = tt
      by true true is = tt
      by true false is =
          wants_kind referrer specifier (ltb-false (limit_number Specifier) (length specifier) is)
          (wanted config referrer specifier)

  with_room_kind : (before : Gathered) (need : Need) (spelling : Spelling)
      → OfKind config (with_room before need spelling)
  with_room_kind before need spelling = by (has_room before.modules spelling.target)
    where
      by : (room : Bool) → OfKind config (if room then Ok (with_request before need spelling) else Err (Limit Modules))
      by true = tt
      by false = tt

  needed_kind : (before : Gathered) (referrer : Referrer Module) (need : Need) (spelling : Spelling)
      → OfKind config (needed config before referrer need spelling)
  needed_kind before referrer need spelling = by (list_any (clashes need) before.needs)
    where
      by : (clash : Bool) → OfKind config (if clash
          then Err (clash_with config referrer (clashing need before.needs before.spellings) spelling)
          else with_room before need spelling)
      by true = tt
      by false = with_room_kind before need spelling

  named_kind : (before : Gathered) (referrer : Referrer Module) (want : Wanted) (spelling : Spelling)
      (name : Option (List ℕ)) → served_at config (a_module spelling.target) ≡ name → IsShort spelling.specifier
      → OfKind config (named config before referrer want spelling name)
  named_kind before referrer want spelling None is short =
      record { which = a_module spelling.target; path_is = refl; url_is = refl; lost = is }
  named_kind before referrer want spelling (Some url) is short = by (ends_in_slash url)
    where
      by : (slash : Bool) → OfKind config (if slash
          then Err (refused_by config referrer spelling.specifier TrailingSlash)
          else needed config before referrer (record { referrer = want.referrer; asked = want.asked; target = url })
          spelling)
      by true = short
      by false = needed_kind before referrer _ spelling

  led_kind : (before : Gathered) (referrer : Referrer Module) (specifier : List ℕ) (want : Wanted) → IsShort specifier
      → (found : Result Module Refusal) → OfKind config (led config before referrer specifier want found)
  led_kind before referrer specifier want short (Err (by_cause cause)) = short
  led_kind before referrer specifier want short (Err too_deep) = tt
  led_kind before referrer specifier want short (Ok target) =
      named_kind before referrer want
      (record { referrer = shown config referrer; specifier = specifier; target = target })
      (served_at config (a_module target)) refl short

  followed_kind : (before : Gathered) (referrer : Referrer Module) (specifier : List ℕ)
      (want : Result Wanted TraceFault) → OfCheck config specifier want
      → OfKind config (outcome (always sights) (followed_by config before referrer specifier want))
  followed_kind before referrer specifier (Err refusal) kind = kind
  followed_kind before referrer specifier (Ok want) short =
      led_kind before referrer specifier want short (resolution sights config referrer specifier)

  -- ---- a refusal

  answers_stopped : {X : Type 0} (asking : Asking Question Answer X) (before after : Trail) (limit : LimitName)
      → evaluated (answers sights) before asking ≡ stopped limit after → IsTraceLimit limit
  answers_stopped asking before after limit e =
      evaluated_stops IsTraceLimit (answers sights)
      (λ state later question stop f. answers_stop sights state later question stop f) before after asking limit e

  result_kind : {X : Type 0} (asking : Asking Question Answer (Result X TraceFault)) (before : Trail)
      (refusal : TraceFault) → OfKind config (outcome (always sights) asking)
      → (end : Ended (Result X TraceFault) Trail LimitName)
      → evaluated (answers sights) before asking ≡ end → result_of end ≡ Err refusal → IsOfStep config refusal
  result_kind asking before refusal kind (ends result trail) is e =
      let outcome_is =
      ends_outcome (answers sights) (always sights) (answers_always sights) before trail asking result is in
      subst (OfKind config) (sym outcome_is ∙ e) kind
  result_kind asking before refusal kind (stopped limit trail) is e =
      let same : Limit limit ≡ refusal = cc in
      subst (IsOfStep config) same (answers_stopped asking before trail limit is)

  comes_kind : {X : Type 0} (asking : Asking Question Answer (Result X TraceFault)) (before : Trail)
      (refusal : TraceFault) → OfKind config (outcome (always sights) asking)
      → ComesTo sights before asking (Err refusal) → IsOfStep config refusal
  comes_kind asking before refusal kind comes =
      result_kind asking before refusal kind (evaluated (answers sights) before asking) refl comes

  refused_at_kind : (before : Gathered) (trail : Trail) (referrer : Referrer Module) (refusal : TraceFault)
      (asked : List Question) → RefusedAt sights config before trail referrer refusal asked
      → IsOfStep config refusal
  refused_at_kind before trail referrer refusal _ (at_opening refuses) =
      comes_kind (opens config before referrer) trail refusal (opens_kind before referrer) refuses
  refused_at_kind before trail referrer refusal _ (at_request front specifier is) =
      comes_kind (follows config is.tables referrer specifier) is.later refusal
      (followed_kind is.tables referrer specifier (checked config is.tables referrer specifier)
      (checked_kind is.tables referrer specifier)) is.refused

kind_of : (sights : Sights) (config : Config) (refusal : TraceFault) → traced sights config ≡ Err refusal
    → IsOfStep config refusal → IsOfTrace config refusal
kind_of sights config (Unservable path url) e is = is
kind_of sights config (Refused referrer specifier cause) e is = is
kind_of sights config (Clash referrer first first_to second second_to) e is =
    let clash = clashes_are_of_requests sights config referrer first first_to second second_to e in
    (subst (λ s. length s ≤ limit_number Specifier) (sym clash.shown_first) clash.one.short, clash.two.short)
kind_of sights config (NotModule path reason) e is = tt
kind_of sights config (Limit which) e is = is
kind_of sights config ReadFault e is = is
kind_of sights config Memory e is = is

pub refuses_by_kind : RefusesByKind
refuses_by_kind sights config refusal e =
    let at = refused_in_order sights config refusal e in
    kind_of sights config refusal e
    (refused_at_kind sights config at.before at.trail at.referrer refusal at.asked_last at.refused)
