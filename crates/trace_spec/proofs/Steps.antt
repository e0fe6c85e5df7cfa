-- What one step of a config's rules does: an opening, and a request that goes through its checks.
use Rattle.std.specs.Prelude.{◌≡◌, ℕ, Bool, true, false, List, [], ◌∷◌, length, Option, Some, None, option_map, Result, Ok}
use Rattle.std.specs.Prelude.{Err, unwrap_or, nat_lt, if◌then◌else◌}
use Rattle.std.specs.List.{list_any}
use Rattle.std.specs.Str.{is_utf8, IsUtf8}
use Rattle.std.proofs.Common.{refl, sym, ap, ◌∙◌, subst}
use mathlib.Core.Logic.{inl, inr}
use Rattle.std.proofs.lemmas.Bool.{cases_Bool, cond-true, cond-false, true≢false}
use Rattle.std.proofs.lemmas.Str.{IsUtf8-from_is_utf8}
use Rattle.asking_spec.specs.Askings.{outcome, questions}
use Rattle.asking_spec.specs.Evaluation.{Ended, ends, stopped, evaluated}
use Rattle.asking_spec.proofs.EvaluationLemmas.{ends_outcome}
use Rattle.tree_spec.specs.declared.LimitName.{LimitName}
use Rattle.tree_spec.specs.declared.LimitName.TheVariants.{Modules, Requests, Specifier}
use Rattle.tree_spec.specs.Limits.{limit_number}
use Rattle.tree_spec.specs.LookAskings.{Sights}
use Rattle.tree_spec.specs.LookLimits.{Trail, no_trail, begun, look_limits}
use Rattle.tree_spec.proofs.LimitedLooks.{ends_counted}
use Rattle.url_spec.specs.Specifiers.{is_relative, ends_in_slash, as_url, normalized}
use Rattle.url_spec.specs.ServedPaths.{IsServed}
use Rattle.url_spec.specs.PathTests.{is_served}
use Rattle.url_spec.proofs.NormalTexts.{normal_by, normal_bare}
use Rattle.url_spec.proofs.PathTestLemmas.{served_by_test}
use Rattle.node_spec.specs.NodeAnswers.{Refusal, by_cause, too_deep}
use Rattle.node_spec.proofs.BareSpecifiers.{answered_is_bare}
use Rattle.layout_spec.specs.declared.Need.{Need}
use Rattle.layout_spec.specs.Needs.{clashes}
use Rattle.trace_spec.specs.declared.AskCause.{AskCause}
use Rattle.trace_spec.specs.declared.AskCause.TheVariants.{Unaskable, TrailingSlash}
use Rattle.trace_spec.specs.declared.TraceFault.{TraceFault}
use Rattle.trace_spec.specs.declared.TraceFault.TheVariants.{Limit}
use Rattle.trace_spec.specs.Walking.{Referrer, the_page, a_module, Opened}
use Rattle.trace_spec.specs.Modules.{Config, Module, path_of, web_name, IsServable, served_name, served_at}
use Rattle.trace_spec.specs.Modules.{not_folder, shown, file_name}
use Rattle.trace_spec.specs.Questions.{Source, NoSource, not_module, above, Question, of_module, Answer, answers, always, put}
use Rattle.trace_spec.specs.Checks.{Gathered, Spelling, page_opened, with_source, module_opened, opens, Wanted}
use Rattle.trace_spec.specs.Checks.{url_wanted, text_wanted, wanted_by, wanted, refused_by, wants, checked}
use Rattle.trace_spec.specs.Checks.{clashing, clash_with, with_request, has_room, with_room, needed, named, led}
use Rattle.trace_spec.specs.Checks.{asking_at, followed_by, follows}
use Rattle.trace_spec.specs.Traces.{trace, result_of, traced, if_ok, source, requests, resolution}
use Rattle.trace_spec.specs.Laws.{opening, opening_put, no_source, AsksFor, for_url, for_itself}

-- ---- without limits

pub answers_always : (sights : Sights) (trail after : Trail) (question : Question) (answer : Answer question)
    → answers sights trail question ≡ ends answer after → answer ≡ always sights question
answers_always sights trail after question answer e =
    (ends_counted look_limits sights (begun trail) (put question) answer after e).is

ok_end : (all : Gathered) (end : Ended (Result Gathered TraceFault) Trail LimitName) → result_of end ≡ Ok all
    → (trail : Trail) × (end ≡ ends (Ok all) trail)
ok_end all (ends result trail) e = (trail, ap (λ r. ends r trail) e)
ok_end all (stopped limit trail) e = absurd (cc)

-- what is traced is the outcome without limits
pub traced_outcome : (sights : Sights) (config : Config) (all : Gathered) → traced sights config ≡ Ok all
    → outcome (always sights) (trace config) ≡ Ok all
traced_outcome sights config all e =
    let end = ok_end all (evaluated (answers sights) no_trail (trace config)) e in
    sym (ends_outcome (answers sights) (always sights) (answers_always sights) no_trail end.0 (trace config) (Ok all) end.1)

-- ---- names

pub record Served (config : Config) (path suffix url : List ℕ) : Type 0 where
  pub servable : IsServable config path suffix url

pub served_parts : (base path : List ℕ) (name : Option (List ℕ)) (url : List ℕ) → served_name base path name ≡ Some url
    → (name ≡ Some url) × IsServed base url path
served_parts base path None url e = absurd (cc)
served_parts base path (Some other) url e =
    elim (cases_Bool (is_served base other path)) [
      | inl back ↦
          (let same : ◌≡◌ {A = Option (List ℕ)} (Some other) (Some url) = sym (cond-true _ (Some other) None back)
          ∙ e in (
            same,
            subst (λ u. IsServed base u path) (let p : other ≡ url = cc in p)
                (served_by_test base other path back),
          ))
      | inr lost ↦
          absurd (let f : ◌≡◌ {A = Option (List ℕ)} None (Some url) = sym (cond-false _ (Some other) None lost) ∙ e in
          cc)
    ]

pub record FileName (config : Config) (m : Module) (url : List ℕ) : Type 0 where
  pub servable : IsServable config m.path m.suffix url
  pub is_file : ends_in_slash url ≡ false

not_folder_parts : (name : Option (List ℕ)) (url : List ℕ) → not_folder name ≡ Some url
    → (name ≡ Some url) × (ends_in_slash url ≡ false)
not_folder_parts None url e = absurd (cc)
not_folder_parts (Some other) url e =
    elim (cases_Bool (ends_in_slash other)) [
      | inl slash ↦
          absurd (let f : ◌≡◌ {A = Option (List ℕ)} None (Some url) = sym (cond-true _ None (Some other) slash) ∙ e in
          cc)
      | inr file ↦
          (let same : ◌≡◌ {A = Option (List ℕ)} (Some other) (Some url) = sym (cond-false _ None (Some other) file)
          ∙ e in (same, subst (λ u. ends_in_slash u ≡ false) (let p : other ≡ url = cc in p) file))
    ]

pub file_name_parts : (config : Config) (m : Module) (url : List ℕ) → file_name config m ≡ Some url
    → FileName config m url
file_name_parts config m url e =
    let folder = not_folder_parts (served_at config (a_module m)) url e in
    let parts = served_parts config.base m.path (web_name config (a_module m)) url folder.0 in
    record { servable = record { name = parts.0; back = parts.1 }; is_file = folder.1 }

-- ---- openings

record PageOpens (config : Config) (before : Gathered) (opened : Opened Gathered) : Type 0 where
  specifiers : opened.specifiers ≡ config.entries
  after : opened.after ≡ before

page_opens : (config : Config) (before : Gathered) (name : Option (List ℕ)) (opened : Opened Gathered)
    → page_opened config before name ≡ Ok opened → PageOpens config before opened
page_opens config before None opened e = absurd (cc)
page_opens config before (Some url) opened e =
    let same : opened ≡ record { specifiers = config.entries; after = before } = cc in
    record { specifiers = ap (λ o. o.specifiers) same; after = ap (λ o. o.after) same }

record ModuleOpens (before : Gathered) (found : Result Source NoSource) (opened : Opened Gathered) : Type 0 where
  found_is : Source
  is_found : found ≡ Ok found_is
  specifiers : opened.specifiers ≡ found_is.specifiers
  after : opened.after ≡ with_source before found_is

module_opens : (config : Config) (before : Gathered) (m : Module) (found : Result Source NoSource)
    (opened : Opened Gathered) → module_opened config before m found ≡ Ok opened → ModuleOpens before found opened
module_opens config before m (Err (not_module reason)) opened e = absurd (cc)
module_opens config before m (Err (above limit)) opened e = absurd (cc)
module_opens config before m (Ok some) opened e =
    let same : opened ≡ record { specifiers = some.specifiers; after = with_source before some } = cc in
    record {
      found_is = some;
      is_found = refl;
      specifiers = ap (λ o. o.specifiers) same;
      after = ap (λ o. o.after) same;
    }

pub record Opens (sights : Sights) (config : Config) (before : Gathered) (referrer : Referrer Module)
    (opened : Opened Gathered) : Type 0 where
  pub asks : requests sights config referrer ≡ Some opened.specifiers
  pub after : opened.after ≡ opening_put sights before referrer
  pub questions : questions (always sights) (opens config before referrer) ≡ opening referrer

pub opens_is : (sights : Sights) (config : Config) (before : Gathered) (referrer : Referrer Module)
    (opened : Opened Gathered) → outcome (always sights) (opens config before referrer) ≡ Ok opened
    → Opens sights config before referrer opened
opens_is sights config before the_page opened e =
    let parts = page_opens config before (served_at config the_page) opened e in
    record { asks = ap Some (sym parts.specifiers); after = parts.after; questions = refl }
opens_is sights config before (a_module m) opened e =
    let parts = module_opens config before m (always sights (of_module m.path)) opened e in
    let is_source : source sights m ≡ Some parts.found_is = ap if_ok parts.is_found in
    record {
      asks = ap (option_map (λ (s : Source). s.specifiers)) is_source ∙ ap Some (sym parts.specifiers);
      after = parts.after ∙ ap (λ o. with_source before (unwrap_or o no_source)) (sym is_source);
      questions = refl;
    }

-- an opening leaves modules and needs as they are
pub record LeavesTables (before after : Gathered) : Type 0 where
  pub modules : after.modules ≡ before.modules
  pub needs : after.needs ≡ before.needs
  pub spellings : after.spellings ≡ before.spellings
  pub targets : after.targets ≡ before.targets

leaves_by : (sights : Sights) (before : Gathered) (referrer : Referrer Module)
    → LeavesTables before (opening_put sights before referrer)
leaves_by sights before the_page = record { modules = refl; needs = refl; spellings = refl; targets = refl }
leaves_by sights before (a_module m) = record { modules = refl; needs = refl; spellings = refl; targets = refl }

pub opens_leaves : (sights : Sights) (config : Config) (before : Gathered) (referrer : Referrer Module)
    (opened : Opened Gathered) → outcome (always sights) (opens config before referrer) ≡ Ok opened
    → LeavesTables before opened.after
opens_leaves sights config before referrer opened e =
    subst (LeavesTables before) (sym (opens_is sights config before referrer opened e).after)
    (leaves_by sights before referrer)

-- ---- requests

-- what a request wants, before Node is asked
pub record Wants (config : Config) (referrer : Referrer Module) (specifier : List ℕ) (want : Wanted) : Type 0 where
  pub named : web_name config referrer ≡ Some want.referrer
  pub utf8 : IsUtf8 specifier
  pub asks : normalized want.referrer specifier ≡ want.asked
  pub by_url : is_relative specifier ≡ true → as_url want.referrer specifier ≡ Some want.asked
  pub by_file : is_relative specifier ≡ true → ends_in_slash want.asked ≡ false

-- the same against a name
record WantsFrom (name specifier : List ℕ) (want : Wanted) : Type 0 where
  from : name ≡ want.referrer
  asks : normalized name specifier ≡ want.asked
  by_url : is_relative specifier ≡ true → as_url name specifier ≡ Some want.asked
  by_file : is_relative specifier ≡ true → ends_in_slash want.asked ≡ false

url_parts : (name specifier : List ℕ) (url : Option (List ℕ)) (want : Wanted) → as_url name specifier ≡ url
    → url_wanted name url ≡ Ok want → WantsFrom name specifier want
url_parts name specifier None want is e = absurd (cc)
url_parts name specifier (Some url) want is e = by (ends_in_slash url) refl e
  where
    by : (slash : Bool) → ends_in_slash url ≡ slash
        → (if slash then Err TrailingSlash else Ok (record { referrer = name; asked = url })) ≡ Ok want
        → WantsFrom name specifier want
    by true slash f = absurd (cc)
    by false file f =
        let same : record { referrer = name; asked = url } ≡ want = cc in
        subst (WantsFrom name specifier) same
        (record {
          from = refl;
          asks = normal_by name specifier url is;
          by_url = λ relative. is;
          by_file = λ relative. file;
        })

text_parts : (name specifier : List ℕ) (want : Wanted) → text_wanted name specifier ≡ Ok want
    → WantsFrom name specifier want
text_parts name specifier want e = by (is_relative specifier) refl e
  where
    by : (relative : Bool) → is_relative specifier ≡ relative
        → (if relative
        then url_wanted name (as_url name specifier)
        else Ok (record { referrer = name; asked = normalized name specifier })) ≡ Ok want
        → WantsFrom name specifier want
    by true relative f = url_parts name specifier (as_url name specifier) want refl f
    by false other f =
        let same : record { referrer = name; asked = normalized name specifier } ≡ want = cc in
        subst (WantsFrom name specifier) same
        (record {
          from = refl;
          asks = refl;
          by_url = λ relative. absurd (true≢false (sym relative ∙ other));
          by_file = λ relative. absurd (true≢false (sym relative ∙ other));
        })

wants_by : (config : Config) (referrer : Referrer Module) (specifier : List ℕ) (name : Option (List ℕ)) (want : Wanted)
    → web_name config referrer ≡ name → wanted_by specifier name ≡ Ok want → Wants config referrer specifier want
wants_by config referrer specifier None want is e = absurd (cc)
wants_by config referrer specifier (Some name) want is e = by (is_utf8 specifier) refl e
  where
    by : (text : Bool) → is_utf8 specifier ≡ text
        → (if text then text_wanted name specifier else Err Unaskable) ≡ Ok want
        → Wants config referrer specifier want
    by false text f = absurd (cc)
    by true text f =
        let parts = text_parts name specifier want f in
        record {
          named = is ∙ ap Some parts.from;
          utf8 = IsUtf8-from_is_utf8 specifier text;
          asks = subst (λ n. normalized n specifier ≡ want.asked) parts.from parts.asks;
          by_url = λ relative. subst (λ n. as_url n specifier ≡ Some want.asked) parts.from (parts.by_url relative);
          by_file = parts.by_file;
        }

pub record Checked (config : Config) (before : Gathered) (referrer : Referrer Module) (specifier : List ℕ)
    (want : Wanted) : Type 0 where
  pub few : nat_lt (length before.targets) (limit_number Requests) ≡ true
  pub short : nat_lt (limit_number Specifier) (length specifier) ≡ false
  pub wants : Wants config referrer specifier want

pub checked_parts : (config : Config) (before : Gathered) (referrer : Referrer Module) (specifier : List ℕ)
    (want : Wanted) → checked config before referrer specifier ≡ Ok want
    → Checked config before referrer specifier want
checked_parts config before referrer specifier want e =
    by (nat_lt (length before.targets) (limit_number Requests)) (nat_lt (limit_number Specifier) (length specifier)) refl refl e
  where
    wants_parts : (found : Result Wanted AskCause) → wanted config referrer specifier ≡ found
        → wants config referrer specifier found ≡ Ok want → Wants config referrer specifier want
    wants_parts (Err cause) is f = absurd (cc)
    wants_parts (Ok other) is f =
        let same : other ≡ want = cc in
        wants_by config referrer specifier (web_name config referrer) want refl (is ∙ ap Ok same)

    by : (few long : Bool) → nat_lt (length before.targets) (limit_number Requests) ≡ few
        → nat_lt (limit_number Specifier) (length specifier) ≡ long
        → (if few
        then (if long then Err (Limit Specifier) else wants config referrer specifier (wanted config referrer specifier))
        else Err (Limit Requests)) ≡ Ok want
        → Checked config before referrer specifier want
    by false long is_few is_long f = absurd (cc)
    by true true is_few is_long f = absurd (cc)
    by true false is_few is_long f = record {
      few = is_few;
      short = is_long;
      wants = wants_parts (wanted config referrer specifier) refl f;
    }

pub record Fits (before : Gathered) (need : Need) (spelling : Spelling) (after : Gathered) : Type 0 where
  pub clear : list_any (clashes need) before.needs ≡ false
  pub room : has_room before.modules spelling.target ≡ true
  pub is : after ≡ with_request before need spelling

placed_parts : (before : Gathered) (need : Need) (spelling : Spelling) (after : Gathered)
    → with_room before need spelling ≡ Ok after
    → (has_room before.modules spelling.target ≡ true) × (after ≡ with_request before need spelling)
placed_parts before need spelling after e = by (has_room before.modules spelling.target) refl e
  where
    by : (room : Bool) → has_room before.modules spelling.target ≡ room
        → (if room then Ok (with_request before need spelling) else Err (Limit Modules)) ≡ Ok after
        → (has_room before.modules spelling.target ≡ true) × (after ≡ with_request before need spelling)
    by false none f = absurd (cc)
    by true room f = (room, (let same : after ≡ with_request before need spelling = cc in same))

needed_parts : (config : Config) (before : Gathered) (referrer : Referrer Module) (need : Need) (spelling : Spelling)
    (after : Gathered) → needed config before referrer need spelling ≡ Ok after → Fits before need spelling after
needed_parts config before referrer need spelling after e = by (list_any (clashes need) before.needs) refl e
  where
    by : (clash : Bool) → list_any (clashes need) before.needs ≡ clash
        → (if clash
        then Err (clash_with config referrer (clashing need before.needs before.spellings) spelling)
        else with_room before need spelling) ≡ Ok after
        → Fits before need spelling after
    by true clash f = absurd (cc)
    by false clear f =
        let parts = placed_parts before need spelling after f in
        record { clear = clear; room = parts.0; is = parts.1 }

-- a request that went through its checks
pub record Follows (sights : Sights) (config : Config) (before : Gathered) (referrer : Referrer Module)
    (specifier : List ℕ) (after : Gathered) : Type 0 where
  pub want : Wanted
  pub checked : Checked config before referrer specifier want
  pub target : Module
  pub answers : resolution sights config referrer specifier ≡ Ok target
  pub url : List ℕ
  pub is_name : file_name config target ≡ Some url
  pub fits : Fits before (record { referrer = want.referrer; asked = want.asked; target = url })
      (record { referrer = shown config referrer; specifier = specifier; target = target }) after
  pub questions : questions (always sights) (follows config before referrer specifier)
      ≡ asking_at config referrer specifier ∷ []

module _ (sights : Sights) (config : Config) (before : Gathered) (referrer : Referrer Module) (specifier : List ℕ)
    (after : Gathered) where
  record LedTo (want : Wanted) (found : Result Module Refusal) : Type 0 where
    target : Module
    answers : found ≡ Ok target
    url : List ℕ
    is_name : file_name config target ≡ Some url
    fits : Fits before (record { referrer = want.referrer; asked = want.asked; target = url })
        (record { referrer = shown config referrer; specifier = specifier; target = target }) after

  led_named : (want : Wanted) (target : Module) (name : Option (List ℕ)) → served_at config (a_module target) ≡ name
      → named config before referrer want
      (record { referrer = shown config referrer; specifier = specifier; target = target }) name ≡ Ok after
      → LedTo want (Ok target)
  led_named want target None is e = absurd (cc)
  led_named want target (Some url) is e = by (ends_in_slash url) refl e
    where
      by : (slash : Bool) → ends_in_slash url ≡ slash
          → (if slash
          then Err (refused_by config referrer specifier TrailingSlash)
          else needed config before referrer (record { referrer = want.referrer; asked = want.asked; target = url })
          (record { referrer = shown config referrer; specifier = specifier; target = target })) ≡ Ok after
          → LedTo want (Ok target)
      by true slash f = absurd (cc)
      by false file f = record {
        target = target;
        answers = refl;
        url = url;
        is_name = ap not_folder is ∙ cond-false _ None (Some url) file;
        fits = needed_parts config before referrer _ _ after f;
      }

  led_parts : (want : Wanted) (found : Result Module Refusal) → led config before referrer specifier want found ≡ Ok after
      → LedTo want found
  led_parts want (Err (by_cause cause)) e = absurd (cc)
  led_parts want (Err too_deep) e = absurd (cc)
  led_parts want (Ok target) e = led_named want target (served_at config (a_module target)) refl e

  follows_by : (want : Result Wanted TraceFault) → checked config before referrer specifier ≡ want
      → outcome (always sights) (followed_by config before referrer specifier want) ≡ Ok after
      → Follows sights config before referrer specifier after
  follows_by (Err refusal) is e = absurd (cc)
  follows_by (Ok want) is e =
      let parts = led_parts want (resolution sights config referrer specifier) e in
      record {
        want = want;
        checked = checked_parts config before referrer specifier want is;
        target = parts.target;
        answers = parts.answers;
        url = parts.url;
        is_name = parts.is_name;
        fits = parts.fits;
        questions = ap (λ w. questions (always sights) (followed_by config before referrer specifier w)) is;
      }

  pub follows_is : outcome (always sights) (follows config before referrer specifier) ≡ Ok after
      → Follows sights config before referrer specifier after
  follows_is e = follows_by (checked config before referrer specifier) refl e

-- what a request asks for that Node answers
pub asks_for : (sights : Sights) (config : Config) (referrer : Referrer Module) (specifier : List ℕ) (want : Wanted)
    (target : Module) → Wants config referrer specifier want → resolution sights config referrer specifier ≡ Ok target
    → AsksFor want.referrer specifier want.asked
asks_for sights config referrer specifier want target wants answers = by (is_relative specifier) refl
  where
    by : (relative : Bool) → is_relative specifier ≡ relative → AsksFor want.referrer specifier want.asked
    by true relative = for_url relative (wants.by_url relative) (wants.by_file relative)
    by false other =
        let bare = answered_is_bare sights config.conditions (path_of config referrer) specifier target other answers in
        for_itself other bare (sym wants.asks ∙ normal_bare want.referrer specifier other bare.no_url)

-- what a request asks for that went through its checks
pub follows_asks : (sights : Sights) (config : Config) (before : Gathered) (referrer : Referrer Module)
    (specifier : List ℕ) (after : Gathered) (is : Follows sights config before referrer specifier after)
    → AsksFor is.want.referrer specifier is.want.asked
follows_asks sights config before referrer specifier after is =
    asks_for sights config referrer specifier is.want is.target is.checked.wants is.answers
