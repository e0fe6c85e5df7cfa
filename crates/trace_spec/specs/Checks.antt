-- The checks of a trace: what opens the visit of a referrer, and what is checked of a request, in order.
--     Gathered                                     the tables of what came before
--     opens config before referrer                 the page can be served; a module has a source
--     checked config before referrer specifier     before Node is asked: the sum of requests; the length of the
--                                                  specifier; what it asks for
--     led config before referrer specifier want found      by Node's answer: the name of what the request leads to;
--                                                  that its need clashes with none before it; the number of modules
--     follows config before referrer specifier     all of this
--     rules config                                 the rules of a walk
--     with_source before source                    the tables with one more source, behind the others
--     text_wanted name specifier                   what a specifier asks for, by the web name of who asks: a relative
--                                                  one for its URL, any other for its normalized text; or the cause why
--                                                  it asks for nothing
--     wanted config referrer specifier             the same by the referrer's web name; without one, or where the
--                                                  specifier isn't UTF-8, it asks for nothing
--     refused_by config referrer specifier cause   the request is refused by this cause
--     wants config referrer specifier want         what is asked for; a cause why it is nothing refuses the request
--     no_spelling                                  what stands for a spelling where there is none
--     clash_with config referrer first second      the referrer's need, which it spells in the second way, clashes with
--                                                  one that is spelled in the first
--     with_request before need spelling            the tables behind one more request: what it leads to, which is put
--                                                  among the modules where it is new; and its need and how that is
--                                                  spelled, where the need is new
--     with_room before need spelling               the same, where there is room for what the request leads to
--     needed config before referrer need spelling  the same, where its need also clashes with none before
--     named config before referrer want spelling url      the same, by the URL at which what it leads to is served:
--                                                  there must be one, and it is no folder's
--     asking_at config referrer specifier          what Node is asked of the request
--     followed_by config before referrer specifier want      Node is asked, and its answer checked, where the checks
--                                                  before it pass; else their refusal stands
--     nothing_gathered                             the tables at the start, which are empty
use Rattle.std.specs.Prelude.{◌||◌, ℕ, Bool, List, [], ◌∷◌, ◌++◌, length, nat_lt, Option, Some, None, Result, Ok}
use Rattle.std.specs.Prelude.{Err, if◌then◌else◌}
use Rattle.std.specs.List.{list_any}
use Rattle.std.specs.Str.{is_utf8}
use Rattle.asking_spec.specs.Askings.{Asking, answered, ask}
use Rattle.tree_spec.specs.declared.LimitName.TheVariants.{Modules, Requests, Specifier, Depth}
use Rattle.tree_spec.specs.Limits.{limit_number}
use Rattle.url_spec.specs.Specifiers.{is_relative, ends_in_slash, as_url, normalized}
use Rattle.node_spec.specs.NodeAnswers.{Refusal, by_cause, too_deep}
use Rattle.layout_spec.specs.declared.Need.{Need}
use Rattle.layout_spec.specs.Needs.{is_need, clashes, with_need}
use Rattle.trace_spec.specs.declared.AskCause.{AskCause}
use Rattle.trace_spec.specs.declared.AskCause.TheVariants.{Unaskable, TrailingSlash}
use Rattle.trace_spec.specs.declared.TraceFault.{TraceFault}
use Rattle.trace_spec.specs.declared.TraceFault.TheVariants.{Unservable, Refused, Clash, NotModule, Limit}
use Rattle.trace_spec.specs.Causes.{ask_cause}
use Rattle.trace_spec.specs.Walking.{Referrer, the_page, a_module, new_modules, Opened, Rules}
use Rattle.trace_spec.specs.Modules.{Config, Module, is_module, path_of, web_name, shown, served_at}
use Rattle.trace_spec.specs.Questions.{Source, NoSource, not_module, above, Question, of_module, of_request, Answer}

-- own: how a need is first spelled: who asks, as shown to a user, the specifier, and the module that it leads to
pub record Spelling : Type 0 where
  pub referrer : List ℕ
  pub specifier : List ℕ
  pub target : Module

-- own: the modules that were asked for, and the needs, each once at its first place; how each need was first spelled,
-- at the place of the need; the sources of the modules whose visits were opened, in the order of the modules; and to
-- each request that was followed, in their order, the module that it leads to
pub record Gathered : Type 0 where
  pub modules : List Module
  pub sources : List Source
  pub needs : List Need
  pub spellings : List Spelling
  pub targets : List Module

-- ---- what opens a visit

-- own: the page is servable
abbrev pub page_opened : Config → Gathered → Option (List ℕ) → Result (Opened Gathered) TraceFault
page_opened config before None = Err (Unservable (shown config the_page) (web_name config the_page))
page_opened config before (Some url) = Ok (record { specifiers = config.entries; after = before })

abbrev pub with_source : Gathered → Source → Gathered
with_source before source =
    record {
      modules = before.modules;
      sources = before.sources ++ source ∷ [];
      needs = before.needs;
      spellings = before.spellings;
      targets = before.targets;
    }

-- own: the module has a source
abbrev pub module_opened : Config → Gathered → Module → Result Source NoSource → Result (Opened Gathered) TraceFault
module_opened config before m (Err (not_module reason)) = Err (NotModule (shown config (a_module m)) reason)
module_opened config before m (Err (above limit)) = Err (Limit limit)
module_opened config before m (Ok source) =
    Ok (record { specifiers = source.specifiers; after = with_source before source })

abbrev pub opens : Config → Gathered → Referrer Module → Asking Question Answer (Result (Opened Gathered) TraceFault)
opens config before the_page = answered (page_opened config before (served_at config the_page))
opens config before (a_module m) = ask (of_module m.path) (λ found. answered (module_opened config before m found))

-- ---- what a specifier asks for

-- own: who asks, by its web name, and what for, by the normalized specifier
pub record Wanted : Type 0 where
  pub referrer : List ℕ
  pub asked : List ℕ

-- own: of a relative specifier the URL, which is no folder's (HTML, import maps: resolve a URL-like module specifier)
abbrev pub url_wanted : List ℕ → Option (List ℕ) → Result Wanted AskCause
url_wanted name None = Err Unaskable
url_wanted name (Some url) =
    if ends_in_slash url then Err TrailingSlash else Ok (record { referrer = name; asked = url })

abbrev pub text_wanted : List ℕ → List ℕ → Result Wanted AskCause
text_wanted name specifier =
    if is_relative specifier
    then url_wanted name (as_url name specifier)
    else Ok (record { referrer = name; asked = normalized name specifier })

-- own: what isn't UTF-8 asks for nothing, and nothing asks that has no web name. The value of a string literal and the
-- words of a command line are UTF-8, and each referrer whose visit was opened has a web name
abbrev pub wanted_by : List ℕ → Option (List ℕ) → Result Wanted AskCause
wanted_by specifier None = Err Unaskable
wanted_by specifier (Some name) = if is_utf8 specifier then text_wanted name specifier else Err Unaskable

abbrev pub wanted : Config → Referrer Module → List ℕ → Result Wanted AskCause
wanted config referrer specifier = wanted_by specifier (web_name config referrer)

-- ---- what is checked before Node is asked

abbrev pub refused_by : Config → Referrer Module → List ℕ → AskCause → TraceFault
refused_by config referrer specifier cause = Refused (shown config referrer) specifier cause

abbrev pub wants : Config → Referrer Module → List ℕ → Result Wanted AskCause → Result Wanted TraceFault
wants config referrer specifier (Ok want) = Ok want
wants config referrer specifier (Err cause) = Err (refused_by config referrer specifier cause)

-- own: one request more is allowed, and the specifier isn't too long
abbrev pub checked : Config → Gathered → Referrer Module → List ℕ → Result Wanted TraceFault
checked config before referrer specifier =
    if nat_lt (length before.targets) (limit_number Requests)
    then (if nat_lt (limit_number Specifier) (length specifier)
    then Err (Limit Specifier)
    else wants config referrer specifier (wanted config referrer specifier))
    else Err (Limit Requests)

-- ---- what is checked by Node's answer

abbrev pub no_spelling : Spelling
no_spelling = record { referrer = []; specifier = []; target = record { path = []; suffix = [] } }

-- how the first of these needs that clashes with this one was spelled
abbrev pub clashing : Need → List Need → List Spelling → Spelling
clashing need [] spellings = no_spelling
clashing need (other ∷ needs) [] = no_spelling
clashing need (other ∷ needs) (spelling ∷ spellings) =
    if clashes need other then spelling else clashing need needs spellings

abbrev pub clash_with : Config → Referrer Module → Spelling → Spelling → TraceFault
clash_with config referrer first second =
    Clash (shown config referrer) first.specifier (shown config (a_module first.target)) second.specifier
    (shown config (a_module second.target))

-- a need is put at the end with its spelling, unless it is there
abbrev pub with_spelling : List Need → Need → List Spelling → Spelling → List Spelling
with_spelling needs need spellings spelling =
    if list_any (is_need need) needs then spellings else spellings ++ spelling ∷ []

abbrev pub with_request : Gathered → Need → Spelling → Gathered
with_request before need spelling =
    record {
      modules = before.modules ++ new_modules is_module before.modules (spelling.target ∷ []);
      sources = before.sources;
      needs = with_need before.needs need;
      spellings = with_spelling before.needs need before.spellings spelling;
      targets = before.targets ++ spelling.target ∷ [];
    }

-- own: the module is known, or there is room for one more
abbrev pub has_room : List Module → Module → Bool
has_room modules target = list_any (is_module target) modules || nat_lt (length modules) (limit_number Modules)

abbrev pub with_room : Gathered → Need → Spelling → Result Gathered TraceFault
with_room before need spelling =
    if has_room before.modules spelling.target then Ok (with_request before need spelling) else Err (Limit Modules)

abbrev pub needed : Config → Gathered → Referrer Module → Need → Spelling → Result Gathered TraceFault
needed config before referrer need spelling =
    if list_any (clashes need) before.needs
    then Err (clash_with config referrer (clashing need before.needs before.spellings) spelling)
    else with_room before need spelling

abbrev pub named : Config → Gathered → Referrer Module → Wanted → Spelling → Option (List ℕ)
    → Result Gathered TraceFault
named config before referrer want spelling None =
    Err (Unservable (shown config (a_module spelling.target)) (web_name config (a_module spelling.target)))
named config before referrer want spelling (Some url) =
    if ends_in_slash url
    then Err (refused_by config referrer spelling.specifier TrailingSlash)
    else needed config before referrer (record { referrer = want.referrer; asked = want.asked; target = url }) spelling

abbrev pub led : Config → Gathered → Referrer Module → List ℕ → Wanted → Result Module Refusal
    → Result Gathered TraceFault
led config before referrer specifier want (Err (by_cause cause)) =
    Err (refused_by config referrer specifier (ask_cause cause))
led config before referrer specifier want (Err too_deep) = Err (Limit Depth)
led config before referrer specifier want (Ok target) =
    named config before referrer want
    (record { referrer = shown config referrer; specifier = specifier; target = target })
    (served_at config (a_module target))

-- ---- all checks of a request

abbrev pub asking_at : Config → Referrer Module → List ℕ → Question
asking_at config referrer specifier = of_request config.conditions (path_of config referrer) specifier

abbrev pub followed_by : Config → Gathered → Referrer Module → List ℕ → Result Wanted TraceFault
    → Asking Question Answer (Result Gathered TraceFault)
followed_by config before referrer specifier (Err refusal) = answered (Err refusal)
followed_by config before referrer specifier (Ok want) =
    ask (asking_at config referrer specifier) (λ found. answered (led config before referrer specifier want found))

abbrev pub follows : Config → Gathered → Referrer Module → List ℕ → Asking Question Answer (Result Gathered TraceFault)
follows config before referrer specifier =
    followed_by config before referrer specifier (checked config before referrer specifier)

-- ---- the rules of a walk

abbrev pub nothing_gathered : Gathered
nothing_gathered = record { modules = []; sources = []; needs = []; spellings = []; targets = [] }

abbrev pub rules : Config → Rules Module Gathered TraceFault Question Answer
rules config =
    record {
      same = is_module;
      start = nothing_gathered;
      modules = λ before. before.modules;
      most = limit_number Modules;
      above = Limit Modules;
      opens = opens config;
      follows = follows config;
    }
