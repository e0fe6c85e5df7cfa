-- Words ask for one command, are refused in one way, or ask for one measure or for a session.
use Rattle.std.proofs.Common.{◌≡◌, ◌≢◌, ◌⊎◌, ◌&&◌, ℕ, Bool, not, true, false, codes, List, Option, Some, None, refl, sym, ap, ◌∙◌, subst, inl, inr}
use Rattle.std.proofs.lemmas.Slice.Eq.{bytes_eq-Decides}
use Rattle.std.specs.Bool.{Decides}
use Rattle.std.specs.Prelude.{bytes_eq, if◌then◌else◌}
use Rattle.tree_spec.specs.Paths.{IsPath}
use Rattle.url_spec.proofs.PathDecisions.{path_by_test, test_by_path}
use Rattle.url_spec.specs.PathTests.{is_path}
use Rattle.project_spec.specs.ProjectFiles.{IsPagePath}
use Rattle.words_spec.proofs.PlainIsRead.{one_asked, plain_is_read}
use Rattle.words_spec.proofs.ReadIsPlain.{read_is_plain}
use Rattle.words_spec.specs.PlainWords.{Asked, Asks, linking, unlinking, refreshing, checking, listing, injecting}
use Rattle.words_spec.specs.PlainWords.{checking_strictly, editing, explaining, vendoring, measuring}
use Rattle.words_spec.specs.Reading.{reading_of}
use Rattle.config_spec.proofs.Options.{one_options_fault, set_or_fault, set_or_refused}
use Rattle.config_spec.specs.Laws.{WordsAreJudged}
use Rattle.config_spec.specs.Words.{command_of, is_page_path, IsCommandOf, IsPlain, IsSession, Measures, options_of, RefusesOptions, RefusesWords}
use Rattle.config_spec.specs.Words.RefusesWords.{bad_option, bad_file, bad_folder}
use Rattle.config_spec.specs.declared.Command.{Command}
use Rattle.config_spec.specs.declared.Command.TheVariants.{Why, Vendor}
use Rattle.config_spec.specs.declared.ConfigFault.{ConfigFault}
use Rattle.config_spec.specs.declared.ConfigFault.TheVariants.{BadPath}

-- ---- one at most

pub same_command :
    (some other : Asked) (first second : Command) → some ≡ other → command_of some ≡ Some first
    → command_of other ≡ Some second → first ≡ second
same_command some other first second same is is_too =
    let e : Some first ≡ Some second = sym is ∙ (ap command_of same ∙ is_too) in cc

-- what is built isn't unbuilt
built :
    (some other : Asked) (command : Command) → some ≡ other → command_of some ≡ Some command
    → command_of other ≡ None → ⊥
built some other command same is none =
    let e : Some command ≡ None = sym is ∙ (ap command_of same ∙ none) in absurd (cc)

-- a file is asked for by a path
pub path_explained : (path : List ℕ) (command : Command) → command_of (explaining path) ≡ Some command → IsPath path
path_explained path command is = by (is_path path) refl is
  where
    by : (test : Bool) → is_path path ≡ test → (if test then Some Why else None) ≡ Some command → IsPath path
    by true e is = path_by_test path e
    by false e is = absurd (cc)

pub explained_path : (path : List ℕ) → IsPath path → command_of (explaining path) ≡ Some Why
explained_path path is = ap (λ test. if test then Some Why else None) (test_by_path path is)

-- what isn't the root
not_root : (test : Bool) (path : List ℕ) → Decides test (path ≡ codes "/") → path ≢ codes "/" → test ≡ false
not_root true path d other = absurd (other (d.0 refl))
not_root false path d other = refl

-- a folder of copies is asked for by a path other than the root's
pub path_vendored : (path : List ℕ) (command : Command) → command_of (vendoring path) ≡ Some command → IsPagePath path
path_vendored path command is = by (is_path path) (bytes_eq path (codes "/")) refl refl is
  where
    by :
        (test root : Bool) → is_path path ≡ test → bytes_eq path (codes "/") ≡ root
        → (if test && not root then Some Vendor else None) ≡ Some command → IsPagePath path
    by true false e other is = record {
      is_path = path_by_test path e;
      no_root = λ root. let wrong : bytes_eq path (codes "/") ≡ true = (bytes_eq-Decides path (codes "/")).1 root in cc;
    }
    by true true e other is = absurd (cc)
    by false root e other is = absurd (cc)

pub vendored_path : (path : List ℕ) → IsPagePath path → command_of (vendoring path) ≡ Some Vendor
vendored_path path is =
    ap (λ test. if test && not (bytes_eq path (codes "/")) then Some Vendor else None) (test_by_path path is.is_path)
    ∙ ap (λ root. if not root then Some Vendor else None)
    (not_root (bytes_eq path (codes "/")) path (bytes_eq-Decides path (codes "/")) is.no_root)

other_command : (test : Bool) (some other : Command) → some ≢ other → (if test then Some some else None) ≡ Some other → ⊥
other_command true some other different e = different (cc)
other_command false some other different e = absurd (cc)

-- what is asked why is asked by a path
pub record IsExplaining (asked : Asked) : Type 0 where
  pub path : List ℕ
  pub is : asked ≡ explaining path

pub why_explains : (asked : Asked) → command_of asked ≡ Some Why → IsExplaining asked
why_explains (linking options entries) e = absurd (cc)
why_explains (unlinking entries) e = absurd (cc)
why_explains refreshing e = absurd (cc)
why_explains checking e = absurd (cc)
why_explains checking_strictly e = absurd (cc)
why_explains listing e = absurd (cc)
why_explains injecting e = absurd (cc)
why_explains editing e = absurd (cc)
why_explains (explaining path) e = record { path = path; is = refl }
why_explains (vendoring path) e = absurd (other_command (is_page_path path) Vendor Why (λ same. absurd (cc)) e)
why_explains (measuring number) e = absurd (cc)

-- copies are asked for by a path
pub record IsVendoring (asked : Asked) : Type 0 where
  pub path : List ℕ
  pub is : asked ≡ vendoring path

pub vendor_copies : (asked : Asked) → command_of asked ≡ Some Vendor → IsVendoring asked
vendor_copies (linking options entries) e = absurd (cc)
vendor_copies (unlinking entries) e = absurd (cc)
vendor_copies refreshing e = absurd (cc)
vendor_copies checking e = absurd (cc)
vendor_copies checking_strictly e = absurd (cc)
vendor_copies listing e = absurd (cc)
vendor_copies injecting e = absurd (cc)
vendor_copies editing e = absurd (cc)
vendor_copies (explaining path) e = absurd (other_command (is_path path) Why Vendor (λ same. absurd (cc)) e)
vendor_copies (vendoring path) e = record { path = path; is = refl }
vendor_copies (measuring number) e = absurd (cc)

-- so what is asked for by no path is no command
no_path_asks :
    (words : List (List ℕ)) (path : List ℕ) (asked : Asked) (command : Command) → Asks words (explaining path)
    → (IsPath path → ⊥) → Asks words asked → command_of asked ≡ Some command → ⊥
no_path_asks words path asked command asks none asks_too is =
    none (path_explained path command
    (subst (λ a. command_of a ≡ Some command) (one_asked words asked (explaining path) asks_too asks) is))

no_folder_asks :
    (words : List (List ℕ)) (path : List ℕ) (asked : Asked) (command : Command) → Asks words (vendoring path)
    → (IsPagePath path → ⊥) → Asks words asked → command_of asked ≡ Some command → ⊥
no_folder_asks words path asked command asks none asks_too is =
    none (path_vendored path command
    (subst (λ a. command_of a ≡ Some command) (one_asked words asked (vendoring path) asks_too asks) is))

one_command :
    (words : List (List ℕ)) (some other : Command) → IsCommandOf words some → IsCommandOf words other → some ≡ other
one_command words some other a b =
    same_command a.asked b.asked some other (one_asked words a.asked b.asked a.asks b.asks) a.is b.is

one_fault :
    (words : List (List ℕ)) (some other : ConfigFault) → RefusesWords words some → RefusesWords words other
    → some ≡ other
one_fault words some other (bad_option asked command fault asks is refuses)
    (bad_option asked_too command_too fault_too asks_too is_too refuses_too) =
    let same = one_asked words asked_too asked asks_too asks in
    one_options_fault (options_of asked) some other refuses
    (subst (λ a. RefusesOptions (options_of a) other) same refuses_too)
one_fault words some other (bad_file path asks none) (bad_option asked command why asks_too is refuses) =
    absurd (no_path_asks words path asked command asks none asks_too is)
one_fault words some other (bad_option asked command why asks_too is refuses) (bad_file path asks none) =
    absurd (no_path_asks words path asked command asks none asks_too is)
one_fault words some other (bad_file path asks none) (bad_file path_too asks_too none_too) =
    let same : explaining path ≡ explaining path_too = one_asked words (explaining path) (explaining path_too) asks asks_too in cc
one_fault words some other (bad_folder path asks none) (bad_option asked command why asks_too is refuses) =
    absurd (no_folder_asks words path asked command asks none asks_too is)
one_fault words some other (bad_option asked command why asks_too is refuses) (bad_folder path asks none) =
    absurd (no_folder_asks words path asked command asks none asks_too is)
one_fault words some other (bad_folder path asks none) (bad_folder path_too asks_too none_too) =
    let same : vendoring path ≡ vendoring path_too = one_asked words (vendoring path) (vendoring path_too) asks asks_too in cc
one_fault words some other (bad_file path asks none) (bad_folder path_too asks_too none_too) =
    let same : explaining path ≡ vendoring path_too = one_asked words (explaining path) (vendoring path_too) asks asks_too in absurd (cc)
one_fault words some other (bad_folder path asks none) (bad_file path_too asks_too none_too) =
    let same : vendoring path ≡ explaining path_too = one_asked words (vendoring path) (explaining path_too) asks asks_too in absurd (cc)

not_both :
    (words : List (List ℕ)) (command : Command) (fault : ConfigFault) → IsCommandOf words command
    → RefusesWords words fault → ⊥
not_both words command fault is (bad_option asked command_too fault_too asks is_too refuses) =
    let same = one_asked words asked is.asked asks is.asks in
    set_or_refused (options_of is.asked) is.settings fault is.sets
    (subst (λ a. RefusesOptions (options_of a) fault) same refuses)
not_both words command fault is (bad_file path asks none) =
    no_path_asks words path is.asked command asks none is.asks is.is
not_both words command fault is (bad_folder path asks none) =
    no_folder_asks words path is.asked command asks none is.asks is.is

one_measure : (words : List (List ℕ)) (some other : ℕ) → Measures words some → Measures words other → some ≡ other
one_measure words some other asks too =
    let same : measuring some ≡ measuring other = one_asked words (measuring some) (measuring other) asks too in cc

no_command : (words : List (List ℕ)) (number : ℕ) (command : Command) → Measures words number → IsCommandOf words command → ⊥
no_command words number command asks is =
    built is.asked (measuring number) command (one_asked words is.asked (measuring number) is.asks asks) is.is refl

no_fault : (words : List (List ℕ)) (number : ℕ) (fault : ConfigFault) → Measures words number → RefusesWords words fault → ⊥
no_fault words number fault asks (bad_option asked command why asks_too is refuses) =
    built asked (measuring number) command (one_asked words asked (measuring number) asks_too asks) is refl
no_fault words number fault asks (bad_file path asks_too none) =
    let same : explaining path ≡ measuring number = one_asked words (explaining path) (measuring number) asks_too asks in absurd (cc)
no_fault words number fault asks (bad_folder path asks_too none) =
    let same : vendoring path ≡ measuring number = one_asked words (vendoring path) (measuring number) asks_too asks in absurd (cc)

session_or_command : (words : List (List ℕ)) (command : Command) → IsSession words → IsCommandOf words command → ⊥
session_or_command words command asks is = built is.asked editing command (one_asked words is.asked editing is.asks asks) is.is refl

session_or_fault : (words : List (List ℕ)) (fault : ConfigFault) → IsSession words → RefusesWords words fault → ⊥
session_or_fault words fault asks (bad_option asked command why asks_too is refuses) =
    built asked editing command (one_asked words asked editing asks_too asks) is refl
session_or_fault words fault asks (bad_file path asks_too none) =
    let same : explaining path ≡ editing = one_asked words (explaining path) editing asks_too asks in absurd (cc)
session_or_fault words fault asks (bad_folder path asks_too none) =
    let same : vendoring path ≡ editing = one_asked words (vendoring path) editing asks_too asks in absurd (cc)

session_or_measure : (words : List (List ℕ)) (number : ℕ) → IsSession words → Measures words number → ⊥
session_or_measure words number asks asks_too =
    let same : editing ≡ measuring number = one_asked words editing (measuring number) asks asks_too in absurd (cc)

-- ---- some command, or a fault

abbrev HaveCommand : List (List ℕ) → Type 0
HaveCommand words = (command : Command) × IsCommandOf words command

abbrev AreRefused : List (List ℕ) → Type 0
AreRefused words = (fault : ConfigFault) × RefusesWords words fault

abbrev HaveNumber : List (List ℕ) → Type 0
HaveNumber words = (number : ℕ) × Measures words number

-- what isn't a path is refused
without_path :
    (words : List (List ℕ)) (path : List ℕ) → Asks words (explaining path) → command_of (explaining path) ≡ None
    → AreRefused words
without_path words path asks e = (
  BadPath path,
  bad_file path asks
      (λ is. let wrong : Some Why ≡ None = sym (explained_path path is) ∙ e in absurd (cc)),
)

-- and so is the root, or what isn't a path, where copies are asked for
without_folder :
    (words : List (List ℕ)) (path : List ℕ) → Asks words (vendoring path) → command_of (vendoring path) ≡ None
    → AreRefused words
without_folder words path asks e = (
  BadPath path,
  bad_folder path asks
      (λ is. let wrong : Some Vendor ≡ None = sym (vendored_path path is) ∙ e in absurd (cc)),
)

-- without a command it is a session or a measure, or refused
without_command :
    (words : List (List ℕ)) (asked : Asked) → Asks words asked → command_of asked ≡ None
    → HaveCommand words ⊎ (AreRefused words ⊎ (HaveNumber words ⊎ IsSession words))
without_command words (linking options entries) asks e = absurd (cc)
without_command words (unlinking entries) asks e = absurd (cc)
without_command words refreshing asks e = absurd (cc)
without_command words checking asks e = absurd (cc)
without_command words checking_strictly asks e = absurd (cc)
without_command words listing asks e = absurd (cc)
without_command words injecting asks e = absurd (cc)
without_command words editing asks e = inr (inr (inr asks))
without_command words (explaining path) asks e = inr (inl (without_path words path asks e))
without_command words (vendoring path) asks e = inr (inl (without_folder words path asks e))
without_command words (measuring number) asks e = inr (inr (inl (number, asks)))

command_by :
    (words : List (List ℕ)) (asked : Asked) → Asks words asked → (found : Option Command)
    → command_of asked ≡ found → HaveCommand words ⊎ (AreRefused words ⊎ (HaveNumber words ⊎ IsSession words))
command_by words asked asks None e = without_command words asked asks e
command_by words asked asks (Some command) e =
    elim (set_or_fault (options_of asked)) [
      | inl set ↦ inl (command, record { asked = asked; asks = asks; is = e; settings = set.0; sets = set.1 })
      | inr refused ↦ inr (inl (refused.0, bad_option asked command refused.0 asks e refused.1))
    ]

judged_by :
    (words : List (List ℕ)) (found : Option Asked) → reading_of words ≡ found
    → (IsPlain words → ⊥) ⊎ (HaveCommand words ⊎ (AreRefused words ⊎ (HaveNumber words ⊎ IsSession words)))
judged_by words None e = inl (λ plain. let f : None ≡ Some plain.asked = sym e ∙ plain_is_read plain.asks in absurd (cc))
judged_by words (Some asked) e = inr (command_by words asked (read_is_plain words asked e) (command_of asked) refl)

pub words_are_judged : WordsAreJudged
words_are_judged words = record {
  one_command = one_command words;
  one_fault = one_fault words;
  not_both = not_both words;
  one_measure = one_measure words;
  no_command = no_command words;
  no_fault = no_fault words;
  session_or_command = session_or_command words;
  session_or_fault = session_or_fault words;
  session_or_measure = session_or_measure words;
  some = judged_by words (reading_of words) refl;
}
