-- Faults of options, of what is asked for, and of words.
use Rattle.std.proofs.Common.{◌≡◌, ℕ, List, Option, Result, Ok, Err, refl, sym, subst}
use Rattle.std.specs.Prelude.{IsErrAnd, MatchResult}
use Rattle.config_spec.specs.declared.ConfigFault.{ConfigFault}
use Rattle.config_spec.specs.declared.ConfigFault.TheVariants as config
use Rattle.config_spec.specs.declared.Command.TheVariants.{Link}
use Rattle.config_spec.specs.Words.{RefusesOptions, RefusesWords, SetsBase, SetsPage}
use Rattle.config_spec.specs.Words.RefusesOptions.{bad_base, bad_path, bad_conditions}
use Rattle.config_spec.specs.Words.RefusesWords.{bad_option as words_bad_option, bad_file as words_bad_file, bad_folder as words_bad_folder}
use Rattle.project_spec.specs.ProjectFiles.{IsPagePath}
use Rattle.tree_spec.specs.Paths.{IsPath}
use Rattle.words_spec.specs.PlainWords.{Asked, Asks, LinkOptions, linking, explaining, vendoring}
use Rattle.command_words.specs.declared.fault.WordsFault.{WordsFault}
use Rattle.command_words.specs.declared.fault.WordsFault.TheVariants.{Told, NotPlain, Refused, Memory}
use Rattle.command_words.specs.Faults.{RefusesAs, IsBadBase, IsBadPath, IsBadConditions, RefusesOrder, bad_option, bad_file, bad_folder, Explains}

-- ---- the options, in their order

pub base_refused : (given : LinkOptions) (fault : WordsFault) → RefusesAs (IsBadBase given.base) fault → RefusesAs (RefusesOptions given) fault
base_refused given (Told told) refuses = refuses
base_refused given NotPlain refuses = refuses
base_refused given (Refused fault) refuses = subst (RefusesOptions given) (sym refuses.is) (bad_base refuses.text refuses.is_given refuses.bad)
base_refused given Memory refuses = tt

pub page_refused : (given : LinkOptions) (base : Option (List ℕ)) (fault : WordsFault) → SetsBase given.base base → RefusesAs (IsBadPath given.page) fault → RefusesAs (RefusesOptions given) fault
page_refused given base (Told told) set refuses = refuses
page_refused given base NotPlain set refuses = refuses
page_refused given base (Refused fault) set refuses = subst (RefusesOptions given) (sym refuses.is) (bad_path base refuses.text set refuses.is_given refuses.bad)
page_refused given base Memory set refuses = tt

pub conditions_refused : (given : LinkOptions) (base page : Option (List ℕ)) (fault : WordsFault) → SetsBase given.base base → SetsPage given.page page → RefusesAs (IsBadConditions given.conditions) fault → RefusesAs (RefusesOptions given) fault
conditions_refused given base page (Told told) set set_page refuses = refuses
conditions_refused given base page NotPlain set set_page refuses = refuses
conditions_refused given base page (Refused fault) set set_page refuses = subst (RefusesOptions given) (sym refuses.is) (bad_conditions base page refuses.text set set_page refuses.is_given refuses.bad)
conditions_refused given base page Memory set set_page refuses = tt

-- ---- what is asked for

pub link_refused : (given : LinkOptions) (entries : List (List ℕ)) (fault : WordsFault) → RefusesAs (RefusesOptions given) fault → RefusesAs (RefusesOrder (linking given entries)) fault
link_refused given entries (Told told) refuses = refuses
link_refused given entries NotPlain refuses = refuses
link_refused given entries (Refused fault) refuses = bad_option Link fault refl refuses
link_refused given entries Memory refuses = tt

pub path_refused : (path : List ℕ) (fault : WordsFault) → (IsPath path → ⊥) → RefusesAs (λ other. other ≡ config.BadPath path) fault → RefusesAs (RefusesOrder (explaining path)) fault
path_refused path (Told told) none refuses = refuses
path_refused path NotPlain none refuses = refuses
path_refused path (Refused fault) none refuses = subst (RefusesOrder (explaining path)) (sym refuses) (bad_file path refl none)
path_refused path Memory none refuses = tt

pub folder_refused : (path : List ℕ) (fault : WordsFault) → (IsPagePath path → ⊥) → RefusesAs (λ other. other ≡ config.BadPath path) fault → RefusesAs (RefusesOrder (vendoring path)) fault
folder_refused path (Told told) none refuses = refuses
folder_refused path NotPlain none refuses = refuses
folder_refused path (Refused fault) none refuses = subst (RefusesOrder (vendoring path)) (sym refuses) (bad_folder path refl none)
folder_refused path Memory none refuses = tt

-- ---- words

of_asked : (texts : List (List ℕ)) (asked : Asked) (fault : ConfigFault) → Asks texts asked → RefusesOrder asked fault → RefusesWords texts fault
of_asked texts asked fault asks (bad_option command other is refuses) = words_bad_option asked command other asks is refuses
of_asked texts asked fault asks (bad_file path same none) = words_bad_file path (subst (Asks texts) same asks) none
of_asked texts asked fault asks (bad_folder path same none) = words_bad_folder path (subst (Asks texts) same asks) none

pub words_refused : (texts : List (List ℕ)) (asked : Asked) (fault : WordsFault) → Asks texts asked → RefusesAs (RefusesOrder asked) fault → Explains texts fault
words_refused texts asked (Told told) asks refuses = absurd refuses
words_refused texts asked NotPlain asks refuses = absurd refuses
words_refused texts asked (Refused fault) asks refuses = of_asked texts asked fault asks refuses
words_refused texts asked Memory asks refuses = tt

-- a fault that is handed on
pub handed_on : {X : Type 0} (P : X → Type 0) (Q : WordsFault → Type 0) (result : Result X WordsFault) (fault : WordsFault) → IsErrAnd result (λ other. other ≡ fault) → Q fault → MatchResult result P Q
handed_on P Q (Ok x) fault is holds = absurd is
handed_on P Q (Err other) fault is holds = subst Q (sym is) holds
