-- The options of words set one thing or are refused in one way.
use Rattle.std.proofs.Common.{◌≡◌, ◌⊎◌, ℕ, List, Option, Some, None, refl, sym, ap, ◌∙◌, subst, inl, inr}
use Rattle.std.specs.Prelude.{codes}
use Rattle.tree_spec.proofs.ByteLists.{text_same_or_not}
use Rattle.tree_spec.proofs.DecidedTrees.{path_or_not}
use Rattle.tree_spec.specs.Paths.{IsPath}
use Rattle.url_spec.specs.Bases.{base_of}
use Rattle.node_spec.specs.Conditions.{AreConditions, names_in}
use Rattle.words_spec.specs.PlainWords.{LinkOptions, no_options}
use Rattle.project_spec.proofs.SomeProject.{OrNot, conditions_or_not}
use Rattle.config_spec.specs.Laws.{OptionsAreJudged}
use Rattle.project_spec.specs.ProjectFiles.{IsPagePath}
use Rattle.config_spec.specs.Words.{RefusesOptions, Sets, SetsBase, SetsConditions, SetsPage, Settings}
use Rattle.config_spec.specs.Words.{no_settings}
use Rattle.config_spec.specs.Words.RefusesOptions.{bad_base, bad_conditions, bad_path}
use Rattle.config_spec.specs.Words.SetsBase.{none as no_base, given as some_base}
use Rattle.config_spec.specs.Words.SetsConditions.{none as no_names, given as some_names}
use Rattle.config_spec.specs.Words.SetsPage.{none as no_page, given as some_page}
use Rattle.config_spec.specs.declared.ConfigFault.{ConfigFault}
use Rattle.config_spec.specs.declared.ConfigFault.TheVariants.{BadBase, BadPath, BadConditions}

-- ---- one at most

one_base : {text some other : Option (List ℕ)} → SetsBase text some → SetsBase text other → some ≡ other
one_base no_base no_base = refl
one_base (some_base text some gives) (some_base text_too other gives_too) = sym gives ∙ gives_too

one_page : {text some other : Option (List ℕ)} → SetsPage text some → SetsPage text other → some ≡ other
one_page no_page no_page = refl
one_page (some_page text is) (some_page text_too is_too) = refl

one_names :
    {text : Option (List ℕ)} {some other : Option (List (List ℕ))} → SetsConditions text some
    → SetsConditions text other → some ≡ other
one_names no_names no_names = refl
one_names (some_names text are) (some_names text_too are_too) = refl

pub one_settings :
    (options : LinkOptions) (some other : Settings) → Sets options some → Sets options other → some ≡ other
one_settings options some other a b =
    let bases = one_base a.base b.base in
    let pages = one_page a.page b.page in
    let names = one_names a.conditions b.conditions in
    λ i. record { base = bases i; page = pages i; conditions = names i }

-- ---- a text that sets something isn't refused

base_passes :
    {found set : Option (List ℕ)} (text : List ℕ) → SetsBase found set → found ≡ Some text → base_of text ≡ None → ⊥
base_passes text no_base is gives_none = absurd (cc)
base_passes text (some_base other url gives) is gives_none =
    let same : other ≡ text = cc in
    let e : Some url ≡ None = sym gives ∙ (ap base_of same ∙ gives_none) in
    absurd (cc)

page_passes :
    {found set : Option (List ℕ)} (text : List ℕ) → SetsPage found set → found ≡ Some text → (IsPagePath text → ⊥) → ⊥
page_passes text no_page is none = absurd (cc)
page_passes text (some_page other is_page) is none =
    let same : other ≡ text = cc in none (subst IsPagePath same is_page)

names_pass :
    {found : Option (List ℕ)} {set : Option (List (List ℕ))} (text : List ℕ) → SetsConditions found set
    → found ≡ Some text → (AreConditions (names_in text) → ⊥) → ⊥
names_pass text no_names is none = absurd (cc)
names_pass text (some_names other are) is none =
    let same : other ≡ text = cc in none (subst (λ t. AreConditions (names_in t)) same are)

pub one_options_fault :
    (options : LinkOptions) (some other : ConfigFault) → RefusesOptions options some → RefusesOptions options other
    → some ≡ other
one_options_fault options some other (bad_base text is none) (bad_base text_too is_too none_too) = cc
one_options_fault options some other (bad_base text is none) (bad_path set text_too sets is_too none_too) =
    absurd (base_passes text sets is none)
one_options_fault options some other (bad_base text is none) (bad_conditions set page text_too sets s is_too none_too) =
    absurd (base_passes text sets is none)
one_options_fault options some other (bad_path set text_too sets is_too none_too) (bad_base text is none) =
    absurd (base_passes text sets is none)
one_options_fault options some other (bad_path set text sets is none) (bad_path set_too text_too sets_too is_too none_too) =
    cc
one_options_fault options some other (bad_path set text sets is none)
    (bad_conditions set_too page text_too sets_too sets_page is_too none_too) =
    absurd (page_passes text sets_page is none)
one_options_fault options some other (bad_conditions set page text_too sets s is_too none_too) (bad_base text is none) =
    absurd (base_passes text sets is none)
one_options_fault options some other (bad_conditions set_too page text_too sets_too sets_page is_too none_too)
    (bad_path set text sets is none) =
    absurd (page_passes text sets_page is none)
one_options_fault options some other (bad_conditions set page text sets s is none)
    (bad_conditions set_too page_too text_too sets_too s_too is_too none_too) = cc

pub set_or_refused :
    (options : LinkOptions) (settings : Settings) (fault : ConfigFault) → Sets options settings
    → RefusesOptions options fault → ⊥
set_or_refused options settings fault sets (bad_base text is none) = base_passes text sets.base is none
set_or_refused options settings fault sets (bad_path set text sets_base is none) = page_passes text sets.page is none
set_or_refused options settings fault sets (bad_conditions set page text sets_base sets_page is none) =
    names_pass text sets.conditions is none

-- ---- settings, or a fault

abbrev SetsSomething : LinkOptions → Type 0
SetsSomething options = (settings : Settings) × Sets options settings

pub no_settings_set : Sets no_options no_settings
no_settings_set = record { base = no_base; page = no_page; conditions = no_names }

abbrev OptionsAreRefused : LinkOptions → Type 0
OptionsAreRefused options = (fault : ConfigFault) × RefusesOptions options fault

-- a text that is given, and isn't of its form
abbrev IsBad : Option (List ℕ) → (List ℕ → Type 0) → Type 0
IsBad found P = (text : List ℕ) × (found ≡ Some text) × (P text → ⊥)

abbrev GivesBase : List ℕ → Type 0
GivesBase text = (url : List ℕ) × (base_of text ≡ Some url)

base_given : (text : List ℕ) → OrNot (GivesBase text)
base_given text = by (base_of text) refl
  where
    by : (found : Option (List ℕ)) → base_of text ≡ found → OrNot (GivesBase text)
    by None e = inr (λ is. let f : None ≡ Some is.0 = sym e ∙ is.1 in absurd (cc))
    by (Some url) e = inl (url, e)

none_given :
    (text : List ℕ) (found : Option (List ℕ)) → base_of text ≡ found → (GivesBase text → ⊥) → base_of text ≡ None
none_given text None e none = e
none_given text (Some url) e none = absurd (none (url, e))

base_or_bad : (text : Option (List ℕ)) → ((set : Option (List ℕ)) × SetsBase text set) ⊎ IsBad text GivesBase
base_or_bad None = inl (None, no_base)
base_or_bad (Some text) = elim (base_given text) [
  | inl is ↦ inl (Some is.0, some_base text is.0 is.1)
  | inr none ↦ inr (text, refl, none)
]

pub page_path_or_not : (text : List ℕ) → OrNot (IsPagePath text)
page_path_or_not text = by (path_or_not text) (text_same_or_not text (codes "/"))
  where
    by : OrNot (IsPath text) → OrNot (text ≡ codes "/") → OrNot (IsPagePath text)
    by (inr none) root = inr (λ is. none is.is_path)
    by (inl is) (inl root) = inr (λ page. page.no_root root)
    by (inl is) (inr other) = inl (record { is_path = is; no_root = other })

page_or_bad : (text : Option (List ℕ)) → ((set : Option (List ℕ)) × SetsPage text set) ⊎ IsBad text IsPagePath
page_or_bad None = inl (None, no_page)
page_or_bad (Some text) = elim (page_path_or_not text) [
  | inl is ↦ inl (Some text, some_page text is)
  | inr none ↦ inr (text, refl, none)
]

names_or_bad :
    (text : Option (List ℕ))
    → ((set : Option (List (List ℕ))) × SetsConditions text set) ⊎ IsBad text (λ t. AreConditions (names_in t))
names_or_bad None = inl (None, no_names)
names_or_bad (Some text) = elim (conditions_or_not (names_in text)) [
  | inl are ↦ inl (Some (names_in text), some_names text are)
  | inr none ↦ inr (text, refl, none)
]

pub set_or_fault : (options : LinkOptions) → SetsSomething options ⊎ OptionsAreRefused options
set_or_fault options =
    elim (base_or_bad options.base) [
      | inr bad ↦ inr (BadBase bad.0, bad_base bad.0 bad.1 (none_given bad.0 (base_of bad.0) refl bad.2))
      | inl set_base ↦ elim (page_or_bad options.page) [
        | inr bad ↦ inr (BadPath bad.0, bad_path set_base.0 bad.0 set_base.1 bad.1 bad.2)
        | inl set_page ↦ elim (names_or_bad options.conditions) [
          | inr bad ↦ inr (BadConditions bad.0, bad_conditions set_base.0 set_page.0 bad.0 set_base.1 set_page.1 bad.1 bad.2)
          | inl set_names ↦ inl (
            record { base = set_base.0; page = set_page.0; conditions = set_names.0 },
            record { base = set_base.1; page = set_page.1; conditions = set_names.1 },
          )
        ]
      ]
    ]

pub options_are_judged : OptionsAreJudged
options_are_judged options = record {
  one_settings = one_settings options;
  one_fault = one_options_fault options;
  not_both = set_or_refused options;
  some = set_or_fault options;
}
