-- What options set, and orders of what is asked for.
use Rattle.std.proofs.Common.{◌≡◌, ℕ, Bool, true, false, Bor, List, Option, Some, None, Result, Ok, Err, codes, refl, sym, ap, ◌∙◌, subst}
use Rattle.std.specs.Prelude.{MatchResult, option_map, bytes_eq}
use Rattle.std.proofs.lemmas.Slice.Eq.{bytes_eq-Decides}
use Rattle.node_spec.specs.Conditions.{AreConditions, names_in}
use Rattle.project_spec.specs.ProjectFiles.{IsPagePath}
use Rattle.tree_spec.specs.Paths.{IsPath}
use Rattle.url_spec.specs.Bases.{base_of}
use Rattle.config_spec.specs.Words.{Sets, SetsBase, SetsPage, SetsConditions}
use Rattle.config_spec.specs.Words.SetsBase.{given as some_base}
use Rattle.config_spec.specs.Words.SetsPage.{none as no_page, given as some_page}
use Rattle.config_spec.specs.Words.SetsConditions.{given as some_conditions}
use Rattle.words_spec.specs.PlainWords.{Asked, Asks, explaining, vendoring}
use Rattle.command_words.specs.declared.fault.WordsFault.{WordsFault}
use Rattle.command_words.specs.declared.order.Order.{Order}
use Rattle.command_words.specs.Settings.{IsFilePage}
use Rattle.command_words.specs.Orders.{IsOrderOf, IsWanted, IsWantedOf}
use Rattle.command_words.specs.declared.order.Wanted.{Wanted}
use Rattle.command_words.specs.declared.order.Wanted.TheVariants as wanted
use Rattle.command_words.specs.Faults.{RefusesAs, RefusesOrder, Explains}
use Rattle.command_words.proofs.Refusals.{words_refused}

-- ---- one option

pub nothing_given : {X : Type 0} (Sets : Option (List ℕ) → Option X → Type 0) (given : Option (Bor (List ℕ))) → Sets None None → ((text : Bor (List ℕ)) → given ≡ Some text → ⊥) → Sets (option_map (λ (text : Bor (List ℕ)). text.now) given) None
nothing_given Sets None none not_some = none
nothing_given Sets (Some text) none not_some = absurd (not_some text refl)

pub base_given : (given : Option (Bor (List ℕ))) (text : Bor (List ℕ)) (url : List ℕ) → given ≡ Some text → base_of text.now ≡ Some url → SetsBase (option_map (λ (t : Bor (List ℕ)). t.now) given) (Some url)
base_given given text url is gives = subst (λ g. SetsBase (option_map (λ (t : Bor (List ℕ)). t.now) g) (Some url)) (sym is) (some_base text.now url gives)

-- a path that isn't the root's can be a page's
pub below_root : (text : List ℕ) (is_root : Bool) → IsPath text → is_root ≡ bytes_eq text (codes "/") → is_root ≡ false → IsPagePath text
below_root text is_root is_path test other = record {
  is_path = is_path;
  no_root = λ root. let wrong : bytes_eq text (codes "/") ≡ true = (bytes_eq-Decides text (codes "/")).1 root in cc;
}

pub page_given : (given : Option (Bor (List ℕ))) (text : Bor (List ℕ)) (found : List ℕ) (is_root : Bool) → given ≡ Some text → found ≡ text.now → IsPath text.now → is_root ≡ bytes_eq text.now (codes "/") → is_root ≡ false → SetsPage (option_map (λ (t : Bor (List ℕ)). t.now) given) (Some found)
page_given given text found is_root is same is_path test other =
    subst (λ g. SetsPage (option_map (λ (t : Bor (List ℕ)). t.now) g) (Some found)) (sym is)
    (subst (λ f. SetsPage (Some text.now) (Some f)) (sym same)
    (some_page text.now (below_root text.now is_root is_path test other)))

pub conditions_given : (given : Option (Bor (List ℕ))) (text : Bor (List ℕ)) (names : List (List ℕ)) → given ≡ Some text → names ≡ names_in text.now → AreConditions names → SetsConditions (option_map (λ (t : Bor (List ℕ)). t.now) given) (Some names)
conditions_given given text names is named are =
    subst (λ g. SetsConditions (option_map (λ (t : Bor (List ℕ)). t.now) g) (Some names)) (sym is)
    (subst (λ n. SetsConditions (Some text.now) (Some n)) (sym named) (some_conditions text.now (subst AreConditions named are)))

-- a page that is set isn't the root
pub set_is_file : (given set : Option (List ℕ)) → SetsPage given set → IsFilePage set
set_is_file None None no_page = tt
set_is_file None (Some found) set = elim set [ ]
set_is_file (Some text) None set = elim set [ ]
set_is_file (Some text) (Some found) (some_page other is_page) = is_page.no_root

-- ---- orders

pub path_asked : (text path : List ℕ) → path ≡ text → IsPath text → IsWantedOf (wanted.Why path) (explaining text)
path_asked text path same is = record { is = ap explaining (sym same); is_path = subst IsPath (sym same) is }

pub copies_asked : (text path : List ℕ) (is_root : Bool) → path ≡ text → IsPath text → is_root ≡ bytes_eq text (codes "/") → is_root ≡ false → IsWantedOf (wanted.Vendor path) (vendoring text)
copies_asked text path is_root same is test other = record {
  is = ap vendoring (sym same);
  is_path = subst IsPagePath (sym same) (below_root text is_root is test other);
}

-- the root isn't a page's path
pub root_refused : (text : List ℕ) (is_root : Bool) → is_root ≡ bytes_eq text (codes "/") → is_root ≡ true → IsPagePath text → ⊥
root_refused text is_root test root is = is.no_root ((bytes_eq-Decides text (codes "/")).0 (sym test ∙ root))

pub same_asked : (order : Order) (asked other : Asked) → asked ≡ other → IsOrderOf order other → IsOrderOf order asked
same_asked order asked other same is = subst (IsOrderOf order) (sym same) is

pub of_words : (texts : List (List ℕ)) (asked : Asked) (result : Result Wanted WordsFault) → Asks texts asked → MatchResult result (λ wanted. IsWantedOf wanted asked) (RefusesAs (RefusesOrder asked)) → MatchResult result (IsWanted texts) (Explains texts)
of_words texts asked (Ok (wanted.Order order)) asks is = record { asked = asked; asks = asks; is_order = is }
of_words texts asked (Ok (wanted.Why path)) asks is = record { asks = subst (Asks texts) is.is asks; is_path = is.is_path }
of_words texts asked (Ok (wanted.Vendor path)) asks is = record { asks = subst (Asks texts) is.is asks; is_path = is.is_path }
of_words texts asked (Ok (wanted.Measure number)) asks is = subst (Asks texts) is asks
of_words texts asked (Ok wanted.Session) asks is = subst (Asks texts) is asks
of_words texts asked (Err fault) asks refuses = words_refused texts asked fault asks refuses
