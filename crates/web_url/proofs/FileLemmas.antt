-- The URLs of paths, and relative texts that are joined to them.
use Rattle.std.proofs.Common.{◌≡◌, ◌≢◌, ◌<◌, ◌≤◌, ◌++◌, ◌∷◌, [], List, ℕ, Bool, true, false, Option, Some, None, length, drop, sym, ap, ◌∙◌, subst, codes, IsAscii, arith}
use Rattle.std.specs.List.{list_all}
use Rattle.std.specs.Prelude.{Result, Ok, Err, IfOk, IfSome, MatchOption}
use Rattle.std.proofs.lemmas.Bool.{and_parts}
use Rattle.std.proofs.lemmas.List.Elements.{All-weaker}
use Rattle.std.proofs.lemmas.Str.Ascii.{IsAscii-from_all}
use Rattle.tree_spec.specs.Paths.{IsPath, IsParent, joined}
use Rattle.url.proofs.InputLemmas.{Passes, All_from_list_all}
use Rattle.url_spec.proofs.FileJoins.{file_joins}
use Rattle.url_spec.proofs.FileUrls.{file_urls}
use Rattle.url_spec.proofs.OwnTexts.{ascii_urls}
use Rattle.url_spec.proofs.PlainTexts.{path_small, plain_passes}
use Rattle.url_spec.specs.FileJoins.{IsFolderOf, LeadsTo, below, up}
use Rattle.url_spec.specs.FileUrls.{file_text, names_host, url_path}
use Rattle.url_spec.specs.Parsing.{IsUrl, parse_against}
use Rattle.url_spec.specs.WebNames.{is_plain}
use Rattle.web_url.specs.Joins.{IsJoinIn, IsShortJoin}
use Rattle.web_url.specs.Kept.{IsNamed}
use Rattle.web_url.specs.Written.{IsTextOf}

-- ---- the URL of a path

pub named_url : (text path : List ℕ) (folder : Bool) → IsNamed text path folder → IsUrl text
named_url text path folder is = subst IsUrl (sym is.spelled) (file_urls path folder is.is_path is.bytes).0

pub named_text : (text path lent : List ℕ) (folder : Bool) → IsNamed text path folder → lent ≡ text → IsTextOf text lent
named_text text path lent folder is same =
    let url = named_url text path folder is in
    record { text = same; ascii = ascii_urls text url; is_url = url }

pub named_no_host : (text path : List ℕ) (folder : Bool) → IsNamed text path folder → false ≡ names_host text
named_no_host text path folder is = sym (ap names_host is.spelled ∙ (file_urls path folder is.is_path is.bytes).1)

-- its text is that of its path behind `file://`
pub named_split : (text path : List ℕ) (folder : Bool) → IsNamed text path folder → text ≡ codes "file://" ++ url_path text
named_split text path folder is =
    is.spelled ∙ ((file_urls path folder is.is_path is.bytes).2 ∙ ap (λ t. codes "file://" ++ url_path t) (sym is.spelled))

pub named_path : (text path : List ℕ) (folder : Bool) → IsNamed text path folder → drop 7 text ≡ url_path text
named_path text path folder is = ap (drop 7) (named_split text path folder is)

pub named_long : (text path : List ℕ) (folder : Bool) → IsNamed text path folder → 7 ≤ length text
named_long text path folder is = omega (arith, ap length (named_split text path folder is))

pub ruleset named = (named_text, named_no_host)

-- ---- texts of plain bytes

pub plain_ascii : (text : List ℕ) → list_all is_plain text ≡ true → IsAscii text
plain_ascii text plain =
    IsAscii-from_all text (All-weaker (Passes is_plain) (λ b. b < 128) (λ b is. path_small b (plain_passes b is)) text (All_from_list_all is_plain text plain))

pub plain_behind : (front text rest : List ℕ) → text ≡ front ++ rest → list_all is_plain text ≡ true → list_all is_plain rest ≡ true
plain_behind front text rest split plain = behind front rest (ap (list_all is_plain) (sym split) ∙ plain)
  where
    behind : (front rest : List ℕ) → list_all is_plain (front ++ rest) ≡ true → list_all is_plain rest ≡ true
    behind [] rest e = e
    behind (b ∷ front) rest e = behind front rest (and_parts _ _ e).1

-- ---- where a text leads

pub joined_here : {E : Type 0} (above text rest : List ℕ) (r : Result (Option (List ℕ)) E) → text ≡ codes "./" ++ rest
    → IfOk r (λ found. IfSome found (LeadsTo above rest)) → IfOk r (λ found. IfSome found (IsJoinIn above text))
joined_here above text rest (Err e) split leads = tt
joined_here above text rest (Ok None) split leads = tt
joined_here above text rest (Ok (Some target)) split leads =
    λ path folder of is small. ap (parse_against (file_text path folder)) split ∙ (file_joins path above rest target folder is small of).0 leads

pub joined_up : {E : Type 0} (above text rest : List ℕ) (r : Result (Option (List ℕ)) E) → text ≡ codes "../" ++ rest
    → IfOk r (λ found. IfSome found (LeadsTo above text)) → IfOk r (λ found. IfSome found (IsJoinIn above text))
joined_up above text rest (Err e) split leads = tt
joined_up above text rest (Ok None) split leads = tt
joined_up above text rest (Ok (Some target)) split leads =
    λ path folder of is small. ap (parse_against (file_text path folder)) split ∙ (file_joins path above rest target folder is small of).1 (subst (λ t. LeadsTo above t target) split leads)

pub joined_from : {E : Type 0} (path above text : List ℕ) (folder : Bool) (r : Result (Option (List ℕ)) E) → IsFolderOf path folder above
    → IfOk r (λ found. IfSome found (IsJoinIn above text)) → IfOk r (λ found. IfSome found (IsShortJoin path folder text))
joined_from path above text folder (Err e) of joins = tt
joined_from path above text folder (Ok None) of joins = tt
joined_from path above text folder (Ok (Some target)) of joins = joins path folder of

pub led_up : {E : Type 0} (above parent text more : List ℕ) (r : Result (Option (List ℕ)) E) → text ≡ codes "../" ++ more → IsParent parent above
    → IfOk r (λ found. IfSome found (LeadsTo parent more)) → IfOk r (λ found. IfSome found (LeadsTo above text))
led_up above parent text more (Err e) split is leads = tt
led_up above parent text more (Ok None) split is leads = tt
led_up above parent text more (Ok (Some target)) split is leads = up parent above text more target split is leads

led_here : (above text target : List ℕ) → above ≢ codes "/" → list_all is_plain text ≡ true → (target ≡ joined above text) × IsPath (joined above text) → LeadsTo above text target
led_here above text target other plain both = below above text target other plain both.0 (subst IsPath (sym both.0) both.1)

pub led_below : {E : Type 0} (above text : List ℕ) (r : Result (Option (List ℕ)) E) → above ≢ codes "/" → list_all is_plain text ≡ true
    → IfOk r (λ found. MatchOption found (IsPath (joined above text) → ⊥) (λ path. (path ≡ joined above text) × IsPath (joined above text)))
    → IfOk r (λ found. IfSome found (LeadsTo above text))
led_below above text (Err e) other plain joins = tt
led_below above text (Ok None) other plain joins = tt
led_below above text (Ok (Some target)) other plain joins = led_here above text target other plain joins
