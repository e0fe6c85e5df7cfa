-- What requests ask for stands for itself at every base.
use Rattle.std.proofs.Common.{◌≡◌, ℕ, false, List, [], Some, sym, ◌∙◌, subst}
use Rattle.std.specs.Prelude.{◌≢◌}
use Rattle.std.specs.Str.{IsUtf8}
use Rattle.std.proofs.lemmas.Option.{none-some}
use Rattle.url_spec.proofs.NormalTexts.{normal_by, normal_url, normal_bare}
use Rattle.url_spec.proofs.NoUrls.{no_urls}
use Rattle.url_spec.proofs.OwnTexts.{utf8_url}
use Rattle.url_spec.proofs.OwnUrls.{own_urls}
use Rattle.url_spec.specs.Parsing.{IsUrl, parse_alone}
use Rattle.url_spec.specs.Specifiers.{normalized, ends_in_slash}
use Rattle.layout_spec.specs.Needs.{IsAsked}
use Rattle.trace_spec.specs.Laws.{AsksFor, for_url, for_itself}

url_nonempty : (url : List ℕ) → IsUrl url → url ≢ []
url_nonempty url is same = none-some _ (sym no_urls.1 ∙ subst (λ u. parse_alone u ≡ Some u) same is)

pub url_is_asked : (url : List ℕ) → IsUrl url → ends_in_slash url ≡ false → IsAsked url
url_is_asked url is file = record {
  nonempty = url_nonempty url is;
  utf8 = utf8_url url is;
  normal = λ base. normal_url base url is;
  no_folder = file;
}

-- what a request asks for is its normalized specifier
pub asks_normal : (name specifier asked : List ℕ) → AsksFor name specifier asked → normalized name specifier ≡ asked
asks_normal name specifier asked (for_url relative is file) = normal_by name specifier asked is
asks_normal name specifier asked (for_itself other bare same) =
    normal_bare name specifier other bare.no_url ∙ sym same

pub is_asked : (name specifier asked : List ℕ) → IsUtf8 specifier → AsksFor name specifier asked → IsAsked asked
is_asked name specifier asked text (for_url relative is file) =
    url_is_asked asked (own_urls.1 name specifier asked is) file
is_asked name specifier asked text (for_itself other bare same) =
    subst IsAsked (sym same)
    (record {
      nonempty = bare.nonempty;
      utf8 = text;
      normal = λ base. normal_bare base specifier other bare.no_url;
      no_folder = bare.no_folder;
    })
