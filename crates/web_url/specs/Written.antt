-- What the types of this crate hold to, and what text they lend.
--     IsWritten url      what is kept of a URL
--     IsParsed text url      the URL of a text without a base, by its parts
--     IsParsedAs text url      the same by the URL's text
--     IsTextOf url lent      what is lent is the URL's own text, which is ASCII and that of a URL
use Rattle.std.specs.Prelude.{◌≡◌, ℕ, List, None, Ok, IsAscii}
use Rattle.url.specs.Parts.{Parts, IsValid}
use Rattle.url.specs.Parser.{parse_url}
use Rattle.url_spec.specs.Parsing.{text_of, IsUrl}

-- own: the text of the URL is ASCII and parses to the URL itself
pub record IsWritten (url : Parts) : Type 0 where
  pub ascii : IsAscii (text_of url)
  pub back : parse_url None (text_of url) ≡ Ok url

pub record IsParsed (text : List ℕ) (url : Parts) : Type 0 where
  pub parsed : parse_url None text ≡ Ok url
  pub valid : IsValid url

pub record IsParsedAs (text url : List ℕ) : Type 0 where
  pub parts : Parts
  pub is : IsParsed text parts
  pub own : text_of parts ≡ url

pub record IsTextOf (url lent : List ℕ) : Type 0 where
  pub text : lent ≡ url
  pub ascii : IsAscii url
  pub is_url : IsUrl url
