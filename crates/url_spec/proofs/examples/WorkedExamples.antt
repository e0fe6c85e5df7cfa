-- The worked examples, by computation.
use Rattle.std.specs.Prelude.{refl}
use Rattle.percent_encoding.specs.Percent.{percent_encode_byte, percent_decode}
use Rattle.url.proofs.OnLiterals.{url_on_literals}
use Rattle.url_spec.specs.Bases.{base_of}
use Rattle.url_spec.specs.FileUrls.{file_text, names_host, url_path, spelled_path}
use Rattle.url_spec.specs.Parsing.{text_of, parse_alone, parse_against}
use Rattle.url_spec.specs.Schemes.{url_scheme, scheme_of, has_special_scheme}
use Rattle.url_spec.specs.ServedPaths.{holds_escape}
use Rattle.url_spec.specs.Specifiers.{as_url, normalized}
use Rattle.url_spec.specs.WebNames.{escaped, web}
use Rattle.url_spec.specs.WorkedExamples.{BaseExamples, SchemeExamples, SpecifierExamples, WebExamples, FileExamples, WorkedExamples}

base_examples : BaseExamples
unfolding base_of parse_alone text_of url_on_literals
base_examples = record { lower_case = refl; no_folder = refl; no_scheme = refl; other_scheme = refl; with_query = refl; with_fragment = refl; with_user = refl }

scheme_examples : SchemeExamples
unfolding scheme_of url_scheme parse_alone text_of url_on_literals
scheme_examples = record { node = refl; upper_case = refl; other = refl; no_url = refl; relative = refl }

specifier_examples : SpecifierExamples
unfolding as_url normalized parse_alone parse_against has_special_scheme text_of url_on_literals
specifier_examples = record { relative = refl; bare = refl; no_url = refl; in_folder = refl; itself = refl; special = refl; not_special = refl }

web_examples : WebExamples
unfolding web escaped holds_escape percent_encode_byte percent_decode parse_alone text_of url_on_literals
web_examples = record { web = refl; before = refl; served = refl; no_slash = refl; same = refl; relative = refl }

file_examples : FileExamples
unfolding file_text escaped holds_escape spelled_path names_host url_path percent_encode_byte percent_decode parse_against text_of url_on_literals
file_examples = record {
  file = refl;
  folder = refl;
  root = refl;
  join = refl;
  empty_segment = refl;
  last_slash = refl;
  escape = refl;
  backslash = refl;
  no_escape = refl;
  host = refl;
  no_host = refl;
  suffix = refl;
}

pub worked_examples : WorkedExamples
worked_examples = (base_examples, scheme_examples, specifier_examples, web_examples, file_examples)
