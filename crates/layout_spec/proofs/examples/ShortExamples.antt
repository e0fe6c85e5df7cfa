-- The worked examples of short forms, by computation.
use Rattle.std.proofs.Common.{◌∙◌, refl}
use Rattle.std.specs.Prelude.{codes}
use Rattle.url.proofs.OnLiterals.{url_on_literals}
use Rattle.url_spec.specs.Parsing.{parse_against, text_of}
use Rattle.layout_spec.proofs.examples.PrintedLists.{lists_text}
use Rattle.layout_spec.specs.ShortExamples.{OfRootPage, OfFolderPage, OddNames, OddBases, PrintedShort, ShortExamples, only_imports, in_app, two_hosts}
use Rattle.layout_spec.specs.ShortForms.{short}

of_root_page : OfRootPage
unfolding parse_against short text_of url_on_literals
of_root_page = record {
  folder = refl;
  file = refl;
  deep = refl;
  scope = refl;
  page_is_root = refl;
  root = refl;
  other_host = refl;
  other_port = refl;
  other_scheme = refl;
  builtin = refl;
}

of_folder_page : OfFolderPage
unfolding parse_against short text_of url_on_literals
of_folder_page = record { folder = refl; below = refl; above = refl; longer_name = refl; based = refl; port = refl }

odd_names : OddNames
unfolding parse_against short text_of url_on_literals
odd_names = record {
  query = refl;
  fragment = refl;
  only_query = refl;
  only_fragment = refl;
  escapes = refl;
  colon = refl;
  like_a_url = refl;
  slashes = refl;
  inner_slashes = refl;
  dot_name = refl;
  three_dots = refl;
  at_sign = refl;
}

odd_bases : OddBases
unfolding parse_against short text_of url_on_literals
odd_bases = record { query = refl; opaque = refl; no_url = refl }

printed_short : PrintedShort
unfolding parse_against short text_of url_on_literals
printed_short = record {
  beside = lists_text (codes "https://app.test/index.html") (only_imports "ui" "https://app.test/node_modules/ui/b.js") ∙ refl;
  above = lists_text (codes "https://app.test/docs/index.html") (only_imports "ui" "https://app.test/node_modules/ui/b.js") ∙ refl;
  in_app = lists_text (codes "https://app.test/app/index.html") in_app ∙ refl;
  two_hosts = lists_text (codes "https://app.test/index.html") two_hosts ∙ refl;
}

pub short_examples : ShortExamples
short_examples = (of_root_page, of_folder_page, odd_names, odd_bases, printed_short)
