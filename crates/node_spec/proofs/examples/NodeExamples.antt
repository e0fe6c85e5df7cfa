-- The worked examples of Node's resolution, by computation.
use Rattle.std.specs.Prelude.{refl}
use Rattle.std.specs.Char.{encode_utf8}
use Rattle.std.specs.Str.{is_utf8, chars}
use Rattle.percent_encoding.specs.Percent.{percent_encode_byte, percent_decode}
use Rattle.json_spec.specs.Grammar.{most_depth}
use Rattle.json_spec.specs.PropertyOrder.{is_array_index}
use Rattle.tree_spec.specs.FoldersAbove.{folders_from}
use Rattle.url.proofs.OnLiterals.{url_on_literals}
use Rattle.url_spec.specs.FileUrls.{file_text, names_host, url_path, spelled_path}
use Rattle.url_spec.specs.Parsing.{text_of, parse_alone, parse_against}
use Rattle.url_spec.specs.Schemes.{url_scheme, scheme_of}
use Rattle.url_spec.specs.ServedPaths.{holds_escape}
use Rattle.url_spec.specs.WebNames.{escaped}
use Rattle.node_spec.specs.BuiltinNames.{is_builtin}
use Rattle.node_spec.specs.LookupPackageScope.{is_node_modules}
use Rattle.node_spec.specs.PackageTargets.{is_invalid_segment, names_package}
use Rattle.node_spec.specs.ReadPackageJson.{read_record}
use Rattle.node_spec.specs.NodeExamples.{ExportExamples, ConfigExamples, OwnPackageExamples, ImportExamples, SpecifierExamples, FolderExamples, FootprintExamples, FormatExamples, OwnRuleExamples, NodeExamples}

-- what a resolution unfolds to compute on literals
unfoldable pub node_on_literals : Unit {0}
unfolding is_utf8 chars encode_utf8 file_text escaped holds_escape spelled_path names_host url_path url_scheme scheme_of percent_encode_byte percent_decode parse_alone parse_against text_of url_on_literals most_depth folders_from is_builtin is_node_modules is_invalid_segment names_package is_array_index read_record
node_on_literals = tt

export_examples : ExportExamples
unfolding node_on_literals
export_examples = record {
  repeated_key = refl;
  longest_base = refl;
  longest_key = refl;
  any_name = refl;
  null_pattern = refl;
  written_order = refl;
  nested_default = refl;
  main = refl;
  subpath = refl;
  by_condition = refl;
  not_named = refl;
  pattern = refl;
  deep_pattern = refl;
  left_out = refl;
  no_trailer = refl;
}

config_examples : ConfigExamples
unfolding node_on_literals
config_examples = record {
  outside = refl;
  no_record = refl;
  mixed = refl;
  no_object = refl;
  index_key = refl;
  a_number = refl;
  star_above = refl;
  target_missing = refl;
  broken_above = refl;
  broken_relative = refl;
  deep = refl;
}

own_package_examples : OwnPackageExamples
unfolding node_on_literals
own_package_examples = record {
  before_modules = refl;
  itself = refl;
  own_subpath = refl;
  own_private = refl;
  no_exports = refl;
  not_from_within = refl;
}

import_examples : ImportExamples
unfolding node_on_literals
import_examples = record {
  invalid_passed = refl;
  by_condition = refl;
  pattern = refl;
  a_package = refl;
  missing_ends = refl;
  not_defined = refl;
  no_scope = refl;
  mark_alone = refl;
  slash_behind = refl;
  final_slash = refl;
}

specifier_examples : SpecifierExamples
unfolding node_on_literals
specifier_examples = record {
  builtin = refl;
  builtin_url = refl;
  builtin_path = refl;
  external = refl;
  a_data_url = refl;
  scope_alone = refl;
  percent = refl;
  dot = refl;
  final_slash = refl;
  empty = refl;
  backslash = refl;
  empty_part = refl;
  dots_part = refl;
  mark_inside = refl;
  file_url = refl;
  escaped_slash = refl;
  file_slash = refl;
  folder_slash = refl;
  host_fails = refl;
  a_folder = refl;
  missing = refl;
  no_package = refl;
  beside = refl;
  query = refl;
}

folder_examples : FolderExamples
unfolding node_on_literals
folder_examples = record {
  nearest_decides = refl;
  from_root = refl;
  main = refl;
  below = refl;
  leaves = refl;
  index = refl;
  no_index = refl;
  main_query = refl;
  main_slash = refl;
  main_no_text = refl;
  no_package_json = refl;
  below_missing = refl;
  scoped_name = refl;
}

footprint_examples : FootprintExamples
unfolding node_on_literals
footprint_examples = record {
  from_root = refl;
  from_below = refl;
  within_modules = refl;
  relative = refl;
  builtin = refl;
  own = refl;
}

format_examples : FormatExamples
unfolding node_on_literals
format_examples = record {
  of_type = refl;
  by_folder_above = refl;
  of_commonjs = refl;
  always_module = refl;
  always_commonjs = refl;
  other_type = refl;
  no_scope = refl;
  no_record = refl;
  bad_record = refl;
  of_json = refl;
  of_addon = refl;
  no_ending = refl;
  other_ending = refl;
  dot_first = refl;
  case_counts = refl;
  looks = refl;
  looks_at_nothing = refl;
}

own_rule_examples : OwnRuleExamples
unfolding node_on_literals
own_rule_examples = record {
  byte_order_mark = refl;
  whole_name = refl;
  not_a_drive = refl;
  caret = refl;
  nul = refl;
  no_utf8 = refl;
  escaped_backslash = refl;
  escape_in_query = refl;
  invalid_passed = refl;
  null_passed = refl;
  last_null = refl;
  last_invalid = refl;
  empty_list = refl;
  first_place = refl;
  bare_target = refl;
  nested_modules = refl;
  escaped_dots = refl;
}

pub node_examples : NodeExamples
node_examples = (export_examples, config_examples, own_package_examples, import_examples, specifier_examples, folder_examples, footprint_examples, format_examples, own_rule_examples)
