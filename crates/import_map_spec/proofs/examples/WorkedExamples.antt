-- The worked examples, by computation.
use Rattle.std.proofs.Common.{refl, ◌∙◌}
use Rattle.std.specs.Char.{encode_utf8}
use Rattle.std.specs.FinMap.{empty, insert}
use Rattle.std.specs.Prelude.{◌≡◌, Ok, Result, codes, Some}
use Rattle.std.specs.Str.{is_utf8, chars}
use Rattle.url.proofs.OnLiterals.{url_on_literals}
use Rattle.json_spec.proofs.PlainReader.{json_sound}
use Rattle.json_spec.specs.Grammar.{most_depth}
use Rattle.json_spec.specs.PropertyOrder.{is_array_index}
use Rattle.json_spec.specs.Value.{Json}
use Rattle.url_spec.specs.Parsing.{text_of, parse_alone, parse_against}
use Rattle.url_spec.specs.Schemes.{has_special_scheme}
use Rattle.url_spec.specs.Specifiers.{as_url, normalized}
use Rattle.import_map_spec.proofs.Entries.{insert_again}
use Rattle.import_map_spec.proofs.examples.WrittenMaps.{ListsAnswer, answered}
use Rattle.import_map_spec.specs.ParsedMap.{Texts, Addresses, ParsedMap}
use Rattle.import_map_spec.specs.Parsing.{parsed_map}
use Rattle.import_map_spec.specs.WorkedExamples.{page, IsExample, ImportExamples, ScopeExamples, ReplacedExamples, FaultExamples, IntegrityExamples, OrderExamples, ByteExamples, WorkedExamples}
use Rattle.import_map_spec.specs.WrittenMaps.{Lists, map_of_lists, Questions}
use Rattle.import_map_spec.specs.declared.MapPart.{MapPart}

computed : {value : Json} {lists : Lists} {questions : Questions} → parsed_map page value ≡ Ok (map_of_lists lists) → ListsAnswer lists questions → IsExample value lists questions
computed {lists = lists} {questions = questions} reads answers = record { reads = reads; answers = answered lists questions answers }

import_examples : ImportExamples
unfolding parsed_map is_array_index normalized as_url parse_alone parse_against has_special_scheme text_of url_on_literals
import_examples = record {
  null_address = computed refl (refl, (refl, tt));
  folder = computed refl (refl, (refl, (refl, (refl, (refl, tt)))));
  empty_key = computed refl (refl, tt);
  no_slash = computed refl (refl, tt);
  no_urls = computed refl (refl, (refl, (refl, (refl, tt))));
  replaced = computed refl (refl, (refl, tt));
  longest = computed refl (refl, (refl, tt));
  longest_null = computed refl (refl, (refl, tt));
  schemes = computed refl (refl, (refl, (refl, tt)));
  no_map = computed refl (refl, (refl, (refl, (refl, (refl, tt)))));
  checked = computed refl (refl, (refl, (refl, (refl, tt))));
}

scope_examples : ScopeExamples
unfolding parsed_map is_array_index normalized as_url parse_alone parse_against has_special_scheme text_of url_on_literals
scope_examples = record {
  replaced = computed refl (refl, tt);
  no_index = computed refl (refl, (refl, tt));
  no_url = computed refl (refl, (refl, tt));
  inner_last = computed refl (refl, (refl, (refl, tt)));
  inner_first = computed refl (refl, (refl, (refl, tt)));
  exact = computed refl (refl, (refl, (refl, tt)));
  over_imports = computed refl (refl, (refl, (refl, (refl, tt))));
}

same_scopes : {one other : Texts Addresses} → one ≡ other → ◌≡◌ {A = Result ParsedMap MapPart} (Ok (record { imports = empty; scopes = one; integrity = empty })) (Ok (record { imports = empty; scopes = other; integrity = empty }))
same_scopes e = λ i. Ok (record { imports = empty; scopes = e i; integrity = empty })

same_imports : {one other : Addresses} → one ≡ other → ◌≡◌ {A = Result ParsedMap MapPart} (Ok (record { imports = one; scopes = empty; integrity = empty })) (Ok (record { imports = other; scopes = empty; integrity = empty }))
same_imports e = λ i. Ok (record { imports = e i; scopes = empty; integrity = empty })

replaced_examples : ReplacedExamples
replaced_examples = record {
  one_scope = scope_examples.replaced.reads ∙ same_scopes (insert_again empty (codes "https://app.test/1") (insert empty (codes "a") (Some (codes "https://app.test/c"))) (insert empty (codes "a") (Some (codes "https://app.test/b"))));
  one_key = import_examples.replaced.reads ∙ same_imports (insert_again empty (codes "https://app.test/m") (Some (codes "https://app.test/x")) (Some (codes "https://app.test/y")));
}

fault_examples : FaultExamples
unfolding parsed_map is_array_index normalized as_url parse_alone parse_against text_of url_on_literals
fault_examples = record { top = refl; imports = refl; scopes = refl; scope = refl; integrity = refl; imports_first = refl; scope_first = refl; others = refl }

integrity_examples : IntegrityExamples
unfolding parsed_map is_array_index normalized as_url parse_alone parse_against text_of url_on_literals
integrity_examples = record { dropped = refl; replaced = refl }

order_examples : OrderExamples
unfolding is_array_index
order_examples = record { by_number = refl; greatest = refl; no_digits = refl }

byte_examples : ByteExamples
unfolding parsed_map is_array_index normalized as_url parse_alone parse_against text_of url_on_literals most_depth is_utf8 chars encode_utf8
byte_examples = record { map = record { json = _; reads = json_sound _; is = refl }; no_object = record { json = _; reads = json_sound _; is = refl }; no_json = record { json = _; reads = json_sound _; is = refl } }

pub worked_examples : WorkedExamples
worked_examples = (import_examples, scope_examples, replaced_examples, fault_examples, integrity_examples, order_examples, byte_examples)
