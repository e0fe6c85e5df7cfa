-- What the traces of small trees say, by computation.
use Rattle.std.proofs.Common.{◌≡◌, refl, ap, ◌∙◌}
use Rattle.std.specs.Prelude.{ℕ, List, [], ◌∷◌, codes, map}
use Rattle.std.specs.Fmt.{digits}
use Rattle.std.specs.Str.Lossy.{utf8_valid_len}
use Rattle.import_map_spec.proofs.examples.WrittenMaps.{looked}
use Rattle.trace_spec.specs.Traces.{traced}
use Rattle.generator_examples.specs.Sites.{based}
use Rattle.generator_examples.specs.Traced.{says, Case, AllHold, request_cases, module_cases, order_cases}
use Rattle.generator_examples.specs.Traced.{text_cases, suffix_cases, package_cases}
use Rattle.generator_examples.specs.Traced.{long_entry, TracedExamples}
use Rattle.generator_examples.proofs.Evaluated.{trace_on_literals, by_list}

-- what is said where what stands at a path is looked up in the list
abbrev listed : Case → List ℕ
listed c = says (traced (looked c.files) (based "https://app.test/" c.entries))

abbrev written : Case → List ℕ
written c = codes c.line

all_hold : (cases : List Case) → map listed cases ≡ map written cases → AllHold cases
all_hold [] e = tt
all_hold (c ∷ more) e =
    let first : listed c ≡ written c = cc in
    let rest : map listed more ≡ map written more = cc in
    (ap says (by_list c.files (based "https://app.test/" c.entries)) ∙ first, all_hold more rest)

requests_say : map listed request_cases ≡ map written request_cases
unfolding trace_on_literals digits
requests_say = refl

modules_say : map listed module_cases ≡ map written module_cases
unfolding trace_on_literals digits utf8_valid_len
modules_say = refl

orders_say : map listed order_cases ≡ map written order_cases
unfolding trace_on_literals digits
orders_say = refl

texts_say : map listed text_cases ≡ map written text_cases
unfolding trace_on_literals digits
texts_say = refl

suffixes_say : map listed suffix_cases ≡ map written suffix_cases
unfolding trace_on_literals digits
suffixes_say = refl

packages_say : map listed package_cases ≡ map written package_cases
unfolding trace_on_literals digits
packages_say = refl

too_long : says (traced (looked []) long_entry) ≡ codes "limit: specifier above 4096\n"
unfolding trace_on_literals digits
too_long = refl

pub traced_examples : TracedExamples
traced_examples = record {
  requests = all_hold request_cases requests_say;
  modules = all_hold module_cases modules_say;
  order = all_hold order_cases orders_say;
  texts = all_hold text_cases texts_say;
  suffixes = all_hold suffix_cases suffixes_say;
  packages = all_hold package_cases packages_say;
  too_long = ap says (by_list [] long_entry) ∙ too_long;
}
