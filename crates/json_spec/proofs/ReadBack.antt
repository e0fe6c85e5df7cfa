-- The laws on what is printed.
use Rattle.std.specs.Prelude.{ℕ, zero, suc, List, [], IsUtf8, ◌∷◌}
use Rattle.json_spec.proofs.PrintedUtf8.{text_utf8}
use Rattle.json_spec.proofs.TextBack.{text_back}
use Rattle.json_spec.proofs.ValueBack.{text_reads}
use Rattle.json_spec.specs.Grammar.{Reads, reads_text, json_text, most_depth}
use Rattle.json_spec.specs.Laws.{TextsReadBack, StringsReadBack, ValuesReadBack, PrintsUtf8}
use Rattle.json_spec.specs.PrintedString.{quoted}
use Rattle.json_spec.specs.Strings.{in_utf8}
use Rattle.json_spec.specs.Taken.{taken}
use Rattle.json_spec.specs.Value.{a_text}

pub texts_read_back : TextsReadBack
texts_read_back text rest = text_back text rest

string_reads : (depth : ℕ) (text : List ℕ) → IsUtf8 text → Reads depth (quoted text) (taken (a_text text) [])
string_reads zero text u = reads_text {out = taken text []} (in_utf8 (text_back text []) u)
string_reads (suc depth) text u = reads_text {out = taken text []} (in_utf8 (text_back text []) u)

pub strings_read_back : StringsReadBack
strings_read_back text u = json_text (taken (a_text text) []) (string_reads most_depth text u)

pub values_read_back : ValuesReadBack
values_read_back v p = json_text (taken v (10 ∷ [])) (text_reads most_depth v p)

pub prints_utf8 : PrintsUtf8
prints_utf8 depth v p = text_utf8 depth v p
