use Rattle.std.proofs.Common.{rules, ap, ℕ, List, ◌++◌, ◌≡◌, OnOk}
use Rattle.std.proofs.lemmas.Result.{on_ok_weaker}
use Rattle.project_file.proofs.PrintLemmas.{first_utf8, listed}
use Rattle.project_file.proofs.printing.push_strings.Goals as goal

pub returns-clause-text : goal.returns-clause-text
returns-clause-text c =
    let ends : OnOk c.extend_from_slice-2.result (c.extend_from_slice-2.new.self.items ≡ c.push_more_strings.new.out.items ++ c.as_slice-2.result.now) = search rules in
    on_ok_weaker c.extend_from_slice-2.result
    (listed c.in-Some.first.now c.as_str.result.now c.in-Some.more.now c.args.texts.now c.as_slice-2.result.now (search rules) (λ rest. ap (λ (xs : List ℕ). xs ++ rest) c.as_slice-2.ensures) (search rules) c.as_str.ensures c.in_ok-push_string.ensures c.in_ok-push_more_strings.ensures.text)
    ends

pub returns-clause-utf8 : goal.returns-clause-utf8
returns-clause-utf8 c =
    let ends : OnOk c.extend_from_slice-2.result (c.extend_from_slice-2.new.self.items ≡ c.push_more_strings.new.out.items ++ c.as_slice-2.result.now) = search rules in
    on_ok_weaker c.extend_from_slice-2.result
    (λ _. first_utf8 c.in-Some.first.now c.as_str.result.now c.in-Some.more.now c.args.texts.now (search rules) c.as_str.ensures c.as_str.utf8 c.in_ok-push_more_strings.ensures.utf8)
    ends
