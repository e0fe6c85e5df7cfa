use Rattle.std.proofs.Common.{rules, ap, subst, All, IsUtf8, ℕ, List, ◌++◌, ◌≡◌, OnOk}
use Rattle.std.proofs.lemmas.Result.{on_ok_weaker}
use Rattle.project_file.proofs.PrintLemmas.{whole_project}
use Rattle.project_file.proofs.printing.push_project.Goals as goal

pub returns-clause-text : goal.returns-clause-text
returns-clause-text c =
    let ends : OnOk c.extend_from_slice-5.result (c.extend_from_slice-5.new.self.items ≡ c.push_strings-2.new.out.items ++ c.as_slice-5.result.now) = search rules in
    on_ok_weaker c.extend_from_slice-5.result
    (whole_project {b = c.extend_from_slice.new.self.items} {c = c.print_text.new.into.items} {d = c.extend_from_slice-2.new.self.items} {e = c.print_text-2.new.into.items} {f = c.extend_from_slice-3.new.self.items} {g = c.push_strings.new.out.items} {h = c.extend_from_slice-4.new.self.items} {i = c.push_strings-2.new.out.items} c.args.config.now c.as_slice.result.now c.as_slice-2.result.now c.as_slice-3.result.now c.as_slice-4.result.now c.as_slice-5.result.now (λ rest. ap (λ (xs : List ℕ). xs ++ rest) c.as_slice.ensures) (λ rest. ap (λ (xs : List ℕ). xs ++ rest) c.as_slice-2.ensures) (λ rest. ap (λ (xs : List ℕ). xs ++ rest) c.as_slice-3.ensures) (λ rest. ap (λ (xs : List ℕ). xs ++ rest) c.as_slice-4.ensures) (λ rest. ap (λ (xs : List ℕ). xs ++ rest) c.as_slice-5.ensures) (search rules) (search rules) (search rules) (search rules) (search rules) (search rules) (search rules) (search rules))
    ends

pub returns-clause-can_be_read : goal.returns-clause-can_be_read
returns-clause-can_be_read c =
    let ends : OnOk c.extend_from_slice-5.result (c.extend_from_slice-5.new.self.items ≡ c.push_strings-2.new.out.items ++ c.as_slice-5.result.now) = search rules in
    on_ok_weaker c.extend_from_slice-5.result
    (λ _. record {
      project = search rules;
      few = search rules;
      page = search rules;
      entries = subst (All IsUtf8) c.entries.ensures.entries c.in_ok-push_strings-2.ensures.utf8;
    }) ends
