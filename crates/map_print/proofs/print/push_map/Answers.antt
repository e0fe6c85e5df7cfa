use Rattle.std.proofs.Common.{rules, ap, ℕ, List, ◌++◌, ◌≡◌, OnOk}
use Rattle.std.proofs.lemmas.Result.{on_ok_weaker}
use Rattle.map_print.proofs.PrintedParts.{whole_map}
use Rattle.map_print.proofs.print.push_map.Goals as goal

pub returns : goal.returns
returns c =
    let ends : OnOk c.extend_from_slice-2.result (c.extend_from_slice-2.new.self.items ≡ c.push_integrity_member.new.out.items ++ c.as_slice-5.result.now) = search rules in
    on_ok_weaker c.extend_from_slice-2.result
    (whole_map {b = c.extend_from_slice.new.self.items} {c = c.push_mappings.new.out.items} {d = c.push_scopes_member.new.out.items} c.args.folder.now c.args.layout.now c.args.integrity.now c.as_slice.result.now c.as_slice-5.result.now (λ rest. ap (λ (xs : List ℕ). xs ++ rest) c.as_slice.ensures) (λ rest. ap (λ (xs : List ℕ). xs ++ rest) c.as_slice-5.ensures) (search rules) (search rules) (search rules) (search rules))
    ends
