-- The record of a folder, as the asking comes to it.
use Rattle.std.proofs.Common.{◌≡◌, ℕ, List, true, Option, Some, None, refl, sym, ap, ◌∙◌, subst}
use Rattle.std.specs.FinMap.{get}
use Rattle.asking_spec.proofs.AskingLemmas.{outcome_then}
use Rattle.asking_spec.specs.Askings.{answered}
use Rattle.json_spec.proofs.PlainReader.{json_sound}
use Rattle.json_spec.specs.PlainReader.{read_json}
use Rattle.tree_spec.specs.Trees.{Tree}
use Rattle.tree_spec.specs.declared.Entry.{Entry}
use Rattle.tree_spec.specs.declared.Entry.TheVariants.{Stored, Directory}
use Rattle.node_spec.proofs.NearestFolders.{text_sees}
use Rattle.node_spec.proofs.OneRecord.{one_record}
use Rattle.node_spec.specs.FileLooks.{look_at_text, is_file}
use Rattle.node_spec.specs.LookupPackageScope.{package_json}
use Rattle.node_spec.specs.Laws.{RecordIsRead, FindsRecord, OneRecordAt}
use Rattle.node_spec.specs.ReadPackageJson.{read_record, record_or_refusal, record_of_entry, IsRecordAt, no_file, from_file}
use Rattle.node_spec.specs.Records.{ReadsRecord, reads_record, after_mark}

pub record_reads : (bytes : List ℕ) → ReadsRecord bytes (read_record bytes)
unfolding read_record
record_reads bytes = reads_record (read_json (after_mark bytes)) (json_sound (after_mark bytes))

pub record_is_read : RecordIsRead
record_is_read bytes out = (
  (λ reads. one_record bytes (read_record bytes) out (record_reads bytes) reads),
  (λ is. subst (ReadsRecord bytes) is (record_reads bytes)),
)

record_by_entry : (tree : Tree) (folder : List ℕ) (found : Option Entry) → get tree (package_json folder) ≡ found
    → IsRecordAt tree folder (record_of_entry found)
record_by_entry tree folder None e = no_file (ap is_file e)
record_by_entry tree folder (Some Directory) e = no_file (ap is_file e)
record_by_entry tree folder (Some (Stored bytes)) e = from_file bytes (read_record bytes) e (record_reads bytes)

pub finds_record : FindsRecord
finds_record tree folder is =
    let place : List ℕ = package_json folder in
    subst (IsRecordAt tree folder)
    (sym (outcome_then (get tree) (look_at_text place) (λ found. answered (record_of_entry found))
    ∙ ap record_of_entry (text_sees tree is place)))
    (record_by_entry tree folder (get tree place) refl)

pub one_record_at : OneRecordAt
one_record_at tree folder _ _ (no_file e) (no_file f) = refl
one_record_at tree folder _ _ (no_file e) (from_file bytes out f r) =
    let held : is_file (get tree (package_json folder)) ≡ true = ap is_file f in
    absurd (cc)
one_record_at tree folder _ _ (from_file bytes out f r) (no_file e) =
    let held : is_file (get tree (package_json folder)) ≡ true = ap is_file f in
    absurd (cc)
one_record_at tree folder _ _ (from_file bytes out f r) (from_file others other g s) =
    let same : bytes ≡ others = cc in
    ap record_or_refusal (one_record others out other (subst (λ b. ReadsRecord b out) same r) s)
