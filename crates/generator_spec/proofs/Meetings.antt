-- What an end has to do with the outcome that is defined.
use Rattle.std.proofs.Common.{◌≡◌, ◌≢◌, ◌⊎◌, ◌++◌, ℕ, List, Option, Some, None, Ok, IfSome, inl, inr, refl, sym, ap, ◌∙◌, subst}
use Rattle.std.specs.Prelude.{option_map, [], ◌∷◌}
use Rattle.std.specs.List.{concat}
use Rattle.tree_spec.specs.States.{FolderState, SinkState}
use Rattle.tree_spec.specs.Trees.{Tree}
use Rattle.generator_spec.specs.Lines.{memory_line}
use Rattle.config_spec.specs.declared.Command.TheVariants.{Vendor, Why}
use Rattle.generator_spec.specs.Outcome.{ComesTo, ComesTo as comes, Outcome}
use Rattle.generator_spec.specs.Commands.{IsGenerating, NewFile}
use Rattle.generator_spec.specs.Ending.{StopsCopying, StopsWriting, Says, Ends, Says as says, Ends as ends}
use Rattle.generator_spec.specs.Laws.{SameOutcome}
use Rattle.generator_spec.specs.Promises.{Quiet, Stands, Finishes, Completes, Meets, Finishes as finish, Completes as complete}
use Rattle.config_spec.specs.Words.{IsPlain}
use Rattle.generator_spec.proofs.Configs.{command_is, command_is_plain, one_config}
use Rattle.generator_spec.proofs.Outcomes.{checked_or_other, one_outcome, one_status, refused_or_vendored, refused_or_written, two_commands, writes_count, writes_generate}
use Rattle.generator_spec.proofs.Strictnesses.{checking_or_generating, says_checking}
use Rattle.generator_spec.proofs.Endings.{HasOutcomeIn, one_line_text}

pub told_there : (P : Tree → Type 0) (held : Option Tree) (tree : Tree) → held ≡ Some tree → IfSome held P → P tree
told_there P None tree e h = absurd (cc)
told_there P (Some other) tree e h = let same : other ≡ tree = cc in subst P same h

if_told : {P : Tree → Type 0} (held : Option Tree) → ((tree : Tree) → held ≡ Some tree → P tree) → IfSome held P
if_told None f = tt
if_told (Some tree) f = f tree refl

-- an outcome that writes nothing leaves nothing to write
no_map :
    (words : List (List ℕ)) (tree : Tree) (line : List ℕ) (told : Option Tree) (expected : ℕ) (texts : List (List ℕ))
    (files : List NewFile) → StopsWriting words tree line told → ComesTo words tree expected texts files → expected ≢ 0 → ⊥
no_map words tree line told expected texts files stops (comes.not_plain text none s l f) other =
    none (command_is_plain words stops.generated.command
    (command_is words tree stops.generated.command (Ok stops.generated.config) stops.generated.is_config))
no_map words tree line told expected texts files stops (comes.refused why refused s l f) other =
    refused_or_written words tree why stops.generated.command stops.generated.config stops.map refused
    stops.generated.is_config stops.generated.opens stops.generated.generates
    (writes_count tree stops.generated.config stops.map stops.generated.command stops.files stops.writes)
no_map words tree line told expected texts files stops (comes.written command config map is generates wrote s l) other =
    other s
no_map words tree line told expected texts files stops (comes.checked command config map all strict is holds traces says_so s l f) other =
    checking_or_generating command (says_checking all command strict says_so)
    (subst IsGenerating
    (one_config words tree stops.generated.command command stops.generated.config config stops.generated.is_config is).one_command
    (writes_generate tree stops.generated.config stops.map stops.generated.command stops.files stops.writes))
no_map words tree line told expected texts files stops (comes.listed config all is traces s l f) other = other s
no_map words tree line told expected texts files stops (comes.explained path config all asks is traces tells f) other =
    subst IsGenerating
    (one_config words tree stops.generated.command Why stops.generated.config config stops.generated.is_config is).one_command
    (writes_generate tree stops.generated.config stops.map stops.generated.command stops.files stops.writes)
no_map words tree line told expected texts files stops (comes.vendored to pairs v s l f) other = other s
no_map words tree line told expected texts files stops (comes.measured number map asks generates s l f) other = other s

-- and nothing to copy
no_copies :
    (words : List (List ℕ)) (tree : Tree) (told : Option Tree) (expected : ℕ) (texts : List (List ℕ))
    (files : List NewFile) → StopsCopying words tree told → ComesTo words tree expected texts files → expected ≢ 0 → ⊥
no_copies words tree told expected texts files stops (comes.not_plain text none s l f) other =
    none (command_is_plain words Vendor
    (command_is words tree Vendor (Ok stops.vendors.config) stops.vendors.is_config))
no_copies words tree told expected texts files stops (comes.refused why refused s l f) other =
    refused_or_vendored words tree why stops.to stops.pairs refused stops.vendors
no_copies words tree told expected texts files stops (comes.written command config map is generates wrote s l) other =
    other s
no_copies words tree told expected texts files stops (comes.checked command config map all strict is holds traces says_so s l f) other =
    checked_or_other words tree command Vendor config stops.vendors.config (says_checking all command strict says_so) is
    stops.vendors.is_config (λ same. absurd (cc)) (λ same. absurd (cc))
no_copies words tree told expected texts files stops (comes.listed config all is traces s l f) other = other s
no_copies words tree told expected texts files stops (comes.explained path config all asks is traces tells f) other =
    two_commands words tree Why Vendor config stops.vendors.config is stops.vendors.is_config (λ same. absurd (cc))
no_copies words tree told expected texts files stops (comes.vendored to pairs v s l f) other = other s
no_copies words tree told expected texts files stops (comes.measured number map asks generates s l f) other = other s

module _ (words : List (List ℕ)) (tree : Tree) (before after : FolderState) (out out_after : SinkState)
    (result status : ℕ) (lines : List (List ℕ)) (told : before.holds ≡ Some tree) where
  told_outcome :
      IfSome before.holds (HasOutcomeIn words status lines after.holds)
      → HasOutcomeIn words status lines after.holds tree
  told_outcome o = told_there (HasOutcomeIn words status lines after.holds) before.holds tree told o

  with_memory :
      result ≡ status → out_after.got ≡ option_map (λ front. front ++ concat lines) out.got → status ≡ 8
      → lines ≡ memory_line ∷ [] → after.holds ≡ before.holds → Stands 8 memory_line before.holds after out out_after result
  with_memory is given s t k =
      record { answered = is ∙ s; given = given ∙ ap (λ l. option_map (λ front. front ++ l) out.got) (ap concat t ∙ one_line_text memory_line); told = k }

  finishes :
      Quiet before after out out_after → Says words before after status lines → Ends status (concat lines) out out_after result
      → Finishes words tree before after out out_after result
  finishes none (says.outcome shape o l w) (ends.said is given quiet) =
      let here = told_outcome o in
      finish.finished status lines here.0 here.1 (record { answered = is; given = given; told = here.2 })
  finishes none (says.memory s t k l w) (ends.said is given quiet) = finish.memory (with_memory is given s t k)
  finishes none (says.read_fault command is_command s t k rose w) ended = absurd (none.looks rose)
  finishes none (says.write_fault line counted stops s t l rose) ended = absurd (none.writes rose)
  finishes none (says.copy_fault able stops s t l rose) ended = absurd (none.writes rose)
  finishes none (says.outcome shape o l w) (ends.output_fault is gives rose) = absurd (none.output rose)
  finishes none (says.memory s t k l w) (ends.output_fault is gives rose) = absurd (none.output rose)

  module _ (expected : ℕ) (texts : List (List ℕ)) (later : Tree) (result_is : Outcome words tree expected texts later) where
    same_outcome :
        (here : HasOutcomeIn words status lines after.holds tree) → IsPlain words
        → SameOutcome status expected lines texts here.0 later
    same_outcome here plain = one_outcome words tree status expected lines texts here.0 later plain here.1 result_is

    status_is : Says words before after status lines → (status ≡ expected) ⊎ (status ≡ 8) ⊎ (status ≡ 4) ⊎ (status ≡ 5)
    status_is (says.outcome shape o l w) =
        inl (one_status words tree status expected lines texts (told_outcome o).0 later (told_outcome o).1 result_is)
    status_is (says.memory s t k l w) = inr (inl s)
    status_is (says.read_fault command is_command s t k rose w) = inr (inr (inl s))
    status_is (says.write_fault line counted stops s t l rose) = inr (inr (inr s))
    status_is (says.copy_fault able stops s t l rose) = inr (inr (inr s))

    exactly :
        Says words before after status lines → Ends status (concat lines) out out_after result
        → (result ≡ expected) ⊎ (result ≡ 8) ⊎ (result ≡ 4) ⊎ (result ≡ 5)
    exactly s (ends.said is given quiet) =
        subst (λ n. (n ≡ expected) ⊎ (n ≡ 8) ⊎ (n ≡ 4) ⊎ (n ≡ 5)) (sym is) (status_is s)
    exactly s (ends.output_fault is gives rose) = inr (inr (inr is))

    completes :
        IsPlain words → Quiet before after out out_after → Says words before after status lines
        → Ends status (concat lines) out out_after result
        → Completes expected texts later before after out out_after result
    completes plain none (says.outcome shape o l w) (ends.said is given quiet) =
        let here = told_outcome o in
        let same = same_outcome here plain in
        complete.complete (record {
          answered = is ∙ same.one_status;
          given = given ∙ ap (λ t. option_map (λ front. front ++ concat t) out.got) same.same_lines;
          told = here.2 ∙ ap Some same.one_tree;
        })
    completes plain none (says.memory s t k l w) (ends.said is given quiet) = complete.memory (with_memory is given s t k)
    completes plain none (says.read_fault command is_command s t k rose w) ended = absurd (none.looks rose)
    completes plain none (says.write_fault line counted stops s t l rose) ended = absurd (none.writes rose)
    completes plain none (says.copy_fault able stops s t l rose) ended = absurd (none.writes rose)
    completes plain none (says.outcome shape o l w) (ends.output_fault is gives rose) = absurd (none.output rose)
    completes plain none (says.memory s t k l w) (ends.output_fault is gives rose) = absurd (none.output rose)

    unwritten : expected ≢ 0 → Says words before after status lines → after.write_faults ≡ before.write_faults
    unwritten other (says.outcome shape o l w) = w
    unwritten other (says.memory s t k l w) = w
    unwritten other (says.read_fault command is_command s t k rose w) = w
    unwritten other (says.write_fault line counted stops s t l rose) =
        let here = told_there (λ t. StopsWriting words t line after.holds) before.holds tree told stops in
        absurd (no_map words tree line after.holds expected texts result_is.files here result_is.comes other)
    unwritten other (says.copy_fault able stops s t l rose) =
        let here = told_there (λ t. StopsCopying words t after.holds) before.holds tree told stops in
        absurd (no_copies words tree after.holds expected texts result_is.files here result_is.comes other)

  meets :
      Says words before after status lines → Ends status (concat lines) out out_after result
      → Meets words tree before after out out_after result
  meets s e = record {
    ended = λ none. finishes none s e;
    exactly = λ expected texts later result_is. exactly expected texts later result_is s e;
    complete = λ plain expected texts later result_is none. completes expected texts later result_is plain none s e;
    unwritten = λ expected texts later result_is other. unwritten expected texts later result_is other s;
  }

pub end_meets :
    (words : List (List ℕ)) (before after : FolderState) (out out_after : SinkState) (result status : ℕ)
    (lines : List (List ℕ)) → Says words before after status lines → Ends status (concat lines) out out_after result
    → IfSome before.holds (λ tree. Meets words tree before after out out_after result)
end_meets words before after out out_after result status lines s e =
    if_told before.holds (λ tree told. meets words tree before after out out_after result status lines told s e)
