-- `new_block` makes a row of empty places of what the allocator gives, and keeps the right to give it back.
use mathlib.Core.Path.{◌≡◌, refl, sym, ap, subst}
use mathlib.Core.Bool.{true, false}
use Prim.Native.Nat.{ℕ, ◌*◌, ◌<◌, ◌^◌}
use native.Mathlib.Omega.{arith}
use mathlib.Core.List.{List, [], ◌∷◌, ◌++◌}
use lib.Dec.{lit<}
use lib.ListN.{length, replicate, length-replicate}
use seplogic.Ra.Ura.{Ura}
use mir.Syntax.{Fn, Body, named, w64, ty_array}
use mir.MapTy.{inst_fn}
use mir.Val.{Val, vptr, vint, vstruct, vcons, vnil}
use base.Logic.{SProp, ent}
use base.Fml.{Lft, Share, ftrue, flft, Incl-trans}
use prog.Capped.{capped_fits}
use prog.Memory.{Memory, align, capped}
use prog.Routine.{Routine}
use prog.Wp.{Env, Calls, Loops, WpFn, Wp, Tables, after_seq, at_return}
use types.Logic.{Logic}
use contract.BorrowLft.{◌⊑◌}
use contract.Monad.{Fun, fact}
use contract.Running.{tables, tables_of}
use sound.WpLaws.{WpFn-mono, FmC, fm_of}
use types.Kit.{Item, Post as After, any_q, ⋆, ‵, raw, ◌⊛◌, later, await, at_ret, ◌$◌, ◌∵◌, !, qed, by, move, keep, use0, use1, use2, use3, split, join, fsplit, fsplit3, fjoin, feq_l, flt_l, flt_i, suffices, frame, done}
use types.Match.{live, vrt, in_variant}
use types.Part.{whole, agg}
use types.Run.{stop, fld, lit, bin, size_word, align_word, of_opd, and_then, no_more, first, switches_on, exec, returns, enter}
use types.ByLocal.{alloc_all, pass_all, free_all, look_at, get, get_in, get_tag, sets, sets_last, lands_as, is, env}
use denote.Builtin.{RefOf, usize}
use denote.Exit.{yes}
use denote.Laws.{Is}
use denote.Memory.{hidden_shr}
use denote.Param.{layout}
use denote.RattleType.{RattleType, owns}
use denote.RawPtr.{Ptr, block_ptr}
use denote.Ref.{Bor, ShrRef}
use denote.Signature.{plain}
use denote.Steps.{nothing, owned}
use denote.Struct.Declared as Declared
use denote.Struct.Struct.{Struct, Struct-Makes}
use denote.Struct.Tuple.{Tuple}
use denote.Triple.Call.{calls_at}
use denote.Triple.Clauses.{Clauses, Ended, closing}
use denote.Triple.Entry.{on_entry}
use denote.Triple.Spec.{Meets, triple_of}
use denote.Triple.Statement.{Triple}
use denote.Triple.Table.{entered}
use denote.Triple.Walked.{says, needs, Stays, stay_dropped, walk_of, ends_at, Goes-dropped, walk_Meets}
use Rattle.std.specs.Prelude.{None, IfOk, Ok, Err}
use Rattle.std.specs.Vec.Ownership.{FitsInBlock}
use Rattle.std.specs.contracts.alloc.AllocError as AllocError
use Rattle.std.specs.contracts.result.Result as Result
use Rattle.std.proofs.alloc.Calls.{Al, second, Answer-typed, takes_key, Takes, at_takes, Answered, Takes-goes, Takes-gives, answers}
use Rattle.std.proofs.mem.Param.{El, R, elτ}
use Rattle.std_alloc.proofs.RawLayout.{as_written}
use Rattle.std_alloc.proofs.RcSteps.{Good, word, word-Good, first_Good}
use Rattle.std_alloc.proofs.ResultValues.{ok_of, err_of}
use Rattle.std_alloc.proofs.VecSteps.Shapes.{after, head, arm_body}
use Rattle.slot_arena.specs.Blocks.{places_held}
use Rattle.slot_arena.proofs.BlockLayout.{uncapped, block_type, block_size, block_align, given_args, From, triple, triple_of_parts}
use Rattle.slot_arena.proofs.BlockMemory.{Held, Begin, Mark, width, blank, mark_of, begin_of, room_places}
use Rattle.slot_arena.specs.contracts.block.Right as Right
use Rattle.slot_arena.specs.contracts.block.Start.new_block as promise
use Rattle.slot_arena.specs.contracts.block.Start.new_block.Key.{name as #new_block}
use Rattle.slot_arena.proofs.block.Start.new_block.Statement as stated
use Rattle.slot_arena.proofs.block.Start.new_block.Code as code

module _ (E : El) (Z : Al) where
  abbrev function : Fn
  function = inst_fn (given_args E Z) code.function

  abbrev ended : Ended
  ended = promise.ended E.row Z.row Z.g Z.d Z.drops

  abbrev clauses : {M : Type 1} {𝓤 : Ura M} (𝓛 : Logic 𝓤) → (Memory → SProp 𝓤) → (Routine → Fun 𝓤) → Clauses 𝓤 ended
  clauses 𝓛 = promise.clauses E.row Z.row Z.g Z.d Z.drops 𝓛

  abbrev To : RattleType
  To = Right.the_row (R E) (From Z) Z.g

  abbrev Parts : RattleType
  Parts = Tuple (Begin E ∷ Held E ∷ To ∷ [])

  abbrev Out : RattleType
  Out = Result.the_row Parts AllocError.the_row

  abbrev stayed : Stays ended.signature.params ended.kept
  stayed = (stay_dropped (RefOf (0 ∷ []) tt (plain (λ _. From Z)) (λ _. tt)) yes, (stay_dropped (plain (λ _. usize)) yes, tt))

module _ (E : El) (Z : Al) {M : Type 1} {𝓤 : Ura M} (𝓛 : Logic 𝓤) (at_mem : Memory → SProp 𝓤) (run : Routine → Fun 𝓤) (C : Calls 𝓤 𝓛.H) (Λ : Loops 𝓤 𝓛.H) (fm : FmC 𝓤 𝓛.H 𝓛.laws C)
    (allocates : Triple 𝓤 (C (takes_key Z)) (Takes Z 𝓛 at_mem run)) (κ κ₁ κ₂ : Lft) (q q₁ q₂ : Share) (short : κ ⊑ κ₂) (within : κ₂ ⊑ Z.row.lives) (ab ao : ℕ) (alloc : Z.row.Denot) (count : ℕ)
    (us0 us1 : List Val) where
  open 𝓛 use {H, A}

  abbrev handle : Bor Z.row.Denot
  handle = record { ref_ptr = (ab, ao); now = alloc }

  -- the tokens of the type parameters' lifetimes
  abbrev tokens : Item 𝓤
  tokens = ‵ (flft κ₁ q₁) ⊛ ‵ (flft κ₂ q₂) ⊛ ‵ ftrue

  abbrev bound : (walk_of 𝓛 (ended E Z) (stayed E Z) (clauses E Z 𝓛 at_mem run)).Ghost
  bound = (((κ, (κ₁, (κ₂, tt))), (q, (q₁, (q₂, tt))), (short, tt), (handle, (count, tt)), (us0, (us1, tt))), tt)

  abbrev Post : Val → SProp 𝓤
  Post = (walk_of 𝓛 (ended E Z) (stayed E Z) (clauses E Z 𝓛 at_mem run)).post bound

  abbrev Made : (Out E Z).Denot → Type 0
  Made r = IfOk r (λ b. (b.1.start ≡ b.0.first) × (b.1.places ≡ replicate count None) × (b.2.start ≡ b.0.first) × (b.2.count ≡ count) × (b.2.from ≡ alloc))

  end : (r : (Out E Z).Denot) (v : Val) → Made r → ent 𝓤 (⋆ 𝓛 (‵ ((Out E Z).own_val r (v ∷ [])) ∷ ‵ (flft κ q) ∷ tokens ∷ [])) (Post v)
  end r v made =
      qed 𝓛 (‵ ((Out E Z).own_val r (v ∷ [])) ∷ ‵ (flft κ q) ∷ tokens ∷ []) ∵
      suffices ! _ (ends_at 𝓛 (ended E Z) (stayed E Z) (clauses E Z 𝓛 at_mem run) bound v r (tt, (tt, tt)) (tt, (tt, tt))) $ says ! made $
      move ! (1 ∷ 2 ∷ []) $ join ! $ frame ! $ nothing ! $ nothing ! $ fjoin ! $ nothing ! $ fjoin ! $ done !

  -- [what is lent of the handle; its token; the others]
  abbrev Had : List (Item 𝓤)
  Had = ‵ (hidden_shr (From Z) κ alloc ab ao) ∷ ‵ (flft κ q) ∷ tokens ∷ []

  walk : FitsInBlock (R E) count → count < 2 ^ 64 → ent 𝓤 (⋆ 𝓛 Had) (WpFn 𝓤 H C Λ (function E Z) (vptr ab ao ∷ vint w64 count ∷ []) Post)
  walk asked small =
      let s = width E in let fits : count * s < 2 ^ 63 = asked.0 in let bytes : count * s < 2 ^ 64 = omega arith in
      qed 𝓛 Had ∵ enter ! C Λ (function E Z) (vptr ab ao ∷ vint w64 count ∷ []) _ $ alloc_all ! (λ l. pass_all ! refl ((tt, tt), ((tt, record { fits = small }), tt)) $
      let En : Env 𝓤 H = env (function E Z).locals l in
      let arms : Body = head (after 2 (function E Z).body) in
      let Join : After 𝓤 H = any_q (after_seq 𝓤 H (Wp 𝓤 H C Λ En (after 3 (function E Z).body) (at_return 𝓤 H En Post)) (at_return 𝓤 H En Post)) in
      let al : ℕ = capped (align (elτ E)) in
      let asks : (Takes Z 𝓛 at_mem run).Ghost = at_takes Z 𝓛 at_mem run κ q (ab, ao) alloc (count * s) al (block_type E count) in
      -- alloc.allocate(count * size_of::<T>(), align_of::<T>())
      sets ! (is ! (bin ! (get ! refl) (size_word !) (record { fits = subst (λ (n : ℕ). n < 2 ^ 64) (sym (uncapped count s bytes)) bytes })) (ap (vint w64) (uncapped count s bytes))) refl (tt, record { fits = bytes }) $
      use2 𝓛 (raw ((Takes Z 𝓛 at_mem run).pre asks))
      (Takes-goes Z 𝓛 at_mem run κ q (ab, ao) alloc (Incl-trans short within) (count * s) al (block_type E count) (block_size E count bytes) (block_align E count) bytes (capped_fits (align (elτ E)))) $
      calls_at ! fm (Takes Z 𝓛 at_mem run) allocates asks (and_then ! (get ! refl) (and_then ! (get ! refl) (and_then ! (align_word !) (no_more !)))) (λ v.
      use1 𝓛 (later (raw (Answered Z 𝓛 at_mem run alloc (block_type E count) v) ⊛ ‵ (flft κ q))) (Takes-gives Z 𝓛 at_mem run κ q (ab, ao) alloc (count * s) al (block_type E count) v) $ await ! tt $ split ! $
      answers Z ! at_mem run alloc (block_type E count) v
      -- Ok(memory): [room; the right; the token of the handle; the others]
      (λ b o e.
      let p : Ptr = block_ptr b o in
      let start : (Begin E).Denot = record { first = p } in
      let row : (Held E).Denot = record { mark = record {}; start = p; places = replicate count None } in
      let right : (To E Z).Denot = record { mark = record {}; start = p; count = count; from = alloc } in
      let parts : Val = triple (word p) blank blank in
      let typed : Good (layout (Parts E Z)) parts = (tt, ((tt, tt), ((tt, tt), ((tt, tt), tt)))) in
      let answer = first_Good (layout (Parts E Z)) parts typed in
      lands_as ! e refl (Answer-typed true b o) $ first ! $ switches_on ! (get_tag ! (vrt ! refl (fld ! refl (stop !))) (whole !)) $ exec ! C Λ En (arm_body 0 arms) Join $
      sets ! (of_opd ! (get_in ! (vrt ! refl (fld ! refl (stop !))) (in_variant ! 0 0 refl refl (whole !)))) refl (tt, tt) $ sets ! (of_opd ! (get ! refl)) refl (tt, tt) $
      sets ! (agg ! (and_then ! (get ! refl) (no_more !))) refl (word-Good [] p) $
      sets ! (agg ! (no_more !)) refl (tt, tt) $ sets ! (agg ! (and_then ! (get ! refl) (no_more !))) refl (tt, (tt, tt)) $
      sets ! (agg ! (no_more !)) refl (tt, tt) $ sets ! (agg ! (and_then ! (get ! refl) (no_more !))) refl (tt, (tt, tt)) $
      sets ! (agg ! (and_then ! (get ! refl) (and_then ! (get ! refl) (and_then ! (get ! refl) (no_more !))))) refl typed $
      sets_last ! (agg ! (and_then ! (lit ! tt) (and_then ! (get ! refl) (no_more !)))) refl answer $
      exec ! C Λ En (after 3 (function E Z).body) (at_ret En Post) $ sets ! (of_opd ! (get ! refl)) refl answer $
      move ! (1 ∷ []) $ use0 𝓛 (‵ ((Mark E).own_val (tt, tt) (blank ∷ []))) (mark_of E 𝓛) $ fjoin ! $ move ! (1 ∷ []) $
      as_written ! (ty_array (elτ E) count) b o $ use1 𝓛 (‵ (places_held (R E) b o row.places)) (room_places E 𝓛 b count o) $
      flt_i ! (length row.places * s) (2 ^ 63) (subst (λ n. n * s < 2 ^ 63) (sym (length-replicate count None)) fits) $ fjoin ! $
      use0 𝓛 (‵ ((Mark E).own_val (tt, tt) (blank ∷ []))) (mark_of E 𝓛) $ fjoin ! $ begin_of ! p $
      use3 𝓛 (‵ ((Parts E Z).own_val (start, row, right) (parts ∷ []))) (triple_of_parts 𝓛 (Begin E) (Held E) (To E Z) start row right (word p) blank blank) $
      use1 𝓛 (‵ ((Out E Z).own_val (Ok (start, row, right)) (live 0 (vcons parts vnil) ∷ []))) (ok_of 𝓛 (Parts E Z) AllocError.the_row (start, row, right) parts) $
      returns ! (look_at ! 0 refl) $ free_all ! refl $ keep ! (0 ∷ 1 ∷ 2 ∷ []) $ by ! (end (Ok (start, row, right)) (live 0 (vcons parts vnil)) (refl, refl, refl, refl, refl)))
      -- Err(want)
      (λ e.
      let Want : RattleType = Struct (Declared.shape AllocError.the_type) in
      let want : Val = live 1 (vcons (vstruct vnil) vnil) in
      lands_as ! e refl (Answer-typed false 0 0) $ first ! $ switches_on ! (get_tag ! (vrt ! refl (fld ! refl (stop !))) (whole !)) $ exec ! C Λ En (arm_body 1 arms) Join $
      sets ! (of_opd ! (get_in ! (vrt ! refl (fld ! refl (stop !))) (in_variant ! 1 0 refl refl (whole !)))) refl (tt, tt) $
      sets_last ! (agg ! (and_then ! (lit ! tt) (and_then ! (get ! refl) (no_more !)))) refl (tt, (record { fits = lit< tt }, (tt, tt))) $
      exec ! C Λ En (after 3 (function E Z).body) (at_ret En Post) $ sets ! (of_opd ! (get ! refl)) refl (tt, (record { fits = lit< tt }, (tt, tt))) $
      owned ! Want (Is Want) (Struct-Makes 𝓛 (Declared.shape AllocError.the_type) tt) tt (vstruct vnil ∷ []) (tt, (refl, tt)) $
      use1 𝓛 (‵ ((Out E Z).own_val (Err (record {})) (want ∷ []))) (err_of 𝓛 (Parts E Z) AllocError.the_row (record {}) (vstruct vnil)) $
      returns ! (look_at ! 0 refl) $ free_all ! refl $ keep ! (0 ∷ 1 ∷ 2 ∷ []) $ by ! (end (Err (record {})) want tt))))

  entry : FitsInBlock (R E) count
      → ent 𝓤 (on_entry 𝓛 (ended E Z).signature (κ, (κ₁, (κ₂, tt))) (q, (q₁, (q₂, tt))) (handle, (count, tt)) (us0, (us1, tt))) (WpFn 𝓤 H C Λ (function E Z) (us0 ++ (us1 ++ [])) Post)
  entry asked =
      qed 𝓛 ((‵ (flft κ q) ⊛ tokens) ∷ ‵ (owns (ShrRef (named 0) κ (From Z) ∷ usize ∷ []) (handle, (count, tt)) (us0, (us1, tt))) ∷ []) ∵
      split ! $ move ! (2 ∷ []) $ fsplit3 ! $ fsplit ! $ feq_l ! (λ e0. move ! (1 ∷ []) $ fsplit ! $ feq_l ! (λ e1. flt_l ! (λ small. keep ! (0 ∷ 2 ∷ 3 ∷ []) $
      by ! (subst (λ (ws : List Val × List Val). ent 𝓤 (⋆ 𝓛 Had) (WpFn 𝓤 H C Λ (function E Z) (ws.0 ++ (ws.1 ++ [])) Post)) (λ j. (sym e0 j, sym e1 j)) (walk asked small)))))

meets : (E : El) (Z : Al) {M : Type 1} {𝓤 : Ura M} (𝓛 : Logic 𝓤) (at_mem : Memory → SProp 𝓤) (run : Routine → Fun 𝓤) (𝓣 : Tables 𝓤 𝓛.H) → Triple 𝓤 (𝓣.C (takes_key Z)) (Takes Z 𝓛 at_mem run)
    → Meets 𝓛 (ended E Z).signature (WpFn 𝓤 𝓛.H 𝓣.C 𝓣.Λ (function E Z)) (closing 𝓛 (ended E Z) (clauses E Z 𝓛 at_mem run))
meets E Z {𝓤 = 𝓤} 𝓛 at_mem run 𝓣 allocates =
    walk_Meets 𝓛 (ended E Z) (stayed E Z)
    (Goes-dropped 𝓛 3 (RefOf (0 ∷ []) tt (plain (λ _. From Z)) (λ _. tt)) yes (λ κs x f. refl), (Goes-dropped 𝓛 3 (plain (λ _. usize)) yes (λ κs x f. refl), tt))
    (clauses E Z 𝓛 at_mem run) (WpFn 𝓤 𝓛.H 𝓣.C 𝓣.Λ (function E Z)) (WpFn-mono 𝓤 𝓛.H 𝓛.laws 𝓣 (function E Z))
    (λ z. let κs = z.0.0 in let qs = z.0.1 in let a = z.0.3 in let vss = z.0.4 in
    let On : SProp 𝓤 = on_entry 𝓛 (ended E Z).signature κs qs a vss in let asks = FitsInBlock (R E) a.1.0 in
    second 𝓤 (κs.1.0 ⊑ E.row.lives) (κs.1.1.0 ⊑ Z.row.lives) On (fact 𝓤 asks) (λ within. needs 𝓤 asks On
    (entry E Z 𝓛 at_mem run 𝓣.C 𝓣.Λ (fm_of 𝓤 𝓛.H 𝓛.laws 𝓣) allocates κs.0 κs.1.0 κs.1.1.0 qs.0 qs.1.0 qs.1.1.0 z.0.2.0 within a.0.ref_ptr.0 a.0.ref_ptr.1 a.0.now a.1.0 vss.0 vss.1.0)))

pub new_block_spec : {M : Type 1} → stated.statement M
unfolding tables_of
new_block_spec 𝓤 𝓛 𝓜 𝓡 wired X W laws from g d drops met dropped =
    let E : El = record { row = X; laws = laws } in
    let Z : Al = record { row = W; laws = from; g = g; d = d; drops = drops } in
    let 𝓣 : Tables 𝓤 𝓛.H = tables_of 𝓤 𝓛.H 𝓜 (tables 𝓤 𝓛.H 𝓜 𝓡 𝓡.env) in
    entered 𝓤 𝓛.H (triple_of 𝓛 (ended E Z).signature (promise.spec X W g d drops 𝓛 𝓜.mem 𝓡.returns)) 𝓣.C 𝓣.Λ (#new_block (given_args E Z)) (function E Z)
    (code.unfolded 𝓤 𝓛.H 𝓜 𝓡 wired (X, (W, tt)) d drops) (meets E Z 𝓛 𝓜.mem 𝓡.returns 𝓣 (met.allocate drops))
