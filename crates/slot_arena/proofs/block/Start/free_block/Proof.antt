-- `free_block` makes room of a row of empty places, and gives it back by the right to do so.
use mathlib.Core.Path.{◌≡◌, refl, sym, ap, subst, ◌∙◌}
use Prim.Native.Nat.{ℕ, ◌*◌, ◌<◌, ◌^◌}
use native.Mathlib.Omega.{arith}
use mathlib.Core.List.{List, [], ◌∷◌, ◌++◌}
use lib.Dec.{T}
use lib.ListN.{replicate, length-replicate}
use seplogic.Ra.Ura.{Ura}
use mir.Syntax.{Fn, named, w64, ty_unit, ty_array}
use mir.MapTy.{inst_fn}
use mir.Val.{Val, vptr, vint, vunit, has_ty, WT}
use base.Logic.{SProp, ent, never, id⊢}
use base.Fml.{Lft, Share, ftrue, froom, flft, Incl-trans}
use prog.Capped.{capped_fits}
use prog.Memory.{Memory, align, capped}
use prog.Routine.{Routine}
use prog.Wp.{Env, Calls, Loops, WpFn, Tables}
use types.Logic.{Logic}
use contract.BorrowLft.{◌⊑◌}
use contract.Monad.{Fun, fact}
use contract.Running.{tables, tables_of}
use sound.WpLaws.{WpFn-mono, FmC, fm_of}
use types.Kit.{Item, ⋆, ‵, raw, ◌⊛◌, given, later, await, learn, at_ret, ◌$◌, ◌∵◌, !, qed, by, move, keep, use1, split, join, group, rewrite, fsplit, fsplit3, fjoin, feq_i, feq_l, flt_l, suffices, done}
use types.Part.{whole, sub}
use types.Run.{stop, fld, bin, size_word, align_word, unit_lit, of_opd, and_then, no_more, first, blocks, exec, returns, enter}
use types.ByLocal.{alloc_all, pass_all, free_all, look_at, get, get_in, sets, lands_last, is, env}
use denote.Builtin.{RefOf, usize}
use denote.Exit.{yes, no}
use denote.Memory.{hidden_shr}
use denote.RattleType.{RattleType, owns}
use denote.RawPtr.{Ptr, ptr_val, in_a_block}
use denote.Ref.{Bor, ShrRef}
use denote.Signature.{plain}
use denote.Steps.{nothing}
use denote.Triple.Call.{calls_at_last}
use denote.Triple.Clauses.{Clauses, Ended, closing}
use denote.Triple.Entry.{on_entry}
use denote.Triple.Spec.{Meets, triple_of}
use denote.Triple.Statement.{Triple}
use denote.Triple.Table.{entered}
use denote.Triple.Walked.{needs, Stays, stay_dropped, walk_of, ends_at, Goes-dropped, walk_Meets}
use Rattle.std.specs.Prelude.{None}
use Rattle.std.proofs.alloc.Calls.{Al, second, token, gives_key, Gives, at_gives, Gives-goes, Gives-Gives, Goes-blank}
use Rattle.std.proofs.mem.Param.{El, R, elτ}
use Rattle.std_alloc.proofs.RawLayout.{as_raw}
use Rattle.std_alloc.proofs.RcSteps.{word, word-Good}
use Rattle.std_alloc.proofs.VecSteps.Shapes.{after}
use Rattle.slot_arena.specs.Blocks.{block_held, right_held}
use Rattle.slot_arena.proofs.BlockLayout.{uncapped, block_type, block_size, block_align, given_args, From}
use Rattle.slot_arena.proofs.BlockMemory.{Held, Begin, width, Cell, blank, mark_is, begin_is, places_room}
use Rattle.slot_arena.specs.contracts.block.Right as Right
use Rattle.slot_arena.specs.contracts.block.Start.free_block as promise
use Rattle.slot_arena.specs.contracts.block.Start.free_block.Key.{name as #free_block}
use Rattle.slot_arena.proofs.block.Start.free_block.Statement as stated
use Rattle.slot_arena.proofs.block.Start.free_block.Code as code

module _ (E : El) (Z : Al) where
  abbrev function : Fn
  function = inst_fn (given_args E Z) code.function

  abbrev ended : Ended
  ended = promise.ended E.row Z.row Z.g Z.d Z.drops

  abbrev clauses : {M : Type 1} {𝓤 : Ura M} (𝓛 : Logic 𝓤) → (Memory → SProp 𝓤) → (Routine → Fun 𝓤) → Clauses 𝓤 ended
  clauses 𝓛 = promise.clauses E.row Z.row Z.g Z.d Z.drops 𝓛

  abbrev To : RattleType
  To = Right.the_row (R E) (From Z) Z.g

  abbrev stayed : Stays ended.signature.params ended.kept
  stayed = (
    stay_dropped (RefOf (0 ∷ []) tt (plain (λ _. From Z)) (λ _. tt)) yes,
    (stay_dropped (plain (λ _. Begin E)) no, (stay_dropped (plain (λ _. usize)) yes, (stay_dropped (plain (λ _. Held E)) no, (stay_dropped (plain (λ _. To)) no, tt)))),
  )

  abbrev Asks : Z.row.Denot → (Begin E).Denot → ℕ → (Held E).Denot → To.Denot → Type 0
  Asks alloc start count row right = (row.start ≡ start.first) × (row.places ≡ replicate count None) × (right.start ≡ start.first) × (right.count ≡ count) × (right.from ≡ alloc)

module _ (E : El) (Z : Al) {M : Type 1} {𝓤 : Ura M} (𝓛 : Logic 𝓤) (at_mem : Memory → SProp 𝓤) (run : Routine → Fun 𝓤) (C : Calls 𝓤 𝓛.H) (Λ : Loops 𝓤 𝓛.H) (fm : FmC 𝓤 𝓛.H 𝓛.laws C)
    (deallocates : Triple 𝓤 (C (gives_key Z)) (Gives Z 𝓛 at_mem run)) (κ κ₁ κ₂ : Lft) (q q₁ q₂ : Share) (short : κ ⊑ κ₂) (within : κ₂ ⊑ Z.row.lives) (ab ao : ℕ) (alloc : Z.row.Denot)
    (start : (Begin E).Denot) (count : ℕ) (row : (Held E).Denot) (right : (To E Z).Denot) (us0 us1 us2 us3 us4 : List Val) where
  open 𝓛 use {H, A}

  abbrev handle : Bor Z.row.Denot
  handle = record { ref_ptr = (ab, ao); now = alloc }

  -- the tokens of the type parameters' lifetimes
  abbrev tokens : Item 𝓤
  tokens = ‵ (flft κ₁ q₁) ⊛ ‵ (flft κ₂ q₂) ⊛ ‵ ftrue

  abbrev bound : (walk_of 𝓛 (ended E Z) (stayed E Z) (clauses E Z 𝓛 at_mem run)).Ghost
  bound = (((κ, (κ₁, (κ₂, tt))), (q, (q₁, (q₂, tt))), (short, tt), (handle, (start, (count, (row, (right, tt))))), (us0, (us1, (us2, (us3, (us4, tt)))))), tt)

  abbrev Post : Val → SProp 𝓤
  Post = (walk_of 𝓛 (ended E Z) (stayed E Z) (clauses E Z 𝓛 at_mem run)).post bound

  end : ent 𝓤 (⋆ 𝓛 (‵ (flft κ q) ∷ tokens ∷ [])) (Post vunit)
  end =
      qed 𝓛 (‵ (flft κ q) ∷ tokens ∷ []) ∵
      suffices ! _ (ends_at 𝓛 (ended E Z) (stayed E Z) (clauses E Z 𝓛 at_mem run) bound vunit tt (tt, (tt, (tt, (tt, (tt, tt))))) (tt, (tt, (tt, (tt, (tt, tt)))))) $
      join ! $ feq_i ! (List Val) (vunit ∷ []) (vunit ∷ []) refl $
      nothing ! $ nothing ! $ fjoin ! $ nothing ! $ fjoin ! $ nothing ! $ fjoin ! $ nothing ! $ fjoin ! $ nothing ! $ fjoin ! $ join ! $
      move ! (1 ∷ 0 ∷ []) $ join ! $ nothing ! $ move ! (1 ∷ 0 ∷ []) $ done !

  -- [the places; the right; what is lent of the handle; its token; the others]
  abbrev Had : List (Item 𝓤)
  Had = ‵ (block_held (R E) row.start row.places) ∷ ‵ (right_held (R E) (token Z right.from) right.start right.count) ∷ ‵ (hidden_shr (From Z) κ alloc ab ao) ∷ ‵ (flft κ q) ∷ tokens ∷ []

  walk : Asks E Z alloc start count row right → count < 2 ^ 64 → ent 𝓤 (⋆ 𝓛 Had) (WpFn 𝓤 H C Λ (function E Z) (vptr ab ao ∷ word start.first ∷ vint w64 count ∷ blank ∷ blank ∷ []) Post)
  walk asked small =
      qed 𝓛 Had ∵ enter ! C Λ (function E Z) (vptr ab ao ∷ word start.first ∷ vint w64 count ∷ blank ∷ blank ∷ []) _ $
      alloc_all ! (λ l. pass_all ! refl ((tt, tt), (word-Good [] start.first, ((tt, record { fits = small }), ((tt, (tt, tt)), ((tt, (tt, tt)), tt))))) $
      let En : Env 𝓤 H = env (function E Z).locals l in let s = width E in let al : ℕ = capped (align (elτ E)) in
      rewrite ! 0 (λ (r : Ptr × List (Cell E)). ‵ (block_held (R E) r.0 r.1)) (λ j. (asked.0 j, asked.1 j)) refl $
      in_a_block ! start.first (λ p. block_held (R E) p (replicate count None)) (id⊢ 𝓤 (never 𝓤)) (λ b o e. fsplit ! $ flt_l ! (λ below.
      let fits : count * s < 2 ^ 63 = subst (λ n. n * s < 2 ^ 63) (length-replicate count None) below in let bytes : count * s < 2 ^ 64 = omega arith in
      let asks : (Gives Z 𝓛 at_mem run).Ghost = at_gives Z 𝓛 at_mem run κ q (ab, ao) alloc b o (count * s) al (block_type E count) in
      rewrite ! 1 (λ (r : Z.row.Denot × Ptr × ℕ). ‵ (right_held (R E) (token Z r.0) r.1 r.2)) (λ j. (asked.4 j, (asked.2 ∙ e) j, asked.3 j)) refl $
      use1 𝓛 (‵ (froom (ty_array (elτ E) count) b o)) (places_room E 𝓛 b count o) $ as_raw ! (ty_array (elτ E) count) b o $
      -- alloc.deallocate(start.first as *mut u8, count * size_of::<T>(), align_of::<T>());
      first ! $ blocks ! $ sets ! (is ! (of_opd ! (get_in ! (fld ! refl (stop !)) (sub ! 0 refl (whole !)))) (ap ptr_val e)) refl (tt, tt) $
      sets ! (is ! (bin ! (get ! refl) (size_word !) (record { fits = subst (λ (n : ℕ). n < 2 ^ 64) (sym (uncapped count s bytes)) bytes })) (ap (vint w64) (uncapped count s bytes))) refl (tt, record { fits = bytes }) $
      group ! 4 $ use1 𝓛 (raw ((Gives Z 𝓛 at_mem run).pre asks))
      (Gives-goes Z 𝓛 at_mem run κ q (ab, ao) alloc (Incl-trans short within) b o (count * s) al (block_type E count) (block_size E count bytes) (block_align E count) bytes (capped_fits (align (elτ E)))) $
      calls_at_last ! fm (Gives Z 𝓛 at_mem run) deallocates asks (and_then ! (get ! refl) (and_then ! (get ! refl) (and_then ! (get ! refl) (and_then ! (align_word !) (no_more !))))) (λ v.
      use1 𝓛 (later (given (v ≡ vunit) (‵ (flft κ q)))) (Gives-Gives Z 𝓛 at_mem run κ q (ab, ao) alloc b o (count * s) al (block_type E count) v) $ await ! tt $ learn ! (λ is_unit.
      lands_last ! refl (subst (λ (w : Val). T (has_ty ty_unit w) × WT w) (sym is_unit) (tt, tt)) $ exec ! C Λ En (after 1 (function E Z).body) (at_ret En Post) $
      sets ! (of_opd ! (unit_lit !)) refl (tt, tt) $ returns ! (look_at ! 0 refl) $ free_all ! refl $ keep ! (0 ∷ 1 ∷ []) $ by ! end)))))

  entry : Asks E Z alloc start count row right
      → ent 𝓤 (on_entry 𝓛 (ended E Z).signature (κ, (κ₁, (κ₂, tt))) (q, (q₁, (q₂, tt))) (handle, (start, (count, (row, (right, tt))))) (us0, (us1, (us2, (us3, (us4, tt)))))) (WpFn 𝓤 H C Λ (function E Z) (us0 ++ (us1 ++ (us2 ++ (us3 ++ (us4 ++ []))))) Post)
  entry asked =
      qed 𝓛 ((‵ (flft κ q) ⊛ tokens) ∷ ‵ (owns (ShrRef (named 0) κ (From Z) ∷ Begin E ∷ usize ∷ Held E ∷ To E Z ∷ []) (handle, (start, (count, (row, (right, tt))))) (us0, (us1, (us2, (us3, (us4, tt)))))) ∷ []) ∵
      split ! $ move ! (2 ∷ []) $ fsplit3 ! $ fsplit ! $ feq_l ! (λ e0. move ! (1 ∷ []) $ begin_is ! start.first us1 (λ e1. move ! (1 ∷ []) $ fsplit3 ! $ fsplit ! $ feq_l ! (λ e2. flt_l ! (λ small.
      fsplit ! $ mark_is ! E us3 (λ e3. move ! (1 ∷ []) $ fsplit ! $ fsplit ! $ mark_is ! E us4 (λ e4. keep ! (2 ∷ 0 ∷ 3 ∷ 4 ∷ 5 ∷ []) $
      by ! (subst (λ (ws : List Val × List Val × List Val × List Val × List Val). ent 𝓤 (⋆ 𝓛 Had) (WpFn 𝓤 H C Λ (function E Z) (ws.0 ++ (ws.1 ++ (ws.2 ++ (ws.3 ++ (ws.4 ++ []))))) Post))
      (λ j. (sym e0 j, sym e1 j, sym e2 j, sym e3 j, sym e4 j)) (walk asked small))))))))

meets : (E : El) (Z : Al) {M : Type 1} {𝓤 : Ura M} (𝓛 : Logic 𝓤) (at_mem : Memory → SProp 𝓤) (run : Routine → Fun 𝓤) (𝓣 : Tables 𝓤 𝓛.H) → Triple 𝓤 (𝓣.C (gives_key Z)) (Gives Z 𝓛 at_mem run)
    → Meets 𝓛 (ended E Z).signature (WpFn 𝓤 𝓛.H 𝓣.C 𝓣.Λ (function E Z)) (closing 𝓛 (ended E Z) (clauses E Z 𝓛 at_mem run))
meets E Z {𝓤 = 𝓤} 𝓛 at_mem run 𝓣 deallocates =
    walk_Meets 𝓛 (ended E Z) (stayed E Z) (
      Goes-dropped 𝓛 3 (RefOf (0 ∷ []) tt (plain (λ _. From Z)) (λ _. tt)) yes (λ κs x f. refl),
      (
        Goes-dropped 𝓛 3 (plain (λ _. Begin E)) no (λ κs x f. refl),
        (
          Goes-dropped 𝓛 3 (plain (λ _. usize)) yes (λ κs x f. refl),
          (Goes-blank 𝓛 3 (plain (λ _. Held E)) no (λ κs x f. tt), (Goes-blank 𝓛 3 (plain (λ _. To E Z)) no (λ κs x f. tt), tt)),
        ),
      ),
    ) (clauses E Z 𝓛 at_mem run) (WpFn 𝓤 𝓛.H 𝓣.C 𝓣.Λ (function E Z)) (WpFn-mono 𝓤 𝓛.H 𝓛.laws 𝓣 (function E Z))
    (λ z. let κs = z.0.0 in let qs = z.0.1 in let a = z.0.3 in let vss = z.0.4 in
    let On : SProp 𝓤 = on_entry 𝓛 (ended E Z).signature κs qs a vss in let asks = Asks E Z a.0.now a.1.0 a.1.1.0 a.1.1.1.0 a.1.1.1.1.0 in
    second 𝓤 (κs.1.0 ⊑ E.row.lives) (κs.1.1.0 ⊑ Z.row.lives) On (fact 𝓤 asks) (λ within. needs 𝓤 asks On
    (entry E Z 𝓛 at_mem run 𝓣.C 𝓣.Λ (fm_of 𝓤 𝓛.H 𝓛.laws 𝓣) deallocates κs.0 κs.1.0 κs.1.1.0 qs.0 qs.1.0 qs.1.1.0 z.0.2.0 within a.0.ref_ptr.0 a.0.ref_ptr.1 a.0.now a.1.0 a.1.1.0 a.1.1.1.0 a.1.1.1.1.0
    vss.0 vss.1.0 vss.1.1.0 vss.1.1.1.0 vss.1.1.1.1.0)))

pub free_block_spec : {M : Type 1} → stated.statement M
unfolding tables_of
free_block_spec 𝓤 𝓛 𝓜 𝓡 wired X W laws from g d drops met dropped =
    let E : El = record { row = X; laws = laws } in
    let Z : Al = record { row = W; laws = from; g = g; d = d; drops = drops } in
    let 𝓣 : Tables 𝓤 𝓛.H = tables_of 𝓤 𝓛.H 𝓜 (tables 𝓤 𝓛.H 𝓜 𝓡 𝓡.env) in
    entered 𝓤 𝓛.H (triple_of 𝓛 (ended E Z).signature (promise.spec X W g d drops 𝓛 𝓜.mem 𝓡.returns)) 𝓣.C 𝓣.Λ (#free_block (given_args E Z)) (function E Z)
    (code.unfolded 𝓤 𝓛.H 𝓜 𝓡 wired (X, (W, tt)) d drops) (meets E Z 𝓛 𝓜.mem 𝓡.returns 𝓣 (met.deallocate drops))
