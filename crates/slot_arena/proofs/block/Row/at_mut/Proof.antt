-- `at_mut` lends the value of a place to be written to, and the row follows it.
use mathlib.Core.Path.{◌≡◌, refl, sym, subst, ◌∙◌}
use Prim.Native.Nat.{ℕ, ◌+◌, ◌*◌, ◌<◌, ◌^◌}
use native.Mathlib.Omega.{arith}
use mathlib.Core.List.{List, [], ◌∷◌, ◌++◌}
use lib.ListN.{length, set, get_or, length-set}
use seplogic.Ra.Ura.{Ura}
use base.Fraction.{full_share}
use mir.Syntax.{Fn, named, w64}
use mir.MapTy.{inst_fn}
use mir.Val.{Val, vptr, vint}
use base.Logic.{SProp, ent, sep, never, id⊢}
use base.Fml.{Lft, GName, Share, Fml, ftrue, fsep, fat, flft, fobs, fbor}
use prog.Wp.{Env, Calls, Loops, WpFn, Tables}
use types.Logic.{Logic, sem}
use contract.Monad.{fact}
use contract.Running.{tables, tables_of}
use sound.WpLaws.{WpFn-mono}
use types.Kit.{Item, ⋆, ‵, raw, ◌⊛◌, some, later, await, pick, at_ret, ◌$◌, ◌∵◌, !, qed, by, move, keep, use1, use2, split, join, group, rewrite, fsplit, fsplit3, fjoin, fjoin3, fpack, feq_l, flt_l, flt_i, suffices, frame, done}
use types.Part.{whole, sub}
use types.Run.{stop, fld, bin, size_lit, of_opd, addr, first, blocks, exec, returns, enter}
use types.ByLocal.{alloc_all, pass_all, free_all, look_at, take_at, give_at, get, get_in, through, sets, sets_last, env}
use types.SemTy.{Body as Borrowed}
use denote.Exit.{no}
use denote.RattleType.{owns}
use denote.Memory.{mem, cell_at, part_of}
use denote.Param.{layout}
use denote.RawPtr.{Ptr, block_ptr, in_a_block}
use denote.Ref.{MutBor, MutRef}
use denote.Builtin.{RefMutOf, usize}
use denote.Follow.{follows, Part, lends_Part}
use denote.Signature.{plain, mut_ref_to}
use denote.Steps.{nothing, opens}
use denote.Triple.Carry.{spared}
use denote.Triple.Clauses.{Clauses, Ended, closing}
use denote.Triple.Entry.{on_entry}
use denote.Triple.Spec.{Meets, triple_of}
use denote.Triple.Table.{entered, run_framed}
use denote.Triple.Walked.{says, needs, Stays, stay_dropped, walk_of, ends_at, Goes-dropped, Goes-spent_ref, walk_Meets}
use Rattle.std.specs.Prelude.{Some, None}
use Rattle.std.proofs.mem.Param.{El, R, args, el_x}
use Rattle.std.proofs.ptr.Rows.{times_below, one_below}
use Rattle.std_alloc.proofs.VecSteps.Shapes.{after}
use Rattle.std_alloc.proofs.RcSteps.{word, word-Good}
use Rattle.slot_arena.specs.Rows.{IsFilled}
use Rattle.slot_arena.specs.Blocks.{place_held, places_held, block_held}
use Rattle.slot_arena.specs.BlockLends.{with_places_of}
use Rattle.slot_arena.proofs.BlockMemory.{Held, Begin, Mark, width, Cell, begin_is, others, place_out, place_in}
use Rattle.slot_arena.proofs.Paired.{length-filled}
use Rattle.slot_arena.specs.contracts.block.Row.at_mut.Key.{name as #at_mut}
use Rattle.slot_arena.proofs.block.Row.at_mut.Statement as stated
use Rattle.slot_arena.proofs.block.Row.at_mut.Code as code

module _ (E : El) where
  abbrev function : Fn
  function = inst_fn (args E) code.function

  abbrev ended : Ended
  ended = record {
    signature = record {
      lifetimes = 1;
      outlives = [];
      params = RefMutOf (0 ∷ []) tt (plain (λ _. Held E)) (λ _. tt) ∷ plain (λ _. Begin E) ∷ plain (λ _. usize) ∷ [];
      result = RefMutOf (0 ∷ []) tt (plain (λ _. R E)) (λ _. tt);
    };
    kept = (no, (no, (no, tt)));
  }

  abbrev stayed : Stays ended.signature.params ended.kept
  stayed = (stay_dropped (mut_ref_to (0 ∷ []) tt (plain (λ _. Held E))) no, (stay_dropped (plain (λ _. Begin E)) no, (stay_dropped (plain (λ _. usize)) no, tt)))

  abbrev Asks : (Held E).Denot → (Begin E).Denot → ℕ → Type 0
  Asks row start place = (start.first ≡ row.start) × IsFilled row.places place

  abbrev Value : (Held E).Denot → ℕ → MutBor (el_x E) → Type 0
  Value row place r = get_or row.places place None ≡ Some r.now

  abbrev written : (Held E).Denot → ℕ → el_x E → (Held E).Denot
  written row place w = with_places_of row (set row.places place (Some w))

  abbrev spec : {M : Type 1} {𝓤 : Ura M} (𝓛 : Logic 𝓤) → Clauses 𝓤 ended
  spec {𝓤 = 𝓤} 𝓛 κs a = record {
    ghost = Unit {0};
    requires = λ _. fact 𝓤 (Asks a.0.now a.1.0 a.1.1.0);
    ensures = λ _ r w. sep 𝓤 (sem 𝓛 (follows (Held E) (R E) a.0.ghost_name r.ghost_name (written a.0.now a.1.1.0))) (fact 𝓤 (Value a.0.now a.1.1.0 r));
  }

module _ (E : El) {M : Type 1} {𝓤 : Ura M} (𝓛 : Logic 𝓤) (C : Calls 𝓤 𝓛.H) (Λ : Loops 𝓤 𝓛.H) (κ : Lft) (q : Share) (rb ro : ℕ) (γ : GName) (row : (Held E).Denot) (start : (Begin E).Denot)
    (place : ℕ) (us0 us1 us2 : List Val) where
  open 𝓛 use {H, A}

  abbrev self : MutBor (Held E).Denot
  self = record { ref_ptr = (rb, ro); ghost_name = γ; now = row }

  abbrev bound : (walk_of 𝓛 (ended E) (stayed E) (spec E 𝓛)).Ghost
  bound = (((κ, tt), (q, tt), tt, (self, (start, (place, tt))), (us0, (us1, (us2, tt)))), tt)

  abbrev Post : Val → SProp 𝓤
  Post = (walk_of 𝓛 (ended E) (stayed E) (spec E 𝓛)).post bound

  abbrev new : el_x E → (Held E).Denot
  new = written E row place

  module _ (vs : List Val) (b o : ℕ) where
    -- what the row owns but for the value
    abbrev Rest : Fml
    Rest = fsep (others E 𝓛 b o row.places place) (fsep ((Mark E).own_val (tt, tt) vs) (cell_at full_share (Held E).mir vs rb ro))

    -- with a value again, it is a row
    given_back : row.start ≡ block_ptr b o → place < length row.places → length row.places * width E < 2 ^ 63
        → (w : el_x E) → ent 𝓤 (sep 𝓤 (sem 𝓛 ((mem (R E)).own_at w b (place * width E + o))) (sem 𝓛 Rest)) (sem 𝓛 ((mem (Held E)).own_at (new w) rb ro))
    unfolding part_of
    given_back e inside fits w =
        let long = length-set row.places place (Some w) in
        qed 𝓛 (‵ (place_held (R E) b (place * width E + o) (Some w)) ∷ ‵ Rest ∷ []) ∵ move ! (1 ∷ []) $ fsplit3 ! $ move ! (3 ∷ 0 ∷ []) $
        use2 𝓛 (‵ (places_held (R E) b o (new w).places)) (place_in E 𝓛 b o row.places place inside (Some w)) $
        flt_i ! (length (new w).places * width E) (2 ^ 63) (subst (λ n. n * width E < 2 ^ 63) (sym long) fits) $ fjoin ! $
        rewrite ! 0 (λ (p : Ptr). ‵ (block_held (R E) p (new w).places)) (sym e) refl $ move ! (1 ∷ 0 ∷ []) $ fjoin ! $ move ! (1 ∷ 0 ∷ []) $ fjoin ! $
        fpack ! (List Val) (λ us. fsep (cell_at full_share (Held E).mir us rb ro) ((Held E).own_val (new w) us)) vs $ done !

  end : (v : Val) (r : MutBor (el_x E)) → Value E row place r
      → ent 𝓤 (sep 𝓤 (sem 𝓛 ((MutRef (named 0) κ (R E)).own_val r (v ∷ []))) (sep 𝓤 (A.lft κ q) (sem 𝓛 (follows (Held E) (R E) γ r.ghost_name new)))) (Post v)
  end v r is =
      qed 𝓛 (‵ ((MutRef (named 0) κ (R E)).own_val r (v ∷ [])) ∷ ‵ (flft κ q) ∷ ‵ (follows (Held E) (R E) γ r.ghost_name new) ∷ []) ∵
      suffices ! _ (ends_at 𝓛 (ended E) (stayed E) (spec E 𝓛) bound v r (tt, (tt, (tt, tt))) (tt, (tt, (tt, tt)))) $
      nothing ! $ nothing ! $ fjoin ! $ nothing ! $ fjoin ! $ nothing ! $ fjoin ! $ join ! $ nothing ! $ move ! (2 ∷ 0 ∷ []) $ join ! $ join ! $ frame ! $ says ! is $ done !

  -- [the value seen through the borrow; the borrow; the token]
  abbrev Had : List (Item 𝓤)
  Had = ‵ (fobs γ ((Held E).coded.code row)) ∷ ‵ (fbor κ (Borrowed (mem (Held E)) rb ro γ)) ∷ ‵ (flft κ q) ∷ []

  walk : Asks E row start place → place < 2 ^ 64 → ent 𝓤 (⋆ 𝓛 Had) (WpFn 𝓤 H C Λ (function E) (vptr rb ro ∷ word start.first ∷ vint w64 place ∷ []) Post)
  walk asked small =
      let x = asked.1.0 in let inside = length-filled row.places place x asked.1.1 in let seen = (Held E).coded.code row in
      qed 𝓛 Had ∵ enter ! C Λ (function E) (vptr rb ro ∷ word start.first ∷ vint w64 place ∷ []) _ $
      alloc_all ! (λ l. pass_all ! refl ((tt, tt), (word-Good [] start.first, ((tt, record { fits = small }), tt))) $
      let En : Env 𝓤 H = env (function E).locals l in
      opens ! tt (Held E) {h = row} rb ro (λ vs. move ! (1 ∷ []) $ fsplit ! $ move ! (1 ∷ []) $
      in_a_block ! row.start (λ p. block_held (R E) p row.places) (id⊢ 𝓤 (never 𝓤)) (λ b o e. fsplit ! $ flt_l ! (λ fits.
      let s = width E in let at = place * s + o in
      let narrow : s < 2 ^ 64 = omega (arith, one_below (length row.places) s (2 ^ 63) (omega arith) fits) in
      let far : place * s < 2 ^ 64 = omega (arith, times_below place (length row.places) s (2 ^ 63) (omega arith) fits) in
      take_at ! 2 $ rewrite ! 0 (λ (p : Ptr). ‵ (fat full_share (layout (Begin E)) (l 2) 0 (word p))) (asked.0 ∙ e) refl $ give_at ! 2 $
      -- let address = start.first.add(place);
      first ! $ blocks ! $ sets ! (bin ! (get ! refl) (size_lit ! (record { fits = narrow })) (record { fits = far })) refl (tt, record { fits = far }) $
      sets ! (bin ! (get_in ! (fld ! refl (stop !)) (sub ! 0 refl (whole !))) (get ! refl) tt) refl (tt, tt) $
      use1 𝓛 (‵ (place_held (R E) b at (get_or row.places place None)) ⊛ ‵ (others E 𝓛 b o row.places place)) (place_out E 𝓛 b o row.places place inside) $
      split ! $ rewrite ! 0 (λ (c : Cell E). ‵ (place_held (R E) b at c)) asked.1.1 refl $
      -- [the value; the other places; the mark; its cell; the open borrow, in three entries]. &mut *address
      sets_last ! (addr ! (through ! refl (stop !))) refl (tt, tt) $ exec ! C Λ En (after 1 (function E).body) (at_ret En Post) $ sets ! (of_opd ! (get ! refl)) refl (tt, tt) $
      let way = given_back vs b o e inside fits in let rest = sem 𝓛 (Rest vs b o) in
      move ! (1 ∷ 2 ∷ 3 ∷ []) $ fjoin3 ! $ move ! (2 ∷ 3 ∷ 4 ∷ 1 ∷ 0 ∷ []) $ group ! 5 $
      use1 𝓛 (later (some (λ (δ : GName). raw (Part 𝓛 (Held E) (R E) new (named 0) κ q rb ro b at γ rest way x δ))))
      (lends_Part 𝓛 (Held E) (R E) new (named 0) κ q rb ro b at γ rest way seen seen x) $ await ! tt $ pick ! (λ δ.
      returns ! (look_at ! 0 refl) $ free_all ! refl $ keep ! (0 ∷ []) $ by ! (end (vptr b at) (record { ref_ptr = (b, at); ghost_name = δ; now = x }) asked.1.1))))))

  entry : Asks E row start place → ent 𝓤 (on_entry 𝓛 (ended E).signature (κ, tt) (q, tt) (self, (start, (place, tt))) (us0, (us1, (us2, tt)))) (WpFn 𝓤 H C Λ (function E) (us0 ++ (us1 ++ (us2 ++ []))) Post)
  entry asked =
      qed 𝓛 ((‵ (flft κ q) ⊛ ‵ ftrue) ∷ ‵ (owns (MutRef (named 0) κ (Held E) ∷ Begin E ∷ usize ∷ []) (self, (start, (place, tt))) (us0, (us1, (us2, tt)))) ∷ []) ∵
      split ! $ move ! (2 ∷ []) $ fsplit ! $ fsplit3 ! $ feq_l ! (λ e0. move ! (2 ∷ []) $ fsplit ! $ begin_is ! start.first us1 (λ e1.
      fsplit ! $ fsplit ! $ feq_l ! (λ e2. flt_l ! (λ small. keep ! (1 ∷ 2 ∷ 3 ∷ []) $
      by ! (subst (λ (ws : List Val × List Val × List Val). ent 𝓤 (⋆ 𝓛 Had) (WpFn 𝓤 H C Λ (function E) (ws.0 ++ (ws.1 ++ (ws.2 ++ []))) Post))
      (λ j. (sym e0 j, sym e1 j, sym e2 j)) (walk asked small))))))

meets : (E : El) {M : Type 1} {𝓤 : Ura M} (𝓛 : Logic 𝓤) (𝓣 : Tables 𝓤 𝓛.H) → Meets 𝓛 (ended E).signature (WpFn 𝓤 𝓛.H 𝓣.C 𝓣.Λ (function E)) (closing 𝓛 (ended E) (spec E 𝓛))
meets E {𝓤 = 𝓤} 𝓛 𝓣 =
    walk_Meets 𝓛 (ended E) (stayed E)
    (Goes-spent_ref 𝓛 1 (0 ∷ []) tt (plain (λ _. Held E)), (Goes-dropped 𝓛 1 (plain (λ _. Begin E)) no (λ κs x f. refl), (Goes-dropped 𝓛 1 (plain (λ _. usize)) no (λ κs x f. refl), tt)))
    (spec E 𝓛) (WpFn 𝓤 𝓛.H 𝓣.C 𝓣.Λ (function E)) (WpFn-mono 𝓤 𝓛.H 𝓛.laws 𝓣 (function E))
    (λ z. let a = z.0.3 in let r = a.0 in let vss = z.0.4 in needs 𝓤 (Asks E r.now a.1.0 a.1.1.0) _
    (entry E 𝓛 𝓣.C 𝓣.Λ z.0.0.0 z.0.1.0 r.ref_ptr.0 r.ref_ptr.1 r.ghost_name r.now a.1.0 a.1.1.0 vss.0 vss.1.0 vss.1.1.0))

pub at_mut_spec : {M : Type 1} → stated.statement M
unfolding tables_of
at_mut_spec 𝓤 𝓛 𝓜 𝓡 wired X laws y =
    let E : El = record { row = X; laws = laws } in let key = #at_mut (args E) in
    let 𝓣 : Tables 𝓤 𝓛.H = tables_of 𝓤 𝓛.H 𝓜 (tables 𝓤 𝓛.H 𝓜 𝓡 𝓡.env) in
    spared 𝓛 (ended E).signature (𝓡.run (𝓡.env key)) (run_framed 𝓤 𝓛.H 𝓜 𝓡 (𝓡.env key)) 1 (X.lives, tt) (closing 𝓛 (ended E) (spec E 𝓛))
    (entered 𝓤 𝓛.H (triple_of 𝓛 (ended E).signature (closing 𝓛 (ended E) (spec E 𝓛))) 𝓣.C 𝓣.Λ key (function E) (code.unfolded 𝓤 𝓛.H 𝓜 𝓡 wired (X, tt)) (meets E 𝓛 𝓣))
    ((y.0.0, y.0.1, tt, y.0.3, y.0.4), y.1)
