-- `take` moves a value out, and its place is empty.
use mathlib.Core.Path.{◌≡◌, refl, sym, subst, ◌∙◌}
use Prim.Native.Nat.{ℕ, ◌+◌, ◌*◌, ◌<◌, ◌^◌}
use native.Mathlib.Omega.{arith}
use mathlib.Core.List.{List, [], ◌∷◌, ◌++◌}
use lib.ListN.{length, set, get_or, length-set}
use seplogic.Ra.Ura.{Ura}
use base.Fraction.{full_share}
use mir.Syntax.{Fn, named, w64}
use mir.MapTy.{inst_fn}
use mir.Val.{Val, vptr, vint}
use base.Logic.{SProp, ent, sep, never, id⊢}
use base.Fml.{Lft, GName, Share, ftrue, fat, froom, flft, fobs, fbor}
use prog.Wp.{Env, Calls, Loops, WpFn, Tables}
use types.Logic.{Logic}
use contract.Monad.{fact}
use contract.Running.{tables, tables_of}
use sound.WpLaws.{WpFn-mono}
use types.Kit.{Item, ⋆, ‵, ◌⊛◌, some, given, pick, learn, at_ret, ◌$◌, ◌∵◌, !, qed, by, move, keep, use1, use2, split, join, rewrite, fsplit, fsplit3, fjoin, fjoin3, feq_i, feq_l, flt_l, flt_i, suffices, frame, done}
use types.Part.{whole, sub}
use types.Run.{look, load, stop, fld, bin, size_lit, of_opd, first, blocks, exec, returns, enter}
use types.ByLocal.{alloc_all, pass_all, free_all, look_at, take_at, give_at, get, get_in, through, sets, sets_last, env}
use types.SemTy.{Body as Borrowed}
use denote.Exit.{yes, no}
use denote.RattleType.{owns}
use denote.Memory.{mem}
use denote.Param.{layout}
use denote.RawPtr.{Ptr, in_a_block}
use denote.Ref.{MutBor, MutRef}
use denote.Builtin.{RefMutOf, usize}
use denote.Signature.{plain}
use denote.Steps.{nothing, opens, closes}
use denote.Triple.Carry.{spared}
use denote.Triple.Clauses.{Clauses, Ended, closing}
use denote.Triple.Entry.{on_entry}
use denote.Triple.Spec.{Meets, triple_of}
use denote.Triple.Table.{entered, run_framed}
use denote.Triple.Walked.{needs, Stays, stay_dropped, stay_ref, walk_of, ends_at, Goes-dropped, Goes-ref, walk_Meets}
use Rattle.std.specs.Prelude.{Some, None}
use Rattle.std.proofs.mem.Param.{El, R, args, elτ}
use Rattle.std.proofs.ptr.Rows.{times_below, one_below}
use Rattle.std_alloc.proofs.VecSteps.Shapes.{after}
use Rattle.std_alloc.proofs.RcSteps.{Good, word, word-Good}
use Rattle.std_alloc.proofs.RawLayout.{as_raw}
use Rattle.slot_arena.specs.Rows.{IsFilled}
use Rattle.slot_arena.specs.Blocks.{place_held, places_held, block_held}
use Rattle.slot_arena.proofs.BlockMemory.{Held, Begin, width, Cell, begin_is, says_two, value_out, others, place_out, place_in}
use Rattle.slot_arena.proofs.Paired.{length-filled}
use Rattle.slot_arena.specs.contracts.block.Row.take.Key.{name as #take}
use Rattle.slot_arena.proofs.block.Row.take.Statement as stated
use Rattle.slot_arena.proofs.block.Row.take.Code as code

module _ (E : El) where
  abbrev function : Fn
  function = inst_fn (args E) code.function

  abbrev ended : Ended
  ended = record {
    signature = record {
      lifetimes = 1;
      outlives = [];
      params = RefMutOf (0 ∷ []) tt (plain (λ _. Held E)) (λ _. tt) ∷ plain (λ _. Begin E) ∷ plain (λ _. usize) ∷ [];
      result = plain (λ _. R E);
    };
    kept = (yes, (no, (no, tt)));
  }

  abbrev stayed : Stays ended.signature.params ended.kept
  stayed = (stay_ref (0 ∷ []) tt (plain (λ _. Held E)), (stay_dropped (plain (λ _. Begin E)) no, (stay_dropped (plain (λ _. usize)) no, tt)))

  abbrev Asks : (Held E).Denot → (Begin E).Denot → ℕ → Type 0
  Asks row start place = (start.first ≡ row.start) × IsFilled row.places place

  abbrev Value : (Held E).Denot → ℕ → (R E).Denot → Type 0
  Value row place r = get_or row.places place None ≡ Some r

  abbrev Left : (Held E).Denot → ℕ → (Held E).Denot → Type 0
  Left row place new = (new.start ≡ row.start) × (new.places ≡ set row.places place None)

  abbrev spec : {M : Type 1} {𝓤 : Ura M} (𝓛 : Logic 𝓤) → Clauses 𝓤 ended
  spec {𝓤 = 𝓤} 𝓛 κs a = record {
    ghost = Unit {0};
    requires = λ _. fact 𝓤 (Asks a.0.now a.1.0 a.1.1.0);
    ensures = λ _ r w. sep 𝓤 (fact 𝓤 (Value a.0.now a.1.1.0 r)) (fact 𝓤 (Left a.0.now a.1.1.0 w.0.now));
  }

module _ (E : El) {M : Type 1} {𝓤 : Ura M} (𝓛 : Logic 𝓤) (C : Calls 𝓤 𝓛.H) (Λ : Loops 𝓤 𝓛.H) (κ : Lft) (q : Share) (rb ro : ℕ) (γ : GName) (row : (Held E).Denot) (start : (Begin E).Denot)
    (place : ℕ) (us0 us1 us2 : List Val) where
  open 𝓛 use {H, A}

  abbrev self : MutBor (Held E).Denot
  self = record { ref_ptr = (rb, ro); ghost_name = γ; now = row }

  abbrev bound : (walk_of 𝓛 (ended E) (stayed E) (spec E 𝓛)).Ghost
  bound = (((κ, tt), (q, tt), tt, (self, (start, (place, tt))), (us0, (us1, (us2, tt)))), tt)

  abbrev Post : Val → SProp 𝓤
  Post = (walk_of 𝓛 (ended E) (stayed E) (spec E 𝓛)).post bound

  abbrev new : (Held E).Denot
  new = record { mark = row.mark; start = row.start; places = set row.places place None }

  -- [the value seen through the borrow; the borrow; the token]
  abbrev Lent : (Held E).Denot → List (Item 𝓤)
  Lent r = ‵ (fobs γ ((Held E).coded.code r)) ∷ ‵ (fbor κ (Borrowed (mem (Held E)) rb ro γ)) ∷ ‵ (flft κ q) ∷ []

  end : us0 ≡ vptr rb ro ∷ [] → (x : (R E).Denot) (v : Val) → Value E row place x → ent 𝓤 (⋆ 𝓛 (‵ ((R E).own_val x (v ∷ [])) ∷ Lent new)) (Post v)
  end passed x v is =
      qed 𝓛 (‵ ((R E).own_val x (v ∷ [])) ∷ Lent new) ∵
      suffices ! _ (ends_at 𝓛 (ended E) (stayed E) (spec E 𝓛) bound v x (new, (tt, (tt, tt))) (tt, (tt, (tt, tt)))) $ says_two ! is (refl, refl) $
      move ! (1 ∷ 2 ∷ 3 ∷ 0 ∷ []) $ nothing ! $ move ! (3 ∷ 0 ∷ []) $ join ! $ frame ! $ feq_i ! (List Val) us0 (vptr rb ro ∷ []) passed $ fjoin3 ! $
      nothing ! $ nothing ! $ fjoin ! $ nothing ! $ fjoin ! $ move ! (1 ∷ 0 ∷ []) $ fjoin ! $ done !

  walk : us0 ≡ vptr rb ro ∷ [] → Asks E row start place → place < 2 ^ 64
      → ent 𝓤 (⋆ 𝓛 (Lent row)) (WpFn 𝓤 H C Λ (function E) (vptr rb ro ∷ word start.first ∷ vint w64 place ∷ []) Post)
  walk passed asked small =
      let x = asked.1.0 in let inside = length-filled row.places place x asked.1.1 in
      qed 𝓛 (Lent row) ∵ enter ! C Λ (function E) (vptr rb ro ∷ word start.first ∷ vint w64 place ∷ []) _ $
      alloc_all ! (λ l. pass_all ! refl ((tt, tt), (word-Good [] start.first, ((tt, record { fits = small }), tt))) $
      let En : Env 𝓤 H = env (function E).locals l in
      opens ! tt (Held E) {h = row} rb ro (λ vs. move ! (1 ∷ []) $ fsplit ! $ move ! (1 ∷ []) $
      in_a_block ! row.start (λ p. block_held (R E) p row.places) (id⊢ 𝓤 (never 𝓤)) (λ b o e. fsplit ! $ flt_l ! (λ fits.
      let s = width E in let at = place * s + o in
      let narrow : s < 2 ^ 64 = omega (arith, one_below (length row.places) s (2 ^ 63) (omega arith) fits) in
      let far : place * s < 2 ^ 64 = omega (arith, times_below place (length row.places) s (2 ^ 63) (omega arith) fits) in
      take_at ! 2 $ rewrite ! 0 (λ (p : Ptr). ‵ (fat full_share (layout (Begin E)) (l 2) 0 (word p))) (asked.0 ∙ e) refl $ give_at ! 2 $
      -- let address = start.first.add(place);
      first ! $ blocks ! $ sets ! (bin ! (get ! refl) (size_lit ! (record { fits = narrow })) (record { fits = far })) refl (tt, record { fits = far }) $
      sets ! (bin ! (get_in ! (fld ! refl (stop !)) (sub ! 0 refl (whole !))) (get ! refl) tt) refl (tt, tt) $
      use1 𝓛 (‵ (place_held (R E) b at (get_or row.places place None)) ⊛ ‵ (others E 𝓛 b o row.places place)) (place_out E 𝓛 b o row.places place inside) $
      split ! $ rewrite ! 0 (λ (c : Cell E). ‵ (place_held (R E) b at c)) asked.1.1 refl $
      use1 𝓛 (some (λ (v : Val). given (Good (elτ E) v) (‵ (fat full_share (elτ E) b at v) ⊛ ‵ (E.row.own_val x (v ∷ []))))) (value_out E 𝓛 x b at) $
      -- [the value's bytes; what it owns; the other places; the mark; its cell; the open borrow, in three entries]. address.read()
      pick ! (λ v. learn ! (λ good. split ! $ sets_last ! (of_opd ! (load ! (through ! refl (stop !)) (look ! 0 refl))) refl good $
      exec ! C Λ En (after 1 (function E).body) (at_ret En Post) $ sets ! (of_opd ! (get ! refl)) refl good $
      use1 𝓛 (‵ (froom (elτ E) b at)) (𝓛.laws.at_room (elτ E) b at v) $ as_raw ! (elτ E) b at $ move ! (0 ∷ 2 ∷ 3 ∷ 4 ∷ 5 ∷ 6 ∷ 7 ∷ []) $
      use2 𝓛 (‵ (places_held (R E) b o new.places)) (place_in E 𝓛 b o row.places place inside None) $
      flt_i ! (length new.places * s) (2 ^ 63) (subst (λ n. n * s < 2 ^ 63) (sym (length-set row.places place None)) fits) $ fjoin ! $
      rewrite ! 0 (λ (p : Ptr). ‵ (block_held (R E) p new.places)) (sym e) refl $ move ! (1 ∷ 0 ∷ []) $ fjoin ! $ move ! (1 ∷ 0 ∷ []) $ closes ! tt (Held E) new vs rb ro $
      returns ! (look_at ! 0 refl) $ free_all ! refl $ keep ! (3 ∷ 0 ∷ 1 ∷ 2 ∷ []) $ by ! (end passed x v asked.1.1)))))))

  entry : Asks E row start place → ent 𝓤 (on_entry 𝓛 (ended E).signature (κ, tt) (q, tt) (self, (start, (place, tt))) (us0, (us1, (us2, tt)))) (WpFn 𝓤 H C Λ (function E) (us0 ++ (us1 ++ (us2 ++ []))) Post)
  entry asked =
      qed 𝓛 ((‵ (flft κ q) ⊛ ‵ ftrue) ∷ ‵ (owns (MutRef (named 0) κ (Held E) ∷ Begin E ∷ usize ∷ []) (self, (start, (place, tt))) (us0, (us1, (us2, tt)))) ∷ []) ∵
      split ! $ move ! (2 ∷ []) $ fsplit ! $ fsplit3 ! $ feq_l ! (λ e0. move ! (2 ∷ []) $ fsplit ! $ begin_is ! start.first us1 (λ e1.
      fsplit ! $ fsplit ! $ feq_l ! (λ e2. flt_l ! (λ small. keep ! (1 ∷ 2 ∷ 3 ∷ []) $
      by ! (subst (λ (ws : List Val × List Val × List Val). ent 𝓤 (⋆ 𝓛 (Lent row)) (WpFn 𝓤 H C Λ (function E) (ws.0 ++ (ws.1 ++ (ws.2 ++ []))) Post))
      (λ j. (sym e0 j, sym e1 j, sym e2 j)) (walk e0 asked small))))))

meets : (E : El) {M : Type 1} {𝓤 : Ura M} (𝓛 : Logic 𝓤) (𝓣 : Tables 𝓤 𝓛.H) → Meets 𝓛 (ended E).signature (WpFn 𝓤 𝓛.H 𝓣.C 𝓣.Λ (function E)) (closing 𝓛 (ended E) (spec E 𝓛))
meets E {𝓤 = 𝓤} 𝓛 𝓣 =
    walk_Meets 𝓛 (ended E) (stayed E)
    (Goes-ref 𝓛 1 0 tt (plain (λ _. Held E)), (Goes-dropped 𝓛 1 (plain (λ _. Begin E)) no (λ κs x f. refl), (Goes-dropped 𝓛 1 (plain (λ _. usize)) no (λ κs x f. refl), tt)))
    (spec E 𝓛) (WpFn 𝓤 𝓛.H 𝓣.C 𝓣.Λ (function E)) (WpFn-mono 𝓤 𝓛.H 𝓛.laws 𝓣 (function E))
    (λ z. let a = z.0.3 in let r = a.0 in let vss = z.0.4 in needs 𝓤 (Asks E r.now a.1.0 a.1.1.0) _
    (entry E 𝓛 𝓣.C 𝓣.Λ z.0.0.0 z.0.1.0 r.ref_ptr.0 r.ref_ptr.1 r.ghost_name r.now a.1.0 a.1.1.0 vss.0 vss.1.0 vss.1.1.0))

pub take_spec : {M : Type 1} → stated.statement M
unfolding tables_of
take_spec 𝓤 𝓛 𝓜 𝓡 wired X laws y =
    let E : El = record { row = X; laws = laws } in let key = #take (args E) in
    let 𝓣 : Tables 𝓤 𝓛.H = tables_of 𝓤 𝓛.H 𝓜 (tables 𝓤 𝓛.H 𝓜 𝓡 𝓡.env) in
    spared 𝓛 (ended E).signature (𝓡.run (𝓡.env key)) (run_framed 𝓤 𝓛.H 𝓜 𝓡 (𝓡.env key)) 1 (X.lives, tt) (closing 𝓛 (ended E) (spec E 𝓛))
    (entered 𝓤 𝓛.H (triple_of 𝓛 (ended E).signature (closing 𝓛 (ended E) (spec E 𝓛))) 𝓣.C 𝓣.Λ key (function E) (code.unfolded 𝓤 𝓛.H 𝓜 𝓡 wired (X, tt)) (meets E 𝓛 𝓣))
    ((y.0.0, y.0.1, tt, y.0.3, y.0.4), y.1)
