-- `picked` makes the struct, and its list is the one that the caller picks.
use Rattle.std.proofs.Common.{List, [], ◌∷◌, refl}
use Rattle.std.proofs.raw_atomic.Walks.{proved}
use mir.Syntax.{a_type, named}
use mir.MapTy.{inst_fn}
use mir.Val.{Val, vptr, vstruct, vcons, vnil}
use base.Logic.{SProp}
use contract.Running.{tables}
use types.Kit.{‵, raw, ◌⊛◌, ◌$◌, ◌∵◌, !, qed, move, keep, split, fjoin, fpack, feq_i, suffices, done}
use types.Part.{agg}
use types.Run.{enter, returns, and_then, no_more}
use types.ByLocal.{alloc_all, pass_all, free_all, look_at, get, sets}
use denote.Exit.{yes}
use denote.RattleType.{RattleType, Valss, owns}
use denote.Builtin.{RefOf}
use denote.Laws.{Is}
use denote.Param.{param, layouts}
use denote.Ref.{shr_vals, shr_Tells}
use denote.Signature.{plain, types_at}
use denote.Steps.{nothing, owned}
use denote.Struct.Laws.{makes}
use denote.Struct.Struct.{within}
use denote.Triple.Entry.{alive}
use denote.Triple.Walked.{Stays, says, stay_dropped, walk_of, ends_at, Goes-dropped}
use Rattle.std.specs.contracts.marker.PhantomData as Mark
use Rattle.csp_model.specs.contracts.trace.Trace as Trace
use Rattle.csp_model.specs.contracts.trace.Trace.picked.{ended, clauses}
use Rattle.csp_model.specs.contracts.trace.Trace.picked.Key.{name as #self}
use Rattle.csp_model.proofs.trace.Trace.picked.Statement.{statement}
use Rattle.csp_model.proofs.trace.Trace.picked.Code as code

pub picked_spec : {M : Type 1} → statement M
picked_spec 𝓤 𝓛 𝓜 𝓡 wired T A B _ _ _ =
    let 𝓣 = tables 𝓤 𝓛.H 𝓜 𝓡 𝓡.env in let En = ended T A B in let c = clauses T A B 𝓛 𝓜.mem 𝓡.returns in
    let fn = inst_fn (layouts (a_type ∷ a_type ∷ a_type ∷ []) (T, (A, (B, tt)))) code.function in
    let Q : RattleType = Mark.the_row (param 0 T) in let X : RattleType = param 1 A in let Y : RattleType = param 2 B in
    let hs : Stays En.signature.params En.kept = (stay_dropped (RefOf (0 ∷ []) tt (plain (λ _. X)) (λ _. tt)) yes, (stay_dropped (RefOf (1 ∷ []) tt (plain (λ _. Y)) (λ _. tt)) yes, tt)) in
    proved 𝓛 En hs c 𝓜 𝓡
    (Goes-dropped 𝓛 5 (RefOf (0 ∷ []) tt (plain (λ _. X)) (λ _. tt)) yes (λ κs x f. refl), (Goes-dropped 𝓛 5 (RefOf (1 ∷ []) tt (plain (λ _. Y)) (λ _. tt)) yes (λ κs x f. refl), tt))
    (#self (layouts (a_type ∷ a_type ∷ a_type ∷ []) (T, (A, (B, tt))))) fn (code.unfolded 𝓤 𝓛.H 𝓜 𝓡 wired (T, (A, (B, tt))))
    (λ κs. (shr_vals, (shr_vals, tt))) (λ κs. (shr_Tells (named 0) κs.0 X, (shr_Tells (named 1) κs.1.0 Y, tt))) (λ κs qs bounds a items are.
    let p : Val = vptr a.0.ref_ptr.0 a.0.ref_ptr.1 in let q : Val = vptr a.1.0.ref_ptr.0 a.1.0.ref_ptr.1 in
    let none : Val = vstruct vnil in let made : Val = vstruct (vcons none vnil) in
    let y : (walk_of 𝓛 En hs c).Ghost = ((κs, qs, bounds, a, (p ∷ [], (q ∷ [], tt))), items) in
    qed 𝓛 ((raw (alive 𝓛 En.signature κs qs) ⊛ ‵ (owns (types_at En.signature.params κs) a y.0.4)) ∷ raw ((c κs a).requires items) ∷ []) ∵
    split ! $ keep ! (0 ∷ []) $
    enter ! 𝓣.C 𝓣.Λ fn (p ∷ q ∷ []) _ $ alloc_all ! (λ l. pass_all ! refl ((tt, tt), ((tt, tt), tt)) $
    sets ! (agg ! (no_more !)) refl (tt, tt) $ sets ! (agg ! (and_then ! (get ! refl) (no_more !))) refl (tt, (tt, tt)) $
    nothing ! $ owned ! Q (Is Q) (makes (Mark.the_type (param 0 T)) tt 𝓛) (record {}) (none ∷ []) (tt, (refl, tt)) $
    nothing ! $ move ! (1 ∷ 0 ∷ []) $ fjoin ! $ feq_i ! (List Val) (made ∷ []) (made ∷ []) refl $ fjoin ! $
    fpack ! (Valss (Q ∷ [])) (within (record { name = []; args = []; types = []; fields = Q ∷ [] }) (record {}, tt) (made ∷ [])) (none ∷ [], tt) $ fjoin ! $
    returns ! (look_at ! 0 refl) $ free_all ! refl $
    suffices ! _ (ends_at 𝓛 En hs c y made (record { of = record {}; items = items }) (tt, (tt, tt)) (tt, (tt, tt))) $ says ! refl $
    nothing ! $ nothing ! $ fjoin ! $ nothing ! $ fjoin ! $ move ! (2 ∷ 0 ∷ 1 ∷ []) $ done !))
