-- `known` meets its contract: a walk of its MIR, by hand, which has one statement. What owning the list tells is taken out of it at the start.
use mathlib.Core.List.{[], ◌∷◌}
use mathlib.Core.Path.{refl}
use base.Fml.{ftrue, flft}
use base.Logic.{guard_i}
use mir.Syntax.{named}
use mir.Val.{vunit}
use contract.Monad.{fact_use}
use contract.Running.{tables}
use types.Logic.{sem}
use types.Kit.{‵, ◌⊛◌, given, learn, ◌$◌, ◌∵◌, !, qed, move, keep, use1, split, join, feq_i, suffices, frame, done}
use types.Run.{enter, of_opd, unit_lit, returns}
use types.ByLocal.{alloc_all, pass_all, free_all, look_at, sets}
use denote.Exit.{yes}
use denote.Signature.{plain}
use denote.Slice.{ShrSlice, shr_slice_vals, shr_slice_Tells}
use denote.Steps.{nothing}
use denote.Triple.Walked.{Stays, walk_of, says, stay_none_slice, Goes-none_slice, ends_at}
use Rattle.std.proofs.raw_atomic.Walks.{proved}
use Rattle.plan_format.specs.contracts.Station.{the_row as R}
use Rattle.plan_format.specs.Typed.{AreSized}
use Rattle.plan_writing.proofs.WriteTyped.{stations_say}
use Rattle.plan_writing.specs.contracts.known as f
use Rattle.plan_writing.proofs.known.Statement.{statement}
use Rattle.plan_writing.proofs.known.Code as code

abbrev stayed : Stays f.ended.signature.params f.ended.kept
stayed = (stay_none_slice (0 ∷ []) tt (plain (λ _. R)) yes, tt)

pub known_spec : {M : Type 1} → statement M
known_spec {M} 𝓤 𝓛 𝓜 𝓡 wired =
    let c = f.clauses 𝓛 𝓜.mem 𝓡.returns in let W = walk_of 𝓛 f.ended stayed c in let 𝓣 = tables 𝓤 𝓛.H 𝓜 𝓡 𝓡.env in
    proved 𝓛 f.ended stayed c 𝓜 𝓡 (Goes-none_slice 𝓛 1 (0 ∷ []) tt (plain (λ _. R)) yes, tt)
    f.Key.name code.function (code.unfolded 𝓤 𝓛.H 𝓜 𝓡 wired)
    (λ κs. (shr_slice_vals, tt)) (λ κs. (shr_slice_Tells (named 0) κs.0 R, tt)) (λ κs qs bounds a _ are.
    let vs = shr_slice_vals a.0 in
    let y : W.Ghost = ((κs, qs, bounds, a, (vs, tt)), tt) in
    let own = (ShrSlice (named 0) κs.0 R).own_val a.0 vs in
    qed 𝓛 (((‵ (flft κs.0 qs.0) ⊛ ‵ ftrue) ⊛ ‵ own ⊛ ‵ ftrue) ∷ ‵ ftrue ∷ []) ∵
    split ! $ split ! $ move ! (2 ∷ []) $ split ! $ keep ! (0 ∷ 2 ∷ []) $
    use1 𝓛 (given (AreSized a.0.now) (‵ own))
    (fact_use 𝓤 (AreSized a.0.now) ((stations_say (named 0) κs.0 a.0 vs).go M 𝓤 𝓛) (guard_i 𝓤 (AreSized a.0.now) (sem 𝓛 own))) $ learn ! (λ sized.
    enter ! _ _ _ _ _ $ alloc_all ! (λ l. pass_all ! refl ((tt, (tt, (record { fits = are.0.0.1.0 }, tt))), tt) $
    sets ! (of_opd ! (unit_lit !)) refl (tt, tt) $
    returns ! (look_at ! 0 refl) $ free_all ! refl $
    suffices ! _ (ends_at 𝓛 f.ended stayed c y vunit tt (tt, tt) (tt, tt)) $ says ! sized $
    nothing ! $ move ! (1 ∷ 0 ∷ []) $ join ! $ nothing ! $ move ! (2 ∷ 0 ∷ []) $ join ! $ frame ! $ frame ! $
    feq_i ! _ (vunit ∷ []) _ refl $ done !)))
