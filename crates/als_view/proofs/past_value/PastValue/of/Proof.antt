-- `of` makes a struct of no bytes, of which the ghost field is picked here.
use Rattle.std.proofs.Common.{[], ◌∷◌, refl}
use Rattle.std.proofs.raw_atomic.Walks.{proved}
use mir.Syntax.{Args, Fn, named, a_type}
use mir.MapTy.{inst_fn}
use mir.Val.{Val, vstruct, vcons, vnil}
use base.Fml.{Fml}
use types.Kit.{‵, raw, ◌⊛◌, ◌$◌, ◌∵◌, !, qed, done, keep, move, split, fjoin, suffices}
use types.Run.{enter, no_more, and_then, returns}
use types.Part.{agg}
use types.ByLocal.{alloc_all, pass_all, free_all, look_at, get, sets}
use denote.Exit.{yes}
use denote.Builtin.{RefOf}
use denote.Param.{param, layouts}
use denote.RattleType.{RattleType, owns}
use denote.Ref.{shr_vals, shr_Tells}
use denote.Shadow.{pure_i}
use denote.Steps.{nothing}
use denote.Signature.{plain, types_at}
use denote.Triple.Clauses.{Ended}
use denote.Triple.Entry.{alive}
use denote.Triple.Walked.{Stays, ends_at, says, walk_of, stay_dropped, Goes-dropped}
use Rattle.als_view.specs.contracts.past_value.PastValue as past
use Rattle.als_view.specs.contracts.past_value.PastValue.of as f
use Rattle.als_view.proofs.past_value.PastValue.of.Statement.{statement}
use Rattle.als_view.proofs.past_value.PastValue.of.Code as code

module _ (T : RattleType) where
  abbrev args : Args
  args = layouts (a_type ∷ []) (T, tt)

  abbrev function : Fn
  function = inst_fn args code.function

  abbrev ended : Ended
  ended = f.ended T

  abbrev stayed : Stays ended.signature.params ended.kept
  stayed = (stay_dropped (RefOf (0 ∷ []) tt (plain (λ _. param 0 T)) (λ _. tt)) yes, tt)

pub of_spec : {M : Type 1} → statement M
of_spec 𝓤 𝓛 𝓜 𝓡 wired T laws =
    let c = f.clauses T 𝓛 𝓜.mem 𝓡.returns in
    let W = walk_of 𝓛 (ended T) (stayed T) c in
    proved 𝓛 (ended T) (stayed T) c 𝓜 𝓡
    (Goes-dropped 𝓛 2 (RefOf (0 ∷ []) tt (plain (λ _. param 0 T)) (λ _. tt)) yes (λ κs x f. refl), tt)
    (f.Key.name (args T)) (function T) (code.unfolded 𝓤 𝓛.H 𝓜 𝓡 wired (T, tt))
    (λ κs. (shr_vals, tt)) (λ κs. (shr_Tells (named 0) κs.0 (param 0 T), tt)) (λ κs qs bounds a _ are.
    let y : W.Ghost = ((κs, qs, bounds, a, (shr_vals a.0, tt)), tt) in
    let made : (past.the_row (param 0 T)).Denot = record { of = record {}; value = a.0.now } in
    let v : Val = vstruct (vcons (vstruct vnil) vnil) in
    let given : Fml = owns (types_at (ended T).signature.params κs) a y.0.4 in
    qed 𝓛 ((raw (alive 𝓛 (f.ended T).signature κs qs) ⊛ ‵ given) ∷ raw ((c κs a).requires tt) ∷ []) ∵ split ! $ keep ! (0 ∷ []) $
    enter ! _ _ _ _ _ $ alloc_all ! (λ l. pass_all ! refl ((tt, tt), tt) $
    sets ! (agg ! (no_more !)) refl (tt, tt) $
    sets ! (agg ! (and_then ! (get ! refl) (no_more !))) refl (tt, (tt, tt)) $
    returns ! (look_at ! 0 refl) $ free_all ! refl $
    suffices ! _ (ends_at 𝓛 (ended T) (stayed T) c y v made (tt, tt) (tt, tt)) $ says ! refl $
    pure_i ! ((past.the_row (param 0 T)).own_val made (v ∷ [])) ((λ vss. (tt, ((λ uss. (tt, tt)), tt))), tt)
    (((vstruct vnil ∷ [], tt), (refl, ((tt, (refl, tt)), tt))), tt) $
    nothing ! $ nothing ! $ fjoin ! $ move ! (2 ∷ 0 ∷ 1 ∷ []) $ done !))
