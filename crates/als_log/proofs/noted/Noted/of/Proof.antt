-- `of` makes a struct of no bytes, of which the ghost field is picked here.
use Rattle.std.proofs.Common.{[], ◌∷◌, refl}
use Rattle.std.proofs.raw_atomic.Walks.{proved}
use mir.Syntax.{named}
use mir.Val.{vstruct, vnil}
use base.Fml.{Fml, ftrue}
use contract.Lifetimes.{Lfts}
use types.Kit.{‵, raw, ◌⊛◌, ◌$◌, ◌∵◌, !, qed, done, drop, move, split, suffices}
use types.Run.{enter, no_more, returns}
use types.Part.{agg}
use types.ByLocal.{alloc_all, pass_all, free_all, look_at, sets}
use denote.Exit.{yes}
use denote.RattleType.{RattleType, owns}
use denote.Ref.{shr_vals, shr_Tells}
use denote.Shadow.{pure_i}
use denote.Signature.{named_lft, plain, types_at}
use denote.Triple.Entry.{alive}
use denote.Triple.Walked.{Goes-none_ref, Stays, ends_at, says, stay_none_ref, walk_of}
use Rattle.als_record.specs.Shown.{shown}
use Rattle.als_record.specs.contracts.record_view.RecordView as view
use Rattle.als_log.specs.contracts.noted.Noted as noted
use Rattle.als_log.specs.contracts.noted.Noted.of as f
use Rattle.als_log.proofs.noted.Noted.of.Statement.{statement}
use Rattle.als_log.proofs.noted.Noted.of.Code as code

-- a view, at the lifetimes of the call
abbrev seen_at : Lfts 2 → RattleType
seen_at κs = view.the_row (named_lft 2 1 tt κs)

abbrev stayed : Stays f.ended.signature.params f.ended.kept
stayed = (stay_none_ref (0 ∷ []) tt (plain seen_at) yes, tt)

pub of_spec : {M : Type 1} → statement M
of_spec 𝓤 𝓛 𝓜 𝓡 wired =
    let c = f.clauses 𝓛 𝓜.mem 𝓡.returns in
    let W = walk_of 𝓛 f.ended stayed c in
    proved 𝓛 f.ended stayed c 𝓜 𝓡 (Goes-none_ref 𝓛 2 (0 ∷ []) tt (plain seen_at) yes, tt)
    f.Key.name code.function (code.unfolded 𝓤 𝓛.H 𝓜 𝓡 wired)
    (λ κs. (shr_vals, tt)) (λ κs. (shr_Tells (named 0) κs.0 (seen_at κs), tt)) (λ κs qs bounds a _ are.
    let y : W.Ghost = ((κs, qs, bounds, a, (shr_vals a.0, tt)), tt) in
    let made : noted.the_row.Denot = record { value = shown a.0.now } in
    let given : Fml = owns (types_at f.signature.params κs) a y.0.4 in
    qed 𝓛 ((raw (alive 𝓛 f.signature κs qs) ⊛ ‵ given) ∷ ‵ ftrue ∷ []) ∵ split ! $ move ! (2 ∷ []) $ drop ! $
    enter ! _ _ _ _ _ $ alloc_all ! (λ l. pass_all ! refl ((tt, tt), tt) $
    sets ! (agg ! (no_more !)) refl (tt, tt) $
    returns ! (look_at ! 0 refl) $ free_all ! refl $
    suffices ! _ (ends_at 𝓛 f.ended stayed c y (vstruct vnil) made (tt, tt) (tt, tt)) $ says ! refl $
    pure_i ! (noted.the_row.own_val made (vstruct vnil ∷ [])) ((λ vss. (tt, tt)), tt) ((tt, (refl, tt)), tt) $
    move ! (1 ∷ 2 ∷ 0 ∷ []) $ done !))
