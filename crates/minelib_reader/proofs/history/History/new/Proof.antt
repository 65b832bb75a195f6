-- A value without bytes in memory: the walk makes it and names the empty list as its history.
use Rattle.std.proofs.Common.{[], ◌∷◌, refl}
use Rattle.std.proofs.raw_atomic.Walks.{proved}
use mir.Val.{Val, vstruct, vcons, vnil}
use types.Kit.{raw, ◌$◌, ◌∵◌, !, qed, keep, join, suffices, done}
use types.Part.{agg}
use types.Run.{enter, no_more, and_then, returns}
use types.ByLocal.{alloc_all, pass_all, free_all, look_at, get, sets}
use denote.Shadow.{pure_i}
use denote.Steps.{nothing}
use denote.Triple.Entry.{on_entry}
use denote.Triple.Walked.{says, ends_at}
use Rattle.minelib_reader.specs.declared.history.History.{History}
use Rattle.minelib_reader.specs.contracts.history.History as made
use Rattle.minelib_reader.specs.contracts.history.History.new as f
use Rattle.minelib_reader.proofs.history.History.new.Statement.{statement}
use Rattle.minelib_reader.proofs.history.History.new.Code as code

abbrev in_memory : Val
in_memory = vstruct (vcons (vstruct vnil) vnil)

abbrev no_bytes : History
no_bytes = record { marker = record {}; bytes = [] }

pub new_spec : {M : Type 1} → statement M
new_spec 𝓤 𝓛 𝓜 𝓡 wired =
    let c = f.clauses 𝓛 𝓜.mem 𝓡.returns in
    proved 𝓛 f.ended tt c 𝓜 𝓡 tt f.Key.name code.function (code.unfolded 𝓤 𝓛.H 𝓜 𝓡 wired) (λ κs. tt) (λ κs. tt) (λ κs qs bounds a g are.
    qed 𝓛 (raw (on_entry 𝓛 f.signature κs qs a tt) ∷ raw ((c κs a).requires g) ∷ []) ∵ keep ! [] $
    enter ! _ _ _ _ _ $ alloc_all ! (λ l. pass_all ! refl tt $
    sets ! (agg ! (no_more !)) refl (tt, tt) $
    sets ! (agg ! (and_then ! (get ! refl) (no_more !))) refl (tt, (tt, tt)) $
    returns ! (look_at ! 0 refl) $ free_all ! refl $
    pure_i ! ((made.the_row).own_val no_bytes (in_memory ∷ [])) ((λ vss. (tt, ((λ uss. (tt, tt)), tt))), tt) (((vstruct vnil ∷ [], tt), (refl, ((tt, (refl, tt)), tt))), tt) $
    suffices ! _ (ends_at 𝓛 f.ended tt c ((κs, qs, bounds, a, tt), g) in_memory no_bytes tt tt) $ says ! refl $
    nothing ! $ join ! $ nothing ! $ done !))
