use Rattle.std.proofs.Common.{◌≡◌, ◌∙◌, ◌+◌, ◌<◌, ◌^◌, sym, ap, subst, Some, length}
use Rattle.c_core.specs.View.{program_view}
use Rattle.c_meaning.specs.Objects.{type_of_object}
use Rattle.sym_values.specs.Valuing.{Gives}
use Rattle.sym_values.specs.Storing.{stored_cost}
use Rattle.sym_exprs.specs.Targeting.{stored_at}
use Rattle.sym_state.specs.Places.{key}
use Rattle.sym_eval.specs.Targets.{object_of, keys_of, IsTarget, storing}
use Rattle.sym_eval.specs.declared.targets.Target.TheVariants.{Element}
use Rattle.sym_eval.proofs.targets.store_target.Goals as goal

pub store-requires-clause-typed : goal.store-requires-clause-typed
store-requires-clause-typed c = c.requires.typed ∙ ap (λ t. type_of_object (program_view c.args.program.now) (object_of t)) c.in-Scalar.is

pub store-requires-clause-room : goal.store-requires-clause-room
store-requires-clause-room c =
    let p = program_view c.args.program.now in
    let to : c.args.to ≡ type_of_object p c.in-Scalar.object = c.requires.typed ∙ ap (λ t. type_of_object p (object_of t)) c.in-Scalar.is in
    subst (λ k. length c.args.sym.now.net + stored_cost p.model c.args.from k < 2 ^ 28) (sym to) (subst (λ t. length c.args.sym.now.net + storing p c.args.from t < 2 ^ 28) c.in-Scalar.is c.requires.room)

pub store_element-requires-clause-typed : goal.store_element-requires-clause-typed
store_element-requires-clause-typed c = c.requires.typed ∙ ap (λ t. type_of_object (program_view c.args.program.now) (object_of t)) c.in-Element.is

pub store_element-requires-clause-places_of : goal.store_element-requires-clause-places_of
store_element-requires-clause-places_of c = subst (IsTarget (program_view c.args.program.now) c.args.sym.now) c.in-Element.is c.requires.is

pub store_element-requires-clause-room : goal.store_element-requires-clause-room
store_element-requires-clause-room c = subst (λ t. length c.args.sym.now.net + storing (program_view c.args.program.now) c.args.from t < 2 ^ 28) c.in-Element.is c.requires.room

pub returns-in_ok-r-in-Scalar : goal.returns-in_ok-r-in-Scalar
returns-in_ok-r-in-Scalar c W =
    let p = program_view c.args.program.now in
    let s = c.args.sym.now in
    let m = c.store.new.sym in
    let rs = c.in_ok-r-in-Scalar.r.bits in
    let to : c.args.to ≡ type_of_object p c.in-Scalar.object = c.requires.typed ∙ ap (λ t. type_of_object p (object_of t)) c.in-Scalar.is in
    subst (λ t. Gives p W (storing p c.args.from t) 0 s m (Some c.args.to) rs (stored_at p W (keys_of t s.net) c.args.from c.args.to c.args.value.now.bits s)) (sym c.in-Scalar.is)
    (subst (λ k. Gives p W (stored_cost p.model c.args.from k) 0 s m (Some c.args.to) rs (stored_at p W (λ v. key c.in-Scalar.object 0) c.args.from c.args.to c.args.value.now.bits s)) to (c.in_ok-r-in-Scalar.ensures W))

pub returns-in_ok-r-in-Element : goal.returns-in_ok-r-in-Element
returns-in_ok-r-in-Element c W =
    let p = program_view c.args.program.now in
    let s = c.args.sym.now in
    let m = c.store_element.new.sym in
    let rs = c.in_ok-r-in-Element.r.bits in
    let o = c.in-Element.object in
    let to : c.args.to ≡ type_of_object p o = c.requires.typed ∙ ap (λ t. type_of_object p (object_of t)) c.in-Element.is in
    subst (λ t. Gives p W (storing p c.args.from t) 0 s m (Some c.args.to) rs (stored_at p W (keys_of t s.net) c.args.from c.args.to c.args.value.now.bits s)) (sym c.in-Element.is)
    (subst (λ k. Gives p W (storing p c.args.from (Element o c.in-Element.places)) 0 s m (Some c.args.to) rs (stored_at p W (keys_of (Element o c.in-Element.places) s.net) c.args.from k c.args.value.now.bits s)) (sym to) (c.in_ok-r-in-Element.ensures W))
