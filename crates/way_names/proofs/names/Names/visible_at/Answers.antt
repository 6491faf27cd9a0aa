use Rattle.std.proofs.Common.{◌++◌, ap, ◌∙◌}
use Rattle.way_names.specs.Scopes.{front_before}
use Rattle.way_names.proofs.NamesLaws.{visible_names}
use Rattle.way_names.proofs.names.Names.visible_at.Goals as goal

pub returns : goal.returns
returns c =
    let before = c.in_ok-push_before.ensures ∙ ap (λ l. l ++ front_before c.args.spot c.as_slice-2.result.now) c.new-names.ensures.items in
    c.from_vec.ensures ∙ c.in_ok-extend_from_slice.ensures.items
    ∙ ap (λ l. c.push_before.new.names.items ++ l) c.as_slice-3.ensures.value
    ∙ ap (λ l. l ++ c.in_ok-locals.locals.items) before
    ∙ visible_names c.self.inside.program.now c.args.self.now c.self.inside.statics.items c.as_slice-2.result.now c.self.inside.scopes.items c.as_slice.result.now c.self.inside.statements c.self.inside.loops
    c.self.view_is c.self.invariant c.as_slice-2.ensures.value c.as_slice.ensures.value c.args.kind c.args.spot c.requires c.scope_of-scope.result c.in_ok-locals.locals.items c.scope_of-scope.ensures c.in_ok-locals.ensures
