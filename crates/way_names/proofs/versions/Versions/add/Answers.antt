use Rattle.std.proofs.Common.{Option, ℕ, refl, sym, subst, ap, ◌∙◌}
use Rattle.way_names.specs.Keys.{has_key}
use Rattle.way_names.specs.Versions.{Puts, Stands, version_of}
use Rattle.way_names.proofs.VersionLaws.{adds}
use Rattle.way_names.proofs.versions.Versions.add.Goals as goal

pub put_object-requires-clause-stands : goal.put_object-requires-clause-stands
put_object-requires-clause-stands c =
    let v = c.args.self.now in
    let at = c.version_of-at.ensures ∙ ap (λ rs. version_of rs c.args.outer) c.as_slice.ensures.value in
    subst (Stands v.nodes.items v.bits) (sym at) (c.requires.stand c.args.outer)

pub returns : goal.returns
returns c =
    let objects = c.args.keys.now.objects.now in
    let v = c.args.self.now in
    let at = c.version_of-at.ensures ∙ ap (λ rs. version_of rs c.args.outer) c.as_slice.ensures.value in
    adds objects v _ c.args.outer c.args.object c.in_ok-root.root c.requires.stand c.requires.wide
    (subst (λ (a : Option ℕ). Puts v.nodes.items c.put_object.new.nodes.items v.bits a (λ key. has_key objects key c.args.object) c.args.object c.in_ok-root.root) at c.in_ok-root.ensures)
    c.in_ok-push.ensures.items refl
