-- What is noted along a walk over an expression is what its parts give.
use Rattle.std.proofs.Common.{◌≡◌, ◌++◌, List, Option, ap, sym, ◌∙◌}
use Rattle.c_core.specs.declared.number.DataModel.{DataModel}
use Rattle.c_core.specs.declared.number.Spot.{Spot}
use Rattle.c_parser.specs.Tree.{Expr, Node, Item}
use Rattle.check_rules.specs.declared.fault.Refusal.{Refusal}
use Rattle.check_rules.specs.Names.{Entry}
use Rattle.check_rules.specs.Parts.{Role, Part, Expression, parts, parts_in}
use Rattle.check_rules.specs.Noting.{noted_part, noted_parts}
use Rattle.check_rules.proofs.NotingLaws.{noted_parts-append, noted_part-last}

module _ (m : DataModel) (items : List Item) where
  -- these parts, and then those
  pub noted_both : (b c d : Option Refusal) (ps qs : List Part) → c ≡ noted_parts m items b ps → d ≡ noted_parts m items c qs → d ≡ noted_parts m items b (ps ++ qs)
  noted_both b c d ps qs f g = g ∙ ap (λ x. noted_parts m items x qs) f ∙ sym (noted_parts-append m items b ps qs)

  -- an expression itself is looked at behind its parts
  pub noted_whole : (es : List Entry) (b c d : Option Refusal) (r : Role) (p : Spot) (n : Node)
      → c ≡ noted_parts m items b (parts_in es n) → d ≡ noted_part m items c (Expression es r (Expr p n)) → d ≡ noted_parts m items b (parts es r (Expr p n))
  noted_whole es b c d r p n f g =
      g ∙ ap (λ x. noted_part m items x (Expression es r (Expr p n))) f ∙ noted_part-last m items b (parts_in es n) (Expression es r (Expr p n))
