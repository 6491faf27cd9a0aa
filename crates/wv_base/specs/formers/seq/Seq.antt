-- How a `Seq` stores its items, so that a recursive type may refer to itself through one: its value is a list, and
-- its one field is a `Vec`, whose own file is `vec`.
use mathlib.Core.Path.{◌≡◌, refl, sym}
use mathlib.Core.List.{List, []}
use mathlib.Core.Former.{Former, this, list, via, children}
use base.Stored.{code_map}
use denote.RattleType.{RattleType}
use denote.HoleLaws.{Alike}
use denote.HolePlaces.{Recodes, struct_places, laid}
use denote.Hole.Carrier.{listed, list-listed}
use denote.Hole.Fix.{over}
use denote.Param.Weighed.{Weighed, w_list}
use denote.Model.Placed.{view_places}
use Rattle.std.specs.formers.vec.Vec as vec
use Rattle.std.specs.declared.alloc.Global.{Global}
use Rattle.std.specs.contracts.alloc.Global as global
use Rattle.std.specs.contracts.impls.GlobalAllocator.TheImpl.{ghosts}
use Rattle.wv_base.specs.declared.seq.Seq.TheInside.{Inside}
use Rattle.wv_base.specs.declared.seq.Seq.TheView.{view, invariant}
use Rattle.wv_base.specs.contracts.seq.Seq as seq
use Rattle.wv_base.specs.contracts.seq.Seq.TheInside as inside

-- a value of `Seq T` is a list
abbrev pub the_former : Former {0} → Former {0}
the_former items = list items

abbrev pub the_weighed : {items : Former {0}} → Weighed items → Weighed (the_former items)
the_weighed weight = w_list weight

abbrev pub the_empty : List ⊥
the_empty = []

abbrev pub the_items : (T : Type 0) → List T → List T
the_items T value = value

pub the_items_listed : (T : Type 0) (value : List T) → listed _ (children (the_former this) T value) ≡ the_items T value
the_items_listed T value = list-listed T value

-- the fields: one `Vec`
abbrev fields : Former {0}
fields = via (vec.the_former this Global) Inside (λ T s. s.items) (λ T v. record { items = v }) (λ T s. refl) (λ T v. refl)

module _ (From To : RattleType) (h : From.Denot → To.Denot) where
  -- the `Vec` inside holds the items in the same places
  inside_places : Alike From To h → Alike (inside.the_row From) (inside.the_row To) (fields.map From.Denot To.Denot h)
  inside_places alike = struct_places (inside.the_type From) (inside.the_type To) (vec.mapped h, tt) _ (λ d. refl) refl
      (laid _ _ _ (vec.the_places global.the_row ghosts From To h alike), tt)

  pub the_places : Alike From To h → Alike (seq.the_row From) (seq.the_row To) ((the_former this).map From.Denot To.Denot h)
  the_places alike = view_places fields (list this) view (λ X Y k s. refl) (λ X s. refl) From.Denot To.Denot h
      (seq.the_row From).coded (seq.the_row To).coded
      (invariant From.Denot) (invariant To.Denot) (λ s p q. refl) (λ s p q. refl) (λ s e. tt) (λ s e. tt)
      (over (inside.the_row From)) (over (inside.the_row To))
      (inside_places alike)

  pub the_codes_placed : Recodes From To h → Recodes (seq.the_row From) (seq.the_row To) ((the_former this).map From.Denot To.Denot h)
  the_codes_placed recodes value = sym (code_map From.coded.code To.coded.code h (λ x. sym (recodes x)) value)
