-- Whole sources: of the item forms the first that spells a front of the tokens left is taken.
use Rattle.std.specs.Prelude.{ℕ, List, [], ◌∷◌, Option, Some, None}
use Rattle.c_core.specs.declared.number.Spot.{Spot}
use Rattle.c_tokens.specs.declared.token.Token.{Token}
use Rattle.c_parser.specs.Tree.{Item}
use Rattle.c_parser.specs.Items.{ItemForm, Reach, Function, Prototype, Global, Closed, Nothing}

-- the form spells no front of the tokens
abbrev pub SpellsNone : ItemForm → List Token → Type 0
SpellsNone Form ts = (x : Option Item) (rest : List Token) → Form ts x rest → ⊥

-- the item forms in the order in which they are tried, with their limits of height and brackets
pub data Takes (h b : ℕ) : List Token → Option Item → List Token → Type 0 where
  TakesReach : {ts rest : List Token} {x : Option Item} → Reach h b ts x rest → Takes h b ts x rest
  TakesFunction : {ts rest : List Token} {x : Option Item} → SpellsNone (Reach h b) ts → Function h b ts x rest → Takes h b ts x rest
  TakesPrototype : {ts rest : List Token} {x : Option Item} → SpellsNone (Reach h b) ts → SpellsNone (Function h b) ts → Prototype h b ts x rest → Takes h b ts x rest
  TakesGlobal : {ts rest : List Token} {x : Option Item} →
      SpellsNone (Reach h b) ts → SpellsNone (Function h b) ts → SpellsNone (Prototype h b) ts → Global h b ts x rest → Takes h b ts x rest
  TakesClosed : {ts rest : List Token} {x : Option Item} →
      SpellsNone (Reach h b) ts → SpellsNone (Function h b) ts → SpellsNone (Prototype h b) ts → SpellsNone (Global h b) ts →
      Closed h b ts x rest → Takes h b ts x rest
  TakesNothing : {ts rest : List Token} {x : Option Item} →
      SpellsNone (Reach h b) ts → SpellsNone (Function h b) ts → SpellsNone (Prototype h b) ts → SpellsNone (Global h b) ts → SpellsNone (Closed h b) ts →
      Nothing h b ts x rest → Takes h b ts x rest

-- an item, where the form gives a tree
abbrev pub with_item : Option Item → List Item → List Item
with_item None xs = xs
with_item (Some x) xs = x ∷ xs

-- the items of a source, one after another
pub data Items (h b : ℕ) : List Token → List Item → Type 0 where
  NoMoreItems : Items h b [] []
  MoreItems : {ts rest : List Token} {x : Option Item} {xs : List Item} → Takes h b ts x rest → Items h b rest xs → Items h b ts (with_item x xs)

-- items are taken up to tokens whose front no form spells; they begin at this place
pub data Stops (h b : ℕ) : List Token → Spot → Type 0 where
  StopsHere : {t : Token} {ts : List Token} → ((x : Option Item) (rest : List Token) → Takes h b (t ∷ ts) x rest → ⊥) → Stops h b (t ∷ ts) t.spot
  StopsLater : {ts rest : List Token} {x : Option Item} {p : Spot} → Takes h b ts x rest → Stops h b rest p → Stops h b ts p

-- statements and expressions nest at most this deep
abbrev pub max_height : ℕ
max_height = 200

-- this many brackets are open at one place at most
abbrev pub max_brackets : ℕ
max_brackets = 200

-- the tokens spell a source of these items
abbrev pub IsSource : List Token → List Item → Type 0
IsSource ts xs = Items max_height max_brackets ts xs

-- the tokens spell no source: the first item that fits no form begins here
abbrev pub IsSyntax : List Token → Spot → Type 0
IsSyntax ts p = Stops max_height max_brackets ts p
