-- Around a function's body: fresh bits for its ways out, and what comes back from it.
use Rattle.std.specs.Prelude.{◌≡◌, ℕ, Bool, true, false, cond, ◌||◌, ℤ, pos, List, length, take, Option, Some, None}
use Rattle.c_core.specs.Tree.{Program}
use Rattle.c_core.specs.declared.number.IntType.{IntType}
use Rattle.c_meaning.specs.Acts.{Go, Stop}
use Rattle.c_meaning.specs.Havoc.{Passes}
use Rattle.sym_meaning.specs.Mode.{Act}
use Rattle.circuits.specs.declared.net.Bit.{Bit}
use Rattle.circuits.specs.declared.net.NetNode.{NetNode}
use Rattle.circuits.specs.Net.{holds, IsIn}
use Rattle.circuits.specs.Numbers.{typed, AreTyped}
use Rattle.sym_state.specs.declared.state.Sym.{Sym}
use Rattle.sym_flow.specs.declared.calling.Caller.{Caller}
use Rattle.sym_state.specs.Standing.{Stand, stand, IsState, Added}

-- no run is on its way out of the function, and none gave a value
abbrev pub fresh_function : Stand → Stand
fresh_function s = record s { broken = false; again = false; gave = false; given = pos 0 }

-- after the body of a call around which was `around` with n cells
abbrev pub behind_call : Stand → ℕ → Stand → Stand
behind_call around n s = record s {
  live = s.live || (s.broken || (s.again || s.gave));
  broken = around.broken;
  again = around.again;
  gave = around.gave;
  given = around.given;
  cells = take n s.cells;
}

-- what a function of this result gave: a value, where it gave one; a void function gives none
abbrev pub value_given : Option IntType → Bool → ℤ → Option ℤ
value_given None gave z = None
value_given (Some ty) true z = Some z
value_given (Some ty) false z = None

-- what a call comes to once its event is told (C11 6.9.1p12)
abbrev pub after_return : Bool → Option ℤ → Act ℤ
after_return needed (Some v) = λ s. Go v s
after_return needed None = cond needed (λ s. Stop Passes s) (λ s. Go (pos 0) s)

-- before the body of a function whose result has this type
pub record Enters (p : Program) (ty : IntType) (old new : Sym) : Type 0 where
  pub fits : IsState p new
  pub added : Added 0 0 old.net new.net
  pub result : new.result ≡ ty
  pub is : (v : ℕ → Bool) → stand p v new ≡ fresh_function (stand p v old)

-- after the body: from `around`, before the call, and `old`, at the body's end, to `new`
pub record Returns (p : Program) (ands : ℕ) (around old new : Sym) : Type 0 where
  pub fits : IsState p new
  pub added : Added ands 0 old.net new.net
  pub result : new.result ≡ around.result
  pub is : (v : ℕ → Bool) → stand p v new ≡ behind_call (stand p v around) (length around.cells.items) (stand p v old)

-- of a value that isn't needed nothing is asked
abbrev pub is_value : Bool → ℤ → ℤ → Type 0
is_value true value z = z ≡ value
is_value false value z = Unit {0}

-- ---- what the code keeps of the caller
pub record IsAround (r : Caller) (s : Sym) : Type 0 where
  pub broken : r.broken ≡ s.broken
  pub again : r.again ≡ s.again
  pub gave : r.gave ≡ s.gave
  pub given : r.given ≡ s.given
  pub result : r.result ≡ s.result

-- all of it is a net's
pub record IsAroundIn (p : Program) (r : Caller) (net : List NetNode) : Type 0 where
  pub broken : IsIn net r.broken
  pub again : IsIn net r.again
  pub gave : IsIn net r.gave
  pub given : AreTyped p.model r.result net r.given.bits

-- what is around the call, under inputs
abbrev pub around_at : Program → (ℕ → Bool) → Sym → Caller → Stand
around_at p v s r = record (stand p v s) {
  broken = holds v s.net r.broken;
  again = holds v s.net r.again;
  gave = holds v s.net r.gave;
  given = typed p.model r.result v s.net r.given.bits;
}

-- from the body's end to after the call, around which were n cells; the bits are what the function gave, where the bit is true
pub record CameBack (p : Program) (r : Caller) (n : ℕ) (old new : Sym) (bits : List Bit) (bit : Bit) : Type 0 where
  pub fits : IsState p new
  pub added : Added 3 0 old.net new.net
  pub result : new.result ≡ r.result
  pub is : (v : ℕ → Bool) → stand p v new ≡ behind_call (around_at p v old r) n (stand p v old)
  pub bits_in : AreTyped p.model old.result new.net bits
  pub value : (v : ℕ → Bool) → typed p.model old.result v new.net bits ≡ (stand p v old).given
  pub gave_in : IsIn new.net bit
  pub gave : (v : ℕ → Bool) → holds v new.net bit ≡ (stand p v old).gave
