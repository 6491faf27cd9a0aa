-- Arguments on the stack of a machine, and the parameters that get them.
use Rattle.std.proofs.Common.{◌≡◌, Bool, true, false, nat_le, leb-true, leb-false, ℕ, zero, suc, ◌+◌, ◌-◌, ◌≤◌, ℤ, List, [], ◌∷◌, ◌++◌, length, take, drop, reverse, Some, slice_get, Result, Err, refl, ap, sym, ◌∙◌, arith}
use Rattle.std.proofs.lemmas.List.{take-append-drop, reverse-append, reverse-reverse, length-reverse, length-drop, take_rest}
use Rattle.std.proofs.Math.Seq.{take-append_seam, drop-append_seam}
use Rattle.c_meaning.specs.Cells.{Cell}
use Rattle.flow_code.specs.declared.code.Parameter.{Parameter}
use Rattle.c_meaning.specs.declared.run.Event.{Event}
use Rattle.c_meaning.specs.Acts.{Go}
use Rattle.c_meaning.specs.Run.{State}
use Rattle.c_meaning.specs.Run as runs
use Rattle.c_meaning.specs.Watching.{seen_by}
use Rattle.run_state.specs.declared.machine.CallSite.{CallSite}
use Rattle.flow_code.specs.declared.code.Body.{Body}
use Rattle.flow_code.specs.declared.code.Code.{Code}
use Rattle.flow_laws.specs.Machines.{Control}
use Rattle.flow_laws.specs.Acting.{arguments, with_parameters, cell, called, program_in}
use Rattle.flow_machine.specs.Views.{Gives, Acts, argument_of}
use Rattle.flow_machine.proofs.Giving.{halts_there}
use Rattle.run_state.specs.Interpreting.{same}
use Rattle.run_state.specs.declared.machine.Halt.{Halt}

-- the next parameter, with its argument or 0
one : (o : Parameter) (os : List Parameter) (cs : List Cell) (vs : List ℤ) (i : ℕ)
    → with_parameters (o ∷ os) (drop i vs) cs ≡ with_parameters os (drop (suc i) vs) (cs ++ record { key = cell o.object 0; value = argument_of o.ty (slice_get vs i) } ∷ [])
one o os cs [] zero = refl
one o os cs [] (suc i) = refl
one o os cs (v ∷ vs) zero = refl
one o os cs (v ∷ vs) (suc i) = one o os cs vs i

module _ {A : Type 0} where
  take_whole : (n : ℕ) (xs : List A) → length xs ≤ n → take n xs ≡ xs
  take_whole zero [] h = refl
  take_whole zero (x ∷ xs) h = absurd (omega arith)
  take_whole (suc n) [] h = refl
  take_whole (suc n) (x ∷ xs) h =
      let j : length xs ≤ n = omega arith in
      ap (λ ys. x ∷ ys) (take_whole n xs j)

  pub drop_whole : (n : ℕ) (xs : List A) → length xs ≤ n → drop n xs ≡ []
  drop_whole zero [] h = refl
  drop_whole zero (x ∷ xs) h = absurd (omega arith)
  drop_whole (suc n) [] h = refl
  drop_whole (suc n) (x ∷ xs) h =
      let j : length xs ≤ n = omega arith in
      drop_whole n xs j

  -- the first n of a list backwards are its last n
  first_backwards : (xs ys : List A) (n : ℕ) → n ≡ length ys → take n (reverse (xs ++ ys)) ≡ reverse ys
  first_backwards xs ys n e =
      let k : n ≡ length (reverse ys) = e ∙ sym (length-reverse ys) in
      rw (reverse-append xs ys, k) (take-append_seam (reverse ys) (reverse xs))

  rest_backwards : (xs ys : List A) (n : ℕ) → n ≡ length ys → drop n (reverse (xs ++ ys)) ≡ reverse xs
  rest_backwards xs ys n e =
      let k : n ≡ length (reverse ys) = e ∙ sym (length-reverse ys) in
      rw (reverse-append xs ys, k) (drop-append_seam (reverse ys) (reverse xs))

-- a call's arguments are the last values pushed
arguments_of_parts : (xs ys : List ℤ) (n : ℕ) → n ≡ length ys → arguments n (reverse (xs ++ ys)) ≡ ys
arguments_of_parts xs ys n e = ap reverse (first_backwards xs ys n e) ∙ reverse-reverse ys

pub arguments_are : (n : ℕ) (vs : List ℤ) → arguments n (reverse vs) ≡ drop (length vs - n) vs
arguments_are n vs = by (nat_le n (length vs)) refl
  where
    enough : n ≤ length vs → arguments n (reverse vs) ≡ drop (length vs - n) vs
    enough h =
        let e : n ≡ length (drop (length vs - n) vs) = omega (arith, length-drop (length vs - n) vs) in
        ap (λ ws. arguments n (reverse ws)) (sym (take-append-drop (length vs - n) vs)) ∙ arguments_of_parts (take (length vs - n) vs) (drop (length vs - n) vs) n e

    few : length vs ≤ n → arguments n (reverse vs) ≡ drop (length vs - n) vs
    few h =
        let z : length vs - n ≡ 0 = omega arith in
        let l : length (reverse vs) ≤ n = omega (arith, length-reverse vs) in
        ap reverse (take_whole n (reverse vs) l) ∙ rw z (reverse-reverse vs)

    by : (b : Bool) → nat_le n (length vs) ≡ b → arguments n (reverse vs) ≡ drop (length vs - n) vs
    by true e = enough (leb-true n (length vs) e)
    by false e =
        let h = leb-false n (length vs) e in
        let l : length vs ≤ n = omega arith in
        few l

-- the values below them
pub below_arguments : (n : ℕ) (vs : List ℤ) → drop n (reverse vs) ≡ reverse (take (length vs - n) vs)
below_arguments n vs = by (nat_le n (length vs)) refl
  where
    enough : n ≤ length vs → drop n (reverse vs) ≡ reverse (take (length vs - n) vs)
    enough h =
        let e : n ≡ length (drop (length vs - n) vs) = omega (arith, length-drop (length vs - n) vs) in
        ap (λ ws. drop n (reverse ws)) (sym (take-append-drop (length vs - n) vs)) ∙ rest_backwards (take (length vs - n) vs) (drop (length vs - n) vs) n e

    few : length vs ≤ n → drop n (reverse vs) ≡ reverse (take (length vs - n) vs)
    few h =
        let z : length vs - n ≡ 0 = omega arith in
        let l : length (reverse vs) ≤ n = omega (arith, length-reverse vs) in
        rw z (drop_whole n (reverse vs) l)

    by : (b : Bool) → nat_le n (length vs) ≡ b → drop n (reverse vs) ≡ reverse (take (length vs - n) vs)
    by true e = enough (leb-true n (length vs) e)
    by false e =
        let h = leb-false n (length vs) e in
        let l : length vs ≤ n = omega arith in
        few l

-- a parameter gets its argument, and the others the ones behind it
pub next_parameter : (os : List Parameter) (vs : List ℤ) (i : ℕ) (o : Parameter) (cs ds : List Cell) → drop i os ≡ o ∷ drop (suc i) os
    → ds ≡ cs ++ record { key = cell o.object 0; value = argument_of o.ty (slice_get vs i) } ∷ []
    → with_parameters (drop i os) (drop i vs) cs ≡ with_parameters (drop (i + 1) os) (drop (i + 1) vs) ds
next_parameter os vs i o cs ds h e =
    let s : i + 1 ≡ suc i = omega arith in
    rw (s, e, h) (one o (drop (suc i) os) cs vs i)

-- a call in room for it: its frame, its arguments taken, its parameters' cells
pub entered : (c : Code) (S : Type 0) (after : Event → List Cell → S → S) (b : Body) (n : ℕ) (site : CallSite) (k framed taken : Control) (s : State S) (m l d active : ℕ)
    (ps : List Parameter) (cells : List Cell) → m ≡ suc l → l ≡ length b.parameters → runs.room (program_in c) S (seen_by after) m s ≡ Go tt s
    → framed ≡ record k { frames = record { back = k.at; cells = d; site = site } ∷ k.frames } → d ≡ length s.cells → taken ≡ record framed { stack = drop n framed.stack }
    → active ≡ suc s.active → ps ≡ b.parameters → cells ≡ with_parameters ps (arguments n framed.stack) s.cells
    → called c S after (Some b) n site k s ≡ Go (record taken { at = b.entry }) (record s { active = active; cells = cells })
entered c S after b n site k framed taken s m l d active ps cells em el r ef ed et ea ep ec =
    let h = rw (em, el) at r in
    rw (h, et, ec, ep, ef, ed, ea) refl

-- a call without room
pub not_entered : (c : Code) (S : Type 0) (after : Event → List Cell → S → S) (b : Body) (n : ℕ) (site : CallSite) (k : Control) (s : State S) (m l : ℕ) (h : Halt) (q : Result (Unit {0}) Halt)
    → m ≡ suc l → l ≡ length b.parameters → q ≡ Err h → Gives same (Err h) s (runs.room (program_in c) S (seen_by after) m s) → Acts q k s (called c S after (Some b) n site k s)
not_entered c S after b n site k s m l h q em el e r =
    let g = rw (em, el) at r in
    halts_there same h k s (runs.room (program_in c) S (seen_by after) (suc (length b.parameters)) s) _ q e g

-- no parameter is left
pub none_left : (os : List Parameter) (vs : List ℤ) (i : ℕ) (cs : List Cell) → length os ≤ i → with_parameters (drop i os) vs cs ≡ cs
none_left os vs i cs h = rw (drop_whole i os h) refl

-- the values below so many on top, where as many of the list are kept
pub kept_below : (n k l : ℕ) (vs us : List ℤ) → us ≡ take k vs → k ≡ l - n → l ≡ length vs → reverse us ≡ drop n (reverse vs)
kept_below n k l vs us e f g =
    let h : k ≡ length vs - n = f ∙ ap (λ m. m - n) g in
    rw (e, h) (sym (below_arguments n vs))

-- the values on top
pub taken_above : (n k l : ℕ) (vs ws : List ℤ) → ws ≡ vs → k ≡ l - n → l ≡ length vs → take (length ws - k) (drop k ws) ≡ arguments n (reverse vs)
taken_above n k l vs ws e f g =
    let h : k ≡ length vs - n = f ∙ ap (λ m. m - n) g in
    rw e (take_rest vs k ∙ ap (λ m. drop m vs) h ∙ sym (arguments_are n vs))
