-- A part that gives, with what comes after it.
use Rattle.std.proofs.Common.{◌≡◌, ap, refl, subst, sym, ◌∙◌, List, [], ◌∷◌, ◌++◌, Result, Ok, Err}
use Rattle.std.proofs.lemmas.List.{append_assoc, append-nil}
use Rattle.c_meaning.specs.declared.run.End.{End}
use Rattle.c_meaning.specs.Acts.{Res, Go, Stop, bind}
use Rattle.c_meaning.specs.Run.{State}
use Rattle.run_state.specs.Interpreting.{Gives}
use Rattle.run_state.specs.Ways.{Ran, bound, way_behind, IsOn, here, further}
use Rattle.run_state.specs.declared.machine.Halt.{Halt}
use Rattle.run_state.specs.declared.machine.Halt.TheVariants.{Ends, NoMemory}

-- seen as it was
pub is_here : {S : Type 0} (x y : S) (ys : List S) → x ≡ y → IsOn x (y ∷ ys)
is_here x y ys e = subst (λ z. IsOn x (z ∷ ys)) e (here ys)

pub is_on_front : {S : Type 0} (x : S) (xs ys : List S) → IsOn x xs → IsOn x (xs ++ ys)
is_on_front x _ ys (here xs) = here (xs ++ ys)
is_on_front x _ ys (further y xs h) = further y (xs ++ ys) (is_on_front x xs ys h)

pub is_on_back : {S : Type 0} (x : S) (xs ys : List S) → IsOn x ys → IsOn x (xs ++ ys)
is_on_back x [] ys h = h
is_on_back x (y ∷ xs) ys h = further y (xs ++ ys) (is_on_back x xs ys h)

-- where the first part halts, the whole halts
pub halted : {A B C D S : Type 0} (view : A → B) (view' : C → D) (h : Halt) (s : State S) (r : Ran S B) (k : B → State S → Ran S D)
    → Gives view (Err h) s r → Gives view' (Err h) s (bound r k)
halted view view' (Ends e) s r k g = ap (λ q. bind q (λ a t. (k a t).result)) g
halted view view' NoMemory s r k g = is_on_front s.seen r.way (way_behind r.result k) g

-- where it gives a value, the whole gives what the rest gives
pub passed : {A B C D S : Type 0} (view : A → B) (view' : C → D) (a : A) (s u : State S) (r : Ran S B) (k : B → State S → Ran S D) (q : Result C Halt)
    → Gives view (Ok a) s r → Gives view' q u (k (view a) s) → Gives view' q u (bound r k)
passed view view' a s u r k (Ok b) g h = subst (λ x. bind x (λ a t. (k a t).result) ≡ Go (view' b) u) (sym g) h
passed view view' a s u r k (Err (Ends e)) g h = subst (λ x. bind x (λ a t. (k a t).result) ≡ Stop e u) (sym g) h
passed view view' a s u r k (Err NoMemory) g h = subst (λ x. IsOn u.seen (r.way ++ way_behind x k)) (sym g) (is_on_back u.seen r.way (k (view a) s).way h)

-- what is left to do ends as the whole, and its way is on the way of the whole
pub record Behind {S A : Type 0} (rest whole : Ran S A) : Type 0 where
  pub result : rest.result ≡ whole.result
  pub way : (x : S) → IsOn x rest.way → IsOn x whole.way

-- what is left behind a part that gave a value
pub left_behind : {A B D S : Type 0} (view : A → B) (a : A) (s : State S) (r : Ran S B) (k : B → State S → Ran S D) (whole : Ran S D)
    → Gives view (Ok a) s r → Behind (bound r k) whole → Behind (k (view a) s) whole
left_behind view a s r k whole g b = record {
  result = ap (λ q. bind q (λ a t. (k a t).result)) (sym g) ∙ b.result;
  way = λ x h. b.way x (subst (λ q. IsOn x (r.way ++ way_behind q k)) (sym g) (is_on_back x r.way (k (view a) s).way h));
}

-- what the rest gives, the whole gives
pub gives_behind : {A B S : Type 0} (view : A → B) (q : Result A Halt) (u : State S) (rest whole : Ran S B) → Behind rest whole → Gives view q u rest → Gives view q u whole
gives_behind view (Ok a) u rest whole b g = sym b.result ∙ g
gives_behind view (Err (Ends e)) u rest whole b g = sym b.result ∙ g
gives_behind view (Err NoMemory) u rest whole b g = b.way u.seen g

pub starts : {S A : Type 0} (a b whole : Ran S A) → a ≡ b → Behind b whole → Behind a whole
starts a b whole e l = subst (λ q. Behind q whole) (sym e) l

pub halted_behind : {A B C D S : Type 0} (view : A → B) (view' : C → D) (h : Halt) (u : State S) (r : Ran S B) (k : B → State S → Ran S D) (whole : Ran S D)
    → Behind (bound r k) whole → Gives view (Err h) u r → Gives view' (Err h) u whole
halted_behind view view' h u r k whole b g = gives_behind view' (Err h) u (bound r k) whole b (halted view view' h u r k g)

-- parts in turn, grouped either way
pub bind_on : {E T A B C : Type 0} (r : Res E T A) (k : A → T → Res E T B) (l : B → T → Res E T C) → bind (bind r k) l ≡ bind r (λ a s. bind (k a s) l)
bind_on (Go a s) k l = refl
bind_on (Stop e s) k l = refl

-- so with what was seen on their way
pub bound_on : {S A B C : Type 0} (r : Ran S A) (k : A → State S → Ran S B) (l : B → State S → Ran S C) → bound (bound r k) l ≡ bound r (λ a s. bound (k a s) l)
bound_on r k l = by r.result r.way
  where
    by : (q : Res End (State _) _) (way : List _) → bound (bound (record { result = q; way = way }) k) l ≡ bound (record { result = q; way = way }) (λ a s. bound (k a s) l)
    by (Go a s) way = ap (λ xs. record { result = bind (k a s).result (λ b t. (l b t).result); way = xs }) (append_assoc way (k a s).way (way_behind (k a s).result l))
    by (Stop e s) way = ap (λ xs. record { result = Stop e s; way = xs }) (append-nil (way ++ []))

-- parts alike behind a part
pub bound_alike : {S A B : Type 0} (r : Ran S A) (k l : A → State S → Ran S B) → ((a : A) (s : State S) → k a s ≡ l a s) → bound r k ≡ bound r l
bound_alike r k l h = by r.result r.way
  where
    by : (q : Res End (State _) _) (way : List _) → bound (record { result = q; way = way }) k ≡ bound (record { result = q; way = way }) l
    by (Go a s) way = ap (λ o. record { result = o.result; way = way ++ o.way }) (h a s)
    by (Stop e s) way = refl

-- where a part gives a value, the whole goes on with it
pub went : {E T A B : Type 0} (a : A) (s : T) (r : Res E T A) (k : A → T → Res E T B) (q : Res E T B) → r ≡ Go a s → k a s ≡ q → bind r k ≡ q
went a s r k q g h = ap (λ x. bind x k) g ∙ h
