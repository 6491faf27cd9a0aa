-- Plain scalars: the functions give what the relations say, and nothing else.
use Rattle.std.proofs.Common.{◌≡◌, ℕ, suc, ◌+◌, ◌<◌, List, [], ◌∷◌, ◌++◌, length, Bool, true, false, refl, sym, ap, ◌∙◌, subst, cond, inl, inr, ◌⊎◌, append_assoc, Option, Some, None, arith, ◌&&◌, nat_lt, true≢false, add-zero}
use Rattle.std.proofs.lemmas.Bool.{cond-true, cond-false, eqb-true, ltb-true, lt-ltb, false_from_ne_true, and_parts, and_from}
use Rattle.yaml_lines.specs.Line.{Line}
use Rattle.yaml_lines.specs.Chunks.{Each, ◌>>=◌, provided}
use Rattle.yaml_lines.specs.Marks.{blank, is_end, trimmed, without_end, unless_blank, nothing, quiet, all_quiet, is_empty, folded, EndsWell, Quiet}
use Rattle.yaml_scalars.specs.Plain.{stops, cut, goes_on, RunsTo, Part, Continues, Done, Next, Last}
use Rattle.yaml_lines.proofs.Parts.{chosen, bind_some, provided_some}
use Rattle.std.proofs.lemmas.Option.{same_Some}

-- where a plain scalar ends
pub cut_whole : (stop : Bool → ℕ → List ℕ → Bool) (behind : Bool) (text : List ℕ) → text ≡ (cut stop behind text).0 ++ (cut stop behind text).1
cut_whole stop behind [] = refl
cut_whole stop behind (b ∷ bs) = at_stop (cut_whole stop (blank b) bs) (stop behind b bs) refl
  where
    at_stop : bs ≡ (cut stop (blank b) bs).0 ++ (cut stop (blank b) bs).1 → (v : Bool) → stop behind b bs ≡ v → b ∷ bs ≡ (cut stop behind (b ∷ bs)).0 ++ (cut stop behind (b ∷ bs)).1
    at_stop h true e = rw e refl
    at_stop h false e = rw e (ap (λ xs. b ∷ xs) h)

pub cut_runs : (stop : Bool → ℕ → List ℕ → Bool) (behind : Bool) (text : List ℕ) → RunsTo stop behind (cut stop behind text).0 (cut stop behind text).1
cut_runs stop behind [] = tt
cut_runs stop behind (b ∷ bs) = at_stop (cut_runs stop (blank b) bs) (stop behind b bs) refl
  where
    at_stop : RunsTo stop (blank b) (cut stop (blank b) bs).0 (cut stop (blank b) bs).1 → (v : Bool) → stop behind b bs ≡ v → RunsTo stop behind (cut stop behind (b ∷ bs)).0 (cut stop behind (b ∷ bs)).1
    at_stop h true e = rw e e
    at_stop h false e = rw e (ap (stop behind b) (sym (cut_whole stop (blank b) bs)) ∙ e, h)

pub cut_again : (stop : Bool → ℕ → List ℕ → Bool) (behind : Bool) (front rest : List ℕ) → RunsTo stop behind front rest → cut stop behind (front ++ rest) ≡ (front, rest)
cut_again stop behind [] [] h = refl
cut_again stop behind [] (b ∷ bs) h = rw h refl
cut_again stop behind (b ∷ front) rest h = rw (h.0, cut_again stop (blank b) front rest h.1) refl

-- a text without the blanks at its end
pub record Ended (front : List ℕ) : Type 0 where
  pub gap : List ℕ
  pub whole : front ≡ without_end front ++ gap
  pub blanks : Each blank gap
  pub ends : EndsWell (without_end front)

ended_at : (b : ℕ) (bs ws : List ℕ) → without_end bs ≡ ws → Ended bs → Ended (b ∷ bs)
ended_at b bs [] e h = at_blank (blank b) refl
  where
    at_blank : (v : Bool) → blank b ≡ v → Ended (b ∷ bs)
    at_blank true f =
        let none : without_end (b ∷ bs) ≡ [] = ap (unless_blank b) e ∙ rw f refl in
        record {
          gap = b ∷ bs;
          whole = ap (λ xs. xs ++ (b ∷ bs)) (sym none);
          blanks = (f, subst (Each blank) (sym (h.whole ∙ ap (λ xs. xs ++ h.gap) e)) h.blanks);
          ends = subst EndsWell (sym none) tt;
        }
    at_blank false f =
        let one : without_end (b ∷ bs) ≡ b ∷ [] = ap (unless_blank b) e ∙ rw f refl in
        record {
          gap = bs;
          whole = ap (λ xs. xs ++ bs) (sym one);
          blanks = subst (Each blank) (sym (h.whole ∙ ap (λ xs. xs ++ h.gap) e)) h.blanks;
          ends = subst EndsWell (sym one) f;
        }
ended_at b bs (c ∷ cs) e h =
    let more : without_end (b ∷ bs) ≡ b ∷ c ∷ cs = ap (unless_blank b) e in
    record {
      gap = h.gap;
      whole = ap (λ xs. b ∷ xs) (h.whole ∙ ap (λ xs. xs ++ h.gap) e) ∙ ap (λ xs. xs ++ h.gap) (sym more);
      blanks = h.blanks;
      ends = subst EndsWell (sym more) (subst EndsWell e h.ends);
    }

pub ended : (front : List ℕ) → Ended front
ended [] = record { gap = []; whole = refl; blanks = tt; ends = tt }
ended (b ∷ bs) = ended_at b bs (without_end bs) refl (ended bs)

all_blank : (gap : List ℕ) → Each blank gap → without_end gap ≡ []
all_blank [] h = refl
all_blank (b ∷ bs) h = rw (all_blank bs h.1, h.0) refl

pub ended_again : (value gap : List ℕ) → EndsWell value → Each blank gap → without_end (value ++ gap) ≡ value
ended_again [] gap e h = all_blank gap h
ended_again (b ∷ []) gap e h = rw (all_blank gap h, e) refl
ended_again (b ∷ c ∷ cs) gap e h = ap (unless_blank b) (ended_again (c ∷ cs) gap e h)

module _ (stop : Bool → ℕ → List ℕ → Bool) where
  pub part_sound : (text : List ℕ) → Part stop text (without_end (cut stop false text).0) (cut stop false text).1
  part_sound text =
      let e = ended (cut stop false text).0 in
      record {
        gap = e.gap;
        whole = cut_whole stop false text ∙ ap (λ xs. xs ++ (cut stop false text).1) e.whole;
        runs = subst (λ xs. RunsTo stop false xs (cut stop false text).1) e.whole (cut_runs stop false text);
        blanks = e.blanks;
        ends = e.ends;
      }

  pub part_complete : (text value rest : List ℕ) → Part stop text value rest → (without_end (cut stop false text).0 ≡ value) × ((cut stop false text).1 ≡ rest)
  part_complete text value rest p =
      let c : cut stop false text ≡ (value ++ p.gap, rest) = ap (cut stop false) p.whole ∙ cut_again stop false (value ++ p.gap) rest p.runs in
      (ap (λ r. without_end r.0) c ∙ ended_again value p.gap p.ends p.blanks, ap (λ r. r.1) c)

pub quiet_sound : (ls : List Line) → all_quiet ls ≡ true → Quiet ls
quiet_sound [] e = tt
quiet_sound (l ∷ ls) e = let both = and_parts _ _ e in (both.0, quiet_sound ls both.1)

pub quiet_complete : (ls : List Line) → Quiet ls → all_quiet ls ≡ true
quiet_complete [] h = refl
quiet_complete (l ∷ ls) h = and_from _ _ h.0 (quiet_complete ls h.1)

pub passed : {A : Type 0} (b : Bool) (x : A) → b ≡ true → provided b (Some x) ≡ Some x
passed b x e = rw e refl

pub end_is : {X : Type 0} (bs : List X) → is_end bs ≡ true → bs ≡ []
end_is [] e = refl
end_is (b ∷ bs) e = absurd (true≢false (sym e))

pub comment_is : (bs : List ℕ) → is_end bs ≡ false → nothing bs ≡ true → (rest : List ℕ) × (bs ≡ 35 ∷ rest)
comment_is [] e h = absurd (true≢false e)
comment_is (b ∷ bs) e h = (bs, ap (λ x. x ∷ bs) (eqb-true b 35 h))

empty_quiet : (l : Line) → is_empty l ≡ true → quiet l.text ≡ true
empty_quiet l e = ap nothing (end_is (trimmed l.text) e)

all_empty_quiet : (ls : List Line) → Each is_empty ls → Quiet ls
all_empty_quiet [] h = tt
all_empty_quiet (l ∷ ls) h = (empty_quiet l h.0, all_empty_quiet ls h.1)

quiet_append : (xs ys : List Line) → Quiet xs → Quiet ys → Quiet (xs ++ ys)
quiet_append [] ys h k = k
quiet_append (x ∷ xs) ys h k = (h.0, quiet_append xs ys h.1 k)

each_push : (xs : List Line) (l : Line) → Each is_empty xs → is_empty l ≡ true → Each is_empty (xs ++ l ∷ [])
each_push [] l h e = (e, tt)
each_push (x ∷ xs) l h e = (h.0, each_push xs l h.1 e)

length_push : (xs : List Line) (l : Line) → length (xs ++ l ∷ []) ≡ suc (length xs)
length_push [] l = refl
length_push (x ∷ xs) l = ap suc (length_push xs l)

-- what a loud line gives, k empty lines having come
abbrev pub at_loud : ℕ → ℕ → Line → List Line → Option (List ℕ)
at_loud n k l ls =
    cond (is_end (cut stops false (trimmed l.text)).1) (goes_on n 0 ls >>= λ more. Some (folded k ++ (without_end (cut stops false (trimmed l.text)).0 ++ more)))
    (provided (nothing (cut stops false (trimmed l.text)).1 && all_quiet ls) (Some (folded k ++ without_end (cut stops false (trimmed l.text)).0)))

module _ (n : ℕ) (empties : List Line) (l : Line) (ls : List Line) (value : List ℕ) (h : Each is_empty empties) where
  loud_sound : quiet l.text ≡ false → nat_lt n l.indent ≡ true → ((more : List ℕ) → goes_on n 0 ls ≡ Some more → Continues n ls more) → at_loud n (length empties) l ls ≡ Some value → Continues n (empties ++ (l ∷ ls)) value
  loud_sound q lt ih e = at_end (chosen _ _ _ _ e)
    where
      at_comment : is_end (cut stops false (trimmed l.text)).1 ≡ false → provided (nothing (cut stops false (trimmed l.text)).1 && all_quiet ls) (Some (folded (length empties) ++ without_end (cut stops false (trimmed l.text)).0)) ≡ Some value → Continues n (empties ++ (l ∷ ls)) value
      at_comment f g =
          let p = provided_some _ _ value g in
          let both = and_parts _ _ p.0 in
          let comment = comment_is (cut stops false (trimmed l.text)).1 f both.0 in
          subst (λ v. Continues n (empties ++ (l ∷ ls)) v) (same_Some _ _ p.1)
          (Last empties l ls (without_end (cut stops false (trimmed l.text)).0) comment.0 h q (ltb-true _ _ lt) (subst (λ r. Part stops (trimmed l.text) (without_end (cut stops false (trimmed l.text)).0) r) comment.1 (part_sound stops (trimmed l.text))) (quiet_sound ls both.1))

      at_end : ((is_end (cut stops false (trimmed l.text)).1 ≡ true) × ((goes_on n 0 ls >>= λ more. Some (folded (length empties) ++ (without_end (cut stops false (trimmed l.text)).0 ++ more))) ≡ Some value)) ⊎ ((is_end (cut stops false (trimmed l.text)).1 ≡ false) × (provided (nothing (cut stops false (trimmed l.text)).1 && all_quiet ls) (Some (folded (length empties) ++ without_end (cut stops false (trimmed l.text)).0)) ≡ Some value)) → Continues n (empties ++ (l ∷ ls)) value
      at_end (inl g) =
          let more = bind_some (goes_on n 0 ls) _ value g.1 in
          subst (λ v. Continues n (empties ++ (l ∷ ls)) v) (same_Some _ _ more.2)
          (Next empties l ls (without_end (cut stops false (trimmed l.text)).0) more.0 h q (ltb-true _ _ lt) (subst (λ r. Part stops (trimmed l.text) (without_end (cut stops false (trimmed l.text)).0) r) (end_is _ g.0) (part_sound stops (trimmed l.text))) (ih more.0 more.1))
      at_end (inr g) = at_comment g.0 g.1

pub goes_on_sound : (n : ℕ) (empties ls : List Line) (value : List ℕ) → Each is_empty empties → goes_on n (length empties) ls ≡ Some value → Continues n (empties ++ ls) value
goes_on_sound n empties [] value h e =
    subst (λ v. Continues n (empties ++ []) v) (same_Some _ _ e) (Done (empties ++ []) (quiet_append empties [] (all_empty_quiet empties h) tt))
goes_on_sound n empties (l ∷ ls) value h e = at_empty (λ (es : List Line) (v : List ℕ) (g : Each is_empty es) (f : goes_on n (length es) ls ≡ Some v). goes_on_sound n es ls v g f) (chosen _ _ _ _ e)
  where
    at_indent : ((es : List Line) (v : List ℕ) → Each is_empty es → goes_on n (length es) ls ≡ Some v → Continues n (es ++ ls) v) → quiet l.text ≡ false →
        ((nat_lt n l.indent ≡ true) × (at_loud n (length empties) l ls ≡ Some value)) ⊎ ((nat_lt n l.indent ≡ false) × (None ≡ Some value)) → Continues n (empties ++ (l ∷ ls)) value
    at_indent ih q (inl g) = loud_sound n empties l ls value h q g.0 (λ more f. ih [] more tt f) g.1
    at_indent ih q (inr g) = absurd (cc)

    at_comment : provided (all_quiet ls) (Some []) ≡ Some value → quiet l.text ≡ true → Continues n (empties ++ (l ∷ ls)) value
    at_comment g q =
        let p = provided_some (all_quiet ls) (Some []) value g in
        subst (λ v. Continues n (empties ++ (l ∷ ls)) v) (same_Some _ _ p.1) (Done _ (quiet_append empties (l ∷ ls) (all_empty_quiet empties h) (q, quiet_sound ls p.0)))

    at_line : ((es : List Line) (v : List ℕ) → Each is_empty es → goes_on n (length es) ls ≡ Some v → Continues n (es ++ ls) v) →
        ((quiet l.text ≡ true) × (provided (all_quiet ls) (Some []) ≡ Some value)) ⊎ ((quiet l.text ≡ false) × (cond (nat_lt n l.indent) (at_loud n (length empties) l ls) None ≡ Some value)) → Continues n (empties ++ (l ∷ ls)) value
    at_line ih (inl g) = at_comment g.1 g.0
    at_line ih (inr g) = at_indent ih g.0 (chosen _ _ _ _ g.1)

    at_empty : ((es : List Line) (v : List ℕ) → Each is_empty es → goes_on n (length es) ls ≡ Some v → Continues n (es ++ ls) v) →
        ((is_empty l ≡ true) × (goes_on n (suc (length empties)) ls ≡ Some value)) ⊎ ((is_empty l ≡ false) × (cond (quiet l.text) (provided (all_quiet ls) (Some [])) (cond (nat_lt n l.indent) (at_loud n (length empties) l ls) None) ≡ Some value)) → Continues n (empties ++ (l ∷ ls)) value
    at_empty ih (inl g) =
        subst (λ xs. Continues n xs value) (append_assoc empties (l ∷ []) ls)
        (ih (empties ++ l ∷ []) value (each_push empties l h g.0) (ap (λ k. goes_on n k ls) (length_push empties l) ∙ g.1))
    at_empty ih (inr g) = at_line ih (chosen _ _ _ _ g.1)

done_again : (n : ℕ) (ls : List Line) (k : ℕ) → Quiet ls → goes_on n k ls ≡ Some []
done_again n [] k q = refl
done_again n (l ∷ ls) k q = at_empty (λ (j : ℕ). done_again n ls j q.1) (is_empty l) refl
  where
    at_empty : ((j : ℕ) → goes_on n j ls ≡ Some []) → (v : Bool) → is_empty l ≡ v → goes_on n k (l ∷ ls) ≡ Some []
    at_empty ih true e = cond-true (is_empty l) _ _ e ∙ ih (suc k)
    at_empty ih false e = cond-false (is_empty l) _ _ e ∙ cond-true (quiet l.text) _ _ q.0 ∙ passed (all_quiet ls) [] (quiet_complete ls q.1)

skip : (n k : ℕ) (es tail : List Line) → Each is_empty es → goes_on n k (es ++ tail) ≡ goes_on n (k + length es) tail
skip n k [] tail h = ap (λ j. goes_on n j tail) (sym (add-zero k))
skip n k (e ∷ es) tail h = cond-true (is_empty e) _ _ h.0 ∙ skip n (suc k) es tail h.1 ∙ ap (λ j. goes_on n j tail) (let same : suc k + length es ≡ k + suc (length es) = omega arith in same)

loud_line : (l : Line) → quiet l.text ≡ false → is_empty l ≡ false
loud_line l q = false_from_ne_true (is_empty l) (λ e. true≢false (sym (empty_quiet l e) ∙ q))

to_loud : (n : ℕ) (es : List Line) (l : Line) (ls : List Line) → Each is_empty es → quiet l.text ≡ false → n < l.indent → goes_on n 0 (es ++ (l ∷ ls)) ≡ at_loud n (length es) l ls
to_loud n es l ls h q lt =
    skip n 0 es (l ∷ ls) h ∙ ap (λ j. goes_on n j (l ∷ ls)) (let same : 0 + length es ≡ length es = omega arith in same)
    ∙ cond-false (is_empty l) _ _ (loud_line l q) ∙ cond-false (quiet l.text) _ _ q ∙ cond-true (nat_lt n l.indent) _ _ (lt-ltb _ _ lt)

pub goes_on_complete : (n : ℕ) (ls : List Line) (value : List ℕ) → Continues n ls value → goes_on n 0 ls ≡ Some value
goes_on_complete n _ _ (Done ls q) = done_again n ls 0 q
goes_on_complete n _ _ (Next empties l ls value more h q lt p c) =
    let w = part_complete stops (trimmed l.text) value [] p in
    to_loud n empties l ls h q lt ∙ cond-true (is_end (cut stops false (trimmed l.text)).1) _ _ (ap is_end w.1)
    ∙ ap (λ (o : Option (List ℕ)). o >>= λ xs. Some (folded (length empties) ++ (without_end (cut stops false (trimmed l.text)).0 ++ xs))) (goes_on_complete n ls more c)
    ∙ ap (λ v. Some (folded (length empties) ++ (v ++ more))) w.0
goes_on_complete n _ _ (Last empties l ls value comment h q lt p c) =
    let w = part_complete stops (trimmed l.text) value (35 ∷ comment) p in
    to_loud n empties l ls h q lt ∙ cond-false (is_end (cut stops false (trimmed l.text)).1) _ _ (ap is_end w.1)
    ∙ passed (nothing (cut stops false (trimmed l.text)).1 && all_quiet ls) _ (and_from _ _ (ap nothing w.1) (quiet_complete ls c)) ∙ ap (λ v. Some (folded (length empties) ++ v)) w.0
