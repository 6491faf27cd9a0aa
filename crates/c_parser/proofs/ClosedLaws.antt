-- Each closed item that tokens spell is read from them.
use Rattle.std.proofs.Common.{◌≡◌, ℕ, zero, suc, ◌+◌, ◌≤◌, List, [], ◌∷◌, ◌++◌, length, true, false, refl, sym, ap, ◌∙◌, Option, Some, None, arith, ◌&&◌, append_assoc, append-nil}
use Rattle.std.proofs.lemmas.Bool.{cond-true, lt-ltb, or_parts, and_from, not_from_false}
use Rattle.c_core.specs.declared.number.Spot.{Spot}
use Rattle.c_tokens.specs.declared.token.Token.{Token}
use Rattle.c_tokens.specs.declared.token.Punct.{Punct}
use Rattle.c_tokens.specs.declared.token.Punct.TheVariants as sign
use Rattle.c_parser.specs.Tree.{Item}
use Rattle.c_parser.specs.Signs.{◌>>=◌, sign_of, is_sign, sign_token}
use Rattle.c_parser.specs.Brackets.{Bracket, Opening, Closing, bracket_of, bracket, Passed, NothingPassed, OnePassed, PairPassed, PassedWithin, stacked}
use Rattle.c_parser.specs.ReadExpressions.{Read}
use Rattle.c_parser.specs.Items.{outside, depth_behind, has_semicolon, Closed, AClosed}
use Rattle.c_parser.specs.ReadItems.{is_end, to_semicolon, is_closed, read_closed}
use Rattle.c_parser.proofs.BracketLaws.{closes_of, same_self, within_room}

-- tokens before what is read
abbrev put : List Token → Read (List Token) → Read (List Token)
put f o = o >>= λ r. Some (f ++ r.0, r.1)

put_nothing : (o : Read (List Token)) → o ≡ put [] o
put_nothing None = refl
put_nothing (Some r) = refl

put_one : (t : Token) (f : List Token) (o : Read (List Token)) → (put f o >>= λ r. Some (t ∷ r.0, r.1)) ≡ put (t ∷ f) o
put_one t f None = refl
put_one t f (Some r) = refl

put_both : (f g : List Token) (o : Read (List Token)) → put f (put g o) ≡ put (f ++ g) o
put_both f g None = refl
put_both f g (Some r) = ap (λ (x : List Token). Some (x, r.1)) (sym (append_assoc f g r.0))

pushed : (b : ℕ) (stack : List Punct) (t : Token) (s : List Punct) (ts : List Token) → (is_end stack && is_sign sign.Semicolon (t ∷ [])) ≡ false → stacked b stack (bracket t) ≡ Some s →
    to_semicolon b stack (t ∷ ts) ≡ (to_semicolon b s ts >>= λ r. Some (t ∷ r.0, r.1))
pushed b stack t s ts e f = rw (to_semicolon, e, f) refl

-- what is passed in brackets stands before what is read behind it, and isn't outside
record Taken (b : ℕ) (c : Punct) (stack : List Punct) (ts mid : List Token) : Type 0 where
  taken : List Token
  whole : ts ≡ taken ++ mid
  scanned : (us : List Token) → to_semicolon b (c ∷ stack) (taken ++ us) ≡ put taken (to_semicolon b (c ∷ stack) us)
  inside : (us : List Token) → outside (suc (length stack)) (taken ++ us) ≡ outside (suc (length stack)) us

module _ (b r : ℕ) (Inner : List Token → List Token → Type 0)
    (room : (ts rest : List Token) → Inner ts rest → 1 ≤ r)
    (nested : (ts rest : List Token) → Inner ts rest → (c : Punct) (stack : List Punct) → length stack + r ≤ b → Taken b c stack ts rest) where
  pair_taken : (stack : List Punct) (t : Token) (d : Punct) (us mid : List Token) (q : Spot) → (is_end stack && is_sign sign.Semicolon (t ∷ [])) ≡ false → bracket t ≡ Opening d → Inner us (sign_token d q ∷ mid) → length stack + r ≤ b →
      (n : Taken b d stack us (sign_token d q ∷ mid)) (vs : List Token) →
      to_semicolon b stack (t ∷ ((n.taken ++ sign_token d q ∷ []) ++ vs)) ≡ put (t ∷ (n.taken ++ sign_token d q ∷ [])) (to_semicolon b stack vs)
  pair_taken stack t d us mid q end e i le n vs =
      let some = room _ _ i in
      let closes = closes_of (sign_of t.kind) d e in
      let opens : stacked b stack (bracket t) ≡ Some (d ∷ stack) = rw e (cond-true _ _ _ (lt-ltb (length stack) b (omega arith))) in
      let shuts : stacked b (d ∷ stack) (bracket (sign_token d q)) ≡ Some stack = rw closes (cond-true _ _ _ (same_self d)) in
      ap (λ (x : List Token). to_semicolon b stack (t ∷ x)) (append_assoc n.taken (sign_token d q ∷ []) vs)
      ∙ pushed b stack t (d ∷ stack) (n.taken ++ sign_token d q ∷ vs) end opens
      ∙ ap (λ (o : Read (List Token)). o >>= λ x. Some (t ∷ x.0, x.1))
      (n.scanned (sign_token d q ∷ vs) ∙ ap (put n.taken) (pushed b (d ∷ stack) (sign_token d q) stack vs refl shuts) ∙ put_both n.taken (sign_token d q ∷ []) (to_semicolon b stack vs))
      ∙ put_one t (n.taken ++ sign_token d q ∷ []) (to_semicolon b stack vs)

  inside_pair : (k : ℕ) (d : Punct) (f : List Token) (q : Spot) (us : List Token) → bracket_of (Some d) ≡ Closing d → ((vs : List Token) → outside (suc (suc k)) (f ++ vs) ≡ outside (suc (suc k)) vs) →
      outside (suc (suc k)) ((f ++ sign_token d q ∷ []) ++ us) ≡ outside (suc k) us
  inside_pair k d f q us e h = ap (outside (suc (suc k))) (append_assoc f (sign_token d q ∷ []) us) ∙ h (sign_token d q ∷ us) ∙ rw e refl

  passed_taken : (ts rest : List Token) → Passed Inner ts rest → (c : Punct) (stack : List Punct) → suc (length stack) + r ≤ b → Taken b c stack ts rest
  passed_taken ts rest NothingPassed c stack le = record { taken = []; whole = refl; scanned = λ us. put_nothing (to_semicolon b (c ∷ stack) us); inside = λ us. refl }
  passed_taken ts rest (OnePassed {t = t} {ts = us} e p) c stack le =
      let n = passed_taken us rest p c stack le in
      let same : stacked b (c ∷ stack) (bracket t) ≡ Some (c ∷ stack) = rw e refl in
      record {
        taken = t ∷ n.taken;
        whole = ap (λ (x : List Token). t ∷ x) n.whole;
        scanned = λ vs. pushed b (c ∷ stack) t (c ∷ stack) (n.taken ++ vs) refl same ∙ ap (λ (o : Read (List Token)). o >>= λ x. Some (t ∷ x.0, x.1)) (n.scanned vs) ∙ put_one t n.taken (to_semicolon b (c ∷ stack) vs);
        inside = λ vs. ap (λ (x : Bracket). outside (depth_behind (suc (length stack)) x) (n.taken ++ vs)) e ∙ n.inside vs;
      }
  passed_taken ts rest (PairPassed {t = t} {ts = us} {mid = mid} {c = d} {q = q} e i p) c stack le =
      let m = nested us (sign_token d q ∷ mid) i d (c ∷ stack) (omega arith) in
      let n = passed_taken mid rest p c stack le in
      let f : List Token = m.taken ++ sign_token d q ∷ [] in
      record {
        taken = (t ∷ f) ++ n.taken;
        whole = ap (λ (x : List Token). t ∷ x) (m.whole ∙ sym (append_assoc m.taken (sign_token d q ∷ []) mid) ∙ ap (λ (x : List Token). f ++ x) n.whole ∙ sym (append_assoc f n.taken rest));
        scanned = λ vs. ap (λ (x : List Token). to_semicolon b (c ∷ stack) (t ∷ x)) (append_assoc f n.taken vs) ∙ pair_taken (c ∷ stack) t d us mid q refl e i (omega arith) m (n.taken ++ vs)
            ∙ ap (put (t ∷ f)) (n.scanned vs) ∙ put_both (t ∷ f) n.taken (to_semicolon b (c ∷ stack) vs);
        inside = λ vs. ap (λ (x : Bracket). outside (depth_behind (suc (length stack)) x) ((f ++ n.taken) ++ vs)) e
            ∙ ap (outside (suc (suc (length stack)))) (append_assoc f n.taken vs)
            ∙ inside_pair (length stack) d m.taken q (n.taken ++ vs) (closes_of (sign_of t.kind) d e) m.inside ∙ n.inside vs;
      }

within_taken : (b r : ℕ) (ts rest : List Token) → PassedWithin r ts rest → (c : Punct) (stack : List Punct) → length stack + r ≤ b → Taken b c stack ts rest
unfolding PassedWithin
within_taken b zero ts rest p c stack le = absurd p
within_taken b (suc r) ts rest p c stack le = passed_taken b r (PassedWithin r) (within_room r) (within_taken b r) ts rest p c stack (omega arith)

-- up to a semicolon outside brackets
front_scanned : (b : ℕ) (ts : List Token) → Passed (PassedWithin b) ts [] → has_semicolon (outside 0 ts) ≡ false → (us : List Token) → to_semicolon b [] (ts ++ us) ≡ put ts (to_semicolon b [] us)
front_scanned b ts NothingPassed h us = put_nothing (to_semicolon b [] us)
front_scanned b ts (OnePassed {t = t} {ts = vs} e p) h us =
    let f = or_parts _ _ h in
    let same : stacked b [] (bracket t) ≡ Some [] = rw e refl in
    let later : has_semicolon (outside 0 vs) ≡ false = ap (λ (x : Bracket). has_semicolon (outside (depth_behind 0 x) vs)) (sym e) ∙ f.1 in
    pushed b [] t [] (vs ++ us) f.0 same ∙ ap (λ (o : Read (List Token)). o >>= λ x. Some (t ∷ x.0, x.1)) (front_scanned b vs p later us) ∙ put_one t vs (to_semicolon b [] us)
front_scanned b ts (PairPassed {t = t} {ts = vs} {mid = mid} {c = d} {q = q} e i p) h us =
    let f = or_parts _ _ h in
    let n = within_taken b b vs (sign_token d q ∷ mid) i d [] (omega arith) in
    let front : List Token = n.taken ++ sign_token d q ∷ [] in
    let closes = closes_of (sign_of t.kind) d e in
    let whole : vs ≡ front ++ mid = n.whole ∙ sym (append_assoc n.taken (sign_token d q ∷ []) mid) in
    let closed : outside 1 (sign_token d q ∷ mid) ≡ outside 0 mid = ap (λ (x : Bracket). outside (depth_behind 1 x) mid) closes in
    let beyond : outside 1 vs ≡ outside 0 mid = ap (outside 1) n.whole ∙ n.inside (sign_token d q ∷ mid) ∙ closed in
    let opened : has_semicolon (outside 1 vs) ≡ false = ap (λ (x : Bracket). has_semicolon (outside (depth_behind 0 x) vs)) (sym e) ∙ f.1 in
    let later : has_semicolon (outside 0 mid) ≡ false = sym (ap has_semicolon beyond) ∙ opened in
    ap (λ (x : List Token). to_semicolon b [] (t ∷ (x ++ us))) whole ∙ ap (λ (x : List Token). to_semicolon b [] (t ∷ x)) (append_assoc front mid us)
    ∙ pair_taken b b (PassedWithin b) (within_room b) (within_taken b b) [] t d vs mid q f.0 e i (omega arith) n (mid ++ us)
    ∙ ap (put (t ∷ front)) (front_scanned b mid p later us) ∙ put_both (t ∷ front) mid (to_semicolon b [] us)
    ∙ ap (λ (x : List Token). put (t ∷ x) (to_semicolon b [] us)) (sym whole)

pub closed_read : (h b : ℕ) (ts : List Token) (x : Option Item) (rest : List Token) → Closed h b ts x rest → read_closed h b ts ≡ Some (x, rest)
closed_read h b ts x rest (AClosed {front = front} {name = name} last q p no_end no_typedef all called) =
    let found : to_semicolon b [] (front ++ sign_token sign.Semicolon q ∷ last) ≡ Some (front, last) =
    front_scanned b front p no_end (sign_token sign.Semicolon q ∷ last) ∙ ap (λ (f : List Token). Some (f, last)) (append-nil front) in
    let closed : is_closed front ≡ true = and_from _ _ (not_from_false _ no_typedef) all in
    rw (found, called, closed) refl
