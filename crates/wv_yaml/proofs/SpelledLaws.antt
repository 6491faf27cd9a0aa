-- Whole texts: the functions give what the relations say, and nothing else.
use Rattle.std.proofs.Common.{◌≡◌, ◌≢◌, ℕ, zero, suc, List, [], ◌∷◌, ◌++◌, Bool, true, false, refl, sym, ap, ◌∙◌, subst, cond, inl, inr, ◌⊎◌, append_assoc, append-nil, Some, None, Result, Ok, Err, ◌==◌, ◌&&◌, ◌||◌, not, true≢false}
use Rattle.std.proofs.lemmas.Bool.{cond-true, cond-false, eqb-true, false_from_ne_true, and_parts, and_from, or_parts}
use Rattle.std.proofs.lemmas.Str.{chars-encodes, encodes-chars, scalars-chars, IsUtf8-from_is_utf8, is_utf8-from_IsUtf8}
use Rattle.std.specs.Str.{chars}
use Rattle.yaml_lines.specs.Line.{Line, line_at}
use Rattle.wv_yaml.specs.declared.tree.Tree.{Tree}
use Rattle.yaml_scalars.specs.declared.fault.YamlFault.{YamlFault}
use Rattle.yaml_scalars.specs.declared.fault.YamlFault.TheVariants.{Bytes, Grammar, Duplicate, OutOfMemory}
use Rattle.wv_yaml.specs.Reading.{IsReading, IsAnswer}
use Rattle.yaml_lines.specs.Chunks.{Each, NoneOf, provided}
use Rattle.yaml_lines.specs.Marks.{begins_with, trimmed, quiet, is_end, indented, Quiet, ahead}
use Rattle.yaml_lines.specs.Lines.{may_stand, allowed, unmarked, without_return, spaces, unspaced, ended_line, lines_from, lines_in, is_break, NoSpace, IsBreak, LineFeed, ReturnLineFeed, Missing, LineAt, AreLines, joined}
use Rattle.yaml_scalars.specs.BlockScalar.{while, past}
use Rattle.wv_yaml.specs.Inline.{key_bytes, inline, begins_flow, KeyText, Inline}
use Rattle.wv_yaml.specs.Document.{max_depth, is_start, is_plain_line, is_alone, opened, is_closing, top, framed, document, is_allowed, tree_of, Characters, Opened, Marked, Unmarked, Closed, Open, Stopped, Top, TopFlow, TopBlock, Document, Spelled}
use Rattle.yaml_lines.proofs.Parts.{chosen, provided_some}
use Rattle.std.proofs.lemmas.Option.{same_Some}
use Rattle.yaml_lines.proofs.ChunkLaws.{Ahead, ahead_cases, ahead_loud}
use Rattle.wv_yaml.proofs.BlockLaws.{block_sound, block_complete}
use Rattle.yaml_scalars.proofs.PlainLaws.{quiet_sound, quiet_complete}
use Rattle.yaml_scalars.proofs.ScalarLaws.{while_parts, while_back}
use Rattle.wv_yaml.proofs.InlineLaws.{key_text_sound, key_text_complete, flow_text_sound, flow_text_complete, inline_sound, inline_complete}
use Rattle.yaml_lines.proofs.Returns.{return_off}

-- the spaces of a line
spaced : (cs : List ℕ) → (cs ≡ indented (spaces cs) (unspaced cs)) × NoSpace (unspaced cs)
spaced [] = (refl, tt)
spaced (c ∷ cs) = at (spaced cs) (c == 32) refl
  where
    at : (cs ≡ indented (spaces cs) (unspaced cs)) × NoSpace (unspaced cs) → (b : Bool) → (c == 32) ≡ b → (c ∷ cs ≡ indented (spaces (c ∷ cs)) (unspaced (c ∷ cs))) × NoSpace (unspaced (c ∷ cs))
    at h true e =
        let n : suc (spaces cs) ≡ spaces (c ∷ cs) = sym (cond-true (c == 32) _ _ e) in
        let u : unspaced cs ≡ unspaced (c ∷ cs) = sym (cond-true (c == 32) _ _ e) in
        (ap (λ x. x ∷ cs) (eqb-true c 32 e) ∙ ap (λ xs. 32 ∷ xs) h.0 ∙ ap (λ k. indented k (unspaced cs)) n ∙ ap (indented (spaces (c ∷ cs))) u, subst NoSpace u h.1)
    at h false e =
        let n : 0 ≡ spaces (c ∷ cs) = sym (cond-false (c == 32) _ _ e) in
        let u : c ∷ cs ≡ unspaced (c ∷ cs) = sym (cond-false (c == 32) _ _ e) in
        (ap (indented 0) u ∙ ap (λ k. indented k (unspaced (c ∷ cs))) n, subst NoSpace u e)

line_again : (n : ℕ) (text : List ℕ) (ended : Bool) → NoSpace text → ended_line (indented n text) ended ≡ line_at n text ended
line_again zero [] ended h = refl
line_again zero (c ∷ cs) ended h = rw h refl
line_again (suc n) text ended h = ap (λ (l : Line). line_at (suc l.indent) l.text ended) (line_again n text ended h)

none_unspaced : (p : ℕ → Bool) (cs : List ℕ) → NoneOf p cs → NoneOf p (unspaced cs)
none_unspaced p [] h = tt
none_unspaced p (c ∷ cs) h = at (none_unspaced p cs h.1) (c == 32) refl
  where
    at : NoneOf p (unspaced cs) → (b : Bool) → (c == 32) ≡ b → NoneOf p (unspaced (c ∷ cs))
    at g true e = subst (NoneOf p) (sym (cond-true (c == 32) _ _ e)) g
    at g false e = subst (NoneOf p) (sym (cond-false (c == 32) _ _ e)) h

none_indented : (n : ℕ) (text : List ℕ) → NoneOf is_break text → NoneOf is_break (indented n text)
none_indented zero text h = h
none_indented (suc n) text h = (refl, none_indented n text h)

abbrev is_feed_char : ℕ → Bool
is_feed_char c = c == 10

or_false : (a b : Bool) → a ≡ false → b ≡ false → (a || b) ≡ false
or_false a b e f = rw (e, f) refl

-- a CR stands before an LF only
no_lone : (c : ℕ) (cs : List ℕ) → may_stand c cs ≡ true → begins_with 10 cs ≡ false → (c == 13) ≡ false
no_lone c cs m b = false_from_ne_true (c == 13) (λ e. at (subst (λ x. may_stand x cs ≡ true) (eqb-true c 13 e) m))
  where
    at : may_stand 13 cs ≡ true → ⊥
    at g = let h : may_stand 13 cs ≡ false = rw b refl in true≢false (sym g ∙ h)

-- the text before a line feed: its CR, if it has one, is part of the break
pub record Stripped (front : List ℕ) : Type 0 where
  pub none : NoneOf is_break (without_return front)
  pub cases : (front ≡ without_return front) ⊎ (front ≡ without_return front ++ 13 ∷ [])

stripped : (front rest : List ℕ) → NoneOf is_feed_char front → allowed (front ++ 10 ∷ rest) ≡ true → Stripped front
stripped [] rest h a = record { none = tt; cases = inl refl }
stripped (c ∷ []) rest h a = at (c == 13) refl
  where
    at : (b : Bool) → (c == 13) ≡ b → Stripped (c ∷ [])
    at true e =
        let same : [] ≡ without_return (c ∷ []) = sym (cond-true (c == 13) _ _ e) in
        record { none = subst (NoneOf is_break) same tt; cases = inr (ap (λ x. x ∷ []) (eqb-true c 13 e) ∙ ap (λ xs. xs ++ 13 ∷ []) same) }
    at false e =
        let same : c ∷ [] ≡ without_return (c ∷ []) = sym (cond-false (c == 13) _ _ e) in
        record { none = subst (NoneOf is_break) same (or_false _ _ h.0 e, tt); cases = inl same }
stripped (c ∷ d ∷ ds) rest h a =
    let both = and_parts _ _ a in
    let s = stripped (d ∷ ds) rest h.1 both.1 in
    let no13 = no_lone c (d ∷ (ds ++ 10 ∷ rest)) both.0 h.1.0 in
    record {
      none = (or_false _ _ h.0 no13, s.none);
      cases = elim s.cases [ inl e ↦ inl (ap (λ xs. c ∷ xs) e) | inr e ↦ inr (ap (λ xs. c ∷ xs) e) ];
    }

-- a last line without a break holds no CR
no_returns : (front : List ℕ) → NoneOf is_feed_char front → allowed front ≡ true → NoneOf is_break front
no_returns [] h a = tt
no_returns (c ∷ []) h a = let both = and_parts _ _ a in (or_false _ _ h.0 (no_lone c [] both.0 refl), tt)
no_returns (c ∷ d ∷ ds) h a =
    let both = and_parts _ _ a in
    (or_false _ _ h.0 (no_lone c (d ∷ ds) both.0 h.1.0), no_returns (d ∷ ds) h.1 both.1)

allowed_behind : (front rest : List ℕ) → allowed (front ++ rest) ≡ true → allowed rest ≡ true
allowed_behind [] rest a = a
allowed_behind (c ∷ front) rest a = allowed_behind front rest (and_parts _ _ a).1

none_pushed : (front : List ℕ) (c : ℕ) → NoneOf is_feed_char front → is_feed_char c ≡ false → NoneOf is_feed_char (front ++ c ∷ [])
none_pushed [] c h e = (e, tt)
none_pushed (x ∷ front) c h e = (h.0, none_pushed front c h.1 e)

pub not_nil : (front : List ℕ) (c : ℕ) (rest : List ℕ) → (front ++ c ∷ rest) ≢ []
not_nil [] c rest e = absurd (cc)
not_nil (x ∷ front) c rest e = absurd (cc)

ended_sound : (front rest : List ℕ) → Stripped front → LineAt (front ++ 10 ∷ rest) (ended_line (without_return front) true) rest
ended_sound front rest s =
    let sp = spaced (without_return front) in
    let n : ℕ = spaces (without_return front) in
    let u : List ℕ = unspaced (without_return front) in
    elim s.cases [
      | inl e ↦ record {
        after = 10 ∷ rest;
        whole = ap (λ xs. xs ++ 10 ∷ rest) (e ∙ sp.0);
        one_line = none_unspaced is_break (without_return front) s.none;
        no_more = sp.1;
        ends = LineFeed rest;
        some = not_nil front 10 rest;
      }
      | inr e ↦ record {
        after = 13 ∷ 10 ∷ rest;
        whole = ap (λ xs. xs ++ 10 ∷ rest) e ∙ append_assoc (without_return front) (13 ∷ []) (10 ∷ rest) ∙ ap (λ xs. xs ++ 13 ∷ 10 ∷ rest) sp.0;
        one_line = none_unspaced is_break (without_return front) s.none;
        no_more = sp.1;
        ends = ReturnLineFeed rest;
        some = not_nil front 10 rest;
      }
    ]

last_sound : (front : List ℕ) → NoneOf is_break front → AreLines front (cond (is_end front) [] (ended_line front false ∷ []))
last_sound [] h = refl
last_sound (c ∷ cs) h =
    let sp = spaced (c ∷ cs) in
    ([], (record { after = []; whole = sp.0 ∙ sym (append-nil (indented (spaces (c ∷ cs)) (unspaced (c ∷ cs)))); one_line = none_unspaced is_break (c ∷ cs) h; no_more = sp.1; ends = Missing; some = λ e. absurd (cc) }), refl)

lines_sound : (front cs : List ℕ) → NoneOf is_feed_char front → allowed (front ++ cs) ≡ true → AreLines (front ++ cs) (lines_from front cs)
lines_sound front [] h a =
    subst (λ xs. AreLines xs (cond (is_end front) [] (ended_line front false ∷ []))) (sym (append-nil front)) (last_sound front (no_returns front h (ap allowed (sym (append-nil front)) ∙ a)))
lines_sound front (c ∷ cs) h a = at (λ (f : List ℕ) (g : NoneOf is_feed_char f) (b : allowed (f ++ cs) ≡ true). lines_sound f cs g b) (c == 10) refl
  where
    at : ((f : List ℕ) → NoneOf is_feed_char f → allowed (f ++ cs) ≡ true → AreLines (f ++ cs) (lines_from f cs)) → (b : Bool) → (c == 10) ≡ b → AreLines (front ++ c ∷ cs) (lines_from front (c ∷ cs))
    at ih true e =
        let c_is = eqb-true c 10 e in
        let a10 : allowed (front ++ 10 ∷ cs) ≡ true = subst (λ x. allowed (front ++ x ∷ cs) ≡ true) c_is a in
        let one : AreLines (front ++ 10 ∷ cs) (ended_line (without_return front) true ∷ lines_from [] cs) =
        (cs, ended_sound front cs (stripped front cs h a10), ih [] tt (allowed_behind front (10 ∷ cs) a10)) in
        subst (AreLines (front ++ c ∷ cs)) (sym (cond-true (c == 10) _ _ e)) (subst (λ x. AreLines (front ++ x ∷ cs) (ended_line (without_return front) true ∷ lines_from [] cs)) (sym c_is) one)
    at ih false e =
        subst (AreLines (front ++ c ∷ cs)) (sym (cond-false (c == 10) _ _ e))
        (subst (λ xs. AreLines xs (lines_from (front ++ c ∷ []) cs)) (append_assoc front (c ∷ []) cs) (ih (front ++ c ∷ []) (none_pushed front c h e) (ap allowed (append_assoc front (c ∷ []) cs) ∙ a)))

lines_run : (front text rest : List ℕ) → NoneOf is_break text → lines_from front (text ++ rest) ≡ lines_from (front ++ text) rest
lines_run front [] rest h = ap (λ f. lines_from f rest) (sym (append-nil front))
lines_run front (c ∷ cs) rest h =
    cond-false (c == 10) _ _ (or_parts _ _ h.0).0 ∙ lines_run (front ++ c ∷ []) cs rest h.1 ∙ ap (λ f. lines_from f rest) (append_assoc front (c ∷ []) cs)

no_return : (text : List ℕ) → NoneOf is_break text → without_return text ≡ text
no_return [] h = refl
no_return (c ∷ []) h = cond-false (c == 13) _ _ (or_parts _ _ h.0).1
no_return (c ∷ d ∷ ds) h = ap (λ xs. c ∷ xs) (no_return (d ∷ ds) h.1)

none_after : (xs : List Line) → AreLines [] xs → xs ≡ []
none_after [] h = refl
none_after (x ∷ xs) h = absurd (h.1.some refl)

last_line : (xs : List ℕ) → xs ≢ [] → lines_from xs [] ≡ ended_line xs false ∷ []
last_line [] n = absurd (n refl)
last_line (x ∷ xs) n = refl

-- a line and what follows it
line_first : (n : ℕ) (words after rest : List ℕ) (ended : Bool) (ls : List Line) → NoneOf is_break words → NoSpace words → IsBreak ended after rest → (indented n words ++ after) ≢ [] → AreLines rest ls →
    lines_in rest ≡ ls → lines_from (indented n words) after ≡ line_at n words ended ∷ ls
line_first n words _ rest _ ls o s (LineFeed _) x more ih =
    ap (λ t. ended_line t true ∷ lines_from [] rest) (no_return (indented n words) (none_indented n words o)) ∙ ap (λ l. l ∷ lines_from [] rest) (line_again n words true s) ∙ ap (λ ls1. line_at n words true ∷ ls1) ih
line_first n words _ rest _ ls o s (ReturnLineFeed _) x more ih =
    ap (λ t. ended_line t true ∷ lines_from [] rest) (return_off (indented n words)) ∙ ap (λ l. l ∷ lines_from [] rest) (line_again n words true s) ∙ ap (λ ls1. line_at n words true ∷ ls1) ih
line_first n words _ _ _ ls o s Missing x more ih =
    last_line (indented n words) (λ e. x (append-nil (indented n words) ∙ e)) ∙ ap (λ l. l ∷ []) (line_again n words false s) ∙ ap (λ ls1. line_at n words false ∷ ls1) (sym (none_after ls more))

lines_complete : (cs : List ℕ) (ls : List Line) → AreLines cs ls → lines_in cs ≡ ls
lines_complete cs [] h = ap lines_in h
lines_complete cs (l ∷ ls) h =
    let at = h.1 in
    ap lines_in at.whole ∙ lines_run [] (indented l.indent l.text) at.after (none_indented l.indent l.text at.one_line)
    ∙ line_first l.indent l.text at.after h.0 l.ended ls at.one_line at.no_more at.ends (λ e. at.some (at.whole ∙ e)) h.2 (lines_complete h.0 ls h.2)

-- characters
characters_sound : (bytes : List ℕ) → is_allowed bytes ≡ true → Characters bytes (unmarked (chars bytes))
characters_sound bytes e =
    let both = and_parts _ _ e in
    let u = IsUtf8-from_is_utf8 bytes both.0 in
    record { all = chars bytes; scalars = scalars-chars bytes u; encoded = encodes-chars bytes u; behind_mark = refl; may_stand = both.1 }

characters_complete : (bytes cs : List ℕ) → Characters bytes cs → (is_allowed bytes ≡ true) × (unmarked (chars bytes) ≡ cs)
characters_complete bytes cs h =
    let same : chars bytes ≡ h.all = ap chars (sym h.encoded) ∙ chars-encodes h.all h.scalars in
    let cs_is : unmarked (chars bytes) ≡ cs = ap unmarked same ∙ sym h.behind_mark in
    (and_from _ _ (is_utf8-from_IsUtf8 bytes (h.all, (h.scalars, h.encoded))) (ap allowed cs_is ∙ h.may_stand), cs_is)

-- documents
ahead_skip : (before ls : List Line) → Quiet before → ahead (before ++ ls) ≡ ahead ls
ahead_skip [] ls h = refl
ahead_skip (l ∷ before) ls h = cond-true (quiet l.text) _ _ h.0 ∙ ahead_skip before ls h.1

opened_sound : (l : Line) (ls : List Line) → Opened (l ∷ ls) (opened (l ∷ ls))
opened_sound l ls = at (is_start l && is_alone l) refl
  where
    at : (b : Bool) → (is_start l && is_alone l) ≡ b → Opened (l ∷ ls) (cond b ls (l ∷ ls))
    at true e = let both = and_parts _ _ e in Marked l ls both.0 both.1
    at false e = Unmarked l ls e

opened_complete : (ls inside : List Line) → Opened ls inside → opened ls ≡ inside
opened_complete _ _ (Marked l ls s a) = cond-true (is_start l && is_alone l) _ _ (and_from _ _ s a)
opened_complete _ _ (Unmarked l ls e) = cond-false (is_start l && is_alone l) _ _ e

closed_sound : (ls : List Line) → is_closing ls ≡ true → Closed ls
closed_sound [] e = Open
closed_sound (l ∷ ls) e =
    let both = and_parts _ _ e in
    let more = and_parts _ _ both.1 in
    Stopped l ls both.0 more.0 (quiet_sound ls more.1)

closed_complete : (ls : List Line) → Closed ls → (is_closing ls ≡ true) × (while is_plain_line ls ≡ [])
closed_complete _ Open = (refl, refl)
closed_complete _ (Stopped l ls s a q) =
    (and_from _ _ s (and_from _ _ a (quiet_complete ls q)), cond-false (is_plain_line l) _ _ (ap (λ b. not (is_start l || b)) s ∙ at (is_start l)))
  where
    at : (b : Bool) → not (b || true) ≡ false
    at true = refl
    at false = refl

top_sound : (ls : List Line) (t : Tree) → top ls ≡ Some t → Top ls t
top_sound [] t e = absurd (cc)
top_sound (l ∷ ls) t e =
    elim (chosen (begins_flow (trimmed l.text)) _ _ (Some t) e) [
      | inl h ↦ TopFlow l ls t h.0 (flow_text_sound max_depth (joined 0 (trimmed l.text) ls) t h.1)
      | inr h ↦ TopBlock l ls t h.0 (block_sound inline key_bytes KeyText Inline key_text_sound key_text_complete inline_sound max_depth (l ∷ ls) t h.1)
    ]

top_complete : (ls : List Line) (t : Tree) → Top ls t → top ls ≡ Some t
top_complete _ _ (TopFlow l ls t b f) = cond-true (begins_flow (trimmed l.text)) _ _ b ∙ flow_text_complete max_depth (joined 0 (trimmed l.text) ls) t f
top_complete _ _ (TopBlock l ls t b h) =
    cond-false (begins_flow (trimmed l.text)) _ _ b ∙ block_complete inline key_bytes KeyText Inline key_text_sound key_text_complete inline_complete max_depth (l ∷ ls) t h

pub record Framed (inside : List Line) (t : Tree) : Type 0 where
  pub more_before : List Line
  pub node : List Line
  pub tail : List Line
  pub parts : inside ≡ (more_before ++ node) ++ tail
  pub quiet_before : Quiet more_before
  pub no_marks : Each is_plain_line (more_before ++ node)
  pub closed : Closed tail
  pub top : Top node t
  pub begins : ahead node ≡ node

framed_sound : (inside : List Line) (t : Tree) → framed inside ≡ Some t → Framed inside t
framed_sound inside t e = at (ahead_cases (while is_plain_line inside))
  where
    given : (is_closing (past is_plain_line inside) ≡ true) × (top (ahead (while is_plain_line inside)) ≡ Some t)
    given = provided_some (is_closing (past is_plain_line inside)) (top (ahead (while is_plain_line inside))) t e

    at : (Quiet (while is_plain_line inside) × (ahead (while is_plain_line inside) ≡ [])) ⊎ Ahead (while is_plain_line inside) → Framed inside t
    at (inl h) = absurd (let none : None ≡ Some t = ap top (sym h.1) ∙ given.1 in cc)
    at (inr a) =
        let w = while_parts is_plain_line inside in
        record {
          more_before = a.before;
          node = a.first ∷ a.others;
          tail = past is_plain_line inside;
          parts = w.0 ∙ ap (λ xs. xs ++ past is_plain_line inside) a.whole;
          quiet_before = a.skipped;
          no_marks = subst (Each is_plain_line) a.whole w.1;
          closed = closed_sound (past is_plain_line inside) given.0;
          top = top_sound (a.first ∷ a.others) t (ap top (sym a.is) ∙ given.1);
          begins = cond-false (quiet a.first.text) _ _ a.loud;
        }

framed_complete : (inside : List Line) (t : Tree) → Framed inside t → framed inside ≡ Some t
framed_complete inside t f =
    let c = closed_complete f.tail f.closed in
    let w = while_back is_plain_line (f.more_before ++ f.node) f.tail f.no_marks c.1 in
    ap framed f.parts
    ∙ ap (λ xs. provided (is_closing xs) (top (ahead (while is_plain_line ((f.more_before ++ f.node) ++ f.tail))))) w.1
    ∙ ap (λ b. provided b (top (ahead (while is_plain_line ((f.more_before ++ f.node) ++ f.tail))))) c.0
    ∙ ap (λ xs. top (ahead xs)) w.0 ∙ ap top (ahead_skip f.more_before f.node f.quiet_before ∙ f.begins) ∙ top_complete f.node t f.top

no_lines : (t : Tree) → framed (opened []) ≡ Some t → ⊥
no_lines t e = absurd (cc)

document_sound : (ls : List Line) (t : Tree) → document ls ≡ Some t → Document ls t
unfolding document
document_sound ls t e = at (ahead_cases ls)
  where
    at : (Quiet ls × (ahead ls ≡ [])) ⊎ Ahead ls → Document ls t
    at (inl h) = absurd (no_lines t (ap (λ xs. framed (opened xs)) (sym h.1) ∙ e))
    at (inr a) =
        let f = framed_sound (opened (a.first ∷ a.others)) t (ap (λ xs. framed (opened xs)) (sym a.is) ∙ e) in
        record {
          before = a.before;
          first = a.first;
          others = a.others;
          whole = a.whole;
          skipped = a.skipped;
          loud = a.loud;
          inside = opened (a.first ∷ a.others);
          opened = opened_sound a.first a.others;
          more_before = f.more_before;
          node = f.node;
          tail = f.tail;
          parts = f.parts;
          quiet_before = f.quiet_before;
          no_marks = f.no_marks;
          closed = f.closed;
          top = f.top;
          begins = f.begins;
        }

document_complete : (ls : List Line) (t : Tree) → Document ls t → document ls ≡ Some t
unfolding document
document_complete ls t h =
    ap (λ xs. framed (opened (ahead xs))) h.whole ∙ ap (λ xs. framed (opened xs)) (ahead_loud h.before h.first h.others h.skipped h.loud)
    ∙ ap framed (opened_complete (h.first ∷ h.others) h.inside h.opened)
    ∙ framed_complete h.inside t (record {
      more_before = h.more_before;
      node = h.node;
      tail = h.tail;
      parts = h.parts;
      quiet_before = h.quiet_before;
      no_marks = h.no_marks;
      closed = h.closed;
      top = h.top;
      begins = h.begins;
    })

-- whole texts
pub spelled_sound : (bytes : List ℕ) (t : Tree) → is_allowed bytes ≡ true → tree_of bytes ≡ Some t → Spelled t bytes
unfolding tree_of
spelled_sound bytes t a e =
    let c = characters_sound bytes a in
    record {
      cs = unmarked (chars bytes);
      lines = lines_in (unmarked (chars bytes));
      characters = c;
      are_lines = lines_sound [] (unmarked (chars bytes)) tt c.may_stand;
      document = document_sound (lines_in (unmarked (chars bytes))) t e;
    }

pub spelled_complete : (bytes : List ℕ) (t : Tree) → Spelled t bytes → (is_allowed bytes ≡ true) × (tree_of bytes ≡ Some t)
unfolding tree_of
spelled_complete bytes t s =
    let c = characters_complete bytes s.cs s.characters in
    (c.0, ap (λ xs. document (lines_in xs)) c.1 ∙ ap document (lines_complete s.cs s.lines s.are_lines) ∙ document_complete s.lines t s.document)

pub answer_of : (bytes : List ℕ) (r : Result Tree YamlFault) → IsReading (is_allowed bytes) (tree_of bytes) r → IsAnswer bytes r
answer_of bytes (Ok t) h = (spelled_sound bytes t h.0 h.1, h.2)
answer_of bytes (Err Bytes) h = λ cs c. true≢false (sym (characters_complete bytes cs c).0 ∙ h)
answer_of bytes (Err Grammar) h =
    ((unmarked (chars bytes), characters_sound bytes h.0), λ t s. absurd (let both : None ≡ Some t = sym h.1 ∙ (spelled_complete bytes t s).1 in cc))
answer_of bytes (Err Duplicate) h = (h.1.0, spelled_sound bytes h.1.0 h.0 h.1.1, h.1.2)
answer_of bytes (Err OutOfMemory) h = tt

pub one_spelled : (bytes : List ℕ) (t u : Tree) → Spelled t bytes → Spelled u bytes → t ≡ u
one_spelled bytes t u s r = same_Some t u (sym (spelled_complete bytes t s).1 ∙ (spelled_complete bytes u r).1)
