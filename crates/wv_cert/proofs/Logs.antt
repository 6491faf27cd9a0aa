-- Logs, and the whole text.
use Rattle.std.proofs.Common.{◌≡◌, ◌<◌, ◌≤◌, ◌^◌, ◌+◌, ◌==◌, ℕ, List, [], ◌∷◌, ◌++◌, true, false, zero, suc, length, drop, get_or, codes, decimal, append_assoc, arith, refl, sym, ap, ◌∙◌}
use Rattle.std.specs.List.{All, flat_map}
use Rattle.std.proofs.lemmas.List.{append_cancel_left, append-nil, drop_all, drop_more, nil_from_length}
use Rattle.std.proofs.lemmas.Bool.{eqb-true}
use Rattle.std.proofs.lemmas.List.Elements.{All-head, All-tail}
use Rattle.clauses.specs.declared.log.Chain.{Chain}
use Rattle.clauses.specs.declared.log.Refutation.{Refutation}
use Rattle.wv_cert.specs.Reading.{EndsNumber, HasChains, HasLogs, OneList, between}
use Rattle.wv_cert.specs.Text.{IsChain, IsLog, IsCertificate, certificate_text, chain_line, log_line, log_text, log_texts}
use Rattle.wv_cert.proofs.Digits.{never, one_number}
use Rattle.wv_cert.proofs.Items.{one_list_of_lines}
use Rattle.wv_cert.proofs.Chains.{one_chain}

-- ---- a number between two words

pub between_shape : (first last : List ℕ) (n : ℕ) (rest : List ℕ) → between first last n ++ rest ≡ first ++ (decimal n ++ (last ++ rest))
between_shape first last n rest = append_assoc (first ++ decimal n) last rest ∙ append_assoc first (decimal n) (last ++ rest)

-- after the first word
pub between_second : (before mid rest first last : List ℕ) (n : ℕ) → before ≡ first ++ mid → before ≡ between first last n ++ rest → mid ≡ decimal n ++ (last ++ rest)
between_second before mid rest first last n passed is =
    append_cancel_left first mid (decimal n ++ (last ++ rest)) (sym passed ∙ is ∙ between_shape first last n rest)

-- after the number
pub between_third : (before mid after rest first last : List ℕ) (m n : ℕ) → ((x : List ℕ) → EndsNumber (last ++ x)) → before ≡ first ++ mid → m < 2 ^ 64
    → mid ≡ decimal m ++ after → EndsNumber after → n < 2 ^ 64 → before ≡ between first last n ++ rest → (m ≡ n) × (after ≡ last ++ rest)
between_third before mid after rest first last m n parted passed small is ends few spelled =
    one_number m n after (last ++ rest) small few ends (parted rest) (sym is ∙ between_second before mid rest first last n passed spelled)

pub between_read : (before mid after rest first last : List ℕ) (n : ℕ) → before ≡ first ++ mid → mid ≡ decimal n ++ after → after ≡ last ++ rest
    → before ≡ between first last n ++ rest
between_read before mid after rest first last n passed is ended =
    passed ∙ ap (λ t. first ++ t) (is ∙ ap (λ t. decimal n ++ t) ended) ∙ sym (between_shape first last n rest)

pub one_between : (first last : List ℕ) (m n : ℕ) (x y : List ℕ) → ((x : List ℕ) → EndsNumber (last ++ x)) → m < 2 ^ 64 → n < 2 ^ 64
    → between first last m ++ x ≡ between first last n ++ y → (m ≡ n) × (x ≡ y)
one_between first last m n x y parted small few is =
    let third = between_third (between first last m ++ x) (decimal m ++ (last ++ x)) (last ++ x) y first last m n parted (between_shape first last m x) small refl (parted x) few is in
    (third.0, append_cancel_left last x y third.1)

-- ---- the first line of a log

abbrev pub to_chains : ℕ → List ℕ
to_chains obligation = between (codes "obligation ") (codes " chains ") obligation

pub line_shape : (obligation chains : ℕ) (rest : List ℕ) → log_line obligation chains ++ rest ≡ to_chains obligation ++ (between [] (codes "\n") chains ++ rest)
line_shape obligation chains rest =
    ap (λ t. t ++ rest) (append_assoc (to_chains obligation) (decimal chains) (codes "\n")) ∙ append_assoc (to_chains obligation) (between [] (codes "\n") chains) rest

pub no_line : (before : List ℕ) (obligation : ℕ) → obligation < 2 ^ 64 → ((n : ℕ) (rest : List ℕ) → n < 2 ^ 64 → before ≡ to_chains n ++ rest → ⊥)
    → (chains : ℕ) (rest : List ℕ) → chains < 2 ^ 64 → before ≡ log_line obligation chains ++ rest → ⊥
no_line before obligation small none chains rest few is = none obligation (between [] (codes "\n") chains ++ rest) small (is ∙ line_shape obligation chains rest)

-- after the number of the obligation
pub line_second : (before mid rest : List ℕ) (number obligation chains : ℕ) → number < 2 ^ 64 → before ≡ to_chains number ++ mid → obligation < 2 ^ 64
    → before ≡ log_line obligation chains ++ rest → (number ≡ obligation) × (mid ≡ between [] (codes "\n") chains ++ rest)
line_second before mid rest number obligation chains small is few spelled =
    one_between (codes "obligation ") (codes " chains ") number obligation mid (between [] (codes "\n") chains ++ rest) (λ x. refl) small few
    (sym is ∙ spelled ∙ line_shape obligation chains rest)

pub line_read : (before mid rest : List ℕ) (number obligation chains : ℕ) → before ≡ to_chains number ++ mid → number ≡ obligation
    → mid ≡ between [] (codes "\n") chains ++ rest → before ≡ log_line obligation chains ++ rest
line_read before mid rest number obligation chains is same ended =
    is ∙ ap (λ n. to_chains n ++ mid) same ∙ ap (λ t. to_chains obligation ++ t) ended ∙ sym (line_shape obligation chains rest)

one_line : (obligation m n : ℕ) (x y : List ℕ) → obligation < 2 ^ 64 → m < 2 ^ 64 → n < 2 ^ 64 → log_line obligation m ++ x ≡ log_line obligation n ++ y → (m ≡ n) × (x ≡ y)
one_line obligation m n x y small few less is =
    let second = line_second (log_line obligation m ++ x) (between [] (codes "\n") m ++ x) y obligation obligation n small (line_shape obligation m x) small is in
    one_between [] (codes "\n") m n x y (λ x. refl) few less second.1

-- ---- logs

log_shape : (obligation : ℕ) (log : Refutation) (rest : List ℕ) → log_text obligation log ++ rest ≡ log_line obligation (length log.chains) ++ (flat_map chain_line log.chains ++ rest)
log_shape obligation log rest = append_assoc (log_line obligation (length log.chains)) (flat_map chain_line log.chains) rest

pub no_log : (before : List ℕ) (obligation : ℕ) → ((n : ℕ) (rest : List ℕ) → n < 2 ^ 64 → before ≡ log_line obligation n ++ rest → ⊥)
    → (log : Refutation) (rest : List ℕ) → IsLog log → before ≡ log_text obligation log ++ rest → ⊥
no_log before obligation none log rest fine is =
    none (length log.chains) (flat_map chain_line log.chains ++ rest) fine.many (is ∙ log_shape obligation log rest)

pub no_chains : (before mid : List ℕ) (obligation count : ℕ) → obligation < 2 ^ 64 → count < 2 ^ 64 → before ≡ log_line obligation count ++ mid
    → ((chains : List Chain) (rest : List ℕ) → HasChains count chains → mid ≡ flat_map chain_line chains ++ rest → ⊥)
    → (log : Refutation) (rest : List ℕ) → IsLog log → before ≡ log_text obligation log ++ rest → ⊥
no_chains before mid obligation count small few is none log rest fine spelled =
    let same = one_line obligation count (length log.chains) mid (flat_map chain_line log.chains ++ rest) small few fine.many (sym is ∙ spelled ∙ log_shape obligation log rest) in
    none log.chains rest (record { many = sym same.0; fine = fine.chains }) same.1

pub log_read : (before mid rest : List ℕ) (obligation count : ℕ) (log : Refutation) → count < 2 ^ 64 → before ≡ log_line obligation count ++ mid
    → HasChains count log.chains → mid ≡ flat_map chain_line log.chains ++ rest → IsLog log × (before ≡ log_text obligation log ++ rest)
log_read before mid rest obligation count log few is has ended = (
  record { many = omega (arith, has.many); chains = has.fine },
  is ∙ ap (λ n. log_line obligation n ++ mid) (sym has.many) ∙ ap (λ t. log_line obligation (length log.chains) ++ t) ended ∙ sym (log_shape obligation log rest),
)

same_log : (a b : Refutation) → a.chains ≡ b.chains → a ≡ b
same_log a b e = ap (λ (cs : List Chain). record { chains = cs }) e

one_log : (obligation : ℕ) (a b : Refutation) (x y : List ℕ) → obligation < 2 ^ 64 → IsLog a → IsLog b → log_text obligation a ++ x ≡ log_text obligation b ++ y → (a ≡ b) × (x ≡ y)
one_log obligation a b x y small fine good is =
    let same = one_line obligation (length a.chains) (length b.chains) (flat_map chain_line a.chains ++ x) (flat_map chain_line b.chains ++ y) small fine.many good.many
    (sym (log_shape obligation a x) ∙ is ∙ log_shape obligation b y) in
    let chains = one_list_of_lines IsChain chain_line one_chain a.chains b.chains x y fine.chains good.chains same.0 same.1 in
    (same_log a b chains.0, chains.1)

-- ---- logs in a row

-- one more log
pub logs_more : (first at : ℕ) (done : List Refutation) (log : Refutation) → at ≡ first + length done
    → log_texts first (done ++ log ∷ []) ≡ log_texts first done ++ log_text at log
logs_more first at [] log e =
    let same : at ≡ first = omega arith in append-nil (log_text first log) ∙ ap (λ n. log_text n log) (sym same)
logs_more first at (d ∷ done) log e =
    ap (λ t. log_text first d ++ t) (logs_more (first + 1) at done log (omega arith)) ∙ sym (append_assoc (log_text first d) (log_texts (first + 1) done) (log_text at log))

pub logs_read : (before now after : List ℕ) (first at : ℕ) (done : List Refutation) (log : Refutation) → at ≡ first + length done → log_texts first done ++ now ≡ before
    → now ≡ log_text at log ++ after → log_texts first (done ++ log ∷ []) ++ after ≡ before
logs_read before now after first at done log e is more =
    ap (λ t. t ++ after) (logs_more first at done log e) ∙ append_assoc (log_texts first done) (log_text at log) after
    ∙ ap (λ t. log_texts first done ++ t) (sym more) ∙ is

-- where what is left doesn't begin with a log that is wanted, the text isn't that of such logs
pub logs_stuck : (first at : ℕ) (done these : List Refutation) (now rest : List ℕ) → first + length these ≤ 2 ^ 64 → at ≡ first + length done → All IsLog done → All IsLog these
    → length done < length these → log_texts first done ++ now ≡ log_texts first these ++ rest
    → ((log : Refutation) (rest : List ℕ) → IsLog log → now ≡ log_text at log ++ rest → ⊥) → ⊥
logs_stuck first at [] [] now rest small e fine good few is none = omega arith
logs_stuck first at [] (log ∷ these) now rest small e fine good few is none =
    let same : first ≡ at = omega arith in
    none log (log_texts (first + 1) these ++ rest) (All-head IsLog log these good)
    (is ∙ append_assoc (log_text first log) (log_texts (first + 1) these) rest ∙ ap (λ n. log_text n log ++ (log_texts (first + 1) these ++ rest)) same)
logs_stuck first at (d ∷ done) [] now rest small e fine good few is none = omega arith
logs_stuck first at (d ∷ done) (log ∷ these) now rest small e fine good few is none =
    let regrouped : log_text first d ++ (log_texts (first + 1) done ++ now) ≡ log_text first log ++ (log_texts (first + 1) these ++ rest)
    = sym (append_assoc (log_text first d) (log_texts (first + 1) done) now) ∙ is ∙ append_assoc (log_text first log) (log_texts (first + 1) these) rest in
    let same = one_log first d log _ _ (omega arith) (All-head IsLog d done fine) (All-head IsLog log these good) regrouped in
    logs_stuck (first + 1) at done these now rest (omega arith) (omega arith) (All-tail IsLog d done fine) (All-tail IsLog log these good) (omega arith) same.1 none

one_row : (first : ℕ) (these those : List Refutation) (x y : List ℕ) → first + length these ≤ 2 ^ 64 → All IsLog these → All IsLog those → length these ≡ length those
    → log_texts first these ++ x ≡ log_texts first those ++ y → (these ≡ those) × (x ≡ y)
one_row first [] [] x y small fine good many is = (refl, is)
one_row first [] (b ∷ those) x y small fine good many is = absurd (omega arith)
one_row first (a ∷ these) [] x y small fine good many is = absurd (omega arith)
one_row first (a ∷ these) (b ∷ those) x y small fine good many is =
    let regrouped : log_text first a ++ (log_texts (first + 1) these ++ x) ≡ log_text first b ++ (log_texts (first + 1) those ++ y)
    = sym (append_assoc (log_text first a) (log_texts (first + 1) these) x) ∙ is ∙ append_assoc (log_text first b) (log_texts (first + 1) those) y in
    let same = one_log first a b _ _ (omega arith) (All-head IsLog a these fine) (All-head IsLog b those good) regrouped in
    let further = one_row (first + 1) these those x y (omega arith) (All-tail IsLog a these fine) (All-tail IsLog b those good) (omega arith) same.1 in
    (ap (λ c. c ∷ these) same.0 ∙ ap (λ list. b ∷ list) further.0, further.1)

-- ---- the whole text

abbrev pub top : ℕ → List ℕ
top count = between (codes "witval certificate 1\nobligations ") (codes "\n") count

pub whole : (bytes : List ℕ) (logs : List Refutation) → IsCertificate logs bytes → bytes ≡ top (length logs) ++ log_texts 1 logs
unfolding certificate_text
whole bytes logs is = is.text

pub no_top : (bytes : List ℕ) → ((n : ℕ) (rest : List ℕ) → n < 2 ^ 64 → bytes ≡ top n ++ rest → ⊥) → (logs : List Refutation) → IsCertificate logs bytes → ⊥
no_top bytes none logs is = none (length logs) (log_texts 1 logs) is.many (whole bytes logs is)

-- what stands after the heading
after_top : (bytes mid : List ℕ) (count : ℕ) (logs : List Refutation) → count < 2 ^ 64 → bytes ≡ top count ++ mid → IsCertificate logs bytes
    → (count ≡ length logs) × (mid ≡ log_texts 1 logs)
after_top bytes mid count logs small is cert =
    one_between (codes "witval certificate 1\nobligations ") (codes "\n") count (length logs) mid (log_texts 1 logs) (λ x. refl) small cert.many (sym is ∙ whole bytes logs cert)

pub no_logs : (bytes mid : List ℕ) (count : ℕ) → count < 2 ^ 64 → bytes ≡ top count ++ mid
    → ((logs : List Refutation) (rest : List ℕ) → HasLogs count logs → mid ≡ log_texts 1 logs ++ rest → ⊥) → (logs : List Refutation) → IsCertificate logs bytes → ⊥
no_logs bytes mid count small is none logs cert =
    let after = after_top bytes mid count logs small is cert in
    none logs [] (record { many = sym after.0; fine = cert.fine }) (after.1 ∙ sym (append-nil (log_texts 1 logs)))

-- the same number of logs: nothing follows
pub no_more : (bytes mid rest : List ℕ) (count : ℕ) (logs : List Refutation) → count < 2 ^ 64 → bytes ≡ top count ++ mid → HasLogs count logs
    → mid ≡ log_texts 1 logs ++ rest → (length rest ≡ 0 → ⊥) → (others : List Refutation) → IsCertificate others bytes → ⊥
no_more bytes mid rest count logs small is has ended some others cert =
    let after = after_top bytes mid count others small is cert in
    let same = one_row 1 logs others rest [] (omega (arith, has.many)) has.fine cert.fine (has.many ∙ after.0)
    (sym ended ∙ after.1 ∙ sym (append-nil (log_texts 1 others))) in
    some (ap length same.1)

pub read : (bytes mid rest : List ℕ) (count : ℕ) (logs : List Refutation) → count < 2 ^ 64 → bytes ≡ top count ++ mid → HasLogs count logs
    → mid ≡ log_texts 1 logs ++ rest → length rest ≡ 0 → IsCertificate logs bytes
unfolding certificate_text
read bytes mid rest count logs small is has ended none =
    let nothing : rest ≡ [] = nil_from_length rest none in
    record {
      many = omega (arith, has.many);
      fine = has.fine;
      text = is ∙ ap (λ n. top n ++ mid) (sym has.many)
          ∙ ap (λ t. top (length logs) ++ t) (ended ∙ ap (λ t. log_texts 1 logs ++ t) nothing ∙ append-nil (log_texts 1 logs));
    }

pub one_text : OneList
one_text bytes these those cert other =
    let after = after_top bytes (log_texts 1 these) (length these) those cert.many (whole bytes these cert) other in
    (one_row 1 these those [] [] (omega (arith, cert.many)) cert.fine other.fine after.0
    (append-nil (log_texts 1 these) ∙ after.1 ∙ sym (append-nil (log_texts 1 those)))).0

-- ---- the end of a text

pub not_at_end : (n : ℕ) → (n == 0) ≡ false → n ≡ 0 → ⊥
not_at_end zero h e = never (sym h)
not_at_end (suc n) h e = omega arith

pub at_end : (n : ℕ) → (n == 0) ≡ true → n ≡ 0
at_end n h = eqb-true n 0 h

-- ---- logs written one after the other

pub logs_written : (items logs : List Refutation) (i : ℕ) (log : Refutation) (out before more : List ℕ) → items ≡ logs → i < length items → log ≡ get_or items i log
    → out ++ log_texts (i + 1) (drop i logs) ≡ before → more ≡ out ++ log_text (i + 1) log → more ++ log_texts (i + 1 + 1) (drop (i + 1) logs) ≡ before
logs_written items logs i log out before more same inside is so_far written =
    let here : drop i logs ≡ log ∷ drop (i + 1) logs =
    drop_more logs i log (omega (arith, inside, ap length same)) ∙ ap (λ l. l ∷ drop (i + 1) logs) (sym (is ∙ ap (λ list. get_or list i log) same)) in
    ap (λ t. t ++ log_texts (i + 1 + 1) (drop (i + 1) logs)) written ∙ append_assoc out (log_text (i + 1) log) (log_texts (i + 1 + 1) (drop (i + 1) logs))
    ∙ ap (λ list. out ++ log_texts (i + 1) list) (sym here) ∙ so_far

pub logs_all_written : (logs : List Refutation) (i k : ℕ) (out all : List ℕ) → length logs ≤ i → out ++ log_texts k (drop i logs) ≡ all → out ≡ all
logs_all_written logs i k out all past so_far =
    sym (append-nil out) ∙ ap (λ list. out ++ log_texts k list) (sym (drop_all i logs past)) ∙ so_far

pub log_begun : (out now : List ℕ) (items : List Chain) (obligation n : ℕ) (log : Refutation) → now ≡ out ++ log_line obligation n → n ≡ length log.chains
    → items ≡ log.chains → now ++ flat_map chain_line items ≡ out ++ log_text obligation log
log_begun out now items obligation n log written count same =
    ap (λ t. t ++ flat_map chain_line items) written ∙ append_assoc out (log_line obligation n) (flat_map chain_line items)
    ∙ ap (λ k. out ++ (log_line obligation k ++ flat_map chain_line items)) count
    ∙ ap (λ list. out ++ (log_line obligation (length log.chains) ++ flat_map chain_line list)) same
