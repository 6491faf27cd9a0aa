-- What is answered for values, by their run.
use Rattle.std.proofs.Common.{◌≡◌, refl, sym, ap, subst, ◌∙◌, ℕ, ℤ, true, false, List, [], ◌∷◌, ◌++◌, map, Option, Some, None, Ok, Err, append_assoc}
use Rattle.std.proofs.lemmas.List.{append-nil}
use Rattle.std.specs.List.{cons_option}
use Rattle.c_core.specs.Tree as t
use Rattle.c_core.specs.View.{program_view}
use Rattle.c_core.specs.declared.number.Spot.{Spot}
use Rattle.c_core.specs.declared.program.Program.{Program}
use Rattle.c_meaning.specs.Run.{Moment, Told, Here, Head}
use Rattle.c_meaning.specs.Watching.{seen_after}
use Rattle.c_meaning.specs.declared.run.End.{End}
use Rattle.c_meaning.specs.declared.run.End.TheVariants.{Ended, Undefined, Violated, Spent, Deep}
use Rattle.c_meaning.specs.declared.run.Run.{Run as Made}
use Rattle.author_runs.specs.Returning.{CameBack, back_by, returns_in, violated_among, violated_in}
use Rattle.wv_schema.specs.declared.witness.Segment.{Segment}
use Rattle.wv_author.specs.Authored.{Authors, IsAuthored, IsViolated, MomentsOf, RunOf, first_free, returning_of, target_of}
use Rattle.wv_author.specs.declared.authoring.AuthorFault.{AuthorFault}
use Rattle.wv_author.specs.declared.authoring.AuthorFault.TheVariants.{NotViolated, CellValue}
use Rattle.wv_author.specs.declared.recording.Returned.{Returned}
use Rattle.wv_author.specs.inside.Recording.{Recorded, after_event, fixed_by, is_violated, kept_if, kept_of, segment_of}

-- ---- what is kept of the moments of a run

-- of a list that is made one by one
kept_more : (b : Option CameBack) (bs : List CameBack) → kept_if b ++ map kept_of bs ≡ map kept_of (cons_option b bs)
kept_more None bs = refl
kept_more (Some b) bs = refl

abbrev recorded : Program → List Returned → Option Spot → Recorded
recorded program returned statement = record { program = program; returned = returned; statement = statement }

module _ (program : Program) where
  abbrev p : t.Program
  p = program_view program

  -- what is kept of moments, after what was kept before
  pub kept_after : (xs : List Moment) (before : List Returned) (statement : Option Spot)
      → seen_after after_event (recorded program before statement) xs ≡ recorded program (before ++ map kept_of (returns_in p xs)) (violated_among statement xs)
  kept_after [] before statement = ap (λ l. recorded program l statement) (sym (append-nil before))
  kept_after (Told e cells ∷ xs) before statement =
      kept_after xs (before ++ kept_if (back_by p e)) (violated_in e statement)
      ∙ ap (λ l. recorded program l (violated_among (violated_in e statement) xs))
      (append_assoc before (kept_if (back_by p e)) (map kept_of (returns_in p xs)) ∙ ap (λ l. before ++ l) (kept_more (back_by p e) (returns_in p xs)))
  kept_after (Here spot cells ∷ xs) before statement = kept_after xs before statement
  kept_after (Head at l arrived cells ∷ xs) before statement = kept_after xs before statement

segments_kept : (file : List ℕ) (bs : List CameBack) → map (segment_of file) (map kept_of bs) ≡ map (returning_of file) bs
segments_kept file [] = refl
segments_kept file (b ∷ bs) = ap (λ l. returning_of file b ∷ l) (segments_kept file bs)

-- ---- the answers

no_violation : (e : End) → is_violated e ≡ false → IsViolated e → ⊥
no_violation e none (spot, is) = let wrong : true ≡ false = sym (ap is_violated is) ∙ none in absurd (cc)

module _ (p : t.Program) (file : List ℕ) (vs : List ℤ) (N : ℕ) where
  ends_otherwise : (e : End) (fault : AuthorFault) → is_violated e ≡ false → e ≡ (RunOf p vs N).end → NotViolated e ≡ fault → Authors p file vs N (Err fault)
  ends_otherwise e fault none is why = subst (λ (f : AuthorFault). Authors p file vs N (Err f)) why (record { end = is; unviolated = no_violation e none })

  refused_by : (e : End) (free : Option Spot) (fault : AuthorFault) → e ≡ (RunOf p vs N).end → free ≡ first_free (RunOf p vs N).draws
      → fixed_by (is_violated e) e free ≡ Err fault → Authors p file vs N (Err fault)
  refused_by Ended free fault is first same = let why : NotViolated Ended ≡ fault = cc in ends_otherwise Ended fault refl is why
  refused_by (Undefined spot) free fault is first same = let why : NotViolated (Undefined spot) ≡ fault = cc in ends_otherwise (Undefined spot) fault refl is why
  refused_by Spent free fault is first same = let why : NotViolated Spent ≡ fault = cc in ends_otherwise Spent fault refl is why
  refused_by Deep free fault is first same = let why : NotViolated Deep ≡ fault = cc in ends_otherwise Deep fault refl is why
  refused_by (Violated spot) None fault is first same = absurd (cc)
  refused_by (Violated spot) (Some at) fault is first same =
      let why : CellValue at ≡ fault = cc in
      subst (λ (f : AuthorFault). Authors p file vs N (Err f)) why (record { violated = (spot, sym is); free = sym first })

  fixed_when : (e : End) (free : Option Spot) (done : Unit {0}) → e ≡ (RunOf p vs N).end → free ≡ first_free (RunOf p vs N).draws
      → fixed_by (is_violated e) e free ≡ Ok done → IsViolated (RunOf p vs N).end × (first_free (RunOf p vs N).draws ≡ None)
  fixed_when Ended free done is first same = absurd (cc)
  fixed_when (Undefined spot) free done is first same = absurd (cc)
  fixed_when Spent free done is first same = absurd (cc)
  fixed_when Deep free done is first same = absurd (cc)
  fixed_when (Violated spot) None done is first same = ((spot, sym is), sym first)
  fixed_when (Violated spot) (Some at) done is first same = absurd (cc)

  pub refused : (r : Made) (fault : AuthorFault) → r ≡ RunOf p vs N → fixed_by (is_violated r.end) r.end (first_free r.draws) ≡ Err fault → Authors p file vs N (Err fault)
  refused r fault is same = refused_by r.end (first_free r.draws) fault (ap (λ (x : Made). x.end) is) (ap (λ (x : Made). first_free x.draws) is) same

  pub authored : (program : Program) (r : Made) (done : Unit {0}) (kept : Recorded) (inputs segments : List Segment) → program_view program ≡ p → r ≡ RunOf p vs N
      → fixed_by (is_violated r.end) r.end (first_free r.draws) ≡ Ok done
      → kept ≡ seen_after after_event (recorded program [] None) (MomentsOf p vs N)
      → inputs ≡ map (segment_of file) kept.returned → segments ≡ inputs ++ target_of file kept.statement → IsAuthored p file vs N segments
  authored program r done kept inputs segments view is same seen parts whole =
      let fixed = fixed_when r.end (first_free r.draws) done (ap (λ (x : Made). x.end) is) (ap (λ (x : Made). first_free x.draws) is) same in
      let all = seen ∙ kept_after program (MomentsOf p vs N) [] None in
      let returned : inputs ≡ map (returning_of file) (returns_in p (MomentsOf p vs N)) =
      parts ∙ ap (λ (x : Recorded). map (segment_of file) x.returned) all
      ∙ ap (λ (q : t.Program). map (segment_of file) (map kept_of (returns_in q (MomentsOf p vs N)))) view
      ∙ segments_kept file (returns_in p (MomentsOf p vs N)) in
      record {
        violated = fixed.0;
        fixed = fixed.1;
        written = whole ∙ ap (λ l. l ++ target_of file kept.statement) returned
            ∙ ap (λ (x : Recorded). map (returning_of file) (returns_in p (MomentsOf p vs N)) ++ target_of file x.statement) all;
      }
