use Rattle.std.proofs.Common.{◌≡◌, ◌<◌, suc, [], length, Option, Some, None, slice_get, refl, sym, ap, arith, true≢false}
use Rattle.std.specs.Prelude.{IsTrue}
use Rattle.std.proofs.lemmas.Option.{slice_get_within}
use Rattle.c_core.specs.Program.{is_main}
use Rattle.c_core.specs.Tree.{Function, Program}
use Rattle.c_meaning.specs.Acts.{Flow}
use Rattle.c_meaning.specs.Exec.{run_main}
use Rattle.c_meaning.specs.Havoc.{Act, havoc}
use Rattle.c_meaning.specs.Run.{first_cells}
use Rattle.c_calls.proofs.DepthLaws.{chain_is_short, main_path, depth_is_free}
use Rattle.c_calls.proofs.laws.depth_is_bounded.Goals as goal

main_within : (p : Program) (o : Option Function) → slice_get p.functions p.main ≡ o → IsTrue (is_main o) → p.main < length p.functions
main_within p None at h = absurd (true≢false (sym h))
main_within p (Some f) at h = slice_get_within p.functions p.main f at

pub returns-clause-chains : goal.returns-clause-chains
returns-clause-chains c p main none gs h =
    let l = chain_is_short p none p.main _ gs (main_path p none (main_within p (slice_get p.functions p.main) refl main)) h in omega arith

pub returns-clause-never_met : goal.returns-clause-never_met
returns-clause-never_met c p none I n above deep = sym (depth_is_free p none (havoc p I) deep n n above above)

pub returns-clause-havoc_runs : goal.returns-clause-havoc_runs
returns-clause-havoc_runs c p none I n w above =
    let same : run_main p (havoc p I) n ≡ run_main p (havoc p I) (suc (length p.functions)) = depth_is_free p none (havoc p I) (havoc p I).deep n (suc (length p.functions)) above (omega arith) in
    ap (λ (run : Act p I Flow). run (record { cells = first_cells p; values = w; draws = [] })) same
