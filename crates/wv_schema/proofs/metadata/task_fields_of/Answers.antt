use Rattle.std.proofs.Common.{rules, ◌≡◌, ℕ, List, map, codes, refl}
use Rattle.wv_yaml.specs.declared.tree.Pair.{Pair}
use Rattle.wv_schema.specs.declared.witness.FileHash.{FileHash}
use Rattle.wv_schema.specs.declared.metadata.Task.{Task}
use Rattle.wv_schema.specs.Values.{text_at, list_at, map_at, text_or_empty, hash_in}
use Rattle.wv_schema.specs.Judging.{first_fault, row_fault}
use Rattle.wv_schema.specs.Table.{task_fields}
use Rattle.wv_schema.specs.Parts.{task_in}
use Rattle.wv_schema.proofs.Chains.{stops, later, both}
use Rattle.wv_schema.proofs.metadata.task_fields_of.Goals as goal

abbrev task_with : List (List ℕ) → List FileHash → List ℕ → List ℕ → List ℕ → Task
task_with f h s d l = record { input_files = f; input_hashes = h; specification = s; data_model = d; language = l }

task_is : (ps : List Pair) (f : List (List ℕ)) (h : List FileHash) (s d l : List ℕ) → f ≡ map text_or_empty (list_at (codes "input_files") ps) → h ≡ map hash_in (map_at (codes "input_file_hashes") ps) →
    s ≡ text_at (codes "specification") ps → d ≡ text_at (codes "data_model") ps → l ≡ text_at (codes "language") ps → task_with f h s d l ≡ task_in ps
unfolding task_in
task_is ps f h s d l e1 e2 e3 e4 e5 = rw (e1, e2, e3, e4, e5) refl

pub returns-in_err-input_files : goal.returns-in_err-input_files
unfolding first_fault task_fields
returns-in_err-input_files c = search (rules, later, stops)

pub returns-in_err-input_hashes : goal.returns-in_err-input_hashes
unfolding first_fault task_fields
returns-in_err-input_hashes c = search (rules, later, stops)

pub returns-in_err-specification : goal.returns-in_err-specification
unfolding first_fault task_fields row_fault task_in
returns-in_err-specification c = search (rules, later, stops)

pub returns-in_err-data_model : goal.returns-in_err-data_model
unfolding first_fault task_fields row_fault task_in
returns-in_err-data_model c = search (rules, later, stops)

pub returns-in_err-language : goal.returns-in_err-language
unfolding first_fault task_fields row_fault task_in
returns-in_err-language c = search (rules, later, stops)

pub returns : goal.returns
unfolding first_fault task_fields
returns c = (
  both _ _ c.in_ok-input_files.ensures.0 (both _ _ c.in_ok-input_hashes.ensures.0
      (both _ _ c.in_ok-specification.ensures.0 (both _ _ c.in_ok-data_model.ensures.0 (both _ _ c.in_ok-language.ensures.0 refl)))),
  task_is c.args.pairs.now _ _ _ _ _ c.in_ok-input_files.ensures.1 c.in_ok-input_hashes.ensures.1 c.in_ok-specification.ensures.1 c.in_ok-data_model.ensures.1 c.in_ok-language.ensures.1,
)
