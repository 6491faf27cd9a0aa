-- The values of the maps of an entry's metadata.
use Rattle.std.specs.Prelude.{map, List, codes}
use Rattle.wv_yaml.specs.declared.tree.Pair.{Pair}
use Rattle.wv_schema.specs.declared.metadata.Producer.{Producer}
use Rattle.wv_schema.specs.declared.metadata.Task.{Task}
use Rattle.wv_schema.specs.Values.{text_at, list_at, map_at, text_or_empty, hash_in}

unfoldable pub producer_in : List Pair → Producer
producer_in ps = record { name = text_at (codes "name") ps; version = text_at (codes "version") ps }

unfoldable pub task_in : List Pair → Task
task_in ps = record {
  input_files = map text_or_empty (list_at (codes "input_files") ps);
  input_hashes = map hash_in (map_at (codes "input_file_hashes") ps);
  specification = text_at (codes "specification") ps;
  data_model = text_at (codes "data_model") ps;
  language = text_at (codes "language") ps;
}
