-- The scale of runs that seek: tolls are paid where events are told, each loop's body is done k times and its test once
-- more, and calls are gone into as deep as the bound says.
use Rattle.std.specs.Prelude.{ℕ, suc, ◌+◌, ◌*◌, ◌≤◌, List, length}
use Rattle.c_core.specs.Tree.{Program}
use Rattle.way_match.specs.Points.{BoundSegment}
use Rattle.seek_weight.specs.Tolls.{AStatement, ATest, ACall, points_of, placed_weight, passage}
use Rattle.seek_weight.specs.SeekWeight as weight
use Rattle.seek_weight.specs.SeekWeight.{count_in, weights}
use Rattle.sym_scale.specs.Scale.{Scale}
use Rattle.sym_scale.specs.Cost.{function, nodes, bits}

-- of the toll of a statement this much is kept for the turn of a loop whose body it may be
abbrev pub kept : ℕ
kept = 64

-- ss: the segments of the witness; k: the bound
abbrev pub sought : Program → List BoundSegment → ℕ → Scale
sought p ss k = record {
  statement = λ at. 64 + 64 * length (points_of ss) + placed_weight p AStatement at (points_of ss);
  test = λ at. passage ss + placed_weight p ATest at (points_of ss);
  enters = λ close. 64 + 32 * length (points_of ss);
  returns = λ close. 64 + 32 * length (points_of ss) + placed_weight p ACall close (points_of ss);
  body = passage ss;
  risk = 64;
  head = λ at changed. 0;
  drawn = λ changed. 0;
  turn = kept;
  turns = λ test rest. suc k * test + k * rest;
  deep = λ weight. 0;
}

-- by it a function's body, with calls at most n deep, costs no more than it weighs, and draws as many bits at most
pub record CostsAtMost (p : Program) (ss : List BoundSegment) (k n f : ℕ) : Type 0 where
  pub nodes : function p (nodes p (sought p ss k) n) f ≤ count_in p (weights p ss) k n f
  pub bits : function p (bits p (sought p ss k) n) f ≤ count_in p weight.bits k n f
