-- The bytes of a unit that may be a step, tried by its reader: refused (`tried-stops`) or read (`tried-on`). Assumes nothing.
use Prim.Native.Nat.{ℕ, ◌-◌}
use mathlib.Core.Path.{◌≡◌, sym, ap, ap₂}
use mathlib.Core.List.{List, [], ◌∷◌}
use lib.ListN.{length, length-map}
use lib.Dec.{eqb}
use Rattle.rules.specs.Lists.{pick}
use Rattle.rules.specs.Limits.{most_depth}
use Rattle.rules.specs.Refusals.{Judged, accept, refuse}
use Rattle.rules.specs.PlanFile.{step_at}
use Rattle.types.specs.Types.{mesh_of, sizes_of}
use Rattle.types.specs.declared.Mesh.{Mesh}
use Rattle.types.specs.declared.Table.{Table}
use Rattle.units.specs.Units as units
use Rattle.pieces.specs.declared.Frames.{Frames}
use Rattle.pieces.specs.declared.Standing.{Standing}
use Rattle.pieces.specs.Held.{frame_of, open_of, frames_of, Goes}

module _ {A : Type 0} (j : Judged A) (more : units.Waiting) (then : A → Judged units.Phase) where
  pub tried-stops : {a b : ℕ} → j ≡ refuse a b → pick (eqb a 7) more (record { unit = []; phase = units.stopped a b }) ≡ units.tried j more then
  tried-stops e = sym (ap (λ (x : Judged A). units.tried x more then) e)

  pub tried-on : {v : A} → j ≡ accept v → units.turned (then v) ≡ units.tried j more then
  tried-on e = sym (ap (λ (x : Judged A). units.tried x more then) e)

-- a step is read by the lengths of mesh and table
pub read_by : {mesh : Mesh} {table : Table} {total : ℕ} {q : Standing} (k : ℕ) (unit : List ℕ) → Goes mesh table total q
    → step_at (length (mesh_of mesh)) (length (sizes_of table)) k unit 0 ≡ step_at mesh.n table.rank k unit 0
read_by k unit g = ap₂ (λ (n r : ℕ). step_at n r k unit 0) g.n_is g.rank_is

-- as many repeats may be opened as places are empty
pub deep-as : (rank : ℕ) (fs : Frames) → units.depth_in (frames_of rank fs) ≡ most_depth - length (open_of fs)
deep-as rank fs = ap (λ (n : ℕ). most_depth - n) (length-map (open_of fs) (frame_of rank))
