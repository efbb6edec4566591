-- A plain step that is next, by its judgement: it stops (`plain-stops`) or goes on (`plain-on`), and what is asked of the sharding holds after it
-- (`ready-after`). Assumes nothing.
use Prim.Native.Nat.{ℕ, ◌+◌, max}
use mathlib.Core.Path.{◌≡◌, refl, sym, subst}
use mathlib.Core.List.{List}
use Rattle.rules.specs.Sharding.{Sharding, IsSharding}
use Rattle.rules.specs.Collectives.{Step}
use Rattle.rules.specs.Refusals.{accept, refuse}
use Rattle.rules.specs.PlanFile.{judge_step}
use Rattle.types.specs.Types.{sharding_of, mesh_of, sizes_of}
use Rattle.types.specs.declared.Mesh.{Mesh}
use Rattle.types.specs.declared.Sharding as code
use Rattle.types.specs.declared.Table.{Table}
use Rattle.laws.proofs.Steps.{facts, after-sharding}
use Rattle.judge.specs.Step.{Sharded}
use Rattle.blocks.specs.Blocks.{shard_words}
use Rattle.units.specs.Units as units

module _ (mesh sizes : List ℕ) (q : units.Standing) (t : Step) where
  pub plain-stops : {a b : ℕ} → judge_step mesh sizes q.number t q.sharding ≡ refuse a b → refuse a b ≡ units.after_plain mesh sizes q t
  unfolding units.after_plain
  plain-stops e = sym (rw e refl)

  pub plain-on : {s : Sharding} → judge_step mesh sizes q.number t q.sharding ≡ accept s
      → units.after_step mesh sizes (q.number + 1) (max q.largest (shard_words mesh sizes s)) s q.frames q.number q.behind (q.ran + 1)
      ≡ units.after_plain mesh sizes q t
  unfolding units.after_plain
  plain-on e = sym (rw e refl)

pub ready-after : {mesh : Mesh} {table : Table} {s r : code.Sharding} (k : ℕ) (t : Step) → Sharded mesh table s
    → judge_step (mesh_of mesh) (sizes_of table) k t (sharding_of table.rank s) ≡ accept (sharding_of table.rank r) → Sharded mesh table r
ready-after {mesh} {table} {s} {r} k t h e =
    let f = facts (mesh_of mesh) (sizes_of table) k t (sharding_of table.rank s) (sharding_of table.rank r) e in
    record {
      fits = h.fits;
      sound = subst (IsSharding (mesh_of mesh) (sizes_of table)) f.1
          (after-sharding (mesh_of mesh) (sizes_of table) h.fits.sized.least t (sharding_of table.rank s) h.sound f.0);
    }
